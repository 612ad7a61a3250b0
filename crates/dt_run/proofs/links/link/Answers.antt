use Rattle.dt_run.proofs.NewLinks.{link_added, made_fresh}
use Rattle.dt_run.proofs.links.link.Goals as goal

pub returns : goal.returns
returns g c =
    let r = c.in_ok-out.ensures in
    link_added c.args.seats.now c.requires.source c.requires.target (made_fresh r.ends r.empty r.places) c.index-seats-source.result c.add_outlet.new.self c.index-seats-target.result
    c.add_inlet.new.self c.in_ok-add_outlet.ensures c.in_ok-add_inlet.ensures
