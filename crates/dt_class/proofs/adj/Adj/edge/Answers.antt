use Rattle.std.proofs.Common.{◌<◌, length, ap, arith}
use Rattle.std.proofs.lemmas.List.{get_or_read}
use Rattle.dt_class.proofs.NewestLinks.{kept_more}
use Rattle.dt_class.proofs.adj.Adj.edge.Goals as goal

pub invariant_of-self-2 : goal.invariant_of-self-2
invariant_of-self-2 c =
    let s = c.self.inside in
    let source : c.args.source < length s.newest_from.items = omega (arith, c.requires.source_in, ap (λ g. g.vertices) c.self.view_is) in
    let target : c.args.target < length s.newest_from.items = omega (arith, c.requires.target_in, ap (λ g. g.vertices) c.self.view_is) in
    let target_into : c.args.target < length s.newest_into.items = omega (arith, target, c.self.invariant.both_ways) in
    rw
    (c.in_ok-push.ensures.items, c.len-place.ensures, s.links.ok.0)
    (kept_more s.links.items s.newest_from.items s.newest_into.items _ c.self.invariant source target
    (get_or_read s.newest_from.items c.args.source _ source c.index.ensures _)
    (get_or_read s.newest_into.items c.args.target _ target_into c.index-2.ensures _))
