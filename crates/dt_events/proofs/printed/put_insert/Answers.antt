use Rattle.dt_events.proofs.CommonLines.{insert_put}
use Rattle.dt_events.proofs.printed.put_insert.Goals as goal

pub returns-then-home-lt10-clause-added : goal.returns-then-home-lt10-clause-added
returns-then-home-lt10-clause-added c =
    insert_put c.args.out.now.items c.extend_from_slice.new.self.items c.args.region c.args.home c.if-region-lt10.true c.if-home-lt10.true c.in_ok-extend_from_slice.ensures.items
