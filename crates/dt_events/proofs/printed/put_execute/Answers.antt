use Rattle.std.proofs.lemmas.Result.{on_ok_weaker}
use Rattle.dt_events.proofs.CommonLines.{execute_put}
use Rattle.dt_events.proofs.printed.put_execute.Goals as goal

pub returns-then-region-lt10-clause-added : goal.returns-then-region-lt10-clause-added
returns-then-region-lt10-clause-added c =
    on_ok_weaker c.put_id.result (execute_put c.args.out.now.items c.extend_from_slice.new.self.items c.put_id.new.out.items c.args.region c.args.id c.if-region-lt10.true c.in_ok-extend_from_slice.ensures.items) c.put_id.ensures.added
