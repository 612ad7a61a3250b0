use Rattle.std.proofs.lemmas.Result.{on_ok_weaker}
use Rattle.dt_events.proofs.CommonLines.{append_put}
use Rattle.dt_events.proofs.printed.put_append.Goals as goal

pub returns-then-source-lt10-clause-added : goal.returns-then-source-lt10-clause-added
returns-then-source-lt10-clause-added c =
    on_ok_weaker c.put_number.result
    (append_put c.args.out.now.items c.extend_from_slice.new.self.items c.put_number.new.out.items c.args.home c.args.source c.args.number c.from.result
    c.if-home-lt10.true c.if-source-lt10.true c.in_ok-extend_from_slice.ensures.items c.from.ensures)
    c.put_number.ensures.added
