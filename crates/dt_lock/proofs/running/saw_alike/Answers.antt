use Rattle.std.proofs.Common.{rules, tests}
use Rattle.std.proofs.lemmas.Iterator.{YieldsList-from_slice, YieldsList-from_zip, same_from_all}
use Rattle.dt_lock.proofs.running.saw_alike.Goals as goal

pub returns-then-left-right : goal.returns-then-left-right
returns-then-left-right c =
    same_from_all {s = c.zip.result} c.all.new.self _ _ c.args.left.now c.args.right.now c.all.ensures.ran (YieldsList-from_zip (YieldsList-from_slice c.args.left.now cc) (YieldsList-from_slice c.args.right.now cc))
    c.if-left-right.true (λ x q k. search (rules, tests)) (λ x q k. search (rules, tests))
