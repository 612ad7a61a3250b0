use Rattle.std.proofs.Common.{ap, Err}
use Rattle.dt_eval.proofs.Callers.{no_bad}
use Rattle.dt_txn.proofs.annotation.call_keys.Goals as goal

pub unreachable-requires : goal.unreachable-requires
unreachable-requires c = no_bad _ c.in-Err-BadKey.field-0-0 c.called.ensures.keys (c.in-Err-BadKey.ensures.bad c.in-Err-BadKey.field-0-0 (ap Err c.in-Err-BadKey.field-0-is))
