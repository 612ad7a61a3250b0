use Rattle.std.proofs.Common.{sym}
use Rattle.dt_access.proofs.Callers.{test_of_other}
use Rattle.dt_index.proofs.index.put_beside.Goals as goal

pub returns-clause-others : goal.returns-clause-others
returns-clause-others c other apart = c.in-Ok.ensures.updates.2 other (test_of_other c.args.id other (λ same. apart (sym same)))
