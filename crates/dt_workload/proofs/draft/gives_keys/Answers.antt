use Rattle.std.proofs.Common.{Err, ap, refl}
use Rattle.dt_eval.proofs.Callers.{no_bad}
use Rattle.dt_workload.proofs.draft.gives_keys.Goals as goal

pub returns-in-Err-BadKey-clause-fault : goal.returns-in-Err-BadKey-clause-fault
returns-in-Err-BadKey-clause-fault c =
    let place = c.in-Err-BadKey.field-0-0 in
    (refl, λ keys. no_bad _ place keys (c.in-Err-BadKey.ensures.bad place (ap (λ e. Err e) c.in-Err-BadKey.field-0-is)))
