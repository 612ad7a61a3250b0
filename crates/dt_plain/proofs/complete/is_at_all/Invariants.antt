use Rattle.std.proofs.Common.{◌↔◌, drop}
use Rattle.dt_lists.specs.Lists.{AllIn}
use Rattle.dt_sched.specs.Views.{HasPart, log_at}
use Rattle.dt_plain.proofs.complete.is_at_all.Given as goal

abbrev pub invariant-loop-home : goal.invariant-loop-home
invariant-loop-home l =
    AllIn (λ home. HasPart (log_at l.logs home) l.id) (drop l.home-index l.homes) ↔ AllIn (λ home. HasPart (log_at l.logs home) l.id) l.homes
