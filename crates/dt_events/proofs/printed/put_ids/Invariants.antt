use Rattle.std.proofs.Common.{◌≡◌, ◌++◌, drop}
use Rattle.dt_events.specs.ReadingInner.{Keeps}
use Rattle.dt_events.proofs.EventWords.{spaced_ids}
use Rattle.dt_events.proofs.printed.put_ids.Given as goal

abbrev pub invariant-loop-id : goal.invariant-loop-id
invariant-loop-id l =
    Keeps l.initial.out.items l.out.items × (l.out.items ++ spaced_ids (drop l.id-index l.ids) ≡ l.initial.out.items ++ spaced_ids l.ids)
