use Rattle.std.proofs.Common.{List, ap, sym, ◌∙◌, length, Some, None}
use Rattle.std.specs.Prelude.{option_map, slice_get}
use Rattle.dt_table.specs.Table.{Moved}
use Rattle.dt_table.specs.StoredMovesInner.{history}
use Rattle.dt_table.specs.declared.stored.StoredMove.{StoredMove}
use Rattle.dt_table.proofs.StoredUnits.{unit_found, FitsMoves-found, counter_of-found, moves_of-absent, moves_of-found}
use Rattle.dt_table.proofs.table.Table.row.Goals as goal

pub next_mover_of-requires-clause-last : goal.next_mover_of-requires-clause-last
next_mover_of-requires-clause-last c =
    let fits = FitsMoves-found c.self.inside c.self.invariant c.unit_bytes.result.now c.in-Some.stored.now (sym c.in-Some.ensures) in
    rw c.deref.ensures.value fits.last

pub next_mover_of-requires-clause-counter : goal.next_mover_of-requires-clause-counter
next_mover_of-requires-clause-counter c =
    let fits = FitsMoves-found c.self.inside c.self.invariant c.unit_bytes.result.now c.in-Some.stored.now (sym c.in-Some.ensures) in
    rw c.deref.ensures.value fits.counter

pub returns-in-Some-clause-counter : goal.returns-in-Some-clause-counter
returns-in-Some-clause-counter c =
    let found = unit_found c.self.inside c.args.key.now c.unit_bytes.result.now (Some c.in-Some.stored.now) c.unit_bytes.ensures.same c.in-Some.ensures in
    rw (← c.self.view_is) (counter_of-found c.self.inside c.self.invariant c.args.key.now c.in-Some.stored.now found)

pub returns-in-Some-clause-mover : goal.returns-in-Some-clause-mover
returns-in-Some-clause-mover c =
    let mover_at = λ (moves : List Moved). option_map (λ (m : Moved). m.by) (slice_get moves c.args.had) in
    let found = unit_found c.self.inside c.args.key.now c.unit_bytes.result.now (Some c.in-Some.stored.now) c.unit_bytes.ensures.same c.in-Some.ensures in
    let answer = c.next_mover_of.ensures ∙ ap (λ (moves : List StoredMove). mover_at (history moves c.in-Some.stored.now.last)) c.deref.ensures.value in
    rw (← c.self.view_is) (answer ∙ ap mover_at (sym (moves_of-found c.self.inside c.args.key.now c.in-Some.stored.now found)))

pub returns-in-None-clause-counter : goal.returns-in-None-clause-counter
returns-in-None-clause-counter c =
    let absent = unit_found c.self.inside c.args.key.now c.unit_bytes.result.now None c.unit_bytes.ensures.same c.in-None.ensures in
    rw (← c.self.view_is) (ap length (sym (moves_of-absent c.self.inside c.args.key.now absent)))

pub returns-in-None-clause-mover : goal.returns-in-None-clause-mover
returns-in-None-clause-mover c =
    let mover_at = λ (moves : List Moved). option_map (λ (m : Moved). m.by) (slice_get moves c.args.had) in
    let absent = unit_found c.self.inside c.args.key.now c.unit_bytes.result.now None c.unit_bytes.ensures.same c.in-None.ensures in
    rw (← c.self.view_is) (ap mover_at (sym (moves_of-absent c.self.inside c.args.key.now absent)))
