use Rattle.std.proofs.Common.{List, [], ap, sym, ◌∙◌, Some, None}
use Rattle.dt_table.specs.StoredMovesInner.{table_view, history, mover_in}
use Rattle.dt_table.specs.declared.stored.StoredMove.{StoredMove}
use Rattle.dt_table.proofs.StoredUnits.{unit_found, FitsMoves-found, moves_of-found, moves_of-absent, mover_in-none, next_mover-mover_in, IsSome-mover, counter_of-few}
use Rattle.dt_table.proofs.table.Table.mover.Goals as goal

pub returns-in_err-stored-clause-mover : goal.returns-in_err-stored-clause-mover
returns-in_err-stored-clause-mover c =
    let a = c.self.inside in
    let absent = unit_found a c.args.key.now c.unit_bytes.result.now None c.unit_bytes.ensures.same c.in_err-stored.ensures in
    rw (← c.self.view_is) (next_mover-mover_in (table_view a).state c.args.key.now [] c.args.number c.from_residual.result
    (moves_of-absent a c.args.key.now absent) (c.from_residual.ensures ∙ sym (mover_in-none c.args.number)))

pub returns-in_err-stored-clause-some : goal.returns-in_err-stored-clause-some
returns-in_err-stored-clause-some c =
    let a = c.self.inside in
    let absent = unit_found a c.args.key.now c.unit_bytes.result.now None c.unit_bytes.ensures.same c.in_err-stored.ensures in
    rw (← c.self.view_is) (IsSome-mover (table_view a).state c.args.key.now [] c.args.number c.from_residual.result
    (moves_of-absent a c.args.key.now absent) (c.from_residual.ensures ∙ sym (mover_in-none c.args.number)))

pub mover_of-requires-clause-last : goal.mover_of-requires-clause-last
mover_of-requires-clause-last c =
    let fits = FitsMoves-found c.self.inside c.self.invariant c.unit_bytes.result.now c.in_ok-stored.stored.now (sym c.in_ok-stored.ensures) in
    rw c.deref.ensures.value fits.last

pub mover_of-requires-clause-counter : goal.mover_of-requires-clause-counter
mover_of-requires-clause-counter c =
    let fits = FitsMoves-found c.self.inside c.self.invariant c.unit_bytes.result.now c.in_ok-stored.stored.now (sym c.in_ok-stored.ensures) in
    rw c.deref.ensures.value fits.counter

pub returns-clause-mover : goal.returns-clause-mover
returns-clause-mover c =
    let a = c.self.inside in
    let stored = c.in_ok-stored.stored.now in
    let found = unit_found a c.args.key.now c.unit_bytes.result.now (Some stored) c.unit_bytes.ensures.same c.in_ok-stored.ensures in
    let answer = c.mover_of.ensures ∙ ap (λ (moves : List StoredMove). mover_in (history moves stored.last) c.args.number) c.deref.ensures.value in
    rw (← c.self.view_is) (next_mover-mover_in (table_view a).state c.args.key.now _ c.args.number c.mover_of.result (moves_of-found a c.args.key.now stored found) answer)

pub returns-clause-some : goal.returns-clause-some
returns-clause-some c =
    let a = c.self.inside in
    let stored = c.in_ok-stored.stored.now in
    let found = unit_found a c.args.key.now c.unit_bytes.result.now (Some stored) c.unit_bytes.ensures.same c.in_ok-stored.ensures in
    let answer = c.mover_of.ensures ∙ ap (λ (moves : List StoredMove). mover_in (history moves stored.last) c.args.number) c.deref.ensures.value in
    rw (← c.self.view_is) (IsSome-mover (table_view a).state c.args.key.now _ c.args.number c.mover_of.result (moves_of-found a c.args.key.now stored found) answer)

pub returns-in_err-stored-clause-few : goal.returns-in_err-stored-clause-few
returns-in_err-stored-clause-few c = rw (← c.self.view_is) (counter_of-few c.self.inside c.self.invariant c.args.key.now)

pub returns-clause-few : goal.returns-clause-few
returns-clause-few c = rw (← c.self.view_is) (counter_of-few c.self.inside c.self.invariant c.args.key.now)
