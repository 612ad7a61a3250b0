use Rattle.std.proofs.Common.{◌≡◌, ◌+◌, ◌<◌, ◌^◌, ◌∷◌, [], ◌++◌, Some, ap, ap₂, sym, subst, ◌∙◌, arith, length}
use Rattle.indexmap.specs.IndexMap.{insert_entry}
use Rattle.dt_access.specs.Granules.{IsUnit}
use Rattle.dt_access.specs.Clash.{Bytes, same_key}
use Rattle.dt_table.specs.Table.{TableView, counter_of}
use Rattle.dt_table.specs.StoredUnitInner.{by_bytes, stored_of}
use Rattle.dt_table.specs.StoredMovesInner.{AreLinked, histories_of, table_view}
use Rattle.dt_table.specs.declared.stored.StoredUnit.{StoredUnit}
use Rattle.dt_table.proofs.StoredUnits.{counter-stored, linked-moved, units-moved, histories-moved}
use Rattle.dt_table.proofs.table.Table.record_move.Goals as goal
use Rattle.dt_table.proofs.table.Table.record_move.Goals.{After-put_unit}

-- the unit as it is stored before
stored_before : (c : After-put_unit) → c.stored_or_fresh-before.result ≡ stored_of (by_bytes c.self.inside.units.entries) c.args.unit c.args.target
stored_before c = c.stored_or_fresh-before.ensures ∙ ap (λ (u : Bytes). stored_of (by_bytes c.self.inside.units.entries) u c.args.target) (c.as_slice.ensures.value ∙ c.into_bytes-bytes.ensures.same)

-- the units afterwards: one entry has the target for its home, one move more, and the place of its last one
units_then : (c : After-put_unit) → by_bytes c.put_unit.new.units.entries ≡ insert_entry same_key (by_bytes c.self.inside.units.entries) c.args.unit
    (record { home = c.args.target; counter = (stored_of (by_bytes c.self.inside.units.entries) c.args.unit c.args.target).counter + 1; last = Some c.len.result })
units_then c = c.put_unit.ensures.units
    ∙ (λ i. insert_entry same_key (by_bytes c.self.inside.units.entries) (c.into_bytes-bytes.ensures.same i) (record { home = c.args.target; counter = (stored_before c i).counter + 1; last = Some c.len.result }))

pub overflow_add-stored : goal.overflow_add-stored
overflow_add-stored c =
    let a = c.self.inside in
    let unit = c.args.unit in
    let bytes = c.as_slice.ensures.value ∙ c.into_bytes-bytes.ensures.same in
    let stored = c.stored_or_fresh-before.ensures ∙ ap (λ (u : Bytes). stored_of (by_bytes a.units.entries) u c.args.target) bytes in
    let is_unit = subst (λ (t : TableView). IsUnit t.state.version unit) (sym c.self.view_is) c.requires.unit in
    let place = subst (λ (t : TableView). counter_of t.state unit + 1 < 2 ^ 32) (sym c.self.view_is) c.requires.place in
    omega (arith, ap (λ (s : StoredUnit). s.counter) stored, counter-stored a unit c.args.target c.args.by c.self.invariant is_unit, place)

pub invariant_of-self : goal.invariant_of-self
invariant_of-self c =
    let a = c.self.inside in
    let unit = c.args.unit in
    let sound = c.self.invariant in
    let stored = stored_before (goal.at.invariant_of-self c).After-put_unit in
    let is_unit = subst (λ (t : TableView). IsUnit t.state.version unit) (sym c.self.view_is) c.requires.unit in
    let few = subst (λ (t : TableView). counter_of t.state unit + 1 < 2 ^ 32) (sym c.self.view_is) c.requires.place in
    let at : c.len.result ≡ length a.moves.items = c.len.ensures ∙ a.moves.ok.0 in
    let pushed = c.in-Ok.ensures.items ∙ ap (λ (s : StoredUnit). a.moves.items ++ record { target = c.args.target; by = c.args.by; before = s.last } ∷ []) stored in
    let put = units_then (goal.at.invariant_of-self c).After-put_unit in
    record {
      regions = sound.regions;
      linked = subst (AreLinked 0) (sym pushed) (linked-moved a unit c.args.target c.args.by sound is_unit);
      units = rw (put, pushed) (units-moved a unit c.args.target c.args.by sound is_unit c.len.result at c.requires.key few);
      noted = c.put_unit.ensures.noted;
    }

pub returns-clause-state : goal.returns-clause-state
returns-clause-state c =
    let a = c.self.inside in
    let unit = c.args.unit in
    let stored = stored_before (goal.at.returns-clause-state c).After-put_unit in
    let is_unit = subst (λ (t : TableView). IsUnit t.state.version unit) (sym c.self.view_is) c.requires.unit in
    let at : c.len.result ≡ length a.moves.items = c.len.ensures ∙ a.moves.ok.0 in
    let pushed = c.in-Ok.ensures.items ∙ ap (λ (s : StoredUnit). a.moves.items ++ record { target = c.args.target; by = c.args.by; before = s.last } ∷ []) stored in
    let put = units_then (goal.at.returns-clause-state c).After-put_unit in
    let moves = ap₂ histories_of pushed put ∙ histories-moved a unit c.args.target c.args.by c.self.invariant is_unit c.len.result at in
    rw (← c.self.view_is) (λ i. record (table_view a).state { moves = moves i })
