use Rattle.std.proofs.Common.{ap, subst, sym, ◌∙◌}
use Rattle.std.specs.Cmp.Lexicographic.{bytes_decides}
use Rattle.dt_lists.proofs.Callers.{all_map}
use Rattle.dt_access.specs.Clash.{same_key}
use Rattle.dt_table.specs.MovedPlacesInner.{unit_number, AreNoted, IsNoted}
use Rattle.dt_table.specs.StoredUnitInner.{by_bytes}
use Rattle.dt_table.proofs.ByBytes.{insert-by_bytes}
use Rattle.dt_table.proofs.Entries.{AllIn-insert_entry}
use Rattle.dt_table.proofs.units.put_unit.Goals as goal

pub returns-clause-units : goal.returns-clause-units
returns-clause-units c = ap by_bytes c.in-Ok.ensures.entries ∙ insert-by_bytes c.args.units.now.entries c.args.unit c.args.stored

pub returns-clause-noted : goal.returns-clause-noted
returns-clause-noted c =
    let after = c.note.new.self in
    let units = by_bytes c.args.units.now.entries in
    let put = ap by_bytes c.in-Ok.ensures.entries ∙ insert-by_bytes c.args.units.now.entries c.args.unit c.args.stored in
    let this = subst (IsNoted after) (c.number_of-number.ensures ∙ ap unit_number c.as_slice.ensures.value) c.note.ensures.number in
    let others = all_map _ _ units (λ e h. c.note.ensures.others (unit_number e.0) h) c.requires.noted in
    subst (AreNoted after) (sym put)
    (AllIn-insert_entry same_key (λ e. IsNoted after (unit_number e.0)) (λ x y. (bytes_decides x y).0) units c.args.unit.items c.args.stored others this)
