use Rattle.std.proofs.Common.{◌∙◌, ap, is_some, subst, sym, true≢false}
use Rattle.std.specs.Cmp.Lexicographic.{bytes_decides}
use Rattle.std.specs.Map.{lookup}
use Rattle.dt_access.specs.Clash.{Bytes, same_key}
use Rattle.dt_table.specs.MovedPlacesInner.{IsNoted}
use Rattle.dt_table.specs.StoredUnitInner.{by_bytes}
use Rattle.dt_table.proofs.ByBytes.{lookup-by_bytes}
use Rattle.dt_table.proofs.NotedPlaces.{none_unnoted}
use Rattle.dt_table.proofs.units.stored_unit.Goals as goal

pub returns : goal.returns
returns c = c.get.ensures.value ∙ lookup-by_bytes c.args.units.now.entries c.args.unit.now

pub returns-in_default : goal.returns-in_default
returns-in_default c =
    let after = c.args.moved.now in
    sym (none_unnoted after (by_bytes c.args.units.now.entries) c.args.unit.now c.requires (λ noted.
    true≢false (sym (c.guess.ensures (subst (IsNoted after) (sym c.number_of.ensures) noted)) ∙ ap is_some c.in_default.is)))

-- the entry at the guessed place is the one that a look-up of its key finds
pub returns-then-are_same : goal.returns-then-are_same
returns-then-are_same c =
    let units = c.args.units.now.entries in
    let known = c.in-Some-get_index.known.now.items in
    let same = (bytes_decides known c.args.unit.now).0 (ap (λ (bytes : Bytes). same_key bytes c.args.unit.now) (sym c.as_slice.ensures.value) ∙ sym c.are_same.ensures ∙ c.if-are_same.true) in
    sym (ap (λ (bytes : Bytes). lookup (same_key bytes) (by_bytes units)) (sym same)
    ∙ sym (lookup-by_bytes units known) ∙ c.in-Some-get_index.ensures.value)
