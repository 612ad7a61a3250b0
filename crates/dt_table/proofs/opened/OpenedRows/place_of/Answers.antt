use Rattle.std.proofs.Common.{ap, slice_get, sym, ◌∙◌}
use Rattle.std.specs.Prelude.{position}
use Rattle.std.specs.Cmp.Lexicographic.{bytes_decides}
use Rattle.std.specs.Map.{keys_of}
use Rattle.dt_access.specs.Clash.{same_key}
use Rattle.dt_table.proofs.RowsNow.{keys_of-rows_now, place_at}
use Rattle.dt_table.proofs.opened.OpenedRows.place_of.Goals as goal

pub returns-then-eq : goal.returns-then-eq
returns-then-eq c =
    let a = c.self.inside in
    let rows = a.opening.value.entries in
    let test = same_key c.args.key.now in
    let there = sym (c.in-Some-get_index.ensures.entry ∙ ap (λ m. slice_get m.entries c.in-Some.place) c.deref.ensures) in
    let same = (bytes_decides c.in-Some-get_index.known.now c.args.key.now).0 (sym c.eq.ensures ∙ c.if-eq.true) in
    rw (← c.self.view_is) (sym (ap (position test) (keys_of-rows_now rows a.kept.items c.self.invariant.each)
    ∙ ap (λ q. position (same_key q) (keys_of rows)) (sym same)
    ∙ place_at rows c.in-Some.place _ c.self.invariant.once there))

pub returns : goal.returns
returns c =
    let a = c.self.inside in
    let test = same_key c.args.key.now in
    rw (← c.self.view_is) (c.get_index_of.ensures.index ∙ ap (λ m. position test (keys_of m.entries)) c.deref-2.ensures
    ∙ sym (ap (position test) (keys_of-rows_now a.opening.value.entries a.kept.items c.self.invariant.each)))
