use Rattle.std.proofs.Common.{◌≡◌, ◌++◌, None, ap, subst, sym, ◌∙◌}
use Rattle.std.specs.Prelude.{position}
use Rattle.std.specs.Cmp.Lexicographic.{bytes_decides}
use Rattle.std.specs.FinMap.{from_entries}
use Rattle.std.specs.Map.{keys_of}
use Rattle.dt_access.specs.Clash.{same_key}
use Rattle.dt_table.specs.RowsInner.{AreOthers, KeyValues}
use Rattle.dt_table.proofs.Entries.{AllIn-insert_entry}
use Rattle.dt_table.proofs.Layers.{keys_of-set_value_at, put-first, put-other}
use Rattle.dt_table.proofs.SortedEntries.{order}
use Rattle.dt_table.proofs.rows.Rows.put.Goals as goal

pub invariant_of-self : goal.invariant_of-self
invariant_of-self c =
    let a = c.self.inside in
    let keys = ap keys_of c.change.ensures ∙ keys_of-set_value_at a.opened c.in-Some.place c.args.value in
    rw keys c.self.invariant

pub returns-in-Some-clause-entries : goal.returns-in-Some-clause-entries
returns-in-Some-clause-entries c =
    let a = c.self.inside in
    let at = sym c.place_of.ensures ∙ c.in-Some.is in
    rw (← c.self.view_is) (ap (λ (es : KeyValues). from_entries {R = order} (es ++ a.others.entries)) c.change.ensures
    ∙ put-first a.opened a.others.entries c.args.key c.args.value c.in-Some.place at)

pub invariant_of-self-2 : goal.invariant_of-self-2
invariant_of-self-2 c =
    let a = c.self.inside in
    let absent = sym c.place_of.ensures ∙ c.in_default.is in
    let all = AllIn-insert_entry same_key (λ e. position (same_key e.0) (keys_of a.opened) ≡ None) (λ x y. (bytes_decides x y).0) a.others.entries c.args.key c.args.value c.self.invariant absent in
    subst (AreOthers (keys_of a.opened)) (sym c.in-Ok.ensures.entries) all

pub returns-clause-entries : goal.returns-clause-entries
returns-clause-entries c =
    let a = c.self.inside in
    let absent = sym c.place_of.ensures ∙ c.in_default.is in
    rw (← c.self.view_is) (ap (λ es. from_entries {R = order} (a.opened ++ es)) c.in-Ok.ensures.entries
    ∙ put-other a.opened a.others.entries c.args.key c.args.value absent)
