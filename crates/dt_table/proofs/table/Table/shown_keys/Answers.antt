use Rattle.std.proofs.Common.{◌≡◌, ◌++◌, ◌∙◌, List, ap, map, subst, IsPermutation}
use Rattle.dt_lists.proofs.Callers.{all_map}
use Rattle.dt_access.specs.Clash.{Bytes}
use Rattle.dt_table.specs.Table.{TableView, shown, shown_at}
use Rattle.dt_table.specs.StoredUnitInner.{by_bytes, moved_without_value}
use Rattle.dt_table.specs.StoredMovesInner.{table_view}
use Rattle.dt_table.proofs.ShownKeys.{shown_in_order}
use Rattle.dt_table.proofs.table.Table.shown_keys.Goals as goal

pub add_moved_units-requires : goal.add_moved_units-requires
add_moved_units-requires c = all_map _ _ (by_bytes c.self.inside.units.entries) (λ e fits. fits.key) c.self.invariant.units

pub returns : goal.returns
returns c =
    let a = c.self.inside in
    let keys = c.sort.new.self.items in
    let collected = c.in_ok-add_moved_units.ensures.keys
    ∙ ap (λ (l : List Bytes). l ++ moved_without_value a.values.entries (by_bytes a.units.entries)) c.in_ok-keys.ensures.keys in
    let moves = subst (λ (l : List Bytes). IsPermutation l keys) collected c.in_ok-sort.ensures.permutation in
    let order = shown_in_order a c.self.invariant c.in_ok-keys.ensures.once c.in_ok-add_moved_units.ensures.once keys moves c.in_ok-sort.ensures.sorted in
    subst (λ (t : TableView). map (shown_at t.state) keys ≡ shown t.state) c.self.view_is (ap (map (shown_at (table_view a).state)) order)
