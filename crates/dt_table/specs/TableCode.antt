-- Scaffolding: the toolchain asks for these codes, by which proofs tell tables apart. Skip them; read Table.antt for the
-- tables.
use Rattle.std.specs.Prelude.{ℕ, List, Option, refl}
use Rattle.std.specs.Coded.{Coded, code_by, coded×, coded_ℕ, coded_list, coded_option}
use Rattle.std.specs.FinMap as map
use Rattle.std.specs.Ordering.{nat_cmp}
use Rattle.std.specs.Cmp.Lexicographic.{slice_cmp}
use Rattle.dt_access.specs.Clash.{Bytes}
use Rattle.dt_access.specs.contracts.id.TxnId as id
use Rattle.dt_access.specs.declared.TxnId.{TxnId}
use Rattle.dt_text.specs.contracts.value.Value as value
use Rattle.dt_text.specs.declared.Value.{Value}
use Rattle.dt_table.specs.RowsInner.{RowsView}
use Rattle.dt_table.specs.Table.{Moved, OpeningView, Table, TableView}

-- a move is stored as its fields
abbrev moved_code : Coded Moved
moved_code = code_by (ℕ × TxnId) (coded× coded_ℕ id.the_row.coded) (λ m. (m.target, m.by)) (λ p. record { target = p.0; by = p.1 }) (λ _. refl)

-- the code of the map of values
abbrev values_code : Coded (map.FinMap (slice_cmp nat_cmp) (Option Value))
values_code = map.code (coded_list coded_ℕ) (coded_option value.the_row.coded)

-- the code of the map of moves
abbrev moves_code : Coded (map.FinMap (slice_cmp nat_cmp) (List Moved))
moves_code = map.code (coded_list coded_ℕ) (coded_list moved_code)

-- a table is stored as its fields
abbrev pub table_code : Coded Table
table_code = code_by (ℕ × (ℕ × (List (Bytes × ℕ) × (map.FinMap (slice_cmp nat_cmp) (Option Value) × map.FinMap (slice_cmp nat_cmp) (List Moved)))))
    (coded× coded_ℕ (coded× coded_ℕ (coded× (coded_list (coded× (coded_list coded_ℕ) coded_ℕ)) (coded× values_code moves_code))))
    (λ t. (t.version, (t.regions, (t.homes, (t.values, t.moves)))))
    (λ p. record { version = p.0; regions = p.1.0; homes = p.1.1.0; values = p.1.1.1.0; moves = p.1.1.1.1 })
    (λ _. refl)

-- a table is stored so, with its room
abbrev pub table_view_code : Coded TableView
table_view_code = code_by (Table × ℕ) (coded× table_code coded_ℕ) (λ k. (k.state, k.spare)) (λ p. record { state = p.0; spare = p.1 }) (λ _. refl)

-- values are stored as their entries, with their room
abbrev pub rows_view_code : Coded RowsView
rows_view_code = code_by (List (Bytes × Option Value) × ℕ) (coded× (coded_list (coded× (coded_list coded_ℕ) (coded_option value.the_row.coded))) coded_ℕ)
    (λ r. (r.entries, r.spare)) (λ p. record { entries = p.0; spare = p.1 }) (λ _. refl)

-- an opening is stored as its homes and its rows
abbrev pub opening_view_code : Coded OpeningView
opening_view_code = code_by (List (Bytes × ℕ) × List (Bytes × Value)) (coded× (coded_list (coded× (coded_list coded_ℕ) coded_ℕ)) (coded_list (coded× (coded_list coded_ℕ) value.the_row.coded)))
    (λ o. (o.homes, o.rows)) (λ p. record { homes = p.0; rows = p.1 }) (λ _. refl)
