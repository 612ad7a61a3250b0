-- What the definitions of tables give at each key: after a write, a move, an effect, and before any transaction.
use Rattle.std.proofs.Common.{◌≡◌, ℕ, ◌+◌, ◌<◌, ◌≤◌, ◌%◌, Bool, true, false, cond, List, [], ◌∷◌, ◌++◌, length, slice_index}
use Rattle.std.proofs.Common.{refl, sym, ap, ◌∙◌, arith, append-nil, length-append, Some, None, Option, unwrap_or}
use Rattle.std.specs.Cmp.Lexicographic.{nat_list_cmp_total, texts_ties, bytes_decides}
use Rattle.std.specs.Map.{lookup}
use Rattle.std.specs.FinMap.{FinMap, get, get-insert, get-empty, same_map, insert}
use Rattle.dt_lists.specs.Lists.{AllIn}
use Rattle.dt_access.specs.Clash.{Bytes, same_key}
use Rattle.dt_access.specs.Granules.{unit_of}
use Rattle.dt_access.specs.declared.TxnId.{TxnId}
use Rattle.dt_text.specs.declared.Value.{Value}
use Rattle.dt_table.specs.Table.{Moved, Table, moves_of, counter_of, home_of, opening_home, home_after, written, all_written, moved, maybe_moved, apply, opening}
use Rattle.dt_table.specs.declared.effect.Effect.{Effect}
use Rattle.dt_table.proofs.SortedEntries.{order, exact}

-- a map with one more entry gives it at its key, and what it gave at all others
pub get-put : {X : Type 0} (m : FinMap order X) (key : Bytes) (x : X) (q : Bytes) → get (insert m key x) q ≡ cond (same_key q key) (Some x) (get m q)
get-put m key x q = get-insert nat_list_cmp_total m key x q ∙ ap (λ b. cond b (Some x) (get m q)) (sym (texts_ties q key))

-- tables that read equally are equal
pub same_table : (t u : Table) → t.version ≡ u.version → t.regions ≡ u.regions → t.homes ≡ u.homes
    → ((key : Bytes) → get t.values key ≡ get u.values key) → ((unit : Bytes) → get t.moves unit ≡ get u.moves unit) → t ≡ u
same_table t u version regions homes at_key at_unit =
    let values : t.values ≡ u.values = same_map nat_list_cmp_total exact t.values u.values at_key in
    let moves : t.moves ≡ u.moves = same_map nat_list_cmp_total exact t.moves u.moves at_unit in
    λ i. record { version = version i; regions = regions i; homes = homes i; values = values i; moves = moves i }

-- ---- writes

-- a write changes the values alone
pub all_written-keeps : (writes : List (Bytes × Option Value)) (t : Table) → all_written writes t ≡ record t { values = (all_written writes t).values }
all_written-keeps [] t = refl
all_written-keeps (w ∷ writes) t = all_written-keeps writes (written t w.0 w.1)

-- ---- a move

-- the move of the key's unit, in this version, if there is one
abbrev pub move_at : ℕ → Bytes → Option (Bytes × ℕ × TxnId) → List Moved
move_at version q None = []
move_at version q (Some m) = cond (same_key (unit_of version q) (unit_of version m.0)) (record { target = m.1; by = m.2 } ∷ []) []

moves_of-moved : (t : Table) (key : Bytes) (target : ℕ) (by : TxnId) (q : Bytes)
    → moves_of (moved t key target by) q ≡ moves_of t q ++ move_at t.version q (Some (key, target, by))
moves_of-moved t key target by q =
    let unit = unit_of t.version in
    let m : Moved = record { target = target; by = by } in
    ap (λ o. unwrap_or o []) (get-put t.moves (unit key) (moves_of t key ++ m ∷ []) (unit q)) ∙ at (same_key (unit q) (unit key)) refl
  where
    at : (b : Bool) → same_key (unit_of t.version q) (unit_of t.version key) ≡ b
        → unwrap_or (cond b (Some (moves_of t key ++ record { target = target; by = by } ∷ [])) (get t.moves (unit_of t.version q))) []
        ≡ moves_of t q ++ cond b (record { target = target; by = by } ∷ []) []
    at true e = ap (λ u. unwrap_or (get t.moves u) [] ++ record { target = target; by = by } ∷ []) (sym ((bytes_decides (unit_of t.version q) (unit_of t.version key)).0 e))
    at false e = sym (append-nil (moves_of t q))

pub moves_of-maybe_moved : (move : Option (Bytes × ℕ × TxnId)) (t : Table) (q : Bytes) → moves_of (maybe_moved move t) q ≡ moves_of t q ++ move_at t.version q move
moves_of-maybe_moved None t q = sym (append-nil (moves_of t q))
moves_of-maybe_moved (Some m) t q = moves_of-moved t m.0 m.1 m.2 q

-- the last move leads to its target
pub home_after-append : (home : ℕ) (moves : List Moved) (m : Moved) → home_after home (moves ++ m ∷ []) ≡ m.target
home_after-append home [] m = refl
home_after-append home (x ∷ moves) m = home_after-append x.target moves m

-- ---- an effect

pub moves_of-apply : (effect : Effect) (t : Table) (q : Bytes) → moves_of (apply effect t) q ≡ moves_of t q ++ move_at t.version q effect.moved
moves_of-apply effect t q =
    moves_of-maybe_moved effect.moved (all_written effect.writes t) q
    ∙ ap (λ (u : Table). moves_of u q ++ move_at u.version q effect.moved) (all_written-keeps effect.writes t)

-- the count of a key's moves grows by at most one
pub counter_of-apply : (effect : Effect) (t : Table) (q : Bytes) → counter_of (apply effect t) q ≤ counter_of t q + 1
counter_of-apply effect t q =
    let grown = ap length (moves_of-apply effect t q) ∙ length-append (moves_of t q) (move_at t.version q effect.moved) in
    let few : length (move_at t.version q effect.moved) ≤ 1 = at_most effect.moved in
    omega (arith, grown, few)
  where
    at_most : (move : Option (Bytes × ℕ × TxnId)) → length (move_at t.version q move) ≤ 1
    at_most None = omega arith
    at_most (Some m) =
        elim (same_key (unit_of t.version q) (unit_of t.version m.0)) as (λ b. length {A = Moved} (cond b (record { target = m.1; by = m.2 } ∷ []) []) ≤ 1) [
          | true ↦ omega arith
          | false ↦ omega arith
        ]

-- what no transaction changes
keeps : {A : Type 0} (f : Table → A) (effect : Effect) (t : Table) → ((u : Table) (key : Bytes) (target : ℕ) (by : TxnId) → f (moved u key target by) ≡ f u)
    → ((u : Table) (key : Bytes) (value : Option Value) → f (written u key value) ≡ f u) → f (apply effect t) ≡ f t
keeps {A} f effect t moves writes = by_move effect.moved ∙ by_writes effect.writes t
  where
    by_move : (move : Option (Bytes × ℕ × TxnId)) → f (maybe_moved move (all_written effect.writes t)) ≡ f (all_written effect.writes t)
    by_move None = refl
    by_move (Some m) = moves (all_written effect.writes t) m.0 m.1 m.2

    by_writes : (ws : List (Bytes × Option Value)) (u : Table) → f (all_written ws u) ≡ f u
    by_writes [] u = refl
    by_writes (w ∷ ws) u = by_writes ws (written u w.0 w.1) ∙ writes u w.0 w.1

pub version-apply : (effect : Effect) (t : Table) → (apply effect t).version ≡ t.version
version-apply effect t = keeps (λ (u : Table). u.version) effect t (λ u key target by. refl) (λ u key value. refl)

pub regions-apply : (effect : Effect) (t : Table) → (apply effect t).regions ≡ t.regions
regions-apply effect t = keeps (λ (u : Table). u.regions) effect t (λ u key target by. refl) (λ u key value. refl)

pub homes-apply : (effect : Effect) (t : Table) → (apply effect t).homes ≡ t.homes
homes-apply effect t = keeps (λ (u : Table). u.homes) effect t (λ u key target by. refl) (λ u key value. refl)

-- ---- before any transaction

pub moves_of-opening : (version regions : ℕ) (homes : List (Bytes × ℕ)) (rows : List (Bytes × Value)) (q : Bytes) → moves_of (opening version regions homes rows) q ≡ []
moves_of-opening version regions homes rows q = ap (λ o. unwrap_or o []) (get-empty {X = List Moved} order (unit_of version q))

-- ---- homes are regions

opening_home-below : (regions : ℕ) (homes : List (Bytes × ℕ)) (q : Bytes) → 0 < regions → AllIn (λ h. h.1 < regions) homes → opening_home regions homes q < regions
opening_home-below regions homes q some all = by homes all
  where
    by : (hs : List (Bytes × ℕ)) → AllIn (λ h. h.1 < regions) hs → unwrap_or (lookup (same_key q) hs) (slice_index q 0 % regions) < regions
    by [] all = omega arith
    by (h ∷ hs) all = elim (same_key q h.0) as (λ b. unwrap_or (cond b (Some h.1) (lookup (same_key q) hs)) (slice_index q 0 % regions) < regions) [ true ↦ all.0 | false ↦ by hs all.1 ]

pub home_after-below : (regions home : ℕ) (moves : List Moved) → home < regions → AllIn (λ m. m.target < regions) moves → home_after home moves < regions
home_after-below regions home [] first all = first
home_after-below regions home (m ∷ moves) first all = home_after-below regions m.target moves all.0 all.1

-- where the listed homes and the targets of the moves of a key are regions, its home is one
pub home_of-below : (t : Table) (q : Bytes) → 0 < t.regions → AllIn (λ h. h.1 < t.regions) t.homes → AllIn (λ m. m.target < t.regions) (moves_of t q) → home_of t q < t.regions
home_of-below t q some homes targets =
    let unit = unit_of t.version q in
    home_after-below t.regions (opening_home t.regions t.homes unit) (moves_of t q) (opening_home-below t.regions t.homes unit some homes) targets
