-- The sum that a report shows of a table that holds the accounts: it shows each account once, and nothing else that has a
-- number.
use Rattle.std.proofs.Common.{◌≡◌, ℕ, ◌+◌, T, Bool, true, false, cond, ◌&&◌, ◌||◌, nat_lt, pos, ◌+ℤ◌, is_some}
use Rattle.std.proofs.Common.{List, [], ◌∷◌, ◌++◌, map, Option, Some, None, unwrap_or, refl, sym, ap, ◌∙◌, inl, inr, subst, arith}
use Rattle.std.specs.List.{fold, list_any, sum_by}
use Rattle.std.proofs.lemmas.List.Sums.{sum_by-cons}
use Rattle.std.proofs.lemmas.List.Folds.{list_any-append}
use Rattle.std.specs.Ordering.{nat_cmp, is_eq, is_lt, eq_by_cmp}
use Rattle.std.specs.Cmp.{tied_itself}
use Rattle.std.specs.Cmp.Lexicographic.{slice_cmp, nat_list_cmp_total, texts_ties, bytes_decides}
use Rattle.std.specs.FinMap.{FinMap, contains_key-keys, entries, entries_sorted, get, get-from_entries, get-retain_keys, is_sorted, keys, retain_keys}
use Rattle.std.specs.FinMap.Entries.{below_all, is_some-find}
use Rattle.dt_lists.specs.Lists.{AllIn, Distinct, Has}
use Rattle.dt_lists.proofs.Callers.{any_get, any_of_image, any_put, any_image, each_image, either_any, same_sums, sum_mapped}
use Rattle.dt_text.specs.Texts.{Bytes}
use Rattle.dt_text.specs.declared.Value.{Value}
use Rattle.dt_text.specs.declared.Value.TheVariants.{Int}
use Rattle.dt_text.proofs.Callers.{either_bytes}
use Rattle.dt_access.specs.Clash.{same_key}
use Rattle.dt_access.specs.Granules.{unit_of}
use Rattle.dt_table.specs.declared.Shown.{Shown}
use Rattle.dt_table.specs.Table.{Table, counter_of, is_shown, set_of_keys, shown_at, value_of}
use Rattle.dt_table.proofs.Callers.{keys_of-set}
use Rattle.dt_gen.specs.Load.{account, account_numbers}
use Rattle.dt_gen.proofs.ValidLoad.{accounts_apart}
use Rattle.dt_gen.specs.Balances.{HoldsAccounts, amount_of, balance, total_of}
use Rattle.dt_gen.specs.Summary.{number_of_row}
use Rattle.dt_gen.specs.Laws.{ShownSumIsTotal}
use Rattle.dt_gen.proofs.AccountTotals.{account_in, account_within}

-- ---- keys of a map

parts : (a b : Bool) → T (a && b) → T a × T b
parts true b h = (tt, h)
parts false b h = absurd h

-- a key that is below all of a list is none of it
below_apart : {X : Type 0} (key : Bytes) (es : List (Bytes × X)) → T (below_all (slice_cmp nat_cmp) key es) → AllIn (λ k. ¬ (key ≡ k)) (map (λ e. e.0) es)
below_apart key [] h = tt
below_apart key (e ∷ es) h =
    let two = parts (is_lt (slice_cmp nat_cmp key e.0)) (below_all (slice_cmp nat_cmp) key es) h in
    ((λ is. subst T (ap (λ k. is_lt (slice_cmp nat_cmp key k)) (sym is) ∙ ap is_lt (tied_itself nat_list_cmp_total key)) two.0), below_apart key es two.1)

sorted_distinct : {X : Type 0} (es : List (Bytes × X)) → T (is_sorted (slice_cmp nat_cmp) es) → Distinct (map (λ e. e.0) es)
sorted_distinct [] h = tt
sorted_distinct (e ∷ es) h = let two = parts (below_all (slice_cmp nat_cmp) e.0 es) (is_sorted (slice_cmp nat_cmp) es) h in (below_apart e.0 es two.0, sorted_distinct es two.1)

-- the keys of a map are distinct
keys_distinct : {X : Type 0} (m : FinMap (slice_cmp nat_cmp) X) → Distinct (keys m)
keys_distinct m = sorted_distinct (entries m) (entries_sorted m)

-- whether some key of a list compares as equal
abbrev among : Bytes → List Bytes → Bool
among key ks = list_any (eq_by_cmp (slice_cmp nat_cmp) key) ks

has_of_test : (key : Bytes) (ks : List Bytes) → among key ks ≡ true → Has ks key
has_of_test key [] h = absurd cc
has_of_test key (k ∷ ks) h = by (eq_by_cmp (slice_cmp nat_cmp) key k) refl (has_of_test key ks)
  where
    by : (b : Bool) → eq_by_cmp (slice_cmp nat_cmp) key k ≡ b → (among key ks ≡ true → Has ks key) → Has (k ∷ ks) key
    by true e later = inl (sym ((bytes_decides key k).0 (texts_ties key k ∙ e)))
    by false e later = inr (later (ap (λ b. b || among key ks) (sym e) ∙ h))

-- ---- what is shown

-- the keys of the rows that are shown
abbrev shown_keys : Table → List Bytes
shown_keys t = keys (retain_keys (set_of_keys (keys t.values ++ keys t.moves)) (is_shown t))

-- a key is in the set of some keys where it is one of them
in_set : (names : List Bytes) (key : Bytes) → among key names ≡ true → is_some (get (set_of_keys names) key) ≡ true
in_set names key there =
    let made : List (Bytes × Unit {0}) = map (λ name. (name, tt)) names in
    ap is_some (get-from_entries nat_list_cmp_total made key) ∙ is_some-find (slice_cmp nat_cmp) key made ∙ ap (among key) (keys_of-set names) ∙ there

-- what has a value stands in the map
is_there : (o : Option (Option Value)) (v : Value) → unwrap_or o None ≡ Some v → is_some o ≡ true
is_there (Some o) v e = refl
is_there None v e = absurd cc

-- a key with a value is shown
valued_shown : (t : Table) (key : Bytes) (v : Value) → value_of t key ≡ Some v → Has (shown_keys t) key
valued_shown t key v e =
    let names = keys t.values ++ keys t.moves in
    let test : is_shown t key ≡ true = ap (λ (o : Option Value). is_some o || (same_key (unit_of t.version key) key && nat_lt 0 (counter_of t key))) e in
    let among_values : among key (keys t.values) ≡ true = sym (contains_key-keys t.values key) ∙ is_there (get t.values key) v e in
    let among_names : among key names ≡ true = list_any-append (eq_by_cmp (slice_cmp nat_cmp) key) (keys t.values) (keys t.moves) ∙ ap (λ b. b || among key (keys t.moves)) among_values in
    has_of_test key (shown_keys t) (
    sym (contains_key-keys (retain_keys (set_of_keys names) (is_shown t)) key)
    ∙ ap is_some (get-retain_keys (set_of_keys names) (is_shown t) key (λ x tied. ap (is_shown t) (sym ((bytes_decides key x).0 (texts_ties key x ∙ ap is_eq tied)))))
    ∙ ap (λ b. is_some (cond b (get (set_of_keys names) key) None)) test
    ∙ in_set names key among_names
    )

-- what the row of a key counts
abbrev counted : Table → Bytes → ℕ
counted t key = amount_of (value_of t key)

-- a sum of rows that have numbers which are not negative, or none
rows_sum : (t : Table) (so_far : ℕ) (ks : List Bytes) → ((key : Bytes) → number_of_row (value_of t key) ≡ pos (counted t key))
    → fold (λ sum (row : Shown). sum +ℤ number_of_row row.value) (pos so_far) (map (shown_at t) ks) ≡ pos (so_far + sum_by (counted t) ks)
rows_sum t so_far [] numbers = ap pos (omega arith)
rows_sum t so_far (key ∷ ks) numbers =
    let more : so_far + counted t key + sum_by (counted t) ks ≡ so_far + sum_by (counted t) (key ∷ ks) = omega (arith, sum_by-cons (counted t) key ks) in
    ap (λ z. fold (λ sum (row : Shown). sum +ℤ number_of_row row.value) (pos so_far +ℤ z) (map (shown_at t) ks)) (numbers key)
    ∙ rows_sum t (so_far + counted t key) ks numbers
    ∙ ap pos more

module _ (total : ℕ) (t : Table) (holds : HoldsAccounts total t) where
  -- each row has a number that is not negative, or none
  numbers : (key : Bytes) → number_of_row (value_of t key) ≡ pos (counted t key)
  numbers key = elim (either_any (λ q. key ≡ account q) account_numbers (λ q. either_bytes key (account q))) [
    | inl one ↦ by_account (any_get (λ q. key ≡ account q) account_numbers one)
    | inr none ↦ by_value None (holds.others key (λ q h is. none (any_put (λ q. key ≡ account q) account_numbers q (account_in q h) is))) refl
  ]
    where
      by_value : (v : Option Value) → value_of t key ≡ v → number_of_row v ≡ pos (amount_of v) → number_of_row (value_of t key) ≡ pos (counted t key)
      by_value v e same = ap number_of_row e ∙ same ∙ sym (ap (λ o. pos (amount_of o)) e)

      by_account : (q : ℕ) × Has account_numbers q × (key ≡ account q) → number_of_row (value_of t key) ≡ pos (counted t key)
      by_account (q, there, is) = by_value (Some (Int (pos (balance t q)))) (ap (value_of t) is ∙ holds.accounts q (account_within q there)) refl

  -- the keys that are shown are those of the accounts, and others that count nothing
  shown_counts : sum_by (counted t) (shown_keys t) ≡ total
  shown_counts =
      let distinct : Distinct (map account account_numbers) = each_image (λ (x y : Bytes). ¬ (x ≡ y)) account account_numbers accounts_apart in
      let same = same_sums (counted t) (shown_keys t) (map account account_numbers) (keys_distinct (retain_keys (set_of_keys (keys t.values ++ keys t.moves)) (is_shown t))) distinct all_shown nothing in
      let image : sum_by (counted t) (map account account_numbers) ≡ total_of t = sum_mapped (counted t) account account_numbers in
      same ∙ image ∙ holds.together
    where
      all_shown : (key : Bytes) → Has (map account account_numbers) key → Has (shown_keys t) key
      all_shown key h = at (any_get (λ q. account q ≡ key) account_numbers (any_of_image (λ y. y ≡ key) account account_numbers h))
        where
          at : (q : ℕ) × Has account_numbers q × (account q ≡ key) → Has (shown_keys t) key
          at (q, there, is) = subst (Has (shown_keys t)) is (valued_shown t (account q) (Int (pos (balance t q))) (holds.accounts q (account_within q there)))

      nothing : (key : Bytes) → Has (shown_keys t) key → ¬ (Has (map account account_numbers) key) → counted t key ≡ 0
      nothing key h gone =
          ap amount_of (holds.others key (λ q hq is. gone (any_image (λ y. y ≡ key) account account_numbers (any_put (λ p. account p ≡ key) account_numbers q (account_in q hq) (sym is)))))

-- so what is shown has the total as its sum
pub shown_sum : ShownSumIsTotal
shown_sum total t holds =
    let all : 0 + sum_by (counted t) (shown_keys t) ≡ total = omega (arith, shown_counts total t holds) in
    rows_sum t 0 (shown_keys t) (numbers total t holds) ∙ ap pos all
