-- What a file gives is a cluster that can be.
use Rattle.std.proofs.Common.{◌≡◌, inl, ℕ, ◌<◌, ◌≤◌, true, ◌||◌, ◌==◌, List, [], ◌∷◌, map, Option, Some, None}
use Rattle.std.proofs.Common.{Ordering, Less, Equal, nat_cmp, refl, sym, ap, ◌∙◌, arith}
use Rattle.std.specs.Cmp.{tied_itself}
use Rattle.std.proofs.lemmas.Cmp.{nat_list_cmp_total}
use Rattle.std.proofs.lemmas.Bool.Decides.{nat_tests}
use Rattle.std.specs.Cmp.Lexicographic.{slice_cmp}
use Rattle.std.specs.List.{AllByRecursion}
use Rattle.std.specs.List.Sorted.{IsStrictlySortedBy}
use Rattle.dt_lists.specs.Lists.{AllIn, Distinct, Pairwise}
use Rattle.dt_lists.proofs.Callers.{some_same}
use Rattle.dt_access.specs.Granules.{unit_of}
use Rattle.dt_text.specs.Texts.{IsKey}
use Rattle.dt_text.specs.declared.value.Value.{Value}
use Rattle.dt_text.specs.declared.value.Value.TheVariants.{Int, Text}
use Rattle.dt_proc.specs.Sound.{AreProcs}
use Rattle.toml.specs.Data.{Data, string, integer, float, boolean, datetime, array, table, Members}
use Rattle.dt_text.specs.Texts.{Bytes}
use Rattle.dt_cluster_file.specs.Document.{Entry, AreEntriesAt}
use Rattle.dt_cluster_file.specs.Numbers.{NumberEntry, GivesNumber, within, regions_entry, version_entry, workers_entry, tries_entry, drop_entry, repeat_entry}
use Rattle.dt_cluster_file.specs.Rows.{IsValue}
use Rattle.dt_cluster_file.specs.File.{numbers_of, HasNumbers, HasHomes, HasRows}
use Rattle.dt_text.specs.Values.{IsRowValue}
use Rattle.dt_cluster.specs.Valid.{IsDrop, IsValidCluster}
use Rattle.dt_cluster.specs.declared.cluster.Cluster.{Cluster}

-- an entry gives a number that it allows, where what stands for it is allowed
given_allowed : (entry : NumberEntry) (P : ℕ → Type 0) → ((n : ℕ) → entry.absent ≡ Some n → P n) → ((n : ℕ) → entry.allows n ≡ true → P n)
    → (d : Option Data) (n : ℕ) → GivesNumber entry d n → P n
given_allowed entry P absent allowed None n h = absent n h
given_allowed entry P absent allowed (Some (integer z)) n h = allowed n h.1
given_allowed entry P absent allowed (Some (string s)) n h = absurd h
given_allowed entry P absent allowed (Some (float x)) n h = absurd h
given_allowed entry P absent allowed (Some (boolean b)) n h = absurd h
given_allowed entry P absent allowed (Some (datetime t)) n h = absurd h
given_allowed entry P absent allowed (Some (array ds)) n h = absurd h
given_allowed entry P absent allowed (Some (table ms)) n h = absurd h

is_within : (least greatest n : ℕ) → within least greatest n ≡ true → (least ≤ n) × (n ≤ greatest)
is_within least greatest n h = (grind (arith, nat_tests), grind (arith, nat_tests))

regions_within : (d : Option Data) (n : ℕ) → GivesNumber regions_entry d n → (1 ≤ n) × (n ≤ 8)
regions_within d n h = given_allowed regions_entry (λ n. (1 ≤ n) × (n ≤ 8)) (λ n e. absurd cc) (is_within 1 8) d n h

version_within : (d : Option Data) (n : ℕ) → GivesNumber version_entry d n → (1 ≤ n) × (n ≤ 2)
version_within d n h = given_allowed version_entry (λ n. (1 ≤ n) × (n ≤ 2)) (λ n e. rw (← some_same {x = 1} {y = n} e) (omega arith, omega arith)) (is_within 1 2) d n h

workers_within : (d : Option Data) (n : ℕ) → GivesNumber workers_entry d n → (1 ≤ n) × (n ≤ 16)
workers_within d n h = given_allowed workers_entry (λ n. (1 ≤ n) × (n ≤ 16)) (λ n e. rw (← some_same {x = 4} {y = n} e) (omega arith, omega arith)) (is_within 1 16) d n h

tries_within : (d : Option Data) (n : ℕ) → GivesNumber tries_entry d n → (1 ≤ n) × (n ≤ 8)
tries_within d n h = given_allowed tries_entry (λ n. (1 ≤ n) × (n ≤ 8)) (λ n e. rw (← some_same {x = 3} {y = n} e) (omega arith, omega arith)) (is_within 1 8) d n h

drop_allowed : (n : ℕ) → (n == 0 || within 2 1000 n) ≡ true → IsDrop n
drop_allowed n h = grind (arith, nat_tests)

drop_within : (d : Option Data) (n : ℕ) → GivesNumber drop_entry d n → IsDrop n
drop_within d n h = given_allowed drop_entry IsDrop (λ n e. inl (sym (some_same {x = 0} {y = n} e))) drop_allowed d n h

repeat_within : (d : Option Data) (n : ℕ) → GivesNumber repeat_entry d n → n ≤ 1000
repeat_within d n h = given_allowed repeat_entry (λ n. n ≤ 1000) (λ n e. rw (← some_same {x = 0} {y = n} e) (omega arith)) (λ n e. (is_within 0 1000 n e).1) d n h

other_than : (name : Bytes) (names : List Bytes) → AllByRecursion (λ y. slice_cmp nat_cmp name y ≡ Less) names → AllIn (λ y. ¬ (name ≡ y)) names
other_than name [] h = tt
other_than name (y ∷ names) h = ((λ e. absurd_less (slice_cmp nat_cmp name y) h.0 (ap (λ k. slice_cmp nat_cmp name k) (sym e) ∙ tied_itself nat_list_cmp_total name)), other_than name names h.1)
  where
    absurd_less : (o : Ordering) → o ≡ Less → o ≡ Equal → ⊥
    absurd_less o a b = cc

-- names that ascend are distinct
ascending_distinct : (names : List Bytes) → IsStrictlySortedBy (slice_cmp nat_cmp) names → Distinct names
unfolding IsStrictlySortedBy
ascending_distinct [] h = tt
ascending_distinct (name ∷ names) h = (other_than name names h.0, ascending_distinct names h.1)

at_distinct : (d : Option Data) (entries : List Entry) → AreEntriesAt d entries → Distinct (map (λ e. e.0) entries)
at_distinct None entries h = rw h tt
at_distinct (Some (table ms)) entries h = ascending_distinct (map (λ e. e.0) entries) h.ascending
at_distinct (Some (integer z)) entries h = absurd h
at_distinct (Some (string s)) entries h = absurd h
at_distinct (Some (float x)) entries h = absurd h
at_distinct (Some (boolean b)) entries h = absurd h
at_distinct (Some (datetime t)) entries h = absurd h
at_distinct (Some (array ds)) entries h = absurd h

same_names : {A : Type 0} (Is : Entry → Bytes × A → Type 0) → ((e : Entry) (x : Bytes × A) → Is e x → x.0 ≡ e.0)
    → (entries : List Entry) (xs : List (Bytes × A)) → Pairwise Is entries xs → map (λ x. x.0) xs ≡ map (λ e. e.0) entries
same_names Is name [] [] h = refl
same_names Is name [] (x ∷ xs) h = absurd h
same_names Is name (e ∷ es) [] h = absurd h
same_names Is name (e ∷ es) (x ∷ xs) h = rw (name e x h.0, same_names Is name es xs h.1)

each_right : {A : Type 0} (Is : Entry → A → Type 0) (P : A → Type 0) → ((e : Entry) (x : A) → Is e x → P x) → (entries : List Entry) (xs : List A) → Pairwise Is entries xs → AllIn P xs
each_right Is P right [] [] h = tt
each_right Is P right [] (x ∷ xs) h = absurd h
each_right Is P right (e ∷ es) [] h = absurd h
each_right Is P right (e ∷ es) (x ∷ xs) h = (right e x h.0, each_right Is P right es xs h.1)

is_row_value : (d : Data) (v : Value) → IsValue d v → IsRowValue v
is_row_value (integer z) (Int y) h = rw h.0 h.1
is_row_value (string s) (Text t) h = h.1
is_row_value (integer z) (Text t) h = absurd h
is_row_value (string s) (Int y) h = absurd h
is_row_value (float x) v h = absurd h
is_row_value (boolean b) v h = absurd h
is_row_value (datetime t) v h = absurd h
is_row_value (array ds) v h = absurd h
is_row_value (table ms) v h = absurd h

-- what a file gives can be
pub given_valid : (top : Members) (cluster : Cluster) → HasNumbers top (numbers_of cluster)
    → AreProcs cluster.procs → HasHomes top cluster.version cluster.regions cluster.homes → HasRows top cluster.rows → IsValidCluster cluster
given_valid top cluster numbers procs homes rows =
    let r = regions_within _ cluster.regions numbers.0 in
    let w = workers_within _ cluster.workers numbers.2 in
    let v = version_within _ cluster.version numbers.1 in
    let t = tries_within _ cluster.tries numbers.3 in
    record {
      some_version = v.0;
      known_version = v.1;
      some = r.0;
      few = r.1;
      some_worker = w.0;
      few_workers = w.1;
      tries = t.0;
      few_tries = t.1;
      drop = drop_within _ cluster.drop numbers.4;
      repeat = repeat_within _ cluster.repeat numbers.5;
      procs = procs;
      home_keys = each_right _ (λ h. IsKey h.0) (λ e x h. h.1.0) homes.0 cluster.homes homes.2;
      home_units = each_right _ (λ h. unit_of cluster.version h.0 ≡ h.0) (λ e x h. h.1.1) homes.0 cluster.homes homes.2;
      homes_once = rw (same_names _ (λ e x h. h.0) homes.0 cluster.homes homes.2) (at_distinct _ homes.0 homes.1);
      homes = each_right _ (λ h. h.1 < cluster.regions) (λ e x h. h.3) homes.0 cluster.homes homes.2;
      row_keys = each_right _ (λ r. IsKey r.0) (λ e x h. h.1) rows.0 cluster.rows rows.2;
      rows_once = rw (same_names _ (λ e x h. h.0) rows.0 cluster.rows rows.2) (at_distinct _ rows.0 rows.1);
      rows = each_right _ (λ r. IsRowValue r.1) (λ e x h. is_row_value e.1 x.1 h.2) rows.0 cluster.rows rows.2;
    }
