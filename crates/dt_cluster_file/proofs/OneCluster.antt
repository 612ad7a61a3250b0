-- A file is one cluster at most, or has one fault at most, and not both.
use Rattle.std.proofs.Common.{◌≡◌, ◌⊎◌, inl, inr, ℕ, ℤ, pos, List, [], ◌∷◌, Option, Some, None, Ok, Err, refl, ap, sym, ◌∙◌, subst, codes, Result}
use Rattle.std.proofs.lemmas.Bool.{false≢true}
use Rattle.dt_access.specs.Granules.{IsUnitKey}
use Rattle.dt_lists.specs.Lists.{AllIn, Pairwise}
use Rattle.dt_text.specs.Texts.{IsKey, IsStr}
use Rattle.dt_text.specs.declared.value.Value.{Value}
use Rattle.dt_text.specs.declared.value.Value.TheVariants.{Int, Text}
use Rattle.dt_proc.specs.Tree.{ProcTree}
use Rattle.dt_proc.specs.declared.error.ProcError.{ProcError}
use Rattle.dt_proc.specs.declared.error.ProcError.TheVariants as refused
use Rattle.dt_proc.proofs.Callers.{one_outcome}
use Rattle.toml.specs.Data.{Data, string, integer, float, boolean, datetime, array, table, Members, get_member}
use Rattle.dt_lists.proofs.Callers.{none_some, pairwise_one, some_same}
use Rattle.dt_text.specs.Texts.{Bytes}
use Rattle.dt_cluster_file.specs.Document.{Entry, IsDocument, AreEntries, AreEntriesAt, IsNoTable, IsFirstFaulty}
use Rattle.dt_cluster_file.specs.Numbers.{NumberEntry, GivesNumber, IsAtFault, HasNumber, HasBadNumber, regions_entry, version_entry, workers_entry, tries_entry, drop_entry, repeat_entry}
use Rattle.dt_cluster_file.specs.Rows.{IsHome, IsNoHome, IsBadHome, IsValue, IsNoValue, IsRow, IsBadRow}
use Rattle.dt_cluster_file.specs.File.{IsKnown, AreKnown, IsUnknownFault, numbers_of, HasNumbers, number_entries, IsNumberFault, GivesProcs, IsToldAs, IsProcsFaultAt, HasProcs}
use Rattle.dt_cluster_file.specs.File.{IsProcsFault, HasHomes, IsHomesFault, HasRows, IsRowsFault, IsClusterOf, IsFaultOf, IsCluster, IsClusterFault}
use Rattle.dt_cluster.specs.declared.cluster.Cluster.{Cluster}
use Rattle.dt_cluster_file.specs.declared.numbers.Numbers.{Numbers}
use Rattle.dt_cluster_file.specs.declared.error.ClusterCause.{ClusterCause}
use Rattle.dt_cluster_file.specs.declared.error.ClusterCause.TheVariants as cause
use Rattle.dt_cluster_file.specs.declared.error.ClusterPlace.TheVariants as place
use Rattle.dt_cluster_file.specs.declared.error.ClusterFault.{ClusterFault}

pub pos-is : {n m : ℕ} → pos n ≡ pos m → n ≡ m
pos-is e = cc

integer-is : {x y : ℤ} → integer x ≡ integer y → x ≡ y
integer-is e = cc

ok-err : {x : List ProcTree} {y : ProcError} → Ok x ≡ Err y → ⊥
ok-err e = cc

err-is : (a b : Result (List ProcTree) ProcError) (x y : ProcError) → a ≡ Err x → b ≡ Err y → a ≡ b → x ≡ y
err-is a b x y e f g = cc

ok-is : (a b : Result (List ProcTree) ProcError) (x y : List ProcTree) → a ≡ Ok x → b ≡ Ok y → a ≡ b → x ≡ y
ok-is a b x y e f g = cc

one_document : (bytes : Bytes) (a b : Members) → IsDocument bytes a → IsDocument bytes b → a ≡ b
one_document bytes a b h k = some_same (sym h.1 ∙ k.1)

one_list : (ms : Members) (xs ys : List Entry) → AreEntries ms xs → AreEntries ms ys → xs ≡ ys
one_list ms xs ys h k = h.same ∙ sym k.same

one_list_at : (d : Option Data) (xs ys : List Entry) → AreEntriesAt d xs → AreEntriesAt d ys → xs ≡ ys
one_list_at None xs ys h k = h ∙ sym k
one_list_at (Some (table ms)) xs ys h k = one_list ms xs ys h k
one_list_at (Some (integer z)) xs ys h k = absurd h
one_list_at (Some (string s)) xs ys h k = absurd h
one_list_at (Some (float x)) xs ys h k = absurd h
one_list_at (Some (boolean b)) xs ys h k = absurd h
one_list_at (Some (datetime t)) xs ys h k = absurd h
one_list_at (Some (array ds)) xs ys h k = absurd h

no_list_at : (d : Option Data) (xs : List Entry) → IsNoTable d → AreEntriesAt d xs → ⊥
no_list_at None xs none h = none
no_list_at (Some (table ms)) xs none h = none
no_list_at (Some (integer z)) xs none h = h
no_list_at (Some (string s)) xs none h = h
no_list_at (Some (float x)) xs none h = h
no_list_at (Some (boolean b)) xs none h = h
no_list_at (Some (datetime t)) xs none h = h
no_list_at (Some (array ds)) xs none h = h

-- ---- numbers

one_number : (e : NumberEntry) (d : Option Data) (n m : ℕ) → GivesNumber e d n → GivesNumber e d m → n ≡ m
one_number e None n m h k = some_same (sym h ∙ k)
one_number e (Some (integer z)) n m h k = pos-is (sym h.0 ∙ k.0)
one_number e (Some (string s)) n m h k = absurd h
one_number e (Some (float x)) n m h k = absurd h
one_number e (Some (boolean b)) n m h k = absurd h
one_number e (Some (datetime t)) n m h k = absurd h
one_number e (Some (array ds)) n m h k = absurd h
one_number e (Some (table ms)) n m h k = absurd h

number_or_fault : (e : NumberEntry) (d : Option Data) (n : ℕ) (c : ClusterCause) → GivesNumber e d n → IsAtFault e d c → ⊥
number_or_fault e None n c h k = none_some k.1 h
number_or_fault e (Some (integer z)) n c h k = false≢true (sym (k.1 n h.0) ∙ h.1)
number_or_fault e (Some (string s)) n c h k = h
number_or_fault e (Some (float x)) n c h k = h
number_or_fault e (Some (boolean b)) n c h k = h
number_or_fault e (Some (datetime t)) n c h k = h
number_or_fault e (Some (array ds)) n c h k = h
number_or_fault e (Some (table ms)) n c h k = h

one_number_fault : (e : NumberEntry) (d : Option Data) (b c : ClusterCause) → IsAtFault e d b → IsAtFault e d c → b ≡ c
one_number_fault e None b c h k = h.0 ∙ sym k.0
one_number_fault e (Some (integer z)) b c h k = h.0 ∙ sym k.0
one_number_fault e (Some (string s)) b c h k = h ∙ sym k
one_number_fault e (Some (float x)) b c h k = h ∙ sym k
one_number_fault e (Some (boolean x)) b c h k = h ∙ sym k
one_number_fault e (Some (datetime t)) b c h k = h ∙ sym k
one_number_fault e (Some (array ds)) b c h k = h ∙ sym k
one_number_fault e (Some (table ms)) b c h k = h ∙ sym k

-- ---- first faults in lists

fine_or_bad : {A C : Type 0} (name_of : A → Bytes) (Fine : A → Type 0) (Bad : A → C → Type 0) → ((x : A) (c : C) → Fine x → Bad x c → ⊥)
    → (xs : List A) (name : Bytes) (c : C) → AllIn Fine xs → IsFirstFaulty name_of Fine Bad xs name c → ⊥
fine_or_bad name_of Fine Bad apart [] name c fine bad = bad
fine_or_bad name_of Fine Bad apart (x ∷ xs) name c fine (inl here) = apart x c fine.0 here.1
fine_or_bad name_of Fine Bad apart (x ∷ xs) name c fine (inr later) = fine_or_bad name_of Fine Bad apart xs name c fine.1 later.1

one_bad : {A C : Type 0} (name_of : A → Bytes) (Fine : A → Type 0) (Bad : A → C → Type 0) → ((x : A) (c : C) → Fine x → Bad x c → ⊥) → ((x : A) (b c : C) → Bad x b → Bad x c → b ≡ c)
    → (xs : List A) (m n : Bytes) (b c : C) → IsFirstFaulty name_of Fine Bad xs m b → IsFirstFaulty name_of Fine Bad xs n c → (m ≡ n) × (b ≡ c)
one_bad name_of Fine Bad apart one [] m n b c h k = absurd h
one_bad name_of Fine Bad apart one (x ∷ xs) m n b c (inl h) (inl k) = (h.0 ∙ sym k.0, one x b c h.1 k.1)
one_bad name_of Fine Bad apart one (x ∷ xs) m n b c (inl h) (inr k) = absurd (apart x b k.0 h.1)
one_bad name_of Fine Bad apart one (x ∷ xs) m n b c (inr h) (inl k) = absurd (apart x c h.0 k.1)
one_bad name_of Fine Bad apart one (x ∷ xs) m n b c (inr h) (inr k) = one_bad name_of Fine Bad apart one xs m n b c h.1 k.1

each_left : {A B : Type 0} (Is : A → B → Type 0) (xs : List A) (ys : List B) → Pairwise Is xs ys → AllIn (λ x. (y : B) × Is x y) xs
each_left Is [] ys h = tt
each_left Is (x ∷ xs) [] h = absurd h
each_left Is (x ∷ xs) (y ∷ ys) h = ((y, h.0), each_left Is xs ys h.1)

-- ---- homes and rows

one_home : (version regions : ℕ) (e : Entry) (h k : Bytes × ℕ) → IsHome version regions e h → IsHome version regions e k → h ≡ k
one_home version regions e h k is is' =
    let names : h.0 ≡ k.0 = is.0 ∙ sym is'.0 in
    let homes : h.1 ≡ k.1 = pos-is (integer-is (sym is.2 ∙ is'.2)) in
    λ i. (names i, homes i)

home_or_bad : (version regions : ℕ) (e : Entry) (c : ClusterCause) → ((h : Bytes × ℕ) × IsHome version regions e h) → IsBadHome version regions e c → ⊥
home_or_bad version regions e c (h, is) (inl bad) = bad.1 (subst (IsUnitKey version) is.0 is.1)
home_or_bad version regions e c (h, is) (inr bad) = (subst (λ d. IsNoHome regions d c) is.2 bad.1).1 h.1 refl is.3

one_no_home : (regions : ℕ) (d : Data) (b c : ClusterCause) → IsNoHome regions d b → IsNoHome regions d c → b ≡ c
one_no_home regions (integer z) b c h k = h.0 ∙ sym k.0
one_no_home regions (string s) b c h k = h ∙ sym k
one_no_home regions (float x) b c h k = h ∙ sym k
one_no_home regions (boolean x) b c h k = h ∙ sym k
one_no_home regions (datetime t) b c h k = h ∙ sym k
one_no_home regions (array ds) b c h k = h ∙ sym k
one_no_home regions (table ms) b c h k = h ∙ sym k

one_bad_home : (version regions : ℕ) (e : Entry) (b c : ClusterCause) → IsBadHome version regions e b → IsBadHome version regions e c → b ≡ c
one_bad_home version regions e b c (inl h) (inl k) = h.0 ∙ sym k.0
one_bad_home version regions e b c (inl h) (inr k) = absurd (h.1 k.0)
one_bad_home version regions e b c (inr h) (inl k) = absurd (k.1 h.0)
one_bad_home version regions e b c (inr h) (inr k) = one_no_home regions e.1 b c h.1 k.1

one_value : (d : Data) (v w : Value) → IsValue d v → IsValue d w → v ≡ w
one_value (integer z) (Int x) (Int y) h k = ap Int (h.0 ∙ sym k.0)
one_value (integer z) (Int x) (Text t) h k = absurd k
one_value (integer z) (Text t) w h k = absurd h
one_value (string s) (Text t) (Text u) h k = ap Text (h.0 ∙ sym k.0)
one_value (string s) (Text t) (Int y) h k = absurd k
one_value (string s) (Int x) w h k = absurd h
one_value (float x) v w h k = absurd h
one_value (boolean b) v w h k = absurd h
one_value (datetime t) v w h k = absurd h
one_value (array ds) v w h k = absurd h
one_value (table ms) v w h k = absurd h

one_row : (e : Entry) (r s : Bytes × Value) → IsRow e r → IsRow e s → r ≡ s
one_row e r s is is' =
    let names : r.0 ≡ s.0 = is.0 ∙ sym is'.0 in
    let values : r.1 ≡ s.1 = one_value e.1 r.1 s.1 is.2 is'.2 in
    λ i. (names i, values i)

value_or_bad : (d : Data) (v : Value) (c : ClusterCause) → IsValue d v → IsNoValue d c → ⊥
value_or_bad (integer z) v c h k = k
value_or_bad (string s) (Text t) c h k = k.1 (subst IsStr h.0 h.1)
value_or_bad (string s) (Int y) c h k = h
value_or_bad (float x) v c h k = h
value_or_bad (boolean b) v c h k = h
value_or_bad (datetime t) v c h k = h
value_or_bad (array ds) v c h k = h
value_or_bad (table ms) v c h k = h

row_or_bad : (e : Entry) (c : ClusterCause) → ((r : Bytes × Value) × IsRow e r) → IsBadRow e c → ⊥
row_or_bad e c (r, is) (inl bad) = bad.1 (subst IsKey is.0 is.1)
row_or_bad e c (r, is) (inr bad) = value_or_bad e.1 r.1 c is.2 bad.1

one_no_value : (d : Data) (b c : ClusterCause) → IsNoValue d b → IsNoValue d c → b ≡ c
one_no_value (integer z) b c h k = absurd h
one_no_value (string s) b c h k = h.0 ∙ sym k.0
one_no_value (float x) b c h k = h ∙ sym k
one_no_value (boolean x) b c h k = h ∙ sym k
one_no_value (datetime t) b c h k = h ∙ sym k
one_no_value (array ds) b c h k = h ∙ sym k
one_no_value (table ms) b c h k = h ∙ sym k

one_bad_row : (e : Entry) (b c : ClusterCause) → IsBadRow e b → IsBadRow e c → b ≡ c
one_bad_row e b c (inl h) (inl k) = h.0 ∙ sym k.0
one_bad_row e b c (inl h) (inr k) = absurd (h.1 k.0)
one_bad_row e b c (inr h) (inl k) = absurd (k.1 h.0)
one_bad_row e b c (inr h) (inr k) = one_no_value e.1 b c h.1 k.1

-- ---- procedures

one_procs : (d : Option Data) (p q : List ProcTree) → GivesProcs d p → GivesProcs d q → p ≡ q
one_procs None p q h k = h ∙ sym k
one_procs (Some (string s)) p q h k = ok-is (Ok p) (Ok q) p q refl refl (one_outcome s (Ok p) (Ok q) h k)
one_procs (Some (integer z)) p q h k = absurd h
one_procs (Some (float x)) p q h k = absurd h
one_procs (Some (boolean b)) p q h k = absurd h
one_procs (Some (datetime t)) p q h k = absurd h
one_procs (Some (array ds)) p q h k = absurd h
one_procs (Some (table ms)) p q h k = absurd h

procs_or_fault : (d : Option Data) (p : List ProcTree) (f : ClusterFault) → GivesProcs d p → IsProcsFaultAt d f → ⊥
procs_or_fault None p f h k = k
procs_or_fault (Some (string s)) p f h k = ok-err (one_outcome s (Ok p) (Err k.0) h k.1)
procs_or_fault (Some (integer z)) p f h k = h
procs_or_fault (Some (float x)) p f h k = h
procs_or_fault (Some (boolean b)) p f h k = h
procs_or_fault (Some (datetime t)) p f h k = h
procs_or_fault (Some (array ds)) p f h k = h
procs_or_fault (Some (table ms)) p f h k = h

told_once : (e : ProcError) (f g : ClusterFault) → IsToldAs e f → IsToldAs e g → f ≡ g
told_once (refused.Syntax at) f g h k = h ∙ sym k
told_once (refused.Unknown at) f g h k = h ∙ sym k
told_once (refused.Kind at) f g h k = h ∙ sym k
told_once (refused.Twice at) f g h k = h ∙ sym k
told_once (refused.TooMany at) f g h k = h ∙ sym k
told_once refused.NoMemory f g h k = absurd h

one_procs_fault : (d : Option Data) (f g : ClusterFault) → IsProcsFaultAt d f → IsProcsFaultAt d g → f ≡ g
one_procs_fault None f g h k = absurd h
one_procs_fault (Some (string s)) f g h k =
    told_once h.0 f g h.2 (subst (λ e. IsToldAs e g) (err-is (Err k.0) (Err h.0) k.0 h.0 refl refl (one_outcome s (Err k.0) (Err h.0) k.1 h.1)) k.2)
one_procs_fault (Some (integer z)) f g h k = h ∙ sym k
one_procs_fault (Some (float x)) f g h k = h ∙ sym k
one_procs_fault (Some (boolean b)) f g h k = h ∙ sym k
one_procs_fault (Some (datetime t)) f g h k = h ∙ sym k
one_procs_fault (Some (array ds)) f g h k = h ∙ sym k
one_procs_fault (Some (table ms)) f g h k = h ∙ sym k

-- ---- the parts of a document

abbrev Unknown : Entry → ClusterCause → Type 0
Unknown e c = (c ≡ cause.Unknown) × ¬ (IsKnown e)

known_or_fault : (top : Members) (f : ClusterFault) → AreKnown top → IsUnknownFault top f → ⊥
known_or_fault top f (xs, are, all) (name, is, (ys, are', bad)) =
    fine_or_bad (λ e. e.0) IsKnown Unknown (λ e c fine un. un.1 fine) xs name cause.Unknown all
    (subst (λ es. IsFirstFaulty (λ e. e.0) IsKnown Unknown es name cause.Unknown) (one_list top ys xs are' are) bad)

one_unknown_fault : (top : Members) (f g : ClusterFault) → IsUnknownFault top f → IsUnknownFault top g → f ≡ g
one_unknown_fault top f g (m, is, (xs, are, bad)) (n, is', (ys, are', bad')) =
    let same = one_bad (λ e. e.0) IsKnown Unknown (λ e c fine un. un.1 fine) (λ e b c h k. h.0 ∙ sym k.0) xs m n cause.Unknown cause.Unknown bad
    (subst (λ es. IsFirstFaulty (λ e. e.0) IsKnown Unknown es n cause.Unknown) (one_list top ys xs are' are) bad') in
    is ∙ ap (λ v. record { place = place.Entry v; cause = cause.Unknown }) same.0 ∙ sym is'

abbrev FineNumber : Members → NumberEntry → Type 0
FineNumber top e = (n : ℕ) × HasNumber top e n

number_apart : (top : Members) (e : NumberEntry) (c : ClusterCause) → FineNumber top e → HasBadNumber top e c → ⊥
number_apart top e c fine bad = number_or_fault e (get_member e.name top) fine.0 c fine.1 bad

numbers_or_fault : (top : Members) (n : Numbers) (f : ClusterFault) → HasNumbers top n → IsNumberFault top f → ⊥
numbers_or_fault top n f has (name, why, is, bad) =
    fine_or_bad (λ e. e.name) (FineNumber top) (HasBadNumber top) (number_apart top) number_entries name why
    ((n.regions, has.0), ((n.version, has.1), ((n.workers, has.2), ((n.tries, has.3), ((n.drop, has.4), ((n.repeat, has.5), tt)))))) bad

one_numbers_fault : (top : Members) (f g : ClusterFault) → IsNumberFault top f → IsNumberFault top g → f ≡ g
one_numbers_fault top f g (m, why, is, bad) (n, why', is', bad') =
    let same = one_bad (λ e. e.name) (FineNumber top) (HasBadNumber top) (number_apart top) (λ e b c h k. one_number_fault e (get_member e.name top) b c h k) number_entries m n why why' bad bad' in
    is ∙ (λ i. record { place = place.Entry (same.0 i); cause = same.1 i }) ∙ sym is'

abbrev FineHome : ℕ → ℕ → Entry → Type 0
FineHome version regions e = (h : Bytes × ℕ) × IsHome version regions e h

homes_or_fault : (top : Members) (version regions : ℕ) (homes : List (Bytes × ℕ)) (f : ClusterFault) → HasHomes top version regions homes → IsHomesFault top version regions f → ⊥
homes_or_fault top version regions homes f (xs, are, pairs) (inl none) = no_list_at (get_member (codes "homes") top) xs none.0 are
homes_or_fault top version regions homes f (xs, are, pairs) (inr (name, why, is, (ys, are', bad))) =
    fine_or_bad (λ e. e.0) (FineHome version regions) (IsBadHome version regions) (home_or_bad version regions) xs name why (each_left (IsHome version regions) xs homes pairs)
    (subst (λ es. IsFirstFaulty (λ e. e.0) (FineHome version regions) (IsBadHome version regions) es name why) (one_list_at (get_member (codes "homes") top) ys xs are' are) bad)

one_homes_fault : (top : Members) (version regions : ℕ) (f g : ClusterFault) → IsHomesFault top version regions f → IsHomesFault top version regions g → f ≡ g
one_homes_fault top version regions f g (inl h) (inl k) = h.1 ∙ sym k.1
one_homes_fault top version regions f g (inl h) (inr (n, why, is, (xs, are, bad))) = absurd (no_list_at (get_member (codes "homes") top) xs h.0 are)
one_homes_fault top version regions f g (inr (n, why, is, (xs, are, bad))) (inl k) = absurd (no_list_at (get_member (codes "homes") top) xs k.0 are)
one_homes_fault top version regions f g (inr (m, why, is, (xs, are, bad))) (inr (n, why', is', (ys, are', bad'))) =
    let same = one_bad (λ e. e.0) (FineHome version regions) (IsBadHome version regions) (home_or_bad version regions) (one_bad_home version regions) xs m n why why' bad
    (subst (λ es. IsFirstFaulty (λ e. e.0) (FineHome version regions) (IsBadHome version regions) es n why') (one_list_at (get_member (codes "homes") top) ys xs are' are) bad') in
    is ∙ (λ i. record { place = place.Home (same.0 i); cause = same.1 i }) ∙ sym is'

one_homes : (top : Members) (version regions : ℕ) (h k : List (Bytes × ℕ)) → HasHomes top version regions h → HasHomes top version regions k → h ≡ k
one_homes top version regions h k (xs, are, pairs) (ys, are', pairs') =
    pairwise_one (IsHome version regions) (one_home version regions) xs h k pairs (subst (λ es. Pairwise (IsHome version regions) es k) (one_list_at (get_member (codes "homes") top) ys xs are' are) pairs')

abbrev FineRow : Entry → Type 0
FineRow e = (r : Bytes × Value) × IsRow e r

rows_or_fault : (top : Members) (rows : List (Bytes × Value)) (f : ClusterFault) → HasRows top rows → IsRowsFault top f → ⊥
rows_or_fault top rows f (xs, are, pairs) (inl none) = no_list_at (get_member (codes "rows") top) xs none.0 are
rows_or_fault top rows f (xs, are, pairs) (inr (name, why, is, (ys, are', bad))) =
    fine_or_bad (λ e. e.0) FineRow IsBadRow row_or_bad xs name why (each_left IsRow xs rows pairs)
    (subst (λ es. IsFirstFaulty (λ e. e.0) FineRow IsBadRow es name why) (one_list_at (get_member (codes "rows") top) ys xs are' are) bad)

one_rows_fault : (top : Members) (f g : ClusterFault) → IsRowsFault top f → IsRowsFault top g → f ≡ g
one_rows_fault top f g (inl h) (inl k) = h.1 ∙ sym k.1
one_rows_fault top f g (inl h) (inr (n, why, is, (xs, are, bad))) = absurd (no_list_at (get_member (codes "rows") top) xs h.0 are)
one_rows_fault top f g (inr (n, why, is, (xs, are, bad))) (inl k) = absurd (no_list_at (get_member (codes "rows") top) xs k.0 are)
one_rows_fault top f g (inr (m, why, is, (xs, are, bad))) (inr (n, why', is', (ys, are', bad'))) =
    let same = one_bad (λ e. e.0) FineRow IsBadRow row_or_bad one_bad_row xs m n why why' bad
    (subst (λ es. IsFirstFaulty (λ e. e.0) FineRow IsBadRow es n why') (one_list_at (get_member (codes "rows") top) ys xs are' are) bad') in
    is ∙ (λ i. record { place = place.Row (same.0 i); cause = same.1 i }) ∙ sym is'

one_rows : (top : Members) (r s : List (Bytes × Value)) → HasRows top r → HasRows top s → r ≡ s
one_rows top r s (xs, are, pairs) (ys, are', pairs') =
    pairwise_one IsRow one_row xs r s pairs (subst (λ es. Pairwise IsRow es s) (one_list_at (get_member (codes "rows") top) ys xs are' are) pairs')

-- ---- documents and files

one_of_document : (top : Members) (c d : Cluster) → IsClusterOf top c → IsClusterOf top d → c ≡ d
one_of_document top c d is is' =
    let regions : c.regions ≡ d.regions = one_number regions_entry (get_member regions_entry.name top) c.regions d.regions is.numbers.0 is'.numbers.0 in
    let version : c.version ≡ d.version = one_number version_entry (get_member version_entry.name top) c.version d.version is.numbers.1 is'.numbers.1 in
    let workers : c.workers ≡ d.workers = one_number workers_entry (get_member workers_entry.name top) c.workers d.workers is.numbers.2 is'.numbers.2 in
    let tries : c.tries ≡ d.tries = one_number tries_entry (get_member tries_entry.name top) c.tries d.tries is.numbers.3 is'.numbers.3 in
    let drop : c.drop ≡ d.drop = one_number drop_entry (get_member drop_entry.name top) c.drop d.drop is.numbers.4 is'.numbers.4 in
    let repeat : c.repeat ≡ d.repeat = one_number repeat_entry (get_member repeat_entry.name top) c.repeat d.repeat is.numbers.5 is'.numbers.5 in
    let procs : c.procs ≡ d.procs = one_procs (get_member (codes "procs") top) c.procs d.procs is.procs is'.procs in
    let homes : c.homes ≡ d.homes = one_homes top c.version c.regions c.homes d.homes is.homes
    (subst (λ v. HasHomes top v c.regions d.homes) (sym version) (subst (λ r. HasHomes top d.version r d.homes) (sym regions) is'.homes)) in
    let rows : c.rows ≡ d.rows = one_rows top c.rows d.rows is.rows is'.rows in
    λ i. record { version = version i; regions = regions i; workers = workers i; tries = tries i; drop = drop i; repeat = repeat i; procs = procs i; homes = homes i; rows = rows i }

cluster_or_fault : (top : Members) (c : Cluster) (f : ClusterFault) → IsClusterOf top c → IsFaultOf top f → ⊥
cluster_or_fault top c f is (inl unknown) = known_or_fault top f is.known unknown
cluster_or_fault top c f is (inr (known, inl number)) = numbers_or_fault top (numbers_of c) f is.numbers number
cluster_or_fault top c f is (inr (known, inr (n, has, inl procs))) = procs_or_fault (get_member (codes "procs") top) c.procs f is.procs procs
cluster_or_fault top c f is (inr (known, inr (n, has, inr (ps, inl homes)))) =
    homes_or_fault top c.version c.regions c.homes f is.homes
    (subst (λ v. IsHomesFault top v c.regions f) (one_number version_entry (get_member version_entry.name top) n.version c.version has.1 is.numbers.1)
    (subst (λ r. IsHomesFault top n.version r f) (one_number regions_entry (get_member regions_entry.name top) n.regions c.regions has.0 is.numbers.0) homes))
cluster_or_fault top c f is (inr (known, inr (n, has, inr (ps, inr (hs, rows))))) = rows_or_fault top c.rows f is.rows rows

-- faults that are reported in two steps are one, where those of each step are and the steps are apart
staged : (Bad Later : ClusterFault → Type 0) (Fine : Type 0) → ((f g : ClusterFault) → Bad f → Bad g → f ≡ g) → ((f : ClusterFault) → Fine → Bad f → ⊥)
    → ((f g : ClusterFault) → Later f → Later g → f ≡ g) → (f g : ClusterFault) → Bad f ⊎ (Fine × Later f) → Bad g ⊎ (Fine × Later g) → f ≡ g
staged Bad Later Fine one apart later f g (inl h) (inl k) = one f g h k
staged Bad Later Fine one apart later f g (inl h) (inr k) = absurd (apart f k.0 h)
staged Bad Later Fine one apart later f g (inr h) (inl k) = absurd (apart g h.0 k)
staged Bad Later Fine one apart later f g (inr h) (inr k) = later f g h.1 k.1

abbrev AfterProcs : Members → ℕ → ℕ → ClusterFault → Type 0
AfterProcs top version regions fault =
    IsHomesFault top version regions fault ⊎ (((homes : List (Bytes × ℕ)) × HasHomes top version regions homes) × IsRowsFault top fault)

abbrev AfterNumbers : Members → ℕ → ℕ → ClusterFault → Type 0
AfterNumbers top version regions fault =
    IsProcsFault top fault ⊎ (((procs : List ProcTree) × HasProcs top procs) × AfterProcs top version regions fault)

abbrev AfterKnown : Members → ClusterFault → Type 0
AfterKnown top fault =
    IsNumberFault top fault ⊎ ((numbers : Numbers) × HasNumbers top numbers × AfterNumbers top numbers.version numbers.regions fault)

one_after_procs : (top : Members) (version regions : ℕ) (f g : ClusterFault) → AfterProcs top version regions f → AfterProcs top version regions g → f ≡ g
one_after_procs top version regions =
    staged (IsHomesFault top version regions) (IsRowsFault top) ((homes : List (Bytes × ℕ)) × HasHomes top version regions homes)
    (one_homes_fault top version regions) (λ f fine bad. homes_or_fault top version regions fine.0 f fine.1 bad) (one_rows_fault top)

one_after_numbers : (top : Members) (version regions : ℕ) (f g : ClusterFault) → AfterNumbers top version regions f → AfterNumbers top version regions g → f ≡ g
one_after_numbers top version regions =
    staged (IsProcsFault top) (AfterProcs top version regions) ((procs : List ProcTree) × HasProcs top procs)
    (one_procs_fault (get_member (codes "procs") top)) (λ f fine bad. procs_or_fault (get_member (codes "procs") top) fine.0 f fine.1 bad) (one_after_procs top version regions)

one_after_known : (top : Members) (f g : ClusterFault) → AfterKnown top f → AfterKnown top g → f ≡ g
one_after_known top f g (inl h) (inl k) = one_numbers_fault top f g h k
one_after_known top f g (inl h) (inr (n, has, later)) = absurd (numbers_or_fault top n f has h)
one_after_known top f g (inr (n, has, later)) (inl k) = absurd (numbers_or_fault top n g has k)
one_after_known top f g (inr (n, has, later)) (inr (m, has', later')) =
    one_after_numbers top n.version n.regions f g later
    (subst (λ v. AfterNumbers top v n.regions g) (one_number version_entry (get_member version_entry.name top) m.version n.version has'.1 has.1)
    (subst (λ r. AfterNumbers top m.version r g) (one_number regions_entry (get_member regions_entry.name top) m.regions n.regions has'.0 has.0) later'))

one_fault_of : (top : Members) (f g : ClusterFault) → IsFaultOf top f → IsFaultOf top g → f ≡ g
one_fault_of top = staged (IsUnknownFault top) (AfterKnown top) (AreKnown top) (one_unknown_fault top) (known_or_fault top) (one_after_known top)

pub one_cluster : (file : Bytes) (c d : Cluster) → IsCluster file c → IsCluster file d → c ≡ d
one_cluster file c d (top, doc, is) (top', doc', is') =
    one_of_document top c d is (subst (λ t. IsClusterOf t d) (one_document file top' top doc' doc) is')

pub no_fault : (file : Bytes) (c : Cluster) (f : ClusterFault) → IsCluster file c → IsClusterFault file f → ⊥
no_fault file c f (top, doc, is) (inl none) = none.0 top doc
no_fault file c f (top, doc, is) (inr (top', doc', fault)) =
    cluster_or_fault top c f is (subst (λ t. IsFaultOf t f) (one_document file top' top doc' doc) fault)

pub one_fault : (file : Bytes) (f g : ClusterFault) → IsClusterFault file f → IsClusterFault file g → f ≡ g
one_fault file f g (inl h) (inl k) = h.1 ∙ sym k.1
one_fault file f g (inl h) (inr (top, doc, fault)) = absurd (h.0 top doc)
one_fault file f g (inr (top, doc, fault)) (inl k) = absurd (k.0 top doc)
one_fault file f g (inr (top, doc, fault)) (inr (top', doc', fault')) =
    one_fault_of top f g fault (subst (λ t. IsFaultOf t g) (one_document file top' top doc' doc) fault')
