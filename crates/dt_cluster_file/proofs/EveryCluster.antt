-- Every file is a cluster or has a fault: what each step of the reading comes to is decided, in the order in which faults are reported.
-- That the tables of a document are in order, is what `TomlTables` gives.
use Rattle.std.proofs.Common.{◌≡◌, ◌⊎◌, inl, inr, ℕ, ◌<◌, pos, negsuc, Bool, true, false, Ordering, Less, Equal, Greater, nat_cmp, List, [], ◌∷◌}
use Rattle.std.proofs.Common.{map, length, ◌≤◌, ◌^◌, Option, Some, None, Ok, Err, codes, refl, sym, ◌∙◌, subst, arith}
use Rattle.std.proofs.lemmas.Option.{none-some, same_Some}
use Rattle.std.proofs.lemmas.Bool.{false≢true}
use Rattle.std.proofs.lemmas.Str.{IsUtf8-from_is_utf8, is_utf8-from_IsUtf8}
use Rattle.std.specs.Str.{is_utf8}
use Rattle.std.specs.Ordering.{match_ordering}
use Rattle.std.specs.Cmp.Lexicographic.{slice_cmp}
use Rattle.std.specs.List.{AllByRecursion}
use Rattle.std.specs.List.Sorted.{IsStrictlySortedBy}
use Rattle.dt_lists.specs.Lists.{AllIn, Either, Pairwise}
use Rattle.dt_lists.proofs.Callers.{all_put, either_and, either_has}
use Rattle.dt_text.specs.Texts.{Bytes, IsKey, IsStr}
use Rattle.dt_text.proofs.Callers.{either_bytes, either_key, either_lt, either_str}
use Rattle.dt_text.specs.declared.value.Value.{Value}
use Rattle.dt_text.specs.declared.value.Value.TheVariants.{Int, Text}
use Rattle.dt_access.specs.Granules.{IsUnitKey, unit_of}
use Rattle.dt_proc.specs.Tree.{ProcTree}
use Rattle.dt_proc.specs.Builtin.{builtin_procs}
use Rattle.dt_proc.specs.Outcome.{Outcome}
use Rattle.dt_proc.specs.SecondPass.{Checked}
use Rattle.dt_proc.specs.declared.error.ProcError.TheVariants as refused
use Rattle.dt_proc.proofs.Callers.{every_text}
use Rattle.toml.specs.Data.{Data, string, integer, float, boolean, datetime, array, table, Members, no_members, member, get_member}
use Rattle.toml.specs.Parse.{parse_document}
use Rattle.dt_cluster_file.specs.Document.{Entry, IsDocument, entries_of, AreEntries, AreEntriesAt, IsNoTable, IsFirstFaulty}
use Rattle.dt_cluster_file.specs.Numbers.{NumberEntry, GivesNumber, IsAtFault, HasNumber, HasBadNumber}
use Rattle.dt_cluster_file.specs.Rows.{IsHome, IsBadHome, IsRow, IsBadRow}
use Rattle.dt_cluster_file.specs.File.{known_names, IsKnown, AreKnown, IsUnknownFault, HasNumbers, number_entries, IsNumberFault, GivesProcs, IsProcsFaultAt}
use Rattle.dt_cluster_file.specs.File.{HasHomes, IsHomesFault, HasRows, IsRowsFault, IsClusterOf, IsFaultOf, IsCluster, IsClusterFault}
use Rattle.dt_cluster_file.specs.ReaderInner.{HasShortProcs}
use Rattle.dt_cluster.specs.declared.cluster.Cluster.{Cluster}
use Rattle.dt_cluster_file.specs.declared.numbers.Numbers.{Numbers}
use Rattle.dt_cluster_file.specs.declared.error.ClusterCause.{ClusterCause}
use Rattle.dt_cluster_file.specs.declared.error.ClusterCause.TheVariants as cause
use Rattle.dt_cluster_file.specs.declared.error.ClusterPlace.TheVariants as place
use Rattle.dt_cluster_file.specs.declared.error.ClusterFault.{ClusterFault}
use Rattle.dt_cluster_file.proofs.OneCluster.{pos-is}
use Rattle.dt_cluster_file.proofs.TomlTables.{AreMembersInOrder, InOrder, IsBelowNames, document_ordered}

-- ---- lists of which the first faulty item is reported

-- each item is fine, or the first that is not has a fault
abbrev Judged : {A C : Type 0} → (A → Bytes) → (A → Type 0) → (A → C → Type 0) → List A → Type 0
Judged {A} {C} name_of Fine Bad xs = AllIn Fine xs ⊎ ((name : Bytes) × (c : C) × IsFirstFaulty name_of Fine Bad xs name c)

judge : {A C : Type 0} (name_of : A → Bytes) (Known Fine : A → Type 0) (Bad : A → C → Type 0) → ((x : A) → Known x → Fine x ⊎ ((c : C) × Bad x c))
    → (xs : List A) → AllIn Known xs → Judged name_of Fine Bad xs
judge name_of Known Fine Bad decide [] known = inl tt
judge {A} {C} name_of Known Fine Bad decide (x ∷ xs) known = by (decide x known.0) (judge name_of Known Fine Bad decide xs known.1)
  where
    by : Fine x ⊎ ((c : C) × Bad x c) → Judged name_of Fine Bad xs → Judged name_of Fine Bad (x ∷ xs)
    by (inl fine) (inl all) = inl (fine, all)
    by (inl fine) (inr (name, c, first)) = inr (name, c, inr (fine, first))
    by (inr (c, bad)) rest = inr (name_of x, c, inl (refl, bad))

-- nothing is known of each item
all_items : {A : Type 0} (xs : List A) → AllIn (λ x. Unit {0}) xs
all_items xs = all_put _ xs (λ x there. tt)

-- one for each item
chosen : {A B : Type 0} (Is : A → B → Type 0) (xs : List A) → AllIn (λ x. (y : B) × Is x y) xs → (ys : List B) × Pairwise Is xs ys
chosen Is [] all = ([], tt)
chosen Is (x ∷ xs) all = let rest = chosen Is xs all.1 in (all.0.0 ∷ rest.0, (all.0.1, rest.1))

-- ---- entries

names_below : (k : Bytes) (ms : Members) → IsBelowNames k ms → AllByRecursion (λ y. slice_cmp nat_cmp k y ≡ Less) (map (λ (e : Entry). e.0) (entries_of ms))
names_below k no_members h = h
names_below k (member l d ms) h = (h.0, names_below k ms h.1)

names_ascend : (n : ℕ) (ms : Members) → AreMembersInOrder n ms → IsStrictlySortedBy (slice_cmp nat_cmp) (map (λ (e : Entry). e.0) (entries_of ms))
unfolding IsStrictlySortedBy
names_ascend n no_members h = tt
names_ascend n (member k d ms) h = (names_below k ms h.0, names_ascend n ms h.2)

-- the entries of a table in order are listed
table_listed : (n : ℕ) (ms : Members) → AreMembersInOrder n ms → AreEntries ms (entries_of ms)
table_listed n ms h = record { ascending = names_ascend n ms h; same = refl }

each_in_order : (n : ℕ) (ms : Members) → AreMembersInOrder n ms → AllIn (λ (e : Entry). InOrder n e.1) (entries_of ms)
each_in_order n no_members h = tt
each_in_order n (member k d ms) h = (h.1, each_in_order n ms h.2)

-- what stands at a name of a table in order is in order
pub member_in_order : (n : ℕ) (k : Bytes) (ms : Members) (d : Data) → AreMembersInOrder n ms → get_member k ms ≡ Some d → InOrder n d
member_in_order n k no_members d h e = absurd (none-some d e)
member_in_order n k (member l x ms) d h e = by (slice_cmp nat_cmp k l) (member_in_order n k ms d h.2) e
  where
    by : (o : Ordering) → (get_member k ms ≡ Some d → InOrder n d) → match_ordering o (get_member k ms) (Some x) (get_member k ms) ≡ Some d → InOrder n d
    by Less later e = later e
    by Equal later e = subst (InOrder n) (same_Some x d e) h.1
    by Greater later e = later e

-- what stands at a name is no table, or is one, or nothing, whose entries are listed
abbrev ListedAt : ℕ → Option Data → Type 0
ListedAt n at = IsNoTable at ⊎ ((entries : List Entry) × AreEntriesAt at entries × AllIn (λ (e : Entry). InOrder n e.1) entries)

listed_at : (n : ℕ) (at : Option Data) → ((d : Data) → at ≡ Some d → InOrder n d) → ListedAt n at
listed_at n None h = inr ([], refl, tt)
listed_at n (Some (table ms)) h = let order = h (table ms) refl in inr (entries_of ms, table_listed n ms order, each_in_order n ms order)
listed_at n (Some (string s)) h = inl tt
listed_at n (Some (integer z)) h = inl tt
listed_at n (Some (float x)) h = inl tt
listed_at n (Some (boolean b)) h = inl tt
listed_at n (Some (datetime t)) h = inl tt
listed_at n (Some (array ds)) h = inl tt

-- ---- names at the top

abbrev IsUnknown : Entry → ClusterCause → Type 0
IsUnknown e c = (c ≡ cause.Unknown) × ¬ (IsKnown e)

known_or : (e : Entry) → IsKnown e ⊎ ((c : ClusterCause) × IsUnknown e c)
known_or e = by (either_has known_names e.0 either_bytes)
  where
    by : Either (IsKnown e) → IsKnown e ⊎ ((c : ClusterCause) × IsUnknown e c)
    by (inl known) = inl known
    by (inr not_so) = inr (cause.Unknown, (refl, not_so))

told_unknown : (entries : List Entry) (name : Bytes) (c : ClusterCause) → IsFirstFaulty (λ e. e.0) IsKnown IsUnknown entries name c
    → IsFirstFaulty (λ e. e.0) IsKnown IsUnknown entries name cause.Unknown
told_unknown [] name c h = h
told_unknown (e ∷ entries) name c (inl (is, (why, not_so))) = inl (is, (refl, not_so))
told_unknown (e ∷ entries) name c (inr (known, later)) = inr (known, told_unknown entries name c later)

names_or : (n : ℕ) (top : Members) → AreMembersInOrder n top → AreKnown top ⊎ ((fault : ClusterFault) × IsUnknownFault top fault)
names_or n top order = by (judge (λ (e : Entry). e.0) (λ e. Unit {0}) IsKnown IsUnknown (λ e known. known_or e) (entries_of top) (all_items (entries_of top)))
  where
    by : Judged (λ (e : Entry). e.0) IsKnown IsUnknown (entries_of top) → AreKnown top ⊎ ((fault : ClusterFault) × IsUnknownFault top fault)
    by (inl all) = inl (entries_of top, table_listed n top order, all)
    by (inr (name, c, first)) =
        inr (record { place = place.Entry name; cause = cause.Unknown }, (name, refl, (entries_of top, table_listed n top order, told_unknown (entries_of top) name c first)))

-- ---- numbers

-- a number below 0 is no natural number
not_natural : {n m : ℕ} → negsuc n ≡ pos m → ⊥
not_natural e = cc

abbrev NumberOr : NumberEntry → Option Data → Type 0
NumberOr e at = ((n : ℕ) × GivesNumber e at n) ⊎ ((c : ClusterCause) × IsAtFault e at c)

number_or : (e : NumberEntry) (at : Option Data) → NumberOr e at
number_or e None = by e.absent refl
  where
    by : (o : Option ℕ) → e.absent ≡ o → NumberOr e None
    by None is = inr (cause.Missing, (refl, is))
    by (Some n) is = inl (n, is)
number_or e (Some (integer (pos n))) = by (e.allows n) refl
  where
    by : (b : Bool) → e.allows n ≡ b → NumberOr e (Some (integer (pos n)))
    by true is = inl (n, (refl, is))
    by false is = inr (cause.Range, (refl, λ m same. subst (λ k. e.allows k ≡ false) (pos-is same) is))
number_or e (Some (integer (negsuc n))) = inr (cause.Range, (refl, λ m same. absurd (not_natural same)))
number_or e (Some (string s)) = inr (cause.Kind, refl)
number_or e (Some (float x)) = inr (cause.Kind, refl)
number_or e (Some (boolean b)) = inr (cause.Kind, refl)
number_or e (Some (datetime t)) = inr (cause.Kind, refl)
number_or e (Some (array ds)) = inr (cause.Kind, refl)
number_or e (Some (table ms)) = inr (cause.Kind, refl)

-- the numbers of a document, or the fault of the first that has one
abbrev Numbered : Members → Type 0
Numbered top = (numbers : Numbers) × HasNumbers top numbers

numbers_or : (top : Members) → Numbered top ⊎ ((fault : ClusterFault) × IsNumberFault top fault)
numbers_or top =
    by (judge (λ e. e.name) (λ e. Unit {0}) (λ e. (n : ℕ) × HasNumber top e n) (HasBadNumber top) (λ e known. number_or e (get_member e.name top)) number_entries (all_items number_entries))
  where
    by : Judged (λ e. e.name) (λ e. (n : ℕ) × HasNumber top e n) (HasBadNumber top) number_entries → Numbered top ⊎ ((fault : ClusterFault) × IsNumberFault top fault)
    by (inl (regions, (version, (workers, (tries, (drop, (repeat, none))))))) =
        inl (record { regions = regions.0; version = version.0; workers = workers.0; tries = tries.0; drop = drop.0; repeat = repeat.0 }, (regions.1, version.1, workers.1, tries.1, drop.1, repeat.1))
    by (inr (name, why, first)) = inr (record { place = place.Entry name; cause = why }, (name, why, refl, first))

-- ---- procedures

abbrev ProcsOr : Option Data → Type 0
ProcsOr at = ((procs : List ProcTree) × GivesProcs at procs) ⊎ ((fault : ClusterFault) × IsProcsFaultAt at fault)

text_or : (text : Bytes) (told : Checked (List ProcTree)) → Outcome text told → ProcsOr (Some (string text))
text_or text (Ok procs) outcome = inl (procs, outcome)
text_or text (Err (refused.Syntax at)) outcome = inr (record { place = place.Procs at; cause = cause.Syntax }, (refused.Syntax at, outcome, refl))
text_or text (Err (refused.Unknown at)) outcome = inr (record { place = place.Procs at; cause = cause.UnknownName }, (refused.Unknown at, outcome, refl))
text_or text (Err (refused.Kind at)) outcome = inr (record { place = place.Procs at; cause = cause.Kind }, (refused.Kind at, outcome, refl))
text_or text (Err (refused.Twice at)) outcome = inr (record { place = place.Procs at; cause = cause.Twice }, (refused.Twice at, outcome, refl))
text_or text (Err (refused.TooMany at)) outcome = inr (record { place = place.Procs at; cause = cause.TooMany }, (refused.TooMany at, outcome, refl))
text_or text (Err refused.NoMemory) outcome = absurd outcome

-- the fault where the procedures are given as something else than a text
abbrev no_text : ClusterFault
no_text = record { place = place.Entry (codes "procs"); cause = cause.Kind }

procs_or : (at : Option Data) → ProcsOr at
procs_or None = inl (builtin_procs, refl)
procs_or (Some (string text)) = let told = every_text text in text_or text told.0 told.1
procs_or (Some (integer z)) = inr (no_text, refl)
procs_or (Some (float x)) = inr (no_text, refl)
procs_or (Some (boolean b)) = inr (no_text, refl)
procs_or (Some (datetime t)) = inr (no_text, refl)
procs_or (Some (array ds)) = inr (no_text, refl)
procs_or (Some (table ms)) = inr (no_text, refl)

-- ---- homes

abbrev HomeOr : ℕ → ℕ → Entry → Type 0
HomeOr version regions e = ((h : Bytes × ℕ) × IsHome version regions e h) ⊎ ((c : ClusterCause) × IsBadHome version regions e c)

home_value_or : (version regions : ℕ) (name : Bytes) (d : Data) → IsUnitKey version name → HomeOr version regions (name, d)
home_value_or version regions name (integer (pos n)) key = by (either_lt n regions)
  where
    by : Either (n < regions) → HomeOr version regions (name, integer (pos n))
    by (inl low) = inl ((name, n), (refl, key, refl, low))
    by (inr high) = inr (cause.Range, inr (key, (refl, λ m same low. high (subst (λ k. k < regions) (sym (pos-is same)) low))))
home_value_or version regions name (integer (negsuc n)) key = inr (cause.Range, inr (key, (refl, λ m same. absurd (not_natural same))))
home_value_or version regions name (string s) key = inr (cause.Kind, inr (key, refl))
home_value_or version regions name (float x) key = inr (cause.Kind, inr (key, refl))
home_value_or version regions name (boolean b) key = inr (cause.Kind, inr (key, refl))
home_value_or version regions name (datetime t) key = inr (cause.Kind, inr (key, refl))
home_value_or version regions name (array ds) key = inr (cause.Kind, inr (key, refl))
home_value_or version regions name (table ms) key = inr (cause.Kind, inr (key, refl))

home_or : (version regions : ℕ) (e : Entry) → HomeOr version regions e
home_or version regions (name, d) = by (either_and _ _ (either_key name) (either_bytes (unit_of version name) name))
  where
    by : Either (IsUnitKey version name) → HomeOr version regions (name, d)
    by (inl key) = home_value_or version regions name d key
    by (inr not_so) = inr (cause.BadKey, inl (refl, not_so))

abbrev HomesOr : Members → ℕ → ℕ → Type 0
HomesOr top version regions = ((homes : List (Bytes × ℕ)) × HasHomes top version regions homes) ⊎ ((fault : ClusterFault) × IsHomesFault top version regions fault)

homes_or : (n version regions : ℕ) (top : Members) → AreMembersInOrder n top → HomesOr top version regions
homes_or n version regions top order = by (listed_at n (get_member (codes "homes") top) (λ d is. member_in_order n (codes "homes") top d order is))
  where
    judged : (entries : List Entry) → AreEntriesAt (get_member (codes "homes") top) entries
        → Judged (λ (e : Entry). e.0) (λ e. (h : Bytes × ℕ) × IsHome version regions e h) (IsBadHome version regions) entries → HomesOr top version regions
    judged entries are (inl all) = let homes = chosen (IsHome version regions) entries all in inl (homes.0, (entries, are, homes.1))
    judged entries are (inr (name, why, first)) = inr (record { place = place.Home name; cause = why }, inr (name, why, refl, (entries, are, first)))

    by : ListedAt n (get_member (codes "homes") top) → HomesOr top version regions
    by (inl none) = inr (record { place = place.Entry (codes "homes"); cause = cause.Kind }, inl (none, refl))
    by (inr (entries, are, each)) =
        judged entries are (judge (λ (e : Entry). e.0) (λ e. Unit {0}) (λ e. (h : Bytes × ℕ) × IsHome version regions e h) (IsBadHome version regions)
        (λ e known. home_or version regions e) entries (all_items entries))

-- ---- rows

abbrev RowOr : Entry → Type 0
RowOr e = ((r : Bytes × Value) × IsRow e r) ⊎ ((c : ClusterCause) × IsBadRow e c)

row_value_or : (n : ℕ) (name : Bytes) (d : Data) → InOrder n d → IsKey name → RowOr (name, d)
row_value_or n name (integer z) fits key = inl ((name, Int z), (refl, key, (refl, fits)))
row_value_or n name (string s) fits key = by (either_str s)
  where
    by : Either (IsStr s) → RowOr (name, string s)
    by (inl is) = inl ((name, Text s), (refl, key, (refl, is)))
    by (inr not_so) = inr (cause.BadText, inr (key, (refl, not_so)))
row_value_or n name (float x) fits key = inr (cause.Kind, inr (key, refl))
row_value_or n name (boolean b) fits key = inr (cause.Kind, inr (key, refl))
row_value_or n name (datetime t) fits key = inr (cause.Kind, inr (key, refl))
row_value_or n name (array ds) fits key = inr (cause.Kind, inr (key, refl))
row_value_or n name (table ms) fits key = inr (cause.Kind, inr (key, refl))

row_or : (n : ℕ) (e : Entry) → InOrder n e.1 → RowOr e
row_or n (name, d) fits = by (either_key name)
  where
    by : Either (IsKey name) → RowOr (name, d)
    by (inl key) = row_value_or n name d fits key
    by (inr not_so) = inr (cause.BadKey, inl (refl, not_so))

abbrev RowsOr : Members → Type 0
RowsOr top = ((rows : List (Bytes × Value)) × HasRows top rows) ⊎ ((fault : ClusterFault) × IsRowsFault top fault)

rows_or : (n : ℕ) (top : Members) → AreMembersInOrder n top → RowsOr top
rows_or n top order = by (listed_at n (get_member (codes "rows") top) (λ d is. member_in_order n (codes "rows") top d order is))
  where
    judged : (entries : List Entry) → AreEntriesAt (get_member (codes "rows") top) entries → Judged (λ (e : Entry). e.0) (λ e. (r : Bytes × Value) × IsRow e r) IsBadRow entries → RowsOr top
    judged entries are (inl all) = let rows = chosen IsRow entries all in inl (rows.0, (entries, are, rows.1))
    judged entries are (inr (name, why, first)) = inr (record { place = place.Row name; cause = why }, inr (name, why, refl, (entries, are, first)))

    by : ListedAt n (get_member (codes "rows") top) → RowsOr top
    by (inl none) = inr (record { place = place.Entry (codes "rows"); cause = cause.Kind }, inl (none, refl))
    by (inr (entries, are, each)) =
        judged entries are (judge (λ (e : Entry). e.0) (λ (e : Entry). InOrder n e.1) (λ e. (r : Bytes × Value) × IsRow e r) IsBadRow (λ e fits. row_or n e fits) entries each)

-- ---- documents and files

abbrev ClusterOr : Members → Type 0
ClusterOr top = ((cluster : Cluster) × IsClusterOf top cluster) ⊎ ((fault : ClusterFault) × IsFaultOf top fault)

last_steps : (top : Members) → AreKnown top → (numbers : Numbered top) → ProcsOr (get_member (codes "procs") top)
    → HomesOr top numbers.0.version numbers.0.regions → RowsOr top → ClusterOr top
last_steps top known numbers (inr (fault, is)) homes rows = inr (fault, inr (known, inr (numbers.0, numbers.1, inl is)))
last_steps top known numbers (inl procs) (inr (fault, is)) rows =
    inr (fault, inr (known, inr (numbers.0, numbers.1, inr (procs, inl is))))
last_steps top known numbers (inl procs) (inl homes) (inr (fault, is)) =
    inr (fault, inr (known, inr (numbers.0, numbers.1, inr (procs, inr (homes, is)))))
last_steps top known numbers (inl procs) (inl homes) (inl rows) =
    inl (
      record {
        version = numbers.0.version;
        regions = numbers.0.regions;
        workers = numbers.0.workers;
        tries = numbers.0.tries;
        drop = numbers.0.drop;
        repeat = numbers.0.repeat;
        procs = procs.0;
        homes = homes.0;
        rows = rows.0;
      },
      record { known = known; numbers = numbers.1; procs = procs.1; homes = homes.1; rows = rows.1 },
    )

every_document : (n : ℕ) (top : Members) → AreMembersInOrder n top → ClusterOr top
every_document n top order = by (names_or n top order) (numbers_or top)
  where
    by : AreKnown top ⊎ ((fault : ClusterFault) × IsUnknownFault top fault) → Numbered top ⊎ ((fault : ClusterFault) × IsNumberFault top fault) → ClusterOr top
    by (inr (fault, is)) numbers = inr (fault, inl is)
    by (inl known) (inr (fault, is)) = inr (fault, inr (known, inl is))
    by (inl known) (inl numbers) =
        last_steps top known numbers (procs_or (get_member (codes "procs") top)) (homes_or n numbers.0.version numbers.0.regions top order) (rows_or n top order)

-- every file is a cluster or has a fault
pub every_file : (file : Bytes) → ((cluster : Cluster) × IsCluster file cluster) ⊎ ((fault : ClusterFault) × IsClusterFault file fault)
every_file file = by (is_utf8 file) refl (parse_document file) refl
  where
    found : (top : Members) → IsDocument file top → ClusterOr top → ((cluster : Cluster) × IsCluster file cluster) ⊎ ((fault : ClusterFault) × IsClusterFault file fault)
    found top is (inl (cluster, of)) = inl (cluster, (top, is, of))
    found top is (inr (fault, of)) = inr (fault, inr (top, is, of))

    by : (b : Bool) → is_utf8 file ≡ b → (o : Option Members) → parse_document file ≡ o
        → ((cluster : Cluster) × IsCluster file cluster) ⊎ ((fault : ClusterFault) × IsClusterFault file fault)
    by false none o is = inr (record { place = place.Whole; cause = cause.NotToml }, inl (λ top doc. false≢true (sym none ∙ is_utf8-from_IsUtf8 file doc.0), refl))
    by true utf8 None is = inr (record { place = place.Whole; cause = cause.NotToml }, inl (λ top doc. none-some top (sym is ∙ doc.1), refl))
    by true utf8 (Some top) is =
        found top (IsUtf8-from_is_utf8 file utf8, is) (every_document (length file) top (document_ordered file top is))

-- a string that stands at a name of a document is no longer than the document
pub string_within : (file : Bytes) (top : Members) (k s : Bytes) → IsDocument file top → get_member k top ≡ Some (string s) → length s ≤ length file
string_within file top k s doc is = member_in_order (length file) k top (string s) (document_ordered file top doc.1) is

-- the text at `procs` of a short document is short
pub short_procs : (file : Bytes) (top : Members) → IsDocument file top → length file < 2 ^ 32 → HasShortProcs top
short_procs file top doc short = λ text is. omega (arith, short, string_within file top (codes "procs") text doc is)
