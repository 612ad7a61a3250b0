-- The entries of a map as those of the table that it stands for, and what the accessors of values find.
use Rattle.std.proofs.lemmas.Bool.{false≢true}
use Rattle.std.proofs.Common.{◌≡◌, ◌↔◌, Bool, false, List, [], ◌∷◌, map}
use Rattle.std.proofs.Common.{String, Global, Less, string_bytes, nat_cmp, refl, sym, ap, ◌∙◌}
use Rattle.std.proofs.Common.{IsTrue, Result, Ok, Err, IfErr}
use Rattle.std.specs.Result.{IsErrAnd}
use Rattle.std.specs.Cmp.Lexicographic.{slice_cmp}
use Rattle.std.specs.List.{AllByRecursion}
use Rattle.std.specs.List.Sorted.{IsStrictlySortedBy}
use Rattle.std.specs.Map.{keys_of}
use Rattle.std.specs.String.{string_cmp}
use Rattle.toml.specs.View.{view, members_view}
use Rattle.toml.specs.declared.value.Value.{Value}
use Rattle.dt_cluster_file.specs.Document.{Entry, entries_of, AreEntries}
use Rattle.dt_cluster_file.specs.File.{TellsFault}
use Rattle.dt_cluster_file.specs.declared.error.ClusterFault.{ClusterFault}
use Rattle.dt_cluster_file.specs.declared.error.ClusterError.{ClusterError}
use Rattle.dt_cluster_file.specs.declared.error.ClusterError.TheVariants.{Fault, NoMemory}

abbrev pub Kept : Type 0
Kept = String Global × Value

-- the entries of a map, as contracts speak of them
abbrev pub listed : List Kept → List Entry
listed es = map (λ e. (string_bytes e.0, view e.1)) es

listed_same : (es : List Kept) → listed es ≡ entries_of (members_view es)
listed_same [] = refl
listed_same (e ∷ es) = ap (λ rest. (string_bytes e.0, view e.1) ∷ rest) (listed_same es)

listed_below : (name : String Global) (es : List Kept) → AllByRecursion (λ y. string_cmp name y ≡ Less) (keys_of es) → AllByRecursion (λ y. slice_cmp nat_cmp (string_bytes name) y ≡ Less) (map (λ e. e.0) (listed es))
listed_below name [] h = h
listed_below name (e ∷ es) h = (h.0, listed_below name es h.1)

listed_ascend : (es : List Kept) → IsStrictlySortedBy string_cmp (keys_of es) → IsStrictlySortedBy (slice_cmp nat_cmp) (map (λ e. e.0) (listed es))
unfolding IsStrictlySortedBy
listed_ascend [] h = h
listed_ascend (e ∷ es) h = (listed_below e.0 es h.0, listed_ascend es h.1)

-- the entries of a map are those of its table
pub listed_are : (es : List Kept) → IsStrictlySortedBy string_cmp (keys_of es) → AreEntries (members_view es) (listed es)
listed_are es ordered = record { ascending = listed_ascend es ordered; same = listed_same es }

-- what is reported of some is reported of more
pub tells_more : (P Q : ClusterFault → Type 0) → ((f : ClusterFault) → P f → Q f) → (e : ClusterError) → TellsFault P e → TellsFault Q e
tells_more P Q more (Fault f) h = more f h
tells_more P Q more NoMemory h = tt

pub refused_by : (b : Bool) (P : Type 0) → (IsTrue b ↔ P) → b ≡ false → P → ⊥
refused_by b P same e h = false≢true (sym e ∙ same.1 h)

-- an error that is passed on
pub err_passed : {A : Type 0} (P : ClusterError → Type 0) (r : Result A ClusterError) (e : ClusterError) → IsErrAnd r (λ y. y ≡ e) → P e → IfErr r P
err_passed P (Ok x) e h p = tt
err_passed P (Err y) e h p = rw h p
