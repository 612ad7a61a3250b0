-- What other crates use of calls: of their keys, and of what they write.
use Rattle.std.proofs.Common.{◌≡◌, ◌≤◌, ℕ, true, false, List, [], ◌∷◌, length, map, slice_get, Some, Ok, Err, refl, sym, ap, ap₂, subst, ◌∙◌, arith}
use Rattle.std.specs.Prelude.{Option, None, Result, filter, not}
use Rattle.std.proofs.lemmas.List.{length-map}
use Rattle.std.proofs.lemmas.List.Filters.{length-filter_both}
use Rattle.dt_lists.specs.Lists.{AnyIn, AllIn}
use Rattle.dt_text.specs.declared.Value.{Value}
use Rattle.dt_access.specs.Clash.{Bytes, is_whole}
use Rattle.dt_access.specs.declared.Mode.{Mode}
use Rattle.dt_access.specs.declared.Mode.TheVariants.{Write}
use Rattle.dt_proc.specs.declared.tree.KeyDecl.{KeyDecl}
use Rattle.dt_proc.specs.Tree.{ProcTree}
use Rattle.dt_proc.specs.Sound.{IsSoundProc, sort_of}
use Rattle.dt_eval.specs.declared.finish.Cause.{Cause}
use Rattle.dt_eval.specs.declared.state.Row.{Row}
use Rattle.dt_eval.specs.Data.{RunState, declared_key}
use Rattle.dt_eval.specs.Statements.{after_block}
use Rattle.dt_eval.specs.Meaning.{keys_of, names_of, meaning, finish_of, run_opening, writes_in}
use Rattle.dt_eval.specs.Calls.{CallFits, keys_if, meaning_if, call_keys, call_meaning}
use Rattle.dt_eval.proofs.KeyLaws.{keys_few, keys_narrow, keys_write, written_use}
use Rattle.dt_eval.proofs.RowLaws.{Keeps, IsWrittenIn, sets_any, sets_sound, block_keeps, with_value_keys, with_value_written, opening_written, opening_keys, writes_written}

-- of one procedure

-- what its body makes of these reads
abbrev run_of : ProcTree → List Value → List (Bytes × Option Value) → Result RunState Cause
run_of proc args reads = after_block (names_of proc args) proc.body (run_opening args reads)

-- it has the key in mode Write
abbrev HasToWrite : ProcTree → List Value → Bytes → Type 0
HasToWrite proc args key = AnyIn (λ u. (u.0 ≡ key) × (u.1 ≡ Write)) (keys_of proc args)

-- the rows have the keys that were read
abbrev HaveKeysRead : List (Bytes × Option Value) → List Row → Type 0
HaveKeysRead reads rows = map (λ (r : Row). r.key) rows ≡ map (λ r. r.0) reads

-- a sound procedure writes only keys that it has in mode Write
pub writes_declared : (proc : ProcTree) (args : List Value) (reads : List (Bytes × Option Value)) → IsSoundProc proc →
    AllIn (λ w. AnyIn (λ u. (u.0 ≡ w.0) × (u.1 ≡ Write)) (keys_of proc args)) (writes_in (meaning proc args reads))
writes_declared proc args reads sound = ended (run_of proc args reads) kept
  where
    kept : Keeps (AllIn (IsWrittenIn (HasToWrite proc args))) (run_of proc args reads)
    kept = block_keeps (names_of proc args) _ (λ k. slice_get (map (λ (d : KeyDecl). d.write) proc.keys) k ≡ Some true)
        (λ k v rows yes all. with_value_written _ (declared_key (names_of proc args) k) v rows (keys_write (declared_key (names_of proc args) k) proc args (written_use args proc.keys k yes)) all)
        proc.body (sets_sound (map sort_of proc.params) (map (λ (d : KeyDecl). d.write) proc.keys) proc.body sound.body) (run_opening args reads) (opening_written _ reads)

    ended : (r : Result RunState Cause) → Keeps (AllIn (IsWrittenIn (HasToWrite proc args))) r →
        AllIn (λ w. AnyIn (λ u. (u.0 ≡ w.0) × (u.1 ≡ Write)) (keys_of proc args)) (writes_in (finish_of r))
    ended (Ok s) all = writes_written (HasToWrite proc args) s.rows all
    ended (Err c) all = tt

-- the keys of the rows of a run stay
pub keys_stay : (proc : ProcTree) (args : List Value) (reads : List (Bytes × Option Value)) → Keeps (HaveKeysRead reads) (run_of proc args reads)
keys_stay proc args reads =
    block_keeps (names_of proc args) (HaveKeysRead reads) (λ k. Unit {0})
    (λ k v rows yes same. with_value_keys (declared_key (names_of proc args) k) v rows ∙ same) proc.body (sets_any (λ k. Unit {0}) (λ k. tt) proc.body) (run_opening args reads) (opening_keys reads)

-- from reads of its keys alone it writes at most 16 of them
writes_few : (proc : ProcTree) (args : List Value) (reads : List (Bytes × Option Value)) → IsSoundProc proc →
    map (λ r. r.0) reads ≡ map (λ u. u.0) (keys_of proc args) → length (writes_in (meaning proc args reads)) ≤ 16
writes_few proc args reads sound same = ended (run_of proc args reads) (keys_stay proc args reads)
  where
    few : length reads ≤ 16
    few = omega (arith, length-map reads (λ r. r.0), ap length same, length-map (keys_of proc args) (λ u. u.0), keys_few proc args, sound.few_keys)

    ended : (r : Result RunState Cause) → Keeps (HaveKeysRead reads) r → length (writes_in (finish_of r)) ≤ 16
    ended (Ok s) kept = omega (
      arith,
      length-map {B = Bytes × Option Value} (filter (λ (r : Row). r.changed) s.rows) (λ (r : Row). (r.key, r.value)),
      length-filter_both (λ (r : Row). r.changed) (λ (r : Row). not r.changed) (λ r. refl) s.rows,
      length-map s.rows (λ (r : Row). r.key),
      ap length kept,
      length-map reads (λ r. r.0),
      few,
    )
    ended (Err c) kept = omega arith

-- of calls

-- no key of a call takes a whole granule
pub call_keys_narrow : (procs : List ProcTree) (number : ℕ) (args : List Value) → AllIn (λ u. is_whole u.1 ≡ false) (call_keys procs number args)
call_keys_narrow procs number args = go (slice_get procs number)
  where
    go : (p : Option ProcTree) → AllIn (λ u. is_whole u.1 ≡ false) (keys_if p args)
    go (Some body) = keys_narrow body args
    go None = tt

-- a call that fits writes only keys that it has in mode Write, whatever it reads
pub call_writes_declared : (procs : List ProcTree) (number : ℕ) (args : List Value) (reads : List (Bytes × Option Value)) → CallFits procs number args →
    AllIn (λ w. AnyIn (λ u. (u.0 ≡ w.0) × (u.1 ≡ Write)) (call_keys procs number args)) (writes_in (call_meaning procs number args reads))
call_writes_declared procs number args reads fits =
    subst (λ p. AllIn (λ w. AnyIn (λ u. (u.0 ≡ w.0) × (u.1 ≡ Write)) (keys_if p args)) (writes_in (meaning_if p args reads))) (sym fits.named)
    (writes_declared fits.body args reads fits.sound)

-- from reads of just its keys a call writes at most 16 keys
pub call_writes_few : (procs : List ProcTree) (number : ℕ) (args : List Value) (reads : List (Bytes × Option Value)) → CallFits procs number args →
    map (λ r. r.0) reads ≡ map (λ u. u.0) (call_keys procs number args) → length (writes_in (call_meaning procs number args reads)) ≤ 16
call_writes_few procs number args reads fits same = subst (λ p. length (writes_in (meaning_if p args reads)) ≤ 16) (sym fits.named)
    (writes_few fits.body args reads fits.sound (subst (λ p. map (λ r. r.0) reads ≡ map (λ u. u.0) (keys_if p args)) fits.named same))

reads_alike : (values others : Bytes → Option Value) (us : List (Bytes × Mode)) → AllIn (λ u. values u.0 ≡ others u.0) us
    → ◌≡◌ {A = List (Bytes × Option Value)} (map (λ u. (u.0, values u.0)) us) (map (λ u. (u.0, others u.0)) us)
reads_alike values others [] all = refl
reads_alike values others (u ∷ us) all = let head : ◌≡◌ {A = Bytes × Option Value} (u.0, values u.0) (u.0, others u.0) = ap (λ v. (u.0, v)) all.0 in ap₂ ◌∷◌ head (reads_alike values others us all.1)

-- what a call of a procedure means depends on the values of its keys alone
pub keys_alone : (proc : ProcTree) (args : List Value) (values others : Bytes → Option Value) → AllIn (λ u. values u.0 ≡ others u.0) (keys_of proc args) →
    meaning proc args (map (λ u. (u.0, values u.0)) (keys_of proc args)) ≡ meaning proc args (map (λ u. (u.0, others u.0)) (keys_of proc args))
keys_alone proc args values others same = ap (meaning proc args) (reads_alike values others (keys_of proc args) same)
