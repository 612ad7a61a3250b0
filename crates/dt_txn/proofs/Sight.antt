-- What a transaction sees.
use Rattle.std.proofs.Common.{◌≡◌, ℕ, ◌≤◌, List, [], ◌∷◌, length, map, None, refl, ap, ◌∙◌, arith}
use Rattle.std.specs.Prelude.{option_map, Option}
use Rattle.std.proofs.lemmas.Option.{slice_get_past}
use Rattle.dt_access.specs.declared.Access.{Access}
use Rattle.dt_access.specs.declared.Mode.{Mode}
use Rattle.dt_text.specs.declared.Value.{Value}
use Rattle.dt_proc.specs.Tree.{ProcTree}
use Rattle.dt_txn.specs.declared.txn.Body.{Body}
use Rattle.dt_txn.specs.declared.txn.Body.TheVariants.{Call, Move}
use Rattle.dt_txn.specs.declared.txn.Txn.{Txn}
use Rattle.dt_txn.specs.declared.outcome.Seen.{Seen}
use Rattle.dt_txn.specs.Transaction.{HasItsUses, keys_used, used_of, uses_of}
use Rattle.dt_txn.specs.Execution.{reads_of}
use Rattle.dt_access.specs.Clash.{Bytes}
use Rattle.dt_table.specs.Table.{Table, Moved, next_mover, counter_of, moves_of}

-- where a key has no more moves than these, no one made the next
pub next_mover_none : (t : Table) (key : Bytes) (had : ℕ) → counter_of t key ≤ had → next_mover t key had ≡ None
next_mover_none t key had h = ap (option_map (λ (m : Moved). m.by)) (slice_get_past (moves_of t key) had h)

-- what a transaction reads are the keys of its access list
pub reads_keys : (access : List Access) (seen : List Seen) → length seen ≡ length access → map (λ r. r.0) (reads_of access seen) ≡ map (λ u. u.0) (map used_of access)
reads_keys [] seen e = refl
reads_keys (a ∷ access) [] e = absurd (omega arith)
reads_keys (a ∷ access) (s ∷ seen) e = ap (λ (keys : List Bytes). a.key ∷ keys) (reads_keys access seen (omega arith))

-- in each version a body uses the same keys
keys_of_uses : (procs : List ProcTree) (version : ℕ) (body : Body) → map (λ u. u.0) (uses_of procs version body) ≡ keys_used procs body
keys_of_uses procs version (Call proc args) = refl
keys_of_uses procs version (Move key target) = refl

-- what a transaction reads are the keys that its body uses
pub reads_are_uses : (procs : List ProcTree) (txn : Txn) (entries : List Access) (seen : List Seen) (reads : List (Bytes × Option Value)) → reads ≡ reads_of entries seen
    → entries ≡ txn.access → length seen ≡ length txn.access → HasItsUses procs txn → map (λ r. r.0) reads ≡ keys_used procs txn.body
reads_are_uses procs txn entries seen reads r e long uses =
    rw (r, e) (reads_keys txn.access seen long ∙ ap (λ (us : List (Bytes × Mode)). map (λ u. u.0) us) uses.1 ∙ keys_of_uses procs uses.0 txn.body)
