-- Each valid transaction has a home: a call uses some key, and a move leads to some region.
use Rattle.std.proofs.Common.{◌≡◌, ◌<◌, ◌≤◌, ◌+◌, ◌⊎◌, ℕ, Bool, true, false, ltb, eqb, List, [], ◌∷◌, ◌++◌, length, map, sym, ap, subst, inl, inr, refl, arith}
use Rattle.std.specs.List.{fold}
use Rattle.std.specs.Ordering.{nat_cmp}
use Rattle.std.specs.declared.cmp.Ordering.{Ordering}
use Rattle.std.specs.declared.cmp.Ordering.TheVariants.{Less, Equal, Greater}
use Rattle.std.specs.Cmp.Lexicographic.{slice_cmp}
use Rattle.std.proofs.lemmas.Bool.{cases_Bool}
use Rattle.std.proofs.lemmas.List.{length-append, length-map}
use Rattle.dt_lists.specs.Lists.{Has}
use Rattle.dt_access.specs.Clash.{Bytes}
use Rattle.dt_access.specs.declared.Access.{Access}
use Rattle.dt_text.specs.declared.Value.{Value}
use Rattle.dt_proc.specs.Tree.{ProcTree}
use Rattle.dt_eval.specs.Calls.{CallFits, call_keys, keys_if}
use Rattle.dt_eval.specs.Keys.{keys_of, mode_of, placed_use, use_of, with_use}
use Rattle.dt_txn.specs.declared.Body.{Body}
use Rattle.dt_txn.specs.declared.txn.Body.TheVariants.{Call, Move}
use Rattle.dt_txn.specs.declared.Txn.{Txn}
use Rattle.dt_txn.specs.Transaction.{BodyFits, IsValid, homes_of, set_of, targets_of, used_of, uses_of, with_number}

-- a set of some numbers has one

some_with : (n : ℕ) (ms : List ℕ) → (x : ℕ) × Has (with_number n ms) x
some_with n [] = (n, inl refl)
some_with n (m ∷ ms) = go (cases_Bool (ltb n m)) (cases_Bool (eqb n m))
  where
    go : (ltb n m ≡ true) ⊎ (ltb n m ≡ false) → (eqb n m ≡ true) ⊎ (eqb n m ≡ false) → (x : ℕ) × Has (with_number n (m ∷ ms)) x
    go (inl p) b = (n, rw p (inl refl))
    go (inr p) (inl q) = (m, rw (p, q) (inl refl))
    go (inr p) (inr q) = (m, rw (p, q) (inl refl))

some_set : (ns : List ℕ) → 0 < length ns → (x : ℕ) × Has (set_of ns) x
some_set [] lt = absurd (omega (arith, lt))
some_set (n ∷ ns) lt = some_with n (set_of ns)

-- declarations of keys give a key

some_use : (vs : List (Bytes × Bool)) (u : Bytes × Bool) → 0 < length (with_use vs u)
some_use [] u = omega arith
some_use (v ∷ vs) u = go (slice_cmp nat_cmp u.0 v.0)
  where
    go : (o : Ordering) → 0 < length (placed_use o u v vs (with_use vs u))
    go Less = omega arith
    go Equal = omega arith
    go Greater = omega arith

some_uses : (us vs : List (Bytes × Bool)) → 0 < length vs → 0 < length (fold with_use vs us)
some_uses [] vs lt = lt
some_uses (u ∷ us) vs lt = some_uses us (with_use vs u) (some_use vs u)

uses_some : (us : List (Bytes × Bool)) → 0 < length us → 0 < length (fold with_use [] us)
uses_some [] lt = absurd (omega (arith, lt))
uses_some (u ∷ us) lt = some_uses us (with_use [] u) (some_use [] u)

some_key : (procs : List ProcTree) (proc : ℕ) (args : List Value) → CallFits procs proc args → 0 < length (call_keys procs proc args)
some_key procs proc args f =
    subst (λ o. 0 < length (keys_if o args)) (sym f.named)
    (let keys : 1 ≤ length f.body.keys = f.sound.some_key in
    let uses : length (map (use_of args) f.body.keys) ≡ length f.body.keys = length-map f.body.keys (use_of args) in
    let some : 0 < length (fold with_use [] (map (use_of args) f.body.keys)) = uses_some (map (use_of args) f.body.keys) (omega (arith, keys, uses)) in
    let modes : length (keys_of f.body args) ≡ length (fold with_use [] (map (use_of args) f.body.keys)) =
    length-map (fold with_use [] (map (use_of args) f.body.keys)) (λ (u : Bytes × Bool). (u.0, mode_of u.1)) in
    omega (arith, some, modes))

pub some_home : {procs : List ProcTree} {version regions : ℕ} {txn : Txn} → IsValid procs version regions txn → (home : ℕ) × Has (homes_of txn) home
some_home {procs} {version} {regions} {txn} v = some_set (map (λ (a : Access). a.home) txn.access ++ targets_of txn.body) (go txn.body v.body v.uses)
  where
    go : (b : Body) → BodyFits procs version regions b → map used_of txn.access ≡ uses_of procs version b → 0 < length (map (λ (a : Access). a.home) txn.access ++ targets_of b)
    go (Call proc args) f u =
        let some : 0 < length (call_keys procs proc args) = some_key procs proc args f in
        let many : length (map used_of txn.access) ≡ length (call_keys procs proc args) = ap length u in
        let uses : length (map used_of txn.access) ≡ length txn.access = length-map txn.access used_of in
        let homes : length (map (λ (a : Access). a.home) txn.access) ≡ length txn.access = length-map txn.access (λ (a : Access). a.home) in
        let all : length (map (λ (a : Access). a.home) txn.access ++ []) ≡ length (map (λ (a : Access). a.home) txn.access) + 0 = length-append (map (λ (a : Access). a.home) txn.access) [] in
        omega (arith, some, many, uses, homes, all)
    go (Move key target) f u =
        let all : length (map (λ (a : Access). a.home) txn.access ++ target ∷ []) ≡ length (map (λ (a : Access). a.home) txn.access) + 1 = length-append (map (λ (a : Access). a.home) txn.access) (target ∷ []) in
        omega (arith, all)
