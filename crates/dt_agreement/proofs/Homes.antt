-- The homes of a transaction are a set, and asking them asks each once.
use Rattle.std.proofs.Common.{◌≡◌, ◌<◌, ◌⊎◌, ℕ, true, false, ltb, eqb, List, [], ◌∷◌, ◌++◌, length, get_or, set, map, refl, sym, ap, subst, ◌∙◌, inl, inr, arith, eqb-true, eq-eqb}
use Rattle.std.proofs.lemmas.Bool.{cases_Bool}
use Rattle.std.proofs.lemmas.Bool.Decides.{nat_tests}
use Rattle.std.proofs.lemmas.List.{length-set, get_or-set_same, get_or-set_other}
use Rattle.dt_lists.specs.Lists.{Has, EachThen, Distinct}
use Rattle.dt_lists.proofs.Callers.{any_map, all_map, all_get, each_map}
use Rattle.dt_lists.proofs.Callers.{any_of_test, test_of_any}
use Rattle.dt_access.specs.declared.TxnId.{TxnId}
use Rattle.dt_txn.specs.declared.Txn.{Txn}
use Rattle.dt_txn.specs.Transaction.{with_number, set_of, targets_of, homes_of}
use Rattle.dt_txn.specs.HomesAsked.{ask}
use Rattle.dt_agreement.specs.Invariant.{has_home}
use Rattle.dt_txn.proofs.Callers.{with_number_all}

-- the set with one more number

pub with_number_has : (n : ℕ) (ms : List ℕ) (x : ℕ) → Has (with_number n ms) x → (n ≡ x) ⊎ Has ms x
with_number_has n [] x h = h
with_number_has n (m ∷ ms) x h = go (cases_Bool (ltb n m)) (cases_Bool (eqb n m)) (with_number_has n ms x) h
  where
    go : (ltb n m ≡ true) ⊎ (ltb n m ≡ false) → (eqb n m ≡ true) ⊎ (eqb n m ≡ false) → (Has (with_number n ms) x → (n ≡ x) ⊎ Has ms x) → Has (with_number n (m ∷ ms)) x → (n ≡ x) ⊎ Has (m ∷ ms) x
    go (inl p) b f h = rw p at h
    go (inr p) (inl q) f h = inr (rw (p, q) at h)
    go (inr p) (inr q) f h = at (rw (p, q) at h)
      where
        at : Has (m ∷ with_number n ms) x → (n ≡ x) ⊎ Has (m ∷ ms) x
        at (inl e) = inr (inl e)
        at (inr k) = elim (f k) [ inl e ↦ inl e | inr l ↦ inr (inr l) ]

pub has_with_number : (n : ℕ) (ms : List ℕ) (x : ℕ) → (n ≡ x) ⊎ Has ms x → Has (with_number n ms) x
has_with_number n [] x h = h
has_with_number n (m ∷ ms) x h = go (cases_Bool (ltb n m)) (cases_Bool (eqb n m)) (has_with_number n ms x) h
  where
    go : (ltb n m ≡ true) ⊎ (ltb n m ≡ false) → (eqb n m ≡ true) ⊎ (eqb n m ≡ false) → ((n ≡ x) ⊎ Has ms x → Has (with_number n ms) x) → (n ≡ x) ⊎ Has (m ∷ ms) x → Has (with_number n (m ∷ ms)) x
    go (inl p) b f h = rw p h
    go (inr p) (inl q) f (inl e) = rw (p, q) (inl (sym (eqb-true n m q) ∙ e))
    go (inr p) (inl q) f (inr k) = rw (p, q) k
    go (inr p) (inr q) f (inl e) = rw (p, q) (inr (f (inl e)))
    go (inr p) (inr q) f (inr (inl e)) = rw (p, q) (inl e)
    go (inr p) (inr q) f (inr (inr k)) = rw (p, q) (inr (f (inr k)))

pub set_of_has : (ns : List ℕ) (x : ℕ) → Has (set_of ns) x → Has ns x
set_of_has [] x h = h
set_of_has (n ∷ ns) x h = elim (with_number_has n (set_of ns) x h) [ inl e ↦ inl e | inr k ↦ inr (set_of_has ns x k) ]

pub has_set_of : (ns : List ℕ) (x : ℕ) → Has ns x → Has (set_of ns) x
has_set_of [] x h = h
has_set_of (n ∷ ns) x (inl e) = has_with_number n (set_of ns) x (inl e)
has_set_of (n ∷ ns) x (inr k) = has_with_number n (set_of ns) x (inr (has_set_of ns x k))

ascending_with : (n : ℕ) (ms : List ℕ) → EachThen (λ x y. x < y) ms → EachThen (λ x y. x < y) (with_number n ms)
ascending_with n [] a = (tt, tt)
ascending_with n (m ∷ ms) a = go (cases_Bool (ltb n m)) (cases_Bool (eqb n m)) (ascending_with n ms a.1)
  where
    below : ltb n m ≡ true → n < m
    below p = grind (arith, nat_tests)

    above : ltb n m ≡ false → eqb n m ≡ false → m < n
    above p q = grind (arith, nat_tests)

    go : (ltb n m ≡ true) ⊎ (ltb n m ≡ false) → (eqb n m ≡ true) ⊎ (eqb n m ≡ false) → EachThen (λ x y. x < y) (with_number n ms) → EachThen (λ x y. x < y) (with_number n (m ∷ ms))
    go (inl q) b r = let lt : n < m = below q in rw q ((lt, all_map _ _ ms (λ y (k : m < y). let s : n < y = omega arith in s) a.0), a)
    go (inr q) (inl s) r = rw (q, s) a
    go (inr q) (inr s) r = rw (q, s) (with_number_all (λ y. m < y) n ms (above q s) a.0, r)

pub set_ascending : (ns : List ℕ) → EachThen (λ x y. x < y) (set_of ns)
set_ascending [] = tt
set_ascending (n ∷ ns) = ascending_with n (set_of ns) (set_ascending ns)

pub homes_once : (txn : Txn) → Distinct (homes_of txn)
homes_once txn = each_map _ _ (homes_of txn) (λ x y (lt : x < y) e. let n : ⊥ = omega arith in n) (set_ascending (map (λ a. a.home) txn.access ++ targets_of txn.body))

-- the test whether a home is one of them

pub home_of_test : (home : ℕ) (txn : Txn) → has_home home txn ≡ true → Has (homes_of txn) home
home_of_test home txn e = any_map _ _ (homes_of txn) (λ h t. eqb-true h home t) (any_of_test (λ h. eqb h home) (homes_of txn) e)

pub test_of_home : (home : ℕ) (txn : Txn) → Has (homes_of txn) home → has_home home txn ≡ true
test_of_home home txn h = test_of_any (λ h. eqb h home) (homes_of txn) (any_map _ _ (homes_of txn) (λ x t. eq-eqb x home t) h)

-- asking homes

pub ask_other : (homes : List ℕ) (id : TxnId) (asked : List (List TxnId)) (home : ℕ) → ¬ (Has homes home) → get_or (ask homes id asked) home [] ≡ get_or asked home []
ask_other [] id asked home n = refl
ask_other (h ∷ homes) id asked home n =
    ask_other homes id (set asked h (get_or asked h [] ++ id ∷ [])) home (λ k. n (inr k))
    ∙ get_or-set_other asked h home (get_or asked h [] ++ id ∷ []) [] (λ e. n (inl (sym e)))

pub ask_here : (homes : List ℕ) (id : TxnId) (asked : List (List TxnId)) (home : ℕ) → Distinct homes → Has homes home → home < length asked → get_or (ask homes id asked) home [] ≡ get_or asked home [] ++ id ∷ []
ask_here [] id asked home d h lt = absurd h
ask_here (x ∷ homes) id asked home d (inl e) lt =
    ask_other homes id (set asked x (get_or asked x [] ++ id ∷ [])) home (λ k. all_get _ homes d.0 home k e)
    ∙ subst (λ y. get_or (set asked y (get_or asked y [] ++ id ∷ [])) home [] ≡ get_or asked home [] ++ id ∷ []) (sym e) (get_or-set_same asked home (get_or asked home [] ++ id ∷ []) [] lt)
ask_here (x ∷ homes) id asked home d (inr h) lt =
    ask_here homes id (set asked x (get_or asked x [] ++ id ∷ [])) home d.1 h (subst (λ n. home < n) (sym (length-set asked x (get_or asked x [] ++ id ∷ []))) lt)
    ∙ ap (λ l. l ++ id ∷ []) (get_or-set_other asked x home (get_or asked x [] ++ id ∷ []) [] (λ e. all_get _ homes d.0 home h (sym e)))
