-- A transaction is complete just where none of its homes lacks a part of it, and an inserted part is lacked once less.
use Rattle.std.proofs.Common.{◌≡◌, ◌≢◌, ◌⊎◌, ◌↔◌, ◌∙◌, ℕ, suc, Bool, true, false, not, List, [], ◌∷◌, ◌++◌, length}
use Rattle.std.proofs.Common.{filter, refl, sym, ap, subst, inl, inr, arith}
use Rattle.std.proofs.lemmas.Bool.{cases_Bool, false_from_ne_true, not-false}
use Rattle.dt_lists.specs.Lists.{AnyIn, AllIn, Has, Distinct}
use Rattle.dt_lists.proofs.Callers.{all_get, all_put, any_append, any_append_left, any_from_at, any_map, any_of_test, any_put, has_last, test_of_any, filter_whole, filter_none}
use Rattle.dt_access.specs.Ids.{same_id}
use Rattle.dt_access.specs.declared.TxnId.{TxnId}
use Rattle.dt_access.specs.declared.Part.{Part}
use Rattle.dt_access.proofs.Callers.{id_of_test, test_of_id}
use Rattle.dt_sched.specs.Views.{View, log_at, HasPart, HasParts, IsComplete}
use Rattle.dt_sched.specs.Sched.{CanInsert, with_part}
use Rattle.dt_sched.proofs.Callers.{log_with_part}
use Rattle.dt_waits.specs.Graph.{has_part, lacking}
use Rattle.dt_waits.proofs.Uses.{part_there}

pub part_of_test : (log : List Part) (t : TxnId) → has_part log t ≡ true → HasPart log t
part_of_test log t e = any_map _ _ log (λ p s. id_of_test p.id t s) (any_of_test (λ p. same_id p.id t) log e)

pub test_of_part : (log : List Part) (t : TxnId) → HasPart log t → has_part log t ≡ true
test_of_part log t h = test_of_any (λ p. same_id p.id t) log (any_map _ _ log (λ p e. test_of_id p.id t e) h)

pub test_of_none : (log : List Part) (t : TxnId) → ¬ (HasPart log t) → has_part log t ≡ false
test_of_none log t n = false_from_ne_true (has_part log t) (λ e. n (part_of_test log t e))

-- where a list is kept whole or not at all

none_kept : {A : Type 0} (p : A → Bool) (xs : List A) → length (filter p xs) ≡ 0 → AllIn (λ x. p x ≡ false) xs
none_kept p [] e = tt
none_kept p (x ∷ xs) e = by (cases_Bool (p x)) (λ k. none_kept p xs k)
  where
    by : (p x ≡ true) ⊎ (p x ≡ false) → (length (filter p xs) ≡ 0 → AllIn (λ x. p x ≡ false) xs) → AllIn (λ x. p x ≡ false) (x ∷ xs)
    by (inl k) rest = let long : suc (length (filter p xs)) ≡ 0 = rw k at e in absurd (omega (arith, long))
    by (inr k) rest = (k, rest (rw k at e))

-- none is lacking where each home has a part, and only there

pub none_lacking : (view : View) (t : TxnId) (homes : List ℕ) → (lacking view t homes ≡ 0) ↔ HasParts view homes t
none_lacking view t homes = (
  λ e. all_put _ homes (λ home h. part_of_test (log_at view home) t (not-false _ (all_get _ homes (none_kept (λ home. not (has_part (log_at view home) t)) homes e) home h))),
  λ a. ap length (filter_none _ homes (all_put _ homes (λ home h. ap not (test_of_part (log_at view home) t (all_get (λ home. HasPart (log_at view home) t) homes a home h))))),
)

pub complete_of_none : (view : View) (t : TxnId) (home : ℕ) (p : Part) → Has (log_at view home) p → p.id ≡ t → lacking view t p.homes ≡ 0 → IsComplete view t
complete_of_none view t home p h e z = any_from_at (AnyIn (λ p. (p.id ≡ t) × HasParts view p.homes t)) [] view home (λ f. f) (any_put _ (log_at view home) p h (e, (none_lacking view t p.homes).0 z))

-- before any part of t is there, it lacks all
pub all_lacking : (view : View) (t : TxnId) (homes : List ℕ) → ((home : ℕ) → ¬ (HasPart (log_at view home) t)) → lacking view t homes ≡ length homes
all_lacking view t homes none = ap length (filter_whole (λ home. not (has_part (log_at view home) t)) homes (all_put _ homes (λ home h. ap not (test_of_none (log_at view home) t (none home)))))

module _ (view : View) (part : Part) (can : CanInsert view part) where
  -- what has another id is there as before
  pub test_beside : (home : ℕ) (t : TxnId) → t ≢ part.id → has_part (log_at (with_part view part) home) t ≡ has_part (log_at view home) t
  test_beside home t ne = elim (log_with_part view part home) [
    | inl e ↦ by (cases_Bool (has_part (log_at view home) t)) e.1
    | inr e ↦ ap (λ log. has_part log t) e
  ]
    where
      by : (has_part (log_at view home) t ≡ true) ⊎ (has_part (log_at view home) t ≡ false) → log_at (with_part view part) home ≡ log_at view home ++ part ∷ []
          → has_part (log_at (with_part view part) home) t ≡ has_part (log_at view home) t
      by (inl y) e = test_of_part (log_at (with_part view part) home) t (subst (λ log. HasPart log t) (sym e) (any_append_left _ (log_at view home) (part ∷ []) (part_of_test (log_at view home) t y))) ∙ sym y
      by (inr n) e = test_of_none (log_at (with_part view part) home) t (λ h. elim (any_append _ (log_at view home) (part ∷ []) (subst (λ log. HasPart log t) e h)) [
        | inl k ↦ let y : has_part (log_at view home) t ≡ true = test_of_part (log_at view home) t k in cc
        | inr k ↦ elim k [ inl s ↦ ne (sym s) | inr f ↦ f ]
      ]) ∙ sym n

  pub lacking_beside : (t : TxnId) (homes : List ℕ) → t ≢ part.id → lacking (with_part view part) t homes ≡ lacking view t homes
  lacking_beside t homes ne = same homes
    where
      same : (homes : List ℕ) → lacking (with_part view part) t homes ≡ lacking view t homes
      same [] = refl
      same (home ∷ homes) = by (same homes) (cases_Bool (has_part (log_at view home) t))
        where
          by : lacking (with_part view part) t homes ≡ lacking view t homes → (has_part (log_at view home) t ≡ true) ⊎ (has_part (log_at view home) t ≡ false)
              → lacking (with_part view part) t (home ∷ homes) ≡ lacking view t (home ∷ homes)
          by rest (inl y) = rw (test_beside home t ne, y) rest
          by rest (inr n) = rw (test_beside home t ne, n) (ap suc rest)

  -- at another home the part's transaction is there as before
  other_home : (home : ℕ) → home ≢ part.home → has_part (log_at (with_part view part) home) part.id ≡ has_part (log_at view home) part.id
  other_home home ne = elim (log_with_part view part home) [ inl e ↦ absurd (ne e.0) | inr e ↦ ap (λ log. has_part log part.id) e ]

  here_now : has_part (log_at (with_part view part) part.home) part.id ≡ true
  here_now = test_of_part _ part.id (subst (λ log. HasPart log part.id) (sym (part_there view part can))
      (any_map (λ p. p ≡ part) (λ p. p.id ≡ part.id) (log_at view part.home ++ part ∷ []) (λ p e. ap (λ q. q.id) e) (has_last (log_at view part.home) part)))

  here_before : has_part (log_at view part.home) part.id ≡ false
  here_before = test_of_none (log_at view part.home) part.id can.fresh

  lacking_elsewhere : (homes : List ℕ) → ¬ (Has homes part.home) → lacking (with_part view part) part.id homes ≡ lacking view part.id homes
  lacking_elsewhere [] n = refl
  lacking_elsewhere (home ∷ homes) n = by (lacking_elsewhere homes (λ h. n (inr h))) (cases_Bool (has_part (log_at view home) part.id))
    where
      by : lacking (with_part view part) part.id homes ≡ lacking view part.id homes → (has_part (log_at view home) part.id ≡ true) ⊎ (has_part (log_at view home) part.id ≡ false)
          → lacking (with_part view part) part.id (home ∷ homes) ≡ lacking view part.id (home ∷ homes)
      by rest (inl y) = rw (other_home home (λ e. n (inl e)), y) rest
      by rest (inr k) = rw (other_home home (λ e. n (inl e)), k) (ap suc rest)

  -- of distinct homes one less lacks a part
  pub lacking_less : (homes : List ℕ) → Distinct homes → Has homes part.home → lacking view part.id homes ≡ suc (lacking (with_part view part) part.id homes)
  lacking_less [] d h = absurd h
  lacking_less (home ∷ homes) d (inl e) = first home e (lacking_elsewhere homes (λ h. all_get _ homes d.0 part.home h e))
    where
      first : (home : ℕ) → home ≡ part.home → lacking (with_part view part) part.id homes ≡ lacking view part.id homes → lacking view part.id (home ∷ homes) ≡ suc (lacking (with_part view part) part.id (home ∷ homes))
      first home e rest = subst (λ x. lacking view part.id (x ∷ homes) ≡ suc (lacking (with_part view part) part.id (x ∷ homes))) (sym e) (rw (here_now, here_before) (ap suc (sym rest)))
  lacking_less (home ∷ homes) d (inr h) = by (lacking_less homes d.1 h) (other_home home (λ e. all_get _ homes d.0 part.home h e)) (cases_Bool (has_part (log_at view home) part.id))
    where
      by : lacking view part.id homes ≡ suc (lacking (with_part view part) part.id homes) → has_part (log_at (with_part view part) home) part.id ≡ has_part (log_at view home) part.id
          → (has_part (log_at view home) part.id ≡ true) ⊎ (has_part (log_at view home) part.id ≡ false) → lacking view part.id (home ∷ homes) ≡ suc (lacking (with_part view part) part.id (home ∷ homes))
      by rest same (inl y) = rw (same, y) rest
      by rest same (inr n) = rw (same, n) (ap suc rest)
