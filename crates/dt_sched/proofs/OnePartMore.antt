-- A view grows part by part: it becomes longer, and stays well formed.
use Rattle.std.proofs.Common.{◌≡◌, ◌⊎◌, ℕ, zero, suc, List, [], ◌∷◌, ◌++◌, set, replicate, refl, sym, ap, subst, ◌∙◌, inl, inr}
use Rattle.std.proofs.lemmas.List.{map-append}
use Rattle.dt_lists.specs.Lists.{AllIn, Has, Distinct, IsFront}
use Rattle.dt_lists.proofs.Callers.{any_append, any_of_image, all_get, all_put, all_append, all_at, distinct_push, front_refl, front_append, get_of_replicate}
use Rattle.dt_access.specs.declared.Part.{Part}
use Rattle.dt_sched.specs.Views.{View, ids_of, log_at, HasPart, IsLonger, IsWellFormed}
use Rattle.dt_sched.specs.Sched.{CanInsert, with_part}
use Rattle.dt_sched.proofs.LongerViews.{longer_refl}

-- a view in which one log goes on is longer
pub longer_log : (view : View) (home : ℕ) (log : List Part) → IsFront (log_at view home) log → IsLonger view (set view home log)
longer_log [] home log f = tt
longer_log (first ∷ logs) zero log f = (f, longer_refl logs)
longer_log (first ∷ logs) (suc home) log f = (front_refl first, longer_log logs home log f)

pub with_part_longer : (view : View) (part : Part) → IsLonger view (with_part view part)
with_part_longer view part = longer_log view part.home (log_at view part.home ++ part ∷ []) (front_append (log_at view part.home) (part ∷ []))

-- a log of a view in which one log was put: that log, or the one that was there
pub put_log : (view : View) (place home : ℕ) (log : List Part) → (home ≡ place) × (log_at (set view place log) home ≡ log) ⊎ (log_at (set view place log) home ≡ log_at view home)
put_log [] place home log = inr refl
put_log (first ∷ logs) zero zero log = inl (refl, refl)
put_log (first ∷ logs) zero (suc home) log = inr refl
put_log (first ∷ logs) (suc place) zero log = inr refl
put_log (first ∷ logs) (suc place) (suc home) log = elim (put_log logs place home log) [ inl e ↦ inl (ap suc e.0, e.1) | inr e ↦ inr e ]

-- a log with the part at the back, or as it was
pub log_with_part : (view : View) (part : Part) (home : ℕ) → (home ≡ part.home) × (log_at (with_part view part) home ≡ log_at view home ++ part ∷ []) ⊎ (log_at (with_part view part) home ≡ log_at view home)
log_with_part view part home = elim (put_log view part.home home (log_at view part.home ++ part ∷ [])) [
  | inl e ↦ inl (e.0, e.1 ∙ ap (λ h. log_at view h ++ part ∷ []) (sym e.0))
  | inr e ↦ inr e
]

-- a part of a log of the view with the part is that part, or was there
pub has_with_part : (view : View) (part : Part) (home : ℕ) (p : Part) → Has (log_at (with_part view part) home) p → (p ≡ part) ⊎ Has (log_at view home) p
has_with_part view part home p h = elim (log_with_part view part home) [
  | inl e ↦ elim (any_append _ (log_at view home) (part ∷ []) (subst (λ log. Has log p) e.1 h)) [
    | inl k ↦ inr k
    | inr k ↦ elim k [ inl same ↦ inl (sym same) | inr f ↦ absurd f ]
  ]
  | inr e ↦ inr (subst (λ log. Has log p) e h)
]

-- in all logs of the view, parts of one id have the same f
abbrev HasSame : {A : Type 0} → (Part → A) → View → Type 0
HasSame f view = (home other : ℕ) → AllIn (λ p. AllIn (λ q. p.id ≡ q.id → f p ≡ f q) (log_at view other)) (log_at view home)

-- what the parts of one id have alike, they have alike with a new part of which that is so
module _ (view : View) (part : Part) {A : Type 0} (f : Part → A) (among : HasSame f view) (new : AllIn (AllIn (λ p. p.id ≡ part.id → f p ≡ f part)) view) where
  with_new : (home : ℕ) (p : Part) → Has (log_at view home) p → p.id ≡ part.id → f p ≡ f part
  with_new home p h = all_get (λ p. p.id ≡ part.id → f p ≡ f part) (log_at view home) (all_at _ [] view home tt new) p h

  pair : (home other : ℕ) (p q : Part) → (p ≡ part) ⊎ Has (log_at view home) p → (q ≡ part) ⊎ Has (log_at view other) q → p.id ≡ q.id → f p ≡ f q
  pair home other p q (inl e) (inl g) s = ap f (e ∙ sym g)
  pair home other p q (inl e) (inr k) s = ap f e ∙ sym (with_new other q k (sym s ∙ ap (λ x. x.id) e))
  pair home other p q (inr h) (inl g) s = with_new home p h (s ∙ ap (λ x. x.id) g) ∙ sym (ap f g)
  pair home other p q (inr h) (inr k) s = all_get _ (log_at view other) (all_get _ (log_at view home) (among home other) p h) q k s

  all_alike : HasSame f (with_part view part)
  all_alike home other = all_put _ (log_at (with_part view part) home) (λ p h. all_put _ (log_at (with_part view part) other) (λ q k. pair home other p q (has_with_part view part home p h) (has_with_part view part other q k)))

pub with_part_well_formed : (view : View) (part : Part) → IsWellFormed view → CanInsert view part → IsWellFormed (with_part view part)
with_part_well_formed view part w c = record { once = once; homed = homed; alike = alike; ranked = ranked }
  where
    once : (home : ℕ) → Distinct (ids_of (log_at (with_part view part) home))
    once home = elim (log_with_part view part home) [
      | inl e ↦ subst (λ log. Distinct (ids_of log)) (sym e.1) (subst Distinct (sym (map-append (λ p. p.id) (log_at view home) (part ∷ [])))
          (distinct_push (ids_of (log_at view home)) part.id (w.once home) (λ h. c.fresh (subst (λ at. HasPart (log_at view at) part.id) e.0 (any_of_image (λ y. y ≡ part.id) (λ p. p.id) (log_at view home) h)))))
      | inr e ↦ subst (λ log. Distinct (ids_of log)) (sym e) (w.once home)
    ]

    homed : (home : ℕ) → AllIn (λ p. (p.home ≡ home) × Has p.homes home) (log_at (with_part view part) home)
    homed home = elim (log_with_part view part home) [
      | inl e ↦ subst (AllIn (λ p. (p.home ≡ home) × Has p.homes home)) (sym e.1) (all_append _ (log_at view home) (part ∷ []) (w.homed home) ((sym e.0, subst (Has part.homes) (sym e.0) c.homed), tt))
      | inr e ↦ subst (AllIn (λ p. (p.home ≡ home) × Has p.homes home)) (sym e) (w.homed home)
    ]

    alike : (home other : ℕ) → AllIn (λ p. AllIn (λ q. p.id ≡ q.id → p.homes ≡ q.homes) (log_at (with_part view part) other)) (log_at (with_part view part) home)
    alike = all_alike view part (λ p. p.homes) w.alike c.alike

    ranked : (home other : ℕ) → AllIn (λ p. AllIn (λ q. p.id ≡ q.id → p.rank ≡ q.rank) (log_at (with_part view part) other)) (log_at (with_part view part) home)
    ranked = all_alike view part (λ p. p.rank) w.ranked c.ranked

pub empty_log : (regions home : ℕ) → log_at (replicate regions []) home ≡ []
empty_log regions home = get_of_replicate regions home []

-- a view of empty logs is well formed
pub empty_well_formed : (regions : ℕ) → IsWellFormed (replicate regions [])
empty_well_formed regions = record {
  once = λ home. subst (λ log. Distinct (ids_of log)) (sym (empty_log regions home)) tt;
  homed = λ home. subst (AllIn (λ p. (p.home ≡ home) × Has p.homes home)) (sym (empty_log regions home)) tt;
  alike = λ home other. subst (AllIn (λ p. AllIn (λ q. p.id ≡ q.id → p.homes ≡ q.homes) (log_at (replicate regions []) other))) (sym (empty_log regions home)) tt;
  ranked = λ home other. subst (AllIn (λ p. AllIn (λ q. p.id ≡ q.id → p.rank ≡ q.rank) (log_at (replicate regions []) other))) (sym (empty_log regions home)) tt;
}
