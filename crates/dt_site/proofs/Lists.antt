-- Lists of logs, of transactions and of attempts, with one more item or with one of them changed.
use Rattle.std.proofs.Common.{◌≡◌, ◌<◌, ◌≤◌, ◌+◌, ◌⊎◌, ℕ, zero, suc, Bool, true, false, cond, List, [], ◌∷◌, ◌++◌, length, get_or, set, take, slice_get}
use Rattle.std.proofs.Common.{Some, refl, sym, ap, subst, ◌∙◌, inl, inr, append-nil, append_assoc, arith}
use Rattle.std.specs.Prelude.{is_some}
use Rattle.std.proofs.lemmas.Bool.{cases_Bool}
use Rattle.std.proofs.lemmas.List.{length_push}
use Rattle.dt_lists.specs.Lists.{Has}
use Rattle.dt_access.proofs.Callers.{id_of_test, test_of_id}
use Rattle.dt_access.specs.Ids.{same_id}
use Rattle.dt_access.specs.declared.TxnId.{TxnId}
use Rattle.dt_access.specs.declared.Part.{Part}
use Rattle.dt_sched.specs.Views.{View, log_at}
use Rattle.dt_sched.specs.Sched.{parts_in}
use Rattle.dt_txn.specs.declared.Txn.{Txn}
use Rattle.dt_txn.specs.Replica.{fronts}
use Rattle.dt_sched.proofs.Callers.{parts_cons}
use Rattle.dt_region.specs.Region.{find_txn}
use Rattle.dt_region.specs.Rules.{keep, keep_all}
use Rattle.dt_session.specs.World.{Submission}
use Rattle.dt_site.specs.declared.site.Origin.{Origin}
use Rattle.dt_site.specs.Site.{attempt, attempts}

pub fronts_set : (lengths : List ℕ) (logs : View) (home n : ℕ) (log : List Part) → home < length lengths → fronts (set lengths home n) (set logs home log) ≡ set (fronts lengths logs) home (take n log)
fronts_set lengths [] home n log lt = refl
fronts_set [] (l ∷ logs) home n log lt = absurd (omega arith)
fronts_set (m ∷ lengths) (l ∷ logs) zero n log lt = refl
fronts_set (m ∷ lengths) (l ∷ logs) (suc home) n log lt = ap (λ v. take m l ∷ v) (fronts_set lengths logs home n log (omega arith))

-- how many parts there are

pub parts_set : (logs : View) (home : ℕ) (part : Part) → parts_in (set logs home (log_at logs home ++ part ∷ [])) ≤ parts_in logs + 1
parts_set [] home part = omega arith
parts_set (l ∷ logs) zero part = let a : length (l ++ part ∷ []) ≡ length l + 1 = length_push l part in let b : parts_in ((l ++ part ∷ []) ∷ logs) ≤ parts_in (l ∷ logs) + 1 =
    omega (arith, parts_cons (l ++ part ∷ []) logs, parts_cons l logs) in b
parts_set (l ∷ logs) (suc home) part = let a : parts_in (set logs home (log_at logs home ++ part ∷ [])) ≤ parts_in logs + 1 =
    parts_set logs home part in let b : parts_in (l ∷ set logs home (log_at logs home ++ part ∷ [])) ≤ parts_in (l ∷ logs) + 1 = omega (arith, parts_cons l (set logs home (log_at logs home ++ part ∷ [])), parts_cons l logs) in b

-- the transaction of the id is found in a list, or is this one
abbrev IsFoundOr : List Txn → TxnId → Txn → Txn → Type 0
IsFoundOr txns id u t = (find_txn txns id ≡ Some u) ⊎ ((t ≡ u) × (t.id ≡ id))

-- what is found with one more transaction between two lists is found without it, or is that one
pub find_more : (xs ys : List Txn) (t : Txn) (id : TxnId) (u : Txn) → find_txn (xs ++ t ∷ ys) id ≡ Some u → IsFoundOr (xs ++ ys) id u t
find_more [] ys t id u e = go (cases_Bool (same_id t.id id))
  where
    go : (same_id t.id id ≡ true) ⊎ (same_id t.id id ≡ false) → IsFoundOr ys id u t
    go (inl y) = let is : Some t ≡ Some u = rw y at e in let same : t ≡ u = cc in inr (same, id_of_test t.id id y)
    go (inr n) = inl (rw n at e)
find_more (x ∷ xs) ys t id u e = go (cases_Bool (same_id x.id id)) (find_more xs ys t id u)
  where
    go : (same_id x.id id ≡ true) ⊎ (same_id x.id id ≡ false) → (find_txn (xs ++ t ∷ ys) id ≡ Some u → IsFoundOr (xs ++ ys) id u t)
        → IsFoundOr (x ∷ xs ++ ys) id u t
    go (inl y) f = let is : Some x ≡ Some u = rw y at e in inl (rw y is)
    go (inr n) f = elim (f (rw n at e)) [ inl h ↦ inl (rw n h) | inr h ↦ inr h ]

-- what is held with one more transaction of another was held before, or is that one
pub held_more : (submitted foreign : List Txn) (t : Txn) (id : TxnId) (u : Txn) → find_txn (submitted ++ keep submitted foreign t) id ≡ Some u → IsFoundOr (submitted ++ foreign) id u t
held_more submitted foreign t id u e = go (is_some (find_txn (submitted ++ foreign) t.id)) e
  where
    go : (b : Bool) → find_txn (submitted ++ cond b foreign (foreign ++ t ∷ [])) id ≡ Some u → IsFoundOr (submitted ++ foreign) id u t
    go true h = inl h
    go false h = subst (λ l. IsFoundOr l id u t) (append-nil (submitted ++ foreign))
        (find_more (submitted ++ foreign) [] t id u (subst (λ l. find_txn l id ≡ Some u) (sym (append_assoc submitted foreign (t ∷ []))) h))

pub held_all : (submitted foreign txns : List Txn) (id : TxnId) (u : Txn) → find_txn (submitted ++ keep_all submitted foreign txns) id ≡ Some u → (find_txn (submitted ++ foreign) id ≡ Some u) ⊎ (Has txns u × (u.id ≡ id))
held_all submitted foreign [] id u e = inl e
held_all submitted foreign (t ∷ txns) id u e = elim (held_all submitted (keep submitted foreign t) txns id u e) [
  | inl h ↦ elim (held_more submitted foreign t id u h) [ inl o ↦ inl o | inr s ↦ inr (inl s.0, ap (λ x. x.id) (sym s.0) ∙ s.1) ]
  | inr h ↦ inr (inr h.0, h.1)
]

-- attempts

pub attempts_length : (txns : List Txn) (origins : List Origin) → length origins ≡ length txns → length (attempts txns origins) ≡ length txns
attempts_length [] origins e = refl
attempts_length (t ∷ txns) [] e = absurd (omega arith)
attempts_length (t ∷ txns) (o ∷ origins) e = ap suc (attempts_length txns origins (omega arith))

pub attempts_more : (txns : List Txn) (origins : List Origin) (t : Txn) (o : Origin) → length origins ≡ length txns → attempts (txns ++ t ∷ []) (origins ++ o ∷ []) ≡ attempts txns origins ++ attempt t o ∷ []
attempts_more [] [] t o e = refl
attempts_more [] (p ∷ origins) t o e = absurd (omega arith)
attempts_more (x ∷ txns) [] t o e = absurd (omega arith)
attempts_more (x ∷ txns) (p ∷ origins) t o e = ap (λ l. attempt x p ∷ l) (attempts_more txns origins t o (omega arith))

pub attempt_at : (txns : List Txn) (origins : List Origin) (i : ℕ) (s : Submission) (d : Origin) → slice_get (attempts txns origins) i ≡ Some s
    → (i < length origins) × (s ≡ attempt s.txn (get_or origins i d)) × (slice_get txns i ≡ Some s.txn)
attempt_at [] origins i s d e = cc
attempt_at (t ∷ txns) [] i s d e = cc
attempt_at (t ∷ txns) (o ∷ origins) zero s d e = let same : attempt t o ≡ s = cc in (omega arith, subst (λ x. x ≡ attempt x.txn o) same refl, ap Some (ap (λ x. x.txn) same))
attempt_at (t ∷ txns) (o ∷ origins) (suc i) s d e = let r : (i < length origins) × (s ≡ attempt s.txn (get_or origins i d)) × (slice_get txns i ≡ Some s.txn) = attempt_at txns origins i s d e in (omega arith, r.1, r.2)

pub attempts_have : (txns : List Txn) (origins : List Origin) (s : Submission) → Has (attempts txns origins) s → Has txns s.txn
attempts_have [] origins s h = absurd h
attempts_have (t ∷ txns) [] s h = absurd h
attempts_have (t ∷ txns) (o ∷ origins) s (inl e) = inl (ap (λ x. x.txn) e)
attempts_have (t ∷ txns) (o ∷ origins) s (inr h) = inr (attempts_have txns origins s h)

-- a transaction among the first is found, or another of its id
pub find_some : (xs ys : List Txn) (t : Txn) → Has xs t → (u : Txn) × (find_txn (xs ++ ys) t.id ≡ Some u)
find_some [] ys t h = absurd h
find_some (x ∷ xs) ys t h = go (cases_Bool (same_id x.id t.id)) h (λ r. find_some xs ys t r)
  where
    go : (same_id x.id t.id ≡ true) ⊎ (same_id x.id t.id ≡ false) → Has (x ∷ xs) t → (Has xs t → (u : Txn) × (find_txn (xs ++ ys) t.id ≡ Some u)) → (u : Txn) × (find_txn (x ∷ xs ++ ys) t.id ≡ Some u)
    go (inl y) r f = (x, rw y refl)
    go (inr n) (inl e) f = absurd (cc (test_of_id x.id t.id (ap (λ z. z.id) e)))
    go (inr n) (inr r) f = let g : (u : Txn) × (find_txn (xs ++ ys) t.id ≡ Some u) = f r in (g.0, rw n g.1)
