-- Logs and their inserted fronts: what they come to while logs grow and parts are inserted.
use Rattle.std.proofs.Common.{◌≡◌, ◌<◌, ◌≤◌, ◌+◌, add-one, ℕ, zero, suc, List, [], ◌∷◌, ◌++◌, length, length-append, set, take, replicate, slice_get, Some, refl, sym, ap, ◌∙◌, inl, inr, arith}
use Rattle.std.specs.Prelude.{slice_index}
use Rattle.std.proofs.lemmas.List.Sums.{sum_by-set}
use Rattle.dt_lists.specs.Lists.{Distinct}
use Rattle.dt_lists.proofs.Callers.{all_get, has_map}
use Rattle.dt_lists.proofs.Callers.{has_place}
use Rattle.dt_access.specs.declared.Part.{Part}
use Rattle.dt_sched.specs.Views.{View, log_at, ids_of, HasPart}
use Rattle.dt_sched.specs.Sched.{parts_in, with_part}
use Rattle.dt_txn.specs.Replica.{fronts}
use Rattle.dt_sched.proofs.Callers.{parts_cons}

-- before anything happens

pub parts_none : (regions : ℕ) → parts_in (replicate regions []) ≡ 0
parts_none zero = refl
parts_none (suc regions) = let later = parts_none regions in rw (parts_cons [] (replicate regions [])) (omega (arith, later))

pub fronts_none : (regions : ℕ) → fronts (replicate regions 0) (replicate regions []) ≡ replicate regions []
fronts_none zero = refl
fronts_none (suc regions) = ap (λ (l : View). [] ∷ l) (fronts_none regions)

-- fronts

pub fronts_length : (lengths : List ℕ) (logs : View) → length (fronts lengths logs) ≡ length logs
fronts_length lengths [] = refl
fronts_length [] (log ∷ logs) = ap suc (fronts_length [] logs)
fronts_length (n ∷ lengths) (log ∷ logs) = ap suc (fronts_length lengths logs)

take_next : (log : List Part) (n : ℕ) (part : Part) → slice_get log n ≡ Some part → take (suc n) log ≡ take n log ++ part ∷ []
take_next [] n part e = cc
take_next (p ∷ log) zero part e = ap (λ x. x ∷ []) (cc)
take_next (p ∷ log) (suc n) part e = ap (λ l. p ∷ l) (take_next log n part e)

-- a front that is one part longer
fronts_next : (lengths : List ℕ) (logs : View) (home : ℕ) (part : Part) → home < length lengths → slice_get (log_at logs home) (slice_index lengths home) ≡ Some part →
    fronts (set lengths home (slice_index lengths home + 1)) logs ≡ set (fronts lengths logs) home (log_at (fronts lengths logs) home ++ part ∷ [])
fronts_next lengths [] home part lt e = cc
fronts_next [] (log ∷ logs) home part lt e = absurd (omega arith)
fronts_next (n ∷ lengths) (log ∷ logs) zero part lt e = ap (λ l. l ∷ fronts lengths logs) (ap (λ k. take k log) (add-one n) ∙ take_next log n part e)
fronts_next (n ∷ lengths) (log ∷ logs) (suc home) part lt e = ap (λ l. take n log ∷ l) (fronts_next lengths logs home part (omega arith) e)

pub fronts_insert : (lengths : List ℕ) (logs : View) (home : ℕ) (part : Part) → home < length lengths → slice_get (log_at logs home) (slice_index lengths home) ≡ Some part → part.home ≡ home →
    fronts (set lengths home (slice_index lengths home + 1)) logs ≡ with_part (fronts lengths logs) part
fronts_insert lengths logs home part lt e at =
    fronts_next lengths logs home part lt e ∙ ap (λ h. set (fronts lengths logs) h (log_at (fronts lengths logs) h ++ part ∷ [])) (sym at)

-- how many parts there are

take_few : (log : List Part) (n : ℕ) → length (take n log) ≤ length log
take_few [] zero = omega arith
take_few [] (suc n) = omega arith
take_few (p ∷ log) zero = omega arith
take_few (p ∷ log) (suc n) = let later = take_few log n in omega (arith, later)

pub fronts_few : (lengths : List ℕ) (logs : View) → parts_in (fronts lengths logs) ≤ parts_in logs
fronts_few lengths [] = omega arith
fronts_few [] (log ∷ logs) = let later = fronts_few [] logs in rw (parts_cons [] (fronts [] logs), parts_cons log logs) (omega (arith, later))
fronts_few (n ∷ lengths) (log ∷ logs) = let first = take_few log n in let later = fronts_few lengths logs in rw (parts_cons (take n log) (fronts lengths logs), parts_cons log logs) (omega (arith, first, later))

pub parts_one_more : (logs : View) (part : Part) → part.home < length logs → parts_in (with_part logs part) ≡ parts_in logs + 1
parts_one_more logs part lt =
    let e = sum_by-set length logs part.home (log_at logs part.home ++ part ∷ []) [] lt in
    let f = length-append (log_at logs part.home) (part ∷ []) in
    omega (arith, e, f)

-- one log has no more than all together
pub log_few : (logs : View) (home : ℕ) → length (log_at logs home) ≤ parts_in logs
log_few [] home = omega arith
log_few (log ∷ logs) zero = rw (parts_cons log logs) (omega arith)
log_few (log ∷ logs) (suc home) = let later = log_few logs home in rw (parts_cons log logs) (omega (arith, later))

-- the next part of a log in which every id stands once is not among those before it
pub next_fresh : (log : List Part) (n : ℕ) (part : Part) → slice_get log n ≡ Some part → Distinct (ids_of log) → ¬ (HasPart (take n log) part.id)
next_fresh [] n part e d h = cc
next_fresh (p ∷ log) zero part e d h = absurd h
next_fresh (p ∷ log) (suc n) part e d (inl same) = all_get _ (ids_of log) d.0 part.id (has_map (λ (q : Part). q.id) log part (has_place log n part e)) same
next_fresh (p ∷ log) (suc n) part e d (inr later) = next_fresh log n part e d.1 later
