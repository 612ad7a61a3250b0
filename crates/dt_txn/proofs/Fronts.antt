-- The fronts of logs that a region has inserted: each by its home, and while a log goes on.
use Rattle.std.proofs.Common.{◌≡◌, ◌≤◌, ℕ, zero, suc, List, [], ◌∷◌, ◌++◌, length, set, take, refl, sym, ap}
use Rattle.std.specs.Prelude.{slice_index}
use Rattle.std.proofs.lemmas.List.{take-append-le}
use Rattle.std.proofs.Math.Seq.{take-nil}
use Rattle.dt_access.specs.declared.Part.{Part}
use Rattle.dt_sched.specs.Views.{View, log_at}
use Rattle.dt_txn.specs.Replica.{fronts}

-- the front of each log
pub fronts_at : (lengths : List ℕ) (logs : View) (home : ℕ) → log_at (fronts lengths logs) home ≡ take (slice_index lengths home) (log_at logs home)
fronts_at lengths [] home = sym (take-nil (slice_index lengths home))
fronts_at [] (log ∷ logs) zero = refl
fronts_at [] (log ∷ logs) (suc home) = fronts_at [] logs home
fronts_at (n ∷ lengths) (log ∷ logs) zero = refl
fronts_at (n ∷ lengths) (log ∷ logs) (suc home) = fronts_at lengths logs home

-- a log that goes on past its front leaves the front
pub fronts_grown : (lengths : List ℕ) (logs : View) (home : ℕ) (rest : List Part) → slice_index lengths home ≤ length (log_at logs home) → fronts lengths (set logs home (log_at logs home ++ rest)) ≡ fronts lengths logs
fronts_grown lengths [] home rest le = refl
fronts_grown [] (log ∷ logs) zero rest le = refl
fronts_grown [] (log ∷ logs) (suc home) rest le = ap (λ (l : View). [] ∷ l) (fronts_grown [] logs home rest le)
fronts_grown (n ∷ lengths) (log ∷ logs) zero rest le = ap (λ l. l ∷ fronts lengths logs) (take-append-le n log rest le)
fronts_grown (n ∷ lengths) (log ∷ logs) (suc home) rest le = ap (λ l. take n log ∷ l) (fronts_grown lengths logs home rest le)
