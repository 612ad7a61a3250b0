-- Fronts of logs as views, and the view of a region.
use Rattle.std.proofs.Common.{◌≡◌, ◌≢◌, ◌<◌, ◌≤◌, ℕ, zero, suc, List, [], ◌∷◌, ◌++◌, length, set, take, refl, ap, ap₂, subst, ◌∙◌, arith}
use Rattle.std.specs.Prelude.{slice_index}
use Rattle.std.proofs.lemmas.List.{take-take, length-map, get_or-set_same, get_or-set_other}
use Rattle.std.proofs.Math.ListN.{get_or-map}
use Rattle.dt_lists.specs.Lists.{IsFront}
use Rattle.dt_lists.proofs.Callers.{front_refl, front_take, front_takes, front_empty, front_append, pairwise_refl}
use Rattle.dt_access.specs.declared.Part.{Part}
use Rattle.dt_sched.specs.Views.{View, log_at, IsLonger}
use Rattle.dt_txn.specs.Replica.{fronts}
use Rattle.dt_txn.proofs.Callers.{fronts_at}
use Rattle.dt_session.specs.World.{World, no_node, node_at, logs_of, log_of, received_of, received_lengths, received_logs, view_at}

-- fronts of fronts that are no shorter
pub fronts_within : (short long : List ℕ) (view : View) → ((home : ℕ) → home < length view → slice_index short home ≤ slice_index long home) → fronts short (fronts long view) ≡ fronts short view
fronts_within short long [] le = refl
fronts_within [] [] (log ∷ logs) le = ap (λ l. [] ∷ l) (fronts_within [] [] logs (λ home lt. le (suc home) (omega arith)))
fronts_within [] (m ∷ long) (log ∷ logs) le = ap (λ l. [] ∷ l) (fronts_within [] long logs (λ home lt. le (suc home) (omega arith)))
fronts_within (n ∷ short) [] (log ∷ logs) le = ap₂ ◌∷◌ (take-take n 0 log (le zero (omega arith))) (fronts_within short [] logs (λ home lt. le (suc home) (omega arith)))
fronts_within (n ∷ short) (m ∷ long) (log ∷ logs) le = ap₂ ◌∷◌ (take-take n m log (le zero (omega arith))) (fronts_within short long logs (λ home lt. le (suc home) (omega arith)))

pub fronts_longer : (lengths : List ℕ) (view : View) → IsLonger (fronts lengths view) view
fronts_longer lengths [] = tt
fronts_longer [] (log ∷ logs) = (front_empty log, fronts_longer [] logs)
fronts_longer (n ∷ lengths) (log ∷ logs) = (front_take n log, fronts_longer lengths logs)

pub fronts_more : (short long : List ℕ) (view : View) → ((home : ℕ) → home < length view → slice_index short home ≤ slice_index long home) → IsLonger (fronts short view) (fronts long view)
fronts_more short long [] le = tt
fronts_more [] [] (log ∷ logs) le = (front_refl [], fronts_more [] [] logs (λ home lt. le (suc home) (omega arith)))
fronts_more [] (m ∷ long) (log ∷ logs) le = (front_empty (take m log), fronts_more [] long logs (λ home lt. le (suc home) (omega arith)))
fronts_more (n ∷ short) [] (log ∷ logs) le = (front_takes n 0 log (le zero (omega arith)), fronts_more short [] logs (λ home lt. le (suc home) (omega arith)))
fronts_more (n ∷ short) (m ∷ long) (log ∷ logs) le = (front_takes n m log (le zero (omega arith)), fronts_more short long logs (λ home lt. le (suc home) (omega arith)))

pub grown_longer : (view : View) (home : ℕ) (rest : List Part) → IsLonger view (set view home (log_at view home ++ rest))
grown_longer [] home rest = tt
grown_longer (log ∷ logs) zero rest = (front_append log rest, pairwise_refl IsFront front_refl logs)
grown_longer (log ∷ logs) (suc home) rest = (front_refl log, grown_longer logs home rest)

-- the logs of a world

pub log_is : (w : World) (home : ℕ) → log_at (logs_of w) home ≡ log_of w home
log_is w home = get_or-map (λ n. n.log) w.nodes home no_node

pub logs_length : (w : World) → length (logs_of w) ≡ length w.nodes
logs_length w = length-map w.nodes (λ n. n.log)

-- what a region inserted of what it received, it inserted of the logs
pub view_is : (w : World) (region : ℕ) → ((home : ℕ) → home < length w.nodes → slice_index (node_at w region).here.inserted home ≤ received_of w region home)
    → view_at w region ≡ fronts (node_at w region).here.inserted (logs_of w)
view_is w region le = fronts_within (node_at w region).here.inserted (received_lengths w region) (logs_of w) (λ home lt. le home (subst (λ n. home < n) (logs_length w) lt))

-- a region has its own log whole
pub received_own : (w : World) (region : ℕ) → region < length (node_at w region).received → received_of w region region ≡ length (log_of w region)
received_own w region lt = get_or-set_same (node_at w region).received region (length (log_of w region)) 0 lt

pub received_other : (w : World) (region home : ℕ) → home ≢ region → received_of w region home ≡ slice_index (node_at w region).received home
received_other w region home n = get_or-set_other (node_at w region).received region home (length (log_of w region)) 0 n

-- what a region received of a log, as it received it
pub received_log : (w : World) (region home : ℕ) → log_at (received_logs w region) home ≡ take (received_of w region home) (log_of w home)
received_log w region home = fronts_at (received_lengths w region) (logs_of w) home ∙ ap (take (received_of w region home)) (log_is w home)
