-- How many steps a region can make: each part in its logs is inserted once, and of each transaction that has a part there is
-- one execution, and one resolution at most.
use Rattle.std.proofs.Common.{◌≡◌, ◌≤◌, ◌+◌, ◌*◌, ℕ, zero, suc, List, [], ◌∷◌, length, sym, subst, ◌∙◌, arith}
use Rattle.std.specs.Prelude.{slice_index, sum}
use Rattle.std.proofs.lemmas.List.{length-map}
use Rattle.std.proofs.lemmas.List.Sums.{sum_by-cons}
use Rattle.dt_lists.specs.Lists.{AllIn, Has}
use Rattle.dt_lists.proofs.Callers.{all_map, distinct_within}
use Rattle.dt_access.specs.declared.TxnId.{TxnId}
use Rattle.dt_sched.specs.Views.{View, IsClosed, log_at}
use Rattle.dt_sched.specs.Decide.{IsSound}
use Rattle.dt_sched.specs.Sched.{parts_in}
use Rattle.dt_sched.proofs.Callers.{closed_listed, few_groups, ids_in, ids_in_length}
use Rattle.dt_txn.specs.Replica.{done_ids, view_of}
use Rattle.dt_region.specs.Region.{RegionState}
use Rattle.dt_region.specs.Sound.{IsSoundRegion}
use Rattle.dt_region.proofs.Logs.{fronts_few}
use Rattle.dt_region.specs.StepsInner.{steps_of}

-- no more is inserted than there is
few_inserted : (counts : List ℕ) (logs : View) → length counts ≡ length logs → ((home : ℕ) → slice_index counts home ≤ length (log_at logs home)) → sum counts ≤ parts_in logs
few_inserted [] logs e each = omega arith
few_inserted (n ∷ counts) [] e each = absurd (let none : suc (length counts) ≡ 0 = e in omega (arith, none))
few_inserted (n ∷ counts) (log ∷ logs) e each =
    let first : n ≤ length log = each zero in
    let same : length counts ≡ length logs = omega (arith, e) in
    let rest : sum counts ≤ parts_in logs = few_inserted counts logs same (λ home. each (suc home)) in
    let p : sum (n ∷ counts) ≡ n + sum counts = sum_by-cons (λ y. y) n counts in
    let q : parts_in (log ∷ logs) ≡ length log + parts_in logs = sum_by-cons length log logs in
    omega (arith, first, rest, p, q)

module _ (view : View) (resolved : List (List TxnId)) (done : List TxnId) (sound : IsSound view resolved done) where
  pub few_done : length done ≤ parts_in view
  few_done = subst (λ n. length done ≤ n) (ids_in_length view) (distinct_within done (ids_in view) sound.done_once (all_map (IsClosed view) (Has (ids_in view)) done (closed_listed view) sound.done_closed))

  few_resolved : length resolved ≤ parts_in view
  few_resolved = subst (λ n. length resolved ≤ n) (ids_in_length view)
      (few_groups view resolved sound.resolved_several sound.resolved_classes sound.resolved_once (ids_in view)
      (all_map (AllIn (IsClosed view)) (AllIn (Has (ids_in view))) resolved (λ ids. all_map (IsClosed view) (Has (ids_in view)) ids (closed_listed view)) sound.resolved_closed))

pub few_steps : (s : RegionState) → IsSoundRegion s → steps_of s.here ≤ 3 * parts_in s.logs
few_steps s sound =
    let view = view_of s.logs s.here in
    let a : sum s.here.inserted ≤ parts_in s.logs = few_inserted s.here.inserted s.logs (sound.inserted ∙ sym sound.logs) sound.inserted_few in
    let b : length (done_ids s.here) ≤ parts_in view = few_done view s.here.resolved (done_ids s.here) sound.decided in
    let c : length s.here.resolved ≤ parts_in view = few_resolved view s.here.resolved (done_ids s.here) sound.decided in
    let d : parts_in view ≤ parts_in s.logs = fronts_few s.here.inserted s.logs in
    let e : length (done_ids s.here) ≡ length s.here.done = length-map s.here.done (λ x. x.0) in
    omega (arith, a, b, c, d, e)
