-- What a phase makes of all nodes, whether it failed or not, from the turns at their seats.
use Rattle.std.proofs.Common.{◌≡◌, ◌<◌, ◌++◌, ℕ, true, false, Bool, List, All, length, drop, take, sym, ap, subst, ◌∙◌}
use Rattle.std.proofs.Math.Seq.{take-append_seam}
use Rattle.std.proofs.lemmas.List.Elements.{All-from_get_or}
use Rattle.dt_lists.specs.Lists.{AllIn}
use Rattle.dt_cluster.specs.declared.Cluster.{Cluster}
use Rattle.dt_workload.specs.declared.Workload.{Workload}
use Rattle.dt_run.specs.LinksInner.{BesideSoFar}
use Rattle.dt_run.specs.Phase.{EndsInStep, IsPhase}
use Rattle.dt_run.specs.SeatsInner.{EndsAreApart, AreLinkedBy, AreSeated, EachGoes, SeatCan, SeatTurned, SeatView, no_seat, nodes_view, seat_at}
use Rattle.dt_run.proofs.NodesAfterPhase.{phase_seated}
use Rattle.dt_run.proofs.FinishedRun.{each_seat}
use Rattle.dt_run.proofs.NodesAfterTurns.{phase_is, turns_of}
use Rattle.dt_run.proofs.PhaseInStep.{apart_now, ends_in_step, turns_now}
use Rattle.dt_run.proofs.WaitingPackets as waiting

module _ {cluster : Cluster} {workload : Workload} {seats : List SeatView} {broken : Bool} (a : AreSeated cluster workload seats broken) (sound : broken ≡ false) where
  -- a turn may be made at each seat
  pub seats_can : All (SeatCan cluster.procs) seats
  seats_can = All-from_get_or (SeatCan cluster.procs) seats no_seat (λ region lt. waiting.seat_can a sound (waiting.region_there a lt))

  -- a turn was made at each
  module _ {seats' : List SeatView} (g : EachGoes cluster.procs seats seats') where
    -- some turn failed
    pub failed_phase : IsPhase (nodes_view cluster workload seats broken) (nodes_view cluster workload seats' true)
    failed_phase = phase_is a sound (turns_of g) true

    pub links_apart : AreLinkedBy EndsAreApart seats'
    links_apart = apart_now (a.linked sound) g

    -- none failed, and the ends of all links were brought beside each other
    module _ (none : AllIn (λ s. s.failed ≡ false) seats') {seats'' : List SeatView} (b : BesideSoFar (length seats') seats' seats'') where
      whole : (region : ℕ) → region < length seats → SeatTurned cluster.procs (seat_at seats region) (seat_at seats' region)
      whole region lt = (g.each region lt).whole (each_seat (λ s. s.failed ≡ false) seats' none region (subst (λ m. region < m) (sym g.many) lt))

      pub made_seated : AreSeated cluster workload seats'' broken
      made_seated = subst (AreSeated cluster workload seats'') (sym sound) (phase_seated a sound g whole b)

      pub made_phase : IsPhase (nodes_view cluster workload seats broken) (nodes_view cluster workload seats'' broken)
      made_phase = phase_is a sound (turns_now a sound g whole b) broken

      pub made_in_step : EndsInStep (nodes_view cluster workload seats broken) (nodes_view cluster workload seats'' broken)
      made_in_step = subst (λ later. EndsInStep (nodes_view cluster workload seats broken) (nodes_view cluster workload seats'' later)) (sym sound) (ends_in_step a sound g whole b)

-- what was lent as a slice is back in its vector
abbrev pub put_back : {A : Type 0} → ℕ → List A → List A → List A
put_back len items now = take len (now ++ drop (length now) items)

pub put_back_is : {A : Type 0} (len : ℕ) (items now : List A) → len ≡ length items → length now ≡ length items → put_back len items now ≡ now
put_back_is len items now full same = ap (λ n. take n (now ++ drop (length now) items)) (full ∙ sym same) ∙ take-append_seam now (drop (length now) items)

-- no turn failed at these seats, which fill their vector, and the ends of all links were brought beside each other
pub record AreTurnedWhole (turned beside : List SeatView) (len : ℕ) : Type 0 where
  pub full : len ≡ length turned
  pub none : AllIn (λ s. s.failed ≡ false) turned
  pub so_far : BesideSoFar (length turned) turned beside

-- as the seats were lent, and asked
pub turned_whole : {turned lent asked beside : List SeatView} {len : ℕ} → len ≡ length turned → lent ≡ turned → asked ≡ turned → AllIn (λ s. s.failed ≡ false) asked → BesideSoFar (length lent) lent beside
    → AreTurnedWhole turned beside len
turned_whole {turned} {lent} {asked} {beside} full lent_is asked_is none so_far = record {
  full = full;
  none = subst (AllIn (λ s. s.failed ≡ false)) asked_is none;
  so_far = subst (λ l. BesideSoFar (length l) l beside) lent_is so_far;
}

-- the same of seats in their vector
module _ {cluster : Cluster} {workload : Workload} {seats : List SeatView} {broken : Bool} (a : AreSeated cluster workload seats broken) (sound : broken ≡ false) {turned : List SeatView}
    (g : EachGoes cluster.procs seats turned) where
  pub phase_failed : IsPhase (nodes_view cluster workload seats broken) (nodes_view cluster workload turned true)
  phase_failed = failed_phase a sound g

  pub ends_apart : {lent : List SeatView} → lent ≡ turned → AreLinkedBy EndsAreApart lent
  ends_apart lent_is = subst (AreLinkedBy EndsAreApart) (sym lent_is) (links_apart a sound g)

  module _ {beside : List SeatView} {len : ℕ} (w : AreTurnedWhole turned beside len) where
    beside_is : put_back len turned beside ≡ beside
    beside_is = put_back_is len turned beside w.full w.so_far.many

    pub seats_made : AreSeated cluster workload (put_back len turned beside) broken
    seats_made = subst (λ l. AreSeated cluster workload l broken) (sym beside_is) (made_seated a sound g w.none w.so_far)

    pub phase_made : IsPhase (nodes_view cluster workload seats broken) (nodes_view cluster workload (put_back len turned beside) broken)
    phase_made = subst (λ l. IsPhase (nodes_view cluster workload seats broken) (nodes_view cluster workload l broken)) (sym beside_is) (made_phase a sound g w.none w.so_far)

    pub in_step_made : EndsInStep (nodes_view cluster workload seats broken) (nodes_view cluster workload (put_back len turned beside) broken)
    in_step_made = subst (λ l. EndsInStep (nodes_view cluster workload seats broken) (nodes_view cluster workload l broken)) (sym beside_is) (made_in_step a sound g w.none w.so_far)
