-- What a phase needs and leaves of the counts of the nodes, over their seats in a vector: after turns of which some failed, and
-- after turns of which none did.
use Rattle.std.proofs.Common.{◌≡◌, ◌<◌, ◌+◌, ◌^◌, ℕ, Bool, true, false, cond, eqb, List, length, sym, subst}
use Rattle.std.specs.Prelude.{sum_by}
use Rattle.std.proofs.lemmas.Bool.{false≢true}
use Rattle.dt_cluster.specs.declared.Cluster.{Cluster}
use Rattle.dt_workload.specs.declared.Workload.{Workload}
use Rattle.dt_run.specs.Phase.{EndsInStep, IsPhase}
use Rattle.dt_run.specs.SeatsInner.{HasCounts, AreRunning, AreSeated, EachGoes, SeatView, events_at, nodes_view, seat_at}
use Rattle.dt_run.specs.Silence.{ComesToAnEnd, PhaseIsCounted}
use Rattle.dt_run.specs.declared.counts.Counts.{Counts}
use Rattle.dt_run.proofs.NodesAfterTurns.{broken_seated}
use Rattle.dt_run.proofs.PhaseOfTurns.{AreTurnedWhole, in_step_made, phase_made, put_back, seats_made}
use Rattle.dt_run.proofs.SeatCounts as counting

module _ {cluster : Cluster} {workload : Workload} {seats : List SeatView} {broken : Bool} {counts : Counts} (r : AreRunning cluster workload seats broken counts) (sound : broken ≡ false) {turned : List SeatView}
    (goes : EachGoes cluster.procs seats turned) where
  -- some turn failed
  pub failed_running : AreRunning cluster workload turned true counts
  failed_running = record { seated = broken_seated r.seated sound goes; counted = λ e. absurd (false≢true (sym e)) }

  -- none failed, and the ends of all links were brought beside each other
  module _ {beside : List SeatView} {len : ℕ} (whole : AreTurnedWhole turned beside len) where
    abbrev left : List SeatView
    left = put_back len turned beside

    seated : AreSeated cluster workload left broken
    seated = seats_made r.seated sound goes whole

    phase : IsPhase (nodes_view cluster workload seats broken) (nodes_view cluster workload left broken)
    phase = phase_made r.seated sound goes whole

    ends : EndsInStep (nodes_view cluster workload seats broken) (nodes_view cluster workload left broken)
    ends = in_step_made r.seated sound goes whole

    counted : HasCounts (nodes_view cluster workload seats broken) counts
    counted = r.counted sound

    pub phase_counts : PhaseIsCounted (nodes_view cluster workload seats broken) (nodes_view cluster workload left broken)
    phase_counts = counting.phase_counted r.seated sound counted seated phase ends

    pub comes_to_an_end : ComesToAnEnd (nodes_view cluster workload left broken)
    comes_to_an_end = counting.phase_ends r.seated sound counted seated phase ends

    -- the seats as they are counted
    module _ {given : List SeatView} (given_is : given ≡ left) where
      pub kept_fits : sum_by events_at given < 2 ^ 64
      kept_fits = subst (λ l. sum_by events_at l < 2 ^ 64) (sym given_is) (counting.kept_fits seated)

      pub quiet_fits : counts.quiet < length (seat_at given 0).marks
      quiet_fits = subst (λ l. counts.quiet < length (seat_at l 0).marks) (sym given_is) (counting.quiet_fits r.seated sound counted seated phase ends)

      pub running_now : {now : Counts} → now.made ≡ length (seat_at given 0).marks → now.kept ≡ sum_by events_at given
          → now.quiet ≡ cond (eqb counts.kept now.kept) (counts.quiet + 1) 0 → AreRunning cluster workload left broken now
      running_now {now} made kept quiet = record {
        seated = seated;
        counted = λ e. counting.counted_now r.seated sound counted seated phase ends now (subst (λ l. now.made ≡ length (seat_at l 0).marks) given_is made)
            (subst (λ l. now.kept ≡ sum_by events_at l) given_is kept) quiet;
      }
