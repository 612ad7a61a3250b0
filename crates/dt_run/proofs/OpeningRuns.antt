-- The nodes of a cluster are as their type keeps them, with their counts, before the first phase.
use Rattle.std.proofs.Common.{◌≡◌, ℕ, Bool, false, List, ap, sym, subst, ◌∙◌}
use Rattle.dt_cluster.specs.declared.Cluster.{Cluster}
use Rattle.dt_workload.specs.declared.Workload.{Workload}
use Rattle.dt_run.specs.NodesView.{opening_nodes}
use Rattle.dt_run.specs.SeatsInner.{AreRunning, SeatView, nodes_view}
use Rattle.dt_run.specs.declared.counts.Counts.{Counts}
use Rattle.dt_run.proofs.OpeningSeats.{AreSeatsLinked, AreSeatsMade, opened_is, opened_seated}
use Rattle.dt_run.proofs.PhaseOfTurns.{put_back}
use Rattle.dt_run.proofs.SeatCounts.{opening_counted}

module _ {cluster : Cluster} {workload : Workload} {given seats : List SeatView} {len : ℕ} (made : AreSeatsMade cluster workload given len) (linked : AreSeatsLinked given seats) where
  -- as a run begins with them
  module _ {now : List SeatView} {broken : Bool} (now_is : now ≡ put_back len given seats) (sound_now : broken ≡ false) where
    seen : nodes_view cluster workload now broken ≡ nodes_view cluster workload (put_back len given seats) false
    seen = ap (λ l. nodes_view cluster workload l broken) now_is ∙ ap (nodes_view cluster workload (put_back len given seats)) sound_now

    pub opened_so : nodes_view cluster workload now broken ≡ opening_nodes cluster workload
    opened_so = seen ∙ opened_is made linked

    pub opened_running : {counts : Counts} → counts ≡ record { made = 0; kept = 0; quiet = 0 } → AreRunning cluster workload now broken counts
    opened_running {counts} none = subst (λ l. AreRunning cluster workload l broken counts) (sym now_is) (subst (λ b. AreRunning cluster workload (put_back len given seats) b counts) (sym sound_now) (record {
      seated = opened_seated made linked;
      counted = λ e. opening_counted cluster workload (nodes_view cluster workload (put_back len given seats) false) counts (opened_is made linked) none;
    }))
