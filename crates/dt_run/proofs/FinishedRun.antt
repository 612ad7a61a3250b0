-- All is done where all seats say so; and then the events of the nodes are a finished list.
use Rattle.std.proofs.Common.{◌≡◌, ◌<◌, ◌+◌, ◌↔◌, ℕ, Bool, IsTrue, List, length, sym, subst}
use Rattle.dt_lists.specs.Lists.{AllIn}
use Rattle.dt_lists.proofs.Callers.{all_of_places, all_or}
use Rattle.dt_cluster.specs.declared.Cluster.{Cluster}
use Rattle.dt_workload.specs.declared.Workload.{Workload}
use Rattle.dt_session.specs.Sessions.{EachNameIsAnswered}
use Rattle.dt_node.specs.NodeView.{NodeView}
use Rattle.dt_run.specs.EndOfRun.{IsAllDone, HasDone}
use Rattle.dt_run.specs.HelpersInner.{HaveAllDone}
use Rattle.dt_run.specs.NodesView.{NodesView, node_in}
use Rattle.dt_run.specs.SeatsInner.{AreSeated, HasFewSubmitted, SeatView, no_seat, nodes_view, seat_at}
use Rattle.dt_run.proofs.SitesAfter.{submitted_few}
use Rattle.dt_run.proofs.WaitingPackets.{node_at_seat, region_there, seat_there}

-- each seat, or each item

pub each_seat : (P : SeatView → Type 0) (seats : List SeatView) → AllIn P seats → (region : ℕ) → region < length seats → P (seat_at seats region)
each_seat P seats a region lt = all_or P seats region no_seat a lt

pub all_seats : (P : SeatView → Type 0) (seats : List SeatView) → ((region : ℕ) → region < length seats → P (seat_at seats region)) → AllIn P seats
all_seats P seats f = all_of_places P no_seat seats f

module _ {cluster : Cluster} {workload : Workload} {seats : List SeatView} {broken : Bool} (a : AreSeated cluster workload seats broken) where
  abbrev v : NodesView
  v = nodes_view cluster workload seats broken

  pub answered_all : AllIn (λ s. EachNameIsAnswered s.node.sessions) seats → (region : ℕ) → region < cluster.regions → EachNameIsAnswered (node_in v region).sessions
  answered_all all region lr = subst (λ (n : NodeView). EachNameIsAnswered n.sessions) (sym (node_at_seat a region)) (each_seat (λ s. EachNameIsAnswered s.node.sessions) seats all region (seat_there a lr))

  pub all_answered : ((region : ℕ) → region < cluster.regions → EachNameIsAnswered (node_in v region).sessions) → AllIn (λ s. EachNameIsAnswered s.node.sessions) seats
  all_answered f = all_seats (λ s. EachNameIsAnswered s.node.sessions) seats (λ region lt. subst (λ (n : NodeView). EachNameIsAnswered n.sessions) (node_at_seat a region) (f region (region_there a lt)))

  pub done_each : AllIn (λ source. AllIn (λ s. HasDone s.node source.node) seats) seats → (region source : ℕ) → region < cluster.regions → source < cluster.regions → HasDone (node_in v region) (node_in v source)
  done_each all region source lr ls =
      subst (λ n. HasDone n (node_in v source)) (sym (node_at_seat a region)) (subst (HasDone (seat_at seats region).node) (sym (node_at_seat a source))
      (each_seat (λ s. HasDone s.node (seat_at seats source).node) seats (each_seat (λ t. AllIn
      (λ s. HasDone s.node t.node) seats) seats all source (seat_there a ls)) region (seat_there a lr)))

  pub each_done : ((region source : ℕ) → region < cluster.regions → source < cluster.regions → HasDone (node_in v region) (node_in v source)) → AllIn (λ source. AllIn (λ s. HasDone s.node source.node) seats) seats
  each_done f = all_seats (λ t. AllIn (λ s. HasDone s.node t.node) seats) seats (λ source ls. all_seats (λ s. HasDone s.node (seat_at seats source).node) seats (λ region lr.
      subst (λ n. HasDone n (seat_at seats source).node) (node_at_seat a region) (subst (HasDone (node_in v region)) (node_at_seat a source) (f region source (region_there a lr) (region_there a ls)))))

  pub are_done : AllIn (λ s. EachNameIsAnswered s.node.sessions) seats → AllIn (λ source. AllIn (λ s. HasDone s.node source.node) seats) seats → IsAllDone v
  are_done answered executed = record { answered = answered_all answered; executed = done_each executed }

  -- whether all is done, as it is asked of the seats
  pub done_where : {asked : List SeatView} → asked ≡ seats → (b : Bool) → (IsTrue b ↔ HaveAllDone asked) → IsTrue b ↔ IsAllDone v
  done_where {asked} is b told = (
    λ t. let d : HaveAllDone seats = subst HaveAllDone is (told.0 t) in are_done d.answered d.executed,
    λ d. told.1 (subst HaveAllDone (sym is) (record { answered = all_answered d.answered; executed = each_done d.executed })),
  )

  -- submissions are counted by 32 bits
  pub few_submitted : AllIn HasFewSubmitted seats
  few_submitted = all_seats HasFewSubmitted seats (λ region lt.
      subst (λ (n : NodeView). length n.site.region.state.submitted + 1 < 4294967296) (node_at_seat a region) (submitted_few (a.nodes.stand region (region_there a lt)).fits))
