-- What other regions do leaves a node where it stands, and what packets say stays so.
use Rattle.std.proofs.Common.{◌≡◌, ◌≢◌, ◌<◌, ◌≤◌, ◌+◌, ℕ, List, [], ◌∷◌, length, drop, take, Some, option_map, refl, sym, ap, subst, ◌∙◌, arith}
use Rattle.std.proofs.lemmas.List.{take-append-le}
use Rattle.dt_lists.specs.Lists.{AllIn, IsFront}
use Rattle.dt_lists.proofs.Callers.{all_map}
use Rattle.dt_access.specs.declared.TxnId.{TxnId}
use Rattle.dt_events.specs.declared.Event.{Event}
use Rattle.dt_events.specs.Events.{region_of}
use Rattle.dt_txn.specs.declared.Txn.{Txn}
use Rattle.dt_packet.specs.declared.packet.Packet.{Packet}
use Rattle.dt_cluster.specs.declared.Cluster.{Cluster}
use Rattle.dt_workload.specs.declared.Workload.{Workload}
use Rattle.dt_session.specs.Sessions.{SessionsView}
use Rattle.dt_session.specs.World.{World, node_at, asked_of, log_of, received_of, session_at, taken_of, txn_of}
use Rattle.dt_session.specs.Step.{next}
use Rattle.dt_session.specs.Run.{AreLegalFrom, world_from}
use Rattle.dt_agreement.proofs.Callers.{next_txns, next_keeps, ordered}
use Rattle.dt_merge.specs.OwnPart.{HaveGrown, own}
use Rattle.dt_merge.specs.WorldRegions.{HasInvariant}
use Rattle.dt_cluster.specs.Valid.{IsValidCluster}
use Rattle.dt_workload.specs.Valid.{IsValidWorkload}
use Rattle.dt_site.specs.SessionsStandIn.{SessionsStandIn, seat_in}
use Rattle.dt_site.specs.Site.{SiteView}
use Rattle.dt_site.specs.StandsIn.{StandsIn}
use Rattle.dt_site.proofs.Callers.{seat_alike}
use Rattle.dt_node.specs.Packets.{IsToldOf}
use Rattle.dt_run.proofs.Laws.{asked_front, attempt_same, frame, front_length, grown_refl, grown_trans, legal_grows, logs_same, node_same, session_same}

-- some world goes on to another by legal events of one region
pub record WorldGoesOn (cluster : Cluster) (workload : Workload) (region : ℕ) (w v : World) : Type 0 where
  pub before : HasInvariant cluster workload w
  pub after : HasInvariant cluster workload v
  pub grown : HaveGrown w v
  pub txns : (id : TxnId) (txn : Txn) → txn_of w id ≡ Some txn → txn_of v id ≡ Some txn
  pub others : (q : ℕ) → q ≢ region → own workload v q ≡ own workload w q

module _ {cluster : Cluster} (ok : IsValidCluster cluster) {workload : Workload} (fits : IsValidWorkload cluster workload) where
  pub goes_on : (region : ℕ) (events : List Event) (w : World) → HasInvariant cluster workload w → AreLegalFrom cluster workload w events → AllIn (λ e. region_of e ≡ region) events
      → WorldGoesOn cluster workload region w (world_from cluster workload w events)
  goes_on region [] w good legal mine = record { before = good; after = good; grown = λ q. grown_refl (node_at w q); txns = λ id txn e. e; others = λ q n. refl }
  goes_on region (e ∷ events) w good legal mine =
      let then : HasInvariant cluster workload (next cluster workload w e) = record { order = ordered good.order e; inv = next_keeps ok fits w good.order e legal.0 good.inv } in
      let rest = goes_on region events (next cluster workload w e) then legal.1 mine.1 in
      record {
        before = good;
        after = rest.after;
        grown = λ q. grown_trans (node_at w q) (node_at (next cluster workload w e) q) (node_at (world_from cluster workload (next cluster workload w e) events) q)
            (legal_grows cluster workload w e good legal.0 q) (rest.grown q);
        txns = λ id txn f. rest.txns id txn (next_txns ok fits w good.order e legal.0 good.inv id txn f);
        others = λ q n. rest.others q n ∙ frame cluster workload w q e (λ is. n (sym is ∙ mine.0));
      }

-- where a region's own part is as it was, its site and its sessions stand as they stood
module _ {cluster : Cluster} {workload : Workload} {w v : World} {changed region : ℕ} (goes : WorldGoesOn cluster workload changed w v) (lr : region < cluster.regions) (apart : region ≢ changed) where
  own_is : own workload w region ≡ own workload v region
  own_is = sym (goes.others region apart)

  node_is : node_at w region ≡ node_at v region
  node_is = node_same workload w v region own_is

  pub site_stays : {p : SiteView} → StandsIn cluster.regions w region p → StandsIn cluster.regions v region p
  site_stays s = record {
    number = s.number;
    many = s.many;
    sound = s.sound;
    logs = s.logs ∙ logs_same w v v goes.before goes.after goes.after goes.grown (λ q. grown_refl (node_at v q)) region lr node_is;
    origins = s.origins;
    known = λ id txn h. goes.txns id txn (s.known id txn h);
    node = s.node ∙ node_is;
  }

  pub sessions_still : {s : SessionsView} → SessionsStandIn cluster workload w region s → SessionsStandIn cluster workload v region s
  sessions_still s = record {
    tries = s.tries;
    seats = λ name. s.seats name ∙ seat_alike goes.before.inv v lr (λ id x found own. attempt_same w v region node_is id own) name (session_at workload.sessions w.places region name) refl
        ∙ ap (option_map (seat_in v)) (session_same workload w v region own_is name);
  }

-- what a packet says stays so

take_front : {A : Type 0} (n : ℕ) (xs ys : List A) → n ≤ length xs → IsFront xs ys → take n ys ≡ take n xs
take_front n xs ys le f = subst (λ l. take n l ≡ take n xs) f.1 (take-append-le n xs f.0 le)

module _ {cluster : Cluster} {workload : Workload} {w v : World} {changed : ℕ} (goes : WorldGoesOn cluster workload changed w v) {p : Packet} (ls : p.source < cluster.regions) (lt : p.target < cluster.regions)
    (took : taken_of w p.source p.target ≤ taken_of v p.source p.target) (received : received_of w p.source p.target ≤ received_of v p.source p.target) (t : IsToldOf w p) where
  pub told_grows : IsToldOf v p
  told_grows =
      let asks : IsFront (asked_of w p.source p.target) (asked_of v p.source p.target) = asked_front w v goes.before goes.after p.source p.target ls lt (goes.grown p.source) in
      let logs : IsFront (log_of w p.source) (log_of v p.source) = (goes.grown p.source).log in
      let long_asks = front_length (asked_of w p.source p.target) (asked_of v p.source p.target) asks in
      let long_logs = front_length (log_of w p.source) (log_of v p.source) logs in
      let a = t.asked_to in let b = t.entries_to in let c = t.took in let d = t.received in
      record {
        asked_to = omega (arith, a, long_asks);
        asked = t.asked ∙ ap (drop p.asked_at) (sym (take_front (p.asked_at + length p.asked) (asked_of w p.source p.target) (asked_of v p.source p.target) a asks));
        asked_txns = all_map _ _ p.asked (λ txn e. goes.txns txn.id txn e) t.asked_txns;
        entries_to = omega (arith, b, long_logs);
        entries = t.entries ∙ ap (drop p.log_at) (sym (take_front (p.log_at + length p.entries) (log_of w p.source) (log_of v p.source) b logs));
        entry_txns = all_map _ _ p.entries (λ e f. goes.txns e.part.id e.txn f) t.entry_txns;
        took = omega (arith, c, took);
        received = omega (arith, d, received);
      }
