-- A world in which one region changed and left its requests as they were: what it submitted, asked and placed, and its own
-- log. Then ids, requests, logs and sessions keep what the invariant says of them, and what is left to show are lengths, what
-- is executed, and tables. Rules 3 to 6 change a world so.
use Rattle.std.proofs.Common.{◌≡◌, ◌≢◌, ◌<◌, ℕ, List, length, refl, sym, ap, subst, ◌∙◌}
use Rattle.std.proofs.lemmas.List.{length-set, get_or-set_same, get_or-set_other}
use Rattle.std.proofs.Math.Seq.{map-set_same}
use Rattle.dt_lists.proofs.Callers.{field_of_set, flat_map_of_set, each_of_set}
use Rattle.dt_access.specs.declared.TxnId.{TxnId}
use Rattle.dt_cluster.specs.declared.Cluster.{Cluster}
use Rattle.dt_workload.specs.declared.Workload.{Workload}
use Rattle.dt_session.specs.World.{World, Node, no_node, node_at, with_node, logs_of, submissions}
use Rattle.dt_session.specs.Run.{txns_of}
use Rattle.dt_agreement.specs.Invariant.{IsSized, IsOrder, Inv}
use Rattle.dt_agreement.proofs.Submissions.{Keeps, txns_same}
use Rattle.dt_agreement.proofs.InvariantParts.{AreSized, Lengths, Sound, Tables, ids_kept, valid_kept, asked_kept, logs_kept, sessions_kept}

-- the node left its requests and its log as they were
pub record LeavesRequests (before after : Node) : Type 0 where
  pub submitted : after.submitted ≡ before.submitted
  pub log : after.log ≡ before.log
  pub asked : after.here.asked ≡ before.here.asked
  pub taken : after.here.taken ≡ before.here.taken

-- the second world is the first with this node in the place of a region's, which left its requests: what stays by that
pub record Leaves (cluster : Cluster) (w v : World) (region : ℕ) (n : Node) : Type 1 where
  pub same : LeavesRequests (node_at w region) n
  pub nodes : length v.nodes ≡ cluster.regions
  pub node : node_at v region ≡ n
  pub others : (q : ℕ) → q ≢ region → node_at v q ≡ node_at w q
  pub keeps : {A : Type 0} (f : Node → A) → f n ≡ f (node_at w region) → Keeps f w v
  pub logs : logs_of v ≡ logs_of w
  pub txns : (ids : List TxnId) → txns_of v ids ≡ txns_of w ids

-- what of the invariant such a change can touch, with the order that it leads to
pub record KeepsRest (cluster : Cluster) (v : World) (later : List TxnId) (n : Node) : Type 0 where
  pub received : length n.received ≡ cluster.regions
  pub inserted : length n.here.inserted ≡ cluster.regions
  pub lengths : Lengths cluster.regions v
  pub sound : Sound cluster.regions v
  pub tables : Tables cluster v
  pub ordered : IsOrder cluster.regions v later

module _ {cluster : Cluster} {workload : Workload} {w : World} {order : List TxnId} (i : Inv cluster workload w order)
    (region : ℕ) (lr : region < cluster.regions) (n : Node) (same : LeavesRequests (node_at w region) n) where
  keeps : {A : Type 0} (f : Node → A) → f n ≡ f (node_at w region) → Keeps f w (with_node w region n)
  keeps f e = field_of_set f w.nodes region n no_node e

  node_now : node_at (with_node w region n) region ≡ n
  node_now = get_or-set_same w.nodes region n no_node (subst (λ m. region < m) (sym i.nodes) lr)

  others_same : (q : ℕ) → q ≢ region → node_at (with_node w region n) q ≡ node_at w q
  others_same q ne = get_or-set_other w.nodes region q n no_node ne

  nodes_now : length (with_node w region n).nodes ≡ cluster.regions
  nodes_now = length-set w.nodes region n ∙ i.nodes

  logs_same : logs_of (with_node w region n) ≡ logs_of w
  logs_same = map-set_same (λ x. x.log) w.nodes region n no_node same.log

  subs_same : submissions (with_node w region n) ≡ submissions w
  subs_same = flat_map_of_set (λ x. x.submitted) w.nodes region n no_node same.submitted

  txns_now : (ids : List TxnId) → txns_of (with_node w region n) ids ≡ txns_of w ids
  txns_now ids = txns_same w (with_node w region n) (keeps (λ x. x.submitted) same.submitted) ids

  pub leaves : Leaves cluster w (with_node w region n) region n
  leaves = record { same = same; nodes = nodes_now; node = node_now; others = others_same; keeps = keeps; logs = logs_same; txns = txns_now }

  sized : length n.received ≡ cluster.regions → length n.here.inserted ≡ cluster.regions → AreSized cluster.regions (with_node w region n)
  sized received inserted q lt = each_of_set (λ k x. IsSized cluster.regions x) w.nodes region n no_node
      (let s : IsSized cluster.regions (node_at w region) = i.sized region lr in
      record { asked = ap length same.asked ∙ s.asked; taken = ap length same.taken ∙ s.taken; received = received; inserted = inserted })
      (λ k lk. i.sized k (subst (λ m. k < m) i.nodes lk)) q (subst (λ m. q < m) (sym i.nodes) lt)

  pub change_keeps : (later : List TxnId) → KeepsRest cluster (with_node w region n) later n → Inv cluster workload (with_node w region n) later
  change_keeps later rest = record {
    nodes = nodes_now;
    sized = sized rest.received rest.inserted;
    ids = ids_kept cluster w (with_node w region n) cluster.regions submitted i.ids;
    valid = valid_kept cluster w (with_node w region n) cluster.regions subs_same i.valid;
    asked = asked_kept cluster w (with_node w region n) cluster.regions asked submitted i.asked;
    logs = logs_kept cluster w (with_node w region n) cluster.regions (keeps (λ x. x.log) same.log) (keeps (λ x. x.here.taken) same.taken) asked submitted i.logs;
    lengths = rest.lengths;
    sound = rest.sound;
    tables = rest.tables;
    ordered = rest.ordered;
    sessions = sessions_kept cluster w (with_node w region n) workload submitted refl i.sessions;
  }
    where
      submitted : Keeps (λ x. x.submitted) w (with_node w region n)
      submitted = keeps (λ x. x.submitted) same.submitted

      asked : Keeps (λ x. x.here.asked) w (with_node w region n)
      asked = keeps (λ x. x.here.asked) same.asked
