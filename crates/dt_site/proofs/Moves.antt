-- What the table of a site comes to: it has the cluster's version, and no unit was moved more often than there are events. So
-- what the site holds is valid for its table, and a place is left for each move that it may execute.
use Rattle.std.proofs.Common.{◌≡◌, ◌<◌, ◌≤◌, ◌+◌, ◌^◌, ℕ, List, [], ◌∷◌, length, Some, None, sym, ap, subst, subst₂, ◌∙◌, arith}
use Rattle.std.specs.Prelude.{Option, filter_map}
use Rattle.std.specs.List.{cons_option}
use Rattle.std.proofs.lemmas.List.{length-map}
use Rattle.dt_access.specs.Clash.{Bytes}
use Rattle.dt_access.specs.declared.TxnId.{TxnId}
use Rattle.dt_lists.proofs.Callers.{all_at}
use Rattle.dt_proc.specs.Tree.{ProcTree}
use Rattle.dt_table.specs.Table.{Table, counter_of}
use Rattle.dt_table.proofs.Callers.{counter_of-apply}
use Rattle.dt_txn.specs.declared.Body.{Body}
use Rattle.dt_txn.specs.declared.txn.Body.TheVariants.{Call, Move}
use Rattle.dt_txn.specs.declared.Txn.{Txn}
use Rattle.dt_txn.specs.Transaction.{BodyFits, IsValid}
use Rattle.dt_txn.specs.Execution.{one}
use Rattle.dt_txn.specs.Replica.{done_ids}
use Rattle.dt_txn.specs.Serial.{after, table_after}
use Rattle.dt_region.specs.Conditions.{CanMove, HasPlaceToMove, HoldsValid}
use Rattle.dt_cluster.specs.declared.Cluster.{Cluster}
use Rattle.dt_workload.specs.declared.Workload.{Workload}
use Rattle.dt_session.specs.World.{World, Node, no_node, node_at, opening_table, txn_of}
use Rattle.dt_session.specs.Run.{txns_of}
use Rattle.dt_agreement.proofs.Callers.{unmoved_at_first, version_stays}
use Rattle.dt_site.specs.Site.{SiteView}
use Rattle.dt_site.specs.StandsIn.{IsReached, StandsIn}
use Rattle.dt_site.proofs.ListLengths.{HasShortLists, legal_short}
use Rattle.dt_site.proofs.SitesInWorlds.{here_is, inv, valid_txn}

-- each of the transactions that ran moved a unit at most once
counter_after : (procs : List ProcTree) (txns : List Txn) (t : Table) (key : Bytes) → counter_of (table_after procs txns t) key ≤ counter_of t key + length txns
counter_after procs [] t key = omega arith
counter_after procs (x ∷ txns) t key =
    let later : counter_of (table_after procs txns (after procs x t)) key ≤ counter_of (after procs x t) key + length txns = counter_after procs txns (after procs x t) key in
    let first : counter_of (after procs x t) key ≤ counter_of t key + 1 = counter_of-apply (one procs x t).1 t key in
    omega (arith, later, first)

-- what is given of items is no longer than they are
few_given : {A B : Type 0} (f : A → Option B) (xs : List A) → length (filter_map f xs) ≤ length xs
few_given f [] = omega arith
few_given {A} {B} f (x ∷ xs) =
    let later : length (filter_map f xs) ≤ length xs = few_given f xs in
    elim (f x) as (λ (o : Option B). length (cons_option o (filter_map f xs)) ≤ length (x ∷ xs)) [
      | None ↦ omega (arith, later)
      | Some y ↦ omega (arith, later)
    ]

module _ {cluster : Cluster} {workload : Workload} {w : World} (k : IsReached cluster workload w) {region : ℕ} (lr : region < cluster.regions) {p : SiteView} (s : StandsIn cluster.regions w region p) where
  abbrev ran : List Txn
  ran = txns_of w (done_ids (node_at w region).here)

  table_is : p.region.state.here.table ≡ table_after cluster.procs ran (opening_table cluster)
  table_is = ap (λ h. h.table) (sym (here_is k s)) ∙ ((inv k).tables region lr).table

  pub version_is : p.region.state.here.table.version ≡ cluster.version
  version_is = ap (λ t. t.version) table_is ∙ version_stays cluster ran (opening_table cluster)

  -- what a region holds is valid for the procedures of the cluster
  pub holds_valid : HoldsValid cluster.procs p.region.state
  holds_valid id txn e = subst₂ (λ v n. IsValid cluster.procs v n txn) (sym version_is) (sym s.many) (valid_txn k id txn (s.known id txn e))

  -- a body that fits the cluster fits the region
  pub fits_region : (body : Body) → BodyFits cluster.procs cluster.version cluster.regions body → BodyFits cluster.procs p.region.state.here.table.version p.region.state.regions body
  fits_region body fits = subst₂ (λ v n. BodyFits cluster.procs v n body) (sym version_is) (sym s.many) fits

  -- no unit was moved more often than there are events
  pub counter_few : (key : Bytes) → counter_of p.region.state.here.table key ≤ length k.events
  counter_few key =
      let short : HasShortLists w (length k.events) = subst (λ v. HasShortLists v (length k.events)) (sym k.after) (legal_short cluster k.run.sound workload k.run.fits k.events k.run.legal) in
      let done : length (node_at w region).here.done ≤ length k.events = all_at (λ (x : Node). length x.here.done ≤ length k.events) no_node w.nodes region (omega arith) short.done in
      let ids : length (done_ids (node_at w region).here) ≡ length (node_at w region).here.done = length-map (node_at w region).here.done (λ d. d.0) in
      let txns : length ran ≤ length (done_ids (node_at w region).here) = few_given (txn_of w) (done_ids (node_at w region).here) in
      let grown : counter_of (table_after cluster.procs ran (opening_table cluster)) key ≤ counter_of (opening_table cluster) key + length ran = counter_after cluster.procs ran (opening_table cluster) key in
      let none : counter_of (opening_table cluster) key ≡ 0 = ap length (unmoved_at_first cluster key) in
      subst (λ t. counter_of t key ≤ length k.events) (sym table_is) (omega (arith, done, ids, txns, grown, none))

  -- so a place is left for each move
  pub can_move : length k.events + 1 < 2 ^ 32 → (id : TxnId) → CanMove p.region.state id
  can_move few id txn e = go txn.body
    where
      go : (body : Body) → HasPlaceToMove p.region.state.here.table body
      go (Call proc args) = tt
      go (Move key target) = let moved : counter_of p.region.state.here.table key ≤ length k.events = counter_few key in omega (arith, moved, few)
