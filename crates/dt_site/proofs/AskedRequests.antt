-- A request that a site asked a home to place: the site holds its transaction, and the world has the same under its id.
use Rattle.std.proofs.Common.{◌≡◌, ◌<◌, ℕ, [], get_or, slice_get, Some, sym, subst}
use Rattle.dt_lists.specs.Lists.{Has}
use Rattle.dt_lists.proofs.Callers.{has_place}
use Rattle.dt_access.specs.declared.TxnId.{TxnId}
use Rattle.dt_txn.specs.declared.Txn.{Txn}
use Rattle.dt_region.specs.Region.{held}
use Rattle.dt_cluster.specs.declared.Cluster.{Cluster}
use Rattle.dt_workload.specs.declared.Workload.{Workload}
use Rattle.dt_session.specs.World.{World, Node, asked_of, txn_of}
use Rattle.dt_agreement.proofs.Callers.{IsRequest, request_is, txn_id}
use Rattle.dt_site.specs.Site.{SiteView}
use Rattle.dt_site.specs.StandsIn.{IsReached, StandsIn}
use Rattle.dt_site.proofs.Lists.{attempts_have, find_some}
use Rattle.dt_site.proofs.SitesInWorlds.{inv}

-- by its request of this number a source asked a home to place a transaction of the world
pub record AsksFor (w : World) (source home number : ℕ) (txn : Txn) : Type 0 where
  pub wants : slice_get (asked_of w source home) number ≡ Some txn.id
  pub found : txn_of w txn.id ≡ Some txn

module _ {cluster : Cluster} {workload : Workload} {w : World} (k : IsReached cluster workload w) {home source : ℕ} (lh : home < cluster.regions) (ls : source < cluster.regions)
    {p : SiteView} (s : StandsIn cluster.regions w source p) where
  -- what is asked for is held where it was submitted
  pub request_held : (id : TxnId) → Has (asked_of w source home) id → (txn : Txn) × (held p.region.state id ≡ Some txn)
  request_held id h =
      let request : IsRequest w home source id = request_is (inv k) home source lh ls id h in
      subst (λ x. (txn : Txn) × (held p.region.state x ≡ Some txn)) request.same
      (find_some p.region.state.submitted p.region.state.foreign request.submission.txn
      (attempts_have p.region.state.submitted p.origins request.submission (subst (λ (n : Node). Has n.submitted request.submission) (sym s.node) request.there)))

  -- the request of this number, as the site has it
  module _ (number : ℕ) {id : TxnId} (wanted : slice_get (get_or p.region.state.here.asked home []) number ≡ Some id) where
    wants : slice_get (asked_of w source home) number ≡ Some id
    wants = subst (λ (n : Node). slice_get (get_or n.here.asked home []) number ≡ Some id) s.node wanted

    pub asked_held : (txn : Txn) × (held p.region.state id ≡ Some txn)
    asked_held = request_held id (has_place (asked_of w source home) number id wants)

    -- what is held there is what is asked for
    pub asks_for : {txn : Txn} → held p.region.state id ≡ Some txn → AsksFor w source home number txn
    asks_for {txn} is_held =
        let there : txn_of w id ≡ Some txn = s.known id txn is_held in
        let its_id : txn.id ≡ id = txn_id w id txn there in
        record {
          wants = subst (λ x. slice_get (asked_of w source home) number ≡ Some x) (sym its_id) wants;
          found = subst (λ x. txn_of w x ≡ Some txn) (sym its_id) there;
        }
