-- The node places what it asked of its own region: it holds what it asked, and each request that it places leaves one less.
use Rattle.std.proofs.Common.{◌≡◌, ◌≤◌, ℕ, Bool, true, false, List, [], length, get_or, slice_get, Result, Ok, Err, Some, refl, sym, subst, arith}
use Rattle.dt_text.specs.declared.NoMemory.{NoMemory}
use Rattle.dt_access.specs.declared.TxnId.{TxnId}
use Rattle.dt_events.specs.declared.Event.{Event}
use Rattle.dt_proc.specs.Tree.{ProcTree}
use Rattle.dt_txn.specs.declared.Txn.{Txn}
use Rattle.dt_txn.specs.Replica.{taken_from}
use Rattle.dt_region.specs.Region.{RegionView, held}
use Rattle.dt_region.specs.Conditions.{CanAppend}
use Rattle.dt_region.specs.Rules.{MakesAppend}
use Rattle.dt_region.specs.Sound.{IsSoundRegion}
use Rattle.dt_cluster.specs.declared.Cluster.{Cluster}
use Rattle.dt_workload.specs.declared.Workload.{Workload}
use Rattle.dt_session.specs.World.{Node}
use Rattle.dt_session.specs.Run.{world_after}
use Rattle.dt_site.specs.Site.{in_region}
use Rattle.dt_site.proofs.Callers.{AsksFor, asked_held, asks_for, inv}
use Rattle.dt_node.specs.NodeView.{NodeView, number_of}
use Rattle.dt_node.specs.NodeInWorld.{NodeFits}
use Rattle.dt_node.specs.Turn.{HasPlacedOwn, MovesOn}
use Rattle.dt_node.specs.TurnInner.{CanTake}
use Rattle.dt_node.proofs.EventsGoOn.{reached}
use Rattle.dt_node.proofs.CallsOfNode.{place_moves}
use Rattle.dt_node.proofs.CallAfterCall.{made_nothing}
use Rattle.dt_node.proofs.Rule2Append.{can_place, place_goes}
use Rattle.dt_node.proofs.CallConditions.{one_more}

-- no more of them are placed than there are
pub own_within : {cluster : Cluster} {workload : Workload} {events : List Event} {a : NodeView} → NodeFits cluster workload events a
    → taken_from a.site.region.state.here (number_of a) ≤ length (get_or a.site.region.state.here.asked (number_of a) [])
own_within {cluster} {workload} {events} {a} f =
    subst (λ (n : Node). taken_from n.here (number_of a) ≤ length (get_or n.here.asked (number_of a) [])) (sym f.site.node) (((inv (reached f)).logs (number_of a) f.number).taken (number_of a) f.number)

-- where n are placed and no more were asked, all are placed
pub own_placed : {a : NodeView} → CanTake [] a → (number : ℕ) → number ≡ taken_from a.site.region.state.here (number_of a)
    → length (get_or a.site.region.state.here.asked (number_of a) []) ≤ number → HasPlacedOwn a
own_placed {a} c number is le = let within = own_within c.can.fits in omega (arith, within, is, le)

-- the request of this number
module _ {cluster : Cluster} {workload : Workload} {events : List Event} {a : NodeView} (f : NodeFits cluster workload events a) (number : ℕ) (id : TxnId)
    (wanted : slice_get (get_or a.site.region.state.here.asked (number_of a) []) number ≡ Some id) where
  -- its transaction is held, where it was submitted
  pub own_held : (txn : Txn) × (held a.site.region.state id ≡ Some txn)
  own_held = asked_held (reached f) f.number f.number f.site number wanted

  -- and it asks for the one that is held
  own_asks : {txn : Txn} → held a.site.region.state id ≡ Some txn → AsksFor (world_after cluster workload events) (number_of a) (number_of a) number txn
  own_asks is_held = asks_for (reached f) f.number f.number f.site number wanted is_held

module _ {a : NodeView} (c : CanTake [] a) (number : ℕ) (id : TxnId) (wanted : slice_get (get_or a.site.region.state.here.asked (number_of a) []) number ≡ Some id) (txn : Txn)
    (is_held : held a.site.region.state id ≡ Some txn) where
  -- it may be placed
  pub may_place_own : CanAppend a.site.region.state (number_of a) number txn
  may_place_own = can_place c.can.fits c.can.fits.number (own_asks c.can.fits number id wanted is_held) (one_more c.can)

  -- and how that ends

  stays : {procs : List ProcTree} (r : RegionView) → r ≡ a.site.region → MovesOn procs [] a (record a { site = in_region a.site r })
  stays {procs} r same = subst (λ (x : RegionView). MovesOn procs [] a (record a { site = in_region a.site x })) (sym same) (made_nothing a)

  pub own_ends : {procs : List ProcTree} (result : Result Bool NoMemory) (r : RegionView) → MakesAppend a.site.region (number_of a) number txn result r → IsSoundRegion r.state
      → MovesOn procs [] a (record a { site = in_region a.site r })
  own_ends (Ok true) r m sound = place_moves (number_of a) number txn r m []
      (λ cluster workload events p f t. place_goes f f.number (own_asks f number id wanted is_held) r m sound) (λ apart. absurd (apart refl))
  own_ends (Ok false) r m sound = stays r m.1
  own_ends (Err e) r m sound = stays r m
