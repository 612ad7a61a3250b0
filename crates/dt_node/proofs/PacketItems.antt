-- A request that a packet brought is placed, and entries that it brought are received: what the calls ask for, and how they end.
use Rattle.std.proofs.Common.{◌≡◌, ◌<◌, ◌≤◌, ◌+◌, ℕ, Bool, true, false, List, [], ◌∷◌, length}
use Rattle.std.proofs.Common.{Result, Ok, Err, refl, sym, ap, subst, ◌∙◌, inl, arith}
use Rattle.std.proofs.lemmas.Bool.Decides.{nat_tests}
use Rattle.dt_text.specs.declared.NoMemory.{NoMemory}
use Rattle.dt_log.specs.declared.Taken.{Taken}
use Rattle.dt_log.specs.declared.Taken.TheVariants.{New, Old, Gap}
use Rattle.dt_events.specs.declared.Event.{Event}
use Rattle.dt_events.specs.declared.Event.TheVariants.{Deliver}
use Rattle.dt_events.specs.Stamps.{events_of}
use Rattle.dt_sched.specs.Views.{log_at}
use Rattle.dt_proc.specs.Tree.{ProcTree}
use Rattle.dt_txn.specs.declared.Entry.{Entry}
use Rattle.dt_txn.specs.declared.Txn.{Txn}
use Rattle.dt_region.specs.Region.{RegionView}
use Rattle.dt_region.specs.Conditions.{CanAppend, CanDeliver}
use Rattle.dt_region.specs.Rules.{MakesAppend, MakesDelivery}
use Rattle.dt_region.specs.Sound.{IsSoundRegion}
use Rattle.dt_cluster.specs.declared.Cluster.{Cluster}
use Rattle.dt_workload.specs.declared.Workload.{Workload}
use Rattle.dt_session.specs.World.{asked_of}
use Rattle.dt_session.specs.Run.{world_after}
use Rattle.dt_site.specs.Site.{in_region}
use Rattle.dt_site.proofs.Callers.{AsksFor}
use Rattle.dt_node.specs.Turn.{MovesOn}
use Rattle.dt_node.specs.NodeView.{NodeView, number_of}
use Rattle.dt_node.specs.NodeInWorld.{AreTold}
use Rattle.dt_node.specs.Steps.{receipt}
use Rattle.dt_node.specs.StepsInner.{HasPlaced, HasReceived, IsPlacedTo}
use Rattle.dt_node.specs.TurnInner.{CanTake, asking_packet, logging_packet}
use Rattle.dt_node.proofs.Rule3Deliver.{can_receive, new_reach, receive_goes}
use Rattle.dt_node.proofs.PlacedRequests.{has_placed_if, placed_to_if}
use Rattle.dt_node.proofs.CallsOfNode.{place_moves, receive_moves}
use Rattle.dt_node.proofs.CallAfterCall.{new_are, new_none, same_moves}
use Rattle.dt_node.proofs.Rule2Append.{can_place, first_of_rest, place_goes}
use Rattle.dt_node.proofs.CallConditions.{one_more}

-- the request that such a packet asks for
asked : {cluster : Cluster} {workload : Workload} {events : List Event} {a : NodeView} (source number : ℕ) (txn : Txn) → AreTold cluster workload events (asking_packet a source number (txn ∷ []) ∷ []) a
    → AsksFor (world_after cluster workload events) source (number_of a) number txn
asked {cluster} {workload} {events} {a} source number txn t = record {
  wants = (first_of_rest number (number + 1) (asked_of (world_after cluster workload events) source (number_of a)) txn.id [] (sym t.told.0.asked)).0;
  found = t.told.0.asked_txns.0;
}

module _ {a : NodeView} (source number : ℕ) (txn : Txn) (c : CanTake (asking_packet a source number (txn ∷ []) ∷ []) a) where
  -- what the call asks for

  pub source_there : source < a.site.region.state.regions
  source_there = subst (λ n. source < n) (sym c.can.fits.site.many) c.can.told.addressed.0.source

  pub may_place : CanAppend a.site.region.state source number txn
  may_place = can_place c.can.fits c.can.told.addressed.0.source (asked {a = a} source number txn c.can.told) (one_more c.can)

  -- and how it ends

  pub place_ends : {procs : List ProcTree} (result : Result Bool NoMemory) (r : RegionView) → MakesAppend a.site.region source number txn result r → IsSoundRegion r.state
      → MovesOn procs (asking_packet a source number (txn ∷ []) ∷ []) a (record a { site = in_region a.site r })
  place_ends (Ok true) r m sound = place_moves source number txn r m (asking_packet a source number (txn ∷ []) ∷ [])
      (λ cluster workload events p f t. place_goes f t.addressed.0.source (asked {a = a} source number txn t) r m sound)
      (λ apart. inl (record {
        to_home = refl;
        from_source = refl;
        from = omega arith;
        to = omega arith;
        earlier = omega arith;
      }))
  place_ends (Ok false) r m sound = same_moves a r m.1
  place_ends (Err e) r m sound = same_moves a r m

  place_there : source < length a.site.region.state.here.taken
  place_there = subst (λ n. source < n) (sym c.can.fits.site.sound.taken) source_there

  pub place_append : (on : Bool) (r : RegionView) → MakesAppend a.site.region source number txn (Ok on) r → HasPlaced source a (record a { site = in_region a.site r })
  place_append on r m = has_placed_if a source number txn r place_there on m

  pub place_count : (on : Bool) (r : RegionView) → MakesAppend a.site.region source number txn (Ok on) r → IsPlacedTo source (number + 1) a (record a { site = in_region a.site r })
  place_count on r m = placed_to_if a source number txn r place_there on c.can.begins.0.asked m

-- whether a stretch of a log is received

receipt_some : (region home has first last : ℕ) → has < last → Deliver region home first last ∷ [] ≡ receipt region home has first last
receipt_some region home has first last h = grind (arith, nat_tests)

receipt_none : (region home has first last : ℕ) → last ≤ has → [] ≡ receipt region home has first last
receipt_none region home has first last h = grind (arith, nat_tests)

module _ {a : NodeView} (source first : ℕ) (entries : List Entry) (c : CanTake (logging_packet a source first entries ∷ []) a) where
  pub log_there : source < a.site.region.state.regions
  log_there = subst (λ n. source < n) (sym c.can.fits.site.many) c.can.told.addressed.0.source

  pub may_receive : CanDeliver a.site.region.state source first entries
  may_receive =
      let few = one_more c.can in
      can_receive c.can.fits c.can.told.addressed.0.source c.can.told.addressed.0.other first entries c.can.told.told.0.entries_to c.can.told.told.0.entries c.can.told.told.0.entry_txns (omega (arith, few))

  pub receive_ends : {procs : List ProcTree} (result : Result Taken NoMemory) (r : RegionView) → MakesDelivery a.site.region source first first entries result r → IsSoundRegion r.state
      → MovesOn procs (logging_packet a source first entries ∷ []) a (record a { site = in_region a.site r })
  receive_ends (Ok (New n)) r m sound = receive_moves source first entries n r m (logging_packet a source first entries ∷ [])
      (λ cluster workload events p f t. receive_goes f t.addressed.0.source t.addressed.0.other first entries t.told.0.entries_to t.told.0.entries t.told.0.entry_txns r n m sound)
      (λ apart. inl (record {
        to_region = refl;
        from_home = refl;
        from = refl;
        to = refl;
        some = let low : first ≤ length (log_at a.site.region.state.logs source) = m.0 in let high : length (log_at a.site.region.state.logs source) < first + length entries = m.1 in omega (arith, low, high);
        earlier = omega arith;
      }))
  receive_ends (Ok Old) r m sound = same_moves a r m.2
  receive_ends (Ok Gap) r m sound = same_moves a r m.1
  receive_ends (Err e) r m sound = same_moves a r m

  pub receive_taken : (taken : Taken) (r : RegionView) → MakesDelivery a.site.region source first first entries (Ok taken) r → first + length entries ≤ length (log_at r.state.logs source)
  receive_taken (New n) r m =
      let there : source < length a.site.region.state.logs = subst (λ k. source < k) (sym c.can.fits.site.sound.logs) log_there in
      let reach : length (log_at r.state.logs source) ≡ first + length entries = new_reach a.site.region r source first entries n there m in
      omega (arith, reach)
  receive_taken Old r m =
      let old : first + length entries ≤ length (log_at a.site.region.state.logs source) = m.1 in
      let same : length (log_at r.state.logs source) ≡ length (log_at a.site.region.state.logs source) = ap (λ (x : RegionView). length (log_at x.state.logs source)) m.2 in
      omega (arith, old, same)
  receive_taken Gap r m =
      let begins : first ≤ length (log_at a.site.region.state.logs source) = c.can.begins.0.entries in
      let gap : length (log_at a.site.region.state.logs source) < first = m.0 in
      absurd (omega (arith, begins, gap))

  pub receive_step : (taken : Taken) (r : RegionView) → MakesDelivery a.site.region source first first entries (Ok taken) r → HasReceived source first (first + length entries) a (record a { site = in_region a.site r })
  receive_step (New n) r m = record {
    made = ap events_of (new_are a (record a { site = in_region a.site r }) (ap (λ (x : RegionView). x.events) m.3))
        ∙ receipt_some (number_of a) source (length (log_at a.site.region.state.logs source)) first (first + length entries) m.1;
    heard = ap (λ (x : RegionView). x.heard) m.3;
  }
  receive_step Old r m = record {
    made = ap events_of (new_none a (record a { site = in_region a.site r }) (ap (λ (x : RegionView). x.events) m.2))
        ∙ receipt_none (number_of a) source (length (log_at a.site.region.state.logs source)) first (first + length entries) m.1;
    heard = ap (λ (x : RegionView). x.heard) m.2;
  }
  receive_step Gap r m =
      let begins : first ≤ length (log_at a.site.region.state.logs source) = c.can.begins.0.entries in
      let gap : length (log_at a.site.region.state.logs source) < first = m.0 in
      absurd (omega (arith, begins, gap))
