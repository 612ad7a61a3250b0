-- The events of a node's turn go on from those that there were, one after another; and what packets say stays so meanwhile.
use Rattle.std.proofs.Common.{◌≡◌, ◌≢◌, ◌<◌, ◌≤◌, ◌^◌, ℕ, List, [], ◌∷◌, ◌++◌, length, get_or, set, refl, sym, ap, subst, ◌∙◌, append-nil, append_assoc}
use Rattle.std.proofs.lemmas.List.{get_or-set_other}
use Rattle.dt_events.specs.declared.Event.{Event}
use Rattle.dt_txn.specs.Replica.{taken_from}
use Rattle.std.specs.Prelude.{slice_index}
use Rattle.dt_cluster.specs.declared.Cluster.{Cluster}
use Rattle.dt_workload.specs.declared.Workload.{Workload}
use Rattle.dt_session.specs.World.{World, Node, Place, no_node, opening_world, node_at, received_of, taken_of}
use Rattle.dt_session.specs.Step.{next}
use Rattle.dt_session.specs.Run.{AreLegalFrom, world_after, world_from}
use Rattle.dt_session.specs.Eager.{AllChange}
use Rattle.dt_agreement.proofs.Callers.{append_legal, world_from_append}
use Rattle.dt_site.specs.SessionsStandIn.{SessionsStandIn}
use Rattle.dt_site.specs.Site.{node_of}
use Rattle.dt_site.specs.StandsIn.{IsReached, StandsIn}
use Rattle.dt_site.proofs.Callers.{Steps, after_more, run_more}
use Rattle.dt_node.specs.NodeView.{NodeView, number_of}
use Rattle.dt_node.specs.NodeInWorld.{KnowsNoMore, NodeFits}
use Rattle.dt_node.specs.Turn.{GoesAfter}

pub change_append : (cluster : Cluster) (workload : Workload) (w : World) (xs ys : List Event) → AllChange cluster workload w xs → AllChange cluster workload (world_from cluster workload w xs) ys
    → AllChange cluster workload w (xs ++ ys)
change_append cluster workload w [] ys a b = b
change_append cluster workload w (x ∷ xs) ys a b = (a.0, change_append cluster workload (next cluster workload w x) xs ys a.1 b)

module _ {cluster : Cluster} {workload : Workload} where
  -- the world in which a node stands is one that legal events lead to
  abbrev pub reached : {events : List Event} {n : NodeView} → NodeFits cluster workload events n → IsReached cluster workload (world_after cluster workload events)
  reached {events} f = record { events = events; run = f.run; after = refl }

  -- no event at all
  pub goes_none : {events : List Event} {n : NodeView} → NodeFits cluster workload events n → GoesAfter cluster workload events [] n
  goes_none {events} {n} f = record { legal = tt; changing = tt; fits = subst (λ l. NodeFits cluster workload l n) (sym (append-nil events)) f }

  -- some events, and others after them
  pub goes_more : {events xs ys : List Event} {b c : NodeView} → GoesAfter cluster workload events xs b → GoesAfter cluster workload (events ++ xs) ys c → GoesAfter cluster workload events (xs ++ ys) c
  goes_more {events} {xs} {ys} {b} {c} g h =
      let later : world_after cluster workload (events ++ xs) ≡ world_from cluster workload (world_after cluster workload events) xs = world_from_append cluster workload (opening_world cluster workload) events xs in
      record {
        legal = append_legal cluster workload (world_after cluster workload events) xs ys g.legal (subst (λ w. AreLegalFrom cluster workload w ys) later h.legal);
        changing = change_append cluster workload (world_after cluster workload events) xs ys g.changing (subst (λ w. AllChange cluster workload w ys) later h.changing);
        fits = subst (λ l. NodeFits cluster workload l c) (append_assoc events xs ys) h.fits;
      }

  -- one event of the node's region
  pub one_goes : {events : List Event} {a b : NodeView} (f : NodeFits cluster workload events a) (e : Event) {places : List Place}
      → Steps cluster workload (world_after cluster workload events) e (number_of a) a.site b.site places
      → next cluster workload (world_after cluster workload events) e ≢ world_after cluster workload events
      → SessionsStandIn cluster workload (next cluster workload (world_after cluster workload events) e) (number_of a) b.sessions
      → number_of b ≡ number_of a → length b.sessions.seats ≡ length a.sessions.seats → b.took ≡ a.took → b.received ≡ a.received → GoesAfter cluster workload events (e ∷ []) b
  one_goes {events} {a} {b} f e s changed sessions number many took received = record {
    legal = (s.legal, tt);
    changing = (changed, tt);
    fits = record {
      run = run_more k e s.legal;
      changing = change_append cluster workload (opening_world cluster workload) events (e ∷ []) f.changing (changed, tt);
      number = subst (λ m. m < cluster.regions) (sym number) f.number;
      site = subst (λ m. StandsIn cluster.regions (world_after cluster workload (events ++ e ∷ [])) m b.site) (sym number) (subst (λ v. StandsIn cluster.regions v (number_of a) b.site) later s.stands);
      sessions = subst (λ m. SessionsStandIn cluster workload (world_after cluster workload (events ++ e ∷ [])) m b.sessions) (sym number)
          (subst (λ v. SessionsStandIn cluster workload v (number_of a) b.sessions) later sessions);
      few = subst (λ m. m < 2 ^ 32) (sym many) f.few;
      took = ap length took ∙ f.took;
      received = ap length received ∙ f.received;
      knows = λ other n. knows other (λ is. n (is ∙ sym number));
    };
  }
    where
      w : World
      w = world_after cluster workload events

      v : World
      v = next cluster workload w e

      k : IsReached cluster workload w
      k = reached f

      later : v ≡ world_after cluster workload (events ++ e ∷ [])
      later = after_more k e

      knows : (other : ℕ) → other ≢ number_of a → KnowsNoMore (world_after cluster workload (events ++ e ∷ [])) b other
      knows other n =
          let same : node_at v other ≡ node_at w other =
          ap (λ u. node_at u other) s.is ∙ get_or-set_other w.nodes (number_of a) other (node_of b.site) no_node n in
          subst (λ u. KnowsNoMore u b other) later (other_knows other n same)
        where
          other_knows : (q : ℕ) → q ≢ number_of a → node_at v q ≡ node_at w q
              → KnowsNoMore v b q
          other_knows q m same =
              let known : KnowsNoMore w a q = f.knows q m in
              record {
                took = subst (λ c. get_or b.took q 0 ≤ taken_of v q c) (sym number)
                    (subst (λ (x : Node). get_or b.took q 0 ≤ taken_from x.here (number_of a)) (sym same) (subst (λ l. get_or l q 0 ≤ taken_of w q (number_of a)) (sym took) known.took));
                received = subst (λ c. get_or b.received q 0 ≤ received_of v q c) (sym number)
                    (subst (λ (x : Node). get_or b.received q 0 ≤ slice_index (set x.received q (length x.log)) (number_of a)) (sym same)
                    (subst (λ l. get_or l q 0 ≤ received_of w q (number_of a)) (sym received) known.received));
              }
