-- A node hears of a stamp, and notes how far another region has come: no event is made, and it stands where it stood.
use Rattle.std.proofs.Common.{◌≡◌, ◌≢◌, ◌<◌, ◌≤◌, ℕ, Bool, true, false, eqb, eqb-true, eq-eqb, List, []}
use Rattle.std.proofs.Common.{◌∷◌, length, max, get_or, set, refl, sym, ap, subst, ◌∙◌, inl, inr, ◌⊎◌, arith}
use Rattle.std.proofs.lemmas.Bool.{cases_Bool}
use Rattle.std.proofs.lemmas.List.{get_or-set_same, get_or-set_other, length-set}
use Rattle.dt_lists.specs.Lists.{Either}
use Rattle.dt_lists.proofs.Callers.{either_nat}
use Rattle.dt_events.specs.declared.Event.{Event}
use Rattle.dt_proc.specs.Tree.{ProcTree}
use Rattle.dt_packet.specs.declared.packet.Packet.{Packet}
use Rattle.dt_cluster.specs.declared.Cluster.{Cluster}
use Rattle.dt_workload.specs.declared.Workload.{Workload}
use Rattle.dt_session.specs.World.{World, received_of, taken_of}
use Rattle.dt_session.specs.Run.{world_after}
use Rattle.dt_node.specs.NodeView.{NodeView, heard_by, number_of}
use Rattle.dt_node.specs.NodeInWorld.{AreTold, KnowsNoMore, NodeFits}
use Rattle.dt_node.specs.Turn.{HasHeard, MovesOn}
use Rattle.dt_node.specs.TurnInner.{noted}
use Rattle.dt_node.proofs.CallAfterCall.{made_none}

-- a stamp is heard

heard_fits : {cluster : Cluster} {workload : Workload} {events : List Event} {n : NodeView} (stamp : ℕ) → NodeFits cluster workload events n → NodeFits cluster workload events (heard_by n stamp)
heard_fits stamp f = record {
  run = f.run;
  changing = f.changing;
  number = f.number;
  site = record {
    number = f.site.number;
    many = f.site.many;
    sound = f.site.sound;
    logs = f.site.logs;
    origins = f.site.origins;
    known = f.site.known;
    node = f.site.node;
  };
  sessions = f.sessions;
  few = f.few;
  took = f.took;
  received = f.received;
  knows = λ other n. let k = f.knows other n in record { took = k.took; received = k.received };
}

pub heard_moves : {procs : List ProcTree} (p : Packet) (a : NodeView) → MovesOn procs (p ∷ []) a (heard_by a p.stamp)
heard_moves {procs} p a = made_none {procs = procs} {packets = p ∷ []} {a = a} {b = heard_by a p.stamp} refl
    (omega arith) (omega arith)
    (λ cluster workload events f t. heard_fits p.stamp f) (record {
      number = refl;
      regions = refl;
      plan = refl;
      taken = λ source. omega arith;
      logs = λ home. omega arith;
    })

-- counts are noted

module _ {cluster : Cluster} {workload : Workload} {events : List Event} {n : NodeView} (f : NodeFits cluster workload events n) (p : Packet) (told : AreTold cluster workload events (p ∷ []) n) where
  abbrev b : NodeView
  b = noted n p.source p.took p.received

  abbrev w : World
  w = world_after cluster workload events

  knows_then : (other : ℕ) → other ≢ number_of n → Either (other ≡ p.source) → KnowsNoMore w b other
  knows_then other apart (inl e) =
      let k : KnowsNoMore w n other = f.knows other apart in
      let took : p.took ≤ taken_of w other (number_of n) = subst (λ q. p.took ≤ taken_of w q (number_of n)) (sym e) (subst (λ m. p.took ≤ taken_of w p.source m) told.addressed.0.target told.told.0.took) in
      let received : p.received ≤ received_of w other (number_of n) =
      subst (λ q. p.received ≤ received_of w q (number_of n)) (sym e) (subst (λ m. p.received ≤ received_of w p.source m) told.addressed.0.target told.told.0.received) in
      let ta : get_or n.took other 0 ≤ taken_of w other (number_of n) = k.took in
      let ra : get_or n.received other 0 ≤ received_of w other (number_of n) = k.received in
      let there : p.source < length n.took = subst (λ m. p.source < m) (sym f.took) told.addressed.0.source in
      let here : p.source < length n.received = subst (λ m. p.source < m) (sym f.received) told.addressed.0.source in
      let tb : get_or b.took other 0 ≡ max (get_or n.took other 0) p.took =
      ap (λ q. get_or b.took q 0) e ∙ get_or-set_same n.took p.source (max (get_or n.took p.source 0) p.took) 0 there ∙ ap (λ q. max (get_or n.took q 0) p.took) (sym e) in
      let rb : get_or b.received other 0 ≡ max (get_or n.received other 0) p.received =
      ap (λ q. get_or b.received q 0) e ∙ get_or-set_same n.received p.source (max (get_or n.received p.source 0) p.received) 0 here ∙ ap (λ q. max (get_or n.received q 0) p.received) (sym e) in
      record { took = omega (arith, tb, ta, took); received = omega (arith, rb, ra, received) }
  knows_then other apart (inr m) =
      let k : KnowsNoMore w n other = f.knows other apart in record {
        took = subst (λ x. x ≤ taken_of w other (number_of n)) (sym (get_or-set_other n.took p.source other (max (get_or n.took p.source 0) p.took) 0 m)) k.took;
        received = subst (λ x. x ≤ received_of w other (number_of n)) (sym (get_or-set_other n.received p.source other (max (get_or n.received p.source 0) p.received) 0 m)) k.received;
      }

  noted_fits : NodeFits cluster workload events b
  noted_fits = record {
    run = f.run;
    changing = f.changing;
    number = f.number;
    site = f.site;
    sessions = f.sessions;
    few = f.few;
    took = length-set n.took p.source (max (get_or n.took p.source 0) p.took) ∙ f.took;
    received = length-set n.received p.source (max (get_or n.received p.source 0) p.received) ∙ f.received;
    knows = λ other apart. knows_then other apart (either_nat other p.source);
  }

pub noted_moves : {procs : List ProcTree} (p : Packet) (a : NodeView) → MovesOn procs (p ∷ []) a (noted a p.source p.took p.received)
noted_moves {procs} p a = made_none {procs = procs} {packets = p ∷ []} {a = a} {b = noted a p.source p.took p.received} refl
    (omega arith) (omega arith)
    (λ cluster workload events f t. noted_fits f p t) (record {
      number = refl;
      regions = refl;
      plan = refl;
      taken = λ source. omega arith;
      logs = λ home. omega arith;
    })

-- what is known then is the greatest of what was known and reported
pub noted_heard : (p : Packet) (a b : NodeView) → b.took ≡ set a.took p.source (max (get_or a.took p.source 0) p.took) → b.received ≡ set a.received p.source (max (get_or a.received p.source 0) p.received)
    → (other : ℕ) → other < length a.took → other < length a.received → HasHeard (p ∷ []) a b other
noted_heard p a b took received other lt lr = go (cases_Bool (eqb p.source other))
  where
    go : (eqb p.source other ≡ true) ⊎ (eqb p.source other ≡ false) → HasHeard (p ∷ []) a b other
    go (inl y) =
        let same : p.source ≡ other = eqb-true p.source other y in record {
          took = ap (λ l. get_or l other 0) took ∙ rw y (subst (λ q. get_or (set a.took q (max (get_or a.took q 0) p.took)) other 0 ≡ max (get_or a.took other 0) p.took) (sym same)
              (get_or-set_same a.took other (max (get_or a.took other 0) p.took) 0 lt));
          received = ap (λ l. get_or l other 0) received ∙ rw y (subst (λ q. get_or (set a.received q (max (get_or a.received q 0) p.received)) other 0 ≡ max (get_or a.received other 0) p.received) (sym same)
              (get_or-set_same a.received other (max (get_or a.received other 0) p.received) 0 lr));
        }
    go (inr n) =
        let apart : other ≢ p.source = λ e. let no : ◌≡◌ {A = Bool} true false = sym (eq-eqb p.source other (sym e)) ∙ n in cc in record {
          took = ap (λ l. get_or l other 0) took ∙ rw n (get_or-set_other a.took p.source other (max (get_or a.took p.source 0) p.took) 0 apart);
          received = ap (λ l. get_or l other 0) received ∙ rw n (get_or-set_other a.received p.source other (max (get_or a.received p.source 0) p.received) 0 apart);
        }
