-- When a turn may stop: a pass over the sessions after which none went on, and a round that left nothing to do.
use Rattle.std.proofs.Common.{◌≡◌, ◌+◌, ◌⊎◌, inl, inr, false, List, [], ◌++◌, refl, sym, ap, subst, subst₂, ◌∙◌, append-nil, append_assoc, arith}
use Rattle.std.specs.Prelude.{Option, option_and_then}
use Rattle.std.proofs.lemmas.List.{map-append}
use Rattle.dt_lists.proofs.Callers.{both_empty}
use Rattle.dt_access.specs.Clash.{Bytes}
use Rattle.dt_events.specs.declared.Event.{Event}
use Rattle.dt_events.specs.Stamps.{events_of}
use Rattle.dt_proc.specs.Tree.{ProcTree}
use Rattle.dt_txn.specs.declared.Outcome.{Outcome}
use Rattle.dt_txn.specs.Replica.{IsDrained, Replica}
use Rattle.dt_region.specs.Region.{outcome_of}
use Rattle.dt_packet.specs.declared.packet.Packet.{Packet}
use Rattle.dt_cluster.specs.declared.Cluster.{Cluster}
use Rattle.dt_workload.specs.declared.Workload.{Workload}
use Rattle.dt_session.specs.Sessions.{MayBeAnswered, MayGo, SessionsView, waits_of}
use Rattle.dt_session.specs.World.{World, node_at, outcome_in}
use Rattle.dt_session.specs.Run.{world_after}
use Rattle.dt_node.specs.NodeView.{NodeView, new_items, number_of}
use Rattle.dt_node.specs.NodeInWorld.{NodeFits}
use Rattle.dt_node.specs.Turn.{BeginsEagerly, GoesAfter, HasGone, HasPlacedOwn, IsSettled, IsStill, MadeNoneOrWent, MayAnswerAt, MaySubmitAt, MovesOn, last_at}
use Rattle.dt_node.specs.TurnInner.{CanGo, PassesOnce}
use Rattle.dt_node.proofs.CallAfterCall.{made_none, new_joined, new_none}

module _ {procs : List ProcTree} {n b : NodeView} (c : CanGo procs [] n) (m : MovesOn procs [] n b) (none : new_items n b ≡ []) where
  goes : GoesAfter c.cluster c.workload (events_of c.all) [] b
  goes = subst (λ l. GoesAfter c.cluster c.workload (events_of c.all) l b) (ap events_of none) (m.gone.goes c.cluster c.workload (events_of c.all) c.procs_are c.fits c.told)

  -- where no event was made, what the region made of its logs is as it was
  pub same_here : b.site.region.state.here ≡ n.site.region.state.here
  same_here =
      let w : World = world_after c.cluster c.workload (events_of c.all) in
      let after : b.site.region.state.here ≡ (node_at (world_after c.cluster c.workload (events_of c.all ++ [])) (number_of b)).here = ap (λ x. x.here) goes.fits.site.node in
      after
      ∙ ap (λ l. (node_at (world_after c.cluster c.workload l) (number_of b)).here) (append-nil (events_of c.all))
      ∙ ap (λ q. (node_at w q).here) m.gone.number
      ∙ sym (ap (λ x. x.here) c.fits.site.node)

  last_same : b.sessions ≡ n.sessions → (name : Bytes) → last_at b name ≡ last_at n name
  last_same sessions name =
      ap (λ (s : SessionsView). option_and_then (outcome_of b.site.region.state) (waits_of s name)) sessions
      ∙ ap (λ (h : Replica). option_and_then (outcome_in h.done) (waits_of n.sessions name)) same_here

  pub still_then : b.sessions ≡ n.sessions → ((name : Bytes) → ¬ (MayAnswerAt n name) × ¬ (MaySubmitAt n name)) → (name : Bytes) → IsStill b name
  still_then sessions none_can name = record {
    no_submission = λ may. (none_can name).1 (subst₂ (λ (s : SessionsView) (o : Option Outcome). MayGo s name o) sessions (last_same sessions name) may);
    unanswered = λ may. (none_can name).0 (subst₂ (λ (s : SessionsView) (o : Option Outcome). MayBeAnswered s name o) sessions (last_same sessions name) may);
  }

-- the passes before the last one did nothing at all, or left nothing to do for a round
abbrev pub RestsSoFar : NodeView → NodeView → Type 0
RestsSoFar a n = (n ≡ a) ⊎ IsDrained n.site.region.state.logs n.site.region.state.here

-- so the last one made no event, where a session went on before it
last_makes_none : {procs : List ProcTree} {a n b : NodeView} → MovesOn procs [] a n → MovesOn procs [] n b → PassesOnce n false b → RestsSoFar a n → MadeNoneOrWent a b → new_items n b ≡ []
last_makes_none {procs} {a} {n} {b} g m last (inr drained) why = new_none n b (last.3 drained)
last_makes_none {procs} {a} {n} {b} g m last (inl same) (inl none) = (both_empty (new_items a n) (new_items n b) (sym (new_joined g.gone m.gone) ∙ none)).1
last_makes_none {procs} {a} {n} {b} g m last (inl same) (inr went) = absurd (went (last.0 ∙ ap (λ (x : NodeView). x.sessions) same))

-- the last pass of a turn
pub settles : {procs : List ProcTree} {a n b : NodeView} → CanGo procs [] n → MovesOn procs [] a n → MovesOn procs [] n b → (HasPlacedOwn a → HasPlacedOwn n) → RestsSoFar a n → PassesOnce n false b
    → IsDrained b.site.region.state.logs b.site.region.state.here → IsSettled a b
settles {procs} {a} {n} {b} c g m placed rests last drained = record {
  drained = drained;
  still = λ why name. still_then c m (last_makes_none g m last rests why) last.0 last.1 name;
  placed = λ own. last.2 (placed own);
}

-- a turn that began with the first calls began so, whatever followed
pub begins_more : {procs : List ProcTree} {xs ys : List Packet} {a b c : NodeView} → HasGone procs xs a b → HasGone procs ys b c → BeginsEagerly procs a b → BeginsEagerly procs a c
begins_more {procs} {xs} {ys} {a} {b} {c} g h e = record {
  begins = λ cluster workload p f.
      let front = e.begins cluster workload p f in
      let joined : events_of (new_items a c) ≡ events_of (new_items a b) ++ events_of (new_items b c) =
      ap events_of (new_joined g h) ∙ map-append (λ x. x.event) (new_items a b) (new_items b c) in
      (front.0 ++ events_of (new_items b c), sym (append_assoc _ front.0 (events_of (new_items b c))) ∙ ap (λ l. l ++ events_of (new_items b c)) front.1 ∙ sym joined);
}

-- the packets were sent: one turn more is made, and nothing else of the node has changed

sent_fits : {cluster : Cluster} {workload : Workload} {events : List Event} {n : NodeView} → NodeFits cluster workload events n → NodeFits cluster workload events (record n { turns = n.turns + 1 })
sent_fits f = record {
  run = f.run;
  changing = f.changing;
  number = f.number;
  site = f.site;
  sessions = f.sessions;
  few = f.few;
  took = f.took;
  received = f.received;
  knows = λ other n. let k = f.knows other n in record { took = k.took; received = k.received };
}

pub sent_moves : {procs : List ProcTree} (a : NodeView) → MovesOn procs [] a (record a { turns = a.turns + 1 })
sent_moves {procs} a = made_none {procs = procs} {packets = []} {a = a} {b = record a { turns = a.turns + 1 }} refl
    (omega arith) (omega arith)
    (λ cluster workload events f t. sent_fits f) (record {
      number = refl;
      regions = refl;
      plan = refl;
      taken = λ source. omega arith;
      logs = λ home. omega arith;
    })

-- what is settled stays so where nothing but the number of turns has changed, and a longer way leaves no session that can go on
pub settled_on : {procs : List ProcTree} {xs : List Packet} {a b c : NodeView} → HasGone procs xs a b → HasGone procs [] b c → (HasPlacedOwn a → HasPlacedOwn b) → b.sessions ≡ a.sessions → IsSettled b c
    → IsSettled a (record c { turns = c.turns + 1 })
settled_on {procs} {xs} {a} {b} {c} g h placed sessions s = record {
  drained = s.drained;
  still = λ why name. let t = s.still (later why) name in record { no_submission = t.no_submission; unanswered = t.unanswered };
  placed = λ own. s.placed (placed own);
}
  where
    later : MadeNoneOrWent a (record c { turns = c.turns + 1 }) → MadeNoneOrWent b c
    later (inl none) = inl (both_empty (new_items a b) (new_items b c) (sym (new_joined g h) ∙ none)).1
    later (inr went) = inr (λ same. went (same ∙ sessions))
