-- The steps of a turn one after another: a pass over the sessions with its round, passes until the sessions stand still, and
-- last the sending.
use Rattle.std.proofs.Common.{◌≡◌, inl, inr, ◌<◌, ◌+◌, ◌||◌, Bool, true, false, List, [], ◌∷◌, ◌++◌, length, get_or, refl, sym, ap, ap₂, subst, ◌∙◌, arith, append-nil}
use Rattle.std.specs.Prelude.{Option, Some, None, slice_index}
use Rattle.std.proofs.lemmas.List.{length-append}
use Rattle.dt_access.specs.declared.TxnId.{TxnId}
use Rattle.dt_events.specs.declared.Event.{Event}
use Rattle.dt_events.specs.declared.Event.TheVariants.{Submit, Append, Deliver, Insert, Resolve, Execute, Answer}
use Rattle.dt_events.specs.Stamps.{stamped_from}
use Rattle.dt_sched.specs.Views.{log_at}
use Rattle.dt_proc.specs.Tree.{ProcTree}
use Rattle.dt_txn.specs.declared.Txn.{Txn}
use Rattle.dt_txn.specs.Replica.{IsContinuation, IsDrained, MayStep, Replica, executed, stepped}
use Rattle.dt_region.specs.Rounds.{Continues, after_steps}
use Rattle.dt_region.proofs.Callers.{continues_none}
use Rattle.dt_region.specs.Region.{RegionState, RegionView, held, latest_stamp}
use Rattle.dt_packet.specs.declared.packet.Packet.{Packet}
use Rattle.dt_node.specs.MeasureInner.{left_for}
use Rattle.dt_node.specs.NodeView.{NodeView, new_items, number_of}
use Rattle.dt_node.specs.TurnPacketsInner.{IsReady}
use Rattle.dt_node.specs.NodeInWorld.{NodeStands}
use Rattle.dt_node.specs.Turn.{BeginsEagerly, HasPlacedOwn, HasTaken, IsSettled, MayAnswerAt, MaySubmitAt, MovesOn}
use Rattle.dt_node.specs.Steps.{AllWhoMight, HasMadePasses, HasMadeRound, HasTakenEach, HasTurned, IsPass}
use Rattle.dt_node.specs.StepsInner.{IsAnswering, IsSubmission}
use Rattle.dt_node.specs.TurnInner.{CanGo, EndsAll, HasGoneOn, KnowsTheSame, PassesOnce, RestsWhereDrained}
use Rattle.dt_node.proofs.SessionSteps.{said_otherwise, some_of_both, some_stepped}
use Rattle.dt_node.proofs.CallAfterCall.{made_nothing, moves_more, moves_on}
use Rattle.dt_node.proofs.SessionsByPlace.{gone_on_more}
use Rattle.dt_node.proofs.TurnStops.{RestsSoFar, begins_more, sent_moves, settled_on, settles}
use Rattle.dt_node.proofs.PacketsTaken.{taken_on}
use Rattle.dt_node.proofs.TruePackets.{can_on, may_begin}

-- steps of a region's own leave what it asked and what it placed
kept_in_steps : (procs : List ProcTree) (found : TxnId → Option Txn) (here : Replica) (events : List Event)
    → ((after_steps procs found here events).asked ≡ here.asked) × ((after_steps procs found here events).taken ≡ here.taken)
kept_in_steps procs found here [] = (refl, refl)
kept_in_steps procs found here (event ∷ events) =
    let later = kept_in_steps procs found (stepped procs found here event) events in let now = one event in (later.0 ∙ now.0, later.1 ∙ now.1)
  where
    ran : (t : Option Txn) → ((executed procs here t).asked ≡ here.asked) × ((executed procs here t).taken ≡ here.taken)
    ran None = (refl, refl)
    ran (Some txn) = (refl, refl)

    one : (e : Event) → ((stepped procs found here e).asked ≡ here.asked) × ((stepped procs found here e).taken ≡ here.taken)
    one (Insert region home) = (refl, refl)
    one (Resolve region ids) = (refl, refl)
    one (Execute region id) = ran (found id)
    one (Submit region name) = (refl, refl)
    one (Answer region name) = (refl, refl)
    one (Append home source number) = (refl, refl)
    one (Deliver region home first last) = (refl, refl)

module _ {procs : List ProcTree} {before after : RegionView} (c : Continues procs before after) where
  pub round_asked : after.state.here.asked ≡ before.state.here.asked
  round_asked = ap (λ (s : RegionState). s.here.asked) c.state ∙ (kept_in_steps procs (held before.state) before.state.here c.events).0

  pub round_taken : after.state.here.taken ≡ before.state.here.taken
  round_taken = ap (λ (s : RegionState). s.here.taken) c.state ∙ (kept_in_steps procs (held before.state) before.state.here c.events).1

  -- no step may be made where nothing is left to do
  pub round_rests : IsDrained before.state.logs before.state.here → after.events ≡ before.events
  round_rests drained =
      c.kept ∙ ap (λ l. before.events ++ stamped_from (latest_stamp before + 1) l) (none c.events c.legal) ∙ append-nil before.events
    where
      cannot : (event : Event) → MayStep before.state.logs before.state.here event → ⊥
      cannot (Insert region home) may = let all : slice_index before.state.here.inserted home ≡ length (log_at before.state.logs home) = drained.inserted home in absurd (omega (arith, all, may))
      cannot (Resolve region ids) may = drained.resolved ids may
      cannot (Execute region id) may = drained.executed id may
      cannot (Submit region name) may = absurd may
      cannot (Answer region name) may = absurd may
      cannot (Append home source number) may = absurd may
      cannot (Deliver region home first last) may = absurd may

      none : (events : List Event) → IsContinuation procs (held before.state) before.state.number before.state.logs before.state.here events → events ≡ []
      none [] legal = refl
      none (event ∷ events) legal = absurd (cannot event legal.1)

-- own requests are placed as before where neither they nor what is placed has changed
pub own_stay : (a b : NodeView) → number_of b ≡ number_of a → b.site.region.state.here.asked ≡ a.site.region.state.here.asked
    → b.site.region.state.here.taken ≡ a.site.region.state.here.taken → HasPlacedOwn a → HasPlacedOwn b
own_stay a b number asked taken own =
    (λ i. length (get_or (asked i) (number i) [])) ∙ own ∙ sym (λ i. slice_index (taken i) (number i))

-- a session went on, and then the node made events without its sessions
gone_on_then : {procs : List ProcTree} {a b c : NodeView} → HasGoneOn a b → MovesOn procs [] b c → c.sessions ≡ b.sessions → (HasPlacedOwn b → HasPlacedOwn c) → HasGoneOn a c
gone_on_then {procs} {a} {b} {c} g m same placed = record {
  less = subst (λ s. left_for s < left_for a.sessions) (sym same) g.less;
  some =
      let long : length c.site.region.events ≡ length b.site.region.events + length (new_items b c) = ap length m.gone.grows ∙ length-append b.site.region.events (new_items b c) in
      let some = g.some in omega (arith, some, long);
  placed = λ own. placed (g.placed own);
}

-- a pass: sessions were answered, sessions submitted, and a round was made
pub passes : {procs : List ProcTree} (a b : NodeView) {c d : NodeView} (answered submitted : Bool) → EndsAll MayAnswerAt a answered b → EndsAll MaySubmitAt b submitted c → MovesOn procs [] c d
    → d.sessions ≡ c.sessions → (HasPlacedOwn c → HasPlacedOwn d) → RestsWhereDrained c d → PassesOnce a (answered || submitted) d
passes a b true true s t m same placed rests = gone_on_then (gone_on_more s t) m same placed
passes {procs} a b true false s t m same placed rests = gone_on_then (subst (HasGoneOn a) (sym t.0) s) m same placed
passes {procs} a b {c} false true s t m same placed rests = gone_on_then (subst (λ x. HasGoneOn x c) s.0 t) m same placed
passes {procs} a b {c} {d} false false s t m same placed rests = (
  same ∙ ap (λ (x : NodeView). x.sessions) (t.0 ∙ s.0),
  λ name. (s.1 name, λ may. t.1 name (subst (λ x. MaySubmitAt x name) (sym s.0) may)),
  λ own. placed (subst HasPlacedOwn (sym (t.0 ∙ s.0)) own),
  subst (λ (x : NodeView). RestsWhereDrained x d) (t.0 ∙ s.0) rests,
)

-- the same pass by its steps
pub pass_steps : {procs : List ProcTree} {a b c d : NodeView} (answered submitted : Bool) → EndsAll MayAnswerAt a answered b → EndsAll MaySubmitAt b submitted c → AllWhoMight MayAnswerAt IsAnswering a b
    → AllWhoMight MaySubmitAt (IsSubmission procs) b c → HasMadeRound procs c d → IsPass procs (answered || submitted) a d
pass_steps {procs} {a} {b} {c} {d} answered submitted s t answers submits round = record {
  answered = b;
  answers = said_otherwise (λ x name y k. k.step procs) answers;
  submitted = c;
  submits = said_otherwise (λ x name y k. k.step) submits;
  round = round;
  is = sym (some_of_both answers.names submits.names ∙ ap₂ (λ x y. x || y) (some_stepped answered s answers) (some_stepped submitted t submits));
}

-- where no session went on in a pass and nothing was left to do before it, no round is made
module _ (procs : List ProcTree) (a b c : NodeView) (answered submitted : Bool) (none : (answered || submitted) ≡ false) (s : EndsAll MayAnswerAt a answered b) (t : EndsAll MaySubmitAt b submitted c)
    (drained : IsDrained a.site.region.state.logs a.site.region.state.here) where
  pub rested_passes : PassesOnce a false c
  rested_passes = subst (λ went. PassesOnce a went c) none (passes {procs = procs} a b answered submitted s t (made_nothing c) refl (λ own. own) (λ d. refl))

  pub rested_steps : AllWhoMight MayAnswerAt IsAnswering a b → AllWhoMight MaySubmitAt (IsSubmission procs) b c → IsPass procs false a c
  rested_steps answers submits = subst (λ went. IsPass procs went a c) none (pass_steps answered submitted s t answers submits
      (record { gone = (made_nothing {procs = procs} c).gone; continues = continues_none procs c.site.region; sessions = refl; drained = still answered submitted none s t }))
    where
      still : (p q : Bool) → (p || q) ≡ false → EndsAll MayAnswerAt a p b → EndsAll MaySubmitAt b q c → IsDrained c.site.region.state.logs c.site.region.state.here
      still false false e x y = subst (λ (n : NodeView). IsDrained n.site.region.state.logs n.site.region.state.here) (sym (y.0 ∙ x.0)) drained
      still true q e x y = absurd cc
      still false true e x y = absurd cc

-- the passes of a turn, as far as they have come
pub record HasPassed (procs : List ProcTree) (before now : NodeView) : Type 0 where
  pub moved : MovesOn procs [] before now
  pub knows : KnowsTheSame before now
  pub placed : HasPlacedOwn before → HasPlacedOwn now
  -- where the next pass begins as a first turn has to, so do all passes
  pub begins : (after : NodeView) → MovesOn procs [] now after → BeginsEagerly procs now after → BeginsEagerly procs before after
  pub rests : RestsSoFar before now
  -- what passes lead to from now on, they lead to from the beginning on
  pub passes : (after : NodeView) → HasMadePasses procs now after → HasMadePasses procs before after

-- none yet
pub passed_none : {procs : List ProcTree} (a : NodeView) → HasPassed procs a a
passed_none a = record {
  moved = made_nothing a;
  knows = record { took = refl; received = refl; turns = refl };
  placed = λ own. own;
  begins = λ after later eager. eager;
  rests = inl refl;
  passes = λ after p. p;
}

pub knows_more : {a b c : NodeView} → KnowsTheSame a b → KnowsTheSame b c → KnowsTheSame a c
knows_more k l = record { took = l.took ∙ k.took; received = l.received ∙ k.received; turns = l.turns ∙ k.turns }

-- one pass more, after which some session went on
pub passed_more : {procs : List ProcTree} {a b c : NodeView} → HasPassed procs a b → MovesOn procs [] b c → KnowsTheSame b c → PassesOnce b true c → BeginsEagerly procs b c
    → IsDrained c.site.region.state.logs c.site.region.state.here → IsPass procs true b c → HasPassed procs a c
passed_more {procs} {a} {b} {c} p m k pass eager drained step = record {
  moved = moves_more p.moved m;
  knows = knows_more p.knows k;
  placed = λ own. pass.placed (p.placed own);
  begins = λ after later first. p.begins after (moves_more m later) (begins_more m.gone later.gone eager);
  rests = inr drained;
  passes = λ after l. p.passes after (record { between = c ∷ l.between; each = (step, l.each) });
}

-- the last one
pub passed_last : {procs : List ProcTree} {a b c : NodeView} → CanGo procs [] a → HasPassed procs a b → MovesOn procs [] b c → PassesOnce b false c → IsDrained c.site.region.state.logs c.site.region.state.here → IsSettled a c
passed_last c p m pass drained = settles (can_on [] [] c p.moved) p.moved m p.placed p.rests pass drained

pub passes_end : {procs : List ProcTree} {a b c : NodeView} → HasPassed procs a b → IsPass procs false b c → HasMadePasses procs a c
passes_end {procs} {a} {b} {c} p step = p.passes c (record { between = []; each = step })

-- what a turn asks of its parts

-- the packets were taken, so that the sessions may go on
pub turn_can : {procs : List ProcTree} {xs : List Packet} {a b : NodeView} → NodeStands procs xs a → MovesOn procs xs a b → CanGo procs [] b
turn_can {procs} {xs} {a} s m = can_on xs [] (subst (λ l. CanGo procs l a) (sym (append-nil xs)) (may_begin s)) m

-- and packets may be sent
pub turn_ready : {procs : List ProcTree} {n : NodeView} → CanGo procs [] n → IsReady n
turn_ready c = record { took = c.fits.took ∙ sym c.fits.site.many; received = c.fits.received ∙ sym c.fits.site.many }

-- what a turn makes, from what its parts made

module _ {procs : List ProcTree} {xs : List Packet} {a b c : NodeView} (received : MovesOn procs xs a b) (went : MovesOn procs [] b c) where
  pub turn_moves : MovesOn procs xs a (record c { turns = c.turns + 1 })
  turn_moves = moves_on (moves_on received went) (sent_moves c)

  pub turn_takes : HasTaken xs a b → KnowsTheSame b c → HasTaken xs a (record c { turns = c.turns + 1 })
  turn_takes t k = taken_on t k.took k.received went.gone.taken went.gone.logs

  pub turn_settles : (HasPlacedOwn a → HasPlacedOwn b) → b.sessions ≡ a.sessions → IsSettled b c → IsSettled a (record c { turns = c.turns + 1 })
  turn_settles placed sessions s = settled_on received.gone went.gone placed sessions s

-- its steps
pub turn_steps : {procs : List ProcTree} {xs : List Packet} {a b c d : NodeView} → HasTakenEach procs xs a b → HasMadePasses procs b c → d ≡ record c { turns = c.turns + 1 } → HasTurned procs xs a d
turn_steps {procs} {xs} {a} {b} {c} {d} takes passes sends = record { received = b; takes = takes; rested = c; passes = passes; sends = sends }

-- the first turn
pub turn_begins : {procs : List ProcTree} {a b c : NodeView} → b ≡ a → MovesOn procs [] b c → BeginsEagerly procs b c → BeginsEagerly procs a (record c { turns = c.turns + 1 })
turn_begins {procs} {a} {b} {c} same went eager = subst (λ x. BeginsEagerly procs x (record c { turns = c.turns + 1 })) same (begins_more went.gone (sent_moves {procs = procs} c).gone eager)
