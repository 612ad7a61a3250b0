-- What the calls that answer a session or submit for one ask for, and how they end.
use Rattle.std.proofs.Common.{◌≡◌, ◌<◌, ◌+◌, ℕ, List, [], length, get_or, Ok, sym, ap, subst, ◌∙◌, arith}
use Rattle.std.specs.Prelude.{Option, option_and_then}
use Rattle.std.proofs.lemmas.List.{length-append, length_push}
use Rattle.dt_access.specs.Clash.{Bytes}
use Rattle.dt_access.specs.declared.TxnId.{TxnId}
use Rattle.dt_events.specs.declared.Event.TheVariants.{Answer}
use Rattle.dt_proc.specs.Tree.{ProcTree}
use Rattle.dt_txn.specs.declared.Body.{Body}
use Rattle.dt_txn.specs.declared.Outcome.{Outcome}
use Rattle.dt_txn.specs.Replica.{taken_from}
use Rattle.dt_region.specs.Region.{RegionView, outcome_of}
use Rattle.dt_region.specs.Rules.{with_event}
use Rattle.dt_region.specs.Sound.{IsSoundRegion}
use Rattle.dt_session.specs.declared.sessions.Seat.{Seat}
use Rattle.dt_session.specs.Sessions.{MayBeAnswered, MayGo, SessionsView, after_answer, after_wait, seat_of, waits_of, with_changed}
use Rattle.dt_site.specs.declared.Origin.{Origin}
use Rattle.dt_site.specs.Site.{SiteView, MakesAttempt, in_region}
use Rattle.dt_node.specs.MeasureInner.{left_for}
use Rattle.dt_node.specs.NodeView.{NodeView, new_items, number_of}
use Rattle.dt_node.specs.Turn.{HasPlacedOwn, MayAnswerAt, MovesOn, last_at}
use Rattle.dt_node.specs.Steps.{IsNextAt}
use Rattle.dt_node.specs.TurnInner.{HasGoneOn}
use Rattle.dt_node.proofs.Rule7Answer.{seats_kept}
use Rattle.dt_node.proofs.LessIsLeft.{answer_falls, wait_falls}
use Rattle.dt_node.proofs.CallsOfNode.{answer_moves, submit_moves}

-- where one session was changed, there are as many as before
pub seats_as_many : (change : Seat → Seat) (name : Bytes) (before after : SessionsView) → after ≡ with_changed change before name (seat_of before name) → length after.seats ≡ length before.seats
seats_as_many change name before after is = ap (λ (x : SessionsView). length x.seats) is ∙ seats_kept change before name (seat_of before name)

-- the session of this name was answered
module _ (a : NodeView) (name : Bytes) (may : MayAnswerAt a name) (r : RegionView) (is : r ≡ with_event a.site.region a.site.region.state (Answer (number_of a) name)) where
  -- the outcome by which it was is still there
  pub may_still : (last : Option Outcome) → last ≡ option_and_then (outcome_of r.state) (waits_of a.sessions name) → MayBeAnswered a.sessions name last
  may_still last told = subst (MayBeAnswered a.sessions name) (sym (told ∙ ap (λ (x : RegionView). option_and_then (outcome_of x.state) (waits_of a.sessions name)) is)) may

  module _ (s : SessionsView) (answered : s ≡ after_answer a.sessions name) where
    abbrev b : NodeView
    b = record a { site = in_region a.site r; sessions = s }

    pub answered_moves : (procs : List ProcTree) → MovesOn procs [] a b
    answered_moves procs = subst (λ x. MovesOn procs [] a (record a { site = in_region a.site r; sessions = x })) (sym answered) (answer_moves name r is may)

    pub answered_on : HasGoneOn a b
    answered_on = record {
      less = subst (λ x. left_for x < left_for a.sessions) (sym answered) (answer_falls a.sessions name (last_at a name) may);
      some = let more : length r.events ≡ length a.site.region.events + 1 = ap (λ (x : RegionView). length x.events) is ∙ length_push a.site.region.events _ in omega (arith, more);
      placed = λ own. subst (λ (x : RegionView). length (get_or x.state.here.asked x.state.number []) ≡ taken_from x.state.here x.state.number) (sym is) own;
    }

-- the session of this name submitted its next attempt
module _ {a : NodeView} (name : Bytes) {origin : Origin} {rank : ℕ} {body : Body} (t : IsNextAt a name origin rank body) (procs : List ProcTree) (id : TxnId) (q : SiteView)
    (made : MakesAttempt procs a.site rank body origin (Ok id) q) where
  -- it may wait for it
  pub may_wait : (last : Option Outcome) → last ≡ option_and_then (outcome_of q.region.state) (waits_of a.sessions name) → MayGo a.sessions name last
  may_wait last told = subst (MayGo a.sessions name) (sym (told ∙ ap (λ (x : SiteView). option_and_then (outcome_of x.region.state) (waits_of a.sessions name)) made.1)) t.may

  module _ (s : SessionsView) (waits : s ≡ after_wait a.sessions name id) where
    pub submitted_moves : IsSoundRegion q.region.state → MovesOn procs [] a (record a { site = q; sessions = s })
    submitted_moves sound = subst (λ x. MovesOn procs [] a (record a { site = q; sessions = x })) (sym waits) (submit_moves name t id q made sound)

    pub submitted_less : left_for s < left_for a.sessions
    submitted_less = subst (λ x. left_for x < left_for a.sessions) (sym waits) (wait_falls a.sessions name (last_at a name) id t.may)

-- then what the region asked of itself was placed
pub submitted_on : {procs : List ProcTree} {a b c : NodeView} → left_for b.sessions < left_for a.sessions → length b.site.region.events ≡ length a.site.region.events + 1
    → MovesOn procs [] b c → c.sessions ≡ b.sessions → HasPlacedOwn c → HasGoneOn a c
submitted_on {procs} {a} {b} {c} less some moved same placed = record {
  less = subst (λ s. left_for s < left_for a.sessions) (sym same) less;
  some = let long : length c.site.region.events ≡ length b.site.region.events + length (new_items b c) = ap length moved.gone.grows ∙ length-append b.site.region.events (new_items b c) in omega (arith, some, long);
  placed = λ own. placed;
}
