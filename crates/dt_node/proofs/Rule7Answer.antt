-- A session is answered: the node's region keeps the event, and its sessions go on.
use Rattle.std.proofs.Common.{◌≡◌, ◌≢◌, ◌+◌, List, [], ◌∷◌, length, Some, None, refl, sym, ap, subst, ◌∙◌, cond, arith}
use Rattle.std.specs.Prelude.{Option, option_and_then, option_map}
use Rattle.std.specs.Cmp.Lexicographic.{bytes_decides, texts_ties}
use Rattle.std.proofs.lemmas.Map.{length-set_value}
use Rattle.dt_access.specs.Clash.{Bytes}
use Rattle.dt_access.specs.declared.TxnId.{TxnId}
use Rattle.dt_events.specs.declared.Event.{Event}
use Rattle.dt_events.specs.declared.Event.TheVariants.{Answer}
use Rattle.dt_region.specs.Region.{RegionView, outcome_of}
use Rattle.dt_region.specs.Rules.{with_event}
use Rattle.dt_cluster.specs.declared.Cluster.{Cluster}
use Rattle.dt_workload.specs.declared.Session.{Session}
use Rattle.dt_workload.specs.declared.Workload.{Workload}
use Rattle.dt_session.specs.declared.sessions.Seat.{Seat}
use Rattle.dt_session.specs.Sessions.{MayBeAnswered, MayGo, SessionsView, after_answer, is_named, answered_seat, seat_of, waits_of, with_changed}
use Rattle.dt_session.specs.World.{World, Place, session_at}
use Rattle.dt_session.specs.Step.{IsLegal, MayAnswer, MaySubmit, next}
use Rattle.dt_session.specs.Run.{world_after}
use Rattle.dt_site.specs.SessionsStandIn.{SessionsStandIn, seat_in}
use Rattle.dt_site.specs.Site.{in_region}
use Rattle.dt_site.proofs.Callers.{Answers, answer_elsewhere, answer_legal, answer_made, kept_here, last_in, may_answer, may_submit, outcome_here, seat_changed, sessions_changed}
use Rattle.dt_node.specs.NodeView.{NodeView, number_of}
use Rattle.dt_node.specs.NodeInWorld.{NodeFits}
use Rattle.dt_node.specs.Turn.{GoesAfter, last_at}
use Rattle.dt_node.proofs.EventsGoOn.{one_goes, reached}

-- as many sessions as before
pub seats_kept : (change : Seat → Seat) (s : SessionsView) (name : Bytes) (o : Option Seat) → length (with_changed change s name o).seats ≡ length s.seats
seats_kept change s name None = refl
seats_kept change s name (Some seat) = length-set_value (is_named name) s.seats (change seat)

module _ {cluster : Cluster} {workload : Workload} {events : List Event} {a : NodeView} (f : NodeFits cluster workload events a) (name : Bytes) where
  abbrev w : World
  w = world_after cluster workload events

  abbrev here : Option (Session × Place)
  here = session_at workload.sessions w.places (number_of a) name

  -- the outcome that the node has of what a session waits for is that of the world
  last_is : last_at a name ≡ last_in w (number_of a) (waits_of a.sessions name)
  last_is = go (waits_of a.sessions name)
    where
      go : (waits : Option TxnId) → option_and_then (outcome_of a.site.region.state) waits ≡ last_in w (number_of a) waits
      go None = refl
      go (Some id) = outcome_here (reached f) f.site id

  -- so it goes on exactly where the rules allow it

  pub go_submit : MayGo a.sessions name (last_at a name) → MaySubmit cluster w (number_of a) here
  go_submit m = may_submit f.sessions name (subst (MayGo a.sessions name) last_is m)

  pub go_answer : MayBeAnswered a.sessions name (last_at a name) → MayAnswer cluster w (number_of a) here
  go_answer m = may_answer f.sessions name (subst (MayBeAnswered a.sessions name) last_is m)

  -- it has been answered
  module _ (r : RegionView) (is : r ≡ with_event a.site.region a.site.region.state (Answer (number_of a) name)) where
    abbrev b : NodeView
    b = record a { site = in_region a.site r; sessions = after_answer a.sessions name }

    module _ {session : Session} {place : Place} (answers : Answers cluster workload w (number_of a) name session place) where
      legal : IsLegal cluster workload w (Answer (number_of a) name)
      legal = answer_legal (reached f) f.number f.site answers

      standing : SessionsStandIn cluster workload (next cluster workload w (Answer (number_of a) name)) (number_of a) (after_answer a.sessions name)
      standing = sessions_changed (reached f) (Answer (number_of a) name) legal f.number (answer_elsewhere (reached f) f.number f.site answers) answered_seat f.sessions refl

      -- one more of its calls is answered, so the world is another one
      changed : next cluster workload w (Answer (number_of a) name) ≢ w
      changed same =
          let seat : Seat = seat_in w (session, place) in
          let before : seat_of a.sessions name ≡ Some seat = kept_here f.sessions name answers.found in
          let again : seat_of (after_answer a.sessions name) name ≡ Some seat = (standing_in same).seats name ∙ ap (option_map (seat_in w)) answers.found in
          let now_at : seat_of (after_answer a.sessions name) name ≡ Some (answered_seat seat) = after_is seat before in
          let more : Some seat ≡ Some (answered_seat seat) = sym again ∙ now_at in
          let counts : place.answered ≡ place.answered + 1 = answered_same seat (answered_seat seat) more in
          absurd (omega (arith, counts))
        where
          standing_in : next cluster workload w (Answer (number_of a) name) ≡ w → SessionsStandIn cluster workload w (number_of a) (after_answer a.sessions name)
          standing_in e = subst (λ v. SessionsStandIn cluster workload v (number_of a) (after_answer a.sessions name)) e standing

          answered_same : (x y : Seat) → ◌≡◌ {A = Option Seat} (Some x) (Some y) → x.answered ≡ y.answered
          answered_same x y e = let same : x ≡ y = cc in ap (λ s. s.answered) same

          after_is : (seat : Seat) → seat_of a.sessions name ≡ Some seat → seat_of (after_answer a.sessions name) name ≡ Some (answered_seat seat)
          after_is seat e = subst (λ o. seat_of (with_changed answered_seat a.sessions name o) name ≡ Some (answered_seat seat)) (sym e)
              (seat_changed answered_seat a.sessions name seat e name ∙ ap (λ t. cond t (Some (answered_seat seat)) (seat_of a.sessions name)) (sym (texts_ties name name) ∙ (bytes_decides name name).1 refl))

      answer_here : GoesAfter cluster workload events (Answer (number_of a) name ∷ []) b
      answer_here = one_goes f (Answer (number_of a) name) (answer_made (reached f) f.number f.site answers r is) changed standing
          (ap (λ x. x.state.number) is) (seats_kept answered_seat a.sessions name (seat_of a.sessions name)) refl refl

    pub answer_goes : MayBeAnswered a.sessions name (last_at a name) → GoesAfter cluster workload events (Answer (number_of a) name ∷ []) b
    answer_goes m = go here refl (go_answer m)
      where
        go : (o : Option (Session × Place)) → here ≡ o → MayAnswer cluster w (number_of a) o → GoesAfter cluster workload events (Answer (number_of a) name ∷ []) b
        go None e x = absurd x
        go (Some (session, place)) e x = let answers : Answers cluster workload w (number_of a) name session place = record { found = e; may = x } in answer_here answers
