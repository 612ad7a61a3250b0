-- A whole packet: its stamp is heard, its requests are placed, its entries received, and what it says of its source is noted.
use Rattle.std.proofs.Common.{◌≡◌, ◌≤◌, ◌+◌, ◌-◌, ℕ, List, [], ◌∷◌, ◌++◌, length, max, get_or, set, sym, ap, ap₂, ◌∙◌, arith}
use Rattle.std.proofs.lemmas.List.{length-set, map-append}
use Rattle.dt_events.specs.Stamps.{events_of}
use Rattle.dt_sched.specs.Views.{log_at}
use Rattle.dt_proc.specs.Tree.{ProcTree}
use Rattle.dt_txn.specs.Replica.{taken_from}
use Rattle.dt_region.specs.Region.{latest_stamp}
use Rattle.dt_packet.specs.declared.packet.Packet.{Packet}
use Rattle.dt_node.specs.NodeView.{NodeView, heard_by, new_items, number_of}
use Rattle.dt_node.specs.Turn.{HasTaken, MovesOn}
use Rattle.dt_node.specs.Steps.{HasTakenOne, placings, receipt}
use Rattle.dt_node.specs.StepsInner.{HasPlaced, HasReceived, IsPlacedTo}
use Rattle.dt_node.specs.TurnInner.{CanTake, KnowsTheSame, asking_packet, logging_packet, noted}
use Rattle.dt_node.proofs.CallAfterCall.{new_joined}
use Rattle.dt_node.proofs.HearCall.{heard_moves, noted_heard, noted_moves}
use Rattle.dt_node.proofs.PacketParts.{can_ask, can_log, moves_by_asking, moves_by_logging, moves_same}
use Rattle.dt_node.proofs.TruePackets.{can_again}

module _ (p : Packet) (a : NodeView) (c : CanTake (p ∷ []) a) where
  here : p.target ≡ number_of a
  here = c.can.told.addressed.0.target

  abbrev hearing : NodeView
  hearing = heard_by a p.stamp

  -- after its stamp is heard, its requests may be placed

  pub can_hear : CanTake (p ∷ []) hearing
  can_hear = can_again (p ∷ []) c (λ procs. heard_moves p a)

  pub may_ask : CanTake (asking_packet hearing p.source p.asked_at p.asked ∷ []) hearing
  may_ask = can_ask hearing p here can_hear

  module _ (b : NodeView) (asked : (procs : List ProcTree) → MovesOn procs (asking_packet hearing p.source p.asked_at p.asked ∷ []) hearing b) where
    stamp_heard : p.stamp ≤ latest_stamp hearing.site.region
    stamp_heard = omega arith

    pub asked_so_far : (procs : List ProcTree) → MovesOn procs (p ∷ []) a b
    asked_so_far procs = moves_same (heard_moves p a) (moves_by_asking p here stamp_heard (asked procs))

    -- then its entries may be received

    here_still : p.target ≡ number_of b
    here_still = here ∙ sym (asked []).gone.number

    can_go_on : CanTake (p ∷ []) b
    can_go_on = can_again (p ∷ []) c asked_so_far

    pub may_log : CanTake (logging_packet b p.source p.log_at p.entries ∷ []) b
    may_log = can_log b p here_still can_go_on

    module _ (d : NodeView) (logged : (procs : List ProcTree) → MovesOn procs (logging_packet b p.source p.log_at p.entries ∷ []) b d) where
      still_heard : p.stamp ≤ latest_stamp b.site.region
      still_heard = let up : latest_stamp hearing.site.region ≤ latest_stamp b.site.region = (asked []).stamps.up in omega (arith, stamp_heard, up)

      pub logged_so_far : (procs : List ProcTree) → MovesOn procs (p ∷ []) a d
      logged_so_far procs = moves_same (asked_so_far procs) (moves_by_logging p here_still still_heard (logged procs))

      -- and last what it says is noted

      pub all_moved : (procs : List ProcTree) → MovesOn procs (p ∷ []) a (noted d p.source p.took p.received)
      all_moved procs = moves_same (logged_so_far procs) (noted_moves p d)

      pub all_taken : KnowsTheSame hearing b → KnowsTheSame b d → p.asked_at + length p.asked ≤ taken_from b.site.region.state.here p.source
          → p.log_at + length p.entries ≤ length (log_at d.site.region.state.logs p.source) → HasTaken (p ∷ []) a (noted d p.source p.took p.received)
      all_taken k l asks logs =
          let took : d.took ≡ a.took = l.took ∙ k.took in
          let received : d.received ≡ a.received = l.received ∙ k.received in
          let more : taken_from b.site.region.state.here p.source ≤ taken_from d.site.region.state.here p.source = (logged []).gone.taken p.source in
          record {
            each = (record { asked = omega (arith, asks, more); entries = logs }, tt);
            many_took = length-set d.took p.source (max (get_or d.took p.source 0) p.took) ∙ ap length took;
            many_received = length-set d.received p.source (max (get_or d.received p.source 0) p.received) ∙ ap length received;
            heard = noted_heard p a (noted d p.source p.took p.received) (ap (λ l. set l p.source (max (get_or l p.source 0) p.took)) took) (ap (λ l. set l p.source (max (get_or l p.source 0) p.received)) received);
          }

      -- and which events that makes
      module _ (placed : HasPlaced p.source hearing b) (count : IsPlacedTo p.source (p.asked_at + length p.asked) hearing b) (entries : HasReceived p.source p.log_at (p.log_at + length p.entries) b d) where
        -- how many requests of its source were placed before, and how many more
        abbrev placed_before : ℕ
        placed_before = taken_from a.site.region.state.here p.source

        abbrev many : ℕ
        many = p.asked_at + length p.asked - placed_before

        requests_made : events_of (new_items hearing b) ≡ placings (number_of a) p.source placed_before many
        requests_made =
            let to : taken_from b.site.region.state.here p.source ≡ placed_before + many = count in
            let so_many : taken_from b.site.region.state.here p.source - placed_before ≡ many = omega (arith, to) in
            placed.events ∙ ap (placings (number_of a) p.source placed_before) so_many

        entries_made : events_of (new_items b d) ≡ receipt (number_of a) p.source (length (log_at a.site.region.state.logs p.source)) p.log_at (p.log_at + length p.entries)
        entries_made =
            entries.made
            ∙ ap (λ n. receipt n p.source (length (log_at b.site.region.state.logs p.source)) p.log_at (p.log_at + length p.entries)) (asked []).gone.number
            ∙ ap (λ l. receipt (number_of a) p.source (length l) p.log_at (p.log_at + length p.entries)) (placed.logs p.source c.can.told.addressed.0.other)

        pub all_steps : d.sessions ≡ a.sessions → (procs : List ProcTree) → HasTakenOne procs p a (noted d p.source p.took p.received)
        all_steps sessions procs = record {
          goes = record {
            gone = (all_moved procs).gone;
            made = ap events_of (new_joined (asked []).gone (logged []).gone) ∙ map-append (λ x. x.event) (new_items hearing b) (new_items b d) ∙ ap₂ (λ xs ys. xs ++ ys) requests_made entries_made;
          };
          heard = entries.heard ∙ placed.heard;
          sessions = sessions;
        }
