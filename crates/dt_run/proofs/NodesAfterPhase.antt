-- All that the type of the nodes keeps is so after a phase that did not fail.
use Rattle.std.proofs.Common.{◌≡◌, ◌<◌, ◌≤◌, ◌+◌, ℕ, suc, false, Bool, List, [], ◌∷◌, ◌++◌, length, get_or, refl, sym, ap, subst, ◌∙◌, inl, inr, arith, append-nil, append_assoc, eqb, eq-eqb}
use Rattle.std.proofs.lemmas.List.{map-append, nil_from_length}
use Rattle.dt_lists.specs.Lists.{Either, Has, IsFront}
use Rattle.dt_lists.proofs.Callers.{Spot, all_get, any_get, either_le, either_nat, has_filter, has_of_filtered, none_in_empty, spot}
use Rattle.dt_access.specs.declared.TxnId.{TxnId}
use Rattle.dt_events.specs.declared.Event.{Event}
use Rattle.dt_events.specs.declared.Event.TheVariants.{Submit, Append, Deliver, Insert, Resolve, Execute, Answer}
use Rattle.dt_events.specs.declared.Stamped.{Stamped}
use Rattle.dt_events.specs.Stamps.{events_of}
use Rattle.dt_packet.specs.declared.packet.Packet.{Packet}
use Rattle.dt_cluster.specs.declared.Cluster.{Cluster}
use Rattle.dt_workload.specs.declared.Workload.{Workload}
use Rattle.dt_session.specs.World.{World, Node, asked_of, opening_table, opening_world}
use Rattle.dt_session.specs.Step.{IsLegal}
use Rattle.dt_session.specs.Run.{AreLegal, AreLegalFrom, world_after, world_from}
use Rattle.dt_agreement.proofs.Callers.{legal_append, world_from_append}
use Rattle.dt_merge.specs.Merge.{kept_at, region_at, those_at}
use Rattle.dt_merge.specs.OwnPart.{HaveGrown}
use Rattle.dt_merge.specs.WorldRegions.{HasInvariant}
use Rattle.dt_events.specs.Events.{region_of}
use Rattle.dt_session.specs.Eager.{first_calls, first_events, sessions_at}
use Rattle.dt_node.specs.NodeView.{new_items, number_of, packet_for}
use Rattle.dt_node.specs.Packets.{IsToldOf, IsTruePacket}
use Rattle.dt_node.specs.NodeInWorld.{NodeFits}
use Rattle.dt_node.specs.Turn.{BeginsEagerly, BringsEntries, BringsRequest, IsBroughtBy, MovesOn}
use Rattle.dt_run.specs.LinksInner.{BesideSoFar}
use Rattle.dt_run.specs.Marks.{IsPlannedIn, IsToldIn, WasAskedBefore, WerePlacedBefore, kept_before, kept_by_region, mark_at}
use Rattle.dt_run.specs.NodesStand.{AreInStep, AreNodes, BeganEagerly, IsOnLink, LinkTells, StandsAmong}
use Rattle.dt_run.specs.NodesView.{NodesView, kept_by, node_in, waiting_at, waiting_between}
use Rattle.dt_run.specs.Phase.{EndsInStep, IsPhase}
use Rattle.dt_run.specs.SeatsInner.{AreSeated, EachGoes, SeatTurned, SeatView, nodes_view, seat_at}
use Rattle.dt_run.proofs.Laws.{asked_front}
use Rattle.dt_run.proofs.ChronicleGrows.{worlds_grow}
use Rattle.dt_run.proofs.PlannedItems.{entries_planned, not_lost, request_planned}
use Rattle.dt_run.proofs.NodesAfterTurns.{EachTurns, all_now, chronicle_now, nodes_now, none_kept, phase_is, stand_now}
use Rattle.dt_run.proofs.TurnsInOrder.{good_world, new_below}
use Rattle.dt_run.proofs.PlannedPackets as planning
use Rattle.dt_run.proofs.PhaseInStep.{beside_now, ends_in_step, node_now, turns_now}
use Rattle.dt_run.proofs.WaitingPackets as waiting

-- the regions that a legal event names are there
named : {cluster : Cluster} {workload : Workload} (w : World) (e : Event) → IsLegal cluster workload w e → planning.RegionsAre cluster.regions e
named w (Append home source number) l = (l.regions.0, l.regions.1)
named w (Deliver region home first last) l = (l.regions.0, l.regions.1)
named w (Submit region name) l = tt
named w (Insert region home) l = tt
named w (Resolve region ids) l = tt
named w (Execute region id) l = tt
named w (Answer region name) l = tt

-- a list that has no item is empty
no_item : {A : Type 0} (xs : List A) → ((x : A) → Has xs x → ⊥) → xs ≡ []
no_item [] f = refl
no_item (x ∷ xs) f = absurd (f x (inl refl))

-- the requests that the region of a node asked of a home
abbrev asked_in : NodesView → ℕ → ℕ → List TxnId
asked_in v source home = get_or (node_in v source).site.region.state.here.asked home []

module _ {cluster : Cluster} {workload : Workload} {seats seats' seats'' : List SeatView} {broken : Bool} (a : AreSeated cluster workload seats broken) (sound : broken ≡ false) (g : EachGoes cluster.procs seats seats')
    (whole : (region : ℕ) → region < length seats → SeatTurned cluster.procs (seat_at seats region) (seat_at seats' region)) (b : BesideSoFar (length seats') seats' seats'') where
  abbrev v : NodesView
  v = nodes_view cluster workload seats broken

  abbrev v' : NodesView
  v' = nodes_view cluster workload seats'' false

  abbrev n : AreNodes v
  n = a.nodes

  abbrev step : AreInStep v
  step = n.in_step sound

  abbrev turned : EachTurns cluster.procs seats seats''
  turned = turns_now a sound g whole b

  abbrev phase : IsPhase v v'
  phase = phase_is a sound turned false

  abbrev w : World
  w = world_after cluster workload (events_of n.all)

  abbrev later : World
  later = world_after cluster workload (events_of (all_now a sound turned false))

  -- what is new of all regions
  abbrev added : List Stamped
  added = new_below (node_in v) (node_in v') cluster.regions

  legal_parts : AreLegal cluster workload (events_of n.all) × AreLegalFrom cluster workload w (events_of added)
  legal_parts = legal_append cluster workload (opening_world cluster workload) (events_of n.all) (events_of added)
      (subst (AreLegal cluster workload) (map-append (λ (x : Stamped). x.event) n.all added) (chronicle_now a sound turned false).legal)

  good : HasInvariant cluster workload w
  good = good_world (n.stand 0 n.cluster.some).fits

  later_is : later ≡ world_from cluster workload w (events_of added)
  later_is = ap (world_after cluster workload) (map-append (λ (x : Stamped). x.event) n.all added)
      ∙ world_from_append cluster workload (opening_world cluster workload) (events_of n.all) (events_of added)

  grown : HaveGrown w later
  grown = subst (HaveGrown w) (sym later_is) (worlds_grow n.cluster n.workload (events_of added) w good legal_parts.1).1

  good_later : HasInvariant cluster workload later
  good_later = good_world (stand_now a sound turned false 0 n.cluster.some).fits

  fronts : (source home : ℕ) → source < cluster.regions → home < cluster.regions
      → IsFront (asked_in v source home) (asked_in v' source home)
  fronts source home ls lh = subst (λ l. IsFront l (asked_in v' source home)) before
      (subst (IsFront (asked_of w source home)) now (asked_front w later good good_later source home ls lh (grown source)))
    where
      before : asked_of w source home ≡ asked_in v source home
      before =
          let s : StandsAmong v n.all source = n.stand source ls in
          ap (λ k. asked_of w k home) (sym s.number) ∙ ap (λ (x : Node). get_or x.here.asked home []) (sym s.fits.site.node)

      now : asked_of later source home ≡ asked_in v' source home
      now =
          let s : StandsAmong v' (all_now a sound turned false) source = stand_now a sound turned false source ls in
          ap (λ k. asked_of later k home) (sym s.number) ∙ ap (λ (x : Node). get_or x.here.asked home []) (sym s.fits.site.node)

  there : (region : ℕ) (x : Stamped) → region < cluster.regions → Has (kept_by_region v region) x → planning.RegionsAre cluster.regions x.event
  there region x lr h =
      let kept : Has (those_at region n.all) x = subst (λ l. Has l x) (sym (waiting.kept_is a sound region) ∙ n.chronicle.lists region) h in
      let in_all : Has n.all x = (has_of_filtered _ n.all x kept).0 in
      let s : Spot n.all x = spot n.all x in_all in
      let l : AreLegal cluster workload (events_of s.front ++ x.event ∷ events_of s.rest) =
      subst (AreLegal cluster workload) (ap events_of s.is ∙ map-append (λ (y : Stamped). y.event) s.front (x ∷ s.rest)) n.chronicle.legal in
      named _ x.event (legal_append cluster workload (opening_world cluster workload) (events_of s.front) (x.event ∷ events_of s.rest) l).1.0

  abbrev ends : EndsInStep v v'
  ends = ends_in_step a sound g whole b

  -- what is new in a region, a packet brought that waited
  module _ (region : ℕ) (lr : region < cluster.regions) (p : Packet) (h : Has (waiting_at v region) p) where
    snapshot : waiting.IsSnapshot v region p
    snapshot = waiting.sent_by a sound lr p h

    from : StandsAmong v n.all snapshot.source
    from = n.stand snapshot.source snapshot.there

    told_in : IsToldIn cluster (suc step.made)
    told_in = not_lost v step.made snapshot.source region (step.links snapshot.source region snapshot.there lr snapshot.apart) p snapshot.waits

    source_is : p.source ≡ number_of (node_in v snapshot.source)
    source_is = ap (λ (q : Packet). q.source) snapshot.is

    told : IsToldOf w p
    told = (all_get (IsTruePacket cluster workload n.all) (waiting_at v region) (waiting.trues a sound lr) p h).told n.all [] (sym (append-nil n.all)) tt

    kept_is : those_at (number_of (node_in v snapshot.source)) n.all ≡ (node_in v snapshot.source).site.region.events
    kept_is = subst (λ q. those_at q n.all ≡ (node_in v snapshot.source).site.region.events) (sym from.number) (sym (n.chronicle.lists snapshot.source) ∙ waiting.kept_is a sound snapshot.source)

    before : kept_before v' (number_of (node_in v snapshot.source)) (suc step.made) ≡ (node_in v snapshot.source).site.region.events
    before = subst (λ q. kept_before v' q (suc step.made) ≡ (node_in v snapshot.source).site.region.events) (sym from.number)
        (planning.before_now step phase ends snapshot.source snapshot.there)

    asked_planned : (home source number stamp : ℕ) → home < cluster.regions → BringsRequest home source number stamp p → WasAskedBefore v' (suc step.made) source home number
    asked_planned home source number stamp lh r =
        let same : source ≡ number_of (node_in v snapshot.source) = sym r.from_source ∙ source_is in
        let front : IsFront (asked_in v snapshot.source home) (asked_in v' (number_of (node_in v snapshot.source)) home) =
        subst (λ q. IsFront (asked_in v snapshot.source home) (asked_in v' q home)) (sym from.number) (fronts snapshot.source home snapshot.there lh) in
        subst (λ q. WasAskedBefore v' (suc step.made) q home number) (sym same)
        (request_planned n.all from.fits kept_is v' p told source_is step.made before home number stamp lh (subst (λ q. BringsRequest home q number stamp p) same r) front)

    received_planned : (home first last stamp : ℕ) → BringsEntries region home first last stamp p → WerePlacedBefore v' (suc step.made) home last
    received_planned home first last stamp r =
        let same : home ≡ number_of (node_in v snapshot.source) = sym r.from_home ∙ source_is in
        subst (λ q. WerePlacedBefore v' (suc step.made) q last) (sym same)
        (entries_planned n.all from.fits kept_is v' p told source_is step.made before region first last stamp (subst (λ q. BringsEntries region q first last stamp p) same r))

  new_planned : (region : ℕ) (x : Stamped) → region < cluster.regions → Has (planning.new step phase ends region) x → IsPlannedIn v' (suc step.made) x.event
  new_planned region x lr h = by x.event refl mine brought
    where
      turn : MovesOn cluster.procs (waiting_at v region) (node_in v region) (node_in v' region)
      turn = phase.turns region lr

      mine : region_of x.event ≡ region
      mine = all_get (λ y. region_at y ≡ number_of (node_in v region)) _ turn.gone.mine x h ∙ (n.stand region lr).number

      brought : IsBroughtBy (waiting_at v region) x.stamp x.event
      brought = all_get (λ y. IsBroughtBy (waiting_at v region) y.stamp y.event) _ turn.brought.each x h

      by : (e : Event) → x.event ≡ e → region_of e ≡ region → IsBroughtBy (waiting_at v region) x.stamp e → IsPlannedIn v' (suc step.made) e
      by (Append home source number) is at r = λ apart.
          let f = any_get (BringsRequest home source number x.stamp) (waiting_at v region) (r apart) in
          (told_in region lr f.0 f.1, asked_planned region lr f.0 f.1 home source number x.stamp (subst (λ q. q < cluster.regions) (sym at) lr) f.2)
      by (Deliver q home first last) is at r = λ apart.
          let f = any_get (BringsEntries q home first last x.stamp) (waiting_at v region) (r apart) in
          (told_in region lr f.0 f.1, received_planned region lr f.0 f.1 home first last x.stamp (subst (λ k. BringsEntries k home first last x.stamp f.0) at f.2))
      by (Submit q name) is at r = tt
      by (Insert q home) is at r = tt
      by (Resolve q ids) is at r = tt
      by (Execute q id) is at r = tt
      by (Answer q name) is at r = tt

  -- before the first phase nothing was made
  nothing_made : step.made ≡ 0 → n.all ≡ []
  nothing_made first = no_item n.all (λ x h. empty x h)
    where
      empty : (x : Stamped) → Has n.all x → ⊥
      empty x h = by (either_le (suc (region_at x)) cluster.regions)
        where
          kept : Has (kept_at (kept_by v.nodes) (region_at x)) x
          kept = subst (λ l. Has l x) (sym (n.chronicle.lists (region_at x))) (has_filter (λ y. eqb (region_at y) (region_at x)) n.all x h (eq-eqb (region_at x) (region_at x) refl))

          by : Either (suc (region_at x) ≤ cluster.regions) → ⊥
          by (inl le) =
              let lr : region_at x < cluster.regions = omega (arith, le) in
              let last : mark_at v (region_at x) step.made ≡ length (kept_by_region v (region_at x)) = (step.each (region_at x) lr).marks.last in
              let zero_mark : mark_at v (region_at x) step.made ≡ 0 = ap (mark_at v (region_at x)) first in
              let here : Has (kept_by_region v (region_at x)) x = subst (λ l. Has l x) (waiting.kept_is a sound (region_at x)) kept in
              none_in_empty (kept_by_region v (region_at x)) x here (omega (arith, last, zero_mark))
          by (inr far) = subst (λ l. Has l x) (none_kept v.nodes (region_at x) (let m = n.many in omega (arith, far, m))) kept

  begun : (region : ℕ) → region < cluster.regions → Either (step.made ≡ 0) → BeganEagerly cluster workload region (kept_by_region v' region)
  begun region lr (inr later) =
      subst (BeganEagerly cluster workload region) (sym (phase.turns region lr).gone.grows)
      (subst (IsFront _) (sym (map-append (λ (x : Stamped). x.event) (kept_by_region v region) _)) (front_longer _ (events_of (kept_by_region v region)) _ ((step.each region lr).begun later)))
    where
      front_longer : {A : Type 0} (xs ys zs : List A) → IsFront xs ys → IsFront xs (ys ++ zs)
      front_longer xs ys zs f = (f.0 ++ zs, sym (append_assoc xs f.0 zs) ∙ ap (λ l. l ++ zs) f.1)
  begun region lr (inl first) =
      subst (BeganEagerly cluster workload region) (sym kept_now) (subst (λ q. IsFront (first_of q) (events_of (new_items (node_in v region) (node_in v' region)))) (n.stand region lr).number
      (begins.begins cluster workload refl (subst (λ l. NodeFits cluster workload (events_of l) (node_in v region)) (nothing_made first) (n.stand region lr).fits)))
    where
      first_of : ℕ → List Event
      first_of q = first_events cluster q (opening_table cluster) (first_calls (sessions_at q workload.sessions)) 0

      none : kept_by_region v region ≡ []
      none =
          let last : mark_at v region step.made ≡ length (kept_by_region v region) = (step.each region lr).marks.last in
          let zero_mark : mark_at v region step.made ≡ 0 = ap (mark_at v region) first in
          nil_from_length (kept_by_region v region) (omega (arith, last, zero_mark))

      kept_now : kept_by_region v' region ≡ new_items (node_in v region) (node_in v' region)
      kept_now = (phase.turns region lr).gone.grows ∙ ap (λ l. l ++ new_items (node_in v region) (node_in v' region)) none

      no_packet : waiting_at v region ≡ []
      no_packet = no_item (waiting_at v region) (λ p h. let s = waiting.sent_by a sound lr p h in
          nothing_waits s.source (step.links s.source region s.there lr s.apart) first p s.waits)
        where
          nothing_waits : (source : ℕ) → LinkTells v step.made source region → step.made ≡ 0 → (p : Packet) → Has (waiting_between v source region) p → ⊥
          nothing_waits source t e p h = absurd (subst (λ l. Has l p) (subst (λ m. LinkTells v m source region) e t) h)

      begins : BeginsEagerly cluster.procs (node_in v region) (node_in v' region)
      begins =
          subst (λ m. BeginsEagerly cluster.procs (node_in v region) m) (sym (node_now a sound g whole b region (waiting.seat_there a lr)))
          (subst (λ m. BeginsEagerly cluster.procs m (seat_at seats' region).node) (sym (waiting.node_is cluster workload seats broken region))
          ((whole region (waiting.seat_there a lr)).begins (sym (waiting.waiting_is cluster workload seats broken region) ∙ no_packet)))

  in_step_now : AreInStep v'
  in_step_now = record {
    made = suc step.made;
    each = λ region lr. record {
      turns = (ends.each region lr).turns ∙ ap (λ k. k + 1) (step.each region lr).turns ∙ (let e : step.made + 1 ≡ suc step.made = omega arith in e);
      marks = planning.marks_now step phase ends region lr;
      placed = (ends.each region lr).settled.placed (step.each region lr).placed;
      begun = λ _. begun region lr (either_nat step.made 0);
    };
    links = λ source target ls lt apart.
        let turns : (node_in v' source).turns ≡ suc step.made =
        (ends.each source ls).turns ∙ ap (λ k. k + 1) (step.each source ls).turns ∙ (let e : step.made + 1 ≡ suc step.made = omega arith in e) in
        subst (λ k. IsOnLink cluster k (packet_for (node_in v' source) target) (waiting_between v' source target)) turns (ends.links source target ls lt apart);
    planned = planning.planned_now step phase ends fronts step.planned there new_planned;
  }

  -- all that the type keeps
  pub phase_seated : AreSeated cluster workload seats'' false
  phase_seated = record { nodes = nodes_now a sound turned false (λ e. in_step_now); linked = λ e. beside_now a sound g whole b }
