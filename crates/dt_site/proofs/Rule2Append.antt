-- Rule 2: a home places a request of a region. The transaction is that which the world asks for there, wherever it comes
-- from: another site, or a packet.
use Rattle.std.proofs.Common.{eq-eqb, eqb-true, ◌≡◌, ◌≢◌, ◌<◌, ◌≤◌, ◌+◌, ℕ, Bool, true, false, cond, eqb, List, [], ◌∷◌, ◌++◌, length, map, set, take, slice_get, Ok}
use Rattle.std.proofs.Common.{Some, refl, sym, ap, ap₂, subst, ◌∙◌, inl, inr, arith}
use Rattle.std.specs.Prelude.{option_and_then}
use Rattle.std.proofs.lemmas.Bool.{false_from_ne_true}
use Rattle.std.proofs.lemmas.List.{map-set, map_push, get_or-set_same, get_or-set_other, set-get_or, set-set}
use Rattle.std.proofs.Math.Seq.{take-length}
use Rattle.std.proofs.lemmas.Option.{slice_get_within}
use Rattle.dt_lists.specs.Lists.{AllIn, Has, Distinct}
use Rattle.dt_lists.proofs.Callers.{each_across, any_image, has_place}
use Rattle.dt_region.proofs.Callers.{fronts_few}
use Rattle.dt_access.specs.declared.TxnId.{TxnId}
use Rattle.dt_access.specs.declared.Part.{Part}
use Rattle.dt_sched.specs.Views.{View, HasPart, IsWellFormed, ids_of, log_at}
use Rattle.dt_sched.specs.Sched.{parts_in, with_part}
use Rattle.dt_events.specs.declared.Event.TheVariants.{Append}
use Rattle.dt_txn.specs.declared.Txn.{Txn}
use Rattle.dt_txn.specs.Transaction.{homes_of, part_of, IsValid}
use Rattle.dt_txn.specs.Replica.{after_taking, fronts, taken_from}
use Rattle.dt_region.specs.Region.{RegionView, held, latest_stamp}
use Rattle.dt_region.specs.Rules.{MakesAppend, after_append, with_event}
use Rattle.dt_region.specs.Conditions.{CanAppend}
use Rattle.dt_region.specs.Sound.{IsSoundRegion}
use Rattle.dt_region.proofs.Callers.{kept_more, latest_more}
use Rattle.dt_events.specs.Stamps.{events_of}
use Rattle.dt_cluster.specs.declared.Cluster.{Cluster}
use Rattle.dt_workload.specs.declared.Workload.{Workload}
use Rattle.dt_session.specs.World.{World, Node, asked_of, log_of, logs_of, no_node, node_at, received_lengths, received_logs, received_of, taken_of, txn_of}
use Rattle.dt_session.specs.Step.{IsLegal, next, placed}
use Rattle.dt_txn.proofs.Callers.{fronts_grown}
use Rattle.dt_agreement.proofs.Callers.{IsRequest, request_is, logs_placed, placed_well_formed, received_within, log_is, logs_length}
use Rattle.dt_site.specs.Site.{SiteView, in_region, node_of}
use Rattle.dt_site.specs.StandsIn.{IsReached, StandsIn}
use Rattle.dt_site.proofs.AskedRequests.{AsksFor}
use Rattle.dt_site.proofs.Lists.{fronts_set, held_more, parts_set}
use Rattle.dt_site.proofs.SitesInWorlds.{Steps, inv, node_then, own_log, own_of, txns_stay, valid_txn}

module _ {cluster : Cluster} {workload : Workload} {w : World} (k : IsReached cluster workload w) {home : ℕ} (lh : home < cluster.regions) {p : SiteView} (s : StandsIn cluster.regions w home p)
    {source : ℕ} (ls : source < cluster.regions) {number : ℕ} {txn : Txn} (asks : AsksFor w source home number txn) where
  pub append_legal : IsLegal cluster workload w (Append home source number)
  append_legal = record { regions = (lh, ls); allowed = slice_get_within (asked_of w source home) number txn.id asks.wants }

  request : IsRequest w home source txn.id
  request = request_is (inv k) home source lh ls txn.id (has_place (asked_of w source home) number txn.id asks.wants)

  taken_is : taken_of w home source ≡ taken_from p.region.state.here source
  taken_is = ap (λ n. taken_from n.here source) (sym s.node)

  same_txn : request.submission.txn ≡ txn
  same_txn = let both : Some request.submission.txn ≡ Some txn = sym request.found ∙ asks.found in cc

  home_in : Has (homes_of txn) home
  home_in = subst (λ t. Has (homes_of t) home) same_txn request.home_in

  valid : IsValid cluster.procs cluster.version cluster.regions txn
  valid = valid_txn k txn.id txn asks.found

  -- the world after the append, by whether it is the request's turn
  abbrev placed_if : Bool → World
  placed_if turn = cond turn (placed w home source (option_and_then (txn_of w) (slice_get (asked_of w source home) number))) w

  -- a request that is not the next one changes nothing
  pub append_still : number ≢ taken_from p.region.state.here source → next cluster workload w (Append home source number) ≡ w
  append_still other =
      let no : eqb number (taken_of w home source) ≡ false =
      false_from_ne_true (eqb number (taken_of w home source)) (λ t. other (eqb-true number (taken_of w home source) t ∙ taken_is)) in
      ap placed_if no

  -- where it is the next request

  module _ (turn : number ≡ taken_from p.region.state.here source) where
    next_one : slice_get (asked_of w source home) (taken_of w home source) ≡ Some txn.id
    next_one = subst (λ n. slice_get (asked_of w source home) n ≡ Some txn.id) (turn ∙ sym taken_is) asks.wants

    pub is_turn : eqb number (taken_of w home source) ≡ true
    is_turn = eq-eqb number (taken_of w home source) (turn ∙ sym taken_is)

    placed_is : next cluster workload w (Append home source number) ≡ placed w home source (Some txn)
    placed_is =
        let one : option_and_then (txn_of w) (slice_get (asked_of w source home) number) ≡ Some txn = ap (option_and_then (txn_of w)) asks.wants ∙ asks.found in
        ap placed_if is_turn ∙ ap (placed w home source) one

    -- the home's log then, and all logs

    abbrev log_then : List Part
    log_then = log_at (logs_of w) home ++ part_of txn home ∷ []

    abbrev node_now : Node
    node_now = record (node_at w home) { log = log_of w home ++ part_of txn home ∷ []; here = after_taking (node_at w home).here source }

    logs_now : logs_of (placed w home source (Some txn)) ≡ set (logs_of w) home log_then
    logs_now = logs_placed (inv k) home source lh ls txn next_one request asks.found

    own : log_at p.region.state.logs home ≡ log_at (logs_of w) home
    own = own_log k s ∙ sym (log_is w home)

    lengths_fit : home < length (node_at w home).received
    lengths_fit = subst (λ n. home < n) (sym ((inv k).sized home lh).received) lh

    node_new : node_at (placed w home source (Some txn)) home ≡ node_now
    node_new = get_or-set_same w.nodes home node_now no_node (subst (λ n. home < n) (sym (inv k).nodes) lh)

    -- the logs of the home after the event, by both accounts

    received_before : p.region.state.logs ≡ set (fronts (node_at w home).received (logs_of w)) home (take (length (log_of w home)) (log_at (logs_of w) home))
    received_before =
        s.logs
        ∙ ap (fronts (set (node_at w home).received home (length (log_of w home)))) (sym (set-get_or (logs_of w) home []))
        ∙ fronts_set (node_at w home).received (logs_of w) home (length (log_of w home)) (log_at (logs_of w) home) lengths_fit

    received_new : received_logs (placed w home source (Some txn)) home ≡ set p.region.state.logs home log_then
    received_new =
        let log_there : log_of (placed w home source (Some txn)) home ≡ log_then = ap (λ n. n.log) node_new ∙ ap (λ l. l ++ part_of txn home ∷ []) (sym (log_is w home)) in
        ap₂ (λ a b. fronts (set a home (length b)) (logs_of (placed w home source (Some txn)))) (ap (λ n. n.received) node_new) log_there
        ∙ ap (fronts (set (node_at w home).received home (length log_then))) logs_now
        ∙ fronts_set (node_at w home).received (logs_of w) home (length log_then) log_then lengths_fit
        ∙ ap (set (fronts (node_at w home).received (logs_of w)) home) (take-length log_then)
        ∙ sym (set-set (fronts (node_at w home).received (logs_of w)) home (take (length (log_of w home)) (log_at (logs_of w) home)) log_then)
        ∙ ap (λ l. set l home log_then) (sym received_before)

    logs_of_home : with_part p.region.state.logs (part_of txn p.region.state.number) ≡ received_logs (placed w home source (Some txn)) home
    logs_of_home =
        ap (λ h. with_part p.region.state.logs (part_of txn h)) s.number
        ∙ ap (λ l. set p.region.state.logs home (l ++ part_of txn home ∷ [])) own
        ∙ sym received_new

    few : parts_in (with_part p.region.state.logs (part_of txn p.region.state.number)) ≤ parts_in (logs_of w) + 1
    few =
        let later : View = logs_of (placed w home source (Some txn)) in
        let a : parts_in (fronts (received_lengths (placed w home source (Some txn)) home) later) ≤ parts_in later = fronts_few (received_lengths (placed w home source (Some txn)) home) later in
        let b : parts_in later ≤ parts_in (logs_of w) + 1 = subst (λ l. parts_in l ≤ parts_in (logs_of w) + 1) (sym logs_now) (parts_set (logs_of w) home (part_of txn home)) in
        subst (λ l. parts_in l ≤ parts_in (logs_of w) + 1) (sym logs_of_home) (omega (arith, a, b))

    -- the id is not in the log yet
    fresh : ¬ (HasPart (log_at p.region.state.logs p.region.state.number) txn.id)
    fresh h =
        let formed : IsWellFormed (logs_of (placed w home source (Some txn))) = placed_well_formed (inv k) home source lh ls txn next_one request asks.found in
        let fits : home < length (logs_of w) = subst (λ n. home < n) (sym (logs_length w ∙ (inv k).nodes)) lh in
        let log_there : log_at (logs_of (placed w home source (Some txn))) home ≡ log_then = ap (λ l. log_at l home) logs_now ∙ get_or-set_same (logs_of w) home log_then [] fits in
        let once : Distinct (ids_of (log_at (logs_of w) home) ++ txn.id ∷ []) =
        subst Distinct (map_push (λ p. p.id) (log_at (logs_of w) home) (part_of txn home)) (subst (λ l. Distinct (ids_of l)) log_there (formed.once home)) in
        let old : HasPart (log_at (logs_of w) home) txn.id = subst (λ l. HasPart l txn.id) (ap (log_at p.region.state.logs) s.number ∙ own) h in
        each_across (λ a b. ¬ (a ≡ b)) (ids_of (log_at (logs_of w) home)) (txn.id ∷ []) txn.id txn.id once
        (any_image (λ y. y ≡ txn.id) (λ p. p.id) (log_at (logs_of w) home) old) (inl refl) refl

    -- the home after the event

    module _ (r : RegionView) (is : r ≡ with_event p.region (after_append p.region.state source txn) (Append p.region.state.number source number)) (sound : IsSoundRegion r.state) where
      node_made : node_of (in_region p r) ≡ node_now
      node_made =
          let here : ℕ = p.region.state.number in
          let log_here : List Part = log_at p.region.state.logs here in
          let fits : here < length p.region.state.logs = subst (λ n. here < n) (sym s.sound.logs) s.sound.number in
          let log_is_now : log_at (with_part p.region.state.logs (part_of txn here)) here ≡ log_here ++ part_of txn home ∷ [] =
          get_or-set_same p.region.state.logs here (log_here ++ part_of txn here ∷ []) [] fits ∙ ap (λ h. log_here ++ part_of txn h ∷ []) s.number in
          let received_is : set (map length (with_part p.region.state.logs (part_of txn here))) here 0 ≡ set (map length p.region.state.logs) here 0 =
          ap (λ l. set l here 0) (map-set length p.region.state.logs here (log_here ++ part_of txn here ∷ []))
          ∙ set-set (map length p.region.state.logs) here (length (log_here ++ part_of txn here ∷ [])) 0 in
          ap (λ x. node_of (in_region p x)) is
          ∙ ap₂ (λ (a : List Part) (b : List ℕ). record (node_of p) { log = a; received = b; here = after_taking p.region.state.here source }) log_is_now received_is
          ∙ ap (λ (n : Node). record n { log = n.log ++ part_of txn home ∷ []; here = after_taking n.here source }) s.node

      next_is : next cluster workload w (Append home source number) ≡ record { nodes = set w.nodes home (node_of (in_region p r)); places = w.places }
      next_is = placed_is ∙ ap (λ n. record { nodes = set w.nodes home n; places = w.places }) (sym node_made)

      others : (q : ℕ) → q ≢ home → q < cluster.regions → received_logs (next cluster workload w (Append home source number)) q ≡ received_logs w q
      others q n lq =
          let node_q : node_at (placed w home source (Some txn)) q ≡ node_at w q = get_or-set_other w.nodes home q node_now no_node n in
          let within : received_of w q home ≤ length (log_at (logs_of w) home) = subst (λ l. received_of w q home ≤ length l) (sym (log_is w home)) (received_within (inv k) q home lq lh) in
          ap (λ v. received_logs v q) placed_is
          ∙ ap (λ x. fronts (set x.received q (length x.log)) (logs_of (placed w home source (Some txn)))) node_q
          ∙ ap (fronts (received_lengths w q)) logs_now
          ∙ fronts_grown (received_lengths w q) (logs_of w) home (part_of txn home ∷ []) within

      known_now : (x : TxnId) (u : Txn) → held r.state x ≡ Some u → txn_of w x ≡ Some u
      known_now x u h = elim (held_more p.region.state.submitted p.region.state.foreign txn x u (subst (λ v. held v.state x ≡ Some u) is h)) [
        | inl o ↦ s.known x u o
        | inr e ↦ subst (λ y. txn_of w y ≡ Some u) e.1 (subst (λ t. txn_of w txn.id ≡ Some t) e.0 asks.found)
      ]

      append_steps : Steps cluster workload w (Append home source number) home p (in_region p r) w.places
      append_steps = record {
        legal = append_legal;
        is = next_is;
        stands = record {
          number = ap (λ x. x.state.number) is ∙ s.number;
          many = ap (λ x. x.state.regions) is ∙ s.many;
          sound = sound;
          logs = ap (λ x. x.state.logs) is ∙ logs_of_home ∙ sym (ap (λ v. received_logs v home) placed_is);
          origins = s.origins ∙ sym (ap (λ x. length x.state.submitted) is);
          known = λ x u h. txns_stay k (Append home source number) append_legal x u (known_now x u h);
          node = node_then k (Append home source number) (in_region p r) lh next_is;
        };
        others = others;
        kept =
            ap (λ x. events_of x.events) is ∙ kept_more p.region p.region.state (Append p.region.state.number source number)
            ∙ ap (λ n. events_of p.region.events ++ Append n source number ∷ []) s.number;
        stamp = ap latest_stamp is ∙ latest_more p.region p.region.state (Append p.region.state.number source number);
      }

  -- what the home may be given
  pub can_append : parts_in (logs_of w) + 1 < 4294967296 → CanAppend p.region.state source number txn
  can_append short = record {
    home = subst (Has (homes_of txn)) (sym s.number) home_in;
    agrees = record {
      homes = subst (λ n. AllIn (λ h. h < n) (homes_of txn)) (sym s.many) valid.homes;
      same = λ other h. let both : Some other ≡ Some txn = sym (s.known txn.id other h) ∙ asks.found in cc;
      own = λ e. own_of k s txn asks.found e;
    };
    fresh = λ turn. fresh turn;
    few = λ turn. let a : parts_in (with_part p.region.state.logs (part_of txn p.region.state.number)) ≤ parts_in (logs_of w) + 1 = few turn in omega arith;
  }

  pub append_made : (r : RegionView) → MakesAppend p.region source number txn (Ok true) r → IsSoundRegion r.state → Steps cluster workload w (Append home source number) home p (in_region p r) w.places
  append_made r m sound = append_steps m.0 r m.1 sound
