-- The seats of a cluster's nodes, when their links are made, are as the type of the nodes keeps them.
use Rattle.std.proofs.Common.{◌≡◌, ◌<◌, ◌≤◌, ◌+◌, ◌-◌, ◌^◌, ℕ, zero, suc, true, false, Bool, List, [], ◌∷◌, length, map, filter, get_or, replicate}
use Rattle.std.proofs.Common.{cond, eqb, refl, sym, ap, ap₂, subst, ◌∙◌, arith}
use Rattle.std.specs.List.{range_with_len}
use Rattle.std.specs.Ordering.{nat_cmp, is_lt}
use Rattle.std.specs.Cmp.Lexicographic.{slice_cmp}
use Rattle.std.proofs.lemmas.List.{length-map, length-replicate}
use Rattle.std.proofs.lemmas.List.FromFn.{get_or-map-range_with_len, length-map-range_with_len}
use Rattle.std.proofs.lemmas.List.Sums.{length-filter}
use Rattle.dt_lists.specs.Lists.{AllIn}
use Rattle.dt_lists.proofs.Callers.{get_of_replicate}
use Rattle.dt_region.specs.Sound.{IsSoundRegion}
use Rattle.dt_region.specs.Rules.{opening_state}
use Rattle.dt_cluster.specs.Valid.{IsValidCluster}
use Rattle.dt_cluster.specs.declared.Cluster.{Cluster}
use Rattle.dt_workload.specs.Valid.{IsValidWorkload, session_count_at}
use Rattle.dt_workload.specs.declared.Session.{Session}
use Rattle.dt_workload.specs.declared.Workload.{Workload}
use Rattle.dt_session.specs.Eager.{sessions_at, with_session}
use Rattle.dt_session.specs.Sessions.{idle_seat}
use Rattle.dt_session.specs.World.{opening_table, opening_world}
use Rattle.dt_site.proofs.Callers.{opening_sessions_stand, opening_stands}
use Rattle.dt_merge.specs.Merge.{kept_at}
use Rattle.dt_node.specs.NodeView.{NodeView, opening_node_of}
use Rattle.dt_node.specs.NodeInWorld.{KnowsNoMore, NodeFits}
use Rattle.dt_run.specs.NodesStand.{AreNodes}
use Rattle.dt_run.specs.NodesView.{kept_by, no_running_node, opening_nodes}
use Rattle.dt_run.specs.SeatsInner.{AreBeside, AreLinkedBy, AreNew, AreSeated, SeatView, new_seat, no_seat, nodes_view, seat_at, waits_in}
use Rattle.dt_run.proofs.FinishedRun.{all_seats, each_seat}
use Rattle.dt_run.proofs.NewLinks.{HasEmptyLinks}
use Rattle.dt_run.proofs.NextSeat.{HasSoundRegion}
use Rattle.dt_run.proofs.PhaseOfTurns.{put_back, put_back_is}
use Rattle.dt_run.proofs.OpeningNodes.{AreOpening, opening_nodes_stand}

-- sessions at a region are few

with_one : (s : Session) (sessions : List Session) → length (with_session s sessions) ≡ length sessions + 1
with_one s [] = refl
with_one s (t ∷ sessions) = go (is_lt (slice_cmp nat_cmp s.name t.name)) (with_one s sessions)
  where
    go : (b : Bool) → length (with_session s sessions) ≡ length sessions + 1 → length (cond b (s ∷ t ∷ sessions) (t ∷ with_session s sessions)) ≡ length (t ∷ sessions) + 1
    go true e = omega arith
    go false e = omega (arith, e)

many_at : (region : ℕ) (sessions : List Session) → length (sessions_at region sessions) ≡ length (filter (λ (s : Session). eqb s.region region) sessions)
many_at region [] = refl
many_at region (s ∷ sessions) = go (eqb s.region region) (many_at region sessions)
  where
    go : (b : Bool) → length (sessions_at region sessions) ≡ length (filter (λ (t : Session). eqb t.region region) sessions)
        → length (cond b (with_session s (sessions_at region sessions)) (sessions_at region sessions))
        ≡ length (cond b (s ∷ filter (λ (t : Session). eqb t.region region) sessions) (filter (λ (t : Session). eqb t.region region) sessions))
    go true e = let one : length (with_session s (sessions_at region sessions)) ≡ length (sessions_at region sessions) + 1 = with_one s (sessions_at region sessions) in omega (arith, one, e)
    go false e = e

-- lists of the same

same_each : {A B : Type 0} (f : A → B) (y : B) (xs : List A) → AllIn (λ x. f x ≡ y) xs → map f xs ≡ replicate (length xs) y
same_each f y [] a = refl
same_each f y (x ∷ xs) a = ap₂ ◌∷◌ a.0 (same_each f y xs a.1)

none_at_all : {A : Type 0} (n m k i : ℕ) → ◌≡◌ {A = List A} (get_or (get_or (replicate n (replicate m [])) k []) i []) []
none_at_all zero m k i = refl
none_at_all (suc n) m zero i = get_of_replicate m i []
none_at_all (suc n) m (suc k) i = none_at_all n m k i

module _ {cluster : Cluster} (ok : IsValidCluster cluster) {workload : Workload} (fits : IsValidWorkload cluster workload)
    (sound : (region : ℕ) → region < cluster.regions → IsSoundRegion (opening_state region cluster.regions (opening_table cluster))) where
  abbrev opened : ℕ → NodeView
  opened = opening_node_of cluster workload

  few : (region : ℕ) → length (opened region).sessions.seats < 2 ^ 32
  few region =
      let a : length (map idle_seat seated) ≡ length seated = length-map seated idle_seat in
      let b : length seated ≡ session_count_at region workload.sessions = many_at region workload.sessions ∙ length-filter (λ (s : Session). eqb s.region region) workload.sessions in
      let c : session_count_at region workload.sessions ≤ 64 = fits.few_sessions region in
      omega (arith, a, b, c)
    where
      seated : List Session
      seated = sessions_at region workload.sessions

  knows : (region other : ℕ) → KnowsNoMore (opening_world cluster workload) (opened region) other
  knows region other = record {
    took = let z = get_of_replicate {A = ℕ} cluster.regions other 0 in omega (arith, z);
    received = let z = get_of_replicate {A = ℕ} cluster.regions other 0 in omega (arith, z);
  }

  opening_fits : (region : ℕ) → region < cluster.regions → NodeFits cluster workload [] (opened region)
  opening_fits region lr = record {
    run = record { sound = ok; fits = fits; legal = tt };
    changing = tt;
    number = lr;
    site = opening_stands cluster workload region lr (sound region lr);
    sessions = opening_sessions_stand cluster workload region fits.names_once;
    few = few region;
    took = length-replicate cluster.regions 0;
    received = length-replicate cluster.regions 0;
    knows = λ other n. knows region other;
  }

  none_kept : (a n region : ℕ) → kept_at (kept_by (map opened (range_with_len a n))) region ≡ []
  none_kept a zero region = refl
  none_kept a (suc n) zero = refl
  none_kept a (suc n) (suc region) = none_kept (a + 1) n region

  opening : AreOpening (opening_nodes cluster workload)
  opening = record {
    cluster = ok;
    workload = fits;
    many = length-map-range_with_len opened 0 cluster.regions;
    kept = none_kept 0 cluster.regions;
    nodes = λ region lr. get_or-map-range_with_len opened 0 cluster.regions region region no_running_node lr (omega arith);
    stand = opening_fits;
    waiting = λ source target. none_at_all cluster.regions (cluster.regions - 1) target _;
    marks = λ region. get_of_replicate cluster.regions region [];
  }

  pub opening_are_nodes : AreNodes (opening_nodes cluster workload)
  opening_are_nodes = opening_nodes_stand opening

  -- nodes at their seats, on whose links nothing waits
  module _ {seats : List SeatView} (nodes_are : map (λ (s : SeatView). s.node) seats ≡ map opened (range_with_len 0 cluster.regions)) (unmarked : AllIn (λ s. s.marks ≡ []) seats)
      (linked : AreLinkedBy AreBeside seats) (empty : AllIn HasEmptyLinks seats) where
    many : length seats ≡ cluster.regions
    many = sym (length-map seats (λ (s : SeatView). s.node)) ∙ ap length nodes_are ∙ length-map-range_with_len opened 0 cluster.regions

    marks_are : map (λ (s : SeatView). s.marks) seats ≡ replicate cluster.regions []
    marks_are = same_each (λ (s : SeatView). s.marks) [] seats unmarked ∙ ap (λ n. replicate n []) many

    no_waits : (region : ℕ) → region < length seats → map waits_in (seat_at seats region).ins ≡ replicate (cluster.regions - 1) []
    no_waits region lt =
        let ends : length (seat_at seats region).ins + 1 ≡ length seats = linked.ends.ins region lt in
        let links : length (seat_at seats region).ins ≡ cluster.regions - 1 = omega (arith, ends, many) in
        same_each waits_in [] (seat_at seats region).ins (each_seat HasEmptyLinks seats empty region lt) ∙ ap (λ n. replicate n []) links

    waits_are : map (λ (s : SeatView). map waits_in s.ins) seats ≡ replicate cluster.regions (replicate (cluster.regions - 1) [])
    waits_are =
        same_each (λ (s : SeatView). map waits_in s.ins) (replicate (cluster.regions - 1) []) seats
        (all_seats (λ s. map waits_in s.ins ≡ replicate (cluster.regions - 1) []) seats no_waits)
        ∙ ap (λ n. replicate n (replicate (cluster.regions - 1) [])) many

    pub opening_is : nodes_view cluster workload seats false ≡ opening_nodes cluster workload
    opening_is = λ j. record { cluster = cluster; workload = workload; nodes = nodes_are j; waiting = waits_are j; marks = marks_are j; broken = false }

    pub opening_seated : AreSeated cluster workload seats false
    opening_seated = record { nodes = subst AreNodes (sym opening_is) opening_are_nodes; linked = λ e. linked }

-- seats before their links are made, and those of them when they are

pub new_seats : (f : ℕ → NodeView) (xs : List ℕ) → AreNew (map (λ x. new_seat (f x)) xs)
new_seats f [] = tt
new_seats f (x ∷ xs) = (refl, new_seats f xs)

same_nodes : (seats : List SeatView) → map (λ (s : SeatView). s.node) (map (λ (s : SeatView). new_seat s.node) seats) ≡ map (λ (s : SeatView). s.node) seats
same_nodes [] = refl
same_nodes (s ∷ seats) = ap (λ l. s.node ∷ l) (same_nodes seats)

nodes_of_new : (f : ℕ → NodeView) (xs : List ℕ) → map (λ (s : SeatView). s.node) (map (λ x. new_seat (f x)) xs) ≡ map f xs
nodes_of_new f [] = refl
nodes_of_new f (x ∷ xs) = ap (λ l. f x ∷ l) (nodes_of_new f xs)

-- the seats that were made for the nodes of a cluster, in a list of this length
pub record AreSeatsMade (cluster : Cluster) (workload : Workload) (given : List SeatView) (len : ℕ) : Type 0 where
  pub valid : IsValidCluster cluster
  pub fits : IsValidWorkload cluster workload
  pub new : given ≡ map (λ region. new_seat (opening_node_of cluster workload region)) (range_with_len 0 cluster.regions)
  pub sound : AllIn HasSoundRegion given
  pub full : len ≡ length given

-- these seats are those, linked to each other, with nothing on the links
pub record AreSeatsLinked (given seats : List SeatView) : Type 0 where
  pub bare : map (λ (s : SeatView). new_seat s.node) seats ≡ given
  pub unmarked : AllIn (λ s. s.marks ≡ []) seats
  pub linked : AreLinkedBy AreBeside seats
  pub empty : AllIn HasEmptyLinks seats

module _ {cluster : Cluster} {workload : Workload} {given : List SeatView} {len : ℕ} (made : AreSeatsMade cluster workload given len) where
  abbrev opened_seats : ℕ → SeatView
  opened_seats region = new_seat (opening_node_of cluster workload region)

  pub lent_new : {lent : List SeatView} → lent ≡ given → AreNew lent
  lent_new lent_is = subst AreNew (sym (lent_is ∙ made.new)) (new_seats (opening_node_of cluster workload) (range_with_len 0 cluster.regions))

  sound_at : (region : ℕ) → region < cluster.regions → IsSoundRegion (opening_state region cluster.regions (opening_table cluster))
  sound_at region lr =
      let all : AllIn HasSoundRegion (map opened_seats (range_with_len 0 cluster.regions)) = subst (AllIn HasSoundRegion) made.new made.sound in
      let within : region < length (map opened_seats (range_with_len 0 cluster.regions)) = subst (λ m. region < m) (sym (length-map-range_with_len opened_seats 0 cluster.regions)) lr in
      subst HasSoundRegion (get_or-map-range_with_len opened_seats 0 cluster.regions region region no_seat lr (omega arith))
      (each_seat HasSoundRegion (map opened_seats (range_with_len 0 cluster.regions)) all region within)

  module _ {seats : List SeatView} (linked : AreSeatsLinked given seats) where
    nodes_same : map (λ (s : SeatView). s.node) seats ≡ map (opening_node_of cluster workload) (range_with_len 0 cluster.regions)
    nodes_same =
        sym (same_nodes seats) ∙ ap (map (λ (s : SeatView). s.node)) (linked.bare ∙ made.new)
        ∙ nodes_of_new (opening_node_of cluster workload) (range_with_len 0 cluster.regions)

    back : put_back len given seats ≡ seats
    back = put_back_is len given seats made.full (sym (length-map seats (λ (s : SeatView). new_seat s.node)) ∙ ap length linked.bare)

    pub opened_is : nodes_view cluster workload (put_back len given seats) false ≡ opening_nodes cluster workload
    opened_is = (λ i. nodes_view cluster workload (back i) false) ∙ opening_is made.valid made.fits sound_at nodes_same linked.unmarked linked.linked linked.empty

    pub opened_seated : AreSeated cluster workload (put_back len given seats) false
    opened_seated = subst (λ l. AreSeated cluster workload l false) (sym back) (opening_seated made.valid made.fits sound_at nodes_same linked.unmarked linked.linked linked.empty)
