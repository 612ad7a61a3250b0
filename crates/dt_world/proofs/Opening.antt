-- The world before anything happens.
use Rattle.std.proofs.Common.{◌≡◌, ◌<◌, ◌≤◌, ◌+◌, ℕ, zero, suc, List, [], ◌∷◌, ◌++◌, length, map, replicate, refl, sym, ap, ap₂, subst, ◌∙◌, arith}
use Rattle.std.specs.List.{range_with_len}
use Rattle.std.proofs.lemmas.List.FromFn.{get_or-map-range_with_len, length-map-range_with_len, map-range_with_len_more}
use Rattle.dt_lists.specs.Lists.{AllIn}
use Rattle.dt_lists.proofs.Callers.{all_get as all_in, all_or}
use Rattle.std.proofs.lemmas.List.{length-map}
use Rattle.dt_session.specs.Sessions.{SessionsView, all_idle}
use Rattle.dt_site.specs.SessionsStandIn.{SessionsStandIn, no_sessions}
use Rattle.dt_events.specs.declared.Event.{Event}
use Rattle.dt_table.specs.Table.{Table}
use Rattle.dt_region.specs.Region.{latest_stamp}
use Rattle.dt_region.specs.Sound.{IsSoundRegion}
use Rattle.dt_cluster.specs.declared.Cluster.{Cluster}
use Rattle.dt_cluster.specs.Valid.{IsValidCluster}
use Rattle.dt_workload.specs.declared.Workload.{Workload}
use Rattle.dt_workload.specs.Valid.{IsValidSession, IsValidWorkload}
use Rattle.dt_session.specs.World.{Node, idle_place, opening_node, opening_table, opening_world}
use Rattle.dt_site.specs.Site.{SiteView, no_site, node_of, opening_site}
use Rattle.dt_site.specs.StandsIn.{StandsIn}
use Rattle.dt_site.proofs.Callers.{opening_node_is, opening_sessions_stand, opening_stands, places_are}
use Rattle.dt_world.specs.WorldSessions.{WorldSessions, opening_sessions, places_in}
use Rattle.dt_world.specs.WorldInner.{IsLawful, kept_in, opening_sites, sessions_of, site_at, view_in, world_of}
use Rattle.dt_world.specs.WorldView.{opening_view}

-- the site of the region of this number before anything happens
abbrev opened : Cluster → ℕ → SiteView
opened cluster number = opening_site number cluster.regions (opening_table cluster)

-- one more site is opened
pub opened_more : (cluster : Cluster) (n : ℕ) (items new : List SiteView) (p : SiteView)
    → items ≡ map (opened cluster) (range_with_len 0 n)
    → p ≡ opened cluster n → new ≡ items ++ p ∷ []
    → new ≡ map (opened cluster) (range_with_len 0 (n + 1))
opened_more cluster n items new p before is now =
    now ∙ ap₂ (λ l x. l ++ x ∷ []) before is
    ∙ sym (map-range_with_len_more (opened cluster) 0 n n (omega arith))

all_nodes : (regions : ℕ) (t : Table) (a n : ℕ) → map node_of (map (λ number. opening_site number regions t) (range_with_len a n)) ≡ replicate n (opening_node regions t)
all_nodes regions t a zero = refl
all_nodes regions t a (suc n) = ap₂ (λ (x : Node) l. x ∷ l) (opening_node_is a regions t) (all_nodes regions t (a + 1) n)

no_events : (regions : ℕ) (t : Table) (a n : ℕ) → map kept_in (map (λ number. opening_site number regions t) (range_with_len a n)) ≡ replicate n []
no_events regions t a zero = refl
no_events regions t a (suc n) = ap (λ (l : List (List Event)). [] ∷ l) (no_events regions t (a + 1) n)

-- one region's sessions more are opened
pub sessions_more : (cluster : Cluster) (workload : Workload) (n : ℕ) (items new : List SessionsView) (s : SessionsView)
    → items ≡ map (λ region. all_idle cluster.tries region workload) (range_with_len 0 n) → s ≡ all_idle cluster.tries n workload → new ≡ items ++ s ∷ []
    → new ≡ map (λ region. all_idle cluster.tries region workload) (range_with_len 0 (n + 1))
sessions_more cluster workload n items new s before is now =
    now ∙ ap₂ (λ l x. l ++ x ∷ []) before is ∙ sym (map-range_with_len_more (λ region. all_idle cluster.tries region workload) 0 n n (omega arith))

-- the workload with the sessions of all regions before their first calls
abbrev idle : Cluster → Workload → WorldSessions
idle cluster workload = record { workload = workload; by_region = opening_sessions cluster workload }

module _ (cluster : Cluster) (workload : Workload) (fits : IsValidWorkload cluster workload) where
  -- the sessions of a region stand in the opening world
  abbrev StandFirst : ℕ → SessionsView → Type 0
  StandFirst = SessionsStandIn cluster workload (opening_world cluster workload)

  opened_at : (region : ℕ) → region < cluster.regions → StandFirst region (sessions_of (opening_sessions cluster workload) region)
  opened_at region lr = subst (StandFirst region)
      (sym (get_or-map-range_with_len (λ r. all_idle cluster.tries r workload) 0 cluster.regions region region no_sessions lr (omega arith)))
      (opening_sessions_stand cluster workload region fits.names_once)

  idle_places : places_in (idle cluster workload) ≡ (opening_world cluster workload).places
  idle_places = places_are fits.names_once (λ t h. (all_in (IsValidSession cluster) workload.sessions fits.sessions t h).region)
      (length-map workload.sessions (λ s. idle_place)) (opening_sessions cluster workload) opened_at

  begun : world_of (opening_sites cluster) (places_in (idle cluster workload)) ≡ opening_world cluster workload
  begun = ap₂ (λ l p. record { nodes = l; places = p }) (all_nodes cluster.regions (opening_table cluster) 0 cluster.regions) idle_places

  begun_lawful : IsValidCluster cluster → AllIn (λ (p : SiteView). IsSoundRegion p.region.state) (opening_sites cluster) → IsLawful cluster (idle cluster workload) (opening_sites cluster) 0
  begun_lawful valid sound = record {
    reached = record { events = []; run = record { sound = valid; fits = fits; legal = tt }; after = begun };
    many = refl;
    stands = λ region lr.
        let opened : ℕ → SiteView = λ number. opening_site number cluster.regions (opening_table cluster) in
        let is : site_at (opening_sites cluster) region ≡ opened region = get_or-map-range_with_len opened 0 cluster.regions region region no_site lr (omega arith) in
        let within : region < length (opening_sites cluster) = subst (λ n. region < n) (sym (length-map-range_with_len opened 0 cluster.regions)) lr in
        let s : IsSoundRegion (site_at (opening_sites cluster) region).region.state = all_or (λ (p : SiteView). IsSoundRegion p.region.state) (opening_sites cluster) region no_site sound within in
        subst (λ w. StandsIn cluster.regions w region (site_at (opening_sites cluster) region)) (sym begun)
        (subst (StandsIn cluster.regions (opening_world cluster workload) region) (sym is)
        (opening_stands cluster workload region lr (subst (λ (p : SiteView). IsSoundRegion p.region.state) is s)));
    stamps = λ region lr.
        let opened : ℕ → SiteView = λ number. opening_site number cluster.regions (opening_table cluster) in
        let is : site_at (opening_sites cluster) region ≡ opened region = get_or-map-range_with_len opened 0 cluster.regions region region no_site lr (omega arith) in
        subst (λ (p : SiteView). latest_stamp p.region ≤ 0) (sym is) (omega arith);
    listed = length-map-range_with_len (λ region. all_idle cluster.tries region workload) 0 cluster.regions;
    attended = λ region lr. subst (λ w. SessionsStandIn cluster workload w region (sessions_of (opening_sessions cluster workload) region)) (sym begun) (opened_at region lr);
  }

-- the fields of a world that begins
pub begun_from : (c cluster : Cluster) (workload now : Workload) (all : List SessionsView) (sites : List SiteView) → c ≡ cluster → workload ≡ now → IsValidCluster cluster → IsValidWorkload cluster now
    → all ≡ opening_sessions cluster now → sites ≡ opening_sites cluster → AllIn (λ (p : SiteView). IsSoundRegion p.region.state) sites
    → IsLawful c (record { workload = workload; by_region = all }) sites 0 × (view_in c (record { workload = workload; by_region = all }) sites 0 ≡ opening_view cluster now)
begun_from c cluster workload now all sites ec ew valid fits es ep sound =
    let given : WorldSessions = record { workload = workload; by_region = all } in
    let same : given ≡ idle cluster now = λ j. record { workload = ew j; by_region = es j } in
    let lawful : IsLawful cluster (idle cluster now) (opening_sites cluster) 0 = begun_lawful cluster now fits valid (subst (AllIn (λ (p : SiteView). IsSoundRegion p.region.state)) ep sound) in (
      subst (λ x. IsLawful x given sites 0) (sym ec) (subst (λ x. IsLawful cluster x sites 0) (sym same) (subst (λ x. IsLawful cluster (idle cluster now) x 0) (sym ep) lawful)),
      ap (λ x. view_in x given sites 0) ec ∙ ap (λ x. view_in cluster x sites 0) same ∙ ap (λ x. view_in cluster (idle cluster now) x 0) ep
          ∙ ap₂ (λ w (l : List (List Event)). record { cluster = cluster; workload = now; state = w; kept = l; steps = 0 }) (begun cluster now fits) (no_events cluster.regions (opening_table cluster) 0 cluster.regions),
    )
