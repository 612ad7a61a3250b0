-- One site among all, reached by a call through the list: as it was where the call changed nothing, and stepped where the
-- call was made.
use Rattle.std.proofs.Common.{◌≡◌, ◌<◌, ℕ, Bool, true, false, List, [], length, set, Ok, refl, sym, ap, subst, ◌∙◌, arith}
use Rattle.std.proofs.lemmas.List.{set-get_or}
use Rattle.dt_access.specs.declared.TxnId.{TxnId}
use Rattle.dt_events.specs.declared.Event.{Event}
use Rattle.dt_events.specs.declared.Event.TheVariants.{Insert, Resolve, Execute}
use Rattle.dt_proc.specs.Tree.{ProcTree}
use Rattle.dt_region.specs.Region.{HasStamp, RegionView, latest_stamp}
use Rattle.dt_region.specs.Conditions.{CanMove, HoldsValid}
use Rattle.dt_region.specs.Rules.{MakesStep}
use Rattle.dt_region.specs.Sound.{IsSoundRegion}
use Rattle.dt_cluster.specs.declared.Cluster.{Cluster}
use Rattle.dt_session.specs.Step.{IsLegal}
use Rattle.dt_site.specs.declared.Origin.{Origin}
use Rattle.dt_site.specs.Site.{SiteView, in_region, no_site}
use Rattle.dt_site.proofs.Callers.{a_region, can_move, execute_made, execute_refused, holds_valid, insert_made, insert_refused, resolve_made, resolve_refused}
use Rattle.dt_world.specs.WorldSessions.{WorldSessions, places_in}
use Rattle.dt_world.specs.WorldInner.{IsLawful, site_at, view_in, world_of}
use Rattle.dt_world.proofs.WorldLaws.{HoldsSite, IsBehind, IsMade, step_made, with_region}

-- the list where a site is put back as it was
pub put_back : {cluster : Cluster} {sessions : WorldSessions} {sites : List SiteView} {steps : ℕ} → IsLawful cluster sessions sites steps → (region : ℕ) (p later : SiteView) → p ≡ site_at sites region → later ≡ p
    → IsLawful cluster sessions (set sites region later) steps
put_back {cluster} {sessions} {sites} {steps} k region p later is same =
    subst (λ l. IsLawful cluster sessions l steps) (sym (ap (set sites region) (same ∙ is) ∙ set-get_or sites region no_site)) k

-- a region has a stamp left
pub stamp_left : {cluster : Cluster} {sessions : WorldSessions} {sites : List SiteView} {steps : ℕ} → IsLawful cluster sessions sites steps → {region : ℕ} → region < cluster.regions
    → (r : RegionView) → r ≡ (site_at sites region).region → steps < 4294967295 → HasStamp r
stamp_left k {region} lr r is few = let a = k.stamps region lr in let b = ap latest_stamp is in omega (arith, a, b, few)

-- a step that is refused changes nothing
pub refused_same : (procs : List ProcTree) (r : RegionView) (event : Event) (on : Bool) (later : RegionView) → on ≡ false → MakesStep procs r event (Ok on) later → later ≡ r
refused_same procs r event true later e m = cc
refused_same procs r event false later e m = m.1

module _ {cluster : Cluster} {sessions : WorldSessions} {sites : List SiteView} {steps region : ℕ} {r : RegionView} {origins : List Origin} (at : HoldsSite cluster sessions sites steps region r origins) where
  abbrev k : IsLawful cluster sessions sites steps
  k = at.lawful

  abbrev lr : region < cluster.regions
  lr = at.there

  abbrev b : IsBehind sites region r origins
  b = at.site

  -- the list where the region is as it was
  pub same_sites : (later : RegionView) → later ≡ r → with_region sites region later origins ≡ sites
  same_sites later same = ap (set sites region) (b.site_is later ∙ ap (in_region (site_at sites region)) (same ∙ b.region_is)) ∙ set-get_or sites region no_site

  pub same_lawful : (later : RegionView) → later ≡ r → IsLawful cluster sessions (with_region sites region later origins) steps
  same_lawful later same = subst (λ l. IsLawful cluster sessions l steps) (sym (same_sites later same)) k

  pub same_view : (later : RegionView) → later ≡ r → view_in cluster sessions (with_region sites region later origins) steps ≡ view_in cluster sessions sites steps
  same_view later same = ap (λ l. view_in cluster sessions l steps) (same_sites later same)

  pub holds_here : HoldsValid cluster.procs r.state
  holds_here = subst (λ x. HoldsValid cluster.procs x.state) (sym b.region_is) (holds_valid k.reached lr (k.stands region lr))

  -- what it executes, if it is a move, has a place left
  pub moves_here : steps < 4294967295 → (id : TxnId) → CanMove r.state id
  moves_here few id =
      subst (λ x. CanMove x.state id) (sym b.region_is) (can_move k.reached lr (k.stands region lr) (let many : length k.reached.events ≡ steps = k.many in omega (arith, many, few)) id)

  pub stamp_here : steps < 4294967295 → HasStamp r
  stamp_here few = stamp_left k lr r b.region_is few

  pub region_here : (home : ℕ) → home < cluster.regions → home < r.state.regions
  region_here home lh = subst (λ x. home < x.state.regions) (sym b.region_is) (a_region k.reached (k.stands region lr) home lh)

  pub sound_here : IsSoundRegion r.state
  sound_here = subst (λ x. IsSoundRegion x.state) (sym b.region_is) (k.stands region lr).sound

  -- rules 4 to 6

  module _ (home : ℕ) (lh : home < cluster.regions) (later : RegionView) (on : Bool) (m : MakesStep [] r (Insert r.state.number home) (Ok on) later) where
    pub insert_done : on ≡ true → IsSoundRegion later.state → IsMade cluster sessions sites steps (Insert region home) sessions (with_region sites region later origins)
    insert_done e sound =
        let m' : MakesStep cluster.procs r (Insert r.state.number home) (Ok true) later = subst (λ y. MakesStep cluster.procs r (Insert r.state.number home) (Ok y) later) e m in
        let here = subst (λ x. MakesStep cluster.procs x (Insert x.state.number home) (Ok true) later) b.region_is m' in
        subst (λ q. IsMade cluster sessions sites steps (Insert region home) sessions (set sites region q)) (sym (b.site_is later))
        (step_made k (Insert region home) lr (insert_made k.reached lr (k.stands region lr) home lh later here sound) refl refl)

    pub insert_not : on ≡ false → ¬ (IsLegal cluster sessions.workload (world_of sites (places_in sessions)) (Insert region home))
    insert_not e =
        let m' : MakesStep cluster.procs r (Insert r.state.number home) (Ok false) later = subst (λ y. MakesStep cluster.procs r (Insert r.state.number home) (Ok y) later) e m in
        insert_refused k.reached lr (k.stands region lr) home lh later (subst (λ x. MakesStep cluster.procs x (Insert x.state.number home) (Ok false) later) b.region_is m')

  module _ (ids : List TxnId) (later : RegionView) (on : Bool) (m : MakesStep [] r (Resolve r.state.number ids) (Ok on) later) where
    pub resolve_done : on ≡ true → IsSoundRegion later.state → IsMade cluster sessions sites steps (Resolve region ids) sessions (with_region sites region later origins)
    resolve_done e sound =
        let m' : MakesStep cluster.procs r (Resolve r.state.number ids) (Ok true) later = subst (λ y. MakesStep cluster.procs r (Resolve r.state.number ids) (Ok y) later) e m in
        let here = subst (λ x. MakesStep cluster.procs x (Resolve x.state.number ids) (Ok true) later) b.region_is m' in
        subst (λ q. IsMade cluster sessions sites steps (Resolve region ids) sessions (set sites region q)) (sym (b.site_is later))
        (step_made k (Resolve region ids) lr (resolve_made k.reached lr (k.stands region lr) ids later here sound) refl refl)

    pub resolve_not : on ≡ false → ¬ (IsLegal cluster sessions.workload (world_of sites (places_in sessions)) (Resolve region ids))
    resolve_not e =
        let m' : MakesStep cluster.procs r (Resolve r.state.number ids) (Ok false) later = subst (λ y. MakesStep cluster.procs r (Resolve r.state.number ids) (Ok y) later) e m in
        resolve_refused k.reached lr (k.stands region lr) ids later (subst (λ x. MakesStep cluster.procs x (Resolve x.state.number ids) (Ok false) later) b.region_is m')

  module _ (id : TxnId) (later : RegionView) (on : Bool) (m : MakesStep cluster.procs r (Execute r.state.number id) (Ok on) later) where
    pub execute_done : on ≡ true → IsSoundRegion later.state → IsMade cluster sessions sites steps (Execute region id) sessions (with_region sites region later origins)
    execute_done e sound =
        let m' : MakesStep cluster.procs r (Execute r.state.number id) (Ok true) later = subst (λ y. MakesStep cluster.procs r (Execute r.state.number id) (Ok y) later) e m in
        let here = subst (λ x. MakesStep cluster.procs x (Execute x.state.number id) (Ok true) later) b.region_is m' in
        subst (λ q. IsMade cluster sessions sites steps (Execute region id) sessions (set sites region q)) (sym (b.site_is later))
        (step_made k (Execute region id) lr (execute_made k.reached lr (k.stands region lr) id later here sound) refl refl)

    pub execute_not : on ≡ false → ¬ (IsLegal cluster sessions.workload (world_of sites (places_in sessions)) (Execute region id))
    execute_not e =
        let m' : MakesStep cluster.procs r (Execute r.state.number id) (Ok false) later = subst (λ y. MakesStep cluster.procs r (Execute r.state.number id) (Ok y) later) e m in
        execute_refused k.reached lr (k.stands region lr) id later (subst (λ x. MakesStep cluster.procs x (Execute x.state.number id) (Ok false) later) b.region_is m')
