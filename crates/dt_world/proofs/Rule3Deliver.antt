-- Rule 3 in a world: of the entries of a delivery, those that the region has not received are taken from the home's site and
-- handed to the site of the region.
use Rattle.std.proofs.Common.{◌≡◌, ◌<◌, ◌≤◌, ◌+◌, ℕ, Bool, true, false, List, [], ◌∷◌, ◌++◌, length, map, set, take, drop, slice_get, Ok, Some, refl, sym, ap, subst, ◌∙◌, arith}
use Rattle.std.proofs.lemmas.List.{drop-append-le, length-take-le, map_push, take_more}
use Rattle.std.proofs.lemmas.Option.{get_or_from_slice_get, slice_get_within}
use Rattle.dt_lists.specs.Lists.{AllIn}
use Rattle.dt_lists.proofs.Callers.{all_map, all_more}
use Rattle.dt_access.specs.declared.Part.{Part}
use Rattle.dt_log.specs.declared.Taken.{Taken}
use Rattle.dt_sched.specs.Views.{log_at}
use Rattle.dt_events.specs.declared.Event.TheVariants.{Deliver}
use Rattle.dt_txn.specs.declared.Entry.{Entry}
use Rattle.dt_region.specs.Region.{RegionState, RegionView, held}
use Rattle.dt_region.specs.Conditions.{CanDeliver}
use Rattle.dt_region.specs.Rules.{MakesDelivery}
use Rattle.dt_region.specs.Sound.{IsSoundRegion}
use Rattle.dt_cluster.specs.declared.Cluster.{Cluster}
use Rattle.dt_workload.specs.declared.Workload.{Workload}
use Rattle.dt_session.specs.World.{World, log_of, txn_of}
use Rattle.dt_session.specs.Step.{IsLegal}
use Rattle.dt_site.specs.declared.Origin.{Origin}
use Rattle.dt_site.specs.Site.{SiteView}
use Rattle.dt_site.proofs.Callers.{apart, can_deliver, deliver_legal, deliver_made, deliver_still, has_received, joins, joins_to, own_log}
use Rattle.dt_world.specs.WorldSessions.{WorldSessions, places_in}
use Rattle.dt_world.specs.WorldInner.{IsLawful, site_at, world_of}
use Rattle.dt_world.proofs.WorldLaws.{HoldsSite, IsBehind, IsMade, short, step_made, still_made, with_region}

-- the log of a home, as far as the site of a region has it
abbrev pub log_in : List SiteView → ℕ → ℕ → List Part
log_in sites region home = log_at (site_at sites region).region.state.logs home

-- what the call reads of the sites: how far the home's log reaches, how far the region received it, and whether the
-- delivery joins that
pub record IsDelivery (sites : List SiteView) (region home first last has : ℕ) (join : Bool) : Type 0 where
  pub reaches : last ≤ length (log_in sites home home)
  pub has_is : has ≡ length (log_in sites region home)
  pub joined : joins (length (log_in sites region home)) first last ≡ join

-- the entries that it takes from the home's site
pub record AreOfLog (sites : List SiteView) (home first last : ℕ) (entries : List Entry) : Type 0 where
  pub parts : map (λ e. e.part) entries ≡ drop first (take last (log_in sites home home))
  pub txns : AllIn (λ e. held (site_at sites home).region.state e.part.id ≡ Some e.txn) entries

-- the length of a log that was read is that of the site's log
length_is : {sites : List SiteView} {region : ℕ} {r : RegionView} {origins : List Origin} → IsBehind sites region r origins → (home : ℕ) {log : List Part} {n : ℕ} → n ≡ length log → log ≡ log_at r.state.logs home
    → n ≡ length (log_in sites region home)
length_is b home n_is log_is = n_is ∙ ap length (log_is ∙ ap (λ (x : RegionView). log_at x.state.logs home) b.region_is)

module _ {sites : List SiteView} {home region : ℕ} {r r' : RegionView} {origins origins' : List Origin} (source : IsBehind sites home r origins) (here : IsBehind sites region r' origins') where
  pub delivery_is : (first last : ℕ) (join : Bool) {log received : List Part} {n m : ℕ} {test : Bool} → n ≡ length log → log ≡ log_at r.state.logs home → last ≤ n
      → m ≡ length received → received ≡ log_at r'.state.logs home → test ≡ joins m first last → test ≡ join → IsDelivery sites region home first last m join
  delivery_is first last join n_is log_is within m_is received_is is on = record {
    reaches = subst (λ x. last ≤ x) (length_is source home n_is log_is) within;
    has_is = length_is here home m_is received_is;
    joined = subst (λ x. joins x first last ≡ join) (length_is here home m_is received_is) (sym is ∙ on);
  }

pub entries_are : {sites : List SiteView} {home : ℕ} {r : RegionView} {origins : List Origin} → IsBehind sites home r origins → (first last : ℕ) (entries : List Entry)
    → map (λ (e : Entry). e.part) entries ≡ drop first (take last (log_at r.state.logs home)) → AllIn (λ (e : Entry). held r.state e.part.id ≡ Some e.txn) entries → AreOfLog sites home first last entries
entries_are {sites} {home} b first last entries parts txns = record {
  parts = parts ∙ ap (λ (x : RegionView). drop first (take last (log_at x.state.logs home))) b.region_is;
  txns = subst (λ (x : RegionView). AllIn (λ (e : Entry). held x.state e.part.id ≡ Some e.txn) entries) b.region_is txns;
}

module _ {cluster : Cluster} {sessions : WorldSessions} {sites : List SiteView} {steps : ℕ} (k : IsLawful cluster sessions sites steps) {home : ℕ} (lh : home < cluster.regions) where
  home_log : log_in sites home home ≡ log_of (world_of sites (places_in sessions)) home
  home_log = own_log k.reached (k.stands home lh)

  within : {region first last has : ℕ} {join : Bool} → IsDelivery sites region home first last has join → last ≤ length (log_of (world_of sites (places_in sessions)) home)
  within {last = last} delivery = subst (λ l. last ≤ length l) home_log delivery.reaches

  -- a delivery that does not join
  pub deliver_none : {region first last has : ℕ} → region < cluster.regions → first ≤ last → IsDelivery sites region home first last has false
      → IsMade cluster sessions sites steps (Deliver region home first last) sessions sites
  deliver_none {region} {first} {last} lr ordered delivery = still_made k (Deliver region home first last) (deliver_legal k.reached lr (k.stands region lr) lh first last ordered (within delivery))
      (deliver_still k.reached lr (k.stands region lr) lh first last ordered (within delivery) delivery.joined)
      (subst (λ n. joins n first last ≡ false) (has_received k.reached lr (k.stands region lr) lh) delivery.joined)

-- one that joins, of entries of the home's log

module _ {cluster : Cluster} {sessions : WorldSessions} {sites : List SiteView} {steps region : ℕ} {r : RegionView} {origins : List Origin} (at : HoldsSite cluster sessions sites steps region r origins)
    {home first last has : ℕ} (lh : home < cluster.regions) (delivery : IsDelivery sites region home first last has true) {entries : List Entry} (taken : AreOfLog sites home has last entries) where
  abbrev k : IsLawful cluster sessions sites steps
  k = at.lawful

  abbrev lr : region < cluster.regions
  lr = at.there

  abbrev b : IsBehind sites region r origins
  b = at.site

  on : joins (length (log_in sites region home)) first last ≡ true
  on = delivery.joined

  ends : last ≤ length (log_of (world_of sites (places_in sessions)) home)
  ends = within k lh delivery

  new_ordered : has ≤ last
  new_ordered = let more = joins_to (length (log_in sites region home)) first last on in omega (arith, more, delivery.has_is)

  parts_are : map (λ e. e.part) entries ≡ drop has (take last (log_of (world_of sites (places_in sessions)) home))
  parts_are = taken.parts ∙ ap (λ l. drop has (take last l)) (home_log k lh)

  found : AllIn (λ e. txn_of (world_of sites (places_in sessions)) e.part.id ≡ Some e.txn) entries
  found = all_map _ _ entries (λ e h. (k.stands home lh).known e.part.id e.txn h) taken.txns

  pub can_take : steps < 4294967296 → CanDeliver r.state home has entries
  can_take few = subst (λ x. CanDeliver x.state home has entries) (sym b.region_is)
      (can_deliver k.reached lr (k.stands region lr) lh has last new_ordered ends entries parts_are found (apart k.reached lr (k.stands region lr) lh has last new_ordered ends first on)
      (omega (arith, (short k).parts, few)))

  pub deliver_done : (later : RegionView) (t : Taken) → MakesDelivery r home first has entries (Ok t) later → IsSoundRegion later.state
      → IsMade cluster sessions sites steps (Deliver region home first last) sessions (with_region sites region later origins)
  deliver_done later t m sound =
      let m' = subst (λ x. MakesDelivery x home first has entries (Ok t) later) b.region_is m in
      subst (λ q. IsMade cluster sessions sites steps (Deliver region home first last) sessions (set sites region q)) (sym (b.site_is later))
      (step_made k (Deliver region home first last) lr (deliver_made k.reached lr (k.stands region lr) lh has last new_ordered ends entries parts_are found first on (omega (arith, delivery.has_is)) later t m' sound) refl
      (subst (λ n. joins n first last ≡ true) (has_received k.reached lr (k.stands region lr) lh) on))

-- the entries of a log, one more at a time

pub entries_more : (log : List Part) (first place : ℕ) (items new : List Entry) (e : Entry) → first ≤ place → slice_get log place ≡ Some e.part → map (λ x. x.part) items ≡ drop first (take place log)
    → new ≡ items ++ e ∷ [] → map (λ x. x.part) new ≡ drop first (take (place + 1) log)
entries_more log first place items new e le at before is =
    let lt : place < length log = slice_get_within log place e.part at in
    let long : length (take place log) ≡ place = length-take-le place log (omega arith) in
    ap (map (λ x. x.part)) is ∙ map_push (λ x. x.part) items e ∙ ap (λ l. l ++ e.part ∷ []) before
    ∙ sym (drop-append-le first (take place log) (e.part ∷ []) (omega arith))
    ∙ ap (λ x. drop first (take place log ++ x ∷ [])) (sym (get_or_from_slice_get log place e.part e.part at))
    ∙ ap (drop first) (sym (take_more log place e.part lt))

pub entries_held : (state : RegionState) (items new : List Entry) (e : Entry) → AllIn (λ x. held state x.part.id ≡ Some x.txn) items → held state e.part.id ≡ Some e.txn
    → new ≡ items ++ e ∷ [] → AllIn (λ x. held state x.part.id ≡ Some x.txn) new
entries_held state items new e all one is = subst (AllIn (λ x. held state x.part.id ≡ Some x.txn)) (sym is) (all_more (λ x. held state x.part.id ≡ Some x.txn) items e all one)

-- no delivery is legal whose places are out of order, or that goes past the end of the home's log

pub out_of_order : {cluster : Cluster} {workload : Workload} {w : World} {region home first last : ℕ} → last < first → IsLegal cluster workload w (Deliver region home first last) → ⊥
out_of_order lt l = absurd (omega (arith, lt, l.allowed.0))

pub past_log : {cluster : Cluster} {sessions : WorldSessions} {sites : List SiteView} {steps : ℕ} → IsLawful cluster sessions sites steps → {region home first last : ℕ} → home < cluster.regions
    → length (log_in sites home home) < last → ¬ (IsLegal cluster sessions.workload (world_of sites (places_in sessions)) (Deliver region home first last))
past_log k {region} {home} {first} {last} lh lt l =
    let far = subst (λ l. length l < last) (home_log k lh) lt in
    absurd (omega (arith, far, l.allowed.1))
