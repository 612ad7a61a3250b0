-- Rule 2 in a world: the transaction of a request is looked up at its source, and placed at the home's site.
use Rattle.std.proofs.Common.{eqb-true, ◌≡◌, ◌<◌, ◌≤◌, ◌+◌, ℕ, Bool, true, false, eqb, List, [], length, get_or, set, slice_get, Ok, Some, refl, sym, ap, subst, ◌∙◌, arith}
use Rattle.std.proofs.lemmas.Bool.{false_from_ne_true}
use Rattle.std.proofs.lemmas.Option.{slice_get-get_or}
use Rattle.dt_access.specs.declared.TxnId.{TxnId}
use Rattle.dt_events.specs.declared.Event.TheVariants.{Append}
use Rattle.dt_txn.specs.declared.Txn.{Txn}
use Rattle.dt_txn.specs.Replica.{taken_from}
use Rattle.dt_region.specs.Region.{RegionView, held}
use Rattle.dt_region.specs.Conditions.{CanAppend}
use Rattle.dt_region.specs.Rules.{MakesAppend}
use Rattle.dt_region.specs.Sound.{IsSoundRegion}
use Rattle.dt_cluster.specs.declared.Cluster.{Cluster}
use Rattle.dt_session.specs.World.{taken_of}
use Rattle.dt_session.specs.Step.{IsLegal}
use Rattle.dt_site.specs.declared.Origin.{Origin}
use Rattle.dt_site.specs.Site.{SiteView}
use Rattle.dt_site.proofs.Callers.{AsksFor, append_legal, append_made, append_still, asks_for, can_append, is_turn}
use Rattle.dt_world.specs.WorldSessions.{WorldSessions, places_in}
use Rattle.dt_world.specs.WorldInner.{IsLawful, site_at, world_of}
use Rattle.dt_world.proofs.OneSite.{same_sites}
use Rattle.dt_world.proofs.WorldLaws.{HoldsSite, IsBehind, IsMade, node_is, short, step_made, still_made, with_region}

-- what the call has in hand: an id that the source asked the home to place as this request, and its transaction, which the
-- source holds
pub record HoldsRequest (sites : List SiteView) (home source number : ℕ) (txn : Txn) : Type 0 where
  pub id : TxnId
  pub wants : slice_get (get_or (site_at sites source).region.state.here.asked home []) number ≡ Some id
  pub found : held (site_at sites source).region.state id ≡ Some txn

-- the id of a request in a list of what was asked
abbrev pub id_in : List TxnId → ℕ → TxnId
id_in list number = get_or list number (record { seq = 0; region = 0 })

module _ {sites : List SiteView} {source : ℕ} {r : RegionView} {origins : List Origin} (b : IsBehind sites source r origins) (home number : ℕ) {list : List TxnId} (asked : list ≡ get_or r.state.here.asked home []) where
  asked_here : list ≡ get_or (site_at sites source).region.state.here.asked home []
  asked_here = asked ∙ ap (λ (x : RegionView). get_or x.state.here.asked home []) b.region_is

  pub few_asked : length list ≤ number → length (get_or (site_at sites source).region.state.here.asked home []) ≤ number
  few_asked le = subst (λ (l : List TxnId). length l ≤ number) asked_here le

  pub wanted_in : number < length list → slice_get (get_or (site_at sites source).region.state.here.asked home []) number ≡ Some (id_in list number)
  wanted_in lt = subst (λ (l : List TxnId). slice_get l number ≡ Some (id_in list number)) asked_here (slice_get-get_or list number (record { seq = 0; region = 0 }) lt)

  pub asks : number < length list → {found txn : Txn} → Some found ≡ held r.state (id_in list number) → txn ≡ found → HoldsRequest sites home source number txn
  asks lt found same = record {
    id = id_in list number;
    wants = wanted_in lt;
    found = sym (ap (λ (x : RegionView). held x.state (id_in list number)) b.region_is) ∙ sym found ∙ ap Some (sym same);
  }

module _ {cluster : Cluster} {sessions : WorldSessions} {sites : List SiteView} {steps home : ℕ} {r : RegionView} {origins : List Origin} (at : HoldsSite cluster sessions sites steps home r origins)
    {source : ℕ} (ls : source < cluster.regions) {number : ℕ} {txn : Txn} (request : HoldsRequest sites home source number txn) where
  abbrev k : IsLawful cluster sessions sites steps
  k = at.lawful

  abbrev lh : home < cluster.regions
  lh = at.there

  abbrev b : IsBehind sites home r origins
  b = at.site

  asked_for : AsksFor (world_of sites (places_in sessions)) source home number txn
  asked_for = asks_for k.reached lh ls (k.stands source ls) number request.wants request.found

  pub can_place : steps + 1 < 4294967296 → CanAppend r.state source number txn
  can_place few = subst (λ x. CanAppend x.state source number txn) (sym b.region_is)
      (can_append k.reached lh (k.stands home lh) ls asked_for (omega (arith, (short k).parts, few)))

  pub append_done : (later : RegionView) (on : Bool) → MakesAppend r source number txn (Ok on) later → IsSoundRegion later.state
      → IsMade cluster sessions sites steps (Append home source number) sessions (with_region sites home later origins)
  append_done later true m sound =
      let m' = subst (λ x. MakesAppend x source number txn (Ok true) later) b.region_is m in
      subst (λ q. IsMade cluster sessions sites steps (Append home source number) sessions (set sites home q)) (sym (b.site_is later))
      (step_made k (Append home source number) lh (append_made k.reached lh (k.stands home lh) ls asked_for later m' sound) refl
      (is_turn k.reached lh (k.stands home lh) ls asked_for m'.0))
  append_done later false m sound =
      let m' = subst (λ x. MakesAppend x source number txn (Ok false) later) b.region_is m in
      let taken = taken_of (world_of sites (places_in sessions)) home source in
      let other : eqb number taken ≡ false = false_from_ne_true (eqb number taken)
      (λ t. m'.0 (eqb-true number taken t ∙ ap (λ n. taken_from n.here source) (node_is k home))) in
      subst (λ l. IsMade cluster sessions sites steps (Append home source number) sessions l) (sym (same_sites at later (m'.1 ∙ sym b.region_is)))
      (still_made k (Append home source number) (append_legal k.reached lh (k.stands home lh) ls asked_for) (append_still k.reached lh (k.stands home lh) ls asked_for m'.0) other)

-- what was not asked for cannot be placed
pub append_not : {cluster : Cluster} {sessions : WorldSessions} {sites : List SiteView} {steps : ℕ} → IsLawful cluster sessions sites steps → (home source number : ℕ)
    → length (get_or (site_at sites source).region.state.here.asked home []) ≤ number → ¬ (IsLegal cluster sessions.workload (world_of sites (places_in sessions)) (Append home source number))
append_not k home source number le l =
    let lt = subst (λ n. number < length (get_or n.here.asked home [])) (node_is k source) l.allowed in
    absurd (omega (arith, lt, le))
