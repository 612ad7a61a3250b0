-- The node's region places a request: of another region as a packet brought it, or of its own.
use Rattle.std.proofs.Common.{◌≡◌, ◌≢◌, ◌<◌, ◌+◌, ℕ, zero, suc, true, List, [], ◌∷◌, length, drop, take, slice_get, Ok, Some, refl, sym, ap, subst, ◌∙◌, arith}
use Rattle.std.proofs.lemmas.List.{get_or-set_same}
use Rattle.dt_events.specs.declared.Event.{Event}
use Rattle.dt_events.specs.declared.Event.TheVariants.{Append}
use Rattle.dt_txn.specs.declared.Txn.{Txn}
use Rattle.dt_txn.specs.Replica.{taken_from}
use Rattle.dt_region.specs.Region.{RegionView}
use Rattle.dt_region.specs.Conditions.{CanAppend}
use Rattle.dt_region.specs.Rules.{MakesAppend}
use Rattle.dt_region.specs.Sound.{IsSoundRegion}
use Rattle.dt_cluster.specs.declared.Cluster.{Cluster}
use Rattle.dt_workload.specs.declared.Workload.{Workload}
use Rattle.dt_session.specs.World.{World, node_at}
use Rattle.dt_session.specs.Step.{next}
use Rattle.dt_session.specs.Run.{world_after}
use Rattle.dt_site.specs.Site.{in_region}
use Rattle.dt_site.proofs.Callers.{AsksFor, HasShortLists, Steps, append_made, can_append, legal_short, sessions_stay}
use Rattle.dt_node.specs.NodeView.{NodeView, number_of}
use Rattle.dt_node.specs.NodeInWorld.{NodeFits}
use Rattle.dt_node.specs.Turn.{GoesAfter}
use Rattle.dt_node.proofs.EventsGoOn.{one_goes, reached}

-- what a stretch of a list begins with, and what follows
first_and_rest : {A : Type 0} (n end : ℕ) (xs : List A) (y : A) (ys : List A) → drop n (take end xs) ≡ y ∷ ys → (slice_get xs n ≡ Some y) × (drop (suc n) (take end xs) ≡ ys)
first_and_rest n zero xs y ys e = absurd (none n e)
  where
    none : {B : Type 0} (m : ℕ) {z : B} {zs : List B} → drop m [] ≡ z ∷ zs → ⊥
    none zero e = cc
    none (suc m) e = cc
first_and_rest zero (suc end) [] y ys e = cc
first_and_rest zero (suc end) (x ∷ xs) y ys e =
    let head : x ≡ y = cc in let rest : take end xs ≡ ys = cc in (ap Some head, rest)
first_and_rest (suc n) (suc end) [] y ys e = cc
first_and_rest (suc n) (suc end) (x ∷ xs) y ys e = first_and_rest n end xs y ys e

pub first_of_rest : {A : Type 0} (n end : ℕ) (xs : List A) (y : A) (ys : List A) → drop n (take end xs) ≡ y ∷ ys → (slice_get xs n ≡ Some y) × (drop (n + 1) (take end xs) ≡ ys)
first_of_rest n end xs y ys e =
    let r = first_and_rest n end xs y ys e in let next : suc n ≡ n + 1 = omega arith in (r.0, subst (λ m. drop m (take end xs) ≡ ys) next r.1)

module _ {cluster : Cluster} {workload : Workload} {events : List Event} {a : NodeView} (f : NodeFits cluster workload events a) {source : ℕ} (ls : source < cluster.regions)
    {number : ℕ} {txn : Txn} (asks : AsksFor (world_after cluster workload events) source (number_of a) number txn) where
  abbrev w : World
  w = world_after cluster workload events

  -- the event: the request is placed in the log here
  abbrev placing : Event
  placing = Append (number_of a) source number

  -- it may be given the request
  pub can_place : length events + 1 < 4294967296 → CanAppend a.site.region.state source number txn
  can_place few =
      let short : HasShortLists w (length events) = legal_short cluster f.run.sound workload f.run.fits events f.run.legal in
      can_append (reached f) f.number f.site ls asks (omega (arith, short.parts, few))

  -- it placed it
  module _ (r : RegionView) (made : MakesAppend a.site.region source number txn (Ok true) r) (sound : IsSoundRegion r.state) where
    steps : Steps cluster workload w placing (number_of a) a.site (in_region a.site r) w.places
    steps = append_made (reached f) f.number f.site ls asks r made sound

    -- one request more is taken, so the world is another one
    changed : next cluster workload w placing ≢ w
    changed same =
        let before : taken_from (node_at w (number_of a)).here source ≡ taken_from a.site.region.state.here source = ap (λ n. taken_from n.here source) (sym f.site.node) in
        let after : taken_from (node_at (next cluster workload w placing) (number_of a)).here source ≡ taken_from r.state.here source =
        ap (λ n. taken_from n.here source) (sym steps.stands.node) in
        let there : source < length a.site.region.state.here.taken = subst (λ n. source < n) (sym (f.site.sound.taken ∙ f.site.many)) ls in
        let more : taken_from r.state.here source ≡ taken_from a.site.region.state.here source + 1 =
        ap (λ (x : RegionView). taken_from x.state.here source) made.1 ∙ get_or-set_same a.site.region.state.here.taken source (taken_from a.site.region.state.here source + 1) 0 there in
        let still = ap (λ u. taken_from (node_at u (number_of a)).here source) same in
        absurd (omega (arith, before, after, more, still))

    pub place_goes : GoesAfter cluster workload events (placing ∷ []) (record a { site = in_region a.site r })
    place_goes = one_goes f placing steps changed (sessions_stay (reached f) placing steps.legal (ap (λ v. v.places) steps.is) f.number f.sessions)
        (ap (λ (x : RegionView). x.state.number) made.1) refl refl refl
