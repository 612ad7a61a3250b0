-- Requests of a region are placed, one after another: which events that makes, and what it leaves as it was.
use Rattle.std.proofs.Common.{◌≡◌, ◌≢◌, ◌<◌, ◌≤◌, ◌+◌, ◌-◌, ℕ, zero, suc, Bool, true, false, List, [], ◌∷◌, ◌++◌, length, Ok, refl, sym, ap, ap₂, subst, ◌∙◌, arith}
use Rattle.std.proofs.lemmas.List.{get_or-set_same, get_or-set_other, map-append}
use Rattle.dt_events.specs.declared.Event.{Event}
use Rattle.dt_events.specs.declared.Event.TheVariants.{Append}
use Rattle.dt_events.specs.Stamps.{events_of}
use Rattle.dt_sched.specs.Views.{log_at}
use Rattle.dt_proc.specs.Tree.{ProcTree}
use Rattle.dt_txn.specs.declared.Txn.{Txn}
use Rattle.dt_txn.specs.Replica.{taken_from}
use Rattle.dt_txn.specs.Transaction.{part_of}
use Rattle.dt_region.specs.Region.{RegionView}
use Rattle.dt_region.specs.Rules.{MakesAppend}
use Rattle.dt_packet.specs.declared.packet.Packet.{Packet}
use Rattle.dt_site.specs.Site.{in_region}
use Rattle.dt_node.specs.NodeView.{NodeView, new_items, number_of}
use Rattle.dt_node.specs.Turn.{HasGone}
use Rattle.dt_node.specs.Steps.{placings}
use Rattle.dt_node.specs.StepsInner.{HasPlaced, IsPlacedTo}
use Rattle.dt_node.proofs.CallAfterCall.{new_are, new_joined, new_none}

-- placings, and others after them
pub placings_joined : (home source first n m : ℕ) → placings home source first n ++ placings home source (first + n) m ≡ placings home source first (n + m)
placings_joined home source first zero m = ap₂ (placings home source) (let e : first + 0 ≡ first = omega arith in e) (let e : m ≡ 0 + m = omega arith in e)
placings_joined home source first (suc n) m =
    let place : first + suc n ≡ first + 1 + n = omega arith in
    let many : suc (n + m) ≡ suc n + m = omega arith in
    ap (λ k. Append home source first ∷ (placings home source (first + 1) n ++ placings home source k m)) place
    ∙ ap (λ l. Append home source first ∷ l) (placings_joined home source (first + 1) n m)
    ∙ ap (placings home source first) many

-- nothing was placed
pub has_placed_none : (source : ℕ) (a : NodeView) → HasPlaced source a a
has_placed_none source a = record {
  events = ap events_of (new_none a a refl)
      ∙ ap (placings (number_of a) source (taken_from a.site.region.state.here source))
      (let e : 0 ≡ taken_from a.site.region.state.here source - taken_from a.site.region.state.here source = omega arith in e);
  logs = λ home apart. refl;
  asked = refl;
  table = refl;
  done = refl;
  heard = refl;
}

-- the next request was placed
module _ (a : NodeView) (source number : ℕ) (txn : Txn) (r : RegionView) (made : MakesAppend a.site.region source number txn (Ok true) r) (there : source < length a.site.region.state.here.taken) where
  abbrev first : ℕ
  first = taken_from a.site.region.state.here source

  taken : taken_from r.state.here source ≡ first + 1
  taken = ap (λ (x : RegionView). taken_from x.state.here source) made.1 ∙ get_or-set_same a.site.region.state.here.taken source (first + 1) 0 there

  pub has_placed_one : HasPlaced source a (record a { site = in_region a.site r })
  has_placed_one =
      let up : taken_from r.state.here source ≡ first + 1 = taken in
      let one : 1 ≡ taken_from r.state.here source - first = omega (arith, up) in
      record {
        events = ap events_of (new_are a (record a { site = in_region a.site r }) (ap (λ (x : RegionView). x.events) made.1))
            ∙ ap (λ n. Append (number_of a) source n ∷ []) made.0 ∙ ap (placings (number_of a) source first) one;
        logs = λ home apart. ap (λ (x : RegionView). log_at x.state.logs home) made.1
            ∙ get_or-set_other a.site.region.state.logs (number_of a) home (log_at a.site.region.state.logs (number_of a) ++ part_of txn (number_of a) ∷ []) [] apart;
        asked = ap (λ (x : RegionView). x.state.here.asked) made.1;
        table = ap (λ (x : RegionView). x.state.here.table) made.1;
        done = ap (λ (x : RegionView). x.state.here.done) made.1;
        heard = ap (λ (x : RegionView). x.heard) made.1;
      }

-- a request was placed, if it was the next one, and else nothing has happened
module _ (a : NodeView) (source number : ℕ) (txn : Txn) (r : RegionView) (there : source < length a.site.region.state.here.taken) where
  pub has_placed_if : (on : Bool) → MakesAppend a.site.region source number txn (Ok on) r → HasPlaced source a (record a { site = in_region a.site r })
  has_placed_if true made = has_placed_one a source number txn r made there
  has_placed_if false made = subst (λ (x : RegionView). HasPlaced source a (record a { site = in_region a.site x })) (sym made.1) (has_placed_none source a)

  pub placed_to_if : (on : Bool) → number ≤ taken_from a.site.region.state.here source → MakesAppend a.site.region source number txn (Ok on) r → IsPlacedTo source (number + 1) a (record a { site = in_region a.site r })
  placed_to_if true le made =
      let up : taken_from r.state.here source ≡ taken_from a.site.region.state.here source + 1 = taken a source number txn r made there in
      let next : number ≡ taken_from a.site.region.state.here source = made.0 in
      omega (arith, up, next)
  placed_to_if false le made =
      let same : taken_from r.state.here source ≡ taken_from a.site.region.state.here source = ap (λ (x : RegionView). taken_from x.state.here source) made.1 in
      let other : number ≢ taken_from a.site.region.state.here source = made.0 in
      omega (arith, same, other, le)

-- some were placed, and then some more
module _ {procs : List ProcTree} {xs ys : List Packet} {a b c : NodeView} (source : ℕ) (g : HasGone procs xs a b) (h : HasGone procs ys b c) (p : HasPlaced source a b) (q : HasPlaced source b c) where
  abbrev me : ℕ
  me = number_of a

  abbrev zeroth : ℕ
  zeroth = taken_from a.site.region.state.here source

  abbrev middle : ℕ
  middle = taken_from b.site.region.state.here source

  abbrev last : ℕ
  last = taken_from c.site.region.state.here source

  pub has_placed_on : HasPlaced source a c
  has_placed_on =
      let low : zeroth ≤ middle = g.taken source in
      let high : middle ≤ last = h.taken source in
      let then : events_of (new_items b c) ≡ placings me source middle (last - middle) = q.events ∙ ap (λ n. placings n source middle (last - middle)) g.number in
      let place : middle ≡ zeroth + (middle - zeroth) = omega (arith, low) in
      let many : (middle - zeroth) + (last - middle) ≡ last - zeroth = omega (arith, low, high) in
      record {
        events = ap events_of (new_joined g h) ∙ map-append (λ x. x.event) (new_items a b) (new_items b c)
            ∙ ap₂ (λ (us vs : List Event). us ++ vs) p.events (then ∙ ap (λ n. placings me source n (last - middle)) place)
            ∙ placings_joined me source zeroth (middle - zeroth) (last - middle) ∙ ap (placings me source zeroth) many;
        logs = λ home apart. q.logs home (λ is. apart (is ∙ g.number)) ∙ p.logs home apart;
        asked = q.asked ∙ p.asked;
        table = q.table ∙ p.table;
        done = q.done ∙ p.done;
        heard = q.heard ∙ p.heard;
      }

  pub placed_to_more : (number : ℕ) → IsPlacedTo source number a b → IsPlacedTo source (number + 1) b c → IsPlacedTo source (number + 1) a c
  placed_to_more number to then =
      let one : middle ≡ zeroth + (number - zeroth) = to in
      let two : last ≡ middle + (number + 1 - middle) = then in
      omega (arith, one, two)
