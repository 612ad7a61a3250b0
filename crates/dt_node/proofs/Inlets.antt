-- The packets of one link and then those of the next: what waits at the inlets, and that each is taken as if it came alone.
use Rattle.std.proofs.Common.{◌≡◌, ◌<◌, ◌+◌, ℕ, zero, suc, List, [], ◌∷◌, ◌++◌, length, drop, take, set, get_or, flat_map, refl, sym, ap, ap₂, subst, ◌∙◌, arith}
use Rattle.dt_lists.specs.Lists.{Pairwise}
use Rattle.dt_lists.proofs.Callers.{all_append_left, both_empty}
use Rattle.dt_packet.specs.declared.packet.Packet.{Packet}
use Rattle.dt_node.specs.NodeView.{NodeView}
use Rattle.dt_node.specs.TurnInner.{CanTake, IsTaking}
use Rattle.dt_node.proofs.TruePackets.{take_on, told_first}

-- fewer packets may be taken where more may

pub can_first : (xs ys : List Packet) {a : NodeView} → CanTake (xs ++ ys) a → CanTake xs a
can_first xs ys c = record {
  procs = c.procs;
  can = record {
    cluster = c.can.cluster;
    workload = c.can.workload;
    all = c.can.all;
    procs_are = c.can.procs_are;
    fits = c.can.fits;
    told = told_first xs ys c.can.told;
    begins = all_append_left _ xs ys c.can.begins;
    packet_stamps = all_append_left _ xs ys c.can.packet_stamps;
    low = c.can.low;
  };
}

-- the next ones may be taken
pub can_next : {a n : NodeView} {packets : List Packet} (xs left : List Packet) → CanTake packets a → IsTaking a packets (xs ++ left) n → CanTake xs n
can_next {a} xs left c t = can_first xs left (take_on t.done (xs ++ left) (subst (λ l. CanTake l a) t.is c) t.moved)

-- what is left may be written otherwise
pub taking_as : {a n : NodeView} {packets left same : List Packet} → left ≡ same → IsTaking a packets left n → IsTaking a packets same n
taking_as {a} {n} {packets} is t = subst (λ l. IsTaking a packets l n) is t

-- where no packet waited, none was taken
pub none_left : {a n : NodeView} {packets left : List Packet} (x : Packet) → packets ≡ [] → IsTaking a packets (x ∷ left) n → ⊥
none_left {a} {n} {packets} {left} x none t = no (t.done) (sym none ∙ t.is)
  where
    no : (done : List Packet) → [] ≡ done ++ x ∷ left → ⊥
    no [] e = cc
    no (y ∷ done) e = cc

-- the ends of links, of which one after another is emptied
module _ {I : Type 0} (waits : I → List Packet) where
  from_here : (ends : List I) (k : ℕ) (x : I) → k < length ends → x ≡ get_or ends k x → flat_map waits (drop k ends) ≡ waits x ++ flat_map waits (drop (suc k) ends)
  from_here [] k x lt is = absurd (omega (arith, lt))
  from_here (e ∷ ends) zero x lt is = ap (λ z. waits z ++ flat_map waits ends) (sym is)
  from_here (e ∷ ends) (suc k) x lt is = from_here ends k x (omega (arith, lt)) is

  then_same : (ends : List I) (k : ℕ) (y : I) → flat_map waits (drop (suc k) (set ends k y)) ≡ flat_map waits (drop (suc k) ends)
  then_same [] k y = refl
  then_same (e ∷ ends) zero y = refl
  then_same (e ∷ ends) (suc k) y = then_same ends k y

  up_to : (ends : List I) (k : ℕ) (y : I) → flat_map waits (take k ends) ≡ [] → waits y ≡ [] → flat_map waits (take (suc k) (set ends k y)) ≡ []
  up_to [] k y before none = refl
  up_to (e ∷ ends) zero y before none = ap (λ l. l ++ []) none
  up_to (e ∷ ends) (suc k) y before none =
      let both = both_empty (waits e) (flat_map waits (take k ends)) before in
      ap₂ (λ l m. l ++ m) both.0 (up_to ends k y both.1 none)

  -- what waits from a place on: what waits there, and behind it
  pub waits_here : (ends : List I) (k : ℕ) (x : I) → k < length ends → x ≡ get_or ends k x → flat_map waits (drop k ends) ≡ waits x ++ flat_map waits (drop (k + 1) ends)
  waits_here ends k x lt is = let next : suc k ≡ k + 1 = omega arith in subst (λ m. flat_map waits (drop k ends) ≡ waits x ++ flat_map waits (drop m ends)) next (from_here ends k x lt is)

  pub waits_behind : (ends : List I) (k : ℕ) (y : I) → flat_map waits (drop (k + 1) (set ends k y)) ≡ flat_map waits (drop (k + 1) ends)
  waits_behind ends k y = let next : suc k ≡ k + 1 = omega arith in subst (λ m. flat_map waits (drop m (set ends k y)) ≡ flat_map waits (drop m ends)) next (then_same ends k y)

  pub emptied_here : (ends : List I) (k : ℕ) (y : I) → flat_map waits (take k ends) ≡ [] → waits y ≡ [] → flat_map waits (take (k + 1) (set ends k y)) ≡ []
  emptied_here ends k y before none = let next : suc k ≡ k + 1 = omega arith in subst (λ m. flat_map waits (take m (set ends k y)) ≡ []) next (up_to ends k y before none)

-- an end that is still the same one stands in the place of another
pub same_set : {I : Type 0} (same : I → I → Type 0) (first ends : List I) (k : ℕ) (x y : I) → x ≡ get_or ends k x → ((f : I) → same f x → same f y) → Pairwise same first ends → Pairwise same first (set ends k y)
same_set same [] [] k x y is keeps p = p
same_set same [] (e ∷ ends) k x y is keeps p = absurd p
same_set same (f ∷ first) [] k x y is keeps p = p
same_set same (f ∷ first) (e ∷ ends) zero x y is keeps p = (keeps f (subst (same f) (sym is) p.0), p.1)
same_set same (f ∷ first) (e ∷ ends) (suc k) x y is keeps p = (p.0, same_set same first ends k x y is keeps p.1)
