-- The entries that cells keep, in the order of their numbers: what the list has, and how it changes with the cells.
use Rattle.std.proofs.Common.{◌≡◌, ◌≢◌, ◌⊎◌, ◌↔◌, ℕ, zero, suc, ◌+◌, ◌<◌, Bool, true, false, cond, not, ◌==◌, nat_lt, List, [], ◌∷◌, ◌++◌, slice_index_or}
use Rattle.std.proofs.Common.{Option, Some, None, refl, ap, sym, subst, inl, inr, arith, ◌∙◌}
use Rattle.std.proofs.lemmas.Option.{none-some}
use Rattle.std.specs.List.{filter}
use Rattle.slab.specs.Slab.{Slab, Updates, get, entries, entries_from}
use Rattle.dt_lists.specs.Lists.{AllIn, EachThen, Has}
use Rattle.dt_lists.proofs.Callers.{all_get, all_map, all_put, any_append, any_append_left, any_append_right, ascending_same, each_append, either_nat, filter_each, has_filter, has_of_filtered, some_same}
use Rattle.dt_queue.specs.declared.cell.Cell.{Cell}
use Rattle.dt_queue.specs.KeptInner.{in_order, put_cell}

-- the numbers of cells ascend
abbrev pub Rise : ℕ × Cell → ℕ × Cell → Type 0
Rise p q = p.1.number < q.1.number

-- a list has the cells with their slots, in the order of their numbers
pub record IsListed (cells : Slab Cell) (K : List (ℕ × Cell)) : Type 0 where
  pub numbered : EachThen Rise K
  pub members : (p : ℕ × Cell) → Has K p ↔ (get cells p.0 ≡ Some p.1)

-- no two cells have one number
abbrev pub AreAlone : Slab Cell → Type 0
AreAlone cells = (s t : ℕ) (c d : Cell) → get cells s ≡ Some c → get cells t ≡ Some d → c.number ≡ d.number → s ≡ t

-- ---- the entries of a slab

entries_has : (key : ℕ) (slots : List (Option Cell)) (s : ℕ) (c : Cell) → slice_index_or slots s None ≡ Some c → Has (entries_from key slots) (key + s, c)
entries_has key [] s c e = cc
entries_has key (None ∷ rest) zero c e = cc
entries_has key (None ∷ rest) (suc s) c e =
    let same : key + 1 + s ≡ key + suc s = omega arith in
    subst (λ n. Has (entries_from (key + 1) rest) (n, c)) same (entries_has (key + 1) rest s c e)
entries_has key (Some v ∷ rest) zero c e =
    let same : key ≡ key + 0 = omega arith in
    let one : v ≡ c = some_same e in
    inl (λ i. (same i, one i))
entries_has key (Some v ∷ rest) (suc s) c e =
    let same : key + 1 + s ≡ key + suc s = omega arith in
    inr (subst (λ n. Has (entries_from (key + 1) rest) (n, c)) same (entries_has (key + 1) rest s c e))

of_entries : (key : ℕ) (slots : List (Option Cell)) (p : ℕ × Cell) → Has (entries_from key slots) p → (s : ℕ) × (p.0 ≡ key + s) × (slice_index_or slots s None ≡ Some p.1)
of_entries key [] p h = absurd h
of_entries key (None ∷ rest) p h = let r = of_entries (key + 1) rest p h in (suc r.0, omega (arith, r.1), r.2)
of_entries key (Some v ∷ rest) p (inl e) =
    let first : key ≡ p.0 = ap (λ (x : ℕ × Cell). x.0) e in
    (0, omega (arith, first), ap (λ (x : ℕ × Cell). Some x.1) e)
of_entries key (Some v ∷ rest) p (inr h) = let r = of_entries (key + 1) rest p h in (suc r.0, omega (arith, r.1), r.2)

has_cell : (cells : Slab Cell) (p : ℕ × Cell) → Has (entries cells) p ↔ (get cells p.0 ≡ Some p.1)
has_cell cells p = (
  λ h. let r = of_entries 0 cells.slots p h in
      let same : r.0 ≡ p.0 = omega (arith, r.1) in
      subst (λ n. slice_index_or cells.slots n None ≡ Some p.1) same r.2,
  λ e. let same : 0 + p.0 ≡ p.0 = omega arith in
      subst (λ n. Has (entries cells) (n, p.1)) same (entries_has 0 cells.slots p.0 p.1 e),
)

slots_rise : (key : ℕ) (slots : List (Option Cell)) → EachThen (λ (p q : ℕ × Cell). p.0 < q.0) (entries_from key slots)
slots_rise key [] = tt
slots_rise key (None ∷ rest) = slots_rise (key + 1) rest
slots_rise key (Some v ∷ rest) = (
  all_put (λ (q : ℕ × Cell). key < q.0) (entries_from (key + 1) rest) (λ q h. let r = of_entries (key + 1) rest q h in omega (arith, r.1)),
  slots_rise (key + 1) rest,
)

apart_of : (cells : Slab Cell) (xs : List (ℕ × Cell)) → AreAlone cells → EachThen (λ (p q : ℕ × Cell). p.0 < q.0) xs → ((p : ℕ × Cell) → Has xs p → get cells p.0 ≡ Some p.1)
    → EachThen (λ (p q : ℕ × Cell). ¬ (p.1.number ≡ q.1.number)) xs
apart_of cells [] alone rise there = tt
apart_of cells (x ∷ xs) alone rise there = (
  all_put (λ (q : ℕ × Cell). ¬ (x.1.number ≡ q.1.number)) xs (λ q h e. other q (all_get (λ (q : ℕ × Cell). x.0 < q.0) xs rise.0 q h) (alone x.0 q.0 x.1 q.1 (there x (inl refl)) (there q (inr h)) e)),
  apart_of cells xs alone rise.1 (λ p h. there p (inr h)),
)
  where
    other : (q : ℕ × Cell) → x.0 < q.0 → x.0 ≡ q.0 → ⊥
    other q lt e = omega (arith, lt, e)

-- ---- in the order of numbers

put_of : (p : ℕ × Cell) (qs : List (ℕ × Cell)) (x : ℕ × Cell) → Has (put_cell p qs) x → (p ≡ x) ⊎ Has qs x
put_of p [] x (inl e) = inl e
put_of p [] x (inr h) = absurd h
put_of p (q ∷ qs) x h = by (nat_lt p.1.number q.1.number) h (λ g. put_of p qs x g)
  where
    by : (t : Bool) → Has (cond t (p ∷ q ∷ qs) (q ∷ put_cell p qs)) x → (Has (put_cell p qs) x → (p ≡ x) ⊎ Has qs x) → (p ≡ x) ⊎ Has (q ∷ qs) x
    by true (inl e) f = inl e
    by true (inr g) f = inr g
    by false (inl e) f = inr (inl e)
    by false (inr g) f = elim (f g) [ inl e ↦ inl e | inr k ↦ inr (inr k) ]

put_to : (p : ℕ × Cell) (qs : List (ℕ × Cell)) (x : ℕ × Cell) → (p ≡ x) ⊎ Has qs x → Has (put_cell p qs) x
put_to p [] x h = h
put_to p (q ∷ qs) x h = by (nat_lt p.1.number q.1.number) h (λ g. put_to p qs x g)
  where
    by : (t : Bool) → (p ≡ x) ⊎ Has (q ∷ qs) x → ((p ≡ x) ⊎ Has qs x → Has (put_cell p qs) x) → Has (cond t (p ∷ q ∷ qs) (q ∷ put_cell p qs)) x
    by true h f = h
    by false (inl e) f = inr (f (inl e))
    by false (inr (inl e)) f = inl e
    by false (inr (inr k)) f = inr (f (inr k))

put_rises : (p : ℕ × Cell) (qs : List (ℕ × Cell)) → EachThen Rise qs → AllIn (λ (q : ℕ × Cell). ¬ (p.1.number ≡ q.1.number)) qs → EachThen Rise (put_cell p qs)
put_rises p [] rise apart = (tt, tt)
put_rises p (q ∷ qs) rise apart = by (nat_lt p.1.number q.1.number) refl (put_rises p qs rise.1 apart.1)
  where
    below : p.1.number < q.1.number → AllIn (Rise p) qs
    below lt = all_map (Rise q) (Rise p) qs (λ z b. omega (arith, lt, b)) rise.0

    after : q.1.number < p.1.number → AllIn (Rise q) (put_cell p qs)
    after lt = all_put (Rise q) (put_cell p qs) (λ z h. elim (put_of p qs z h) [ inl e ↦ subst (Rise q) e lt | inr k ↦ all_get (Rise q) qs rise.0 z k ])

    by : (t : Bool) → nat_lt p.1.number q.1.number ≡ t → EachThen Rise (put_cell p qs) → EachThen Rise (cond t (p ∷ q ∷ qs) (q ∷ put_cell p qs))
    by true e rest = let lt : p.1.number < q.1.number = grind (arith, e) in ((lt, below lt), rise)
    by false e rest = let lt : q.1.number < p.1.number = grind (arith, e, apart.0) in (after lt, rest)

order_of : (xs : List (ℕ × Cell)) (x : ℕ × Cell) → Has (in_order xs) x → Has xs x
order_of [] x h = h
order_of (p ∷ ps) x h = elim (put_of p (in_order ps) x h) [ inl e ↦ inl e | inr k ↦ inr (order_of ps x k) ]

order_to : (xs : List (ℕ × Cell)) (x : ℕ × Cell) → Has xs x → Has (in_order xs) x
order_to [] x h = h
order_to (p ∷ ps) x h = put_to p (in_order ps) x (elim h [ inl e ↦ inl e | inr k ↦ inr (order_to ps x k) ])

order_rises : (xs : List (ℕ × Cell)) → EachThen (λ (p q : ℕ × Cell). ¬ (p.1.number ≡ q.1.number)) xs → EachThen Rise (in_order xs)
order_rises [] apart = tt
order_rises (p ∷ ps) apart =
    put_rises p (in_order ps) (order_rises ps apart.1)
    (all_put (λ (q : ℕ × Cell). ¬ (p.1.number ≡ q.1.number)) (in_order ps) (λ q h. all_get (λ (q : ℕ × Cell). ¬ (p.1.number ≡ q.1.number)) ps apart.0 q (order_of ps q h)))

-- the cells in their order
pub listed : (cells : Slab Cell) → AreAlone cells → IsListed cells (in_order (entries cells))
listed cells alone = record {
  numbered = order_rises (entries cells) (apart_of cells (entries cells) alone (slots_rise 0 cells.slots) (λ p h. (has_cell cells p).0 h));
  members = λ p. (λ h. (has_cell cells p).0 (order_of (entries cells) p h), λ e. order_to (entries cells) p ((has_cell cells p).1 e));
}

-- ---- there is one such list

pub same_list : (a b : Slab Cell) (K L : List (ℕ × Cell)) → IsListed a K → IsListed b L → ((s : ℕ) → get a s ≡ get b s) → K ≡ L
same_list a b K L k l same =
    ascending_same Rise (λ p lt. omega (arith, lt)) (λ p q r lt le. omega (arith, lt, le)) K L k.numbered l.numbered
    (λ p h. (l.members p).1 (sym (same p.0) ∙ (k.members p).0 h)) (λ p h. (k.members p).1 (same p.0 ∙ (l.members p).0 h))

-- a cell was put behind all others
pub listed_more : (a b : Slab Cell) (K : List (ℕ × Cell)) (slot : ℕ) (c : Cell) → IsListed a K → Updates a b slot (Some c) → get a slot ≡ None → ((p : ℕ × Cell) → Has K p → p.1.number < c.number)
    → IsListed b (K ++ (slot, c) ∷ [])
listed_more a b K slot c k up vacant last = record {
  numbered = each_append Rise K ((slot, c) ∷ []) k.numbered (all_put _ K (λ p h. (last p h, tt))) (tt, tt);
  members = λ p. (
    λ h. elim (any_append _ K ((slot, c) ∷ []) h) [
      | inl g ↦ up.others p.0 (other p ((k.members p).0 g)) ∙ (k.members p).0 g
      | inr g ↦ elim g [ inl e ↦ subst (λ (q : ℕ × Cell). get b q.0 ≡ Some q.1) e up.changed | inr f ↦ absurd f ]
    ],
    λ e. elim (either_nat p.0 slot) [
      | inl s ↦ any_append_right _ K ((slot, c) ∷ []) (inl (here p s e))
      | inr ne ↦ any_append_left _ K ((slot, c) ∷ []) ((k.members p).1 (sym (up.others p.0 ne) ∙ e))
    ],
  );
}
  where
    other : (p : ℕ × Cell) → get a p.0 ≡ Some p.1 → p.0 ≢ slot
    other p e s = none-some p.1 (sym vacant ∙ sym (ap (λ n. get a n) s) ∙ e)

    here : (p : ℕ × Cell) → p.0 ≡ slot → get b p.0 ≡ Some p.1 → (slot, c) ≡ p
    here p s e = let v : c ≡ p.1 = some_same (sym up.changed ∙ ap (λ n. get b n) (sym s) ∙ e) in λ i. (sym s i, v i)

-- a cell was taken out
pub listed_less : (a b : Slab Cell) (K : List (ℕ × Cell)) (slot : ℕ) → IsListed a K → Updates a b slot None → IsListed b (filter (λ (p : ℕ × Cell). not (p.0 == slot)) K)
listed_less a b K slot k up = record {
  numbered = filter_each Rise (λ (p : ℕ × Cell). not (p.0 == slot)) K k.numbered;
  members = λ p. (
    λ h. let both = has_of_filtered (λ (q : ℕ × Cell). not (q.0 == slot)) K p h in up.others p.0 (differs p both.1) ∙ (k.members p).0 both.0,
    λ e. elim (either_nat p.0 slot) [
      | inl s ↦ absurd (none-some p.1 (sym up.changed ∙ ap (λ n. get b n) (sym s) ∙ e))
      | inr ne ↦ has_filter (λ (q : ℕ × Cell). not (q.0 == slot)) K p ((k.members p).1 (sym (up.others p.0 ne) ∙ e)) (passes p ne)
    ],
  );
}
  where
    differs : (p : ℕ × Cell) → not (p.0 == slot) ≡ true → p.0 ≢ slot
    differs p t e = absurd (grind (arith, t, e))

    passes : (p : ℕ × Cell) → p.0 ≢ slot → not (p.0 == slot) ≡ true
    passes p ne = grind (arith, ne)
