-- A lane: its first mark, which lies in the lane itself, and those after it. What is found in its tail is found in the whole lane.
use Rattle.std.proofs.Common.{◌≡◌, ◌≢◌, ℕ, zero, ◌<◌, ◌≤◌, ◌⊎◌, Bool, true, false, ◌==◌, cond, if◌then◌else◌, List, []}
use Rattle.std.proofs.Common.{◌∷◌, ◌++◌, length, drop, map, not, is_some, Option, Some, None, Result, Ok, Err, OnOk, OnErr}
use Rattle.std.proofs.Common.{Box, Global, refl, ap, sym, subst, inl, inr, arith, ◌∙◌}
use Rattle.std.proofs.lemmas.Bool.{false≢true}
use Rattle.std.specs.List.{filter}
use Rattle.dt_lists.specs.Lists.{AllIn, Has}
use Rattle.dt_lists.proofs.Callers.{all_get, all_map, either_nat, filter_all, filter_each}
use Rattle.dt_queue.specs.declared.lane.Further.{Further}
use Rattle.dt_queue.specs.declared.lane.Further.TheVariants as further
use Rattle.dt_queue.specs.declared.mark.Mark.{Mark}
use Rattle.dt_queue.specs.declared.tail.Tail.{Tail}
use Rattle.dt_queue.specs.FurtherInner.{tail_of}
use Rattle.dt_queue.specs.LanesInner.{EndsBelow, HasRisingNumbers, IsBetween, IsFirstBetween, IsLastBetween, IsOneLane, is_between, marks_of}
use Rattle.dt_queue.specs.NumbersInner.{IsGap, renumbered}
use Rattle.dt_queue.proofs.Marks.{first_removed, is_not, numbered_more}
use Rattle.dt_queue.proofs.NewNumbers.{marks_rise, renumbered_at}

-- a lane with no first mark has none
pub no_marks : (f : Mark) (t : List Mark) → f.number ≡ 0 → marks_of f t ≡ []
no_marks f t e = by (f.number == 0) (grind (arith, e))
  where
    by : (b : Bool) → b ≡ true → (if b then [] else f ∷ t) ≡ []
    by true e = refl
    by false e = cc

-- else it has this one and those after it
pub some_marks : (f : Mark) (t : List Mark) → f.number ≢ 0 → marks_of f t ≡ f ∷ t
some_marks f t ne = by (f.number == 0) (grind (arith, ne))
  where
    by : (b : Bool) → b ≡ false → (if b then [] else f ∷ t) ≡ f ∷ t
    by true e = cc
    by false e = refl

-- where no marks lie after the first, there is none
pub no_tail : (t : Further) → ((tail : Box Tail Global) → t ≢ further.Marks tail) → tail_of t ≡ []
no_tail further.None not_there = refl
no_tail (further.Idle tail) not_there = refl
no_tail (further.Marks tail) not_there = absurd (not_there tail refl)

-- a lane with marks has a first one
has_first : (f : Mark) (t : List Mark) → 0 < length (marks_of f t) → f.number ≢ 0
has_first f t some e = omega (arith, some, ap length (no_marks f t e))

rising : (f : Mark) (t : List Mark) → f.number ≢ 0 → HasRisingNumbers (f ∷ t) → IsOneLane f t
rising f t ne num = (subst HasRisingNumbers (sym (some_marks f t ne)) num, λ e. absurd (ne e))

-- a mark with a greater number goes to the back
lane_more : (f : Mark) (t : List Mark) (m : Mark) → IsOneLane f t → 0 < length (marks_of f t) → AllIn (λ k. k.number < m.number) (marks_of f t) → IsOneLane f (t ++ m ∷ [])
lane_more f t m one some all =
    let ne = has_first f t some in
    rising f (t ++ m ∷ []) ne (numbered_more (f ∷ t) m (subst HasRisingNumbers (some_marks f t ne) one.0) (subst (AllIn (λ k. k.number < m.number)) (some_marks f t ne) all))

-- the first mark stays, and one may have been added at the back
pub lane_pushed : {A E : Type 0} (r : Result A E) (f : Mark) (t new : List Mark) (m : Mark) → IsOneLane f t → 0 < length (marks_of f t) → AllIn (λ k. k.number < m.number) (marks_of f t)
    → OnOk r (new ≡ t ++ m ∷ []) → OnErr r (new ≡ t) → IsOneLane f new
lane_pushed (Ok a) f t new m one some all ok err = subst (IsOneLane f) (sym ok) (lane_more f t m one some all)
lane_pushed (Err e) f t new m one some all ok err = subst (IsOneLane f) (sym err) one

-- the first mark stays, and one after it was taken out
pub lane_less : (f : Mark) (t : List Mark) (n : ℕ) → IsOneLane f t → f.number ≢ n → IsOneLane f (filter (is_not n) t)
lane_less f t n one other = elim (either_nat f.number 0) [
  | inl e ↦ (subst HasRisingNumbers (sym (no_marks f (filter (is_not n) t) e)) tt, λ g. ap (filter (is_not n)) (one.1 e))
  | inr ne ↦ let num = subst HasRisingNumbers (some_marks f t ne) one.0 in
      rising f (filter (is_not n) t) ne (filter_all (λ m. f.number < m.number) (is_not n) t num.0, filter_each (λ m k. m.number < k.number) (is_not n) t num.1)
]

-- the first mark was taken out, where it has the number
pub first_gone : (f : Mark) (t : List Mark) (n : ℕ) → IsOneLane f t → f.number ≡ n → drop 1 (marks_of f t) ≡ filter (is_not n) (marks_of f t)
first_gone f t n one is = elim (either_nat f.number 0) [
  | inl e ↦ ap (drop 1) (no_marks f t e) ∙ sym (ap (filter (is_not n)) (no_marks f t e))
  | inr ne ↦ ap (drop 1) (some_marks f t ne) ∙ first_removed n (f ∷ t) f (subst HasRisingNumbers (some_marks f t ne) one.0) (omega arith) is ∙ sym (ap (filter (is_not n)) (some_marks f t ne))
]

-- the first mark stays, and one after it got a lesser number
pub tail_renumbered : (f : Mark) (t : List Mark) (n i : ℕ) → 0 < i → i ≤ n → AllIn (IsGap n i) (marks_of f t) → IsOneLane f t → f.number ≢ n → IsOneLane f (map (renumbered n i) t)
tail_renumbered f t n i pos le gap one other = elim (either_nat f.number 0) [
  | inl e ↦ (subst HasRisingNumbers (sym (no_marks f (map (renumbered n i) t) e)) tt, λ g. ap (map (renumbered n i)) (one.1 e))
  | inr ne ↦
      let num = subst HasRisingNumbers (some_marks f t ne) one.0 in
      let all = marks_rise n i (f ∷ t) le (subst (AllIn (IsGap n i)) (some_marks f t ne) gap) num in
      rising f (map (renumbered n i) t) ne (subst (λ (m : Mark). HasRisingNumbers (m ∷ map (renumbered n i) t)) same all)
]
  where
    same : renumbered n i f ≡ f
    same = by (f.number == n) (grind (arith, other))
      where
        by : (b : Bool) → b ≡ false → record f { number = cond b i f.number } ≡ f
        by true e = cc
        by false e = refl

-- the first mark got a lesser number
pub first_renumbered : (f g : Mark) (t : List Mark) (n i : ℕ) → 0 < i → i ≤ n → IsOneLane f t → f.number ≡ n → g ≡ record f { number = i } → marks_of g t ≡ map (renumbered n i) (marks_of f t)
first_renumbered f g t n i pos le one is e =
    let ne : f.number ≢ 0 = λ z. omega (arith, z, is, pos, le) in
    let num = subst HasRisingNumbers (some_marks f t ne) one.0 in
    let ends : EndsBelow n (f ∷ t) zero = record { within = omega arith; lesser = tt; others = (omega (arith, is), all_map (λ (m : Mark). f.number < m.number) (λ (m : Mark). n ≤ m.number) t (λ m lt. omega (arith, lt, is)) num.0) } in
    some_marks g t (λ z. omega (arith, pos, z, ap (λ (m : Mark). m.number) e))
    ∙ ap (λ (m : Mark). m ∷ t) e ∙ renumbered_at n i (f ∷ t) zero f num ends (omega arith) is ∙ sym (ap (map (renumbered n i)) (some_marks f t ne))

-- ---- what is found in a lane

-- a mark of a lane is the first, or one of those after it
in_lane : (f : Mark) (t : List Mark) (m : Mark) → Has (marks_of f t) m → (f.number ≢ 0) × ((f ≡ m) ⊎ Has t m)
in_lane f t m h = elim (either_nat f.number 0) [
  | inl e ↦ absurd (subst (λ l. Has l m) (no_marks f t e) h)
  | inr ne ↦ (ne, subst (λ l. Has l m) (some_marks f t ne) h)
]

-- and these are in it
of_tail : (f : Mark) (t : List Mark) (m : Mark) → IsOneLane f t → Has t m → Has (marks_of f t) m × (f.number < m.number)
of_tail f t m one h = elim (either_nat f.number 0) [
  | inl e ↦ absurd (subst (λ l. Has l m) (one.1 e) h)
  | inr ne ↦ (subst (λ l. Has l m) (sym (some_marks f t ne)) (inr h), all_get (λ (k : Mark). f.number < k.number) t (subst HasRisingNumbers (some_marks f t ne) one.0).0 m h)
]

out : (low high : ℕ) (m : Mark) → is_between low high m ≡ false → ¬ (IsBetween low high m)
out low high m e b = grind (arith, e, b)

within : (low high : ℕ) (m : Mark) → is_between low high m ≡ true → IsBetween low high m
within low high m e = (grind (arith, e), grind (arith, e))

-- the first mark is the first between two numbers, if it lies there
pub first_of_all : (low high : ℕ) (f : Mark) (t : List Mark) → IsOneLane f t → is_between low high f ≡ true → IsFirstBetween low high (marks_of f t) (Some f)
first_of_all low high f t one is =
    let b = within low high f is in
    let ne : f.number ≢ 0 = λ z. omega (arith, z, b.0) in (
      subst (λ l. Has l f) (sym (some_marks f t ne)) (inl refl),
      b,
      λ k h c. elim (in_lane f t k h).1 [ inl e ↦ omega (arith, ap (λ (m : Mark). m.number) e) | inr g ↦ omega (arith, (of_tail f t k one g).1) ],
    )

-- else the first is that of those after it
pub first_of_tail : (low high : ℕ) (f : Mark) (t : List Mark) (o : Option Mark) → IsOneLane f t → is_between low high f ≡ false → IsFirstBetween low high t o → IsFirstBetween low high (marks_of f t) o
first_of_tail low high f t None one is none = λ m h b.
    elim (in_lane f t m h).1 [ inl e ↦ out low high f is (subst (IsBetween low high) (sym e) b) | inr g ↦ none m g b ]
first_of_tail low high f t (Some m) one is found = (
  (of_tail f t m one found.0).0,
  found.1,
  λ k h b. elim (in_lane f t k h).1 [ inl e ↦ absurd (out low high f is (subst (IsBetween low high) (sym e) b)) | inr g ↦ found.2 k g b ],
)

-- the last between two numbers is that of those after the first one, if there is one
pub last_of_tail : (low high : ℕ) (f : Mark) (t : List Mark) (o : Option Mark) → IsOneLane f t → is_some o ≡ true → IsLastBetween low high t o → IsLastBetween low high (marks_of f t) o
last_of_tail low high f t None one is none = absurd (false≢true is)
last_of_tail low high f t (Some m) one is found = (
  (of_tail f t m one found.0).0,
  found.1,
  λ k h b. elim (in_lane f t k h).1 [ inl e ↦ omega (arith, ap (λ (x : Mark). x.number) e, (of_tail f t m one found.0).1) | inr g ↦ found.2 k g b ],
)

-- else it is the first mark, if it lies there
pub last_of_first : (low high : ℕ) (f : Mark) (t : List Mark) (o : Option Mark) → o ≡ (if is_between low high f then Some f else None) → IsLastBetween low high t None → IsLastBetween low high (marks_of f t) o
last_of_first low high f t o is none = subst (IsLastBetween low high (marks_of f t)) (sym is) (by (is_between low high f) refl)
  where
    by : (b : Bool) → is_between low high f ≡ b → IsLastBetween low high (marks_of f t) (if b then Some f else None)
    by true e =
        let i = within low high f e in
        let ne : f.number ≢ 0 = λ z. omega (arith, z, i.0) in (
          subst (λ l. Has l f) (sym (some_marks f t ne)) (inl refl),
          i,
          λ k h b. elim (in_lane f t k h).1 [ inl e ↦ omega (arith, ap (λ (m : Mark). m.number) e) | inr g ↦ absurd (none k g b) ],
        )
    by false e = λ k h b. elim (in_lane f t k h).1 [ inl g ↦ out low high f e (subst (IsBetween low high) (sym g) b) | inr g ↦ none k g b ]

-- what the first mark is found to be
pub between_none : (b n : Bool) (f : Mark) (o : Option Mark) → o ≡ (if b then Some f else None) → is_some o ≡ not n → n ≡ true → b ≡ false
between_none true true f o e s t = absurd (false≢true (sym s ∙ ap is_some e))
between_none true false f o e s t = absurd (false≢true t)
between_none false n f o e s t = refl

pub between_some : (b n : Bool) (f : Mark) (o : Option Mark) → o ≡ (if b then Some f else None) → is_some o ≡ not n → n ≡ false → (b ≡ true) × (o ≡ Some f)
between_some true n f o e s t = (refl, e)
between_some false n f o e s t = absurd (false≢true (sym (ap is_some e) ∙ s ∙ ap not t))

pub none_found : (n : Bool) (o : Option Mark) → n ≡ is_some o → n ≡ false → o ≡ None
none_found n None e t = refl
none_found n (Some m) e t = absurd (false≢true (sym t ∙ e))
