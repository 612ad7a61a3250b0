-- The lanes of rows, as lists of what lies side by side: what one of them has, and how it changes while the others stay.
use Rattle.std.proofs.Common.{◌≡◌, ◌≢◌, ℕ, zero, suc, ◌<◌, List, [], ◌∷◌, ◌++◌, map, length, get_or, set, slice_index_or, refl, ap, arith, ◌∙◌}
use Rattle.std.proofs.lemmas.List.{get_or-set_other, get_or-set_same, length-map, map-set}
use Rattle.std.proofs.Math.Seq.{map-set_same}
use Rattle.dt_queue.specs.declared.mark.Mark.{Mark}
use Rattle.dt_queue.specs.declared.row.Row.{Row}
use Rattle.dt_queue.specs.declared.row.Way.{Way}
use Rattle.dt_queue.specs.declared.row.Way.TheVariants as way
use Rattle.dt_queue.specs.LanesInner.{ChangesLane, SameLanes}
use Rattle.dt_queue.specs.TableInner.{heads_of, lane_of, lanes_of, with_lane}
use Rattle.dt_queue.proofs.RowSets.{told_at}

module _ {A : Type 0} (f : A → List Mark) (xs : List A) where
  -- what one has is that of its place
  pub lane_at : (i : ℕ) (x : A) → i < length xs → x ≡ slice_index_or xs i x → f x ≡ get_or (map f xs) i []
  lane_at i x lt e = told_at xs f i x [] lt e

  -- one was changed
  pub lane_set : (i : ℕ) (x : A) (marks : List Mark) → i < length xs → f x ≡ marks → ChangesLane (map f xs) i marks (map f (set xs i x))
  lane_set i x marks lt e = record {
    changed = ap (λ l. get_or l i []) (map-set f xs i x) ∙ get_or-set_same (map f xs) i (f x) [] (rw (length-map xs f) lt) ∙ e;
    others = λ j ne. ap (λ l. get_or l j []) (map-set f xs i x) ∙ get_or-set_other (map f xs) i j (f x) [] ne;
  }

-- an empty one behind the others does not show
pub lane_behind : {A : Type 0} (f : A → List Mark) (xs : List A) (x : A) → f x ≡ [] → SameLanes (map f xs) (map f (xs ++ x ∷ []))
lane_behind f [] x e zero = e
lane_behind f [] x e (suc i) = refl
lane_behind f (y ∷ ys) x e zero = refl
lane_behind f (y ∷ ys) x e (suc i) = lane_behind f ys x e i

-- what takes the place of one shows the same
pub lane_stays : {A : Type 0} (f : A → List Mark) (xs : List A) (i : ℕ) (x y : A) → i < length xs → y ≡ slice_index_or xs i y → f x ≡ f y → SameLanes (map f xs) (map f (set xs i x))
lane_stays f [] i x y lt is e j = absurd (omega (arith, lt))
lane_stays f (z ∷ zs) zero x y lt is e zero = e ∙ ap f is
lane_stays f (z ∷ zs) zero x y lt is e (suc j) = refl
lane_stays f (z ∷ zs) (suc i) x y lt is e zero = refl
lane_stays f (z ∷ zs) (suc i) x y lt is e (suc j) = lane_stays f zs i x y (omega (arith, lt)) is e j

-- a row with other marks in a lane: it has these there, and its other lane, its name and its granule as before
lane_put : (w : Way) (r : Row) (marks : List Mark) → lane_of w (with_lane w r marks) ≡ marks
lane_put way.Read r marks = refl
lane_put way.Write r marks = refl

lane_left : (w v : Way) (r : Row) (marks : List Mark) → v ≢ w → lane_of v (with_lane w r marks) ≡ lane_of v r
lane_left way.Read way.Read r marks ne = absurd (ne refl)
lane_left way.Read way.Write r marks ne = refl
lane_left way.Write way.Read r marks ne = refl
lane_left way.Write way.Write r marks ne = absurd (ne refl)

name_left : (w : Way) (r : Row) (marks : List Mark) → (with_lane w r marks).name ≡ r.name
name_left way.Read r marks = refl
name_left way.Write r marks = refl

granule_left : (w : Way) (r : Row) (marks : List Mark) → (with_lane w r marks).granule ≡ r.granule
granule_left way.Read r marks = refl
granule_left way.Write r marks = refl

-- such a row took the place of one in a table: its lane has changed, and all other lanes and all heads stay
module _ (w : Way) (xs : List Row) (i : ℕ) (r : Row) (marks : List Mark) (lt : i < length xs) (is : r ≡ slice_index_or xs i r) where
  pub row_changed : (f : List Mark → List Mark) → marks ≡ f (lane_of w r) → ChangesLane (lanes_of w xs) i (f (get_or (lanes_of w xs) i [])) (lanes_of w (set xs i (with_lane w r marks)))
  row_changed f e = lane_set (lane_of w) xs i (with_lane w r marks) _ lt (lane_put w r marks ∙ e ∙ ap f (lane_at (lane_of w) xs i r lt is))

  pub other_lanes : (v : Way) → v ≢ w → SameLanes (lanes_of v xs) (lanes_of v (set xs i (with_lane w r marks)))
  other_lanes v ne = lane_stays (lane_of v) xs i (with_lane w r marks) r lt is (lane_left w v r marks ne)

  pub heads_left : heads_of (set xs i (with_lane w r marks)) ≡ heads_of xs
  heads_left =
      let n = with_lane w r marks in
      let names = map-set_same (λ (x : Row). x.name) xs i n r (name_left w r marks ∙ ap (λ (x : Row). x.name) is) in
      let granules = map-set_same (λ (x : Row). x.granule) xs i n r (granule_left w r marks ∙ ap (λ (x : Row). x.granule) is) in
      (λ j. (names j, granules j))

-- where the lanes of one way stay, and all others, all do
pub all_lanes : (old new : List Row) (w : Way) → SameLanes (lanes_of w old) (lanes_of w new) → ((v : Way) → v ≢ w → SameLanes (lanes_of v old) (lanes_of v new)) → (v : Way) → SameLanes (lanes_of v old) (lanes_of v new)
all_lanes old new way.Read same others way.Read = same
all_lanes old new way.Read same others way.Write = others way.Write (λ e. cc)
all_lanes old new way.Write same others way.Read = others way.Read (λ e. cc)
all_lanes old new way.Write same others way.Write = same
