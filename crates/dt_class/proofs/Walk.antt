-- The search: of what was found the first ones were followed.
use Rattle.std.proofs.Common.{◌≡◌, ◌∙◌, ℕ, zero, suc, ◌+◌, ◌<◌, ◌≤◌, ◌↔◌, List, [], ◌∷◌, ◌++◌, length, get_or, slice_get, take, Some, None, refl, sym, ap, subst, inl, inr, arith, length-append}
use Rattle.std.proofs.lemmas.List.{take_more, take_all, take-append-le}
use Rattle.std.proofs.lemmas.Option.{slice_get_within, get_or_from_slice_get}
use Rattle.dt_lists.specs.Lists.{AnyIn, AllIn, Has, IsFront}
use Rattle.dt_lists.specs.Chain.{Chain, here, onward}
use Rattle.dt_lists.proofs.Callers.{all_get, all_map, all_append, any_front, any_get, any_map, any_put, chain_keeps, front_refl, front_trans, has_last, has_longer, has_more, has_place}
use Rattle.dt_class.specs.LinksInner.{IsStep}
use Rattle.dt_class.specs.FindsInner.{FoundView, IsFoundOf, IsClosedUnder, IsFollowedIn, AddsVertex, GainsSteps, IsReach, Spreads}
use Rattle.dt_class.specs.declared.link.Link.{Link}
use Rattle.dt_class.specs.declared.link.Way.{Way}
use Rattle.dt_class.proofs.Marks.{marked_within}

-- where nothing is read the list has ended
pub ended_where_none : {A : Type 0} (xs : List A) (i : ℕ) → slice_get xs i ≡ None → length xs ≤ i
ended_where_none [] i e = omega arith
ended_where_none (x ∷ xs) zero e = cc
ended_where_none (x ∷ xs) (suc i) e = let r : length xs ≤ i = ended_where_none xs i e in omega arith

-- what was found are vertices
pub found_within : (found : FoundView) (count place v : ℕ) → IsFoundOf found.marks found.order → length found.marks ≡ count → slice_get found.order place ≡ Some v → v < count
found_within found count place v is vertices at =
    subst (λ n. v < n) vertices (marked_within found.marks v ((is.members v).1 (has_place found.order place v at)))

-- what is closed under steps has all that chains lead to from it
pub closed_keeps : (way : Way) (links : List Link) (order : List ℕ) (u v : ℕ) → IsClosedUnder way links order → Chain (IsStep way links) u v → Has order u → Has order v
closed_keeps way links order u v closed c h = chain_keeps (Has order) (λ a b e k. closed a k b e) c h

-- a search that goes on from what was found before: the first ones of what is found, those in front of a place, were followed
pub record IsWalked (way : Way) (links : List Link) (old found : FoundView) (place : ℕ) : Type 0 where
  pub vertices : length found.marks ≡ length old.marks
  pub front : IsFront old.order found.order
  pub sound : (t : ℕ) → Has found.order t → AnyIn (λ u. Chain (IsStep way links) u t) old.order
  pub followed : AllIn (IsFollowedIn way links found.order) (take place found.order)
  pub short : place ≤ length found.order

module _ (way : Way) (links : List Link) (old : FoundView) where
  pub walk_begins : (place : ℕ) → place ≤ length old.order → AllIn (IsFollowedIn way links old.order) (take place old.order) → IsWalked way links old old place
  walk_begins place short followed =
      record {
        vertices = refl;
        front = front_refl old.order;
        sound = λ t h. any_map _ _ old.order (λ u e. subst (Chain (IsStep way links) u) e here) h;
        followed = followed;
        short = short;
      }

  -- the next one is followed
  pub walk_goes_on : (found more : FoundView) (place v : ℕ) → IsWalked way links old found place → slice_get found.order place ≡ Some v → GainsSteps way links v found more
      → IsWalked way links old more (place + 1)
  walk_goes_on found more place v s at gains =
      let lt : place < length found.order = slice_get_within found.order place v at in
      let kept : (t : ℕ) → Has found.order t → Has more.order t = λ t k. (gains.members t).1 (inl k) in
      let front : take (place + 1) more.order ≡ take place found.order ++ v ∷ [] =
      ap (take (place + 1)) (sym gains.front.1) ∙ take-append-le (place + 1) found.order gains.front.0 (omega (arith, lt))
      ∙ take_more found.order place v lt ∙ ap (λ u. take place found.order ++ u ∷ []) (get_or_from_slice_get found.order place v v at) in
      record {
        vertices = gains.vertices ∙ s.vertices;
        front = front_trans old.order found.order more.order s.front gains.front;
        sound =
            λ t h. elim ((gains.members t).0 h) [
              | inl k ↦ s.sound t k
              | inr e ↦ any_map _ _ old.order (λ u c. onward c e) (s.sound v (has_place found.order place v at))
            ];
        followed =
            rw front
            (all_append _ (take place found.order) (v ∷ []) (all_map _ _ (take place found.order) (λ u f t e. kept t (f t e)) s.followed) ((λ t e. (gains.members t).1 (inr e)), tt));
        short = let l : length more.order ≡ length found.order + length gains.front.0 = ap length (sym gains.front.1) ∙ length-append found.order gains.front.0 in omega (arith, lt, l);
      }

  -- at the end all that was found was followed
  pub walk_ends : (found : FoundView) (place : ℕ) → IsWalked way links old found place → IsFoundOf found.marks found.order → length found.order ≤ place → Spreads way links old found
  walk_ends found place s is past =
      let all : AllIn (IsFollowedIn way links found.order) found.order = rw (take_all place found.order past) at s.followed in
      record {
        vertices = s.vertices;
        once = is;
        front = s.front;
        sound = s.sound;
        closed = λ u h. all_get _ found.order all u h;
      }

-- a search that begins: the first ones of the starts, those in front of a place, are found
pub record IsBegun (count : ℕ) (starts : List ℕ) (place : ℕ) (found : FoundView) : Type 0 where
  pub vertices : length found.marks ≡ count
  pub members : (v : ℕ) → Has found.order v ↔ Has (take place starts) v

module _ (count : ℕ) (starts : List ℕ) where
  pub one_more_begun : (found more : FoundView) (place : ℕ) → place < length starts → IsBegun count starts place found → AddsVertex found (get_or starts place 0) more → IsBegun count starts (place + 1) more
  one_more_begun found more place lt begun adds =
      let v : ℕ = get_or starts place 0 in
      record {
        vertices = adds.vertices ∙ begun.vertices;
        members =
            λ u. (
              λ h. rw (take_more starts place 0 lt) elim ((adds.members u).0 h) [
                | inl k ↦ has_longer (take place starts) (v ∷ []) u ((begun.members u).0 k)
                | inr e ↦ subst (Has (take place starts ++ v ∷ [])) (sym e) (has_last (take place starts) v)
              ],
              λ h. (adds.members u).1 elim (has_more (take place starts) v u (rw (take_more starts place 0 lt) at h)) [
                | inl k ↦ inl ((begun.members u).1 k)
                | inr e ↦ inr (sym e)
              ],
            );
      }

  -- where all starts were found and the search went to its end, just what they lead to is found
  pub reach_of_spread : (way : Way) (links : List Link) (old new : FoundView) (place : ℕ) → length starts ≤ place → IsBegun count starts place old → Spreads way links old new → IsReach way links count starts new
  reach_of_spread way links old new place past begun s =
      let all : (v : ℕ) → Has old.order v ↔ Has starts v = rw (take_all place starts past) at begun.members in
      record {
        vertices = s.vertices ∙ begun.vertices;
        once = s.once;
        exact =
            λ v. (
              λ h. let r : (u : ℕ) × Has old.order u × Chain (IsStep way links) u v = any_get _ old.order (s.sound v h) in
                  any_put _ starts r.0 ((all r.0).0 r.1) r.2,
              λ a. let r : (u : ℕ) × Has starts u × Chain (IsStep way links) u v = any_get _ starts a in
                  closed_keeps way links new.order r.0 v s.closed r.2 (any_front _ old.order new.order s.front ((all r.0).1 r.1)),
            );
      }

-- what is reached is closed under steps
pub reach_closed : (way : Way) (links : List Link) (count : ℕ) (starts : List ℕ) (found : FoundView) → IsReach way links count starts found → IsClosedUnder way links found.order
reach_closed way links count starts found r =
    λ u h v e. (r.exact v).1 (any_map _ _ starts (λ s c. onward c e) ((r.exact u).0 h))
