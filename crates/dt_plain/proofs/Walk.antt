-- The search along links: a list of what was found, of which the first ones were followed.
use Rattle.std.proofs.Common.{◌≡◌, ◌∙◌, ℕ, ◌+◌, ◌<◌, ◌≤◌, List, [], ◌∷◌, ◌++◌, length, get_or, take, map, refl, sym, ap, subst, inl, inr, arith, length-append}
use Rattle.std.proofs.Math.ListN.{length-map}
use Rattle.std.proofs.lemmas.List.{take_more, take_all, take-append-le}
use Rattle.dt_lists.specs.Lists.{AllIn, Has, Distinct}
use Rattle.dt_lists.proofs.Callers.{any_map, any_image, all_map, all_get, all_put, all_append, distinct_within, has_at}
use Rattle.dt_access.specs.declared.TxnId.{TxnId}
use Rattle.dt_sched.specs.Views.{Chain, here, onward}
use Rattle.dt_plain.specs.LinksInner.{IsLinked, Follows, AreReached}
use Rattle.dt_plain.specs.declared.search.Link.{Link}

-- the first `at` of what was found from `start` were followed
pub record IsWalked (links : List Link) (start : TxnId) (found : List TxnId) (at : ℕ) : Type 0 where
  pub begun : Has found start
  pub distinct : Distinct found
  pub sound : (t : TxnId) → Has found t → Chain (IsLinked links) start t
  pub followed : AllIn (λ u. (t : TxnId) → IsLinked links u t → Has found t) (take at found)
  pub short : at ≤ length found

-- at first the start is found, and nothing was followed
pub walk_begins : (links : List Link) (start : TxnId) → IsWalked links start (start ∷ []) 0
walk_begins links start =
    record {
      begun = inl refl;
      distinct = (tt, tt);
      sound = λ t h. elim h [ inl e ↦ subst (Chain (IsLinked links) start) e here | inr z ↦ absurd z ];
      followed = tt;
      short = omega arith;
    }

-- the next one is followed
pub walk_goes_on : (links : List Link) (start : TxnId) (found more : List TxnId) (at : ℕ) (d : TxnId) → IsWalked links start found at → at < length found
    → Follows links (get_or found at d) found more → IsWalked links start more (at + 1)
walk_goes_on links start found more at d w h f =
    let u : TxnId = get_or found at d in
    let kept : (t : TxnId) → Has found t → Has more t = λ t k. (f.members t).1 (inl k) in
    let front : take (at + 1) more ≡ take at found ++ u ∷ [] =
    ap (take (at + 1)) (sym f.front.1) ∙ take-append-le (at + 1) found f.front.0 (omega arith) ∙ take_more found at d h in
    record {
      begun = kept start w.begun;
      distinct = f.distinct;
      sound =
          λ t k. elim ((f.members t).0 k) [ inl a ↦ w.sound t a | inr e ↦ onward (w.sound u (has_at found at d h)) e ];
      followed =
          rw front
          (all_append _ (take at found) (u ∷ []) (all_map _ _ (take at found) (λ x s t e. kept t (s t e)) w.followed) ((λ t e. (f.members t).1 (inr e)), tt));
      short = let l : length more ≡ length found + length f.front.0 = ap length (sym f.front.1) ∙ length-append found f.front.0 in omega arith;
    }

-- what a chain leads to is its start, or a link leads to it
chain_target : (links : List Link) (s t : TxnId) → Chain (IsLinked links) s t → Has (s ∷ map (λ l. l.to) links) t
chain_target links s t here = inl refl
chain_target links s t (onward c e) = inr (any_image (λ y. y ≡ t) (λ l. l.to) links (any_map _ _ links (λ l p. p.1) e))

-- no more is found than the start and the targets of the links
pub found_bounded : (links : List Link) (start : TxnId) (found : List TxnId) (at : ℕ) → IsWalked links start found at → length found ≤ length links + 1
found_bounded links start found at w =
    let b : length found ≤ length (start ∷ map (λ l. l.to) links) =
    distinct_within found (start ∷ map (λ l. l.to) links) w.distinct (all_put _ found (λ t h. chain_target links start t (w.sound t h))) in
    omega (arith, b, length-map links (λ l. l.to))

-- what is closed under links and has the start has all that it leads to
walk_covers : (links : List Link) (found : List TxnId) → ((u t : TxnId) → Has found u → IsLinked links u t → Has found t) → (s t : TxnId) → Has found s → Chain (IsLinked links) s t → Has found t
walk_covers links found f s t h here = h
walk_covers links found f s t h (onward {y = y} c e) = f y t (walk_covers links found f s y h c) e

-- at the end all that was found was followed
pub walk_ends : (links : List Link) (start : TxnId) (found : List TxnId) (at : ℕ) → IsWalked links start found at → length found ≤ at → AreReached links start found
walk_ends links start found at w h =
    let all : AllIn (λ u. (t : TxnId) → IsLinked links u t → Has found t) found = rw (take_all at found h) at w.followed in
    record {
      distinct = w.distinct;
      members = λ t. (w.sound t, walk_covers links found (λ u v k e. all_get _ found all u k v e) start t w.begun);
    }
