-- A home is asked by a push to its list, and asking homes can be taken back.
use Rattle.std.proofs.Common.{◌≡◌, ◌<◌, ◌+◌, ◌⊎◌, ℕ, List, [], ◌∷◌, ◌++◌, length, get_or, set, Some, None, ap, ap₂, subst, sym, refl, ◌∙◌, inl, inr, true≢false, arith, Result, Ok, Err, OnOk, OnErr}
use Rattle.std.specs.Prelude.{Option, IsSome, option_to_list}
use Rattle.std.proofs.lemmas.List.{length_push, length-set, get_or-set_same, get_or_read_under, same_from_push, set-get_or, set-set}

-- a list whose last item is taken off is as before that item came
before_push : {A : Type 0} (xs was now : List A) (x : A) (last : Option A) → was ≡ xs ++ x ∷ [] → was ≡ now ++ option_to_list last → IsSome last ⊎ (was ≡ []) → now ≡ xs
before_push xs was now x (Some y) pushed taken some = (same_from_push now xs y x (sym taken ∙ pushed)).0
before_push xs was now x None pushed taken (inl some) = absurd (true≢false (sym some))
before_push xs was now x None pushed taken (inr none) = let long : 0 ≡ length xs + 1 = ap length (sym none ∙ pushed) ∙ length_push xs x in absurd (omega arith)

-- an id that was asked last is taken back
pub taken_back : {A : Type 0} (lists items : List (List A)) (home : ℕ) (x : A) (was now : List A) (last : Option A) → home < length items → items ≡ set lists home (get_or lists home [] ++ x ∷ [])
    → was ≡ get_or items home was → was ≡ now ++ option_to_list last → IsSome last ⊎ (was ≡ []) → set items home now ≡ lists
taken_back lists items home x was now last lt e w taken some =
    let within : home < length lists = subst (λ k. home < k) (ap length e ∙ length-set lists home (get_or lists home [] ++ x ∷ [])) lt in
    let was_is : was ≡ get_or lists home [] ++ x ∷ [] = w ∙ ap (λ i. get_or i home was) e ∙ get_or-set_same lists home (get_or lists home [] ++ x ∷ []) was within in
    ap₂ (λ i y. set i home y) e (before_push (get_or lists home []) was now x last was_is taken some)
    ∙ set-set lists home (get_or lists home [] ++ x ∷ []) (get_or lists home []) ∙ set-get_or lists home []

-- the list of a home, read as it is there, is pushed to, or stays
module _ {A T E : Type 0} (lists : List (List A)) (home : ℕ) (was now : List A) (lt : home < length lists) (w : was ≡ get_or lists home was) where
  pub asked_one : (x : A) (r : Result T E) → OnOk r (now ≡ was ++ x ∷ []) → OnOk r (set lists home now ≡ set lists home (get_or lists home [] ++ x ∷ []))
  asked_one x (Ok _) e = ap (set lists home) (e ∙ ap (λ l. l ++ x ∷ []) (get_or_read_under lists home (length lists) was [] w lt refl))
  asked_one x (Err _) e = tt

  pub asked_none : (r : Result T E) → OnErr r (now ≡ was) → OnErr r (set lists home now ≡ lists)
  asked_none (Ok _) e = tt
  asked_none (Err _) e = ap (set lists home) (e ∙ get_or_read_under lists home (length lists) was [] w lt refl) ∙ set-get_or lists home []
