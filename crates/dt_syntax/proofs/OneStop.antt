-- The first pass stops at one place, for one reason.
use Rattle.std.proofs.Common.{◌≡◌, ◌⊎◌, inl, inr, ℕ, true, false, List, [], ◌∷◌, ◌++◌, None, refl, sym, ap, ◌∙◌, subst, append_assoc}
use Rattle.std.proofs.lemmas.Bool.{true≢false}
use Rattle.dt_syntax.specs.declared.token.Placed.{Placed}
use Rattle.dt_syntax.specs.Tokens.{tokens_of}
use Rattle.dt_syntax.specs.Grammar.{InGrammar, Begins}
use Rattle.dt_syntax.specs.FirstPass.{is_too_many, NoneTooMany, backwards, StartsWell, FaultAfter}
use Rattle.dt_lists.proofs.Callers.{none_some, same_head, same_tail, some_same}

-- where a text stops being read, and why: with the front of its tokens that was read, and the rest
pub data Stop : Type 0 where
  wrong : ℕ → Stop
  many : ℕ → Stop
  end : Stop

abbrev pub Stops : List ℕ → List Placed → List Placed → Stop → Type 0
Stops text before after (wrong place) = FaultAfter text before after place
Stops text before [] (many place) = ⊥
Stops text before (t ∷ ts) (many place) = Begins (before ++ t ∷ []) × (is_too_many (backwards before []) t.token ≡ true) × (t.place ≡ place)
Stops text before [] end = ((tokens_of text).bad ≡ None) × InGrammar before
Stops text before (t ∷ ts) end = ⊥

-- at one place there is one reason
here : (text : List ℕ) (before after : List Placed) (a b : Stop) → Stops text before after a → Stops text before after b → a ≡ b
here text before [] (wrong p) (wrong q) (inl h) (inl k) = ap wrong (some_same (sym h ∙ k))
here text before [] (wrong p) (wrong q) (inl h) (inr k) = absurd (none_some k.0 h)
here text before [] (wrong p) (wrong q) (inr h) (inl k) = absurd (none_some h.0 k)
here text before [] (wrong p) (wrong q) (inr h) (inr k) = ap wrong (h.1 ∙ sym k.1)
here text before [] (wrong p) (many q) h k = absurd k
here text before [] (wrong p) end (inl h) k = absurd (none_some k.0 h)
here text before [] (wrong p) end (inr h) k = absurd (h.2 k.1)
here text before [] (many p) b h k = absurd h
here text before [] end (wrong q) h (inl k) = absurd (none_some h.0 k)
here text before [] end (wrong q) h (inr k) = absurd (k.2 h.1)
here text before [] end (many q) h k = absurd k
here text before [] end end h k = refl
here text before (t ∷ ts) (wrong p) (wrong q) h k = ap wrong (sym h.0 ∙ k.0)
here text before (t ∷ ts) (wrong p) (many q) h k = absurd (h.1 k.0)
here text before (t ∷ ts) (wrong p) end h k = absurd k
here text before (t ∷ ts) (many p) (wrong q) h k = absurd (k.1 h.0)
here text before (t ∷ ts) (many p) (many q) h k = ap many (sym h.2 ∙ k.2)
here text before (t ∷ ts) (many p) end h k = absurd k
here text before (t ∷ ts) end b h k = absurd h

begins_front : (ts us : List Placed) → Begins (ts ++ us) → Begins ts
begins_front ts us b = (us ++ b.0, subst InGrammar (append_assoc ts us b.0) b.1)

few_at : (earlier xs : List Placed) (t : Placed) (ys : List Placed) → NoneTooMany earlier (xs ++ t ∷ ys) → is_too_many (backwards xs earlier) t.token ≡ false
few_at earlier [] t ys h = h.0
few_at earlier (x ∷ xs) t ys h = few_at (x ∷ earlier) xs t ys h.1

-- what is read beyond a place does not stop there
beyond : (text : List ℕ) (before : List Placed) (t : Placed) (ts more : List Placed) (a : Stop) → Stops text before (t ∷ ts) a → Begins (before ++ t ∷ more) → NoneTooMany [] (before ++ t ∷ more) → ⊥
beyond text before t ts more (wrong p) h b few = h.1 (begins_front (before ++ t ∷ []) more (subst Begins (sym (append_assoc before (t ∷ []) more)) b))
beyond text before t ts more (many p) h b few = true≢false (sym h.1 ∙ few_at [] before t more few)
beyond text before t ts more end h b few = h

-- the second cut is further on
Further : List Placed → List Placed → List Placed → List Placed → Type 0
Further xs us ys vs = (t : Placed) × (more : List Placed) × (ys ≡ xs ++ t ∷ more) × (us ≡ t ∷ (more ++ vs))

-- two cuts of a list: at one place, or one of them further on
abbrev Cuts : List Placed → List Placed → List Placed → List Placed → Type 0
Cuts xs us ys vs = ((xs ≡ ys) × (us ≡ vs)) ⊎ (Further xs us ys vs ⊎ Further ys vs xs us)

one_more : (x y : Placed) (xs us ys vs : List Placed) → x ≡ y → Cuts xs us ys vs → Cuts (x ∷ xs) us (y ∷ ys) vs
unfolding Further
one_more x y xs us ys vs same (inl (e, f)) = inl ((λ i. same i ∷ e i), f)
one_more x y xs us ys vs same (inr (inl (t, more, e, f))) = inr (inl (t, more, (λ i. sym same i ∷ e i), f))
one_more x y xs us ys vs same (inr (inr (t, more, e, f))) = inr (inr (t, more, (λ i. same i ∷ e i), f))

cuts : (xs us ys vs : List Placed) → xs ++ us ≡ ys ++ vs → Cuts xs us ys vs
unfolding Further
cuts [] us [] vs e = inl (refl, e)
cuts [] us (y ∷ ys) vs e = inr (inl (y, ys, refl, e))
cuts (x ∷ xs) us [] vs e = inr (inr (x, xs, refl, sym e))
cuts (x ∷ xs) us (y ∷ ys) vs e =
    one_more x y xs us ys vs (same_head e) (cuts xs us ys vs (same_tail e))

-- where some tokens of the text are read, and then it stops
pub record Read (text : List ℕ) (a : Stop) : Type 0 where
  pub before : List Placed
  pub after : List Placed
  pub well : StartsWell text before after
  pub stops : Stops text before after a

pub one_stop : (text : List ℕ) (a b : Stop) → Read text a → Read text b → a ≡ b
unfolding Further
one_stop text a b r s = chosen (cuts r.before r.after s.before s.after (sym r.well.tokens ∙ s.well.tokens))
  where
    chosen : Cuts r.before r.after s.before s.after → a ≡ b
    chosen (inl (e, f)) = here text r.before r.after a b r.stops (subst (λ v. Stops text v r.after b) (sym e) (subst (λ v. Stops text s.before v b) (sym f) s.stops))
    chosen (inr (inl (t, more, e, f))) =
        absurd (beyond text r.before t (more ++ s.after) more a (subst (λ v. Stops text r.before v a) f r.stops) (subst Begins e s.well.begins) (subst (NoneTooMany []) e s.well.few))
    chosen (inr (inr (t, more, e, f))) =
        absurd (beyond text s.before t (more ++ r.after) more b (subst (λ v. Stops text s.before v b) f s.stops) (subst Begins e r.well.begins) (subst (NoneTooMany []) e r.well.few))

pub same_wrong : (p q : ℕ) → wrong p ≡ wrong q → p ≡ q
same_wrong p q e = cc

pub same_many : (p q : ℕ) → many p ≡ many q → p ≡ q
same_many p q e = cc
