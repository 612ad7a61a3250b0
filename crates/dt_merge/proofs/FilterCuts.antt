-- Where a list is cut by what a filter keeps of it.
use Rattle.std.proofs.Common.{◌≡◌, ◌⊎◌, Bool, true, false, List, [], ◌∷◌, ◌++◌, refl, sym, ap, ap₂, ◌∙◌, inl, inr, append_assoc, append-nil}
use Rattle.std.specs.Prelude.{filter}
use Rattle.std.proofs.lemmas.Bool.{cases_Bool}
use Rattle.std.proofs.lemmas.List.Elements.{filter-append}
use Rattle.dt_lists.specs.Lists.{IsFront}
use Rattle.dt_lists.proofs.Callers.{both_empty, same_head, same_rest, same_tail}

-- a list goes on with x after a front, of which the filter keeps xs
pub record Cut {A : Type 0} (p : A → Bool) (ys xs : List A) (x : A) : Type 0 where
  pub front : List A
  pub rest : List A
  pub is : ys ≡ front ++ x ∷ rest
  pub passed : filter p front ≡ xs

-- a list has a front, of which the filter keeps xs
pub record Part {A : Type 0} (p : A → Bool) (ys xs : List A) : Type 0 where
  pub front : List A
  pub rest : List A
  pub is : ys ≡ front ++ rest
  pub passed : filter p front ≡ xs

module _ {A : Type 0} (p : A → Bool) where
  pub filter_yes : (y : A) (ys : List A) → p y ≡ true → filter p (y ∷ ys) ≡ y ∷ filter p ys
  filter_yes y ys t = rw t refl

  pub filter_no : (y : A) (ys : List A) → p y ≡ false → filter p (y ∷ ys) ≡ filter p ys
  filter_no y ys n = rw n refl

  -- a front of what is kept is what is kept of a front
  pub part_of_front : (ys xs : List A) → IsFront xs (filter p ys) → Part p ys xs
  part_of_front [] xs f = record { front = []; rest = []; is = refl; passed = sym (both_empty xs f.0 f.1).0 }
  part_of_front (y ∷ ys) xs f = go (cases_Bool (p y)) xs f (λ zs h. part_of_front ys zs h)
    where
      go : (p y ≡ true) ⊎ (p y ≡ false) → (zs : List A) → IsFront zs (filter p (y ∷ ys)) → ((us : List A) → IsFront us (filter p ys) → Part p ys us) → Part p (y ∷ ys) zs
      go (inl t) [] h more = record { front = []; rest = y ∷ ys; is = refl; passed = refl }
      go (inl t) (z ∷ zs) h more =
          let e : z ∷ (zs ++ h.0) ≡ y ∷ filter p ys = h.1 ∙ filter_yes y ys t in
          let r : Part p ys zs = more zs (h.0, same_tail e) in
          record { front = y ∷ r.front; rest = r.rest; is = ap (λ l. y ∷ l) r.is; passed = filter_yes y r.front t ∙ ap₂ ◌∷◌ (sym (same_head e)) r.passed }
      go (inr n) zs h more =
          let r : Part p ys zs = more zs (h.0, h.1 ∙ filter_no y ys n) in
          record { front = y ∷ r.front; rest = r.rest; is = ap (λ l. y ∷ l) r.is; passed = filter_no y r.front n ∙ r.passed }

  -- where what is kept begins with x, the list goes on with x after a front of which nothing is kept
  first_kept : (ys : List A) (x : A) (later : List A) → x ∷ later ≡ filter p ys → Cut p ys [] x
  first_kept [] x later e = cc
  first_kept (y ∷ ys) x later e = go (cases_Bool (p y)) (λ h. first_kept ys x later h)
    where
      go : (p y ≡ true) ⊎ (p y ≡ false) → (x ∷ later ≡ filter p ys → Cut p ys [] x) → Cut p (y ∷ ys) [] x
      go (inl t) more = record { front = []; rest = ys; is = ap (λ z. z ∷ ys) (sym (same_head (e ∙ filter_yes y ys t))); passed = refl }
      go (inr n) more =
          let r : Cut p ys [] x = more (e ∙ filter_no y ys n) in
          record { front = y ∷ r.front; rest = r.rest; is = ap (λ l. y ∷ l) r.is; passed = filter_no y r.front n ∙ r.passed }

  -- where what is kept goes on with x after xs, the list goes on with x after a front with xs
  pub cut_at : (ys xs : List A) (x : A) → IsFront (xs ++ x ∷ []) (filter p ys) → Cut p ys xs x
  cut_at ys xs x f =
      let whole : xs ++ x ∷ f.0 ≡ filter p ys = sym (append_assoc xs (x ∷ []) f.0) ∙ f.1 in
      let a : Part p ys xs = part_of_front ys xs (x ∷ f.0, whole) in
      let kept : xs ++ x ∷ f.0 ≡ xs ++ filter p a.rest = whole ∙ ap (filter p) a.is ∙ filter-append p a.front a.rest ∙ ap (λ l. l ++ filter p a.rest) a.passed in
      let b : Cut p a.rest [] x = first_kept a.rest x f.0 (same_rest xs (x ∷ f.0) (filter p a.rest) kept) in
      record {
        front = a.front ++ b.front;
        rest = b.rest;
        is = a.is ∙ ap (λ l. a.front ++ l) b.is ∙ sym (append_assoc a.front b.front (x ∷ b.rest));
        passed = filter-append p a.front b.front ∙ ap₂ ◌++◌ a.passed b.passed ∙ append-nil xs;
      }

-- of two fronts of one list, one goes on where the other ends
pub two_fronts : {A : Type 0} (a b c d : List A) → a ++ b ≡ c ++ d → ((x : List A) × (c ≡ a ++ x)) ⊎ ((x : List A) × (a ≡ c ++ x))
two_fronts [] b c d e = inl (c, refl)
two_fronts (y ∷ a) b [] d e = inr (y ∷ a, refl)
two_fronts (y ∷ a) b (z ∷ c) d e = elim (two_fronts a b c d (same_tail e)) [
  | inl r ↦ inl (r.0, ap₂ ◌∷◌ (sym (same_head e)) r.1)
  | inr r ↦ inr (r.0, ap₂ ◌∷◌ (same_head e) r.1)
]

-- what goes on and stays the same goes on with nothing
pub nothing_more : {A : Type 0} (xs ys : List A) → xs ++ ys ≡ xs → ys ≡ []
nothing_more [] ys e = e
nothing_more (x ∷ xs) ys e = nothing_more xs ys (same_tail e)

-- two fronts of one list of which the filter keeps the same differ by what it does not keep
pub same_kept : {A : Type 0} (p : A → Bool) (a x : List A) → filter p (a ++ x) ≡ filter p a → filter p x ≡ []
same_kept p a x e = nothing_more (filter p a) (filter p x) (sym (filter-append p a x) ∙ e)
