-- Granules: the keys of one granule are the granule itself and those that begin with it and a `/`, and these stand side by
-- side in the order of keys.
use Rattle.std.proofs.Common.{◌≡◌, ◌⊎◌, ℕ, suc, ◌+◌, ◌≤◌, Bool, true, false, not, cond, ◌==◌, nat_lt, [], ◌∷◌, ◌++◌}
use Rattle.std.proofs.Common.{length, take, drop, position, Some, None, refl, ap, sym, ◌∙◌, inl, inr, eqb-true, arith}
use Rattle.std.specs.List.{take_while, prefix_len, list_all}
use Rattle.std.proofs.lemmas.Bool.{and_parts, and_from, not-false}
use Rattle.std.proofs.lemmas.Bool.Decides.{nat_tests}
use Rattle.std.proofs.lemmas.List.{take_all, length-take, take-append-drop}
use Rattle.std.proofs.lemmas.List.Folds.{list_all-append}
use Rattle.std.proofs.lemmas.List.Sums.{take_while-cons}
use Rattle.dt_lists.proofs.Callers.{same_tail}
use Rattle.dt_text.specs.Texts.{IsKey, is_key_byte}
use Rattle.dt_access.specs.Granules.{Bytes, granule_of, unit_of}

-- whether a byte is no `/`
abbrev inner : ℕ → Bool
inner b = not (b == 47)

-- what stands before the first `/` of a list whose first byte is none, or is one
step_inner : (b : ℕ) (bs : Bytes) → inner b ≡ true → take_while inner (b ∷ bs) ≡ b ∷ take_while inner bs
step_inner b bs e = take_while-cons inner b bs ∙ ap (λ t. cond t (b ∷ take_while inner bs) []) e

step_slash : (b : ℕ) (bs : Bytes) → inner b ≡ false → take_while inner (b ∷ bs) ≡ []
step_slash b bs e = take_while-cons inner b bs ∙ ap (λ t. cond t (b ∷ take_while inner bs) []) e

-- a byte is a `/` or is none
by_byte : (P : Type 0) (b : ℕ) → (inner b ≡ true → P) → (inner b ≡ false → P) → P
by_byte P b f g = by (inner b) refl
  where
    by : (t : Bool) → inner b ≡ t → P
    by true e = f e
    by false e = g e

abbrev IsSplit : Bytes → Type 0
IsSplit bs = (bs ≡ take_while inner bs) ⊎ ((rest : Bytes) × (bs ≡ take_while inner bs ++ 47 ∷ rest))

-- the bytes before the first `/` are all, or the first `/` follows them
split_at_slash : (bs : Bytes) → IsSplit bs
split_at_slash [] = inl refl
split_at_slash (b ∷ bs) =
    let after : IsSplit bs = split_at_slash bs in
    by_byte (IsSplit (b ∷ bs)) b
    (λ e. elim after [
      | inl s ↦ inl (ap (λ t. b ∷ t) s ∙ sym (step_inner b bs e))
      | inr s ↦ inr (s.0, ap (λ t. b ∷ t) s.1 ∙ ap (λ t. t ++ 47 ∷ s.0) (sym (step_inner b bs e)))
    ])
    (λ e. inr (bs, ap (λ t. t ∷ bs) (eqb-true b 47 (not-false (b == 47) e)) ∙ ap (λ t. t ++ 47 ∷ bs) (sym (step_slash b bs e))))

-- before the first `/` of the bytes before the first `/` stand all of them
before_slash_again : (bs : Bytes) → take_while inner (take_while inner bs) ≡ take_while inner bs
before_slash_again [] = refl
before_slash_again (b ∷ bs) =
    let after : take_while inner (take_while inner bs) ≡ take_while inner bs = before_slash_again bs in
    by_byte (take_while inner (take_while inner (b ∷ bs)) ≡ take_while inner (b ∷ bs)) b
    (λ e. ap (take_while inner) (step_inner b bs e) ∙ step_inner b (take_while inner bs) e ∙ ap (λ t. b ∷ t) after ∙ sym (step_inner b bs e))
    (λ e. ap (take_while inner) (step_slash b bs e) ∙ sym (step_slash b bs e))

-- bytes without a `/` are what stands before the first `/` of them and what a `/` begins behind them
before_slash_of_row : (bs rest : Bytes) → take_while inner bs ≡ bs → take_while inner (bs ++ 47 ∷ rest) ≡ bs
before_slash_of_row [] rest h = step_slash 47 rest refl
before_slash_of_row (b ∷ bs) rest h =
    let after : take_while inner bs ≡ bs → take_while inner (bs ++ 47 ∷ rest) ≡ bs = before_slash_of_row bs rest in
    by_byte (take_while inner (b ∷ (bs ++ 47 ∷ rest)) ≡ b ∷ bs) b
    (λ e. step_inner b (bs ++ 47 ∷ rest) e ∙ ap (λ t. b ∷ t) (after (same_tail (sym (step_inner b bs e) ∙ h))))
    (λ e. let none : [] ≡ b ∷ bs = sym (step_slash b bs e) ∙ h in cc)

-- a granule is its own granule
pub granule_again : (key : Bytes) → granule_of (granule_of key) ≡ granule_of key
granule_again [] = refl
granule_again (b ∷ bs) = ap (λ t. b ∷ t) (before_slash_again bs)

-- a key of a granule is the granule, or the granule with a `/` and more behind it
pub key_of_granule : (key : Bytes) → (key ≡ granule_of key) ⊎ ((rest : Bytes) × (key ≡ granule_of key ++ 47 ∷ rest))
key_of_granule [] = inl refl
key_of_granule (b ∷ bs) = elim (split_at_slash bs) [
  | inl s ↦ inl (ap (λ t. b ∷ t) s)
  | inr s ↦ inr (s.0, ap (λ t. b ∷ t) s.1)
]

-- what has a `/` behind a granule of some key is of that granule
pub granule_of_row : (key rest : Bytes) → ¬ (key ≡ []) → granule_of (granule_of key ++ 47 ∷ rest) ≡ granule_of key
granule_of_row [] rest some = absurd (some refl)
granule_of_row (b ∷ bs) rest some = ap (λ t. b ∷ t) (before_slash_of_row (take_while inner bs) rest (before_slash_again bs))

-- a unit is its own unit
pub unit_again : (version : ℕ) (key : Bytes) → unit_of version (unit_of version key) ≡ unit_of version key
unit_again version key = by (version == 2)
  where
    by : (t : Bool) → cond t (granule_of (cond t (granule_of key) key)) (cond t (granule_of key) key) ≡ cond t (granule_of key) key
    by true = granule_again key
    by false = refl

-- ---- how a granule is cut off its key

-- up to the first `/` behind the first byte, if there is one
some_place : (b : Bool) (n place : ℕ) → Some place ≡ cond b (Some n) None → place ≡ n
some_place true n place e = cc
some_place false n place e = cc

no_place : (b : Bool) (n : ℕ) → None ≡ cond b (Some n) None → b ≡ false
no_place true n e = cc
no_place false n e = refl

pub cut_at_slash : (key rest : Bytes) (first place : ℕ) → key ≡ first ∷ rest → Some place ≡ position (λ b. b == 47) rest → take (place + 1) key ≡ granule_of key
cut_at_slash key rest first place whole at =
    let e : place ≡ prefix_len inner rest = some_place _ _ place at in
    let n : place + 1 ≡ suc place = omega arith in
    ap (λ k. take (place + 1) k) whole ∙ ap (λ n. take n (first ∷ rest)) n ∙ ap (λ p. first ∷ take p rest) e ∙ ap granule_of (sym whole)

-- the whole key where there is none
pub cut_nowhere : (key rest : Bytes) (first : ℕ) → key ≡ first ∷ rest → None ≡ position (λ b. b == 47) rest → key ≡ granule_of key
cut_nowhere key rest first whole at =
    let past : nat_lt (prefix_len inner rest) (length rest) ≡ false = no_place _ (prefix_len inner rest) at in
    whole ∙ ap (λ t. first ∷ t) (sym (take_all (prefix_len inner rest) rest (grind (arith, nat_tests)))) ∙ ap granule_of (sym whole)

-- a granule is a key
list_all_take : (p : ℕ → Bool) (n : ℕ) (bs : Bytes) → list_all p bs ≡ true → list_all p (take n bs) ≡ true
list_all_take p n bs all = (and_parts _ _ (sym (list_all-append p (take n bs) (drop n bs)) ∙ ap (list_all p) (take-append-drop n bs) ∙ all)).0

pub granule_is_key : (key : Bytes) → IsKey key → IsKey (granule_of key)
granule_is_key [] k = absurd (omega (arith, k))
granule_is_key (b ∷ bs) k =
    let n : ℕ = prefix_len inner bs in
    let short : length (take n bs) ≤ length bs = omega (arith, length-take n bs) in
    let parts : (is_key_byte b ≡ true) × (list_all is_key_byte bs ≡ true) = and_parts _ _ k.2 in
    (omega arith, omega (arith, short, k), and_from _ _ parts.0 (list_all_take is_key_byte n bs parts.1))
