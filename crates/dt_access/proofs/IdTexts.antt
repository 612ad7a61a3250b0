-- An id's printed form is taken apart in one way only.
use Rattle.std.proofs.Common.{◌≡◌, ◌≢◌, ◌⊎◌, inl, inr, ap, ℕ, zero, suc, ◌<◌, ◌^◌, List, [], ◌∷◌, ◌++◌, Contains, None, Result, Ok, Err, refl, sym, ◌∙◌, subst, arith}
use Rattle.std.specs.Fmt.{decimal}
use Rattle.std.specs.Str.Parse.{AllDigits}
use Rattle.std.specs.Char.{digit_value}
use Rattle.std.specs.Result.{OkIff, result_ok}
use Rattle.std.proofs.lemmas.Fmt.{decimal_is_IsNumeral, decimal_injective}
use Rattle.std.proofs.lemmas.List.Elements.{Contains-append_right}
use Rattle.dt_lists.specs.Lists.{Either}
use Rattle.dt_lists.proofs.Callers.{either_nat, same_head, same_tail}
use Rattle.dt_text.proofs.Callers.{SpellsBelow, either_lt, either_spelled}
use Rattle.dt_access.specs.declared.id.TxnId.{TxnId}
use Rattle.dt_access.specs.Ids.{id_text, IsCounted}

-- a dot is no digit
no_dot : (ds : List ℕ) → AllDigits 10 ds → ¬ Contains ds 46
no_dot [] all (k, lt, e) = absurd (omega arith)
no_dot (d ∷ ds) all (zero, lt, e) =
    let low : digit_value d < 10 = all.0 in absurd (omega (arith, subst (λ x. digit_value x < 10) e low))
no_dot (d ∷ ds) all (suc k, lt, e) = no_dot ds all.1 (k, omega arith, e)

-- what a list lacks, its rest lacks
Contains-rest : (x : ℕ) (xs : List ℕ) → ¬ Contains (x ∷ xs) 46 → ¬ Contains xs 46
Contains-rest x xs none (k, lt, e) = none (suc k, omega arith, e)

Contains-head : (x : ℕ) (xs : List ℕ) → ¬ Contains (x ∷ xs) 46 → x ≢ 46
Contains-head x xs none e = none (0, omega arith, e)

-- two lists are cut at their first dot into the same parts
cut_once : (f g b d : List ℕ) → ¬ Contains f 46 → ¬ Contains g 46 → f ++ 46 ∷ b ≡ g ++ 46 ∷ d → (f ≡ g) × (b ≡ d)
cut_once [] [] b d nf ng e = (refl, same_tail e)
cut_once [] (y ∷ g) b d nf ng e = absurd (Contains-head y g ng (sym (same_head e)))
cut_once (x ∷ f) [] b d nf ng e = absurd (Contains-head x f nf (same_head e))
cut_once (x ∷ f) (y ∷ g) b d nf ng e =
    let rest = cut_once f g b d (Contains-rest x f nf) (Contains-rest y g ng) (same_tail e) in
    ((λ i. same_head e i ∷ rest.0 i), rest.1)

-- what is cut at its first dot and is the printed form of an id is cut into the id's two numbers
pub id_parts : (word f b : List ℕ) → word ≡ f ++ 46 ∷ b → ¬ Contains f 46 → (id : TxnId) → IsCounted id → word ≡ id_text id → (f ≡ decimal id.seq) × (b ≡ decimal id.region)
id_parts word f b cut nf id counted e =
    cut_once f (decimal id.seq) b (decimal id.region) nf (no_dot (decimal id.seq) (decimal_is_IsNumeral id.seq (omega (arith, counted))).0.1) (sym cut ∙ e)

-- what has no dot is the printed form of no id
pub id_text-dot : (word : List ℕ) → ¬ Contains word 46 → (id : TxnId) → word ≢ id_text id
id_text-dot word none id e =
    none (subst (λ w. Contains w 46) (sym e) (Contains-append_right (decimal id.seq) (46 ∷ decimal id.region) 46 (0, omega arith, refl)))

-- a number that was not cast to 8 bits has more
pub cast-refused : {E : Type 0} (r : Result ℕ E) (n : ℕ) → OkIff r (n < 2 ^ 8) n → None ≡ result_ok r → ¬ (n < 2 ^ 8)
cast-refused (Ok m) n told none = cc
cast-refused (Err e) n told none = told

-- ids with the same printed form are the same
pub id_text-injective : (a b : TxnId) → IsCounted a → IsCounted b → id_text a ≡ id_text b → a ≡ b
id_text-injective a b counted_a counted_b same =
    let parts = id_parts (id_text a) (decimal a.seq) (decimal a.region) refl (no_dot (decimal a.seq) (decimal_is_IsNumeral a.seq (omega (arith, counted_a))).0.1) b counted_b same in
    let seq : a.seq ≡ b.seq = decimal_injective a.seq b.seq (omega (arith, counted_a)) (omega (arith, counted_b)) parts.0 in
    let region : a.region ≡ b.region = decimal_injective a.region b.region (omega (arith, counted_a)) (omega (arith, counted_b)) parts.1 in
    λ i. record { seq = seq i; region = region i }

-- ---- whether a word spells an id

keeps_none : (x : ℕ) (xs : List ℕ) → x ≢ 46 → ¬ Contains xs 46 → ¬ Contains (x ∷ xs) 46
keeps_none x xs other none (zero, lt, e) = other e
keeps_none x xs other none (suc k, lt, e) = none (k, omega arith, e)

-- a word is cut at its first dot, or has none
abbrev Cut : List ℕ → Type 0
Cut word = ((f : List ℕ) × (b : List ℕ) × (word ≡ f ++ 46 ∷ b) × ¬ Contains f 46) ⊎ ¬ Contains word 46

cut_at_dot : (word : List ℕ) → Cut word
cut_at_dot [] = inr (λ (k, lt, e). omega (arith, lt))
cut_at_dot (x ∷ xs) = by (either_nat x 46) (cut_at_dot xs)
  where
    by : Either (x ≡ 46) → Cut xs → Cut (x ∷ xs)
    by (inl dot) rest = inl ([], xs, ap (λ v. v ∷ xs) dot, λ (k, lt, e). omega (arith, lt))
    by (inr other) (inl (f, b, cut, none)) = inl (x ∷ f, b, ap (λ v. x ∷ v) cut, keeps_none x f other none)
    by (inr other) (inr none) = inr (keeps_none x xs other none)

pub either_id_text : (word : List ℕ) → Either ((id : TxnId) × IsCounted id × (word ≡ id_text id))
either_id_text word = by (cut_at_dot word)
  where
    by : Cut word → Either ((id : TxnId) × IsCounted id × (word ≡ id_text id))
    by (inr none) = inr (λ (id, counted, e). id_text-dot word none id e)
    by (inl (f, b, cut, none)) = parts (either_spelled (2 ^ 32) (omega arith) f) (either_spelled (2 ^ 8) (omega arith) b)
      where
        first : (n : ℕ) (is : f ≡ decimal n) → n < 2 ^ 32 → Either (0 < n) → (m : ℕ) → m < 2 ^ 8 → b ≡ decimal m → Either ((id : TxnId) × IsCounted id × (word ≡ id_text id))
        first n is small (inl some) m low same = inl (record { seq = n; region = m }, (some, small, low), cut ∙ λ i. is i ++ 46 ∷ same i)
        first n is small (inr nothing) m low same =
            inr (λ (id, counted, e). nothing (subst (λ k. 0 < k)
            (sym (decimal_injective n id.seq (omega (arith, small)) (omega (arith, counted)) (sym is ∙ (id_parts word f b cut none id counted e).0))) counted.0))

        parts : Either (SpellsBelow (2 ^ 32) f) → Either (SpellsBelow (2 ^ 8) b) → Either ((id : TxnId) × IsCounted id × (word ≡ id_text id))
        parts (inl (n, small, is)) (inl (m, low, same)) = first n is small (either_lt 0 n) m low same
        parts (inr other) low = inr (λ (id, counted, e). other (id.seq, counted.1, (id_parts word f b cut none id counted e).0))
        parts (inl small) (inr other) = inr (λ (id, counted, e). other (id.region, counted.2, (id_parts word f b cut none id counted e).1))
