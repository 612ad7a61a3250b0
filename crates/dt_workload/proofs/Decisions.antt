-- What of a workload file is decided: which words say a form, and what each need of a line comes to.
use Rattle.std.proofs.Common.{◌≡◌, ◌≢◌, ◌⊎◌, inl, inr, ℕ, ◌<◌, ◌≤◌, ◌^◌, ℤ, pos, neg_ℤ, w64, FitsSigned, List, [], ◌∷◌, ◌++◌, map, get_or}
use Rattle.std.proofs.Common.{codes, Option, Some, None, refl, sym, ap, ap₂, ◌∙◌, subst, arith}
use Rattle.std.specs.Option.{SomeIff}
use Rattle.std.specs.Fmt.{decimal, signed_decimal}
use Rattle.dt_lists.specs.Lists.{AllIn, Either}
use Rattle.dt_lists.proofs.Callers.{either_and, either_or, either_same, either_all, either_nat, either_le, same_head, same_tail, same_rest}
use Rattle.dt_text.specs.Texts.{IsStr}
use Rattle.dt_text.specs.Numbers.{ReadsSignedNumber}
use Rattle.dt_text.specs.Values.{IsRowValue}
use Rattle.dt_text.proofs.Callers.{SpellsBelow, either_bytes, either_lt, either_spelled, either_str, minus_none, minus_some, plain_none, plain_some}
use Rattle.dt_text.specs.declared.Value.{Value}
use Rattle.dt_text.specs.declared.Value.TheVariants.{Int, Text}
use Rattle.dt_text.specs.Texts.{Bytes}
use Rattle.dt_workload.proofs.OneForm.{same_bare, same_quoted}
use Rattle.dt_workload.specs.Lines.{Said, bare, quoted, Form, session_line, call_line, move_line, argument_word, IsRanked, other_words, SpellForm, IsForm}

-- ---- numbers

fits_plain : (n : ℕ) → (r : Option ℤ) × SomeIff r (FitsSigned w64 (pos n)) (pos n)
fits_plain n = by (either_lt n (2 ^ 63))
  where
    by : Either (n < 2 ^ 63) → (r : Option ℤ) × SomeIff r (FitsSigned w64 (pos n)) (pos n)
    by (inl small) = (Some (pos n), (omega (arith, small), refl))
    by (inr large) = (None, λ fits. large (omega (arith, fits)))

fits_minus : (n : ℕ) (z : ℤ) → (r : Option ℤ) × SomeIff r ((0 < n) × (n ≤ 2 ^ 63)) z
fits_minus n z = by (either_and (0 < n) (n ≤ 2 ^ 63) (either_lt 0 n) (either_le n (2 ^ 63)))
  where
    by : Either ((0 < n) × (n ≤ 2 ^ 63)) → (r : Option ℤ) × SomeIff r ((0 < n) × (n ≤ 2 ^ 63)) z
    by (inl fits) = (Some z, (fits, refl))
    by (inr not_so) = (None, not_so)

read_minus : (bs ds : Bytes) → bs ≡ 45 ∷ ds → Either (SpellsBelow (2 ^ 64) ds) → (r : Option ℤ) × ReadsSignedNumber bs r
read_minus bs ds minus (inl (n, small, is)) = let r = fits_minus n (neg_ℤ (pos n)) in (r.0, minus_some bs ds n r.0 minus small is r.1)
read_minus bs ds minus (inr not_so) = (None, minus_none bs ds minus (λ n small is. not_so (n, small, is)))

read_plain : (bs : Bytes) → get_or bs 0 0 ≢ 45 → Either (SpellsBelow (2 ^ 64) bs) → (r : Option ℤ) × ReadsSignedNumber bs r
read_plain bs plain (inl (n, small, is)) = let r = fits_plain n in (r.0, plain_some bs n r.0 small is r.1)
read_plain bs plain (inr not_so) = (None, plain_none bs plain (λ n small is. not_so (n, small, is)))

-- each word is read as a number with a sign, or as none
read_signed : (bs : Bytes) → (r : Option ℤ) × ReadsSignedNumber bs r
read_signed [] = read_plain [] (λ e. absurd (omega (arith, e))) (either_spelled (2 ^ 64) (omega arith) [])
read_signed (b ∷ bs) = by (either_nat b 45)
  where
    by : Either (b ≡ 45) → (r : Option ℤ) × ReadsSignedNumber (b ∷ bs) r
    by (inl minus) = read_minus (b ∷ bs) bs (ap (λ c. c ∷ bs) minus) (either_spelled (2 ^ 64) (omega arith) bs)
    by (inr plain) = read_plain (b ∷ bs) plain (either_spelled (2 ^ 64) (omega arith) (b ∷ bs))

abbrev SpellsSigned : Bytes → Type 0
SpellsSigned bs = (z : ℤ) × FitsSigned w64 z × (bs ≡ signed_decimal z)

either_signed : (bs : Bytes) → Either (SpellsSigned bs)
either_signed bs = by (read_signed bs)
  where
    by : (r : Option ℤ) × ReadsSignedNumber bs r → Either (SpellsSigned bs)
    by (None, not_so) = inr (λ (z, fits, is). not_so z fits is)
    by (Some z, so) = inl (z, so.0, so.1)

-- ---- what words say

abbrev SaysNumber : Said → Type 0
SaysNumber s = (n : ℕ) × (n < 2 ^ 32) × (s ≡ bare (decimal n))

either_says_number : (s : Said) → Either (SaysNumber s)
either_says_number (bare bs) = either_same (SpellsBelow (2 ^ 32) bs) _ (λ (n, small, is). (n, small, ap bare is)) (λ (n, small, is). (n, small, same_bare is)) (either_spelled (2 ^ 32) (omega arith) bs)
either_says_number (quoted bs) = inr (λ (n, small, is). cc)

either_is_bare : (s : Said) (bs : Bytes) → Either (s ≡ bare bs)
either_is_bare (bare a) b = either_same (a ≡ b) _ (ap bare) (λ e. cc) (either_bytes a b)
either_is_bare (quoted a) b = inr (λ e. cc)

either_bare : (s : Said) → Either ((bs : Bytes) × (s ≡ bare bs))
either_bare (bare bs) = inl (bs, refl)
either_bare (quoted bs) = inr (λ (a, e). cc)

abbrev SaysArgument : Said → Type 0
SaysArgument s = (v : Value) × IsRowValue v × (s ≡ argument_word v)

either_says_argument : (s : Said) → Either (SaysArgument s)
either_says_argument (bare bs) = either_same (SpellsSigned bs) (SaysArgument (bare bs)) (λ (z, fits, is). (Int z, fits, ap bare is)) back (either_signed bs)
  where
    back : SaysArgument (bare bs) → SpellsSigned bs
    back (Int z, fits, is) = (z, fits, cc)
    back (Text t, fits, is) = absurd cc
either_says_argument (quoted t) = either_same (IsStr t) (SaysArgument (quoted t)) (λ is. (Text t, is, refl)) back (either_str t)
  where
    back : SaysArgument (quoted t) → IsStr t
    back (Int z, fits, is) = absurd cc
    back (Text u, fits, is) = subst IsStr (sym (same_quoted is)) fits

abbrev SayArguments : List Said → Type 0
SayArguments saids = (args : List Value) × AllIn IsRowValue args × (saids ≡ map argument_word args)

arguments_of : (saids : List Said) → AllIn SaysArgument saids → SayArguments saids
arguments_of [] all = ([], tt, refl)
arguments_of (s ∷ saids) all =
    let rest = arguments_of saids all.1 in
    (all.0.0 ∷ rest.0, (all.0.1, rest.1), ap₂ (λ x xs. x ∷ xs) all.0.2 rest.2)

arguments_say : (saids : List Said) (args : List Value) → AllIn IsRowValue args → saids ≡ map argument_word args → AllIn SaysArgument saids
arguments_say [] args all is = tt
arguments_say (s ∷ saids) [] all is = absurd cc
arguments_say (s ∷ saids) (v ∷ args) all is = ((v, all.0, same_head is), arguments_say saids args all.1 (same_tail is))

either_arguments : (saids : List Said) → Either (SayArguments saids)
either_arguments saids =
    either_same (AllIn SaysArgument saids) _ (arguments_of saids) (λ (args, all, is). arguments_say saids args all is)
    (either_all SaysArgument saids either_says_argument)

-- ---- forms

-- a word that begins a line of this kind, with its rank
abbrev SaysRank : Bytes → Said → Type 0
SaysRank kind s = (rank : ℕ) × (rank < 10) × IsRanked kind rank s

after_kind : (kind word : Bytes) → Either ((rest : Bytes) × (word ≡ kind ++ 47 ∷ rest))
after_kind [] [] = inr (λ (rest, e). cc)
after_kind [] (c ∷ word) = by (either_nat c 47)
  where
    by : Either (c ≡ 47) → Either ((rest : Bytes) × (c ∷ word ≡ 47 ∷ rest))
    by (inl e) = inl (word, ap (λ b. b ∷ word) e)
    by (inr other) = inr (λ (rest, e). other (same_head e))
after_kind (b ∷ kind) [] = inr (λ (rest, e). cc)
after_kind (b ∷ kind) (c ∷ word) = by (either_nat c b) (after_kind kind word)
  where
    by : Either (c ≡ b) → Either ((rest : Bytes) × (word ≡ kind ++ 47 ∷ rest)) → Either ((rest : Bytes) × (c ∷ word ≡ b ∷ (kind ++ 47 ∷ rest)))
    by (inl same) (inl (rest, e)) = inl (rest, λ i. same i ∷ e i)
    by (inr other) more = inr (λ (rest, e). other (same_head e))
    by (inl same) (inr other) = inr (λ (rest, e). other (rest, same_tail e))

either_says_rank : (kind : Bytes) (s : Said) → Either (SaysRank kind s)
either_says_rank kind (quoted bs) = inr none
  where
    none : SaysRank kind (quoted bs) → ⊥
    none (rank, low, inl h) = let e = h.1 in cc
    none (rank, low, inr h) = cc
either_says_rank kind (bare bs) = alone (either_bytes bs kind)
  where
    ranked : ¬ (bs ≡ kind) → (rest : Bytes) → bs ≡ kind ++ 47 ∷ rest → Either (SpellsBelow 10 rest) → Either (SaysRank kind (bare bs))
    ranked other rest cut (inl (rank, low, is)) = inl (rank, low, inr (ap bare (cut ∙ ap (λ r. kind ++ 47 ∷ r) is)))
    ranked other rest cut (inr none) = inr refute
      where
        refute : SaysRank kind (bare bs) → ⊥
        refute (rank, low, inl h) = other (same_bare h.1)
        refute (rank, low, inr h) = none (rank, low, same_tail (same_rest kind (47 ∷ rest) (47 ∷ decimal rank) (sym cut ∙ same_bare h)))

    with_rank : ¬ (bs ≡ kind) → Either ((rest : Bytes) × (bs ≡ kind ++ 47 ∷ rest)) → Either (SaysRank kind (bare bs))
    with_rank other (inl (rest, cut)) = ranked other rest cut (either_spelled 10 (omega arith) rest)
    with_rank other (inr none) = inr refute
      where
        refute : SaysRank kind (bare bs) → ⊥
        refute (rank, low, inl h) = other (same_bare h.1)
        refute (rank, low, inr h) = none (decimal rank, same_bare h)

    alone : Either (bs ≡ kind) → Either (SaysRank kind (bare bs))
    alone (inl is) = inl (5, omega arith, inl (refl, ap bare is))
    alone (inr other) = with_rank other (after_kind kind bs)

-- the words after the first one of a line of a session or of a move
abbrev SayRegion : Bytes → List Said → Type 0
SayRegion fixed saids =
    (subject : Bytes) × (region : ℕ) × (region < 2 ^ 32) × (saids ≡ bare subject ∷ bare fixed ∷ bare (decimal region) ∷ [])

either_region : (fixed : Bytes) (saids : List Said) → Either (SayRegion fixed saids)
either_region fixed [] = inr (λ (s, r, small, e). cc)
either_region fixed (b ∷ []) = inr (λ (s, r, small, e). cc)
either_region fixed (b ∷ c ∷ []) = inr (λ (s, r, small, e). cc)
either_region fixed (b ∷ c ∷ d ∷ e ∷ more) = inr (λ (s, r, small, e). cc)
either_region fixed (b ∷ c ∷ d ∷ []) =
    either_same Parts (SayRegion fixed (b ∷ c ∷ d ∷ [])) there back
    (either_and _ _ (either_bare b) (either_and _ _ (either_is_bare c fixed) (either_says_number d)))
  where
    Parts : Type 0
    Parts = ((bs : Bytes) × (b ≡ bare bs)) × ((c ≡ bare fixed) × SaysNumber d)

    there : Parts → SayRegion fixed (b ∷ c ∷ d ∷ [])
    there ((subject, s), (f, (region, small, r))) = (subject, region, small, cc)

    back : SayRegion fixed (b ∷ c ∷ d ∷ []) → Parts
    back (subject, region, small, e) = ((subject, cc), (cc, (region, small, cc)))

-- the words after the first one of a line of a call
abbrev SayCall : List Said → Type 0
SayCall saids = (proc : Bytes) × (args : List Value) × AllIn IsRowValue args × (saids ≡ bare proc ∷ map argument_word args)

either_call : (saids : List Said) → Either (SayCall saids)
either_call [] = inr (λ (p, args, all, e). cc)
either_call (b ∷ rest) =
    either_same Parts (SayCall (b ∷ rest)) there back (either_and _ _ (either_bare b) (either_arguments rest))
  where
    Parts : Type 0
    Parts = ((bs : Bytes) × (b ≡ bare bs)) × SayArguments rest

    there : Parts → SayCall (b ∷ rest)
    there ((proc, p), (args, all, is)) = (proc, args, all, cc)

    back : SayCall (b ∷ rest) → Parts
    back (proc, args, all, e) = ((proc, cc), (args, all, cc))

-- the words say some form
abbrev pub SayForm : List Said → Type 0
SayForm saids = (form : Form) × IsForm form × SpellForm form saids

-- it is decided whether words say a form
pub either_form : (saids : List Said) → Either (SayForm saids)
either_form [] = inr (λ (form, fits, spelled). none form spelled)
  where
    none : (form : Form) → SpellForm form [] → ⊥
    none form (head, is, e) = cc
either_form (head ∷ saids) =
    either_same Kinds (SayForm (head ∷ saids)) there back
    (either_or _ _ (either_and _ _ (either_is_bare head (codes "session")) (either_region (codes "at") saids))
    (either_or _ _ (either_and _ _ (either_says_rank (codes "call") head) (either_call saids))
    (either_and _ _ (either_says_rank (codes "move") head) (either_region (codes "to") saids))))
  where
    Kinds : Type 0
    Kinds =
        ((head ≡ bare (codes "session")) × SayRegion (codes "at") saids)
        ⊎ ((SaysRank (codes "call") head × SayCall saids) ⊎ (SaysRank (codes "move") head × SayRegion (codes "to") saids))

    there : Kinds → SayForm (head ∷ saids)
    there (inl (k, (name, region, small, is))) = (session_line name region, small, (head, k, ap (λ v. head ∷ v) is))
    there (inr (inl ((rank, low, k), (proc, args, all, is)))) = (call_line rank proc args, (low, all), (head, k, ap (λ v. head ∷ v) is))
    there (inr (inr ((rank, low, k), (key, region, small, is)))) = (move_line rank key region, (low, small), (head, k, ap (λ v. head ∷ v) is))

    back : SayForm (head ∷ saids) → Kinds
    back (session_line name region, small, (first, k, e)) = inl (sym_head e k, (name, region, small, same_tail e))
      where
        sym_head : head ∷ saids ≡ first ∷ other_words (session_line name region) → first ≡ bare (codes "session") → head ≡ bare (codes "session")
        sym_head e k = same_head e ∙ k
    back (call_line rank proc args, fits, (first, k, e)) =
        inr (inl ((rank, fits.0, subst (IsRanked (codes "call") rank) (sym (same_head e)) k), (proc, args, fits.1, same_tail e)))
    back (move_line rank key region, fits, (first, k, e)) =
        inr (inr ((rank, fits.0, subst (IsRanked (codes "move") rank) (sym (same_head e)) k), (key, region, fits.1, same_tail e)))
