-- Bytes of which each is allowed, and the first that is not.
use Rattle.std.proofs.Common.{◌≡◌, ℕ, suc, ◌+◌, Bool, true, false, not, cond, ◌&&◌, nat_lt, List, [], ◌∷◌, length, Some, None, refl, arith}
use Rattle.std.proofs.lemmas.Bool.Decides.{nat_tests}
use Rattle.std.specs.List.{list_all, prefix_len}
use Rattle.dt_text.specs.Texts.{first_outside}

one_more : (b r : Bool) (n m : ℕ) → nat_lt n m ≡ not r → nat_lt (cond (not (not b)) (1 + n) 0) (suc m) ≡ not (b && r)
one_more true r n m h = grind (arith, nat_tests)
one_more false r n m h = grind (arith, nat_tests)

-- some place is outside exactly where not all are allowed
outside_where : (p : ℕ → Bool) (bs : List ℕ) → nat_lt (prefix_len (λ b. not (not (p b))) bs) (length bs) ≡ not (list_all p bs)
outside_where p [] = refl
outside_where p (b ∷ bs) = one_more (p b) (list_all p bs) (prefix_len (λ b. not (not (p b))) bs) (length bs) (outside_where p bs)

by_cases : (a r : Bool) (n : ℕ) → a ≡ not r → cond a (Some n) None ≡ None → r ≡ true
by_cases true r n e h = cc
by_cases false true n e h = refl
by_cases false false n e h = cc

by_place : (a r : Bool) (n place : ℕ) → a ≡ not r → cond a (Some n) None ≡ Some place → r ≡ true → ⊥
by_place true true n place e found h = absurd cc
by_place true false n place e found h = absurd cc
by_place false r n place e found h = absurd cc

-- where a place is outside, not each byte is allowed
pub byte_outside : (p : ℕ → Bool) (bs : List ℕ) (place : ℕ) → first_outside p bs ≡ Some place → list_all p bs ≡ true → ⊥
byte_outside p bs place found all = by_place _ _ _ place (outside_where p bs) found all

-- where no place is outside, each byte is allowed
pub none_outside : (p : ℕ → Bool) (bs : List ℕ) → first_outside p bs ≡ None → list_all p bs ≡ true
none_outside p bs h = by_cases _ _ _ (outside_where p bs) h
