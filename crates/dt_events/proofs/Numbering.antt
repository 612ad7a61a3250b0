-- Events beside the numbers of their lines.
use Rattle.std.proofs.Common.{◌≡◌, List, [], ◌∷◌, ◌++◌, length, refl, ap, arith}
use Rattle.std.specs.List.{zip}

-- one more of each is one more pair
pub zip_more : {K X : Type 0} (ks : List K) (xs : List X) (k : K) (x : X) → length ks ≡ length xs → zip (ks ++ k ∷ []) (xs ++ x ∷ []) ≡ zip ks xs ++ (k, x) ∷ []
zip_more [] [] k x same = refl
zip_more [] (y ∷ xs) k x same = absurd (omega (arith, same))
zip_more (l ∷ ks) [] k x same = absurd (omega (arith, same))
zip_more (l ∷ ks) (y ∷ xs) k x same = ap (λ pairs. (l, y) ∷ pairs) (zip_more ks xs k x (omega (arith, same)))

-- there are as many pairs as firsts
pub zip_length : {K X : Type 0} (ks : List K) (xs : List X) → length ks ≡ length xs → length (zip ks xs) ≡ length ks
zip_length [] xs same = refl
zip_length (k ∷ ks) [] same = absurd (omega (arith, same))
zip_length (k ∷ ks) (x ∷ xs) same = let rest : length (zip ks xs) ≡ length ks = zip_length ks xs (omega (arith, same)) in omega (arith, rest)
