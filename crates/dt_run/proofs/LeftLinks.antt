-- Links that are taken one by one from the end of a list: those that are left stand where they stood.
use Rattle.std.proofs.Common.{◌≡◌, ◌<◌, ◌+◌, ℕ, zero, suc, List, [], ◌∷◌, ◌++◌, Some, length, slice_get, take, refl, sym, ap, ◌∙◌, arith}
use Rattle.dt_lists.proofs.Callers.{last_place}

front_of : {A : Type 0} (n : ℕ) (xs : List A) (k : ℕ) → k < n → slice_get (take n xs) k ≡ slice_get xs k
front_of zero xs k lt = absurd (omega (arith, lt))
front_of (suc n) [] k lt = refl
front_of (suc n) (x ∷ xs) zero lt = refl
front_of (suc n) (x ∷ xs) (suc k) lt = front_of n xs k (omega (arith, lt))

pub still_there : {A : Type 0} (all before left : List A) (n m : ℕ) → left ≡ take m before → m + 1 ≡ n → ((k : ℕ) → k < n → slice_get all k ≡ slice_get before k) → (k : ℕ) → k < m
    → slice_get all k ≡ slice_get left k
still_there all before left n m is one there k lt = there k (omega (arith, lt, one)) ∙ sym (ap (λ l. slice_get l k) is ∙ front_of m before k lt)

-- the one that is taken stands at the place of its number
pub taken_there : {A : Type 0} (all before left : List A) (x : A) (n m number : ℕ) → before ≡ left ++ x ∷ [] → m ≡ length left → number ≡ m → m + 1 ≡ n
    → ((k : ℕ) → k < n → slice_get all k ≡ slice_get before k) → slice_get all number ≡ Some x
taken_there all before left x n m number is full same one there =
    ap (slice_get all) same ∙ there m (omega (arith, one)) ∙ ap (λ l. slice_get l m) is ∙ ap (slice_get (left ++ x ∷ [])) full ∙ last_place left x
