-- Asking of each item of a list, one after another, whether it has something.
use Rattle.std.proofs.Common.{◌≡◌, ◌<◌, ◌+◌, ℕ, zero, suc, List, [], ◌∷◌, length, take, get_or, sym, refl, subst, arith}
use Rattle.std.proofs.lemmas.List.{take_more}
use Rattle.dt_lists.specs.Lists.{AllIn}
use Rattle.dt_lists.proofs.Callers.{all_index, all_more}

pub all_next : {A : Type 0} (P : A → Type 0) (xs : List A) (i : ℕ) (x : A) → x ≡ get_or xs i x → i < length xs → AllIn P (take i xs) → P x → AllIn P (take (i + 1) xs)
all_next P xs i x is lt a p = subst (AllIn P) (sym (take_more xs i x lt)) (all_more P (take i xs) (get_or xs i x) a (subst P is p))

pub all_one : {A : Type 0} (P : A → Type 0) (xs : List A) (i : ℕ) (x : A) → x ≡ get_or xs i x → i < length xs → AllIn P xs → P x
all_one P xs i x is lt a = subst P (sym is) (all_index P xs i x a lt)

pub all_by_place : {A : Type 0} (P : A → Type 0) (xs : List A) → ((i : ℕ) (x : A) → i < length xs → x ≡ get_or xs i x → P x) → AllIn P xs
all_by_place P [] f = tt
all_by_place P (x ∷ xs) f = (f zero x (omega arith) refl, all_by_place P xs (λ i y lt e. f (suc i) y (omega (arith, lt)) e))
