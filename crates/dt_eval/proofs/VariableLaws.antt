-- The first variables of a run: the parameters, and then the lets.
use Rattle.std.proofs.Common.{◌≡◌, ◌<◌, ◌≤◌, ◌+◌, ◌-◌, ℕ, zero, suc, List, [], ◌∷◌, ◌++◌, length, map, take, refl, ap, arith}
use Rattle.dt_text.specs.declared.Value.{Value}
use Rattle.dt_eval.specs.declared.state.Datum.{Datum}
use Rattle.dt_eval.specs.Data.{datum_of}

-- the first variables, where some parameters are left out
pub first_args : (args : List Value) (lets : List Datum) (n : ℕ) → n < length args → map datum_of (take n args) ++ take 0 lets ≡ take n (map datum_of args ++ lets)
first_args [] lets n below = absurd (omega arith)
first_args (x ∷ args) lets zero below = refl
first_args (x ∷ args) lets (suc n) below = ap (λ ds. datum_of x ∷ ds) (first_args args lets n (omega arith))

some_lets : (args : List Value) (lets : List Datum) (n m : ℕ) → n ≡ length args + m → map datum_of args ++ take m lets ≡ take n (map datum_of args ++ lets)
some_lets [] lets n m e = let same : m ≡ n = omega arith in ap (λ k. take k lets) same
some_lets (x ∷ args) lets zero m e = absurd (omega arith)
some_lets (x ∷ args) lets (suc n) m e = ap (λ ds. datum_of x ∷ ds) (some_lets args lets n m (omega arith))

-- the first variables, where no parameter is left out
pub first_lets : (args : List Value) (lets : List Datum) (n : ℕ) → length args ≤ n → map datum_of args ++ take (n - length args) lets ≡ take n (map datum_of args ++ lets)
first_lets args lets n past = some_lets args lets n (n - length args) (omega arith)
