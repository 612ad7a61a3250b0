-- Words that are joined by spaces: the first one, and each later one after a space.
use Rattle.std.proofs.Common.{◌≡◌, List, [], ◌∷◌, ◌++◌, ℕ, ap, arith}
use Rattle.std.specs.List.{join_with_byte}
use Rattle.std.proofs.lemmas.Grind.{common_steps}
use Rattle.dt_text.specs.Words.{spaced}

pub join_spaced : (w : List ℕ) (ws : List (List ℕ)) → join_with_byte 32 (w ∷ ws) ≡ w ++ spaced ws
join_spaced w [] = grind (arith, common_steps)
join_spaced w (v ∷ ws) = ap (λ t. w ++ 32 ∷ t) (join_spaced v ws)
