-- A list of keys that ascends goes on with a key that is greater than all of its keys.
use Rattle.std.proofs.Common.{ℕ, List, [], ◌∷◌, ◌++◌}
use Rattle.dt_lists.specs.Lists.{AllIn}
use Rattle.dt_lists.proofs.Callers.{all_map, each_append}
use Rattle.dt_access.specs.Orders.{KeyBefore, HasAscendingKeys}

pub ascends_on : {A : Type 0} (entries : List (List ℕ × A)) (entry : List ℕ × A) → HasAscendingKeys entries → AllIn (λ e. KeyBefore e.0 entry.0) entries → HasAscendingKeys (entries ++ entry ∷ [])
ascends_on entries entry ascends above = each_append _ entries (entry ∷ []) ascends (all_map _ _ entries (λ e before. (before, tt)) above) (tt, tt)
