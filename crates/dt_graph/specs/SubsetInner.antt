-- Some of the numbers below a bound, as they are kept: a list of them, in no order, and for each number below the bound its
-- place in the list, or none. So whether a number is one of them is seen at once, and it is put in and taken out at once. The
-- list has room for all numbers below the bound; so neither takes memory. Read next: `VerticesInner`, for which numbers are kept so.
use Rattle.std.specs.Prelude.{◌≡◌, ◌≢◌, ◌<◌, ◌≤◌, ◌^◌, ◌⊎◌, ◌↔◌, ℕ, List, length, get_or, slice_get, Option, None, Some}
use Rattle.dt_lists.specs.Lists.{AllIn, Has, Distinct}

-- the item stands at the place in the list, or nowhere
abbrev pub StandsAtPlace : {A : Type 0} → List A → A → Option ℕ → Type 0
StandsAtPlace items item None = ¬ (Has items item)
StandsAtPlace items item (Some place) = slice_get items place ≡ Some item

-- the list and the places of its items are kept right, with this much room for the list; the bound, and so the places, have 32 bits
pub record IsSubset (items : List ℕ) (places : List (Option ℕ)) (room : ℕ) : Type 0 where
  pub few : length places < 2 ^ 32
  pub fits : length places ≤ room
  pub once : Distinct items
  pub within : AllIn (λ number. number < length places) items
  pub narrow : AllIn (λ number. number < 2 ^ 32) items
  pub placed : (number : ℕ) → number < length places → StandsAtPlace items number (get_or places number None)

-- the number was put in, if it wasn't one of them
abbrev pub PutsIn : ℕ → List ℕ → List ℕ → Type 0
PutsIn number old new = (n : ℕ) → Has new n ↔ Has old n ⊎ (n ≡ number)

-- the number was taken out, if it was one of them
abbrev pub Removes : ℕ → List ℕ → List ℕ → Type 0
Removes number old new = (n : ℕ) → Has new n ↔ Has old n × (n ≢ number)
