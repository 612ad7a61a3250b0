-- The orders that the lists of keys, homes and writes keep. Keys stand in ascending order, so that two lists are compared
-- in one walk along both, and equal sets of keys are equal lists. Each order is in the type (`Keys`, `Homes`, `Writes`),
-- so no contract above asks for it again. Read next: ClashSearchInner.antt, which uses the order to find a clash.
use Rattle.std.specs.Prelude.{◌≡◌, ℕ, ◌<◌, List, map}
use Rattle.std.specs.Ordering.{nat_cmp}
use Rattle.std.specs.Cmp.Lexicographic.{slice_cmp}
use Rattle.std.specs.declared.cmp.Ordering.TheVariants.{Less}
use Rattle.dt_lists.specs.Lists.{EachThen, Distinct}

-- the one key is less than the other: by bytes, a proper front being less than the whole
abbrev pub KeyBefore : List ℕ → List ℕ → Type 0
KeyBefore a b = slice_cmp nat_cmp a b ≡ Less

-- in a list of keys with something beside each: every key is less than all later ones, so none stands twice
abbrev pub HasAscendingKeys : {A : Type 0} → List (List ℕ × A) → Type 0
HasAscendingKeys entries = EachThen (λ a b. KeyBefore a.0 b.0) entries

-- every home is less than all later ones, so none stands twice
abbrev pub AreAscendingHomes : List ℕ → Type 0
AreAscendingHomes homes = EachThen ◌<◌ homes

-- in a list of keys with something beside each: no key stands twice
abbrev pub HasDistinctKeys : {A : Type 0} → List (List ℕ × A) → Type 0
HasDistinctKeys entries = Distinct (map (λ e. e.0) entries)
