-- How the code finds a clash: apart on rows, by going along both lists, and on granules, where for each granule that one
-- list takes as a whole the other is searched for a key of it. Both go along sorted lists, so neither compares each use
-- with each. Only the private functions of `clash` cite this; read Clash.antt for what a clash is.
use Rattle.std.specs.Prelude.{◌≡◌, ℕ, Bool, true, false, ◌&&◌, List, [], ◌∷◌}
use Rattle.std.specs.List.{list_any}
use Rattle.std.specs.List.Sorted.{IsPartitionPoint}
use Rattle.std.specs.Ordering.{is_lt, nat_cmp}
use Rattle.std.specs.Cmp.Lexicographic.{slice_cmp}
use Rattle.dt_access.specs.Granules.{Bytes, granule_of}
use Rattle.dt_access.specs.Clash.{same_key, is_whole, rows_clash}
use Rattle.dt_access.specs.declared.access.Mode.{Mode}

-- some use of the one list clashes with some use of the other on a row
abbrev pub meet_on_row : List (Bytes × Mode) → List (Bytes × Mode) → Bool
meet_on_row left right = list_any (λ a. list_any (rows_clash a) right) left

-- some key of the list is of the granule
abbrev pub has_granule : List (Bytes × Mode) → Bytes → Bool
has_granule uses granule = list_any (λ a. same_key granule (granule_of a.0)) uses

-- some use of the one list takes a granule as a whole, and the other list has a key of it
abbrev pub takes_from : List (Bytes × Mode) → List (Bytes × Mode) → Bool
takes_from takers uses = list_any (λ a. is_whole a.1 && has_granule uses (granule_of a.0)) takers

-- the first key of the list is of the granule
abbrev pub begins_with : List (Bytes × Mode) → Bytes → Bool
begins_with [] granule = false
begins_with (a ∷ uses) granule = same_key granule (granule_of a.0)

-- the one key is less than the other
abbrev pub is_below : Bytes → Bytes → Bool
is_below key bound = is_lt (slice_cmp nat_cmp key bound)

-- the place is where the search for a bound ends: keys before it are less than the bound, and those from it on are not
abbrev pub EndsAt : Bytes → List (Bytes × Mode) → ℕ → Type 0
EndsAt bound uses place = IsPartitionPoint (λ x. is_below x.0 bound ≡ true) (λ x. is_below x.0 bound ≡ false) uses place
