-- An index of ids: the place of what belongs to each id, as a rule where it stands in some list of its caller's. The contracts say
-- of an index only which place each id has (`place_of`), and for how many more ids there is room. How the places are kept
-- shows through in the fields alone: ids are counted in each region from 1, so each region has a list in which an id stands
-- at its number; the ids that came far out of order, or whose places are too large for the list, stand in a map beside. In a list
-- 0 stands for no place, so that a list may be made longer at any time and no id gets a place by it. Read next: src/index.rt.
use Rattle.std.specs.Prelude.{ℕ, List, [], get_or, Option}
use Rattle.std.specs.Option.{option_or}
use Rattle.std.specs.Map.{lookup}
use Rattle.dt_lists.specs.Place.{place_before}
use Rattle.dt_access.specs.Ids.{same_id}
use Rattle.dt_access.specs.declared.TxnId.{TxnId}

-- for each region, by the numbers of its ids, what stands for their places; the places of other ids; and how many more ids fit in
-- without taking memory
pub record IdIndexView : Type 0 where
  pub lists : List (List ℕ)
  pub others : List (TxnId × ℕ)
  pub spare : ℕ

-- the place that an id has in the list of its region; past the ends stands 0
abbrev pub place_listed : List (List ℕ) → TxnId → Option ℕ
place_listed lists id = place_before (get_or (get_or lists id.region []) id.seq 0)

-- the place of an id, if it has one: in the list of its region, or else beside
abbrev pub place_of : IdIndexView → TxnId → Option ℕ
place_of index id = option_or (place_listed index.lists id) (lookup (same_id id) index.others)
