-- The entries of a cluster file that hold numbers: which numbers each may have, what stands for it where it is absent,
-- and what its fault is. Read next: `Rows`, for the other entries, and `File`, which puts all in their order.
use Rattle.std.specs.Prelude.{◌≡◌, ℕ, Bool, true, false, ◌&&◌, ◌||◌, ◌==◌, nat_le, pos, Option, Some, None, codes}
use Rattle.toml.specs.Data.{Data, integer, Members, get_member}
use Rattle.dt_text.specs.Texts.{Bytes}
use Rattle.dt_cluster_file.specs.declared.error.ClusterCause.{ClusterCause}
use Rattle.dt_cluster_file.specs.declared.error.ClusterCause.TheVariants.{Missing, Kind, Range}

-- an entry that holds a number: its name, the numbers that it may have, and what stands for it where it is absent
pub record NumberEntry : Type 0 where
  pub name : Bytes
  pub allows : ℕ → Bool
  pub absent : Option ℕ

-- whether a number is from the least to the greatest one
abbrev pub within : ℕ → ℕ → ℕ → Bool
within least greatest n = nat_le least n && nat_le n greatest

-- how many regions there are: 1 to 8, and the entry has to be there
abbrev pub regions_entry : NumberEntry
regions_entry = record { name = codes "regions"; allows = within 1 8; absent = None }

-- the version of the cluster: 1 or 2, or 1 where it is absent. In version 2 a granule of keys has a home and moves, in
-- version 1 each key
abbrev pub version_entry : NumberEntry
version_entry = record { name = codes "version"; allows = within 1 2; absent = Some 1 }

-- how many threads a region may execute with: 1 to 16, or 4 where it is absent. A replay has no use for it
abbrev pub workers_entry : NumberEntry
workers_entry = record { name = codes "workers"; allows = within 1 16; absent = Some 4 }

-- how many attempts a call may have: 1 to 8, or 3 where it is absent
abbrev pub tries_entry : NumberEntry
tries_entry = record { name = codes "tries"; allows = within 1 8; absent = Some 3 }

-- which packets are lost: none where it is 0 or absent, else one in n, from 2 to 1000. A replay has no use for it
abbrev pub drop_entry : NumberEntry
drop_entry = record { name = codes "drop"; allows = λ n. n == 0 || within 2 1000 n; absent = Some 0 }

-- which packets come twice: none where it is 0 or absent, else one in n, up to 1000. A replay has no use for it
abbrev pub repeat_entry : NumberEntry
repeat_entry = record { name = codes "repeat"; allows = within 0 1000; absent = Some 0 }

-- the entry, which has this value or none, gives the number
abbrev pub GivesNumber : NumberEntry → Option Data → ℕ → Type 0
GivesNumber entry None n = entry.absent ≡ Some n
GivesNumber entry (Some (integer z)) n = (z ≡ pos n) × (entry.allows n ≡ true)
GivesNumber entry (Some other) n = ⊥

-- the entry, which has this value or none, is at fault: it is missing, or no integer, or out of range
abbrev pub IsAtFault : NumberEntry → Option Data → ClusterCause → Type 0
IsAtFault entry None cause = (cause ≡ Missing) × (entry.absent ≡ None)
IsAtFault entry (Some (integer z)) cause = (cause ≡ Range) × ((n : ℕ) → z ≡ pos n → entry.allows n ≡ false)
IsAtFault entry (Some other) cause = cause ≡ Kind

-- this is the number that a document gives for the entry
abbrev pub HasNumber : Members → NumberEntry → ℕ → Type 0
HasNumber top entry n = GivesNumber entry (get_member entry.name top) n

-- the entry is at fault in a document, for this cause
abbrev pub HasBadNumber : Members → NumberEntry → ClusterCause → Type 0
HasBadNumber top entry cause = IsAtFault entry (get_member entry.name top) cause
