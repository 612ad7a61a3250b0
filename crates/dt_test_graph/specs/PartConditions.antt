-- For the tests of schedulers: what a part may look like beside those that were inserted before. A test calls `insert` on
-- parts that it made itself, and has to show that they may be inserted. Read `CanInsert` in Sched.antt of dt_sched for
-- the condition itself.
use Rattle.std.specs.Prelude.{◌≡◌, ◌<◌, List, length}
use Rattle.dt_access.specs.declared.Part.{Part}

-- where the other part is of the same transaction, it names the same homes and has the same rank
abbrev pub IsAlike : Part → Part → Type 0
IsAlike part other = other.id ≡ part.id → (other.homes ≡ part.homes) × (other.rank ≡ part.rank)

-- the log has fewer than a hundred parts
abbrev pub IsShort : List Part → Type 0
IsShort log = length log < 100
