-- The marks of a lane after its first one, and the memory that is kept for them while there are none. Read next: `NextInner`, for
-- how followers are found in lanes.
use Rattle.std.specs.Prelude.{◌≡◌, List, [], box_value}
use Rattle.dt_queue.specs.declared.lane.Further.{Further}
use Rattle.dt_queue.specs.declared.lane.Further.TheVariants as further
use Rattle.dt_queue.specs.declared.mark.Mark.{Mark}

-- the marks of a lane after its first one
abbrev pub tail_of : Further → List Mark
tail_of further.None = []
tail_of (further.Idle tail) = []
tail_of (further.Marks tail) = box_value tail

-- there is no mark in memory that is kept while there are none
abbrev pub IsIdleEmpty : Further → Type 0
IsIdleEmpty further.None = Unit {0}
IsIdleEmpty (further.Idle tail) = box_value tail ≡ []
IsIdleEmpty (further.Marks tail) = Unit {0}
