-- How devices count their faults.
--
-- No caller can know whether a device will fail, so a promise says instead what must have been seen where something
-- went wrong: that the device's count of faults rose. A count that has reached the greatest number stays there, and
-- then counts as risen. Read next: Folder and Sink, the two kinds of devices.
use Rattle.std.specs.Prelude.{ℕ, ◌+◌, ◌-◌, ◌^◌, ◌≤◌, min}

-- the count that follows: one more, except that every count ends at 2^64 - 1 and stays there
abbrev pub next_count : ℕ → ℕ
next_count count = min (count + 1) (2 ^ 64 - 1)

-- the count rose, or stands at the value where every count ends
abbrev pub Rose : ℕ → ℕ → Type 0
Rose before now = next_count before ≤ now
