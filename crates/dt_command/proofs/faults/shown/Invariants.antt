use Rattle.std.proofs.Common.{◌≡◌, length, map, take}
use Rattle.dt_command.specs.Statuses.{visible_byte}
use Rattle.dt_command.proofs.faults.shown.Given as goal

-- the array is as long as it was, and its front shows the bytes so far
abbrev pub invariant-loop-place : goal.invariant-loop-place
invariant-loop-place l = (length l.shown ≡ 256) × (take l.place l.shown ≡ map visible_byte (take l.place l.run))
