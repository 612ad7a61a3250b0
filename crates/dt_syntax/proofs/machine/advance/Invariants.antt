use Rattle.std.proofs.Common.{◌≡◌, reverse, length}
use Rattle.dt_syntax.specs.MachineInner.{advance}
use Rattle.dt_syntax.proofs.machine.advance.Given as goal

abbrev pub invariant-loop-part : goal.invariant-loop-part
invariant-loop-part l = advance (reverse l.initial.stack.items) l.token ≡ advance (reverse l.stack.items) l.token

abbrev pub decreases-loop-part : goal.decreases-loop-part
decreases-loop-part l = length l.stack.items
