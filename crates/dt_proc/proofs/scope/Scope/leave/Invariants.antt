use Rattle.std.proofs.Common.{◌≡◌, length, take}
use Rattle.dt_proc.proofs.scope.Scope.leave.Given as goal

abbrev pub invariant-loop-self : goal.invariant-loop-self
invariant-loop-self l = record {
  variables : take l.variables l.self.variables ≡ take l.variables l.fn.self.variables;
  keys : l.self.keys ≡ l.fn.self.keys;
}

abbrev pub decreases-loop-self : goal.decreases-loop-self
decreases-loop-self l = length l.self.variables
