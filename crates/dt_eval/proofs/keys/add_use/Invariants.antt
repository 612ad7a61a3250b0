use Rattle.std.proofs.Common.{◌≡◌, ◌++◌, take, drop}
use Rattle.dt_eval.proofs.KeyModes.{with_mode}
use Rattle.dt_eval.proofs.keys.add_use.Given as goal

abbrev pub invariant-loop-place : goal.invariant-loop-place
invariant-loop-place l = record {
  same : l.uses.items ≡ l.fn.uses.items;
  key : l.key ≡ l.fn.key;
  further : with_mode l.uses.items (l.key, l.write) ≡ take l.place l.uses.items ++ with_mode (drop l.place l.uses.items) (l.key, l.write);
}
