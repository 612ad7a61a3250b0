use Rattle.std.proofs.Common.{◌≡◌, ◌≤◌, ◌+◌, ◌-◌, ◌++◌, drop, length, take}
use Rattle.std.specs.List.{filter}
use Rattle.dt_lists.specs.Lists.{AllIn}
use Rattle.dt_queue.specs.LanesInner.{is_between}
use Rattle.dt_queue.proofs.tail.Tail.add_between.Given as goal

abbrev pub invariant-loop-mark : goal.invariant-loop-mark
invariant-loop-mark l = record {
  added : l.marks.items ≡ l.initial.marks.items ++ filter (is_between l.low l.high) (take l.place l.self);
  above : AllIn (λ m. l.low + 1 ≤ m.number) (drop l.place l.self);
}

abbrev pub decreases-loop-mark : goal.decreases-loop-mark
decreases-loop-mark l = length l.self - l.place
