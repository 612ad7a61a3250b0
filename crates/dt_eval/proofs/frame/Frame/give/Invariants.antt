use Rattle.std.proofs.Common.{◌≡◌, map, length, drop}
use Rattle.dt_lists.specs.Lists.{AllIn}
use Rattle.dt_proc.specs.TreeViews.{give_tree}
use Rattle.dt_proc.specs.Sound.{IsSoundGift}
use Rattle.dt_eval.specs.Data.{sort_of_datum}
use Rattle.dt_eval.specs.FrameInner.{seen}
use Rattle.dt_eval.specs.Statements.{after_gifts}
use Rattle.dt_eval.proofs.frame.Frame.give.Given as goal

abbrev pub invariant-loop-item : goal.invariant-loop-item
invariant-loop-item l = record {
  variables : l.self.variables ≡ l.fn.self.variables;
  rows : l.self.rows ≡ l.fn.self.rows;
  sound : AllIn (IsSoundGift (map sort_of_datum l.self.variables) (length l.self.rows.0)) (map give_tree (drop l.item-index l.items));
  told : after_gifts l.fn.self.rows.0 (map give_tree l.fn.items) (seen l.fn.self) ≡ after_gifts l.self.rows.0 (map give_tree (drop l.item-index l.items)) (seen l.self);
}
