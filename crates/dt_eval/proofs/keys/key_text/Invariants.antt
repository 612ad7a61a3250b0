use Rattle.std.proofs.Common.{◌≡◌, ◌++◌, length, drop}
use Rattle.dt_lists.specs.Lists.{AllIn}
use Rattle.dt_eval.specs.FrameInner.{IsItemWithin}
use Rattle.dt_eval.specs.Keys.{key_text}
use Rattle.dt_eval.proofs.keys.key_text.Given as goal

abbrev pub invariant-loop-item : goal.invariant-loop-item
invariant-loop-item l = record {
  within : AllIn (IsItemWithin (length l.args)) (drop l.item-index l.items);
  told : l.text.items ++ key_text l.args (drop l.item-index l.items) ≡ key_text l.args l.items;
}
