use Rattle.std.proofs.Common.{◌≡◌, ℕ, ◌<◌, List, ◌∷◌, ◌++◌, map, length}
use Rattle.dt_syntax.specs.declared.token.Placed.{Placed}
use Rattle.dt_syntax.specs.declared.token.Token.TheVariants as tok
use Rattle.dt_proc.specs.TreeViews.{give_tree}
use Rattle.dt_proc.specs.SecondPass.{check_all_items}
use Rattle.dt_syntax.specs.Grammar.{at, Item, IsItem, items_tokens}
use Rattle.dt_proc.proofs.ItemWalk.{ItemsLeft}
use Rattle.dt_syntax.proofs.Callers.{AreItems}
use Rattle.dt_proc.proofs.statements.items.Given as goal

abbrev pub invariant-loop-after : goal.invariant-loop-after
invariant-loop-after l = record {
  shorter : length l.rest < length l.tokens;
  right : (i : Item) (more : List (ℕ × Item)) (e : ℕ) (rest : List Placed) → IsItem i → AreItems more →
      items_tokens i more ++ at e tok.Semicolon ∷ rest ≡ l.tokens →
      ItemsLeft l.scope (check_all_items l.scope i more) (map give_tree l.gives) l.rest e rest;
}

abbrev pub decreases-loop-after : goal.decreases-loop-after
decreases-loop-after l = length l.rest
