use Rattle.std.proofs.Common.{◌≡◌, ◌≤◌, length, IsTrue}
use Rattle.std.specs.List.{list_all}
use Rattle.dt_text.specs.Texts.{is_text_byte}
use Rattle.dt_syntax.specs.Tokens.{items_of}
use Rattle.dt_syntax.proofs.LexerLemmas.{with_items}
use Rattle.dt_syntax.proofs.lexer.text_after.Given as goal

abbrev pub invariant-loop-rest : goal.invariant-loop-rest
invariant-loop-rest l = record {
  shorter : length l.rest ≤ length l.bytes;
  few : length l.items.items ≤ 256;
  allowed : IsTrue (list_all is_text_byte l.items.items);
  same : items_of l.bytes ≡ with_items l.items.items (items_of l.rest);
}

abbrev pub decreases-loop-rest : goal.decreases-loop-rest
decreases-loop-rest l = length l.rest
