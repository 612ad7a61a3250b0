use Rattle.std.proofs.Common.{◌+◌, sym, ◌∙◌, arith, length-drop}
use Rattle.std.proofs.lemmas.List.{take_rest}
use Rattle.dt_syntax.proofs.LexerLemmas.{gap_blank, gap_comment}
use Rattle.dt_syntax.proofs.lexer.gap_end.Goals as goal

pub loop-end-preserved-then-is_blank : goal.loop-end-preserved-then-is_blank
loop-end-preserved-then-is_blank c = record {
  after = omega arith;
  within = omega arith;
  same = c.loop-end.invariant.same ∙ gap_blank c.args.text.now c.loop-end.end c.loop-end-test.true (sym c.if-is_blank.ensures);
}

pub loop-end-preserved : goal.loop-end-preserved
loop-end-preserved c =
    let rest = take_rest c.args.text.now (c.loop-end.end + 1) in
    let inside = rw rest at c.line_end-end.ensures.within in
    let is = rw rest at c.line_end-end.ensures.same in
    record {
      after = omega arith;
      within = omega (arith, inside, length-drop (c.loop-end.end + 1) c.args.text.now);
      same = c.loop-end.invariant.same ∙ gap_comment c.args.text.now c.loop-end.end c.line_end-end.result c.loop-end-test.true (sym c.if-is_blank.ensures) c.if-text-end-eq35.true is;
    }
