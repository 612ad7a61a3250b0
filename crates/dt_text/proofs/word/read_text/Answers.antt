use Rattle.std.proofs.Common.{◌∙◌, ◌+◌, refl, arith}
use Rattle.std.proofs.lemmas.Result.{IfOk-weaker}
use Rattle.dt_text.specs.ReadingInner.{TextEndsAt, WordAt}
use Rattle.dt_text.proofs.ReadingAt.{text_begins, text_word_at, text_open}
use Rattle.dt_text.proofs.word.read_text.Goals as goal

pub loop-end-init : goal.loop-end-init
loop-end-init c =
    rw c.new-text.ensures.items
    record {
      after = omega arith;
      inside = omega arith;
      allowed = (omega arith, refl);
      same = text_begins c.args.line.now c.args.at c.requires.inside c.requires.quote;
    }

pub returns-then-line-end-eq34 : goal.returns-then-line-end-eq34
returns-then-line-end-eq34 c =
    let begun = c.loop-end.invariant in
    IfOk-weaker c.ended_text.result (TextEndsAt c.args.line.now c.loop-end.text.items (c.loop-end.end + 1)) (WordAt c.args.line.now c.args.at)
    (λ found. text_word_at c.args.line.now c.loop-end.text.items c.args.at c.loop-end.end found begun.after c.loop-end-test.true c.if-line-end-eq34.true begun.allowed begun.same)
    c.ended_text.ensures

pub returns : goal.returns
returns c = c.loop-end.invariant.same ∙ text_open c.args.line.now c.loop-end.text.items c.loop-end.end c.loop-end-test.false
