use Rattle.std.proofs.Common.{arith, Some}
use Rattle.std.proofs.lemmas.List.Elements.{All-push}
use Rattle.dt_text.specs.Reading.{IsWordIn}
use Rattle.dt_text.specs.ReadingInner.{WordAt}
use Rattle.std.proofs.lemmas.Grind.{common_steps}
use Rattle.dt_text.proofs.ReadingAt.{words_begin, words_go_on, words_end}
use Rattle.dt_text.proofs.word.words.Goals as goal

pub loop-at-init : goal.loop-at-init
loop-at-init c =
    record {
      inside = c.gap_end-at.ensures.inside;
      no_space = c.gap_end-at.ensures.no_space;
      within = grind (arith, common_steps);
      same = words_begin c.args.line.now c.new-found.result c.gap_end-at.result c.new-found.ensures c.gap_end-at.ensures.same;
    }

pub loop-at-preserved : goal.loop-at-preserved
loop-at-preserved c =
    let one : WordAt c.args.line.now c.loop-at.at (Some (c.in-Some.word, c.in-Some.end)) = rw c.in-Some.is at c.in_ok-word.ensures in
    let gap = c.gap_end-at-in-loop-at.ensures in
    rw c.in_ok-push.ensures.added
    record {
      inside = gap.inside;
      no_space = gap.no_space;
      within = All-push (IsWordIn c.args.line.now) c.loop-at.found c.in-Some.word c.loop-at.invariant.within one.2;
      same = words_go_on c.args.line.now c.loop-at.found c.in-Some.word _ c.loop-at.at c.in-Some.end c.gap_end-at-in-loop-at.result c.loop-at.invariant.same one.3 gap.same;
    }

pub returns-clause-exact : goal.returns-clause-exact
returns-clause-exact c = words_end c.args.line.now c.loop-at.found _ c.loop-at.at c.loop-at-test.false c.loop-at.invariant.same
