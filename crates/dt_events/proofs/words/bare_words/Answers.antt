use Rattle.std.proofs.Common.{◌≡◌, ◌<◌, ◌^◌, ◌∷◌, ◌++◌, [], ap, ◌∙◌, None, true, false, get_or, length, arith}
use Rattle.std.specs.List.{slice_range}
use Rattle.std.proofs.lemmas.Grind.{common_steps}
use Rattle.std.proofs.lemmas.List.{map-append}
use Rattle.dt_lists.proofs.Callers.{all_more}
use Rattle.dt_text.specs.Words.{is_visible}
use Rattle.dt_events.specs.ReadingInner.{spelled}
use Rattle.dt_events.proofs.BareWords.{bares_begin, bares_from, bares_go_on, are_found, none_found, no_bare, no_bare_text}
use Rattle.dt_events.proofs.words.bare_words.Goals.{then-line-at-eq34-via-then-line-at-eq34, then-line-at-eq34-via-else-line-at-eq34+then-not-is_visible}
use Rattle.dt_events.proofs.words.bare_words.Goals as goal

pub loop-at-init : goal.loop-at-init
loop-at-init c =
    let gap = c.gap_end-at.ensures in
    record {
      inside = gap.inside;
      no_space = gap.no_space;
      short = rw c.clear.ensures.items tt;
      so_far = bares_begin c.args.line.now (spelled c.clear.new.self.items) c.gap_end-at.result (ap spelled c.clear.ensures.items) gap.same;
    }

pub loop-at-preserved : goal.loop-at-preserved
loop-at-preserved c =
    let gap = c.gap_end-at-in-loop-at.ensures in
    let ends = c.bare_end-end.ensures in
    let visible : is_visible (get_or c.args.line.now c.loop-at.at 0) ≡ true = cc in
    let more = bares_go_on c.args.line.now (spelled c.loop-at.found.items) c.loop-at.at c.bare_end-end.result c.gap_end-at-in-loop-at.result c.loop-at.invariant.so_far
    c.loop-at-test.true c.if-line-at-eq34.false visible ends.ends gap.same in
    let pushed : spelled c.push.new.self.items ≡ spelled c.loop-at.found.items ++ slice_range c.args.line.now c.loop-at.at c.bare_end-end.result ∷ [] =
    ap spelled c.in_ok-push.ensures.items ∙ map-append (λ w. w.now) c.loop-at.found.items _ in
    let within : length (slice_range c.args.line.now c.loop-at.at c.bare_end-end.result) < 2 ^ 32 = grind (arith, common_steps) in
    record {
      inside = gap.inside;
      no_space = gap.no_space;
      short = rw pushed (all_more (λ w. length w < 2 ^ 32) (spelled c.loop-at.found.items) _ c.loop-at.invariant.short within);
      so_far = rw pushed more;
    }

pub returns-then-line-at-eq34-clause-exact : goal.returns-then-line-at-eq34-clause-exact
returns-then-line-at-eq34-clause-exact c = none_found c.args.line.now (spelled c.loop-at.found.items) c.loop-at.at c.loop-at.invariant.so_far none
  where
    none : bares_from c.args.line.now c.loop-at.at ≡ None
    none = elim c.then-line-at-eq34.branch [
      | then-line-at-eq34-via-then-line-at-eq34 w ↦ no_bare_text c.args.line.now c.loop-at.at c.loop-at-test.true w.if-line-at-eq34.true
      | then-line-at-eq34-via-else-line-at-eq34+then-not-is_visible w ↦
          let over : is_visible (get_or c.args.line.now c.loop-at.at 0) ≡ false = cc in
          no_bare c.args.line.now c.loop-at.at c.loop-at-test.true (c.loop-at.invariant.no_space c.loop-at-test.true) over
    ]

pub returns-clause-exact : goal.returns-clause-exact
returns-clause-exact c = are_found c.args.line.now (spelled c.loop-at.found.items) c.loop-at.at c.loop-at-test.false c.loop-at.invariant.so_far
