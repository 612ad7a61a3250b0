use Rattle.std.proofs.lemmas.Result.{IfOk-weaker}
use Rattle.dt_events.specs.Events.{AreBareWords}
use Rattle.dt_events.specs.ReadingInner.{spelled}
use Rattle.dt_events.proofs.EventWords.{event_of_line, no_event_of_line}
use Rattle.dt_events.proofs.reader.read_event.Goals as goal

pub returns-then-not-made : goal.returns-then-not-made
returns-then-not-made c =
    no_event_of_line c.args.line.now (rw c.if-not-made.true at c.in_ok-made.ensures.exact)

pub returns : goal.returns
returns c =
    let found = rw c.if-not-made.false at c.in_ok-made.ensures.exact in
    let are : AreBareWords c.args.line.now (spelled c.as_slice.result.now) = rw c.as_slice.ensures.value found in
    IfOk-weaker c.event_of_words.result _ _ (λ answer h. event_of_line c.args.line.now (spelled c.as_slice.result.now) answer are h) c.event_of_words.ensures
