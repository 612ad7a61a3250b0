use Rattle.dt_text.proofs.Callers.{lines_of-within}
use Rattle.dt_events.proofs.EventWords.{all_read}
use Rattle.dt_events.proofs.reader.read_events.Goals as goal

pub loop-line-init : goal.loop-line-init
loop-line-init c =
    rw (c.new-lines.ensures, c.in_ok-events.ensures) (lines_of-within c.args.bytes.now, (λ rest are. are), (λ number first. first))

pub returns-clause-events : goal.returns-clause-events
returns-clause-events c =
    all_read c.loop-line.lines _ c.loop-line.events c.in_default.ensures.0 c.loop-line.invariant.1
