use Rattle.std.proofs.Common.{◌∙◌, subst, List, ℕ}
use Rattle.dt_outside.specs.Sink.{Writes}
use Rattle.dt_command.proofs.FaultLines.{rule_end}
use Rattle.dt_command.proofs.faults.put_events_end.Goals as goal

pub returns-in-Rule : goal.returns-in-Rule
returns-in-Rule g c =
    let P : List ℕ → Type 0 = λ text. Writes (g.E.Sink.seen c.args.err.now) (g.E.Sink.seen c.write_pieces.new.out) text c.write_pieces.result in
    rw c.in-Rule.is (subst P (rule_end c.as_bytes-digits.result.now c.in-Rule.rule (c.as_bytes-digits.ensures.value ∙ c.format.ensures.text)) c.write_pieces.ensures)
