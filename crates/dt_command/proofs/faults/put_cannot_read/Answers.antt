use Rattle.std.proofs.Common.{◌∙◌, subst, List, ℕ}
use Rattle.dt_outside.specs.Sink.{Writes}
use Rattle.dt_command.proofs.FaultLines.{cannot_read_line}
use Rattle.dt_command.proofs.faults.put_cannot_read.Goals as goal

pub returns : goal.returns
returns g c =
    let P : List ℕ → Type 0 = λ text. Writes (g.E.Sink.seen c.args.err.now) (g.E.Sink.seen c.write_pieces.new.out) text c.write_pieces.result in
    subst P (cannot_read_line c.as_bytes-number.result.now c.args.word (c.as_bytes-number.ensures.value ∙ c.format.ensures.text)) c.write_pieces.ensures
