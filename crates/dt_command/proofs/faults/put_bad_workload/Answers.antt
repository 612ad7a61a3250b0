use Rattle.std.proofs.Common.{◌∙◌, List, ℕ, subst}
use Rattle.dt_outside.specs.Sink.{Writes}
use Rattle.dt_command.proofs.FaultLines.{workload_line}
use Rattle.dt_command.proofs.faults.put_bad_workload.Goals as goal

pub returns : goal.returns
returns g c =
    let P : List ℕ → Type 0 = λ text. Writes (g.E.Sink.seen c.args.err.now) (g.E.Sink.seen c.write_pieces.new.out) text c.write_pieces.result in
    subst P
    (workload_line c.as_bytes-number.result.now c.as_bytes-text.result.now c.args.line c.args.cause (c.as_bytes-number.ensures.value ∙ c.format.ensures.text)
    (c.as_bytes-text.ensures.value ∙ c.text.ensures))
    c.write_pieces.ensures
