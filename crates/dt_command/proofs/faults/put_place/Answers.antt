use Rattle.std.proofs.Common.{◌∙◌, codes, subst, List, ℕ}
use Rattle.dt_outside.specs.Sink.{Writes}
use Rattle.dt_command.proofs.FaultLines.{ends_with}
use Rattle.dt_command.proofs.faults.put_place.Goals as goal

pub returns-in-Procs : goal.returns-in-Procs
returns-in-Procs g c =
    let P : List ℕ → Type 0 = λ text. Writes (g.E.Sink.seen c.args.err.now) (g.E.Sink.seen c.write_pieces.new.out) text c.write_pieces.result in
    let number = c.as_bytes-number.ensures.value ∙ c.format.ensures.text in
    rw c.in-Procs.is (subst P (ends_with (codes " procs byte ") c.as_bytes-number.result.now c.in-Procs.at number) c.write_pieces.ensures)
