use Rattle.std.proofs.Common.{◌∙◌, [], ◌++◌, codes, List, ℕ, subst}
use Rattle.dt_outside.specs.Sink.{Writes}
use Rattle.dt_outside.proofs.Callers.{Writes-append, Writes-longer}
use Rattle.dt_command.specs.LineCode.{events_end}
use Rattle.dt_command.proofs.FaultLines.{events_line}
use Rattle.dt_command.proofs.faults.put_bad_events.Goals as goal

pub returns-in_err-write_pieces : goal.returns-in_err-write_pieces
returns-in_err-write_pieces g c =
    let number = c.as_bytes-number.result.now in
    let P : List ℕ → Type 0 = λ text. Writes (g.E.Sink.seen c.args.err.now) (g.E.Sink.seen c.write_pieces.new.out) text c.from_residual.result in
    subst P (events_line number c.args.line c.args.cause (c.as_bytes-number.ensures.value ∙ c.format.ensures.text))
    (Writes-longer _ _ (codes "detock: events line " ++ (number ++ [])) (events_end c.args.cause) _ _ _ _ c.in_err-write_pieces.was c.from_residual.ensures.1 c.write_pieces.ensures)

pub returns : goal.returns
returns g c =
    let number = c.as_bytes-number.result.now in
    let P : List ℕ → Type 0 = λ text. Writes (g.E.Sink.seen c.args.err.now) (g.E.Sink.seen c.put_events_end.new.err) text c.put_events_end.result in
    subst P (events_line number c.args.line c.args.cause (c.as_bytes-number.ensures.value ∙ c.format.ensures.text))
    (Writes-append _ _ _ (codes "detock: events line " ++ (number ++ [])) (events_end c.args.cause) _ _ _ c.in_ok-write_pieces.was c.write_pieces.ensures c.put_events_end.ensures)
