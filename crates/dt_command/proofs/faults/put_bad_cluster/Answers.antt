use Rattle.std.proofs.Common.{[], ◌∷◌, ◌++◌, ◌∙◌, codes, List, ℕ, refl, subst}
use Rattle.dt_outside.specs.Sink.{Writes}
use Rattle.dt_outside.proofs.Callers.{Writes-append, Writes-longer}
use Rattle.dt_cluster_file.specs.CauseTexts.{cluster_text}
use Rattle.dt_command.specs.Statuses.{place_text}
use Rattle.dt_command.proofs.FaultLines.{cluster_line}
use Rattle.dt_command.proofs.faults.put_bad_cluster.Goals as goal

pub returns-in_err-put_front : goal.returns-in_err-put_front
returns-in_err-put_front g c =
    let fault = c.args.fault.now in
    let P : List ℕ → Type 0 = λ text. Writes (g.E.Sink.seen c.args.err.now) (g.E.Sink.seen c.put_front.new.err) text c.from_residual.result in
    subst P (cluster_line (cluster_text fault.cause) fault refl)
    (Writes-longer _ _ (codes "detock: cluster" ++ place_text fault.place) (codes ": " ++ (cluster_text fault.cause ++ 10 ∷ [])) _ _ _ _ c.in_err-put_front.was c.from_residual.ensures.1
    c.put_front.ensures)

pub returns : goal.returns
returns g c =
    let fault = c.args.fault.now in
    let text = c.as_bytes.result.now in
    let P : List ℕ → Type 0 = λ text. Writes (g.E.Sink.seen c.args.err.now) (g.E.Sink.seen c.write_pieces.new.out) text c.write_pieces.result in
    subst P (cluster_line text fault (c.as_bytes.ensures.value ∙ c.text.ensures))
    (Writes-append _ _ _ (codes "detock: cluster" ++ place_text fault.place) (codes ": " ++ (text ++ 10 ∷ [])) _ _ _ c.in_ok-put_front.was c.put_front.ensures c.write_pieces.ensures)
