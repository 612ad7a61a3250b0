use Rattle.std.proofs.Common.{[], ◌∷◌, ◌++◌, length, ap, sym, ◌∙◌, subst, append_assoc}
use Rattle.dt_lists.specs.Lists.{AllIn}
use Rattle.dt_text.specs.Lines.{FileLine}
use Rattle.dt_text.proofs.Callers.{IsLineWithin, lines_of-within}
use Rattle.dt_workload.proofs.Steps.{none_read, line_read, read_valid}
use Rattle.dt_workload.proofs.reader.read_workload.Goals as goal

pub loop-line-init : goal.loop-line-init
loop-line-init c = (
  rw c.new-lines.ensures (lines_of-within c.args.bytes.now),
  c.new-draft.ensures.counted,
  ([], c.new-lines.ensures, rw c.new-draft.ensures.empty (none_read c.args.cluster.now)),
)

pub loop-line-preserved : goal.loop-line-preserved
loop-line-preserved c =
    let inv = c.loop-line.invariant in
    let line : FileLine = record { number = c.in-Some.line.number; bytes = c.in-Some.line.bytes.now } in
    let before = inv.2.0 in (
      (subst (AllIn (IsLineWithin (length c.args.bytes.now))) c.in-Some.ensures inv.0).1,
      c.in-Ok.ensures.counted,
      (
        before ++ line ∷ [],
        append_assoc before (line ∷ []) c.next.new.self ∙ ap (λ ls. before ++ ls) (sym c.in-Some.ensures) ∙ inv.2.1,
        line_read c.args.cluster.now before line c.loop-line.draft.sessions.items c.add_line.new.self.sessions.items inv.2.2 c.in-Ok.ensures.ok,
      ),
    )

pub returns-clause-valid : goal.returns-clause-valid
returns-clause-valid c =
    let inv = c.loop-line.invariant in
    read_valid c.args.cluster.now inv.2.0 c.into_workload.result (rw c.into_workload.ensures inv.2.2)
