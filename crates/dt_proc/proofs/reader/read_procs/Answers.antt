use Rattle.std.proofs.Common.{◌<◌, ◌^◌, length, sym, subst, arith}
use Rattle.dt_proc.specs.WalkInner.{AreFewProcs}
use Rattle.dt_proc.proofs.ProcsWalk.{GivesAll, passed_few, outcome_second}
use Rattle.dt_proc.proofs.reader.read_procs.Goals as goal

pub procs-requires-clause-few : goal.procs-requires-clause-few
procs-requires-clause-few c = subst AreFewProcs (sym c.as_slice.ensures.value) (passed_few c.args.text.now c.in_ok-tokens.tokens.items c.in_ok-tokens.ensures.ok)

pub procs-requires-clause-short : goal.procs-requires-clause-short
procs-requires-clause-short c = subst (λ v. length v < 2 ^ 32) (sym c.as_slice.ensures.value) (omega (arith, c.in_ok-tokens.ensures.short, c.requires))

pub returns-clause-outcome : goal.returns-clause-outcome
returns-clause-outcome c =
    outcome_second c.args.text.now c.in_ok-tokens.tokens.items c.procs.result c.in_ok-tokens.ensures.ok
    (subst (λ v. GivesAll v c.procs.result) c.as_slice.ensures.value c.procs.ensures.right)
