use Rattle.std.proofs.Common.{[], subst}
use Rattle.std.proofs.lemmas.Bool.{false≢true}
use Rattle.dt_node.specs.Steps.{IsPass}
use Rattle.dt_node.specs.TurnInner.{PassesOnce}
use Rattle.dt_node.proofs.CallAfterCall.{moves_more}
use Rattle.dt_node.proofs.PassesOfTurn.{passed_last, passed_more, passed_none, passes_end}
use Rattle.dt_node.proofs.TruePackets.{can_on}
use Rattle.dt_node.proofs.node.Node.go_on.Goals as goal

pub loop-rested-init : goal.loop-rested-init
loop-rested-init g c = record { passed = passed_none c.args.self.now; drained = λ rested. absurd (false≢true rested) }

pub pass-requires-clause-can : goal.pass-requires-clause-can
pass-requires-clause-can g c = can_on [] [] c.requires.can c.loop-rested.invariant.passed.moved

pub returns-in_err-pass-clause-moved : goal.returns-in_err-pass-clause-moved
returns-in_err-pass-clause-moved g c = moves_more c.loop-rested.invariant.passed.moved c.pass.ensures.moved

pub loop-rested-preserved : goal.loop-rested-preserved
loop-rested-preserved g c = record {
  passed = passed_more c.loop-rested.invariant.passed c.pass.ensures.moved c.pass.ensures.knows (subst (λ some. PassesOnce c.loop-rested.self some c.pass.new.self) c.if-branch.true c.in_ok-pass.ensures.passed)
      c.in_ok-pass.ensures.begins c.in_ok-pass.ensures.drained (subst (λ some. IsPass c.args.procs.now some c.loop-rested.self c.pass.new.self) c.if-branch.true c.in_ok-pass.ensures.steps);
  drained = λ rested. c.in_ok-pass.ensures.drained;
}

pub returns-clause-moved : goal.returns-clause-moved
returns-clause-moved g c = moves_more c.loop-rested.invariant.passed.moved c.pass.ensures.moved

pub returns-clause-settled : goal.returns-clause-settled
returns-clause-settled g c =
    passed_last c.requires.can c.loop-rested.invariant.passed c.pass.ensures.moved (subst (λ some. PassesOnce c.loop-rested.self some c.pass.new.self) c.if-branch.false c.in_ok-pass.ensures.passed) c.in_ok-pass.ensures.drained

pub returns-clause-passes : goal.returns-clause-passes
returns-clause-passes g c = passes_end c.loop-rested.invariant.passed (subst (λ some. IsPass c.args.procs.now some c.loop-rested.self c.pass.new.self) c.if-branch.false c.in_ok-pass.ensures.steps)
