use Rattle.std.proofs.Common.{false, Ok, sym, ap, subst, ◌∙◌}
use Rattle.dt_region.specs.Region.{RegionView}
use Rattle.dt_region.specs.StepsInner.{IsOwnStep, StepsOn}
use Rattle.dt_region.specs.Underway.{IsUnderway}
use Rattle.dt_region.proofs.alone.finish.Goals as goal
use Rattle.dt_region.proofs.Underway.{moves_left, one_less, one_more, stamp_left}

pub step-requires-clause-sound : goal.step-requires-clause-sound
step-requires-clause-sound g c = c.steps.invariant.on_way.underway.sound

pub step-requires-clause-stamp : goal.step-requires-clause-stamp
step-requires-clause-stamp g c = stamp_left c.args.procs.now c.steps.invariant.on_way.entry c.steps.region c.steps.invariant.on_way.underway

pub step-requires-clause-holds : goal.step-requires-clause-holds
step-requires-clause-holds g c = c.steps.invariant.on_way.underway.holds

pub step-requires-clause-moves : goal.step-requires-clause-moves
step-requires-clause-moves g c = moves_left c.args.procs.now c.steps.invariant.on_way.entry c.steps.region c.steps.invariant.on_way.underway

pub steps-smaller : goal.steps-smaller
steps-smaller g c =
    let made : IsOwnStep c.args.procs.now c.steps.region c.step.new.region = subst (λ b. StepsOn c.args.procs.now c.steps.region (Ok b) c.step.new.region) c.if-not-branch.false c.in_ok-step.ensures.steps in
    one_less c.args.procs.now c.steps.invariant.on_way.entry c.steps.region c.steps.invariant.on_way.underway c.step.new.region made c.in_ok-step.ensures.sound

pub steps-preserved : goal.steps-preserved
steps-preserved g c =
    let made : IsOwnStep c.args.procs.now c.steps.region c.step.new.region = subst (λ b. StepsOn c.args.procs.now c.steps.region (Ok b) c.step.new.region) c.if-not-branch.false c.in_ok-step.ensures.steps in
    record {
      on_way = record {
        entry = c.steps.invariant.on_way.entry;
        underway = one_more c.args.procs.now c.steps.invariant.on_way.entry c.steps.region c.steps.invariant.on_way.underway c.step.new.region made c.in_ok-step.ensures.sound;
      };
      underway = λ entry u. one_more c.args.procs.now entry c.steps.region (c.steps.invariant.underway entry u) c.step.new.region made c.in_ok-step.ensures.sound;
      regions = c.steps.invariant.regions ∙ sym (ap (λ (r : RegionView). r.state.regions) made.makes.1);
    }

pub returns-in_err-step-clause-underway : goal.returns-in_err-step-clause-underway
returns-in_err-step-clause-underway g c entry u = subst (IsUnderway c.args.procs.now entry) (sym c.in_err-step.ensures.steps) (c.steps.invariant.underway entry u)

pub returns-then-not-branch-clause-underway : goal.returns-then-not-branch-clause-underway
returns-then-not-branch-clause-underway g c entry u =
    let same : StepsOn c.args.procs.now c.steps.region (Ok false) c.step.new.region = subst (λ b. StepsOn c.args.procs.now c.steps.region (Ok b) c.step.new.region) c.if-not-branch.true c.in_ok-step.ensures.steps in
    subst (IsUnderway c.args.procs.now entry) (sym same.1) (c.steps.invariant.underway entry u)
