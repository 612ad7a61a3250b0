use Rattle.std.proofs.Common.{refl, sym, subst, ◌∙◌, inl, inr, arith}
use Rattle.std.proofs.lemmas.Bool.{false≢true}
use Rattle.dt_lists.specs.Lists.{AllIn}
use Rattle.dt_lists.proofs.Callers.{front_refl}
use Rattle.dt_run.specs.SeatsInner.{HasFewSubmitted}
use Rattle.dt_run.proofs.FinishedRun.{done_where, few_submitted}
use Rattle.dt_run.proofs.RunEnds.{phases_few}
use Rattle.dt_run.proofs.PhaseSequence.{ended, keeps_on, ran_out}
use Rattle.dt_run.proofs.to_end.make_phases.Goals as goal

pub returns-in-Err-clause-run : goal.returns-in-Err-clause-run
returns-in-Err-clause-run g c = ran_out refl c.phases.invariant.kept c.phase.ensures.phase c.in-Err.refused c.in-Err.ensures.broken

pub all_done-requires : goal.all_done-requires
all_done-requires g c = subst (AllIn HasFewSubmitted) (sym c.as_slice.ensures.value) (few_submitted c.phase.ensures.running.seated)

pub returns-then-all_done-clause-run : goal.returns-then-all_done-clause-run
returns-then-all_done-clause-run g c =
    let made = c.in-Ok.ensures in
    ended refl c.phases.invariant.kept c.phase.ensures.phase c.phases.invariant.few made.counted (made.in_step.broken ∙ c.phases.invariant.sound)
    ((done_where c.phase.ensures.running.seated c.as_slice.ensures.value c.all_done.result c.all_done.ensures).0 c.if-all_done.true)

pub phases-init : goal.phases-init
phases-init g c = record { running = c.requires.running; sound = c.requires.sound; kept = record { many = refl; each = λ region lt. front_refl _ }; few = inl refl }

pub phases-smaller : goal.phases-smaller
phases-smaller g c =
    let made = c.in-Ok.ensures in
    let asked = done_where c.phase.ensures.running.seated c.as_slice.ensures.value c.all_done.result c.all_done.ensures in
    let counted = made.counted.made in
    let few = phases_few made.ends (λ done. absurd (false≢true (sym c.if-all_done.false ∙ asked.1 done))) in omega (arith, counted, few)

pub phases-preserved : goal.phases-preserved
phases-preserved g c =
    let before = c.phases.invariant in
    let made = c.in-Ok.ensures in
    let asked = done_where c.phase.ensures.running.seated c.as_slice.ensures.value c.all_done.result c.all_done.ensures in
    record {
      running = c.phase.ensures.running;
      sound = made.in_step.broken ∙ before.sound;
      kept = keeps_on refl before.kept c.phase.ensures.phase;
      few = inr (phases_few made.ends (λ done. absurd (false≢true (sym c.if-all_done.false ∙ asked.1 done))));
    }
