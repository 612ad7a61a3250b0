use Rattle.std.proofs.Common.{◌≡◌, ◌<◌, ℕ, Err, List, get_or, length, map, refl, ap, sym, ◌∙◌, subst, arith}
use Rattle.dt_events.specs.declared.Event.{Event}
use Rattle.dt_command.specs.RefusalCode.{IsStepRefusal}
use Rattle.dt_command.specs.TaskFiles.{unnumbered}
use Rattle.dt_command.specs.declared.status.Status.{Status}
use Rattle.dt_command.proofs.Steps.{inside_any, step_made, step_refused, refused_by}
use Rattle.dt_command.proofs.replay.world_after.Goals as goal

pub returns-in-Err-clause-refused : goal.returns-in-Err-clause-refused
returns-in-Err-clause-refused c = λ status is.
    let same : c.refusal.result ≡ status = cc in
    let numbered : List (ℕ × Event) = c.args.numbered.now in
    let line = c.line.result in
    let within : c.loop-at.at < length (unnumbered numbered) = rw (← c.events-events.ensures) (omega arith) in
    let its_line : line ≡ get_or (map (λ (event : ℕ × Event). event.0) numbered) c.loop-at.at line =
    c.line.ensures ∙ inside_any numbered c.loop-at.at 0 line within in
    let P : Status → Type 0 = IsStepRefusal c.args.cluster c.args.workload numbered in
    let first = step_refused c.args.cluster c.args.workload c.events-events.result.now c.loop-at.at c.index-events-at.result (omega arith) c.index-events-at.is
    c.loop-at.world c.loop-at.invariant numbered c.events-events.ensures line its_line in
    subst P (sym c.refusal.ensures ∙ same)
    (refused_by c.args.cluster c.args.workload numbered _ c.in-Err.error
    (λ rule illegal. first rule (c.in-Err.ensures.refused rule (ap (λ error. Err error) illegal))))

pub loop-at-preserved : goal.loop-at-preserved
loop-at-preserved c =
    step_made c.args.cluster c.args.workload c.events-events.result.now c.loop-at.at c.index-events-at.result (omega arith) c.index-events-at.is
    c.loop-at.world c.loop-at.invariant c.step.new.self (c.in_default.ensures.legal refl) c.in_default.ensures.next
