use Rattle.std.proofs.Common.{rules, ap, map, ◌∙◌}
use Rattle.std.proofs.lemmas.List.{map-append}
use Rattle.std.specs.Slice.Iter.{chunks_rest}
use Rattle.dt_outside.proofs.Callers.{HasAddedUpTo-next, HasAddedUpTo-failed}
use Rattle.dt_command.specs.Statuses.{visible_byte}
use Rattle.dt_command.proofs.faults.write_name.Goals as goal

pub returns-in_err-write_run : goal.returns-in_err-write_run
returns-in_err-write_run g c =
    let cut = ap (map visible_byte) c.in-Some.ensures.steps.1.0 ∙ map-append visible_byte c.in-Some.run'.now (chunks_rest c.next.new.self) in
    HasAddedUpTo-failed _ _ _ _ _ _ _ _ cut c.loop-run.invariant.3 c.write_run.ensures _ _ _ c.in_err-write_run.was c.from_residual.ensures.1

pub loop-run-preserved : goal.loop-run-preserved
loop-run-preserved g c =
    let steps = c.in-Some.ensures.steps in
    let cut = ap (map visible_byte) steps.1.0 ∙ map-append visible_byte c.in-Some.run'.now (chunks_rest c.next.new.self) in
    let size = c.loop-run.invariant.2 in
    (search rules, tt, steps.0 ∙ size, HasAddedUpTo-next _ _ _ _ _ _ _ _ cut c.loop-run.invariant.3 c.write_run.ensures _ c.in_ok-write_run.was)
