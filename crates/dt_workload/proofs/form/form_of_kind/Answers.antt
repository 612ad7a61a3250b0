use Rattle.dt_workload.proofs.form.form_of_kind.Goals as goal

pub returns-in-Some : goal.returns-in-Some
returns-in-Some c = c.call_form.ensures c.args.kind.now c.in-Some.ensures.1

pub returns-in-Some-rank_after : goal.returns-in-Some-rank_after
returns-in-Some-rank_after c = c.move_form.ensures c.args.kind.now c.in-Some-rank_after.ensures.1
