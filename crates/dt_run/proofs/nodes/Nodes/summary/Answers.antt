use Rattle.std.proofs.Common.{◌≡◌, ◌≤◌, ◌<◌, ◌^◌, false, IfOk, length, ap, subst, sym, ◌∙◌}
use Rattle.std.specs.Prelude.{sum_by}
use Rattle.dt_table.specs.Table.{shown}
use Rattle.dt_run.specs.EndOfRun.{IsAllDone}
use Rattle.dt_run.specs.NodesView.{NodesView, marks_at}
use Rattle.dt_run.specs.Run.{IsRunSummary}
use Rattle.dt_run.specs.SeatsInner.{answers_at, seat_at}
use Rattle.dt_run.proofs.Summaries.{answers_fit, answers_seen, first_shown, some_seat, summary_told}
use Rattle.dt_run.proofs.nodes.Nodes.summary.Goals as goal

pub answers_by-answers-requires : goal.answers_by-answers-requires
answers_by-answers-requires g c = subst (λ l. sum_by answers_at l < 2 ^ 64) (sym c.as_slice.ensures.value) (answers_fit c.self.invariant.seated)

pub first_rows-requires : goal.first_rows-requires
first_rows-requires g c = subst (λ l. 0 < length l) (sym c.as_slice-2.ensures.value) (some_seat c.self.invariant.seated)

pub returns : goal.returns
returns g c =
    subst (λ v. IfOk c.summary_text.result (λ text. IsRunSummary v c.args.calls text.items)) c.self.view_is
    (summary_told c.self.invariant.seated.nodes (subst (λ (v : NodesView). v.broken ≡ false) (sym c.self.view_is) c.requires.sound)
    (subst (λ (v : NodesView). 1 ≤ length (marks_at v 0)) (sym c.self.view_is) c.requires.phases) (subst IsAllDone (sym c.self.view_is) c.requires.done)
    c.args.calls c.answers_by-answers.result c.as_slice-3.result.now
    (c.answers_by-answers.ensures ∙ ap (sum_by answers_at) c.as_slice.ensures.value ∙ answers_seen c.self.invariant.seated)
    (c.as_slice-3.ensures ∙ c.in_ok-rows.ensures ∙ ap (λ (l : _). shown (seat_at l 0).node.site.region.state.here.table) c.as_slice-2.ensures.value ∙ first_shown c.self.invariant.seated)
    c.summary_text.result c.summary_text.ensures)
