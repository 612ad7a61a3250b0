use Rattle.std.proofs.Common.{ap, ap₂, length, replicate, ◌∙◌}
use Rattle.dt_table.specs.RowsInner.{rows_now}
use Rattle.dt_table.specs.declared.opened.Kept.TheVariants.{AsOpened}
use Rattle.dt_table.proofs.RowsNow.{rows_now-unchanged}
use Rattle.dt_table.proofs.opened.OpenedRows.of.Goals as goal

pub returns : goal.returns
returns c =
    let rows = c.args.rows.now.value.entries in
    let long = c.len.ensures.len ∙ ap (λ m. length m.entries) c.deref.ensures in
    let kept = c.in_ok-all_as_opened.ensures ∙ ap (λ n. replicate n AsOpened) long in
    ap₂ rows_now (ap (λ m. m.entries) c.in_ok-try_clone.ensures) kept ∙ rows_now-unchanged rows
