use Rattle.std.proofs.Common.{◌∷◌, [], inl, inr, sym, ◌∙◌, subst, string_bytes, append_assoc, append-nil}
use Rattle.toml.specs.View.{view}
use Rattle.dt_lists.specs.Lists.{Pairwise}
use Rattle.dt_cluster_file.specs.Rows.{IsRow}
use Rattle.dt_cluster_file.specs.ReaderInner.{IsBadRowOf}
use Rattle.dt_cluster_file.proofs.MapEntries.{listed, listed_are, tells_more, err_passed}
use Rattle.dt_cluster_file.proofs.rows.rows_of.Goals as goal

pub returns-in_err-row-clause-fault : goal.returns-in_err-row-clause-fault
returns-in_err-row-clause-fault c =
    err_passed _ c.from_residual-in_err-row.result c.in_err-row.field-0.0 c.from_residual-in_err-row.ensures.1
    (tells_more _ (IsBadRowOf _) (λ f is. (
      c.as_str.result.now,
      is.0,
      is.1,
      (
        listed c.args.table.now.entries,
        listed_are c.args.table.now.entries c.iter-name-items.ensures.ordered,
        c.loop-name.invariant.3 c.as_str.result.now is.0 (rw c.in-Some.ensures.steps (inl (c.as_str.ensures.value, rw (← c.as_str.ensures.value) is.2))),
      ),
    ))
    c.in_err-row.field-0.0 c.in_err-row.ensures.fault)

pub loop-name-preserved : goal.loop-name-preserved
loop-name-preserved c =
    let ok = c.in_ok-row.ensures.ok in
    let row : IsRow (string_bytes c.in-Some.name.now, view c.in-Some.value.now) c.in_ok-row.field-0 = (ok.0 ∙ c.as_str.ensures.value, ok.1, ok.2) in (
      tt,
      tt,
      (λ rest p. rw c.in_ok-push.ensures.items (subst (λ rs. Pairwise IsRow (listed c.args.table.now.entries) rs) (sym (append_assoc c.loop-name.rows.items (c.in_ok-row.field-0 ∷ []) rest))
          (c.loop-name.invariant.2 (c.in_ok-row.field-0 ∷ rest) (rw c.in-Some.ensures.steps (row, p))))),
      λ name why h. c.loop-name.invariant.3 name why (rw c.in-Some.ensures.steps (inr ((c.in_ok-row.field-0, row), h))),
    )

pub returns-clause-ok : goal.returns-clause-ok
returns-clause-ok c = (
  listed c.args.table.now.entries,
  listed_are c.args.table.now.entries c.iter-name-items.ensures.ordered,
  rw c.from_vec.ensures (subst (λ rs. Pairwise IsRow (listed c.args.table.now.entries) rs) (append-nil c.loop-name.rows.items) (c.loop-name.invariant.2 [] (rw c.in-None.ensures.steps.0 tt))),
)
