use Rattle.std.proofs.Common.{◌∷◌, [], inl, inr, sym, ◌∙◌, subst, string_bytes, append_assoc, append-nil}
use Rattle.toml.specs.View.{view}
use Rattle.dt_lists.specs.Lists.{Pairwise}
use Rattle.dt_cluster_file.specs.Rows.{IsHome}
use Rattle.dt_cluster_file.specs.ReaderInner.{IsBadHomeOf}
use Rattle.dt_cluster_file.proofs.MapEntries.{listed, listed_are, tells_more, err_passed}
use Rattle.dt_cluster_file.proofs.homes.homes_of.Goals as goal

pub returns-in_err-home-clause-fault : goal.returns-in_err-home-clause-fault
returns-in_err-home-clause-fault c =
    err_passed _ c.from_residual-in_err-home.result c.in_err-home.field-0.0 c.from_residual-in_err-home.ensures.1
    (tells_more _ (IsBadHomeOf _ c.args.version c.args.regions) (λ f is. (
      c.as_str.result.now,
      is.0,
      is.1,
      (
        listed c.args.table.now.entries,
        listed_are c.args.table.now.entries c.iter-name-items.ensures.ordered,
        c.loop-name.invariant.3 c.as_str.result.now is.0 (rw c.in-Some.ensures.steps (inl (c.as_str.ensures.value, rw (← c.as_str.ensures.value) is.2))),
      ),
    ))
    c.in_err-home.field-0.0 c.in_err-home.ensures.fault)

pub loop-name-preserved : goal.loop-name-preserved
loop-name-preserved c =
    let ok = c.in_ok-home.ensures.ok in
    let home : IsHome c.args.version c.args.regions (string_bytes c.in-Some.name.now, view c.in-Some.value.now) c.in_ok-home.field-0 = (ok.0 ∙ c.as_str.ensures.value, ok.1, ok.2, ok.3) in (
      tt,
      tt,
      (λ rest p. rw c.in_ok-push.ensures.items (subst (λ hs. Pairwise (IsHome c.args.version c.args.regions) (listed c.args.table.now.entries) hs) (sym (append_assoc c.loop-name.homes.items (c.in_ok-home.field-0 ∷ []) rest))
          (c.loop-name.invariant.2 (c.in_ok-home.field-0 ∷ rest) (rw c.in-Some.ensures.steps (home, p))))),
      λ name why h. c.loop-name.invariant.3 name why (rw c.in-Some.ensures.steps (inr ((c.in_ok-home.field-0, home), h))),
    )

pub returns-clause-ok : goal.returns-clause-ok
returns-clause-ok c = (
  listed c.args.table.now.entries,
  listed_are c.args.table.now.entries c.iter-name-items.ensures.ordered,
  rw c.from_vec.ensures (subst (λ hs. Pairwise (IsHome c.args.version c.args.regions) (listed c.args.table.now.entries) hs) (append-nil c.loop-name.homes.items) (c.loop-name.invariant.2 [] (rw c.in-None.ensures.steps.0 tt))),
)
