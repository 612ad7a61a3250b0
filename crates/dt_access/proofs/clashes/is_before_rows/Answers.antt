use Rattle.std.proofs.Common.{[], ◌∷◌, ◌++◌, ap, ◌∙◌, nat_cmp}
use Rattle.std.specs.Ordering.{is_lt}
use Rattle.std.specs.Cmp.Lexicographic.{slice_cmp}
use Rattle.dt_access.specs.ClashSearchInner.{is_below}
use Rattle.dt_access.proofs.Search.{below_by_rest, below_by_other}
use Rattle.dt_access.proofs.clashes.is_before_rows.Goals as goal

pub returns-in-Some : goal.returns-in-Some
returns-in-Some c =
    let cut = c.in-Some.ensures.cases in
    let rest = below_by_rest c.bytes-key.result.now c.args.granule.now c.in-Some.rest.now cut.0 cut.1 in
    c.is_lt.ensures ∙ ap is_lt (c.cmp.ensures ∙ ap (slice_cmp nat_cmp c.in-Some.rest.now) c.as_slice.ensures ∙ rest) ∙ ap (λ k. is_below k (c.args.granule.now ++ 47 ∷ [])) c.bytes-key.ensures.same

pub returns-in-None : goal.returns-in-None
returns-in-None c =
    let other = below_by_other c.bytes-key.result.now c.args.granule.now c.in-None.ensures.cases in
    c.is_lt-in-None.ensures ∙ ap is_lt (c.cmp-in-None.ensures ∙ other) ∙ ap (λ k. is_below k (c.args.granule.now ++ 47 ∷ [])) c.bytes-key.ensures.same
