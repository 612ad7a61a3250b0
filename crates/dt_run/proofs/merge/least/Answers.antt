use Rattle.std.proofs.Common.{◌≡◌, ◌+◌, ◌∷◌, List, [], Bor, length, map, Some, sym, ap, subst, ◌∙◌, arith, ltb-true}
use Rattle.std.proofs.lemmas.Bool.{false≢true, ltb-false}
use Rattle.std.specs.Option.{option_copied}
use Rattle.std.proofs.lemmas.List.{length-map}
use Rattle.dt_events.specs.declared.Stamped.{Stamped}
use Rattle.dt_merge.specs.Merge.{kept_at}
use Rattle.dt_run.specs.MergeInner.{IsFoundIn, IsLeastOf}
use Rattle.dt_run.proofs.MergeLoop.{found_first, found_lower, found_same, found_still, head_at, head_rest, no_head}
use Rattle.dt_run.proofs.merge.least.Goals as goal
use Rattle.dt_run.proofs.merge.least.Goals.{in-Some-found, in-None, then-lower, else-lower}

abbrev all_now : List (Bor (List Stamped)) → List (List Stamped)
all_now left = map (λ (items : Bor (List Stamped)). items.now) left

pub loop-region-preserved-in_default : goal.loop-region-preserved-in_default
loop-region-preserved-in_default c =
    let kept = all_now c.args.left.now in
    let here : kept_at kept c.loop-region.region ≡ [] =
    head_at (λ (items : Bor (List Stamped)). items.now) c.args.left.now c.loop-region.region c.index-left-region.result c.index-left-region.is c.loop-region-test.true
    ∙ no_head c.index-left-region.result.now (sym (ap option_copied c.in_default.is) ∙ c.first.ensures.value) in
    found_same kept c.loop-region.region c.loop-region.found c.loop-region.invariant here

pub loop-region-preserved : goal.loop-region-preserved
loop-region-preserved c =
    let kept = all_now c.args.left.now in
    let i = c.loop-region.region in
    let r = head_rest c.index-left-region.result.now c.in-Some.first.now (sym c.first.ensures.value ∙ ap option_copied c.in-Some.is) in
    let here : kept_at kept i ≡ c.in-Some.first.now ∷ r.0 =
    head_at (λ (items : Bor (List Stamped)). items.now) c.args.left.now i c.index-left-region.result c.index-left-region.is c.loop-region-test.true ∙ r.1 in
    elim c.if-lower.branch [
      | then-lower w ↦ subst (IsFoundIn kept (i + 1)) (sym w.found-is) (elim c.match-found.branch [
        | in-Some-found v ↦ found_lower kept i here (subst (IsFoundIn kept i) v.in-Some-found.is c.loop-region.invariant) (ltb-true c.in-Some.first.now.stamp v.in-Some-found.stamp (sym v.lower-is ∙ w.if-lower.true))
        | in-None v ↦ found_first kept i here (subst (IsFoundIn kept i) v.in-None.is c.loop-region.invariant)
      ])
      | else-lower w ↦ subst (IsFoundIn kept (i + 1)) (sym w.found-is) (elim c.match-found.branch [
        | in-Some-found v ↦ subst (IsFoundIn kept (i + 1)) (sym v.in-Some-found.is) (found_still kept i here (subst (IsFoundIn kept i) v.in-Some-found.is c.loop-region.invariant)
            (ltb-false c.in-Some.first.now.stamp v.in-Some-found.stamp (sym v.lower-is ∙ w.if-lower.false)))
        | in-None v ↦ absurd (false≢true (sym w.if-lower.false ∙ v.lower-is))
      ])
    ]

pub returns : goal.returns
returns c =
    let kept = all_now c.args.left.now in
    let many : length kept ≡ length c.args.left.now = length-map c.args.left.now (λ (items : Bor (List Stamped)). items.now) in
    let up : c.loop-region.region ≡ length kept = omega (arith, many, c.loop-region-test.false, c.loop-region.auto.region-end) in
    let f : IsFoundIn kept c.loop-region.region (Some (c.in_ok-region.region, c.in_ok-region.field-0-1)) = subst (IsFoundIn kept c.loop-region.region) c.in_ok-region.was c.loop-region.invariant in
    (c.in_ok-region.field-0-1, subst (λ n. IsLeastOf kept n c.in_ok-region.region c.in_ok-region.field-0-1) up f)
