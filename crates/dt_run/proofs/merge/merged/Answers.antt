use Rattle.std.proofs.Common.{ℕ, List, Bor, None, Some, map, length, subst}
use Rattle.dt_events.specs.declared.Stamped.{Stamped}
use Rattle.dt_run.specs.MergeInner.{IsLeast, IsLeastOf}
use Rattle.dt_run.proofs.MergeLoop.{less_left, merging_ends, taken_off}
use Rattle.dt_run.proofs.merge.merged.Goals as goal

abbrev now : Bor (List Stamped) → List Stamped
now items = items.now

pub loop-region-smaller : goal.loop-region-smaller
loop-region-smaller c =
    let found : (stamp : ℕ) × IsLeastOf (map now c.loop-region.left.items) (length (map now c.loop-region.left.items)) c.in-Some.region stamp =
    subst (λ (l : List (Bor (List Stamped))). IsLeast (map now l) (Some c.in-Some.region)) c.as_slice.ensures.value c.in-Some.ensures in
    less_left now c.loop-region.left.items c.loop-region.invariant found.1 c.index.result.now c.in-Some-split_first.rest c.in-Some-split_first.first.now c.index.ensures c.in-Some-split_first.ensures.cases.0

pub loop-region-preserved : goal.loop-region-preserved
loop-region-preserved c =
    let found : (stamp : ℕ) × IsLeastOf (map now c.loop-region.left.items) (length (map now c.loop-region.left.items)) c.in-Some.region stamp =
    subst (λ (l : List (Bor (List Stamped))). IsLeast (map now l) (Some c.in-Some.region)) c.as_slice.ensures.value c.in-Some.ensures in
    taken_off now c.loop-region.left.items c.loop-region.invariant found.1 c.index.result.now c.in-Some-split_first.rest c.in-Some-split_first.first.now c.index.ensures c.in-Some-split_first.ensures.cases.0
    c.in_ok-copy.field-0 c.push.new.self.items c.in_ok-copy.ensures c.in_ok-push.ensures.items

pub returns : goal.returns
returns c =
    merging_ends c.loop-region.invariant (subst (λ (l : List (Bor (List Stamped))). IsLeast (map now l) None) c.as_slice.ensures.value
    (subst (IsLeast (map now c.as_slice.result.now)) c.in_default.is c.least.ensures))
