-- How phases and events are counted: a phase adds one, what was kept stays, and a phase in which the number of all kept events
-- stays is silent.
use Rattle.std.proofs.Common.{◌≡◌, ◌≢◌, ◌<◌, ◌≤◌, ◌+◌, ◌⊎◌, ℕ, zero, suc, Bool, true, false, cond, eqb, List, [], ◌∷◌, ◌++◌, length, refl, sym, ap, subst, ◌∙◌, inl, inr, arith}
use Rattle.std.proofs.Common.{append-nil, eq-eqb, eqb-true}
use Rattle.std.proofs.lemmas.Bool.{false_from_ne_true}
use Rattle.std.proofs.lemmas.List.{length-append, length_push, nil_from_length}
use Rattle.dt_lists.specs.Lists.{Either}
use Rattle.dt_lists.proofs.Callers.{either_nat}
use Rattle.dt_events.specs.declared.Stamped.{Stamped}
use Rattle.dt_merge.specs.Merge.{region_at, those_at}
use Rattle.dt_merge.specs.Weight.{sum_below}
use Rattle.dt_node.specs.NodeView.{new_items}
use Rattle.dt_run.specs.Marks.{kept_by_region, mark_at}
use Rattle.dt_run.specs.NodesStand.{AreInStep}
use Rattle.dt_run.specs.NodesView.{NodesView, marks_at, node_in}
use Rattle.dt_run.specs.Phase.{EndsInStep, IsPhase}
use Rattle.dt_run.specs.Silence.{PhaseIsCounted, IsSilent, all_kept_after, all_kept_in, made_in, quiet_after, quiet_in}
use Rattle.dt_run.proofs.Laws.{sum_below_added, sum_below_le, sum_below_same}
use Rattle.dt_run.proofs.PlannedPackets.{keeps_all, marks_now, old_mark, regions_same}

-- where no summand falls and the sum stays, each stays
sum_stays : (f g : ℕ → ℕ) (n : ℕ) → ((k : ℕ) → k < n → f k ≤ g k) → sum_below f n ≡ sum_below g n → (k : ℕ) → k < n → f k ≡ g k
sum_stays f g zero e same k lt = absurd (omega (arith, lt))
sum_stays f g (suc n) e same k lt = by (either_nat k n) (λ s below. sum_stays f g n (λ j l. e j (omega (arith, l))) s k below)
  where
    front : sum_below f n ≤ sum_below g n
    front = sum_below_le f g n (λ j l. e j (omega (arith, l)))

    last : f n ≤ g n
    last = e n (omega arith)

    by : Either (k ≡ n) → (sum_below f n ≡ sum_below g n → k < n → f k ≡ g k) → f k ≡ g k
    by (inl is) later = subst (λ m. f m ≡ g m) (sym is) (omega (arith, front, last, same))
    by (inr m) later = later (omega (arith, front, last, same)) (omega (arith, lt, m))

-- each item is of one region at most

abbrev one_if : ℕ → ℕ → ℕ
one_if r q = cond (eqb r q) 1 0

one_here : (r q : ℕ) → r ≡ q → one_if r q ≡ 1
one_here r q is = rw (eq-eqb r q is) refl

none_here : (r q : ℕ) → r ≢ q → one_if r q ≡ 0
none_here r q n = rw (false_from_ne_true (eqb r q) (λ e. n (eqb-true r q e))) refl

one_in : (r n : ℕ) → ((n ≤ r) × (sum_below (one_if r) n ≡ 0)) ⊎ ((r < n) × (sum_below (one_if r) n ≡ 1))
one_in r zero = inl (omega arith, refl)
one_in r (suc n) = by (one_in r n) (either_nat r n)
  where
    by : ((n ≤ r) × (sum_below (one_if r) n ≡ 0)) ⊎ ((r < n) × (sum_below (one_if r) n ≡ 1)) → Either (r ≡ n)
        → ((suc n ≤ r) × (sum_below (one_if r) (suc n) ≡ 0)) ⊎ ((r < suc n) × (sum_below (one_if r) (suc n) ≡ 1))
    by (inl b) (inl is) = let old : sum_below (one_if r) n ≡ 0 = b.1 in inr (omega (arith, is), omega (arith, one_here r n is, old))
    by (inl b) (inr apart) =
        let old : sum_below (one_if r) n ≡ 0 = b.1 in
        let le : n ≤ r = b.0 in
        inl (omega (arith, le, apart), omega (arith, none_here r n apart, old))
    by (inr b) (inl is) = let lt : r < n = b.0 in absurd (omega (arith, lt, is))
    by (inr b) (inr apart) =
        let old : sum_below (one_if r) n ≡ 1 = b.1 in
        let lt : r < n = b.0 in
        inr (omega (arith, lt), omega (arith, none_here r n apart, old))

one_at_most : (r n : ℕ) → sum_below (one_if r) n ≤ 1
one_at_most r n = elim (one_in r n) [
  | inl b ↦ let e : sum_below (one_if r) n ≡ 0 = b.1 in omega (arith, e)
  | inr b ↦ let e : sum_below (one_if r) n ≡ 1 = b.1 in omega (arith, e)
]

one_more : (q : ℕ) (x : Stamped) (items : List Stamped) → length (those_at q (x ∷ items)) ≡ one_if (region_at x) q + length (those_at q items)
one_more q x items = go (eqb (region_at x) q)
  where
    go : (b : Bool) → length (cond b (x ∷ those_at q items) (those_at q items)) ≡ cond b 1 0 + length (those_at q items)
    go true = omega arith
    go false = omega arith

pub all_of_all : (items : List Stamped) (n : ℕ) → sum_below (λ q. length (those_at q items)) n ≤ length items
all_of_all [] n = none n
  where
    none : (n : ℕ) → sum_below (λ q. 0) n ≤ 0
    none zero = omega arith
    none (suc n) = let a : sum_below (λ q. 0) n ≤ 0 = none n in omega (arith, a)
all_of_all (x ∷ items) n =
    let a : sum_below (λ q. length (those_at q (x ∷ items))) n ≡ sum_below (λ q. one_if (region_at x) q + length (those_at q items)) n = sum_below_same _ _ n (λ q lt. one_more q x items) in
    let b : sum_below (λ q. one_if (region_at x) q + length (those_at q items)) n
    ≡ sum_below (one_if (region_at x)) n + sum_below (λ q. length (those_at q items)) n = sum_below_added (one_if (region_at x)) (λ q. length (those_at q items)) n in
    let c : sum_below (one_if (region_at x)) n ≤ 1 = one_at_most (region_at x) n in
    let d : sum_below (λ q. length (those_at q items)) n ≤ length items = all_of_all items n in
    omega (arith, a, b, c, d)

-- a phase that did not fail

module _ {before after : NodesView} (step : AreInStep before) (phase : IsPhase before after) (ends : EndsInStep before after) (one : 0 < before.cluster.regions) where
  pub made_is : made_in before ≡ step.made
  made_is = (step.each 0 one).marks.many

  pub made_now : made_in after ≡ made_in before + 1
  made_now = ap length (ends.each 0 one).marks ∙ length_push (marks_at before 0) (length (kept_by_region after 0))

  made_next : made_in after ≡ suc step.made
  made_next = let a = made_is in let b = made_now in omega (arith, a, b)

  -- numbers of earlier phases stay

  kept_old : (p : ℕ) → p ≤ step.made → all_kept_after after p ≡ all_kept_after before p
  kept_old p le = ap (sum_below (λ region. mark_at after region p)) (regions_same phase) ∙ sum_below_same _ _ before.cluster.regions (λ region lr. old_mark step phase ends region lr p le)

  quiet_old : (p : ℕ) → p ≤ step.made → quiet_after after p ≡ quiet_after before p
  quiet_old zero le = refl
  quiet_old (suc p) le =
      let x : all_kept_after after p ≡ all_kept_after before p = kept_old p (omega (arith, le)) in
      let y : all_kept_after after (suc p) ≡ all_kept_after before (suc p) = kept_old (suc p) le in
      let z : quiet_after after p ≡ quiet_after before p = quiet_old p (omega (arith, le)) in
      λ i. cond (eqb (x i) (y i)) (z i + 1) 0

  kept_last : all_kept_after before step.made ≡ all_kept_in before
  kept_last = sum_below_same _ _ before.cluster.regions (λ region lr. (step.each region lr).marks.last)

  kept_next : all_kept_after after (suc step.made) ≡ all_kept_in after
  kept_next =
      ap (sum_below (λ region. mark_at after region (suc step.made))) (regions_same phase)
      ∙ sum_below_same _ _ before.cluster.regions (λ region lr. (marks_now step phase ends region lr).last)
      ∙ ap (sum_below (λ region. length (kept_by_region after region))) (sym (regions_same phase))

  quiet_now : quiet_in after ≡ cond (eqb (all_kept_in before) (all_kept_in after)) (quiet_in before + 1) 0
  quiet_now =
      let x : all_kept_after after step.made ≡ all_kept_in before = kept_old step.made (omega arith) ∙ kept_last in
      let z : quiet_after after step.made ≡ quiet_in before = quiet_old step.made (omega arith) ∙ ap (quiet_after before) (sym made_is) in
      ap (quiet_after after) made_next ∙ (λ i. cond (eqb (x i) (kept_next i)) (z i + 1) 0)

  kept_there : all_kept_in after ≡ sum_below (λ region. length (kept_by_region after region)) before.cluster.regions
  kept_there = ap (sum_below (λ region. length (kept_by_region after region))) (regions_same phase)

  pub kept_up : all_kept_in before ≤ all_kept_in after
  kept_up =
      let a : all_kept_in before ≤ sum_below (λ region. length (kept_by_region after region)) before.cluster.regions = sum_below_le _ _ before.cluster.regions (keeps_all phase) in
      let e = kept_there in omega (arith, a, e)

  pub is_counted : PhaseIsCounted before after
  is_counted = record { made = made_now; kept = kept_up; quiet = quiet_now }

  -- what is new in a region
  abbrev new_at : ℕ → List Stamped
  new_at region = new_items (node_in before region) (node_in after region)

  -- a phase is silent where the number of all events stays, and otherwise that rises
  pub silent_of : all_kept_in before ≡ all_kept_in after → IsSilent before after
  silent_of same = record { each = each }
    where
      each : (region : ℕ) → region < before.cluster.regions → kept_by_region after region ≡ kept_by_region before region
      each region lr = grows ∙ ap (λ l. kept_by_region before region ++ l) (nil_from_length (new_at region) no_more) ∙ append-nil (kept_by_region before region)
        where
          grows : kept_by_region after region ≡ kept_by_region before region ++ new_at region
          grows = (phase.turns region lr).gone.grows

          long : length (kept_by_region before region) ≡ length (kept_by_region after region)
          long = sum_stays (λ r. length (kept_by_region before r)) (λ r. length (kept_by_region after r)) before.cluster.regions (keeps_all phase) (same ∙ kept_there) region lr

          no_more : length (new_at region) ≡ 0
          no_more =
              let e : length (kept_by_region after region) ≡ length (kept_by_region before region ++ new_at region) = ap length grows in
              let f : length (kept_by_region before region ++ new_at region) ≡ length (kept_by_region before region) + length (new_at region) = length-append (kept_by_region before region) (new_at region) in
              omega (arith, e, f, long)

  pub quiet_more : all_kept_in before ≡ all_kept_in after → quiet_in after ≡ quiet_in before + 1
  quiet_more same = quiet_now ∙ (rw (eq-eqb (all_kept_in before) (all_kept_in after) same) refl)

  pub quiet_none : all_kept_in before ≢ all_kept_in after → quiet_in after ≡ 0
  quiet_none other = quiet_now ∙ (rw (false_from_ne_true (eqb (all_kept_in before) (all_kept_in after)) (λ e. other (eqb-true (all_kept_in before) (all_kept_in after) e))) refl)
