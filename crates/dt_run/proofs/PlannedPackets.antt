-- After a phase that did not fail the nodes are in step again, and all that they took from each other came as planned.
use Rattle.std.proofs.Common.{◌≡◌, ◌<◌, ◌≤◌, ◌+◌, ◌-◌, ℕ, zero, suc, List, [], ◌∷◌, ◌++◌, length, get_or, slice_get, take, Some, sym, ap, subst, ◌∙◌, inl, inr, arith}
use Rattle.std.proofs.Math.ListN.{get_or-append}
use Rattle.std.proofs.Math.Seq.{get_or-append_seam, take-append_seam}
use Rattle.std.proofs.lemmas.List.{get_or_past, length-append, take-append-le}
use Rattle.dt_lists.specs.Lists.{Either, Has, IsFront}
use Rattle.dt_lists.proofs.Callers.{either_le, either_nat, get_front, has_place}
use Rattle.dt_events.specs.declared.Event.{Event}
use Rattle.dt_events.specs.declared.Event.TheVariants.{Submit, Append, Deliver, Insert, Resolve, Execute, Answer}
use Rattle.dt_events.specs.declared.Stamped.{Stamped}
use Rattle.dt_node.specs.NodeView.{new_items}
use Rattle.dt_run.specs.Marks.{AreMarksOf, ArePlanned, IsKeptIn, IsPlannedIn, IsToldIn, WasAskedBefore, kept_before, kept_by_region, mark_at, placings_in, submissions_in}
use Rattle.dt_run.specs.NodesStand.{AreInStep}
use Rattle.dt_run.specs.NodesView.{NodesView, marks_at, node_in}
use Rattle.dt_run.specs.Phase.{EndsInStep, IsPhase}

-- the regions that an event names are there
abbrev pub RegionsAre : ℕ → Event → Type 0
RegionsAre regions (Append home source number) = (home < regions) × (source < regions)
RegionsAre regions (Deliver region home first last) = (region < regions) × (home < regions)
RegionsAre regions event = Unit {0}

-- marks

module _ (v v' : NodesView) (region mark : ℕ) (more : marks_at v' region ≡ marks_at v region ++ mark ∷ []) where
  mark_old : (phase : ℕ) → phase < length (marks_at v region) + 1 → mark_at v' region phase ≡ mark_at v region phase
  mark_old phase lt = ap (λ l. get_or (0 ∷ l) phase 0) more ∙ get_or-append (0 ∷ marks_at v region) (mark ∷ []) 0 phase (omega (arith, lt))

  mark_new : mark_at v' region (length (marks_at v region) + 1) ≡ mark
  mark_new =
      let up : length (marks_at v region) + 1 ≡ suc (length (marks_at v region)) = omega arith in
      ap (mark_at v' region) up ∙ ap (λ l. get_or (0 ∷ l) (suc (length (marks_at v region))) 0) more ∙ get_or-append_seam (0 ∷ marks_at v region) mark [] 0

-- marks that do not fall stay below the last one
marks_below : (v : NodesView) (made region : ℕ) → AreMarksOf v made region → (steps phase : ℕ) → phase + steps ≡ made → mark_at v region phase ≤ length (kept_by_region v region)
marks_below v made region m zero phase e = let same : phase ≡ made = omega (arith, e) in let l : mark_at v region made ≡ length
    (kept_by_region v region) = m.last in let p : mark_at v region phase ≡ mark_at v region made = ap (mark_at v region) same in omega (arith, l, p)
marks_below v made region m (suc steps) phase e =
    let up : mark_at v region phase ≤ mark_at v region (phase + 1) = m.rise phase (omega (arith, e)) in
    let rest : mark_at v region (phase + 1) ≤ length (kept_by_region v region) = marks_below v made region m steps (phase + 1) (omega (arith, e)) in
    omega (arith, up, rest)

-- a phase loses nothing that was kept
pub keeps_all : {v v' : NodesView} → IsPhase v v' → (region : ℕ) → region < v.cluster.regions → length (kept_by_region v region) ≤ length (kept_by_region v' region)
keeps_all {v} {v'} phase region lr =
    let e : length (kept_by_region v' region) ≡ length (kept_by_region v region ++ new_items (node_in v region) (node_in v' region)) = ap length (phase.turns region lr).gone.grows in
    omega (arith, e, length-append (kept_by_region v region) (new_items (node_in v region) (node_in v' region)))

-- and has the same regions
pub regions_same : {v v' : NodesView} → IsPhase v v' → v'.cluster.regions ≡ v.cluster.regions
regions_same phase = ap (λ c. c.regions) phase.cluster

pub down : {v v' : NodesView} → IsPhase v v' → {region : ℕ} → region < v'.cluster.regions → region < v.cluster.regions
down phase {region} lt = subst (λ m. region < m) (regions_same phase) lt

module _ {v v' : NodesView} (step : AreInStep v) (phase_is : IsPhase v v') (ends : EndsInStep v v') where
  abbrev made : ℕ
  made = step.made

  abbrev pub new : ℕ → List Stamped
  new region = new_items (node_in v region) (node_in v' region)

  grows : (region : ℕ) → region < v.cluster.regions → kept_by_region v' region ≡ kept_by_region v region ++ new region
  grows region l = (phase_is.turns region l).gone.grows

  many : (region : ℕ) → region < v.cluster.regions → length (marks_at v region) ≡ made
  many region l = (step.each region l).marks.many

  pub old_mark : (region : ℕ) → region < v.cluster.regions → (phase : ℕ) → phase ≤ made → mark_at v' region phase ≡ mark_at v region phase
  old_mark region l phase le = let e = many region l in mark_old v v' region (length (kept_by_region v' region)) (ends.each region l).marks phase (omega (arith, le, e))

  new_mark : (region : ℕ) → region < v.cluster.regions → mark_at v' region (suc made) ≡ length (kept_by_region v' region)
  new_mark region l =
      let e : suc made ≡ length (marks_at v region) + 1 = let k = many region l in omega (arith, k) in
      ap (mark_at v' region) e ∙ mark_new v v' region (length (kept_by_region v' region)) (ends.each region l).marks

  last_mark : (region : ℕ) → region < v.cluster.regions → mark_at v' region made ≡ length (kept_by_region v region)
  last_mark region l = old_mark region l made (omega arith) ∙ (step.each region l).marks.last

  below : (region : ℕ) → region < v.cluster.regions → (phase : ℕ) → phase ≤ made → mark_at v region phase ≤ length (kept_by_region v region)
  below region l phase le = marks_below v made region (step.each region l).marks (made - phase) phase (omega (arith, le))

  pub marks_now : (region : ℕ) → region < v.cluster.regions → AreMarksOf v' (suc made) region
  marks_now region l = record {
    many = ap length (ends.each region l).marks ∙ length-append (marks_at v region) (length (kept_by_region v' region) ∷ []) ∙ (let k = many region l in let e : length (marks_at v region) + 1 ≡ suc made = omega (arith, k) in e);
    rise = λ phase lt. rise phase lt (either_nat phase made);
    last = new_mark region l;
  }
    where
      rise : (phase : ℕ) → phase < suc made → Either (phase ≡ made) → mark_at v' region phase ≤ mark_at v' region (phase + 1)
      rise phase lt (inl is) =
          let a : mark_at v' region phase ≡ length (kept_by_region v region) = ap (mark_at v' region) is ∙ last_mark region l in
          let up : phase + 1 ≡ suc made = omega (arith, is) in
          let b : mark_at v' region (phase + 1) ≡ length (kept_by_region v' region) = ap (mark_at v' region) up ∙ new_mark region l in
          omega (arith, a, b, keeps_all phase_is region l)
      rise phase lt (inr n) =
          let a : mark_at v' region phase ≡ mark_at v region phase = old_mark region l phase (omega (arith, lt)) in
          let b : mark_at v' region (phase + 1) ≡ mark_at v region (phase + 1) = old_mark region l (phase + 1) (omega (arith, lt, n)) in
          let up : mark_at v region phase ≤ mark_at v region (phase + 1) = (step.each region l).marks.rise phase (omega (arith, lt, n)) in
          omega (arith, a, b, up)

  -- what was kept before a phase, as it was before this one
  before_old : (region : ℕ) → region < v.cluster.regions → (phase : ℕ) → phase ≤ made → kept_before v' region phase ≡ kept_before v region phase
  before_old region l phase le =
      ap (λ n. take n (kept_by_region v' region)) (old_mark region l (phase - 1) (omega (arith, le))) ∙ ap (take (mark_at v region (phase - 1))) (grows region l)
      ∙ take-append-le (mark_at v region (phase - 1)) (kept_by_region v region) (new region) (below region l (phase - 1) (omega (arith, le)))

  pub before_now : (region : ℕ) → region < v.cluster.regions → kept_before v' region (suc made) ≡ kept_by_region v region
  before_now region l =
      (let e : suc made - 1 ≡ made = omega arith in ap (λ k. take (mark_at v' region k) (kept_by_region v' region)) e)
      ∙ ap (λ n. take n (kept_by_region v' region)) (last_mark region l) ∙ ap (take (length (kept_by_region v region))) (grows region l) ∙ take-append_seam (kept_by_region v region) (new region)

  -- what a region asked goes on
  module _ (fronts : (source home : ℕ) → source < v.cluster.regions → home < v.cluster.regions
      → IsFront (get_or (node_in v source).site.region.state.here.asked home []) (get_or (node_in v' source).site.region.state.here.asked home [])) where
    -- and what was planned stays so
    pub planned_stays : (phase : ℕ) (e : Event) → phase ≤ made → RegionsAre v.cluster.regions e → IsPlannedIn v phase e → IsPlannedIn v' phase e
    planned_stays phase (Append home source number) le r p = λ n. (
      subst (λ c. IsToldIn c phase) (sym phase_is.cluster) (p n).0,
      let a : WasAskedBefore v phase source home number = (p n).1 in record {
        id = a.id;
        asked = get_front _ _ number a.id (fronts source home r.1 r.0) a.asked;
        early = subst (λ l. a.id.seq ≤ submissions_in l) (sym (before_old source r.1 phase le)) a.early;
      },
    )
    planned_stays phase (Deliver region home first last) le r p = λ n. (
      subst (λ c. IsToldIn c phase) (sym phase_is.cluster) (p n).0,
      subst (λ l. last ≤ placings_in l) (sym (before_old home r.1 phase le)) (p n).1,
    )
    planned_stays phase (Submit region name) le r p = tt
    planned_stays phase (Insert region home) le r p = tt
    planned_stays phase (Resolve region ids) le r p = tt
    planned_stays phase (Execute region id) le r p = tt
    planned_stays phase (Answer region name) le r p = tt

    -- all that is kept is planned, if what is new is
    module _ (old : ArePlanned v) (there : (region : ℕ) (x : Stamped) → region < v.cluster.regions → Has (kept_by_region v region) x → RegionsAre v.cluster.regions x.event)
        (now : (region : ℕ) (x : Stamped) → region < v.cluster.regions → Has (new region) x → IsPlannedIn v' (suc made) x.event) where
      pub planned_now : ArePlanned v'
      planned_now = record { each = λ region phase x l from k. by region phase x (down phase_is l) from k (either_le phase made) (either_nat phase (suc made)) }
        where
          got_left : {A : Type 0} (xs ys : List A) (i : ℕ) (x : A) → i < length xs → slice_get (xs ++ ys) i ≡ Some x → slice_get xs i ≡ Some x
          got_left [] ys i x lt e = absurd (omega (arith, lt))
          got_left (y ∷ xs) ys zero x lt e = e
          got_left (y ∷ xs) ys (suc i) x lt e = got_left xs ys i x (omega (arith, lt)) e

          got_right : {A : Type 0} (xs ys : List A) (i : ℕ) (x : A) → length xs ≤ i → slice_get (xs ++ ys) i ≡ Some x → Has ys x
          got_right [] ys i x le e = has_place ys i x e
          got_right (y ∷ xs) ys zero x le e = absurd (omega (arith, le))
          got_right (y ∷ xs) ys (suc i) x le e = got_right xs ys i x (omega (arith, le)) e

          beyond : (region phase : ℕ) → region < v.cluster.regions → suc made < phase → mark_at v' region phase ≡ 0
          beyond region phase l lt = get_or_past (0 ∷ marks_at v' region) phase 0 (let k : length (marks_at v' region) ≡ suc made = (marks_now region l).many in omega (arith, k, lt))

          by : (region phase : ℕ) (x : Stamped) → region < v.cluster.regions → 1 ≤ phase → IsKeptIn v' region phase x → Either (phase ≤ made) → Either (phase ≡ suc made) → IsPlannedIn v' phase x.event
          by region phase x l from k (inl le) e =
              let a : mark_at v' region phase ≡ mark_at v region phase = old_mark region l phase le in
              let b : mark_at v' region (phase - 1) ≡ mark_at v region (phase - 1) = old_mark region l (phase - 1) (omega (arith, le)) in
              let to = k.to in let begin = k.from in
              let short : k.place < length (kept_by_region v region) = let s = below region l phase le in omega (arith, a, to, s) in
              let stands : slice_get (kept_by_region v region) k.place ≡ Some x = got_left (kept_by_region v region) (new region) k.place x short (subst (λ q. slice_get q k.place ≡ Some x) (grows region l) k.stands) in
              planned_stays phase x.event le (there region x l (has_place (kept_by_region v region) k.place x stands))
              (old.each region phase x l from (record { place = k.place; stands = stands; from = omega (arith, b, begin); to = omega (arith, a, to) }))
          by region phase x l from k (inr n) (inl is) =
              let begin = k.from in
              let p : phase - 1 ≡ made = omega (arith, is) in
              let a : mark_at v' region (phase - 1) ≡ length (kept_by_region v region) = ap (mark_at v' region) p ∙ last_mark region l in
              let h : Has (new region) x = got_right (kept_by_region v region) (new region) k.place x (omega (arith, a, begin)) (subst (λ q. slice_get q k.place ≡ Some x) (grows region l) k.stands) in
              subst (λ q. IsPlannedIn v' q x.event) (sym is) (now region x l h)
          by region phase x l from k (inr n) (inr m) = let z : mark_at v' region phase ≡ 0 = beyond region phase l (omega (arith, n, m)) in let to = k.to in absurd (omega (arith, z, to))
