use Rattle.std.proofs.Common.{◌≡◌, ◌==◌, ◌∙◌, ◌+◌, ℕ, IsSome, List, [], ◌∷◌, Some, cond, map, not, refl, sym, ap, subst}
use Rattle.std.specs.List.{count_by}
use Rattle.std.proofs.lemmas.List.Sums.{sum_by-cons}
use Rattle.slab.specs.Slab.{get}
use Rattle.dt_queue.specs.KeptInner.{AreQueuesKept, IsNearMark, waiting_of}
use Rattle.dt_queue.specs.LanesInner.{AreMarks}
use Rattle.dt_queue.specs.Queues.{neighbours}
use Rattle.dt_queue.specs.declared.cell.Cell.{Cell}
use Rattle.dt_queue.specs.declared.kept.Kept.{Kept}
use Rattle.dt_queue.specs.declared.mark.Mark.{Mark}
use Rattle.dt_queue.proofs.EntriesOfCells.{neighbours_are, waits}
use Rattle.dt_queue.proofs.queues.Queues.count_others.Goals as goal

-- marks are counted as their vertices are
counted : (marks : List Mark) (v : ℕ) → count_by (λ (m : Mark). not (m.vertex == v)) marks ≡ count_by (λ n. not (n == v)) (map (λ (m : Mark). m.vertex) marks)
counted [] v = refl
counted (m ∷ marks) v =
    sum_by-cons (λ (m : Mark). cond (not (m.vertex == v)) 1 0) m marks ∙ ap (λ n. cond (not (m.vertex == v)) 1 0 + n) (counted marks v)
    ∙ sym (sum_by-cons (λ n. cond (not (n == v)) 1 0) m.vertex (map (λ (m : Mark). m.vertex) marks))

pub index-cell-requires : goal.index-cell-requires
index-cell-requires c =
    let w = waits c.self.inside.kept c.self.invariant c.args.slot (rw (← c.self.view_is) at c.requires) in
    subst IsSome (sym w.1) refl

pub near_one-requires : goal.near_one-requires
near_one-requires c = record {
  kept = c.self.invariant;
  row_in = c.self.invariant.known c.args.slot c.index-cell.result.now c.index-cell.ensures;
  one = c.has_one_near.ensures c.if-has_one_near.true;
}

pub near-requires : goal.near-requires
near-requires c = record { kept = c.self.invariant; row_in = c.self.invariant.known c.args.slot c.index-cell.result.now c.index-cell.ensures }

-- where the neighbours are those of these marks, so many of them are of other vertices
counted_near : (k : Kept) → AreQueuesKept k → (slot : ℕ) (x : Cell) → get k.cells slot ≡ Some x → (ms : List Mark) (v : ℕ) → AreMarks (IsNearMark k x) ms
    → count_by (λ (m : Mark). not (m.vertex == v)) ms ≡ count_by (λ n. not (n == v)) (map (λ w. w.vertex) (neighbours (waiting_of k) slot))
counted_near k kept slot x e ms v near = counted ms v ∙ ap (count_by (λ n. not (n == v))) (neighbours_are k kept slot x e ms near)

pub returns-then-has_one_near : goal.returns-then-has_one_near
returns-then-has_one_near c =
    let k = c.self.inside.kept in
    rw (← c.self.view_is) (c.other.ensures ∙ counted_near k c.self.invariant c.args.slot c.index-cell.result.now c.index-cell.ensures _ c.args.vertex c.near_one.ensures)

pub returns : goal.returns
returns c =
    let k = c.self.inside.kept in
    rw (← c.self.view_is)
    (c.others.ensures ∙ ap (count_by (λ (m : Mark). not (m.vertex == c.args.vertex))) c.as_slice.ensures
    ∙ counted_near k c.self.invariant c.args.slot c.index-cell.result.now c.index-cell.ensures c.in_ok-marks.marks.items c.args.vertex c.in_ok-marks.ensures)
