use Rattle.std.proofs.Common.{◌≡◌, ◌++◌, ◌∷◌, [], length, ap, refl, subst, sym, arith, rules, ◌∙◌}
use Rattle.std.proofs.lemmas.List.{append_assoc, append-nil}
use Rattle.std.proofs.lemmas.List.Sorted.{IsNonDecreasingBy-from_sort_by_key}
use Rattle.smallvec.proofs.SmallVecLemmas.{items-with_items}
use Rattle.dt_lists.specs.Lists.{Distinct}
use Rattle.dt_queue.specs.TableInner.{lanes_read, lanes_written}
use Rattle.dt_queue.specs.ListedInner.{listed_left}
use Rattle.dt_queue.proofs.RowsNear.{AreGathered, IsNearIn, fresh_next, gathered_more, near_parted, none_gathered, sorted_marks}
use Rattle.dt_queue.proofs.nearest.near_rows.Goals as goal

pub loop-row-init : goal.loop-row-init
loop-row-init c = ([], refl, rw c.new-marks.ensures.items (none_gathered _))

pub loop-row-smaller : goal.loop-row-smaller
loop-row-smaller c = omega (arith, ap length c.in-Some.ensures)

pub loop-row-preserved : goal.loop-row-preserved
loop-row-preserved c =
    let reads = lanes_read c.args.table.now in
    let writes = lanes_written c.args.table.now in
    let done = c.loop-row.invariant.0 in
    let row = c.in-Some.row in
    let rest = listed_left c.next.new.self in
    let all : done ++ row ∷ rest ≡ listed_left c.args.rows = ap (λ l. done ++ l) (sym c.in-Some.ensures) ∙ c.loop-row.invariant.1 in (
      done ++ row ∷ [],
      append_assoc done (row ∷ []) rest ∙ all,
      gathered_more (IsNearIn reads writes c.args.low c.args.high) (near_parted reads writes c.args.low c.args.high c.requires.apart)
          done row c.loop-row.marks.items c.add_row.new.marks.items (fresh_next done row rest (subst Distinct (sym all) c.requires.once)) c.loop-row.invariant.2 c.in_ok-add_row.ensures,
    )

pub returns : goal.returns
returns c =
    let reads = lanes_read c.args.table.now in
    let writes = lanes_written c.args.table.now in
    let near = IsNearIn reads writes c.args.low c.args.high in
    let rows = listed_left c.args.rows in
    let sorted = c.sort_by_key.new.self in
    let done = c.loop-row.invariant.0 in
    let all : done ≡ rows = sym (append-nil done) ∙ ap (λ l. done ++ l) (sym c.in_default.ensures.0) ∙ c.loop-row.invariant.1 in
    let gathered : AreGathered near rows c.loop-row.marks.items = subst (λ l. AreGathered near l c.loop-row.marks.items) all c.loop-row.invariant.2 in
    let same = rw c.as_mut_slice.ensures.value at c.in_ok-sort_by_key.ensures.permutation in
    let long = ap length c.as_mut_slice.ensures.value in
    rw (items-with_items c.loop-row.marks sorted (c.in_ok-sort_by_key.ensures.len ∙ long))
    (sorted_marks near rows c.loop-row.marks.items sorted gathered same
    (IsNonDecreasingBy-from_sort_by_key (λ m. m.number) sorted c.in_ok-sort_by_key.ensures.sorted (λ a r f k. search rules)))
