use Rattle.std.proofs.Common.{le_refl, ◌≡◌, ◌<◌, ◌+◌, ◌^◌, ℕ, length, None, Some, refl, ap, sym, subst, ◌∙◌, arith}
use Rattle.std.proofs.lemmas.Option.{get_or_from_slice_get, slice_get_within}
use Rattle.std.proofs.lemmas.List.{length-map}
use Rattle.slab.specs.Slab.{Slab, Updates, get}
use Rattle.dt_lists.specs.Lists.{AllIn, Has, IsFront}
use Rattle.dt_access.specs.declared.access.Mode.{Mode}
use Rattle.dt_queue.specs.declared.cell.Cell.{Cell}
use Rattle.dt_queue.specs.declared.kept.Kept.{Kept}
use Rattle.dt_queue.specs.declared.mark.Mark.{Mark}
use Rattle.dt_queue.specs.declared.row.Row.{Row}
use Rattle.dt_queue.specs.declared.rows.Rows.{Rows}
use Rattle.dt_queue.specs.LanesInner.{SameLanes}
use Rattle.dt_queue.specs.TableInner.{lanes_read, lanes_written}
use Rattle.dt_queue.specs.RowsInner.{AreRowsLinked, KeepsRows, RowLinks, links, name_at}
use Rattle.dt_queue.specs.KeptInner.{AreQueuesKept, lane, place_at}
use Rattle.dt_queue.proofs.LanesOfCells.{all_before, kept_same, rows_refl, same_lanes, same_self, to_err}
use Rattle.dt_queue.proofs.RowsUsed.{all_the_same, listed_same, queues_pushed}
use Rattle.dt_queue.proofs.NewNumbers.{reserved}
use Rattle.dt_queue.proofs.kept.Kept.push.Goals as goal
use Rattle.dt_queue.proofs.kept.Kept.push.Goals.{In_ok-reserve}

-- with its row added, and nothing else
with_row : (k : Kept) (r : Rows) → AreQueuesKept k → AreRowsLinked (links r) → KeepsRows (links k.rows) (links r) → SameLanes (lanes_read k.rows.table.items) (lanes_read r.table.items)
    → SameLanes (lanes_written k.rows.table.items) (lanes_written r.table.items) → AreQueuesKept (record k { rows = r })
with_row k r kept linked keeps reads writes =
    kept_same k (record k { rows = r }) kept linked keeps (λ s. refl) refl lanes
    (listed_same k (record k { rows = r }) kept.listed keeps (all_the_same k (record k { rows = r }) refl) (le_refl k.next_number) (λ m p x h. subst (λ l. Has l x) (lanes m p) h))
  where
    lanes : (m : Mode) (p : ℕ) → lane (record k { rows = r }) m p ≡ lane k m p
    lanes m p = same_lanes (record k { rows = r }) k reads writes refl m p

-- the lanes are the same whatever the cells are
lanes_in : (e : Kept) (cells : Slab Cell) (m : Mode) (p : ℕ) → lane (record e { cells = cells }) m p ≡ lane e m p
lanes_in e cells m p = same_lanes (record e { cells = cells }) e (same_self _) (same_self _) refl m p

-- with room for its cell, and nothing else
with_room : (c : In_ok-reserve) → AreQueuesKept (record c.enter.new.self { cells = c.reserve.new.self })
with_room c = (reserved c.enter.new.self c.reserve.new.self c.in_ok-enter.ensures.kept (ap (λ (x : Slab Cell). x.slots) c.in_ok-reserve.ensures.rest_kept)).kept

pub returns-in_err-row-clause-kept : goal.returns-in_err-row-clause-kept
returns-in_err-row-clause-kept c =
    with_row c.args.self.now c.row.new.self c.requires.kept c.in_err-row.ensures.linked c.in_err-row.ensures.kept c.in_err-row.ensures.reads c.in_err-row.ensures.writes

pub enter-requires : goal.enter-requires
enter-requires c = record {
  kept = with_row c.args.self.now c.row.new.self c.requires.kept c.in_ok-row.ensures.linked c.in_ok-row.ensures.kept c.in_ok-row.ensures.reads c.in_ok-row.ensures.writes;
  row_in = slice_get_within c.row.new.self.names.keys c.in_ok-row.row _ c.in_ok-row.ensures.found;
}

pub returns-in_err-reserve-clause-kept : goal.returns-in_err-reserve-clause-kept
returns-in_err-reserve-clause-kept c = (reserved c.enter.new.self c.reserve.new.self c.in_ok-enter.ensures.kept (ap (λ (x : Slab Cell). x.slots) c.in_err-reserve.ensures.rest_kept)).kept

pub add_mark-requires-clause-row_in : goal.add_mark-requires-clause-row_in
add_mark-requires-clause-row_in c =
    let r = c.row.new.self in
    subst (λ (y : Kept). c.in_ok-row.row < length y.rows.table.items) (sym c.in_ok-enter.ensures.same)
    (omega (arith, slice_get_within r.names.keys c.in_ok-row.row _ c.in_ok-row.ensures.found, c.in_ok-row.ensures.linked.each_row, length-map r.table.items (λ (x : Row). x.granule)))

pub add_mark-requires-clause-last : goal.add_mark-requires-clause-last
add_mark-requires-clause-last c =
    let e = c.enter.new.self in
    let place = place_at (links e.rows) c.args.mode c.in_ok-row.row in
    subst (λ n. AllIn (λ (m : Mark). m.number < n) (lane (record e { cells = c.reserve.new.self }) c.args.mode place)) (ap (λ (y : Kept). y.next_number) c.in_ok-enter.ensures.same)
    (rw (lanes_in e c.reserve.new.self c.args.mode place) (all_before e c.in_ok-enter.ensures.kept c.args.mode place))

pub returns-in_err-add_mark-clause-kept : goal.returns-in_err-add_mark-clause-kept
returns-in_err-add_mark-clause-kept c =
    let mid : Kept = record c.enter.new.self { cells = c.reserve.new.self } in
    let kept : AreQueuesKept mid = with_room (goal.at.returns-in_err-add_mark-clause-kept c).In_ok-reserve in
    let n : Kept = c.add_mark.new.self in
    let same = c.in_err-add_mark.ensures.same in
    let keeps : KeepsRows (links mid.rows) (links n.rows) = subst (KeepsRows (links mid.rows)) (sym same.rows) (rows_refl (links mid.rows)) in
    kept_same mid n kept (subst AreRowsLinked (sym same.rows) kept.linked) keeps (λ s. ap (λ (x : Slab Cell). get x s) same.cells) same.number (λ m p. same.lanes m p)
    (listed_same mid n kept.listed keeps (all_the_same mid n same.listed) (omega (arith, same.number)) (λ m p x h. subst (λ l. Has l x) (same.lanes m p) h))

pub returns-in_err-add_mark-clause-rows : goal.returns-in_err-add_mark-clause-rows
returns-in_err-add_mark-clause-rows c = subst (λ (l : RowLinks). IsFront c.args.self.now.rows.names.keys l.names)
    (sym (c.in_err-add_mark.ensures.same.rows ∙ ap (λ (y : Kept). links y.rows) c.in_ok-enter.ensures.same)) c.in_ok-row.ensures.kept.names

pub returns-in_err-add_mark-clause-same : goal.returns-in_err-add_mark-clause-same
returns-in_err-add_mark-clause-same c = to_err _
    (ap (λ (x : Slab Cell). x.slots) c.in_err-add_mark.ensures.same.cells ∙ ap (λ (x : Slab Cell). x.slots) c.in_ok-reserve.ensures.rest_kept ∙ ap (λ (y : Kept). y.cells.slots) c.in_ok-enter.ensures.same)

pub insert_reserved-requires : goal.insert_reserved-requires
insert_reserved-requires c = rw c.in_ok-add_mark.ensures.added.cells c.in_ok-reserve.ensures.room

pub returns-clause-kept : goal.returns-clause-kept
returns-clause-kept c =
    let k : Kept = c.args.self.now in
    let e : Kept = c.enter.new.self in
    let entered = c.in_ok-enter.ensures.same in
    let rows = ap (λ (y : Kept). links y.rows) entered in
    let mid : Kept = record e { cells = c.reserve.new.self } in
    let kept : AreQueuesKept mid = with_room (goal.at.returns-clause-kept c).In_ok-reserve in
    let marked : Kept = c.add_mark.new.self in
    let n : Kept = record marked { cells = c.insert_reserved.new.self; next_number = k.next_number + 1 } in
    let cell : Cell = record { row = c.in_ok-row.row; mode = c.args.mode; vertex = c.args.vertex; number = k.next_number } in
    let added = c.in_ok-add_mark.ensures.added in
    let within : k.next_number + 1 < 2 ^ 64 = omega (arith, c.requires.left) in
    let slot : ℕ = c.vacant_key-slot.result in
    let at : c.insert_reserved.result ≡ slot = c.insert_reserved.ensures.key ∙ ap (λ (x : Slab Cell). x.vacant_key) added.cells ∙ sym c.vacant_key-slot.ensures.value in
    let up : Updates marked.cells n.cells slot (Some cell) = subst (λ s. Updates marked.cells n.cells s (Some cell)) at c.insert_reserved.ensures.updates in
    let old : (s : ℕ) → get marked.cells s ≡ get mid.cells s = λ s. ap (λ (x : Slab Cell). get x s) added.cells in
    let same : (m : Mode) (p : ℕ) → lane n m p ≡ lane marked m p = λ m p. same_lanes n marked (same_self _) (same_self _) refl m p in
    queues_pushed mid n slot cell kept (record {
      cells = record { changed = up.changed; others = λ s ne. up.others s ne ∙ old s };
      vacant = sym (old slot) ∙ subst (λ s. get marked.cells s ≡ None) at c.insert_reserved.ensures.was_vacant;
      row_in = subst (λ (l : RowLinks). c.in_ok-row.row < length l.names) (sym rows) (slice_get_within c.row.new.self.names.keys c.in_ok-row.row _ c.in_ok-row.ensures.found);
      number = sym (ap (λ (y : Kept). y.next_number) entered);
      next = refl;
      fits = within;
      changed = same cell.mode (place_at (links mid.rows) cell.mode cell.row) ∙ added.changed;
      others = λ m p ne. same m p ∙ added.others m p ne;
      rows = added.rows;
      listed = added.listed;
    }) c.in_ok-enter.ensures.entered

pub returns-clause-rows : goal.returns-clause-rows
returns-clause-rows c = subst (λ (l : RowLinks). IsFront c.args.self.now.rows.names.keys l.names)
    (sym (c.in_ok-add_mark.ensures.added.rows ∙ ap (λ (y : Kept). links y.rows) c.in_ok-enter.ensures.same)) c.in_ok-row.ensures.kept.names

pub returns-clause-added : goal.returns-clause-added
returns-clause-added c =
    let k : Kept = c.args.self.now in
    let entered = c.in_ok-enter.ensures.same in
    let marked : Kept = c.add_mark.new.self in
    let cell : Cell = record { row = c.in_ok-row.row; mode = c.args.mode; vertex = c.args.vertex; number = k.next_number } in
    let added = c.in_ok-add_mark.ensures.added in
    let old : (s : ℕ) → get marked.cells s ≡ get k.cells s =
    λ s. ap (λ (x : Slab Cell). get x s) added.cells ∙ ap (λ (x : Slab Cell). get x s) c.in_ok-reserve.ensures.rest_kept ∙ ap (λ (y : Kept). get y.cells s) entered in
    let up = c.insert_reserved.ensures.updates in
    record {
      cell = cell;
      vacant = sym (old c.insert_reserved.result) ∙ c.insert_reserved.ensures.was_vacant;
      updates = record { changed = up.changed; others = λ s ne. up.others s ne ∙ old s };
      number = refl;
      name = ap (λ (l : RowLinks). name_at l.names c.in_ok-row.row) (added.rows ∙ ap (λ (y : Kept). links y.rows) entered)
          ∙ get_or_from_slice_get c.row.new.self.names.keys c.in_ok-row.row _ _ c.in_ok-row.ensures.found;
      mode_is = refl;
      vertex_is = refl;
    }
