use Rattle.std.proofs.Common.{◌≡◌, ◌<◌, length, slice_get, slice_index_or, Some, ap, arith, sym, ◌∙◌}
use Rattle.std.specs.Cmp.Lexicographic.{bytes_decides}
use Rattle.dt_queue.specs.declared.row.Row.{Row}
use Rattle.dt_queue.proofs.RowLists.{found_at}
use Rattle.dt_queue.proofs.rows.Rows.hinted.Goals as goal

pub returns-then-eq : goal.returns-then-eq
returns-then-eq c =
    let row = c.in_ok-row.row in
    let xs = c.args.self.now.table.items in
    let r : Row = c.in_ok-name.field-0.now in
    let look = c.in_ok-name.ensures.lookup in
    let lt : row < length xs = omega (arith, look.3.0, ap length c.deref.ensures.value) in
    let there : r ≡ slice_index_or xs row r = look.1 ∙ ap (λ l. slice_index_or l row r) c.deref.ensures.value in
    let key : r.name.1 ≡ c.args.key.now = (bytes_decides r.name.1 c.args.key.now).0 (sym c.eq.ensures ∙ c.if-eq.true) in
    ap (λ l. slice_get l row) (sym c.requires.named) ∙ found_at xs (λ (x : Row). x.name) row r lt there ∙ (λ i. Some (c.if-name-home.true i, key i))
