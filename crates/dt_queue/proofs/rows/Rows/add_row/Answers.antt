use Rattle.std.proofs.Common.{◌≡◌, ◌++◌, ◌∷◌, [], length, get_or, Some, ap, sym, subst, ◌∙◌, arith}
use Rattle.std.proofs.lemmas.List.{get_or_append_left, length-map, map-append}
use Rattle.dt_lists.specs.Lists.{Has}
use Rattle.dt_lists.proofs.Callers.{added_new, get_seam}
use Rattle.dt_queue.specs.TableInner.{granules_of, row_names}
use Rattle.dt_queue.specs.declared.row.Row.{Row}
use Rattle.dt_queue.proofs.RowLists.{same_name, tells_name, tied_row}
use Rattle.dt_queue.proofs.TableLanes.{lane_behind}
use Rattle.dt_queue.proofs.rows.Rows.add_row.Goals as goal

pub returns-in_err-insert-clause-linked : goal.returns-in_err-insert-clause-linked
returns-in_err-insert-clause-linked c = rw (c.in_ok-reserve.ensures.items, c.in_err-insert.ensures.err) c.in_ok-granule-2.ensures.linked

pub returns-clause-linked : goal.returns-clause-linked
returns-clause-linked c =
    let r = c.granule-2.new.self in
    let g = c.in_ok-granule-2.granule in
    let fresh : ¬ (Has r.names.keys c.args.name) = λ h. c.requires.absent (subst (λ l. Has l c.args.name) c.in_ok-granule-2.ensures.names h) in
    let keys = c.in_ok-insert.ensures.keys ∙ added_new same_name tells_name c.args.name r.names.keys fresh in
    let rows = c.push_reserved.ensures.items ∙ ap (λ l. l ++ c.new.result ∷ []) c.in_ok-reserve.ensures.items in
    let granules = ap granules_of rows ∙ map-append (λ (x : Row). x.granule) r.table.items (c.new.result ∷ []) ∙ ap (λ i. granules_of r.table.items ++ i ∷ []) c.new.ensures.granule in
    let tabled = ap row_names rows
    ∙ map-append (λ (x : Row). x.name) r.table.items (c.new.result ∷ []) ∙ ap (λ n. row_names r.table.items ++ n ∷ []) (c.new.ensures.name ∙ ap (λ k. (c.args.name.0, k)) c.in_ok-copy.ensures.same) in
    let name = c.in_ok-granule-2.ensures.found ∙ ap (λ k. Some (c.args.name.0, k)) c.in_ok-granule.ensures in
    rw (keys, tabled, granules) (tied_row r.names.keys r.granules.keys (row_names r.table.items) (granules_of r.table.items) c.args.name g c.in_ok-granule-2.ensures.linked fresh name)

pub returns-clause-kept : goal.returns-clause-kept
returns-clause-kept c =
    let r = c.granule-2.new.self in
    let g = c.in_ok-granule-2.granule in
    let fresh : ¬ (Has r.names.keys c.args.name) = λ h. c.requires.absent (subst (λ l. Has l c.args.name) c.in_ok-granule-2.ensures.names h) in
    let keys = c.in_ok-insert.ensures.keys ∙ added_new same_name tells_name c.args.name r.names.keys fresh in
    let granules = ap granules_of (c.push_reserved.ensures.items ∙ ap (λ l. l ++ c.new.result ∷ []) c.in_ok-reserve.ensures.items)
    ∙ map-append (λ (x : Row). x.granule) r.table.items (c.new.result ∷ []) ∙ ap (λ i. granules_of r.table.items ++ i ∷ []) c.new.ensures.granule in
    record {
      names = (c.args.name ∷ [], sym (keys ∙ ap (λ l. l ++ c.args.name ∷ []) c.in_ok-granule-2.ensures.names));
      granules = λ row lt.
          ap (λ l. get_or l row 0) granules
          ∙ get_or_append_left (granules_of r.table.items) (g ∷ []) 0 row (omega (arith, lt, ap length c.in_ok-granule-2.ensures.names, c.in_ok-granule-2.ensures.linked.each_row))
          ∙ c.in_ok-granule-2.ensures.kept.granules row lt;
    }

pub returns-clause-found : goal.returns-clause-found
returns-clause-found c =
    let r = c.granule-2.new.self in
    let fresh : ¬ (Has r.names.keys c.args.name) = λ h. c.requires.absent (subst (λ l. Has l c.args.name) c.in_ok-granule-2.ensures.names h) in
    let keys = c.in_ok-insert.ensures.keys ∙ added_new same_name tells_name c.args.name r.names.keys fresh in
    let place : c.len-row.result ≡ length r.names.keys = omega (arith, c.len-row.ensures, r.table.ok.0, length-map r.table.items (λ (x : Row). x.granule), c.in_ok-granule-2.ensures.linked.each_row) in
    rw (keys, place) (get_seam r.names.keys c.args.name [])

pub returns-clause-reads : goal.returns-clause-reads
returns-clause-reads c =
    let r = c.granule-2.new.self in
    rw (c.push_reserved.ensures.items, c.in_ok-reserve.ensures.items, ← c.in_ok-granule-2.ensures.table) (lane_behind (λ (x : Row). x.reads) r.table.items c.new.result c.new.ensures.reads)

pub returns-clause-writes : goal.returns-clause-writes
returns-clause-writes c =
    let r = c.granule-2.new.self in
    rw (c.push_reserved.ensures.items, c.in_ok-reserve.ensures.items, ← c.in_ok-granule-2.ensures.table) (lane_behind (λ (x : Row). x.writes) r.table.items c.new.result c.new.ensures.writes)
