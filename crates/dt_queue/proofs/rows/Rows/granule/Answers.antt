use Rattle.std.proofs.Common.{◌≡◌, [], length, ◌∙◌}
use Rattle.dt_lists.proofs.Callers.{added_new, found_at, get_seam, missed}
use Rattle.dt_queue.specs.TableInner.{granules_of, row_names}
use Rattle.dt_queue.proofs.RowLists.{same_name, tells_name, tied_granule}
use Rattle.dt_queue.proofs.rows.Rows.granule.Goals as goal

pub returns-in-Some-clause-found : goal.returns-in-Some-clause-found
returns-in-Some-clause-found c = found_at same_name tells_name c.args.name c.args.self.now.granules.keys c.in-Some.granule c.in-Some.ensures.index

pub returns-clause-linked : goal.returns-clause-linked
returns-clause-linked c =
    let r = c.args.self.now in
    let fresh = missed same_name tells_name c.args.name r.granules.keys c.in_default.ensures.index in
    rw (c.in_ok-insert.ensures.keys ∙ added_new same_name tells_name c.args.name r.granules.keys fresh) (tied_granule r.names.keys r.granules.keys (row_names r.table.items) (granules_of r.table.items) c.args.name c.requires fresh)

pub returns-clause-found : goal.returns-clause-found
returns-clause-found c =
    let r = c.args.self.now in
    let fresh = missed same_name tells_name c.args.name r.granules.keys c.in_default.ensures.index in
    let keys = c.in_ok-insert.ensures.keys ∙ added_new same_name tells_name c.args.name r.granules.keys fresh in
    let place : c.len-granule.result ≡ length r.granules.keys = c.len-granule.ensures.len in
    rw (keys, place) (get_seam r.granules.keys c.args.name [])
