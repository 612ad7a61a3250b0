use Rattle.dt_access.proofs.Search.{found_at_first, found_at_second}
use Rattle.dt_access.proofs.clashes.has_granule.Goals as goal

pub returns-then-begins_with : goal.returns-then-begins_with
returns-then-begins_with c =
    found_at_first c.args.keys.now _ _ c.args.granule.now _ c.requires c.place_of-itself.ensures.first c.place_of_rows-rows.ensures.first c.begins_with.ensures c.if-begins_with.true

pub returns-else-begins_with : goal.returns-else-begins_with
returns-else-begins_with c =
    found_at_second c.args.keys.now _ _ c.args.granule.now _ _ c.requires c.place_of-itself.ensures.first c.place_of_rows-rows.ensures.first c.begins_with.ensures c.if-begins_with.false
    c.begins_with-else-begins_with.ensures
