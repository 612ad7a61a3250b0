use Rattle.std.proofs.Common.{ap, ap₂}
use Rattle.std.specs.FinMap.{from_entries}
use Rattle.std.specs.Ordering.{nat_cmp}
use Rattle.std.specs.Cmp.Lexicographic.{slice_cmp}
use Rattle.dt_table.specs.StoredUnitInner.{by_bytes}
use Rattle.dt_table.specs.StoredMovesInner.{histories_of}
use Rattle.dt_table.proofs.table.Table.of.Goals as goal

pub returns : goal.returns
returns c =
    let values = ap (from_entries {R = slice_cmp nat_cmp}) c.in_ok-of.ensures in
    let moves = ap₂ histories_of c.new-3.ensures.items (ap by_bytes c.new.ensures.empty) in
    rw (← c.first.view_is) (λ i. record { version = c.args.version; regions = c.args.regions; homes = c.in_ok-share.ensures i; values = values i; moves = moves i })
