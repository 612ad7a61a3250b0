use Rattle.std.proofs.Common.{nat_eq, rules}
use Rattle.std.specs.Cmp.Lexicographic.{pointwise}
use Rattle.std.specs.List.{IsDistinct}
use Rattle.std.specs.Map.{keys_of}
use Rattle.dt_table.proofs.ByBytes.{distinct-by_bytes}
use Rattle.dt_table.proofs.shown.add_moved_units.Goals as goal

pub returns-clause-once : goal.returns-clause-once
returns-clause-once c =
    let unique : IsDistinct (λ x y. pointwise nat_eq x.items y.items) (keys_of c.args.units.now.entries) = search rules in
    distinct-by_bytes c.args.units.now.entries unique
