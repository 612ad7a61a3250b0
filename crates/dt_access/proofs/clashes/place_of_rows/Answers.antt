use Rattle.std.proofs.Common.{◌++◌, ◌∷◌, [], rules}
use Rattle.std.proofs.lemmas.List.Sorted.{IsPartitionPoint-from_clause}
use Rattle.dt_access.specs.ClashSearchInner.{is_below}
use Rattle.dt_access.proofs.Search.{parted}
use Rattle.dt_access.proofs.clashes.place_of_rows.Goals as goal

pub returns-clause-first : goal.returns-clause-first
returns-clause-first c =
    let g = c.args.granule.now in
    IsPartitionPoint-from_clause (λ x. is_below x.0 (g ++ 47 ∷ [])) _ _ c.partition_point.ensures.partitioned (parted (g ++ 47 ∷ []) c.args.keys.now c.requires) (λ a r q k. search rules)
