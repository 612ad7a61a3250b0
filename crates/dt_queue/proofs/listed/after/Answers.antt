use Rattle.std.proofs.Common.{nat_le, rules, ◌∙◌}
use Rattle.std.proofs.lemmas.List.Sorted.{IsPartitionPoint-from_clause, IsPartitionedBy-leb}
use Rattle.dt_queue.specs.declared.listing.Listing.{Listing}
use Rattle.dt_queue.proofs.Listings.{later_from, not_falling, parts_at}
use Rattle.dt_queue.proofs.listed.after.Goals as goal

pub returns : goal.returns
returns c =
    let xs = c.args.listings.now in
    let low = c.args.low in
    let i = c.partition_point-start.result in
    let point = IsPartitionPoint-from_clause (λ (a : Listing). nat_le a.number low) xs i c.partition_point-start.ensures.partitioned (IsPartitionedBy-leb (λ (a : Listing). a.number) xs low (not_falling xs c.requires))
    (λ x r q k. search rules) in
    let parts = parts_at (λ (a : Listing). nat_le a.number low) xs i point c.partition_point-start.ensures.bound in
    c.split_at.ensures.back ∙ later_from xs low i parts.0 parts.1
