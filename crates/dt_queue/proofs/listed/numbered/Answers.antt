use Rattle.std.proofs.Common.{◌≡◌, ◌≤◌, true, false, nat_lt, take, drop, rules, ap, sym, subst, ◌∙◌}
use Rattle.std.specs.List.Sorted.{IsNonDecreasingBy}
use Rattle.std.proofs.lemmas.List.Sorted.{IsPartitionPoint-from_clause, IsPartitionedBy-ltb}
use Rattle.dt_lists.specs.Lists.{AllIn}
use Rattle.dt_lists.proofs.Callers.{filter_each}
use Rattle.dt_queue.specs.declared.listing.Listing.{Listing}
use Rattle.dt_queue.specs.ListedInner.{is_later}
use Rattle.dt_queue.proofs.Listings.{not_falling, numbered_to, parts_at}
use Rattle.dt_queue.proofs.listed.numbered.Goals as goal

pub returns : goal.returns
returns c =
    let xs = c.args.listings.now in
    let low = c.args.low in
    let high = c.args.high in
    let i = c.partition_point-end.result in
    let later = c.after-later.result.now in
    let rises : IsNonDecreasingBy (λ (a : Listing). a.number) later =
    subst (IsNonDecreasingBy (λ (a : Listing). a.number)) (sym c.after-later.ensures) (not_falling _ (filter_each (λ (a b : Listing). a.number ≤ b.number) (is_later low) xs c.requires)) in
    let point = IsPartitionPoint-from_clause (λ (a : Listing). nat_lt a.number high) later i c.partition_point-end.ensures.partitioned (IsPartitionedBy-ltb (λ (a : Listing). a.number) later high rises)
    (λ x r q k. search rules) in
    let parts = subst (λ l. AllIn (λ (a : Listing). nat_lt a.number high ≡ true) (take i l) × AllIn (λ (a : Listing). nat_lt a.number high ≡ false) (drop i l)) c.after-later.ensures
    (parts_at (λ (a : Listing). nat_lt a.number high) later i point c.partition_point-end.ensures.bound) in
    c.split_at.ensures.front ∙ ap (take i) c.after-later.ensures ∙ numbered_to xs low high i parts.0 parts.1
