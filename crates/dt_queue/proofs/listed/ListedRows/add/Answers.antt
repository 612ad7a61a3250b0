use Rattle.std.proofs.Common.{◌≡◌, ◌<◌, ◌≤◌, ◌-◌, ◌++◌, ◌∷◌, [], get_or, length, map, vec_capacity, vec_len, inr, refl, ap, subst, arith, ◌∙◌}
use Rattle.std.proofs.lemmas.List.{get_or-set_other, get_or-set_same, length-map, map-set}
use Rattle.dt_queue.specs.declared.listed.Log.{Log}
use Rattle.dt_queue.specs.ListedInner.{last_listing, since}
use Rattle.dt_queue.proofs.RowSets.{told_at, told_here, within_room}
use Rattle.dt_queue.proofs.listed.ListedRows.add.Goals as goal

pub returns-clause-added : goal.returns-clause-added
returns-clause-added c =
    let l = c.args.self.now in
    let xs = c.make_log.new.logs.items in
    let i = c.args.granule in
    let lt : i < length xs =
    subst (λ m. i < m) (length-map xs (λ (r : Log). vec_capacity r.listings - vec_len r.listings)) (within_room (map (λ (r : Log). vec_capacity r.listings - vec_len r.listings) xs) i c.in_ok-make_log.ensures.room) in
    let was = told_at xs (λ (r : Log). r.listings.items) i c.index_mut.result.now [] lt c.index_mut.ensures.value ∙ c.make_log.ensures.same i in
    let put : Log = record c.index_mut.result.now { listings = c.push_reserved.new.self } in
    let before : c.last_of-before.result ≡ last_listing l c.args.row = rw c.as_slice.ensures.value at c.last_of-before.ensures in
    let le : last_listing l c.args.row ≤ since l c.args.whole = subst (λ s. last_listing l c.args.row ≤ s) c.since.ensures (omega (arith, c.if-since-before.false, before)) in
    inr (
      le,
      record {
        log = told_here xs (λ (r : Log). r.listings.items) i put [] lt ∙ c.push_reserved.ensures.items ∙ ap (λ n. n ++ record { row = c.args.row; number = c.args.number; before = c.last_of-before.result } ∷ []) was
            ∙ ap (λ b. get_or (map (λ (r : Log). r.listings.items) l.logs.items) i [] ++ record { row = c.args.row; number = c.args.number; before = b } ∷ []) before;
        others = λ g ne. ap (λ m. get_or m g []) (map-set (λ (r : Log). r.listings.items) xs i put) ∙ get_or-set_other (map (λ (r : Log). r.listings.items) xs) i g _ [] ne ∙ c.make_log.ensures.same g;
        last = get_or-set_same c.make_last.new.last.items c.args.row c.args.number 0 c.in_ok-make_last.ensures.known;
        rest = λ r ne. get_or-set_other c.make_last.new.last.items c.args.row r c.args.number 0 ne ∙ c.make_last.ensures.same r;
        exact = refl;
      },
    )
