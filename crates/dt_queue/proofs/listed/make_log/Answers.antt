use Rattle.std.proofs.Common.{◌<◌, ◌-◌, [], get_or, length, vec_capacity, vec_len, ap, sym, subst, arith, ◌∙◌}
use Rattle.std.proofs.Math.Seq.{map-set_same}
use Rattle.dt_queue.specs.declared.listed.Log.{Log}
use Rattle.dt_queue.proofs.RowSets.{empty_behind, told_here}
use Rattle.dt_queue.proofs.listed.make_log.Goals as goal

pub loop-alloc-preserved : goal.loop-alloc-preserved
loop-alloc-preserved c = λ g. rw c.in_ok-push.ensures.items (empty_behind c.loop-alloc.logs.items (λ (r : Log). r.listings.items) (record { listings = c.new.result; tidied = 0 }) g c.new.ensures.items ∙ c.loop-alloc.invariant g)

pub returns-in_err-reserve-clause-same : goal.returns-in_err-reserve-clause-same
returns-in_err-reserve-clause-same c = λ g.
    ap (λ l. get_or l g []) (map-set_same (λ (r : Log). r.listings.items) c.loop-alloc.logs.items c.args.granule (record c.index_mut.result.now { listings = c.reserve.new.self }) c.index_mut.result.now
    (c.reserve.ensures.items ∙ ap (λ (r : Log). r.listings.items) c.index_mut.ensures.value))
    ∙ c.loop-alloc.invariant g

pub returns-clause-room : goal.returns-clause-room
returns-clause-room c =
    let xs = c.loop-alloc.logs.items in
    let lt : c.args.granule < length xs = omega (arith, c.loop-alloc-test.false, c.len.ensures, c.loop-alloc.logs.ok.0) in
    subst (λ n. 0 < n) (sym (told_here xs (λ (r : Log). vec_capacity r.listings - vec_len r.listings) c.args.granule (record c.index_mut.result.now { listings = c.reserve.new.self }) 0 lt))
    (omega (arith, c.in_ok-reserve.ensures.ok, c.reserve.ensures.len))

pub returns-clause-same : goal.returns-clause-same
returns-clause-same c = λ g.
    ap (λ l. get_or l g []) (map-set_same (λ (r : Log). r.listings.items) c.loop-alloc.logs.items c.args.granule (record c.index_mut.result.now { listings = c.reserve.new.self }) c.index_mut.result.now
    (c.reserve.ensures.items ∙ ap (λ (r : Log). r.listings.items) c.index_mut.ensures.value))
    ∙ c.loop-alloc.invariant g
