use Rattle.std.proofs.Common.{◌∙◌, sym, arith}
use Rattle.std.proofs.lemmas.Option.{slice_get_within}
use Rattle.dt_class.proofs.Walk.{found_within, ended_where_none, walk_begins, walk_goes_on, walk_ends}
use Rattle.dt_class.proofs.Marks.{found_bounded}
use Rattle.dt_class.proofs.search.spread.Goals as goal

pub loop-vertex-init : goal.loop-vertex-init
loop-vertex-init c = walk_begins _ _ _ _ c.requires.place_in c.requires.followed

pub follow-requires-clause-vertex_in : goal.follow-requires-clause-vertex_in
follow-requires-clause-vertex_in c =
    found_within _ _ _ _ c.in-Some.ensures.once (c.loop-vertex.invariant.vertices ∙ c.requires.vertices) (sym c.in-Some.ensures.read)

pub overflow_add-place : goal.overflow_add-place
overflow_add-place c =
    let once = c.in-Some.ensures.once in
    let within = slice_get_within c.loop-vertex.found.order c.loop-vertex.place c.in-Some.vertex (sym c.in-Some.ensures.read) in
    omega (arith, within, found_bounded _ _ once, once.few)

pub loop-vertex-smaller : goal.loop-vertex-smaller
loop-vertex-smaller c =
    omega (arith, found_bounded _ _ c.in-Some.ensures.once, c.loop-vertex.invariant.vertices, c.requires.vertices, slice_get_within c.loop-vertex.found.order c.loop-vertex.place c.in-Some.vertex (sym c.in-Some.ensures.read))

pub loop-vertex-preserved : goal.loop-vertex-preserved
loop-vertex-preserved c =
    walk_goes_on _ _ _ _ _ _ _ c.loop-vertex.invariant (sym c.in-Some.ensures.read) c.in_ok-follow.ensures

pub returns : goal.returns
returns c =
    walk_ends _ _ _ _ _ c.loop-vertex.invariant c.in_default.ensures.once (ended_where_none _ _ (sym c.in_default.ensures.read))
