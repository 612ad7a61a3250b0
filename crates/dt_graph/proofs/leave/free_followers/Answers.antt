use Rattle.std.proofs.Common.{◌≡◌, ◌≤◌, ◌<◌, ◌∙◌, ap, length, refl, subst, arith}
use Rattle.dt_graph.specs.SmallStepsInner.{Wakes}
use Rattle.dt_graph.proofs.Followers.{freed_lowered, freed_woken, freeing_at, freeing_begins, freeing_onward, may_lower, said_of}
use Rattle.dt_graph.proofs.leave.free_followers.Goals as goal

pub loop-follower-init : goal.loop-follower-init
loop-follower-init c = record { freeing = freeing_begins _ _ _ _ _ _ _ c.followers-followers.ensures; same = refl; first = refl }

pub lower-requires-clause-within : goal.lower-requires-clause-within
lower-requires-clause-within c =
    let k = freeing_at _ _ _ _ _ _ _ _ _ _ _ c.in-Some.ensures c.loop-follower.invariant.freeing in
    let below : c.in-Some.follower.vertex < length c.args.vertices.now.degrees = said_of _ _ _ _ _ _ _ _ _ (λ v. v < length c.args.vertices.now.degrees) c.in-Some.follower _ k c.requires.below in
    let kept : c.args.vertices.now.first ≤ c.in-Some.follower.vertex = said_of _ _ _ _ _ _ _ _ _ (λ v. c.args.vertices.now.first ≤ v) c.in-Some.follower _ k c.requires.kept in
    (omega (arith, kept, c.loop-follower.invariant.first), omega (arith, below, c.requires.sizes, ap length c.loop-follower.invariant.same))

pub lower-requires-clause-enough : goal.lower-requires-clause-enough
lower-requires-clause-enough c = λ ne.
    let k = freeing_at _ _ _ _ _ _ _ _ _ _ _ c.in-Some.ensures c.loop-follower.invariant.freeing in
    let below : c.in-Some.follower.vertex < length c.args.vertices.now.degrees = said_of _ _ _ _ _ _ _ _ _ (λ v. v < length c.args.vertices.now.degrees) c.in-Some.follower _ k c.requires.below in
    may_lower _ _ _ _ _ _ _ _ _ c.in-Some.follower _ k ne below (c.requires.enough c.in-Some.follower.vertex below)

pub wake-requires : goal.wake-requires
wake-requires c =
    let k = freeing_at _ _ _ _ _ _ _ _ _ _ _ c.in-Some.ensures c.loop-follower.invariant.freeing in
    let below : c.in-Some.follower.vertex < length c.args.vertices.now.degrees = said_of _ _ _ _ _ _ _ _ _ (λ v. v < length c.args.vertices.now.degrees) c.in-Some.follower _ k c.requires.below in
    let kept : c.args.vertices.now.first ≤ c.in-Some.follower.vertex = said_of _ _ _ _ _ _ _ _ _ (λ v. c.args.vertices.now.first ≤ v) c.in-Some.follower _ k c.requires.kept in (
      omega (arith, kept, c.loop-follower.invariant.first, ap (λ v. v.first) c.lower.ensures.same),
      omega (arith, below, c.requires.sizes, ap length c.loop-follower.invariant.same, ap (λ v. length v.vertices) c.lower.ensures.same),
    )

pub loop-follower-smaller : goal.loop-follower-smaller
loop-follower-smaller c = omega (arith, ap length c.in-Some.ensures)

pub loop-follower-preserved : goal.loop-follower-preserved
loop-follower-preserved c =
    let now = c.loop-follower.vertices in let low = c.lower.new.vertices in let next = c.wake.new.vertices in
    let f = c.in-Some.follower in
    let k = freeing_at _ _ _ _ _ _ _ _ _ _ _ c.in-Some.ensures c.loop-follower.invariant.freeing in
    let woken : Wakes (λ v. f.vertex ≡ v) low.degrees now.stuck now.ready next.stuck next.ready =
    subst (λ l. Wakes (λ v. f.vertex ≡ v) low.degrees l now.ready next.stuck next.ready) (ap (λ v. v.stuck) c.lower.ensures.same)
    (subst (λ l. Wakes (λ v. f.vertex ≡ v) low.degrees low.stuck l next.stuck next.ready) (ap (λ v. v.ready) c.lower.ensures.same) c.wake.ensures.woken) in
    rw c.wake.ensures.degrees (record {
      freeing = freeing_onward _ _ _ _ _ _ _ _ _ f _ _ _ _ k c.lower.ensures.lowered woken;
      same = c.wake.ensures.vertices ∙ ap (λ v. v.vertices) c.lower.ensures.same ∙ c.loop-follower.invariant.same;
      first = c.wake.ensures.first ∙ ap (λ v. v.first) c.lower.ensures.same ∙ c.loop-follower.invariant.first;
    })

pub returns-clause-lowered : goal.returns-clause-lowered
returns-clause-lowered c = freed_lowered _ _ _ _ _ _ _ _ _ (freeing_at _ _ _ _ _ _ _ _ _ _ _ c.in_default.ensures.0 c.loop-follower.invariant.freeing)

pub returns-clause-woken : goal.returns-clause-woken
returns-clause-woken c = freed_woken _ _ _ _ _ _ _ _ _ (freeing_at _ _ _ _ _ _ _ _ _ _ _ c.in_default.ensures.0 c.loop-follower.invariant.freeing)
