use Rattle.std.proofs.Common.{◌≡◌, ◌+◌, ◌<◌, ◌⊎◌, ◌↔◌, ℕ, length, get_or, slice_get, take, Some, refl, sym, ap, subst, arith, ◌∙◌}
use Rattle.std.proofs.lemmas.List.{take_all}
use Rattle.dt_lists.specs.Lists.{Has}
use Rattle.dt_lists.proofs.Callers.{all_get, has_at, has_place}
use Rattle.dt_waits.specs.Graph.{vertex_at}
use Rattle.dt_graph.specs.SubsetInner.{PutsIn, Removes}
use Rattle.dt_graph.proofs.ClassMembers.{IsPutting, first_readied, none_readied, putting_on, resolves_held}
use Rattle.dt_graph.proofs.waits.Waits.resolve.Goals as goal

pub put_in_class-requires-clause-within : goal.put_in_class-requires-clause-within
put_in_class-requires-clause-within c =
    let below = all_get _ _ c.requires.within _ (has_at {A = ℕ} _ _ 0 c.loop-vertex-test.true) in
    let kept = all_get _ _ c.requires.kept _ (has_at {A = ℕ} _ _ 0 c.loop-vertex-test.true) in
    (omega (arith, kept, c.loop-vertex.invariant.first), omega (arith, below, c.loop-vertex.invariant.put.size))

pub take_stuck-requires : goal.take_stuck-requires
take_stuck-requires c =
    let v = get_or c.args.members.now c.loop-vertex.vertex-index 0 in
    let now = c.loop-vertex.self.vertices in
    let below = all_get _ _ c.requires.within _ (has_at {A = ℕ} _ _ 0 c.loop-vertex-test.true) in
    let kept = all_get _ _ c.requires.kept _ (has_at {A = ℕ} _ _ 0 c.loop-vertex-test.true) in
    let size = Rattle.std.proofs.lemmas.List.length-set now.vertices v (record (vertex_at now.vertices v) { class = Some c.args.class }) in (
      omega (arith, kept, c.loop-vertex.invariant.first, ap (λ x. x.first) c.put_in_class.ensures),
      omega (arith, below, c.loop-vertex.invariant.put.size, ap (λ x. length x.vertices) c.put_in_class.ensures, size),
    )

pub loop-vertex-preserved : goal.loop-vertex-preserved
loop-vertex-preserved c =
    let k = c.loop-vertex.invariant in
    let v = get_or c.args.members.now c.loop-vertex.vertex-index 0 in
    let old = c.args.self.now.vertices in let now = c.loop-vertex.self.vertices in
    let put = c.put_in_class.new.self in let next = c.take_stuck.new.self in
    let below : v < length old.vertices = all_get _ _ c.requires.within _ (has_at {A = ℕ} _ _ 0 c.loop-vertex-test.true) in
    let within : v < length now.vertices = subst (λ n. v < n) (sym k.put.size) below in
    let gone : Removes v now.stuck next.stuck = subst (λ l. Removes v l next.stuck) (ap (λ x. x.stuck) c.put_in_class.ensures) c.take_stuck.ensures.removed in
    record {
      put = subst (λ l. IsPutting c.args.class (take (c.loop-vertex.vertex-index + 1) c.args.members.now) old.vertices l old.stuck next.stuck)
          (sym (ap (λ x. x.vertices) c.take_stuck.ensures.same ∙ ap (λ x. x.vertices) c.put_in_class.ensures))
          (putting_on _ _ _ c.loop-vertex-test.true _ _ _ _ _ k.put within (record (vertex_at now.vertices v) { class = Some c.args.class }) (record { rank = refl; missing = refl; class = refl; slots = refl }) gone);
      degrees = ap (λ x. x.degrees) c.take_stuck.ensures.same ∙ ap (λ x. x.degrees) c.put_in_class.ensures ∙ k.degrees;
      queues = k.queues;
      first = ap (λ x. x.first) c.take_stuck.ensures.same ∙ ap (λ x. x.first) c.put_in_class.ensures ∙ k.first;
      ready = ap (λ x. x.ready) c.take_stuck.ensures.same ∙ ap (λ x. x.ready) c.put_in_class.ensures ∙ k.ready;
    }

pub add_ready-requires-clause-within : goal.add_ready-requires-clause-within
add_ready-requires-clause-within c =
    let there = has_place c.args.members.now 0 c.in-Some.first.now (sym c.in-Some.ensures.value) in
    let below = all_get _ _ c.requires.within _ there in
    let kept = all_get _ _ c.requires.kept _ there in
    (omega (arith, kept, c.loop-vertex.invariant.first), omega (arith, below, c.loop-vertex.invariant.put.size))

pub add_ready-requires-clause-apart : goal.add_ready-requires-clause-apart
add_ready-requires-clause-apart c h =
    let k = c.loop-vertex.invariant in
    let old = c.args.self.now.vertices in let now = c.loop-vertex.self.vertices in
    let put = subst (λ l. IsPutting c.args.class l old.vertices now.vertices old.stuck now.stuck) (take_all _ _ c.loop-vertex-test.false) k.put in
    ((put.still_stuck c.in-Some.first.now).0 h).1 (has_place c.args.members.now 0 c.in-Some.first.now (sym c.in-Some.ensures.value))

pub returns-in-Some : goal.returns-in-Some
returns-in-Some c =
    let k = c.loop-vertex.invariant in
    let old = c.args.self.now.vertices in let now = c.loop-vertex.self.vertices in
    let put = subst (λ l. IsPutting c.args.class l old.vertices now.vertices old.stuck now.stuck) (take_all _ _ c.loop-vertex-test.false) k.put in
    let new = c.add_ready.new.self in
    let same = c.add_ready.ensures.same in
    let held : IsPutting c.args.class c.args.members.now old.vertices new.vertices old.stuck new.stuck =
    subst (λ l. IsPutting c.args.class c.args.members.now old.vertices l old.stuck new.stuck) (sym (ap (λ x. x.vertices) same))
    (subst (λ l. IsPutting c.args.class c.args.members.now old.vertices now.vertices old.stuck l) (sym (ap (λ x. x.stuck) same)) put) in
    record {
      first = ap (λ x. x.first) same ∙ k.first;
      resolved = λ ids classes. resolves_held _ _ ids _ _ _ _ _ _ _ _ _ _ classes held (ap (λ x. x.degrees) same ∙ k.degrees) k.queues
          (first_readied c.args.members.now c.in-Some.first.now old.ready new.ready (sym c.in-Some.ensures.value) (subst (λ r. PutsIn c.in-Some.first.now r new.ready) k.ready c.add_ready.ensures.put));
    }

pub returns-in_default : goal.returns-in_default
returns-in_default c =
    let k = c.loop-vertex.invariant in
    let old = c.args.self.now.vertices in let now = c.loop-vertex.self.vertices in
    let put = subst (λ l. IsPutting c.args.class l old.vertices now.vertices old.stuck now.stuck) (take_all _ _ c.loop-vertex-test.false) k.put in
    record {
      first = k.first;
      resolved = λ ids classes. resolves_held _ _ ids _ _ _ _ _ _ _ _ _ _ classes put k.degrees k.queues
          (subst (λ r. (v : ℕ) → Has r v ↔ Has old.ready v ⊎ (slice_get c.args.members.now 0 ≡ Some v)) (sym k.ready)
          (none_readied c.args.members.now old.ready (sym c.in_default.ensures.value)));
    }
