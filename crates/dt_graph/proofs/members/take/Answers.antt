use Rattle.std.proofs.Common.{◌≡◌, ◌<◌, ◌++◌, ◌∷◌, [], None, Some, get_or, length, map, set, vec_capacity, subst, sym, ap, arith, ◌∙◌}
use Rattle.std.proofs.lemmas.List.{length-set}
use Rattle.dt_lists.specs.Lists.{Has}
use Rattle.dt_lists.proofs.Callers.{all_get, has_last}
use Rattle.dt_graph.specs.SubsetInner.{IsSubset}
use Rattle.dt_graph.specs.VerticesInner.{other_kind, place_of_kind, state_of_kind}
use Rattle.dt_graph.specs.declared.kept.State.TheVariants.{Neither}
use Rattle.dt_graph.proofs.KeptVertices.{last_below, last_beside, members_removed, place_within, removes, removes_last, some_in, taken, taken_beside, taken_last, unseen}
use Rattle.dt_graph.proofs.members.take.Goals as goal
use Rattle.dt_graph.proofs.members.take.Goals.{in-Some-pop+then-last-number, in-Some-pop+else-last-number, in_default-pop}

pub returns-in_default-clause-removed : goal.returns-in_default-clause-removed
returns-in_default-clause-removed c =
    let m = c.requires.members in
    let below : c.args.number < length c.args.records.now.states = omega (arith, c.requires.within.1, m.sizes) in
    let none : place_of_kind c.args.kind (get_or c.args.records.now.states c.args.number Neither) ≡ None = ap (place_of_kind c.args.kind) (sym c.state.ensures) ∙ sym c.place_in.ensures ∙ c.in_default.is in
    let absent : ¬ (Has c.args.members.now.items c.args.number) = unseen _ _ _ _ m.subset c.args.number below none in
    λ n. ((λ h. (h, λ e. absent (subst (Has c.args.members.now.items) e h))), λ h. h.0)

pub index_mut-requires : goal.index_mut-requires
index_mut-requires c =
    let m = c.requires.members in
    let below : c.args.number < length c.args.records.now.states = omega (arith, c.requires.within.1, m.sizes) in
    let is : place_of_kind c.args.kind (get_or c.args.records.now.states c.args.number Neither) ≡ Some c.in-Some.place = ap (place_of_kind c.args.kind) (sym c.state.ensures) ∙ sym c.place_in.ensures ∙ c.in-Some.is in
    let inside = place_within _ _ _ _ m.subset c.args.number below c.in-Some.place is c.pop.new.self.items c.in-Some-pop.last c.in-Some-pop.ensures.items c.if-last-number.true in
    omega (arith, inside, c.pop.new.self.ok.0)

pub set_state-requires : goal.set_state-requires
set_state-requires c =
    let m = c.requires.members in
    let front = c.pop.new.self.items in
    let below : c.args.number < length c.args.records.now.states = omega (arith, c.requires.within.1, m.sizes) in
    let is : place_of_kind c.args.kind (get_or c.args.records.now.states c.args.number Neither) ≡ Some c.in-Some.place = ap (place_of_kind c.args.kind) (sym c.state.ensures) ∙ sym c.place_in.ensures ∙ c.in-Some.is in
    let inside = last_below _ _ _ _ m.subset c.args.number below c.in-Some.place is front c.in-Some-pop.last c.in-Some-pop.ensures.items c.if-last-number.true in
    let there = subst (λ x. Has x c.in-Some-pop.last) (sym c.in-Some-pop.ensures.items) (has_last front c.in-Some-pop.last) in
    (all_get _ c.args.members.now.items m.kept c.in-Some-pop.last there, omega (arith, inside, m.sizes))

pub returns-clause-removed : goal.returns-clause-removed
returns-clause-removed c =
    let m = c.requires.members in
    let front = c.pop.new.self.items in
    let below : c.args.number < length c.args.records.now.states = omega (arith, c.requires.within.1, m.sizes) in
    let is : place_of_kind c.args.kind (get_or c.args.records.now.states c.args.number Neither) ≡ Some c.in-Some.place = ap (place_of_kind c.args.kind) (sym c.state.ensures) ∙ sym c.place_in.ensures ∙ c.in-Some.is in
    elim c.match-pop.branch [
      | in-Some-pop+then-last-number w ↦
          rw w.members-is (removes _ _ _ _ m.subset c.args.number below c.in-Some.place is front w.in-Some-pop.last w.in-Some-pop.ensures.items w.if-last-number.true)
      | in-Some-pop+else-last-number w ↦
          rw w.members-is (removes_last _ _ _ _ m.subset c.args.number below c.in-Some.place is front (w.in-Some-pop.ensures.items ∙ ap (λ x. front ++ x ∷ []) w.if-last-number.false))
      | in_default-pop w ↦
          absurd (some_in _ _ _ _ m.subset c.args.number below c.in-Some.place is _ w.in_default-pop.ensures.cases.0 c.args.members.now.ok.0)
    ]

pub returns-clause-members : goal.returns-clause-members
returns-clause-members c =
    let m = c.requires.members in
    let k = c.args.kind in
    let n = c.args.number in
    let old = c.args.records.now in
    let items = c.args.members.now.items in
    let front = c.pop.new.self.items in
    let below : n < length old.states = omega (arith, c.requires.within.1, m.sizes) in
    let is : place_of_kind k (get_or old.states n Neither) ≡ Some c.in-Some.place = ap (place_of_kind k) (sym c.state.ensures) ∙ sym c.place_in.ensures ∙ c.in-Some.is in
    let e = c.set_state-2.ensures in
    elim c.match-pop.branch [
      | in-Some-pop+then-last-number w ↦
          let put = state_of_kind k c.in-Some.place in
          let last = w.in-Some-pop.last in
          let is_last = w.in-Some-pop.ensures.items in
          let states : c.set_state-2.new.self.states ≡ set (set old.states last put) n Neither = ap (λ x. x.states) e ∙ ap (λ r. set r.states n Neither) w.records-is
          ∙ ap (λ x. set x.states n Neither) w.set_state.ensures ∙ ap (λ y. set (set old.states last y) n Neither) w.at.ensures in
          let first : c.set_state-2.new.self.first ≡ old.first = ap (λ x. x.first) e ∙ ap (λ r. r.first) w.records-is ∙ ap (λ x. x.first) w.set_state.ensures in
          let vertices : c.set_state-2.new.self.vertices ≡ old.vertices = ap (λ x. x.vertices) e ∙ ap (λ r. r.vertices) w.records-is ∙ ap (λ x. x.vertices) w.set_state.ensures in
          let sizes = ap length states ∙ length-set (set old.states last put) n Neither ∙ length-set old.states last put ∙ m.sizes ∙ sym (ap length vertices) in
          rw (w.members-is, w.in-Some-pop.ensures.capacity) (members_removed k old c.set_state-2.new.self items (set front c.in-Some.place last) _ n m
          (removes _ _ _ _ m.subset n below c.in-Some.place is front last is_last w.if-last-number.true)
          (subst (λ x. IsSubset (set front c.in-Some.place last) (map (place_of_kind k) x) (vec_capacity c.args.members.now)) (sym states) (taken _ _ _ _ m.subset n below c.in-Some.place is front last is_last w.if-last-number.true))
          sizes first)
      | in-Some-pop+else-last-number w ↦
          let is_last : items ≡ front ++ n ∷ [] = w.in-Some-pop.ensures.items ∙ ap (λ x. front ++ x ∷ []) w.if-last-number.false in
          let states : c.set_state-2.new.self.states ≡ set old.states n Neither = ap (λ x. x.states) e ∙ ap (λ r. set r.states n Neither) w.records-is in
          let first : c.set_state-2.new.self.first ≡ old.first = ap (λ x. x.first) e ∙ ap (λ r. r.first) w.records-is in
          let vertices : c.set_state-2.new.self.vertices ≡ old.vertices = ap (λ x. x.vertices) e ∙ ap (λ r. r.vertices) w.records-is in
          rw (w.members-is, w.in-Some-pop.ensures.capacity) (members_removed k old c.set_state-2.new.self items front _ n m
          (removes_last _ _ _ _ m.subset n below c.in-Some.place is front is_last)
          (subst (λ x. IsSubset front (map (place_of_kind k) x) (vec_capacity c.args.members.now)) (sym states) (taken_last _ _ _ _ m.subset n below c.in-Some.place is front is_last))
          (ap length states ∙ length-set old.states n Neither ∙ m.sizes ∙ sym (ap length vertices)) first)
      | in_default-pop w ↦
          absurd (some_in _ _ _ _ m.subset n below c.in-Some.place is _ w.in_default-pop.ensures.cases.0 c.args.members.now.ok.0)
    ]

pub returns-clause-others : goal.returns-clause-others
returns-clause-others c =
    let m = c.requires.members in
    let k = c.args.kind in
    let n = c.args.number in
    let old = c.args.records.now in
    let items = c.args.members.now.items in
    let front = c.pop.new.self.items in
    let below : n < length old.states = omega (arith, c.requires.within.1, m.sizes) in
    let is : place_of_kind k (get_or old.states n Neither) ≡ Some c.in-Some.place = ap (place_of_kind k) (sym c.state.ensures) ∙ sym c.place_in.ensures ∙ c.in-Some.is in
    let places = map (place_of_kind (other_kind k)) in
    let e = ap (λ x. places x.states) c.set_state-2.ensures in
    elim c.match-pop.branch [
      | in-Some-pop+then-last-number w ↦
          e ∙ ap (λ r. places (set r.states n Neither)) w.records-is ∙ ap (λ x. places (set x.states n Neither)) w.set_state.ensures ∙ ap (λ y. places (set (set old.states w.in-Some-pop.last y) n Neither)) w.at.ensures
          ∙ taken_beside _ _ _ _ m.subset n below c.in-Some.place is front w.in-Some-pop.last w.in-Some-pop.ensures.items w.if-last-number.true
      | in-Some-pop+else-last-number w ↦
          e ∙ ap (λ r. places (set r.states n Neither)) w.records-is
          ∙ last_beside _ _ _ _ m.subset n below c.in-Some.place is front (w.in-Some-pop.ensures.items ∙ ap (λ x. front ++ x ∷ []) w.if-last-number.false)
      | in_default-pop w ↦
          absurd (some_in _ _ _ _ m.subset n below c.in-Some.place is _ w.in_default-pop.ensures.cases.0 c.args.members.now.ok.0)
    ]
