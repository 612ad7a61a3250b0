use Rattle.std.proofs.Common.{◌≡◌, ◌≤◌, ◌<◌, ◌++◌, [], ◌∷◌, length, map, set, vec_capacity, sym, ap, subst, arith, ◌∙◌}
use Rattle.std.proofs.lemmas.List.{length-set}
use Rattle.dt_lists.specs.Lists.{AllIn}
use Rattle.dt_lists.proofs.Callers.{all_append}
use Rattle.dt_graph.specs.SubsetInner.{IsSubset}
use Rattle.dt_graph.specs.VerticesInner.{other_kind, place_of_kind, state_of_kind}
use Rattle.dt_graph.proofs.KeptVertices.{fits_place, has_room, put_beside, put_in, puts}
use Rattle.dt_graph.proofs.members.put.Goals as goal

pub overflow_cast-place : goal.overflow_cast-place
overflow_cast-place c =
    let m = c.requires.members in
    let below : c.args.number < length c.args.records.now.states = omega (arith, c.requires.within.1, m.sizes) in
    let few = fits_place _ _ _ _ m.subset c.args.number below c.requires.absent in
    omega (arith, few, c.len-place.ensures, c.args.members.now.ok.0)

pub push_reserved-requires : goal.push_reserved-requires
push_reserved-requires c =
    let m = c.requires.members in
    let below : c.args.number < length c.args.records.now.states = omega (arith, c.requires.within.1, m.sizes) in
    let room = has_room _ _ _ _ m.subset c.args.number below c.requires.absent in
    omega (arith, room, c.args.members.now.ok.0)

pub returns-clause-put : goal.returns-clause-put
returns-clause-put c =
    let m = c.requires.members in
    let below : c.args.number < length c.args.records.now.states = omega (arith, c.requires.within.1, m.sizes) in
    rw c.push_reserved.ensures.added (puts _ _ _ _ m.subset c.args.number below c.requires.absent)

pub returns-clause-members : goal.returns-clause-members
returns-clause-members c =
    let m = c.requires.members in
    let k = c.args.kind in
    let n = c.args.number in
    let old = c.args.records.now.states in
    let items = c.args.members.now.items in
    let below : n < length old = omega (arith, c.requires.within.1, m.sizes) in
    let place : c.len-place.result ≡ length items = omega (arith, c.len-place.ensures, c.args.members.now.ok.0) in
    let e = c.set_state.ensures in
    let states : c.set_state.new.self.states ≡ set old n (state_of_kind k (length items)) = ap (λ x. x.states) e ∙ ap (set old n) (c.at.ensures ∙ ap (state_of_kind k) place) in
    rw c.push_reserved.ensures.added (record {
      subset = subst (λ x. IsSubset (items ++ n ∷ []) (map (place_of_kind k) x) (vec_capacity c.push_reserved.new.items)) (sym states)
          (put_in k old items _ m.subset n below c.requires.absent c.ranges.number.fits _ c.push_reserved.ensures.room);
      kept = subst (λ x. AllIn (λ v. x.first ≤ v) (items ++ n ∷ [])) (sym e) (all_append _ items (n ∷ []) m.kept (c.requires.within.0, tt));
      sizes = ap length states ∙ length-set old n (state_of_kind k (length items)) ∙ m.sizes ∙ sym (ap (λ x. length x.vertices) e);
    })

pub returns-clause-others : goal.returns-clause-others
returns-clause-others c =
    let k = c.args.kind in
    let old = c.args.records.now.states in
    ap (map (place_of_kind (other_kind k))) (ap (λ x. x.states) c.set_state.ensures ∙ ap (set old c.args.number) c.at.ensures) ∙ put_beside k old c.args.number c.len-place.result c.requires.apart
