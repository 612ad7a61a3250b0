use Rattle.std.proofs.Common.{◌++◌, ◌-◌, set, refl, sym, ap, subst, ◌∙◌}
use Rattle.std.proofs.lemmas.List.{map-set}
use Rattle.std.specs.VecDeque.{deque_capacity, deque_len}
use Rattle.dt_graph.specs.declared.kept.Kept.{Kept}
use Rattle.dt_graph.specs.VerticesInner.{IsIn, degrees_of, states_of, vertices_of}
use Rattle.dt_graph.proofs.KeptRecords.{read_at, set_at}
use Rattle.dt_graph.proofs.KeptVertices.{states_beside, vertex_read}
use Rattle.dt_graph.proofs.records.Records.grow.Goals as goal

pub returns : goal.returns
returns c =
    let s = c.self.inside in
    let items = s.gone.records ++ s.kept.items in
    let n = c.args.number in
    let k = c.index_mut-kept.result.now in
    let r = subst (λ v. IsIn v n) (sym c.self.view_is) c.requires.within in
    let is = read_at s.gone.records s.kept.items s.first n c.self.invariant.after r.0 k c.index_mut-kept.ensures.value in
    let now : Kept = record k { degree = c.args.degree; vertex = record k.vertex { slots = c.args.slots; missing = k.vertex.missing - 1 } } in
    let at = set_at s.gone.records s.kept.items s.first n c.self.invariant.after r.0 now in
    let vertices = ap vertices_of at ∙ map-set (λ x. x.vertex) items n now
    ∙ ap (λ x. set (vertices_of items) n (record x { slots = c.args.slots; missing = x.missing - 1 })) (vertex_read items n r.1 k is) in
    let degrees = ap degrees_of at ∙ map-set (λ x. x.degree) items n now in
    let states = ap states_of at ∙ states_beside items n r.1 k is now refl in
    rw (← c.self.view_is) (λ i. record { vertices = vertices i; degrees = degrees i; states = states i; first = s.first; room = deque_capacity s.kept - deque_len s.kept })
