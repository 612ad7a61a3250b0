use Rattle.std.proofs.Common.{◌<◌, length, sym, subst, arith}
use Rattle.dt_lists.specs.Lists.{Has}
use Rattle.dt_graph.specs.VerticesInner.{IsVertexKept}
use Rattle.dt_graph.specs.declared.kept.Kind.TheVariants as kind
use Rattle.dt_graph.proofs.KeptVertices.{members_beside, no_place}
use Rattle.dt_graph.proofs.vertices.Vertices.add_ready.Goals as goal

pub put-requires-clause-apart : goal.put-requires-clause-apart
put-requires-clause-apart c =
    let s = c.self.inside in
    let kept = subst (λ v. IsVertexKept v c.args.number) (sym c.self.view_is) c.requires.within in
    let below : c.args.number < length s.records.states = omega (arith, kept.1, c.self.invariant.are_stuck.sizes) in
    no_place kind.Stuck _ _ _ c.self.invariant.are_stuck.subset c.args.number below (λ h. c.requires.apart (subst (λ v. Has v.stuck c.args.number) c.self.view_is h))

pub invariant_of-self : goal.invariant_of-self
invariant_of-self c =
    let s = c.self.inside in
    record {
      are_ready = c.put.ensures.members;
      are_stuck = members_beside kind.Stuck s.records c.put.new.records s.stuck.items _ c.self.invariant.are_stuck c.put.ensures.others c.put.ensures.same;
    }

pub returns-then-not-is_ready-clause-put : goal.returns-then-not-is_ready-clause-put
returns-then-not-is_ready-clause-put c = rw (← c.self.view_is) c.put.ensures.put
