use Rattle.std.proofs.Common.{◌≡◌, ◌<◌, ◌+◌, ◌^◌, length, Some, ap, sym, subst, arith, ◌∙◌}
use Rattle.dt_index.specs.Index.{place_of}
use Rattle.dt_lists.specs.Lists.{Has}
use Rattle.dt_graph.proofs.NumbersOfIds.{numbered_more}
use Rattle.dt_graph.proofs.names.Names.add.Goals as goal

pub invariant_of-self : goal.invariant_of-self
invariant_of-self c =
    let n = c.self.inside in
    let ids = n.ids.items in
    let fresh : ¬ (Has ids c.args.id) = λ h. c.requires.fresh (subst (λ l. Has l c.args.id) (ap (λ v. v.ids) c.self.view_is) h) in
    let few : length ids + 1 < 2 ^ 32 = subst (λ m. m + 1 < 2 ^ 32) (sym (ap (λ v. length v.ids) c.self.view_is)) c.requires.few in
    let number : c.len-number.result ≡ length ids = omega (arith, c.len-number.ensures, n.ids.ok.0) in
    rw c.push_reserved.ensures.added
    (numbered_more ids (place_of n.index) c.self.invariant c.args.id fresh few (place_of c.put.new.self) (c.put.ensures.put ∙ ap Some number) c.put.ensures.others)
