use Rattle.std.proofs.Common.{◌≡◌, length, map, Some, sym, subst, ◌∙◌}
use Rattle.dt_lists.specs.Lists.{Has}
use Rattle.dt_index.specs.Index.{place_of}
use Rattle.dt_region.specs.ByIdInner.{ByIdView}
use Rattle.dt_region.proofs.ByIdLaws.{leads_more}
use Rattle.dt_region.proofs.by_id.ById.add.Goals as goal

pub invariant_of-self : goal.invariant_of-self
invariant_of-self g c =
    let id = c.args.id in
    let entries = c.self.inside.entries.items in
    let new : ¬ (Has (map (λ e. e.0) entries) id) = subst (λ (v : ByIdView _). ¬ (Has (map (λ e. e.0) v.entries) id)) (sym c.self.view_is) c.requires.waiting in
    let at : c.len.result ≡ length entries = c.len.ensures ∙ c.self.inside.entries.ok.0 in
    let here = subst (λ n. place_of c.put.new.self id ≡ Some n) at c.put.ensures.put in
    rw c.push_reserved.ensures.items
    (leads_more c.self.inside.index c.put.new.self entries id c.args.value c.self.invariant new here c.put.ensures.others)
