use Rattle.std.proofs.Common.{◌≡◌, ◌++◌, ◌∙◌, List, ap, append-nil, map, sym, rules}
use Rattle.std.specs.Vec.Iter.{into_iter_items}
use Rattle.std.proofs.lemmas.List.{nil_from_length}
use Rattle.dt_access.specs.Clash.{Bytes}
use Rattle.dt_table.specs.Table.{shown_at}
use Rattle.dt_table.proofs.table.Table.shown.Goals as goal

pub returns : goal.returns
returns c =
    let show = map (shown_at c.args.self.now.state) in
    let left = c.loop-key.key-iterator in
    let none = nil_from_length (into_iter_items left) (sym left.rest.ok.0 ∙ c.in-None.ensures.steps.0) in
    let given : into_iter_items c.into_iter-key-iterator.result ≡ c.in_ok-keys.keys.items = search rules in
    let listed = sym (append-nil c.loop-key.list) ∙ sym (ap (λ (l : List Bytes). c.loop-key.list ++ show l) none) ∙ c.loop-key.invariant ∙ ap show given in
    listed ∙ c.in_ok-keys.ensures
