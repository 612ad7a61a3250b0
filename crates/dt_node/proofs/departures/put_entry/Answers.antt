use Rattle.std.proofs.Common.{◌≡◌, [], ◌∷◌, ◌++◌, None, Some, append-nil, sym, ap, ◌∙◌}
use Rattle.std.specs.Prelude.{option_map, option_to_list}
use Rattle.dt_access.specs.declared.Part.{Part}
use Rattle.dt_txn.specs.declared.Entry.{Entry}
use Rattle.dt_txn.specs.declared.Txn.{Txn}
use Rattle.dt_region.specs.Region.{held}
use Rattle.dt_node.proofs.departures.put_entry.Goals as goal

pub returns-in_default : goal.returns-in_default
returns-in_default g c =
    let none : held c.args.region.now.state c.args.part.now.id ≡ None = ap (λ (p : Part). held c.args.region.now.state p.id) (sym c.get.ensures) ∙ sym c.in_default.ensures in
    sym (append-nil c.args.entries.now) ∙ ap (λ o. c.args.entries.now ++ option_to_list (option_map (λ (t : Txn). record { part = c.args.part.now; txn = t }) o)) (sym none)

pub returns : goal.returns
returns g c =
    let txn = c.in_ok-copy-2.field-0 in
    let kept : held c.args.region.now.state c.args.part.now.id ≡ Some txn =
    ap (λ (p : Part). held c.args.region.now.state p.id) (sym c.get.ensures) ∙ sym c.in-Some.ensures ∙ ap Some (sym c.in_ok-copy-2.ensures) in
    let made : Part → Entry = λ part. record { part = part; txn = txn } in
    c.in_ok-push.ensures.added ∙ ap (λ (part : Part). c.args.entries.now ++ made part ∷ []) c.in_ok-copy.ensures
    ∙ ap (λ o. c.args.entries.now ++ option_to_list (option_map (λ (t : Txn). record { part = c.args.part.now; txn = t }) o)) (sym kept)
