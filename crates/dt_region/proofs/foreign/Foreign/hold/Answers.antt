use Rattle.std.proofs.Common.{◌≡◌, ◌∙◌, [], ◌∷◌, true, false, is_some, ap, sym, subst}
use Rattle.std.specs.Map.{lookup}
use Rattle.std.proofs.lemmas.List.{map-append}
use Rattle.dt_lists.proofs.Callers.{all_more}
use Rattle.dt_access.specs.Ids.{same_id}
use Rattle.dt_access.specs.declared.TxnId.{TxnId}
use Rattle.dt_txn.specs.declared.txn.Txn.{Txn}
use Rattle.dt_region.proofs.Find.{hold_there, hold_new, none_there}
use Rattle.dt_region.proofs.foreign.Foreign.hold.Goals as goal

pub add-requires-clause-waiting : goal.add-requires-clause-waiting
add-requires-clause-waiting c = none_there c.self.inside.txns.entries c.get.result.now.id (sym c.if-not-has.ensures)

pub invariant_of-self : goal.invariant_of-self
invariant_of-self c = rw c.add.ensures.added (all_more (λ e. e.0 ≡ e.1.id) c.self.inside.txns.entries _ c.self.invariant (ap (λ (txn : Txn). txn.id) c.get.ensures))

pub returns-then-not-has-clause-held : goal.returns-then-not-has-clause-held
returns-then-not-has-clause-held c =
    let new = subst (λ (txn : Txn). is_some (lookup (same_id txn.id) c.self.inside.txns.entries) ≡ false) c.get.ensures (sym c.if-not-has.ensures) in
    rw (← c.self.view_is, c.add.ensures.added) (map-append (λ (e : TxnId × Txn). e.1) c.self.inside.txns.entries ((c.get.result.now.id, c.args.txn) ∷ []) ∙ hold_new c.self.inside.txns.entries c.args.txn c.self.invariant new)

pub returns-else-not-has-clause-held : goal.returns-else-not-has-clause-held
returns-else-not-has-clause-held c =
    let there = subst (λ (txn : Txn). is_some (lookup (same_id txn.id) c.self.inside.txns.entries) ≡ true) c.get.ensures (sym c.if-not-has.ensures) in
    rw (← c.self.view_is) (hold_there c.self.inside.txns.entries c.args.txn c.self.invariant there)
