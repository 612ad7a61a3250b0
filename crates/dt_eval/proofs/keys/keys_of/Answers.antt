use Rattle.std.proofs.Common.{◌≡◌, [], ap, arith, refl, subst, sym}
use Rattle.std.proofs.Common.{Err}
use Rattle.std.specs.Prelude.{Result, IsErrAnd}
use Rattle.dt_eval.specs.declared.keys.KeysError.{KeysError}
use Rattle.dt_eval.specs.declared.keys.KeysError.TheVariants.{BadKey}
use Rattle.dt_access.specs.Orders.{HasAscendingKeys}
use Rattle.dt_eval.proofs.KeyLaws.{gathers_none, gathers_bad, gathers_ascend}
use Rattle.dt_eval.proofs.KeyModes.{keys_more, only_within}
use Rattle.dt_eval.proofs.keys.keys_of.Goals as goal

pub use_of-requires-clause-items : goal.use_of-requires-clause-items
use_of-requires-clause-items c =
    only_within c.args.body.now c.args.args.now c.keys-declarations.result.now c.declared-item.result
    c.keys-declarations.ensures.sound c.requires c.keys-declarations.ensures.same c.in-len1.len_below c.in-len1.len_at_least c.declared-item.is

pub loop-number-init : goal.loop-number-init
loop-number-init c = record {
  uses = [];
  are = c.in_ok-uses.ensures;
  known = gathers_none c.args.body.now c.args.args.now c.keys-declarations.result.now [] c.keys-declarations.ensures.sound c.requires c.keys-declarations.ensures.same refl;
}

pub loop-number-preserved : goal.loop-number-preserved
loop-number-preserved c =
    keys_more c.args.body.now c.args.args.now c.keys-declarations.result.now c.loop-number.number c.loop-number.uses.items c.add_use.new.uses.items c.index-declarations-number.result (c.in_ok-key-2.key, c.in_ok-key-2.write)
    c.loop-number-test.true c.index-declarations-number.is c.loop-number.invariant c.in_ok-key-2.ensures.uses.0 c.in_ok-key-2.ensures.uses.1 c.in_ok-add_use.ensures

pub from_vec-requires : goal.from_vec-requires
from_vec-requires c =
    let had = c.loop-number.invariant in
    subst HasAscendingKeys (sym had.are) (gathers_ascend c.args.body.now c.args.args.now c.keys-declarations.result.now c.loop-number.number had.uses (omega arith) had.known)

told : {A : Type 0} (r : Result A KeysError) (x y : KeysError) → IsErrAnd r (λ e. e ≡ x) → r ≡ Err y → x ≡ y
told r x y h e = sym (subst (λ r. IsErrAnd r (λ e. e ≡ x)) e h)

pub returns-in_err-key-2-clause-bad : goal.returns-in_err-key-2-clause-bad
returns-in_err-key-2-clause-bad c = λ i e.
    let bad = c.in_err-key-2.ensures.bad i (ap Err (told c.from_residual-in_err-key-2.result c.in_err-key-2.field-0.0 (BadKey i) c.from_residual-in_err-key-2.ensures.1 e)) in
    gathers_bad c.args.body.now c.args.args.now c.keys-declarations.result.now c.loop-number.number c.loop-number.invariant.uses
    c.index-declarations-number.result c.loop-number-test.true c.index-declarations-number.is c.loop-number.invariant.known bad.1 i bad.0
