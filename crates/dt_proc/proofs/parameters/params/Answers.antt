use Rattle.std.proofs.Common.{[], ◌∷◌, ◌++◌, ap, sym, ◌∙◌, Err, subst}
use Rattle.std.specs.List.{flat_map}
use Rattle.std.proofs.lemmas.Result.{err_from_is_err_and}
use Rattle.dt_syntax.specs.declared.token.Token.TheVariants as tok
use Rattle.dt_syntax.specs.Grammar.{at}
use Rattle.dt_proc.specs.SecondPass.{check_param}
use Rattle.dt_proc.specs.WalkInner.{WalkAnswers}
use Rattle.dt_syntax.specs.Fronts.{comma_param}
use Rattle.dt_proc.proofs.Rooms.{room_new}
use Rattle.dt_proc.proofs.HeadWalk.{params_first, params_first_fault, params_more_fault, params_told_is}
use Rattle.dt_proc.proofs.parameters.params.Goals as goal

pub returns-in_err-rest-clause-right : goal.returns-in_err-rest-clause-right
returns-in_err-rest-clause-right c = λ ps q rest e.
    let p = err_from_is_err_and c.from_residual.result c.from_residual.ensures.1 in
    let k = params_first ps q rest c.args.tokens.now e c.in_default.ensures.right in
    let told = c.in_err-rest.ensures.right k.one (flat_map comma_param k.more ++ at q tok.Close ∷ rest) k.cut in
    rw (p.1, p.2) (params_first_fault ps k.one k.more (flat_map comma_param k.more ++ at q tok.Close ∷ rest) rest _ k.is
    (subst (λ s. WalkAnswers (check_param s k.one) (flat_map comma_param k.more ++ at q tok.Close ∷ rest) (Err c.in_err-rest.field-0.0)) c.new-scope.ensures told.0))

pub returns-in_err-rest-2-clause-right : goal.returns-in_err-rest-2-clause-right
returns-in_err-rest-2-clause-right c = λ ps q rest e.
    let p = err_from_is_err_and c.from_residual-in_err-rest-2.result c.from_residual-in_err-rest-2.ensures.1 in
    let k = params_first ps q rest c.args.tokens.now e c.in_default.ensures.right in
    let told = c.in_ok-rest.ensures.right k.one (flat_map comma_param k.more ++ at q tok.Close ∷ rest) k.cut in
    let others = c.in_err-rest-2.ensures.right k.more q rest (sym told.0.1) in
    rw (p.1, p.2) (params_more_fault ps c.param.new.scope k.one k.more rest rest _ k.is (ap (λ s. check_param s k.one) (sym c.new-scope.ensures) ∙ told.0.0) others.0)

pub returns-clause-right : goal.returns-clause-right
returns-clause-right c = λ ps q rest e.
    let k = params_first ps q rest c.args.tokens.now e c.in_default.ensures.right in
    let told = c.in_ok-rest.ensures.right k.one (flat_map comma_param k.more ++ at q tok.Close ∷ rest) k.cut in
    let others = c.in_ok-rest-2.ensures.right k.more q rest (sym told.0.1) in (
      params_told_is ps c.param.new.scope c.more_params.new.scope k.one k.more c.param.new.kinds c.more_params.new.kinds k.is
          (ap (λ s. check_param s k.one) (sym c.new-scope.ensures) ∙ told.0.0) others.0.0 (told.1 ∙ ap (λ v. v ++ k.one.kind ∷ []) c.new-kinds.ensures) others.1,
      others.0.1,
    )

pub param-requires : goal.param-requires
param-requires c = record {
  room = room_new _ _ c.new-scope.ensures c.requires.short;
  starts =
      let s = c.requires.starts in
      let k = params_first s.all s.close_at s.rest c.args.tokens.now s.cut c.in_default.ensures.right in
      record { one = k.one; rest = flat_map comma_param k.more ++ at s.close_at tok.Close ∷ s.rest; cut = k.cut };
}

pub more_params-requires-clause-starts : goal.more_params-requires-clause-starts
more_params-requires-clause-starts c =
    let s = c.requires.starts in
    let k = params_first s.all s.close_at s.rest c.args.tokens.now s.cut c.in_default.ensures.right in
    let told = c.in_ok-rest.ensures.right k.one (flat_map comma_param k.more ++ at s.close_at tok.Close ∷ s.rest) k.cut in
    record { more = k.more; close_at = s.close_at; rest = s.rest; cut = sym told.0.1 }
