use Rattle.std.proofs.Common.{◌∷◌, ◌++◌, Ok, sym, arith}
use Rattle.std.specs.List.{flat_map}
use Rattle.std.proofs.lemmas.Result.{err_from_is_err_and}
use Rattle.dt_syntax.specs.declared.token.Token.TheVariants as tok
use Rattle.dt_syntax.specs.Grammar.{at, param_tokens}
use Rattle.dt_syntax.specs.Fronts.{comma_param}
use Rattle.dt_proc.proofs.HeadWalk.{more_params_told, params_fault, params_none}
use Rattle.dt_syntax.proofs.Callers.{more_next, more_end, no_comma_close}
use Rattle.dt_proc.proofs.parameters.+more_params.Goals as goal

pub returns-in_err-rest-in-Some-clause-right : goal.returns-in_err-rest-in-Some-clause-right
returns-in_err-rest-in-Some-clause-right t c = λ more q rest e.
    let p = err_from_is_err_and c.from_residual.result c.from_residual.ensures.1 in
    let comma = c.in-Some.ensures.right in
    let k = more_next tok.Comma param_tokens more q tok.Close rest comma.0 c.in-Some.rest.now c.args.tokens.now no_comma_close e comma.1 in
    let told = c.in_err-rest-in-Some.ensures.right k.one (flat_map comma_param k.more ++ at q tok.Close ∷ rest) k.cut in
    rw (p.1, p.2) (params_fault c.args.scope.now more (flat_map comma_param k.more ++ at q tok.Close ∷ rest) rest _ k.joined_at k.one k.more k.is told.0, tt)

pub returns-in_ok-rest-in-Some-clause-right : goal.returns-in_ok-rest-in-Some-clause-right
returns-in_ok-rest-in-Some-clause-right t c = λ more q rest e.
    let comma = c.in-Some.ensures.right in
    let k = more_next tok.Comma param_tokens more q tok.Close rest comma.0 c.in-Some.rest.now c.args.tokens.now no_comma_close e comma.1 in
    let told = c.in_ok-rest-in-Some.ensures.right k.one (flat_map comma_param k.more ++ at q tok.Close ∷ rest) k.cut in
    more_params_told c.args.scope.now c.param.new.scope c.more_params.new.scope c.args.kinds.now c.param.new.kinds c.more_params.new.kinds more rest c.more_params.result
    k.joined_at k.one k.more k.is told.0.0 told.1 (c.more_params.ensures.right k.more q rest (sym told.0.1))

pub returns-in-None-clause-right : goal.returns-in-None-clause-right
returns-in-None-clause-right t c = λ more q rest e.
    let k = more_end tok.Comma param_tokens more q tok.Close rest c.args.tokens.now e c.in-None.ensures.right in
    params_none c.args.scope.now c.args.kinds.now more rest (Ok c.after_one.result) k.0 (c.after_one.ensures.right (at q tok.Close) rest k.1)

pub param-requires-clause-starts : goal.param-requires-clause-starts
param-requires-clause-starts t c =
    let s = c.requires.starts in
    let comma = c.in-Some.ensures.right in
    let k = more_next tok.Comma param_tokens s.more s.close_at tok.Close s.rest comma.0 c.in-Some.rest.now c.args.tokens.now no_comma_close s.cut comma.1 in
    record { one = k.one; rest = flat_map comma_param k.more ++ at s.close_at tok.Close ∷ s.rest; cut = k.cut }

pub more_params-requires : goal.more_params-requires
more_params-requires t c =
    let s = c.requires.starts in
    let comma = c.in-Some.ensures.right in
    let k = more_next tok.Comma param_tokens s.more s.close_at tok.Close s.rest comma.0 c.in-Some.rest.now c.args.tokens.now no_comma_close s.cut comma.1 in
    let told = c.in_ok-rest-in-Some.ensures.right k.one (flat_map comma_param k.more ++ at s.close_at tok.Close ∷ s.rest) k.cut in (
      omega (arith, c.decreases, c.in-Some.ensures.shorter, c.in_ok-rest-in-Some.ensures.shorter),
      (omega (arith, c.requires.room, c.in-Some.ensures.shorter, c.in_ok-rest-in-Some.ensures.room), record { more = k.more; close_at = s.close_at; rest = s.rest; cut = sym told.0.1 }),
    )
