use Rattle.std.proofs.Common.{◌∷◌, ◌++◌, Ok, sym, arith}
use Rattle.std.specs.List.{flat_map}
use Rattle.std.proofs.lemmas.Result.{err_from_is_err_and}
use Rattle.dt_syntax.specs.declared.token.Token.TheVariants as tok
use Rattle.dt_syntax.specs.declared.operator.Op.TheVariants as op
use Rattle.dt_syntax.specs.Grammar.{at, part_tokens}
use Rattle.dt_syntax.specs.Fronts.{joined_part}
use Rattle.dt_proc.proofs.ExprWalk.{told_right}
use Rattle.dt_proc.proofs.HeadWalk.{parts_told, parts_fault, parts_none}
use Rattle.dt_syntax.proofs.Callers.{more_next, more_end, no_join_semicolon}
use Rattle.dt_proc.proofs.keys.+more_parts.Goals as goal

pub returns-in_err-item-in-Some-clause-right : goal.returns-in_err-item-in-Some-clause-right
returns-in_err-item-in-Some-clause-right t c = λ more q rest e.
    let p = err_from_is_err_and c.from_residual.result c.from_residual.ensures.1 in
    let join = c.in-Some.ensures.right in
    let k = more_next (tok.Op op.Join) part_tokens more q tok.Semicolon rest join.0 c.in-Some.rest.now c.args.tokens.now no_join_semicolon e join.1 in
    let told = c.in_err-item-in-Some.ensures.right k.one (flat_map joined_part k.more ++ at q tok.Semicolon ∷ rest) k.cut in
    rw (p.1, p.2) (parts_fault c.args.scope.now more c.args.items.now (flat_map joined_part k.more ++ at q tok.Semicolon ∷ rest) rest _ k.joined_at k.one k.more k.is told)

pub returns-in_ok-push-in-Some-clause-right : goal.returns-in_ok-push-in-Some-clause-right
returns-in_ok-push-in-Some-clause-right t c = λ more q rest e.
    let join = c.in-Some.ensures.right in
    let k = more_next (tok.Op op.Join) part_tokens more q tok.Semicolon rest join.0 c.in-Some.rest.now c.args.tokens.now no_join_semicolon e join.1 in
    let told = c.in_ok-item-in-Some.ensures.right k.one (flat_map joined_part k.more ++ at q tok.Semicolon ∷ rest) k.cut in
    told_right _ _ rest _ (parts_told c.args.scope.now more c.args.items.now c.push.new.self k.joined_at k.one k.more c.in_ok-item-in-Some.item k.is told.0 c.in_ok-push-in-Some.ensures.added)
    (c.more_parts.ensures.right k.more q rest (sym told.1))

pub returns-in-None-clause-right : goal.returns-in-None-clause-right
returns-in-None-clause-right t c = λ more q rest e.
    let k = more_end (tok.Op op.Join) part_tokens more q tok.Semicolon rest c.args.tokens.now e c.in-None.ensures.right in
    parts_none c.args.scope.now c.args.items.now more rest (Ok c.after_one.result) k.0 (c.after_one.ensures.right (at q tok.Semicolon) rest k.1)

pub part-requires : goal.part-requires
part-requires t c =
    let s = c.requires.starts in
    let join = c.in-Some.ensures.right in
    let k = more_next (tok.Op op.Join) part_tokens s.more s.end_at tok.Semicolon s.rest join.0 c.in-Some.rest.now c.args.tokens.now no_join_semicolon s.cut join.1 in
    record { starts = record { one = k.one; rest = flat_map joined_part k.more ++ at s.end_at tok.Semicolon ∷ s.rest; cut = k.cut } }

pub more_parts-requires : goal.more_parts-requires
more_parts-requires t c =
    let s = c.requires.starts in
    let join = c.in-Some.ensures.right in
    let k = more_next (tok.Op op.Join) part_tokens s.more s.end_at tok.Semicolon s.rest join.0 c.in-Some.rest.now c.args.tokens.now no_join_semicolon s.cut join.1 in
    let told = c.in_ok-item-in-Some.ensures.right k.one (flat_map joined_part k.more ++ at s.end_at tok.Semicolon ∷ s.rest) k.cut in (
      omega (arith, c.decreases, c.in-Some.ensures.shorter, c.in_ok-item-in-Some.ensures.shorter),
      record { more = k.more; end_at = s.end_at; rest = s.rest; cut = sym told.1 },
    )
