use Rattle.std.proofs.lemmas.Grind.{common_steps}
use Rattle.std.proofs.Common.{◌≡◌, ℕ, List, inr, ap, sym, ◌∙◌, arith, Ok, refl, ◌∷◌, ◌++◌, rules}
use Rattle.std.proofs.lemmas.Result.{err_from_is_err_and}
use Rattle.dt_syntax.specs.declared.token.Token.TheVariants as tok
use Rattle.dt_syntax.specs.declared.token.Placed.{Placed}
use Rattle.dt_syntax.specs.Fronts.{FrontStops}
use Rattle.dt_syntax.specs.Grammar.{at, Syntax, IsLevel, syntax_tokens, links_tokens}
use Rattle.dt_proc.specs.WalkInner.{StartsExpr, StartsOpen}
use Rattle.dt_proc.specs.SecondPass.{check, check_links}
use Rattle.dt_proc.specs.Tree as tree
use Rattle.dt_proc.specs.declared.tree.Sort.TheVariants as sort
use Rattle.dt_proc.specs.TreeViews.{expr_tree}
use Rattle.dt_proc.proofs.ExprWalk.{ok_then, err_then, operand_when, told_is, told_right, no_operand, no_links, link_misfit, link_fits}
use Rattle.dt_syntax.proofs.Callers.{chain_shape, links_stop, chain_cut, link_first, six_stop}
use Rattle.dt_proc.proofs.expressions.+levels.Goals as goal

pub expression-returns-in_err-first-clause-right : goal.expression-returns-in_err-first-clause-right
expression-returns-in_err-first-clause-right t c = λ x rest h stop e.
    let p = err_from_is_err_and c.from_residual.result c.from_residual.ensures.1 in
    let k = chain_shape x c.args.level (omega arith) h in
    rw (p.1, p.2, k.is) (err_then (check c.args.scope.now k.head) (λ a. check_links c.args.scope.now a k.links) (links_tokens k.links ++ rest) rest _
    (c.in_err-first.ensures.right k.head (links_tokens k.links ++ rest) k.level (links_stop k.links c.args.level rest k.good stop)
    (chain_cut k.head k.links rest c.args.tokens.now (ap (λ v. syntax_tokens v ++ rest) (sym k.is) ∙ e))))

pub expression-returns-clause-right : goal.expression-returns-clause-right
expression-returns-clause-right t c = λ x rest h stop e.
    let k = chain_shape x c.args.level (omega arith) h in
    let head = c.in_ok-first.ensures.right k.head (links_tokens k.links ++ rest) k.level (links_stop k.links c.args.level rest k.good stop)
    (chain_cut k.head k.links rest c.args.tokens.now (ap (λ v. syntax_tokens v ++ rest) (sym k.is) ∙ e)) in
    rw k.is (ok_then (check c.args.scope.now k.head) _ (λ a. check_links c.args.scope.now a k.links) rest _ head.0
    (c.links.ensures.right k.links rest k.good stop (sym head.1)))

pub links-returns-in_default-clause-right : goal.links-returns-in_default-clause-right
links-returns-in_default-clause-right t c = λ ls rest h stop e.
    no_links c.args.scope.now (expr_tree c.args.left, c.args.sort) ls c.args.level rest c.args.tokens.now h e c.in_default.ensures.right

pub operand-returns-in-Int-clause-right : goal.operand-returns-in-Int-clause-right
operand-returns-in-Int-clause-right t c = λ x rest h stop e.
    let s = operand_when c.args.level c.args.scope.now x rest c.args.tokens.now c.first-item.result (tok.Int c.in-Int.number) c.requires.low h c.in-len1-up.len_at_least c.first-item.is e c.in-Int.is in
    (search (rules, s), s.1)

pub operand-returns-in_ok-text-in-Text-clause-right : goal.operand-returns-in_ok-text-in-Text-clause-right
operand-returns-in_ok-text-in-Text-clause-right t c = λ x rest h stop e.
    let s = operand_when c.args.level c.args.scope.now x rest c.args.tokens.now c.first-item.result (tok.Text c.in-Text.text) c.requires.low h c.in-len1-up.len_at_least c.first-item.is e c.in-Text.is in
    let same = c.in_ok-text-in-Text.ensures ∙ c.in_ok-copy-in-Text.ensures.same ∙ c.get.ensures in
    (s.0 ∙ ap (λ v. Ok (tree.text v, sort.Text)) (sym same), s.1)

pub operand-returns-in-Truth-clause-right : goal.operand-returns-in-Truth-clause-right
operand-returns-in-Truth-clause-right t c = λ x rest h stop e.
    let s = operand_when c.args.level c.args.scope.now x rest c.args.tokens.now c.first-item.result (tok.Truth c.in-Truth.truth) c.requires.low h c.in-len1-up.len_at_least c.first-item.is e c.in-Truth.is in
    s

pub operand-returns-in-Name-clause-right : goal.operand-returns-in-Name-clause-right
operand-returns-in-Name-clause-right t c = λ x rest h stop e.
    let s = operand_when c.args.level c.args.scope.now x rest c.args.tokens.now c.first-item.result (tok.Name c.in-Name.name) c.requires.low h c.in-len1-up.len_at_least c.first-item.is e c.in-Name.is in
    told_is _ _ _ _ _ s.0 s.1 (rw c.get-in-Name.ensures at c.variable.ensures.right)

pub operand-returns-in-IntWord-clause-right : goal.operand-returns-in-IntWord-clause-right
operand-returns-in-IntWord-clause-right t c = λ x rest h stop e.
    let s = operand_when c.args.level c.args.scope.now x rest c.args.tokens.now c.first-item.result tok.IntWord c.requires.low h c.in-len1-up.len_at_least c.first-item.is e c.in-IntWord.is in
    told_right _ _ _ _ s.1 (c.read_row.ensures.right s.0 rest s.2)

pub operand-returns-in-TextWord-clause-right : goal.operand-returns-in-TextWord-clause-right
operand-returns-in-TextWord-clause-right t c = λ x rest h stop e.
    let s = operand_when c.args.level c.args.scope.now x rest c.args.tokens.now c.first-item.result tok.TextWord c.requires.low h c.in-len1-up.len_at_least c.first-item.is e c.in-TextWord.is in
    told_right _ _ _ _ s.1 (c.read_row-in-TextWord.ensures.right s.0 rest s.2)

pub operand-returns-in-Has-clause-right : goal.operand-returns-in-Has-clause-right
operand-returns-in-Has-clause-right t c = λ x rest h stop e.
    let s = operand_when c.args.level c.args.scope.now x rest c.args.tokens.now c.first-item.result tok.Has c.requires.low h c.in-len1-up.len_at_least c.first-item.is e c.in-Has.is in
    told_right _ _ _ _ s.1 (c.read_row-in-Has.ensures.right s.0 rest s.2)

pub operand-returns-in-Open-clause-right : goal.operand-returns-in-Open-clause-right
operand-returns-in-Open-clause-right t c = λ x rest h stop e.
    let s = operand_when c.args.level c.args.scope.now x rest c.args.tokens.now c.first-item.result tok.Open c.requires.low h c.in-len1-up.len_at_least c.first-item.is e c.in-Open.is in
    told_right _ _ _ _ s.2 (c.inside.ensures.right s.0 s.1 rest s.3 s.4)

pub operand-returns-in-Len-clause-right : goal.operand-returns-in-Len-clause-right
operand-returns-in-Len-clause-right t c = λ x rest h stop e.
    let s = operand_when c.args.level c.args.scope.now x rest c.args.tokens.now c.first-item.result tok.Len c.requires.low h c.in-len1-up.len_at_least c.first-item.is e c.in-Len.is in
    told_right _ _ _ _ s.3 (c.of_brackets.ensures.right s.0 s.1 s.2 rest s.4 s.5)

pub operand-returns-in-Show-clause-right : goal.operand-returns-in-Show-clause-right
operand-returns-in-Show-clause-right t c = λ x rest h stop e.
    let s = operand_when c.args.level c.args.scope.now x rest c.args.tokens.now c.first-item.result tok.Show c.requires.low h c.in-len1-up.len_at_least c.first-item.is e c.in-Show.is in
    told_right _ _ _ _ s.3 (c.of_brackets-in-Show.ensures.right s.0 s.1 s.2 rest s.4 s.5)

pub operand-returns-in-Not-clause-right : goal.operand-returns-in-Not-clause-right
operand-returns-in-Not-clause-right t c = λ x rest h stop e.
    let s = operand_when c.args.level c.args.scope.now x rest c.args.tokens.now c.first-item.result tok.Not c.requires.low h c.in-len1-up.len_at_least c.first-item.is e c.in-Not.is in
    told_right _ _ _ _ s.1 (c.of_atom.ensures.right s.0 rest s.2 (six_stop rest c.args.level s.3 stop) s.4)

pub operand-returns-in-Op-clause-right : goal.operand-returns-in-Op-clause-right
operand-returns-in-Op-clause-right t c = λ x rest h stop e.
    let s = operand_when c.args.level c.args.scope.now x rest c.args.tokens.now c.first-item.result (tok.Op c.in-Op.field-0) c.requires.low h c.in-len1-up.len_at_least c.first-item.is e c.in-Op.is in
    told_right _ _ _ _ s.1 (c.of_atom-in-Op.ensures.right s.0 rest s.2 (six_stop rest c.args.level s.3 stop) s.4)

pub links-returns-in_err-right-clause-right : goal.links-returns-in_err-right-clause-right
links-returns-in_err-right-clause-right t c = λ ls rest h stop e.
    let p = err_from_is_err_and c.from_residual.result c.from_residual.ensures.1 in
    let found = c.in-Some.ensures.right in
    let k = link_first c.args.level c.in-Some.place c.in-Some.op c.in-Some.after.now ls rest c.args.tokens.now h stop found.1 found.0 e in
    rw (p.1, p.2, k.is) (err_then (check c.args.scope.now k.x) _ (links_tokens k.more ++ rest) rest _
    (c.in_err-right.ensures.right k.x (links_tokens k.more ++ rest) k.level (links_stop k.more c.args.level rest k.good stop) k.cut))

pub links-returns-then-not-fits-clause-right : goal.links-returns-then-not-fits-clause-right
links-returns-then-not-fits-clause-right t c = λ ls rest h stop e.
    let found = c.in-Some.ensures.right in
    let k = link_first c.args.level c.in-Some.place c.in-Some.op c.in-Some.after.now ls rest c.args.tokens.now h stop found.1 found.0 e in
    let right = c.in_ok-right.ensures.right k.x (links_tokens k.more ++ rest) k.level (links_stop k.more c.args.level rest k.good stop) k.cut in
    inr (link_misfit c.args.scope.now (expr_tree c.args.left, c.args.sort) (expr_tree c.in_ok-right.right, c.in_ok-right.other) c.in-Some.place c.in-Some.op k.x k.more ls k.is right.0 (sym c.if-not-fits.ensures))

pub links-returns-clause-right : goal.links-returns-clause-right
links-returns-clause-right t c = λ ls rest h stop e.
    let found = c.in-Some.ensures.right in
    let k = link_first c.args.level c.in-Some.place c.in-Some.op c.in-Some.after.now ls rest c.args.tokens.now h stop found.1 found.0 e in
    let right = c.in_ok-right.ensures.right k.x (links_tokens k.more ++ rest) k.level (links_stop k.more c.args.level rest k.good stop) k.cut in
    told_right _ _ rest _
    (link_fits c.args.scope.now (expr_tree c.args.left, c.args.sort) (expr_tree c.in_ok-right.right, c.in_ok-right.other) (expr_tree c.in_ok-binary.field-0, c.given_by.result)
    c.in-Some.place c.in-Some.op k.x k.more ls k.is right.0 (sym c.if-not-fits.ensures) (λ i. (c.in_ok-binary.ensures i, c.given_by.ensures i)))
    (c.links.ensures.right k.more rest k.good stop (sym right.1))

-- ---- what each walk needs of the tokens

pub expression-expression-requires : goal.expression-expression-requires
expression-expression-requires t c =
    let s = c.requires.starts in
    let k = chain_shape s.one c.args.level (omega arith) s.good in (
      omega (arith, c.decreases),
      (
        omega arith,
        record {
          one = k.head;
          rest = links_tokens k.links ++ s.rest;
          good = k.level;
          stops = links_stop k.links c.args.level s.rest k.good s.stops;
          cut = chain_cut k.head k.links s.rest c.args.tokens.now (ap (λ v. syntax_tokens v ++ s.rest) (sym k.is) ∙ s.cut);
        },
      ),
    )

pub expression-links-requires : goal.expression-links-requires
expression-links-requires t c =
    let s = c.requires.starts in
    let k = chain_shape s.one c.args.level (omega arith) s.good in
    let head = c.in_ok-first.ensures.right k.head (links_tokens k.links ++ s.rest) k.level (links_stop k.links c.args.level s.rest k.good s.stops)
    (chain_cut k.head k.links s.rest c.args.tokens.now (ap (λ v. syntax_tokens v ++ s.rest) (sym k.is) ∙ s.cut)) in (
      omega (arith, c.decreases, c.in_ok-first.ensures.shorter),
      (omega arith, record { all = k.links; rest = s.rest; good = k.good; stops = s.stops; cut = sym head.1 }),
    )

pub links-expression-requires : goal.links-expression-requires
links-expression-requires t c =
    let s = c.requires.starts in
    let found = c.in-Some.ensures.right in
    let k = link_first c.args.level c.in-Some.place c.in-Some.op c.in-Some.after.now s.all s.rest c.args.tokens.now s.good s.stops found.1 found.0 s.cut in (
      omega (arith, c.decreases, c.in-Some.ensures.shorter),
      (
        omega (arith, c.requires.low),
        record {
          one = k.x;
          rest = links_tokens k.more ++ s.rest;
          good = k.level;
          stops = links_stop k.more c.args.level s.rest k.good s.stops;
          cut = k.cut;
        },
      ),
    )

pub links-links-requires : goal.links-links-requires
links-links-requires t c =
    let s = c.requires.starts in
    let found = c.in-Some.ensures.right in
    let k = link_first c.args.level c.in-Some.place c.in-Some.op c.in-Some.after.now s.all s.rest c.args.tokens.now s.good s.stops found.1 found.0 s.cut in
    let right = c.in_ok-right.ensures.right k.x (links_tokens k.more ++ s.rest) k.level (links_stop k.more c.args.level s.rest k.good s.stops) k.cut in (
      omega (arith, c.decreases, c.in-Some.ensures.shorter, c.in_ok-right.ensures.shorter),
      (c.requires.low, record { all = k.more; rest = s.rest; good = k.good; stops = s.stops; cut = sym right.1 }),
    )

pub operand-read_row-requires : goal.operand-read_row-requires
operand-read_row-requires t c =
    let s = c.requires.starts in
    let k = operand_when c.args.level c.args.scope.now s.one s.rest c.args.tokens.now c.first-item.result tok.IntWord c.requires.low s.good c.in-len1-up.len_at_least c.first-item.is s.cut c.in-IntWord.is in
    record { starts = record { one = k.0; rest = s.rest; cut = k.2 } }

pub operand-read_row-requires-in-TextWord : goal.operand-read_row-requires-in-TextWord
operand-read_row-requires-in-TextWord t c =
    let s = c.requires.starts in
    let k = operand_when c.args.level c.args.scope.now s.one s.rest c.args.tokens.now c.first-item.result tok.TextWord c.requires.low s.good c.in-len1-up.len_at_least c.first-item.is s.cut c.in-TextWord.is in
    record { starts = record { one = k.0; rest = s.rest; cut = k.2 } }

pub operand-read_row-requires-in-Has : goal.operand-read_row-requires-in-Has
operand-read_row-requires-in-Has t c =
    let s = c.requires.starts in
    let k = operand_when c.args.level c.args.scope.now s.one s.rest c.args.tokens.now c.first-item.result tok.Has c.requires.low s.good c.in-len1-up.len_at_least c.first-item.is s.cut c.in-Has.is in
    record { starts = record { one = k.0; rest = s.rest; cut = k.2 } }

pub operand-inside-requires : goal.operand-inside-requires
operand-inside-requires t c =
    let s = c.requires.starts in
    let k = operand_when c.args.level c.args.scope.now s.one s.rest c.args.tokens.now c.first-item.result tok.Open c.requires.low s.good c.in-len1-up.len_at_least c.first-item.is s.cut c.in-Open.is in
    (grind (arith, common_steps), record { one = k.0; close_at = k.1; rest = s.rest; good = k.3; cut = k.4 })

-- an expression in brackets comes first
opens : {ts : List Placed} (o : ℕ) (x : Syntax) (q : ℕ) (rest : List Placed) → IsLevel 0 x → at o tok.Open ∷ (syntax_tokens x ++ at q tok.Close ∷ rest) ≡ ts → StartsOpen ts
opens o x q rest good cut = record { open_at = o; after = syntax_tokens x ++ at q tok.Close ∷ rest; inside = record { one = x; close_at = q; rest = rest; good = good; cut = refl }; cut = cut }

-- the operand of a `not` or a `-` comes first
operand_next : {ts : List Placed} (n : ℕ) (x : Syntax) (rest : List Placed) → IsLevel 6 x → n ≡ 5 → FrontStops n rest → syntax_tokens x ++ rest ≡ ts → StartsExpr 6 ts
operand_next n x rest good five stops cut = record { one = x; rest = rest; good = good; stops = six_stop rest n five stops; cut = cut }

pub operand-of_brackets-requires : goal.operand-of_brackets-requires
operand-of_brackets-requires t c =
    let s = c.requires.starts in
    let k = operand_when c.args.level c.args.scope.now s.one s.rest c.args.tokens.now c.first-item.result tok.Len c.requires.low s.good c.in-len1-up.len_at_least c.first-item.is s.cut c.in-Len.is in
    (grind (arith, common_steps), opens k.0 k.1 k.2 s.rest k.4 k.5)

pub operand-of_brackets-requires-in-Show : goal.operand-of_brackets-requires-in-Show
operand-of_brackets-requires-in-Show t c =
    let s = c.requires.starts in
    let k = operand_when c.args.level c.args.scope.now s.one s.rest c.args.tokens.now c.first-item.result tok.Show c.requires.low s.good c.in-len1-up.len_at_least c.first-item.is s.cut c.in-Show.is in
    (grind (arith, common_steps), opens k.0 k.1 k.2 s.rest k.4 k.5)

pub operand-of_atom-requires : goal.operand-of_atom-requires
operand-of_atom-requires t c =
    let s = c.requires.starts in
    let k = operand_when c.args.level c.args.scope.now s.one s.rest c.args.tokens.now c.first-item.result tok.Not c.requires.low s.good c.in-len1-up.len_at_least c.first-item.is s.cut c.in-Not.is in
    (grind (arith, common_steps), operand_next c.args.level k.0 s.rest k.2 k.3 s.stops k.4)

pub operand-of_atom-requires-in-Op : goal.operand-of_atom-requires-in-Op
operand-of_atom-requires-in-Op t c =
    let s = c.requires.starts in
    let k = operand_when c.args.level c.args.scope.now s.one s.rest c.args.tokens.now c.first-item.result (tok.Op c.in-Op.field-0) c.requires.low s.good c.in-len1-up.len_at_least c.first-item.is s.cut c.in-Op.is in
    (grind (arith, common_steps), operand_next c.args.level k.0 s.rest k.2 k.3 s.stops k.4)

pub operand-unreachable-requires-in_default-token : goal.operand-unreachable-requires-in_default-token
operand-unreachable-requires-in_default-token t c =
    let s = c.requires.starts in
    let k = operand_when c.args.level c.args.scope.now s.one s.rest c.args.tokens.now c.first-item.result c.first-item.result.token c.requires.low s.good c.in-len1-up.len_at_least c.first-item.is s.cut refl in
    no_operand c.args.level c.args.scope.now c.first-item.result.token c.first-item.result.place _ s.one s.rest
    c.in_default-token.not-Name c.in_default-token.not-Int c.in_default-token.not-Text c.in_default-token.not-Op c.in_default-token.not-IntWord
    c.in_default-token.not-TextWord c.in_default-token.not-Has c.in_default-token.not-Len c.in_default-token.not-Show c.in_default-token.not-Not
    c.in_default-token.not-Truth c.in_default-token.not-Open k
