use Rattle.std.proofs.Common.{[], ◌∷◌, ◌++◌, ap, sym, ◌∙◌, map, length, arith, Ok}
use Rattle.std.specs.List.{flat_map}
use Rattle.std.proofs.lemmas.Result.{err_from_is_err_and}
use Rattle.std.proofs.lemmas.List.{map-append}
use Rattle.dt_syntax.specs.declared.token.Token.TheVariants as tok
use Rattle.dt_proc.specs.TreeViews.{give_tree}
use Rattle.dt_syntax.specs.Grammar.{at}
use Rattle.dt_proc.specs.AfterOk.{after_ok}
use Rattle.dt_proc.specs.SecondPass.{check_item, check_items, check_all_items}
use Rattle.dt_proc.proofs.ExprWalk.{err_then}
use Rattle.dt_proc.proofs.ItemWalk.{items_start, after_comma_next, told_next, told_fault, items_end}
use Rattle.dt_syntax.proofs.Callers.{next_item, items_stop, items_cut}
use Rattle.dt_proc.proofs.statements.items.Goals as goal

pub loop-after-init : goal.loop-after-init
loop-after-init c = record {
  shorter = c.in_ok-give.ensures.shorter;
  right = λ i more e rest h hs is.
      let one = c.in_ok-give.ensures.right i (flat_map next_item more ++ at e tok.Semicolon ∷ rest) h (items_stop more e rest) (items_cut i more e rest c.args.tokens.now is) in
      let pushed = c.in_ok-push.ensures.added ∙ ap (λ v. v ++ c.in_ok-give.give ∷ []) c.new-gives.ensures in
      (more, hs, sym one.1, items_start c.args.scope.now i more (give_tree c.in_ok-give.give) (map give_tree c.push.new.self) one.0 (ap (map give_tree) pushed));
}

pub loop-after-preserved : goal.loop-after-preserved
loop-after-preserved c = record {
  shorter = omega (arith, c.in_ok-give-2.ensures.shorter, c.in-Some.ensures.shorter, c.loop-after.invariant.shorter);
  right = λ i more e rest h hs is.
      let comma = c.in-Some.ensures.right in
      let told = check_all_items c.args.scope.now i more in
      let gifts = map give_tree c.loop-after.gives in
      let n = after_comma_next c.args.scope.now told gifts c.loop-after.rest.now e rest comma.0 c.in-Some.after.now comma.1 (c.loop-after.invariant.right i more e rest h hs is) in
      let one = c.in_ok-give-2.ensures.right n.item (flat_map next_item n.more ++ at e tok.Semicolon ∷ rest) n.good (items_stop n.more e rest) n.cut in
      let pushed = ap (map give_tree) c.in_ok-push-2.ensures.added ∙ map-append give_tree c.loop-after.gives (c.in_ok-give-2.give ∷ []) in (
        n.more,
        n.others,
        sym one.1,
        told_next c.args.scope.now told gifts c.in-Some.after.now e rest n (give_tree c.in_ok-give-2.give) one.0
            ∙ ap (λ v. after_ok (check_items c.args.scope.now n.more) (λ gs. Ok (v ++ gs))) (sym pushed),
      );
}

pub returns-in_err-give-clause-right : goal.returns-in_err-give-clause-right
returns-in_err-give-clause-right c = λ i more e rest h hs is.
    let p = err_from_is_err_and c.from_residual.result c.from_residual.ensures.1 in
    rw (p.1, p.2) (err_then (check_item c.args.scope.now i) _ (flat_map next_item more ++ at e tok.Semicolon ∷ rest) rest _
    (c.in_err-give.ensures.right i (flat_map next_item more ++ at e tok.Semicolon ∷ rest) h (items_stop more e rest) (items_cut i more e rest c.args.tokens.now is)))

pub returns-in_err-give-2-clause-right : goal.returns-in_err-give-2-clause-right
returns-in_err-give-2-clause-right c = λ i more e rest h hs is.
    let p = err_from_is_err_and c.from_residual-in_err-give-2.result c.from_residual-in_err-give-2.ensures.1 in
    let comma = c.in-Some.ensures.right in
    let n = after_comma_next c.args.scope.now (check_all_items c.args.scope.now i more) (map give_tree c.loop-after.gives) c.loop-after.rest.now e rest
    comma.0 c.in-Some.after.now comma.1 (c.loop-after.invariant.right i more e rest h hs is) in
    rw (p.1, p.2) (told_fault c.args.scope.now (check_all_items c.args.scope.now i more) (map give_tree c.loop-after.gives) c.in-Some.after.now e rest
    (flat_map next_item n.more ++ at e tok.Semicolon ∷ rest) _ n
    (c.in_err-give-2.ensures.right n.item (flat_map next_item n.more ++ at e tok.Semicolon ∷ rest) n.good (items_stop n.more e rest) n.cut))

pub returns-clause-right : goal.returns-clause-right
returns-clause-right c = λ i more e rest h hs is.
    let end = items_end c.args.scope.now (check_all_items c.args.scope.now i more) (map give_tree c.loop-after.gives) c.loop-after.rest.now e rest c.in_default.ensures.right (c.loop-after.invariant.right i more e rest h hs is) in
    (end.0, c.after_one.ensures.right (at e tok.Semicolon) rest end.1)

pub item-requires : goal.item-requires
item-requires c =
    let s = c.requires.starts in
    record {
      starts = record {
        one = s.one;
        rest = flat_map next_item s.more ++ at s.end_at tok.Semicolon ∷ s.rest;
        good = s.good;
        stops = items_stop s.more s.end_at s.rest;
        cut = items_cut s.one s.more s.end_at s.rest c.args.tokens.now s.cut;
      };
    }

pub item-requires-in-Some : goal.item-requires-in-Some
item-requires-in-Some c =
    let s = c.requires.starts in
    let comma = c.in-Some.ensures.right in
    let n = after_comma_next c.args.scope.now (check_all_items c.args.scope.now s.one s.more) (map give_tree c.loop-after.gives) c.loop-after.rest.now s.end_at s.rest
    comma.0 c.in-Some.after.now comma.1 (c.loop-after.invariant.right s.one s.more s.end_at s.rest s.good s.others s.cut) in
    record {
      starts = record {
        one = n.item;
        rest = flat_map next_item n.more ++ at s.end_at tok.Semicolon ∷ s.rest;
        good = n.good;
        stops = items_stop n.more s.end_at s.rest;
        cut = n.cut;
      };
    }

pub after_one-requires : goal.after_one-requires
after_one-requires c =
    let s = c.requires.starts in
    let end = items_end c.args.scope.now (check_all_items c.args.scope.now s.one s.more) (map give_tree c.loop-after.gives) c.loop-after.rest.now s.end_at s.rest
    c.in_default.ensures.right (c.loop-after.invariant.right s.one s.more s.end_at s.rest s.good s.others s.cut) in
    omega (arith, ap length end.1)
