use Rattle.std.proofs.Common.{◌∙◌, sym}
use Rattle.dt_proc.proofs.ExprWalk.{told_right}
use Rattle.dt_syntax.proofs.Callers.{cut_first}
use Rattle.dt_proc.proofs.ItemWalk.{item_row, item_value}
use Rattle.dt_proc.proofs.statements.item.Goals as goal

pub returns-in-Row-clause-right : goal.returns-in-Row-clause-right
returns-in-Row-clause-right c = λ i rest h stop e.
    let s = item_row c.args.scope.now i rest c.first-item.result _ (e ∙ cut_first c.args.tokens.now c.first-item.result c.in-len1-up.len_at_least c.first-item.is) c.in-Row.is in
    told_right _ _ _ _ s.1 (c.row_of.ensures.right s.0 rest s.2)

pub returns-in_default-token : goal.returns-in_default-token
returns-in_default-token c = record {
  shorter = c.value_of.ensures.shorter;
  right = λ i rest h stop e.
      let cut = cut_first c.args.tokens.now c.first-item.result c.in-len1-up.len_at_least c.first-item.is in
      let s = item_value c.args.scope.now i rest c.first-item.result _ (e ∙ cut) h c.in_default-token.not-Row in
      told_right _ _ _ _ s.2 (c.value_of.ensures.right s.0 rest s.1 stop (s.3 ∙ sym cut));
}

pub row_of-requires : goal.row_of-requires
row_of-requires c =
    let s = c.requires.starts in
    let k = item_row c.args.scope.now s.one s.rest c.first-item.result _ (s.cut ∙ cut_first c.args.tokens.now c.first-item.result c.in-len1-up.len_at_least c.first-item.is) c.in-Row.is in
    record { starts = record { one = k.0; rest = s.rest; cut = k.2 } }

pub value_of-requires : goal.value_of-requires
value_of-requires c =
    let s = c.requires.starts in
    let cut = cut_first c.args.tokens.now c.first-item.result c.in-len1-up.len_at_least c.first-item.is in
    let k = item_value c.args.scope.now s.one s.rest c.first-item.result _ (s.cut ∙ cut) s.good c.in_default-token.not-Row in
    record { starts = record { one = k.0; rest = s.rest; good = k.1; stops = s.stops; cut = k.3 ∙ sym cut } }
