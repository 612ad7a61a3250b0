use Rattle.std.proofs.Common.{◌≡◌, ◌++◌, ◌∷◌, [], List, sym, ap, ◌∙◌, arith, rules}
use Rattle.std.proofs.lemmas.List.FromFn.{map-range_with_len_more}
use Rattle.dt_text.specs.Texts.{Bytes}
use Rattle.dt_text.specs.declared.Value.{Value}
use Rattle.dt_gen.specs.Load.{account_row}
use Rattle.dt_gen.proofs.accounts.account_rows.Goals as goal

pub loop-number-preserved : goal.loop-number-preserved
loop-number-preserved c =
    let n = c.loop-number.number in
    let longer : c.push.new.self.items ≡ c.loop-number.rows.items ++ account_row n ∷ [] = search rules in
    longer ∙ ap (λ (rows : List (Bytes × Value)). rows ++ account_row n ∷ []) c.loop-number.invariant ∙ sym (map-range_with_len_more account_row 0 n n (omega arith))
