use Rattle.std.proofs.Common.{◌≡◌, ◌∙◌, sym, rules, codes, arith}
use Rattle.dt_command.specs.Tasks.{word_bytes}
use Rattle.dt_command.proofs.WordForms.{two_words, asks_big}
use Rattle.dt_command.proofs.words.big_words.Goals as goal

pub returns : goal.returns
returns c =
    let all = two_words c.args.words.now c.verb-item.result c.size-item.result c.verb-item.result c.verb-item.result
    (omega (arith, c.in-len2.len_at_least, c.in-len2.len_below)) c.verb-item.is c.size-item.is in
    let verb : c.as_str.result.now ≡ codes "big" = search rules in
    asks_big (word_bytes c.args.words.now) _ _ c.as_bytes.result.now c.size_of.result all (sym c.as_str.ensures.value ∙ verb) (sym c.as_bytes.ensures.value) c.size_of.ensures
