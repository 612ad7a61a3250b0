use Rattle.std.proofs.Common.{◌≡◌, ◌<◌, ◌∙◌, sym, rules, codes, arith, length, subst}
use Rattle.dt_command.specs.Tasks.{NamesCluster, word_bytes}
use Rattle.dt_command.specs.TaskCode.{word_of}
use Rattle.dt_command.proofs.WordForms.{three_words, asks_run}
use Rattle.dt_command.proofs.words.run_words.Goals as goal

pub returns : goal.returns
returns c =
    let all = three_words c.args.words.now c.verb-item.result c.cluster-item.result c.workload-item.result c.verb-item.result
    (omega (arith, c.in-len3.len_at_least, c.in-len3.len_below)) c.verb-item.is c.cluster-item.is c.workload-item.is in
    let verb : c.as_str.result.now ≡ codes "run" = search rules in
    let some : 0 < length c.deref-2.result.now = search rules in
    let read = c.in_ok-cluster.ensures in
    let named = subst NamesCluster (sym read.1) read.2 in (
      asks_run (word_bytes c.args.words.now) _ _ _ (word_of c.in_ok-cluster.cluster) c.deref-2.result.now all (sym c.as_str.ensures.value ∙ verb)
          (sym c.deref.ensures ∙ sym read.1) (sym c.deref-2.ensures) named some,
      read.0,
    )
