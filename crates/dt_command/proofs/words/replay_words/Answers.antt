use Rattle.std.proofs.Common.{◌≡◌, ◌<◌, ◌∙◌, sym, rules, codes, arith, length, subst}
use Rattle.dt_command.specs.Tasks.{NamesCluster, word_bytes}
use Rattle.dt_command.specs.TaskCode.{word_of}
use Rattle.dt_command.proofs.WordForms.{four_words, asks_replay}
use Rattle.dt_command.proofs.words.replay_words.Goals as goal

pub returns : goal.returns
returns c =
    let all = four_words c.args.words.now c.verb-item.result c.cluster-item.result c.workload-item.result c.events-item.result
    (omega (arith, c.in-len4.len_at_least, c.in-len4.len_below)) c.verb-item.is c.cluster-item.is c.workload-item.is c.events-item.is in
    let verb : c.as_str.result.now ≡ codes "replay" = search rules in
    let some : 0 < length c.deref-2.result.now = search rules in
    let more : 0 < length c.deref-3.result.now = search rules in
    let read = c.in_ok-cluster.ensures in
    let named = subst NamesCluster (sym read.1) read.2 in (
      asks_replay (word_bytes c.args.words.now) _ _ _ _ (word_of c.in_ok-cluster.cluster) c.deref-2.result.now c.deref-3.result.now all (sym c.as_str.ensures.value ∙ verb)
          (sym c.deref.ensures ∙ sym read.1) (sym c.deref-2.ensures) (sym c.deref-3.ensures) named some more,
      read.0,
    )
