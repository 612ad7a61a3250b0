use Rattle.dt_events.proofs.EventWords.{short_at, no_ids}
use Rattle.dt_events.proofs.reader.read_ids.Goals as goal

pub read_id-requires : goal.read_id-requires
read_id-requires c = short_at c.args.words.now c.loop-word.word-index _ c.requires c.loop-word-test.true

pub returns-in_default : goal.returns-in_default
returns-in_default c =
    no_ids c.args.words.now c.loop-word.word-index _ c.loop-word-test.true c.in_default.ensures
