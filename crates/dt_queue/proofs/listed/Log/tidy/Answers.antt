use Rattle.std.proofs.Common.{rules}
use Rattle.std.proofs.lemmas.Fn.{filter_same}
use Rattle.dt_queue.specs.TableInner.{lanes_read, lanes_written}
use Rattle.dt_queue.specs.ListedInner.{stays}
use Rattle.dt_queue.proofs.listed.Log.tidy.Goals as goal

pub returns : goal.returns
returns c = filter_same _ (stays c.args.first (lanes_read c.args.table.now) (lanes_written c.args.table.now)) _ (λ x b q k. search rules) _ _ c.retain.ensures.filtered
