use Rattle.std.proofs.Common.{[], get_or, sym, subst}
use Rattle.std.proofs.lemmas.Result.{IfOk-weaker}
use Rattle.dt_queue.specs.TableInner.{lanes_written}
use Rattle.dt_queue.specs.LanesInner.{AreMarks, IsLastIn}
use Rattle.dt_queue.proofs.NearMarks.{near_last}
use Rattle.dt_queue.proofs.nearest.near_write.Goals as goal

pub returns : goal.returns
returns c =
    let ms = get_or (lanes_written c.args.table.now) c.args.row [] in
    IfOk-weaker c.only.result _ _ (λ marks e. subst (AreMarks (IsLastIn ms c.args.low c.args.high)) (sym e) (near_last ms c.args.low c.args.high c.last_write.result c.requires c.last_write.ensures)) c.only.ensures
