use Rattle.std.proofs.Common.{◌++◌, ◌∷◌, [], refl}
use Rattle.std.proofs.lemmas.Result.{on_err_weaker, on_ok_weaker}
use Rattle.dt_queue.specs.declared.row.Way.TheVariants as way
use Rattle.dt_queue.proofs.LanesOfCells.{changed_row, changed_whole, keeps_lanes, links_same, same_self}
use Rattle.dt_queue.proofs.TableLanes.{all_lanes}
use Rattle.dt_queue.proofs.kept.Kept.add_mark.Goals as goal

pub push-requires-clause-last : goal.push-requires-clause-last
push-requires-clause-last c = rw c.in-Read.is at c.requires.last

pub push-requires-in-Write-clause-last : goal.push-requires-in-Write-clause-last
push-requires-in-Write-clause-last c = rw c.in-Write.is at c.requires.last

pub push-requires-in-Whole-clause-last : goal.push-requires-in-Whole-clause-last
push-requires-in-Whole-clause-last c = rw c.granule_of.ensures (rw c.in-Whole.is at c.requires.last)

pub returns-in-Read : goal.returns-in-Read
returns-in-Read c = record {
  added = on_ok_weaker c.push.result (λ change. changed_row c.args.self.now _ (λ l. l ++ c.args.mark ∷ []) c.args.mode way.Read c.args.row c.in-Read.is change c.push.ensures.others
      (links_same c.args.self.now.rows _ c.push.ensures.heads) refl refl refl refl) c.push.ensures.added;
  same = on_err_weaker c.push.result (λ same. keeps_lanes c.args.self.now _ (all_lanes _ _ way.Read same c.push.ensures.others) (same_self _) (links_same c.args.self.now.rows _ c.push.ensures.heads) refl refl refl) c.push.ensures.same;
}

pub returns-in-Write : goal.returns-in-Write
returns-in-Write c = record {
  added = on_ok_weaker c.push-in-Write.result (λ change. changed_row c.args.self.now _ (λ l. l ++ c.args.mark ∷ []) c.args.mode way.Write c.args.row c.in-Write.is change c.push-in-Write.ensures.others
      (links_same c.args.self.now.rows _ c.push-in-Write.ensures.heads) refl refl refl refl) c.push-in-Write.ensures.added;
  same = on_err_weaker c.push-in-Write.result (λ same. keeps_lanes c.args.self.now _ (all_lanes _ _ way.Write same c.push-in-Write.ensures.others) (same_self _)
      (links_same c.args.self.now.rows _ c.push-in-Write.ensures.heads) refl refl refl) c.push-in-Write.ensures.same;
}

pub returns-in-Whole : goal.returns-in-Whole
returns-in-Whole c = record {
  added = on_ok_weaker c.push-in-Whole.result (λ change. changed_whole c.args.self.now _
      (λ l. l ++ c.args.mark ∷ []) c.args.mode c.args.row c.granule_of.result c.in-Whole.is c.granule_of.ensures change refl refl refl refl refl) c.push-in-Whole.ensures.added;
  same = on_err_weaker c.push-in-Whole.result (λ same. keeps_lanes c.args.self.now _ (λ w. same_self _) same refl refl refl refl) c.push-in-Whole.ensures.same;
}
