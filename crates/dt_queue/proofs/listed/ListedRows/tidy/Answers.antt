use Rattle.std.proofs.Common.{◌<◌, [], get_or, length, map, ap, refl, arith, ◌∙◌}
use Rattle.std.proofs.lemmas.List.{map-set, get_or-set_other}
use Rattle.std.specs.List.{filter}
use Rattle.dt_queue.specs.declared.listed.Log.{Log}
use Rattle.dt_queue.specs.TableInner.{lanes_read, lanes_written}
use Rattle.dt_queue.specs.ListedInner.{stays}
use Rattle.dt_queue.proofs.RowSets.{told_at, told_here}
use Rattle.dt_queue.proofs.listed.ListedRows.tidy.Goals as goal

pub returns-then-granule-len : goal.returns-then-granule-len
returns-then-granule-len c =
    let xs = c.args.self.now.logs.items in
    let i = c.args.granule in
    let lt : i < length xs = omega (arith, c.if-granule-len.true, c.len.ensures, c.args.self.now.logs.ok.0) in
    let here = c.as_slice.ensures.value ∙ told_at xs (λ (r : Log). r.listings.items) i c.index.result.now [] lt c.index.ensures in
    let was = told_at xs (λ (r : Log). r.listings.items) i c.index_mut.result.now [] lt c.index_mut.ensures.value in
    record {
      log = told_here xs (λ (r : Log). r.listings.items) i c.tidy.new.self [] lt ∙ c.tidy.ensures ∙ ap (filter (stays c.args.first (lanes_read c.args.table.now) (lanes_written c.args.table.now))) was;
      others = λ g ne. ap (λ l. get_or l g []) (map-set (λ (r : Log). r.listings.items) xs i c.tidy.new.self) ∙ get_or-set_other (map (λ (r : Log). r.listings.items) xs) i g _ [] ne;
      last = rw here at c.forget_unused.ensures;
      exact = refl;
    }
