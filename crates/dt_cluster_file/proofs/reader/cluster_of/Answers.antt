use Rattle.std.proofs.Common.{inl, inr}
use Rattle.toml.specs.View.{table_view}
use Rattle.dt_cluster_file.specs.File.{IsFaultOf}
use Rattle.dt_cluster_file.proofs.MapEntries.{tells_more, err_passed}
use Rattle.dt_cluster_file.proofs.Valid.{given_valid}
use Rattle.dt_cluster_file.proofs.reader.cluster_of.Goals as goal

pub returns-in_err-procs-clause-fault : goal.returns-in_err-procs-clause-fault
returns-in_err-procs-clause-fault c =
    let n = c.in_ok-numbers.numbers in
    err_passed _ c.from_residual-in_err-procs.result c.in_err-procs.field-0.0 c.from_residual-in_err-procs.ensures.1
    (tells_more _ (IsFaultOf _) (λ f is. inr (c.in_ok-only_known.ensures.ok, inr (n, c.in_ok-numbers.ensures.ok, inl is)))
    c.in_err-procs.field-0.0 c.in_err-procs.ensures.fault)

pub returns-in_err-homes-clause-fault : goal.returns-in_err-homes-clause-fault
returns-in_err-homes-clause-fault c =
    let n = c.in_ok-numbers.numbers in
    err_passed _ c.from_residual-in_err-homes.result c.in_err-homes.field-0.0 c.from_residual-in_err-homes.ensures.1
    (tells_more _ (IsFaultOf _) (λ f is. inr (
      c.in_ok-only_known.ensures.ok,
      inr (
        n,
        c.in_ok-numbers.ensures.ok,
        inr ((c.in_ok-procs.procs, c.in_ok-procs.ensures.ok), inl is),
      ),
    ))
    c.in_err-homes.field-0.0 c.in_err-homes.ensures.fault)

pub returns-in_err-rows-clause-fault : goal.returns-in_err-rows-clause-fault
returns-in_err-rows-clause-fault c =
    let n = c.in_ok-numbers.numbers in
    err_passed _ c.from_residual-in_err-rows.result c.in_err-rows.field-0.0 c.from_residual-in_err-rows.ensures.1
    (tells_more _ (IsFaultOf _) (λ f is. inr (
      c.in_ok-only_known.ensures.ok,
      inr (
        n,
        c.in_ok-numbers.ensures.ok,
        inr ((c.in_ok-procs.procs, c.in_ok-procs.ensures.ok), inr ((c.in_ok-homes.homes, c.in_ok-homes.ensures.ok), is)),
      ),
    ))
    c.in_err-rows.field-0.0 c.in_err-rows.ensures.fault)

pub returns-clause-valid : goal.returns-clause-valid
returns-clause-valid c =
    let n = c.in_ok-numbers.numbers in
    given_valid (table_view c.args.top.now)
    (record { version = n.version; regions = n.regions; workers = n.workers; tries = n.tries; drop = n.drop; repeat = n.repeat; procs = c.in_ok-procs.procs; homes = c.in_ok-homes.homes; rows = c.in_ok-rows.rows })
    c.in_ok-numbers.ensures.ok c.in_ok-procs.ensures.sound c.in_ok-homes.ensures.ok c.in_ok-rows.ensures.ok
