use Rattle.std.proofs.Common.{inl, inr, refl}
use Rattle.std.specs.Prelude.{codes}
use Rattle.toml.specs.View.{table_view}
use Rattle.dt_cluster_file.specs.File.{IsNumberFault}
use Rattle.dt_cluster_file.proofs.MapEntries.{tells_more, err_passed}
use Rattle.dt_cluster_file.proofs.numbers.read_numbers.Goals as goal

pub returns-in_err-read_drop-clause-fault : goal.returns-in_err-read_drop-clause-fault
returns-in_err-read_drop-clause-fault c =
    err_passed _ c.from_residual-in_err-read_drop.result c.in_err-read_drop.field-0.0 c.from_residual-in_err-read_drop.ensures.1
    (tells_more _ (IsNumberFault (table_view c.args.top.now))
    (λ f is. (
      codes "drop",
      is.0,
      is.1,
      inr (
        (c.in_ok-read_regions.field-0, c.in_ok-read_regions.ensures.ok),
        inr (
          (c.in_ok-read_version.field-0, c.in_ok-read_version.ensures.ok),
          inr (
            (c.in_ok-number.field-0, c.in_ok-number.ensures.ok),
            inr ((c.in_ok-number-2.field-0, c.in_ok-number-2.ensures.ok), inl (refl, is.2)),
          ),
        ),
      ),
    ))
    c.in_err-read_drop.field-0.0 c.in_err-read_drop.ensures.fault)

pub returns-in_err-number-3-clause-fault : goal.returns-in_err-number-3-clause-fault
returns-in_err-number-3-clause-fault c =
    err_passed _ c.from_residual-in_err-number-3.result c.in_err-number-3.field-0.0 c.from_residual-in_err-number-3.ensures.1
    (tells_more _ (IsNumberFault (table_view c.args.top.now))
    (λ f is. (
      codes "repeat",
      is.0,
      is.1,
      inr (
        (c.in_ok-read_regions.field-0, c.in_ok-read_regions.ensures.ok),
        inr (
          (c.in_ok-read_version.field-0, c.in_ok-read_version.ensures.ok),
          inr (
            (c.in_ok-number.field-0, c.in_ok-number.ensures.ok),
            inr (
              (c.in_ok-number-2.field-0, c.in_ok-number-2.ensures.ok),
              inr ((c.in_ok-read_drop.field-0, c.in_ok-read_drop.ensures.ok), inl (refl, is.2)),
            ),
          ),
        ),
      ),
    ))
    c.in_err-number-3.field-0.0 c.in_err-number-3.ensures.fault)
