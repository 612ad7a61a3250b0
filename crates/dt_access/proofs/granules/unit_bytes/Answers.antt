use Rattle.std.proofs.Common.{subst, sym}
use Rattle.dt_text.specs.Texts.{IsKey}
use Rattle.dt_access.proofs.GranuleLaws.{granule_is_key}
use Rattle.dt_access.proofs.granules.unit_bytes.Goals as goal

pub returns-then-version-eq2-clause-key : goal.returns-then-version-eq2-clause-key
returns-then-version-eq2-clause-key c =
    subst IsKey (sym c.granule_bytes.ensures) (granule_is_key c.bytes.result.now (subst IsKey (sym c.bytes.ensures.same) c.bytes.ensures.key))
