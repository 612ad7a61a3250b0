use Rattle.dt_access.proofs.GranuleLaws.{cut_at_slash, cut_nowhere}
use Rattle.dt_access.proofs.granules.granule_bytes.Goals as goal

pub returns-in-Some-slash_place : goal.returns-in-Some-slash_place
returns-in-Some-slash_place c = cut_at_slash _ _ _ _ c.in-Some.ensures.cases.0 c.in-Some-slash_place.ensures

pub returns-in-None : goal.returns-in-None
returns-in-None c = cut_nowhere _ _ _ c.in-Some.ensures.cases.0 c.in-None.ensures
