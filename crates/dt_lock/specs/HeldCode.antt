-- Only proofs need this file: how the toolchain tells the values apart that contracts see of a region behind its lock, by
-- its fields. Skip it; read `Held` for what they are.
use Rattle.std.specs.Prelude.{List, refl}
use Rattle.std.specs.Coded.{Coded, code_by, coded×, coded_list}
use Rattle.dt_region.specs.Region.{RegionView}
use Rattle.dt_region.specs.RegionCode.{region_code}
use Rattle.dt_lock.specs.contracts.running.Running as running
use Rattle.dt_lock.specs.declared.running.Running.{Running}
use Rattle.dt_lock.specs.Held.{HeldView}

-- a region behind its lock is stored as its fields
abbrev pub held_code : Coded HeldView
held_code = code_by (RegionView × List Running) (coded× region_code (coded_list running.the_row.coded)) (λ h. (h.region, h.running)) (λ p. record { region = p.0; running = p.1 }) (λ _. refl)
