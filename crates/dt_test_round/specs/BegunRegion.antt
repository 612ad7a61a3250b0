-- For the tests of rounds: the region with which a test begins, before anything comes to it. Read next: `FedRegion`, for what is
-- known of it once something came.
use Rattle.std.specs.Prelude.{ℕ, List, [], ◌∷◌, codes, pos}
use Rattle.dt_text.specs.declared.Value.{Value}
use Rattle.dt_text.specs.declared.Value.TheVariants.{Int}
use Rattle.dt_access.specs.Clash.{Bytes}
use Rattle.dt_table.specs.Table.{opening}
use Rattle.dt_region.specs.Region.{RegionView}
use Rattle.dt_region.specs.Rules.{opening_state}

-- its rows: `a` and `b`, each with the value 10
abbrev pub begun_rows : List (Bytes × Value)
begun_rows = (codes "a", Int (pos 10)) ∷ (codes "b", Int (pos 10)) ∷ []

-- the region of this number, of so many
abbrev pub begun_region : ℕ → ℕ → RegionView
begun_region number regions = record { state = opening_state number regions (opening 1 regions [] begun_rows); events = []; heard = 0; room = 0 }
