-- What may be inserted.
use Rattle.std.proofs.Common.{◌*◌, ◌<◌, ◌≤◌, [], ◌∷◌, length, arith}
use Rattle.std.proofs.lemmas.List.Sums.{sum_by-cons}
use Rattle.dt_lists.specs.Lists.{AllIn}
use Rattle.dt_sched.specs.Views.{View}
use Rattle.dt_sched.specs.Sched.{parts_in}
use Rattle.dt_test_graph.specs.PartConditions.{IsShort}

-- few short logs have few parts
pub few_parts : (view : View) → AllIn IsShort view → parts_in view ≤ 100 * length view
few_parts [] a = omega arith
few_parts (log ∷ view) a =
    let rest : parts_in view ≤ 100 * length view = few_parts view a.1 in
    let short : length log < 100 = a.0 in
    omega (arith, sum_by-cons length log view, rest, short)
