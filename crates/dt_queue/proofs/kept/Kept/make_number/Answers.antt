use Rattle.std.proofs.Common.{◌+◌, ◌≤◌, ap, arith}
use Rattle.slab.specs.Slab.{Slab, slab_len}
use Rattle.dt_queue.specs.declared.cell.Cell.{Cell}
use Rattle.dt_queue.specs.declared.kept.Kept.{Kept}
use Rattle.dt_queue.proofs.NewNumbers.{reserved, shown_length}
use Rattle.dt_queue.proofs.kept.Kept.make_number.Goals as goal

pub number_anew-requires : goal.number_anew-requires
number_anew-requires c =
    let k : Kept = c.args.self.now in
    let mid : Kept = record k { cells = c.reserve.new.self } in
    let room : slab_len c.reserve.new.self + 2 ≤ c.reserve.new.self.capacity = c.in_ok-reserve.ensures.room in
    record {
      kept = (reserved k c.reserve.new.self c.requires (ap (λ (x : Slab Cell). x.slots) c.in_ok-reserve.ensures.rest_kept)).kept;
      few = omega (arith, shown_length mid, room, c.capacity-room.ensures.value, c.capacity-room.type_inv);
    }

pub returns-in_err-reserve-clause-same : goal.returns-in_err-reserve-clause-same
returns-in_err-reserve-clause-same c = reserved c.args.self.now c.reserve.new.self c.requires (ap (λ (x : Slab Cell). x.slots) c.in_err-reserve.ensures.rest_kept)
