use Rattle.dt_packet.proofs.Verdicts.{one_of_two}
use Rattle.dt_packet.proofs.laws.one_of_two_packets_is_put.Goals as goal

pub returns : goal.returns
returns c = one_of_two
