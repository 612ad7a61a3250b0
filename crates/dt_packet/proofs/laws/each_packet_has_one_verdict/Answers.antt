use Rattle.dt_packet.proofs.Verdicts.{one_verdict}
use Rattle.dt_packet.proofs.laws.each_packet_has_one_verdict.Goals as goal

pub returns : goal.returns
returns c = one_verdict
