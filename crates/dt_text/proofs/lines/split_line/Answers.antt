use Rattle.std.proofs.Common.{◌≡◌, ◌+◌, ◌-◌, length, take, drop, sym, arith}
use Rattle.std.proofs.lemmas.Grind.{common_steps}
use Rattle.dt_text.proofs.Cuts.{cut_at_end}
use Rattle.dt_text.proofs.lines.split_line.Goals as goal

pub returns-in-Some-clause-cut : goal.returns-in-Some-clause-cut
returns-in-Some-clause-cut c =
    let bs = c.args.bytes.now in
    let after = c.in-Some.end + 1 in
    let tail : take (length bs - after) (drop after bs) ≡ drop after bs = grind (arith, common_steps) in
    rw tail (cut_at_end bs c.in-Some.end (sym c.in-Some.ensures))
