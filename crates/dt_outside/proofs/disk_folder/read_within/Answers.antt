use Rattle.std.proofs.Common.{◌≡◌, ◌<◌, IfSome, length, arith, subst}
use Rattle.dt_outside.proofs.Retries.{all_within}
use Rattle.dt_outside.proofs.disk_folder.read_within.Goals as goal

-- no more than the limit was given, where one byte more was asked for
pub returns-clause-whole : goal.returns-clause-whole
returns-clause-whole g c =
    let few : length c.read_to_end.new.buf.items < c.take.result.limit =
    omega (arith, c.take.ensures.limit, c.saturating_add.ensures, c.len.ensures, c.if-len-limit.false, c.read_to_end.new.buf.small, c.read_to_end.new.buf.ok) in
    subst (λ reader. IfSome (g.R.Read.remaining reader) (λ all. c.read_to_end.new.buf.items ≡ all)) c.take.ensures.inner
    (all_within _ c.take.result.limit c.read_to_end.new.buf.items (rw c.new-bytes.ensures.items at c.in_ok-read_to_end.ensures.bytes) few)
