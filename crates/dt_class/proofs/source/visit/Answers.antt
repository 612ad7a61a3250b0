use Rattle.std.proofs.Common.{◌∙◌, sym, true≢false}
use Rattle.dt_class.proofs.Scan.{followed_still, goes_on}
use Rattle.dt_class.proofs.source.visit.Goals as goal

pub spread-requires-clause-followed : goal.spread-requires-clause-followed
spread-requires-clause-followed c = rw c.len-place.ensures (followed_still _ _ _ _ _ c.requires.closed c.in_ok-add.ensures)

pub returns : goal.returns
returns c = (
  λ h. true≢false (sym ((c.requires.once.members c.args.vertex).1 h) ∙ sym c.has.ensures ∙ c.if-has.false),
  goes_on _ _ _ _ _ _ c.requires.closed c.in_ok-add.ensures c.in_ok-spread.ensures,
)
