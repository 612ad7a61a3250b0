use Rattle.std.proofs.Common.{sym, ap, subst, ◌∙◌}
use Rattle.dt_region.proofs.Callers.{held_id}
use Rattle.dt_lock.specs.Claims.{ClaimView}
use Rattle.dt_lock.specs.Held.{IsClaimed}
use Rattle.dt_lock.proofs.held.Held.claim_id.Goals as goal

pub returns-clause-ok : goal.returns-clause-ok
returns-clause-ok g c = subst (λ (k : ClaimView). IsClaimed c.args.self.now k c.note_sight.new.self) (sym c.new.ensures) c.in_ok-note_sight.ensures.ok

pub returns-clause-id : goal.returns-clause-id
returns-clause-id g c = ap (λ (k : ClaimView). k.txn.id) c.new.ensures ∙ held_id g.N.Named.before.state c.args.id c.in_ok-txn.txn c.in_ok-txn.ensures.held
