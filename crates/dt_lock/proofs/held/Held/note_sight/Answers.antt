use Rattle.std.proofs.Common.{◌≡◌, [], ◌∷◌, ◌++◌, ap₂, subst, ◌∙◌}
use Rattle.dt_lock.specs.Held.{HeldView, IsClaimed}
use Rattle.dt_lock.proofs.FewClaims.{one_more_fits}
use Rattle.dt_lock.proofs.HeldSteps.{claim_noted, is_claim, is_claimed, may_claim}
use Rattle.dt_lock.proofs.held.Held.note_sight.Given.{Over}
use Rattle.dt_lock.proofs.held.Held.note_sight.Goals as goal
use Rattle.dt_lock.proofs.held.Held.note_sight.Goals.{After-note}

-- the claim is noted behind the others
noted : (g : Over) (c : After-note g) → c.note.new.running.items ≡ c.self.inside.running.items ++ record { id = c.args.id; seen = c.args.seen.now } ∷ []
noted g c = c.note.ensures ∙ ap₂ (λ l s. l ++ record { id = c.args.id; seen = s } ∷ []) c.make_room.ensures.noted c.in_ok-noted.ensures

pub make_room-requires : goal.make_room-requires
make_room-requires g c =
    let may = may_claim {before = g.N.Named.before} c.self.view_is c.requires.executable c.requires.free c.requires.held c.requires.seen in
    one_more_fits g.N.Named.procs g.N.Named.before _ c.self.invariant may

pub invariant_of-self-2 : goal.invariant_of-self-2
invariant_of-self-2 g c =
    let may = may_claim {before = g.N.Named.before} c.self.view_is c.requires.executable c.requires.free c.requires.held c.requires.seen in
    claim_noted g.N.Named.procs g.N.Named.before _ c.self.invariant may c.make_room.new.region c.note.new.running.items
    c.in_ok-make_room.ensures.ok
    (noted g (goal.at.invariant_of-self-2 g c).After-note)

pub returns-clause-claim : goal.returns-clause-claim
returns-clause-claim g c =
    let may = may_claim {before = g.N.Named.before} c.self.view_is c.requires.executable c.requires.free c.requires.held c.requires.seen in
    is_claim g.N.Named.procs g.N.Named.before _ c.self.invariant may

pub returns-clause-ok : goal.returns-clause-ok
returns-clause-ok g c =
    let may = may_claim {before = g.N.Named.before} c.self.view_is c.requires.executable c.requires.free c.requires.held c.requires.seen in
    let claimed = is_claimed g.N.Named.procs g.N.Named.before _ c.self.invariant may c.make_room.new.region c.note.new.running.items
    c.in_ok-make_room.ensures.ok
    (noted g (goal.at.returns-clause-ok g c).After-note) in
    subst (λ (h : HeldView). IsClaimed h (record { txn = c.args.txn.now; seen = c.args.seen.now }) (record { region = c.make_room.new.region; running = c.note.new.running.items })) c.self.view_is claimed
