use Rattle.std.proofs.Common.{◌∙◌, refl, sym}
use Rattle.std.proofs.lemmas.Bool.{true≢false}
use Rattle.dt_txn.proofs.PartKeys.{next_ascends, own_entry}
use Rattle.dt_txn.proofs.placement.keys_at.Goals as goal
use Rattle.dt_txn.proofs.placement.keys_at.Goals.{in-Move, in_default, then-is_move-via-then-is_move, then-is_move-via-else-is_move+then-entry-home}

pub push-requires : goal.push-requires
push-requires c =
    rw (c.in_ok-copy.ensures.same) (next_ascends c.args.body.now c.args.home c.args.access.now c.loop-entry.keys c.entry-item.result c.loop-entry.entry-index
    (elim c.then-is_move.branch [
      | then-is_move-via-then-is_move v ↦ elim c.match-matches.branch [
        | in-Move w ↦ λ rest. rw (w.in-Move.is) refl
        | in_default w ↦ absurd (true≢false (sym v.if-is_move.true ∙ w.matches-is))
      ]
      | then-is_move-via-else-is_move+then-entry-home w ↦ own_entry _ _ _ w.if-entry-home.true
    ])
    c.loop-entry.invariant c.loop-entry-test.true c.entry-item.is c.requires)
