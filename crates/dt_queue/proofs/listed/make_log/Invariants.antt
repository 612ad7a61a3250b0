use Rattle.std.proofs.Common.{◌≡◌, ◌+◌, ◌-◌, ℕ, [], get_or, map, vec_len}
use Rattle.dt_queue.proofs.listed.make_log.Given as goal

abbrev pub invariant-loop-alloc : goal.invariant-loop-alloc
invariant-loop-alloc l = (g : ℕ) → get_or (map (λ x. x.listings.items) l.logs.items) g [] ≡ get_or (map (λ x. x.listings.items) l.initial.logs.items) g []

abbrev pub decreases-loop-alloc : goal.decreases-loop-alloc
decreases-loop-alloc l = l.granule + 1 - vec_len l.logs
