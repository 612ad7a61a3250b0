use Rattle.std.proofs.Common.{◌≡◌, ◌<◌, ℕ, slice_get, vec_len}
use Rattle.dt_run.proofs.to_end.fn.with_links.scope.Given as goal

-- the links that are left stand where their numbers say
abbrev pub invariant-loop-link : goal.invariant-loop-link
invariant-loop-link g l = (k : ℕ) → k < vec_len l.links → slice_get g.N.Lending.links k ≡ slice_get l.links.items k

abbrev pub decreases-loop-link : goal.decreases-loop-link
decreases-loop-link g l = vec_len l.links
