use Rattle.std.proofs.Common.{◌≡◌, drop}
use Rattle.dt_lists.specs.Lists.{AnyIn}
use Rattle.dt_eval.specs.Keys.{key_text}
use Rattle.dt_eval.proofs.places.place_of.Given as goal

-- the key is among the reads that are left
abbrev pub invariant-loop-place : goal.invariant-loop-place
invariant-loop-place l = AnyIn (λ r. r.0 ≡ key_text l.args l.items) (drop l.place l.reads)
