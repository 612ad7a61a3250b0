use Rattle.std.proofs.Common.{◌↔◌, ◌<◌, drop}
use Rattle.dt_lists.specs.Lists.{AllIn}
use Rattle.dt_test_texts.proofs.homes.are_below.Given as goal

abbrev pub invariant-loop-home : goal.invariant-loop-home
invariant-loop-home l = AllIn (λ home. home < l.count) (drop l.home-index l.homes) ↔ AllIn (λ home. home < l.count) l.homes
