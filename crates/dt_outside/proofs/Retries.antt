-- What a reader gave up to a limit.
use Rattle.std.proofs.Common.{◌≡◌, ℕ, ◌<◌, List, take, length, Option, None, Some, IfSome, ◌∙◌, ap, arith}
use Rattle.std.proofs.lemmas.List.{length-take, take_all}
use Rattle.std.specs.Option.{option_map}

-- fewer bytes than were asked for are all that there were
pub all_within : (known : Option (List ℕ)) (n : ℕ) (bytes : List ℕ) → IfSome (option_map (take n) known) (λ front. bytes ≡ front) → length bytes < n → IfSome known (λ all. bytes ≡ all)
all_within None n bytes is few = tt
all_within (Some all) n bytes is few = is ∙ take_all n all (omega (arith, few, ap length is, length-take n all))
