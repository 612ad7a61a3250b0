use Rattle.std.proofs.Common.{◌<◌, ◌∷◌, List, ℕ, length, subst, sym, arith}
use Rattle.std.specs.Vec.{vec_len}
use Rattle.dt_lists.specs.Lists.{AllIn}
use Rattle.dt_region.proofs.requests.+ask.Goals as goal

pub ask-requires : goal.ask-requires
ask-requires n c =
    let falls = c.decreases in
    let less = c.in-Some.ensures.cases.1 in
    let shorter : length c.in-Some.others.now < n = omega (arith, falls, less) in
    let all : AllIn (λ home. home < vec_len c.args.asked.now) (c.in-Some.home.now ∷ c.in-Some.others.now) = subst (λ (l : List ℕ). AllIn (λ home. home < vec_len c.args.asked.now) l) c.in-Some.ensures.cases.0 c.requires in
    (shorter, subst (λ m. AllIn (λ home. home < m) c.in-Some.others.now) (sym c.in_ok-ask_one.ensures.len) all.1)
