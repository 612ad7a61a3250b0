-- The pseudo-random numbers behind a generated load. They are drawn one after another from a state, each state following from
-- the one before, so that the same number of calls always gives the same load. Read next: Load, for what is made of them.
use Rattle.std.specs.Prelude.{ℕ, zero, suc, ◌+◌, ◌*◌, ◌/◌, ◌%◌}

-- the state that follows a state
abbrev pub next_state : ℕ → ℕ
next_state state = (state * 1103515245 + 12345) % 2147483648

-- the state after n draws; it begins at 1
abbrev pub state_after : ℕ → ℕ
state_after zero = 1
state_after (suc n) = next_state (state_after n)

-- the number that stands in the upper bits of a state
abbrev pub number_of_state : ℕ → ℕ
number_of_state state = state / 65536

-- the number that draw n gives, counted from 0: each draw goes on to the next state, and gives the number of that
abbrev pub drawn : ℕ → ℕ
drawn n = number_of_state (state_after (n + 1))
