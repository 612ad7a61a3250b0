-- The sessions of one region, as their keeper sees them: each with its calls, how many of these are answered, and the
-- attempt that it waits for, with the number of that attempt. One learns here which session may go on (`MayGo`,
-- `MayBeAnswered`, in the words of `Tries`), and what submitting an attempt (`after_wait`) and being answered
-- (`after_answer`) change. No world is mentioned: whoever asks supplies the outcome of the attempt that is waited for.
-- Read next: src/sessions.rt, the keeper; `Step` asks the same of a whole world.
use Rattle.std.specs.Prelude.{◌≡◌, ◌<◌, ◌≤◌, ◌+◌, ◌-◌, ◌^◌, ℕ, List, length, map, slice_get, Bool, Option, Some, None, option_map, option_and_then}
use Rattle.std.specs.Ordering.{nat_cmp, is_eq}
use Rattle.std.specs.Cmp.Lexicographic.{slice_cmp}
use Rattle.std.specs.Map.{lookup, set_value}
use Rattle.dt_lists.specs.Lists.{AllIn}
use Rattle.dt_access.specs.Clash.{Bytes}
use Rattle.dt_access.specs.Orders.{HasAscendingKeys}
use Rattle.dt_access.specs.declared.TxnId.{TxnId}
use Rattle.dt_txn.specs.declared.Outcome.{Outcome}
use Rattle.dt_workload.specs.declared.Session.{Session}
use Rattle.dt_workload.specs.declared.Ranked.{Ranked}
use Rattle.dt_workload.specs.declared.Workload.{Workload}
use Rattle.dt_session.specs.declared.sessions.Seat.{Seat}
use Rattle.dt_session.specs.declared.sessions.Waiting.{Waiting}
use Rattle.dt_session.specs.Eager.{sessions_at}
use Rattle.dt_session.specs.Tries.{Awaited, MayEnd, MayTry, attempt_after}

-- the sessions of a region: how often a call may be tried, and of each session, in byte order of names, its name, and what it
-- wants with where it stands
pub record SessionsView : Type 0 where
  pub tries : ℕ
  pub seats : List (Bytes × Seat)

-- a session before its first call
abbrev pub idle_seat : Session → Bytes × Seat
idle_seat session = (session.name, record { calls = session.calls; answered = 0; waits = None })

-- the sessions of a region before their first calls
abbrev pub all_idle : ℕ → ℕ → Workload → SessionsView
all_idle tries region workload = record { tries = tries; seats = map idle_seat (sessions_at region workload.sessions) }

-- whether a name is this one
abbrev pub is_named : Bytes → Bytes → Bool
is_named name other = is_eq (slice_cmp nat_cmp name other)

-- the session of a name, if it is here
abbrev pub seat_of : SessionsView → Bytes → Option Seat
seat_of s name = lookup (is_named name) s.seats

-- at this place, from 0, in byte order of names, stands the session of this name
abbrev pub StandsAt : SessionsView → ℕ → Bytes → Type 0
StandsAt s index name = slice_get (map (λ p. p.0) s.seats) index ≡ Some name

-- the attempt that a session waits for, if it does, with the outcome that is supplied for it
abbrev pub awaited_in : Seat → Option Outcome → Option Awaited
awaited_in seat last = option_map (λ w. record { attempt = w.attempt; outcome = last }) seat.waits

-- there is such a session here, and it may try
abbrev pub MaySeatTry : ℕ → Option Seat → Option Outcome → Type 0
MaySeatTry tries None last = ⊥
MaySeatTry tries (Some seat) last = MayTry tries (length seat.calls) seat.answered (awaited_in seat last)

-- the session of a name may submit an attempt, where the attempt that it waits for, if it waits for one, has this outcome
-- here
abbrev pub MayGo : SessionsView → Bytes → Option Outcome → Type 0
MayGo s name last = MaySeatTry s.tries (seat_of s name) last

-- the number of the attempt that a session may make next
abbrev pub attempt_next : Seat → ℕ
attempt_next seat = attempt_after (option_map (λ w. w.attempt) seat.waits)

-- what comes next for a session: the number of its call, and that of the attempt
abbrev pub numbers_next : Seat → ℕ × ℕ
numbers_next seat = (seat.answered + 1, attempt_next seat)

-- what a session may submit next; none exactly where it may submit nothing
abbrev pub IsNext : SessionsView → Bytes → Option Outcome → Option (ℕ × ℕ) → Type 0
IsNext s name last None = ¬ (MayGo s name last)
IsNext s name last (Some numbers) = MayGo s name last × (option_map numbers_next (seat_of s name) ≡ Some numbers)

-- there is such a session here, and it may be answered
abbrev pub MaySeatEnd : ℕ → Option Seat → Option Outcome → Type 0
MaySeatEnd tries None last = ⊥
MaySeatEnd tries (Some seat) last = MayEnd tries (awaited_in seat last)

-- the session of a name may be answered, where the attempt that it waits for has this outcome here
abbrev pub MayBeAnswered : SessionsView → Bytes → Option Outcome → Type 0
MayBeAnswered s name last = MaySeatEnd s.tries (seat_of s name) last

-- a session that waits for its next attempt, under this id
abbrev pub waiting : Seat → TxnId → Seat
waiting seat id = record seat { waits = Some (record { id = id; attempt = attempt_next seat }) }

-- a session that was answered: it waits for nothing, before its next call
abbrev pub answered_seat : Seat → Seat
answered_seat seat = record seat { answered = seat.answered + 1; waits = None }

-- the sessions with the one of a name changed, if it is here
abbrev pub with_changed : (Seat → Seat) → SessionsView → Bytes → Option Seat → SessionsView
with_changed change s name None = s
with_changed change s name (Some seat) = record s { seats = set_value (is_named name) s.seats (change seat) }

-- the sessions after the one of a name submitted its next attempt, under this id
abbrev pub after_wait : SessionsView → Bytes → TxnId → SessionsView
after_wait s name id = with_changed (λ seat. waiting seat id) s name (seat_of s name)

-- the sessions after the one of a name was answered
abbrev pub after_answer : SessionsView → Bytes → SessionsView
after_answer s name = with_changed answered_seat s name (seat_of s name)

-- the attempt that the session of a name waits for; none exactly where it is idle or not here
abbrev pub waits_of : SessionsView → Bytes → Option TxnId
waits_of s name = option_and_then (λ (seat : Seat). option_map (λ (w : Waiting). w.id) seat.waits) (seat_of s name)

-- the call of this number, from 1, of the session of a name, with its rank, if there are both
abbrev pub wanted_of : SessionsView → Bytes → ℕ → Option Ranked
wanted_of s name call = option_and_then (λ (seat : Seat). slice_get seat.calls (call - 1)) (seat_of s name)

-- every call of every session is answered
abbrev pub AreAllAnswered : SessionsView → Type 0
AreAllAnswered s = AllIn (λ p. p.1.answered ≡ length p.1.calls) s.seats

-- where a session with n calls can stand: while it waits, at one of its calls, so not all of them are answered;
-- while it is idle, before one of them or behind the last
abbrev pub StandsWithin : ℕ → ℕ → Option Waiting → Type 0
StandsWithin calls answered None = answered ≤ calls
StandsWithin calls answered (Some waiting) = answered < calls

-- what the type keeps of each session: its calls are counted by 32 bits, and it stands where it can
pub record IsSoundSeat (seat : Seat) : Type 0 where
  pub few : length seat.calls < 2 ^ 32
  pub within : StandsWithin (length seat.calls) seat.answered seat.waits

-- what the type keeps of all sessions: their places are counted by 32 bits, and they stand in byte order of their names, so
-- that no two have one name
pub record AreSoundSeats (seats : List (Bytes × Seat)) : Type 0 where
  pub few : length seats < 2 ^ 32
  pub ascending : HasAscendingKeys seats
  pub each : AllIn (λ p. IsSoundSeat p.1) seats

-- each session that a name finds has all its calls answered
abbrev pub EachNameIsAnswered : SessionsView → Type 0
EachNameIsAnswered s = (name : Bytes) (seat : Seat) → seat_of s name ≡ Some seat → seat.answered ≡ length seat.calls
