-- Which packets of a link are lost, and which come twice. A plan says so by the number of the packet alone, counted from 1 on
-- each link: nothing is left to chance, and in every run the same numbers are lost. A lost packet does no harm where the next one arrives,
-- since that one carries all that is still missing; so it is a law here that a plan never loses two packets in a row, unless
-- it loses all. Read next: Links.antt, the ends into which packets are put and out of which they are taken.
use Rattle.std.specs.Prelude.{◌≢◌, ◌≡◌, ℕ, ◌+◌, ◌<◌}
use Rattle.std.specs.Int.{◌∣◌}
use Rattle.dt_packet.specs.declared.loss.LossPlan.{LossPlan}
use Rattle.dt_packet.specs.declared.loss.Verdict.{Verdict}
use Rattle.dt_packet.specs.declared.loss.Verdict.TheVariants.{Pass, Lost, Twice}

-- n is the last of each `step` numbers, counted from 1: `step` is above 0 and divides n
abbrev pub IsEvery : ℕ → ℕ → Type 0
IsEvery step n = (0 < step) × (step ∣ n)

-- what a plan makes of packet n: the last of every `drop` packets is lost; the last of every `repeat` packets comes twice, unless
-- it is lost; all others are put once
abbrev pub IsVerdict : LossPlan → ℕ → Verdict → Type 0
IsVerdict plan n Lost = IsEvery plan.drop n
IsVerdict plan n Twice = ¬ (IsEvery plan.drop n) × IsEvery plan.repeat n
IsVerdict plan n Pass = ¬ (IsEvery plan.drop n) × ¬ (IsEvery plan.repeat n)

-- each packet has a verdict by each plan, and no other one
abbrev pub EachHasOneVerdict : Type 0
EachHasOneVerdict = (plan : LossPlan) (n : ℕ) → (verdict : Verdict) × IsVerdict plan n verdict × ((other : Verdict) → IsVerdict plan n other → other ≡ verdict)

-- of two packets in a row at least one is not lost, unless the plan loses every packet
abbrev pub OneOfTwoIsPut : Type 0
OneOfTwoIsPut = (plan : LossPlan) (n : ℕ) → plan.drop ≢ 1 → ¬ (IsVerdict plan n Lost × IsVerdict plan (n + 1) Lost)
