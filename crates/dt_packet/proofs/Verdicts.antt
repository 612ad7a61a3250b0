-- Each packet has one verdict, and of two packets in a row at least one is put.
use Rattle.std.proofs.Common.{◌≡◌, ℕ, inl, inr, refl}
use Rattle.dt_lists.specs.Lists.{Either}
use Rattle.dt_packet.specs.declared.loss.LossPlan.{LossPlan}
use Rattle.dt_packet.specs.declared.loss.Verdict.{Verdict}
use Rattle.dt_packet.specs.declared.loss.Verdict.TheVariants.{Pass, Lost, Twice}
use Rattle.dt_packet.specs.Loss.{EachHasOneVerdict, IsEvery, IsVerdict, OneOfTwoIsPut}
use Rattle.dt_packet.proofs.Divisors.{either_every, one_divides_both}

only_lost : (plan : LossPlan) (n : ℕ) → IsEvery plan.drop n → (other : Verdict) → IsVerdict plan n other → other ≡ Lost
only_lost plan n dropped Lost is = refl
only_lost plan n dropped Twice is = absurd (is.0 dropped)
only_lost plan n dropped Pass is = absurd (is.0 dropped)

only_twice : (plan : LossPlan) (n : ℕ) → ¬ (IsEvery plan.drop n) → IsEvery plan.repeat n → (other : Verdict) → IsVerdict plan n other → other ≡ Twice
only_twice plan n kept repeated Lost is = absurd (kept is)
only_twice plan n kept repeated Twice is = refl
only_twice plan n kept repeated Pass is = absurd (is.1 repeated)

only_pass : (plan : LossPlan) (n : ℕ) → ¬ (IsEvery plan.drop n) → ¬ (IsEvery plan.repeat n) → (other : Verdict) → IsVerdict plan n other → other ≡ Pass
only_pass plan n kept once Lost is = absurd (kept is)
only_pass plan n kept once Twice is = absurd (once is.1)
only_pass plan n kept once Pass is = refl

-- a packet has a verdict by a plan, and no other one
pub one_verdict : EachHasOneVerdict
one_verdict plan n = by (either_every plan.drop n) (either_every plan.repeat n)
  where
    by : Either (IsEvery plan.drop n) → Either (IsEvery plan.repeat n)
        → (verdict : Verdict) × IsVerdict plan n verdict × ((other : Verdict) → IsVerdict plan n other → other ≡ verdict)
    by (inl dropped) repeats = (Lost, dropped, only_lost plan n dropped)
    by (inr kept) (inl repeated) = (Twice, (kept, repeated), only_twice plan n kept repeated)
    by (inr kept) (inr once) = (Pass, (kept, once), only_pass plan n kept once)

-- of two packets in a row at least one is not lost, unless the plan loses all
pub one_of_two : OneOfTwoIsPut
one_of_two plan n some lost = some (one_divides_both plan.drop n lost.0.1 lost.1.1)
