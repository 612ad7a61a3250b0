-- When a number is the last of each n, and that of two numbers in a row one is not.
use Rattle.std.proofs.Common.{◌≡◌, ◌∙◌, ◌↔◌, IsTrue, ℕ, ◌+◌, ◌-◌, ◌%◌, ◌<◌, ◌≤◌, nat_eq, ap, subst, sym, arith}
use Rattle.std.specs.Int.{◌∣◌}
use Rattle.std.proofs.lemmas.Bool.{eq-eqb, eqb-true}
use Rattle.std.proofs.Math.Nat.{dvd_of_mod-eq-zero, mod-eq-zero_of_dvd, dvd-sub, eq-one_of_dvd-one}
use Rattle.dt_lists.specs.Lists.{Either}
use Rattle.dt_lists.proofs.Callers.{either_and, either_le, either_nat, either_same}
use Rattle.dt_packet.specs.Loss.{IsEvery}

-- a number is the last of n just where nothing is left over
pub told_by_rest : (step n by : ℕ) → 0 < step → by ≡ step → IsTrue (nat_eq (n % by) 0) ↔ IsEvery step n
told_by_rest step n by above same =
    let rest : n % by ≡ n % step = ap (λ m. n % m) same in
    (λ none. (above, dvd_of_mod-eq-zero step (sym rest ∙ eqb-true (n % by) 0 none)), λ every. eq-eqb (n % by) 0 (rest ∙ mod-eq-zero_of_dvd step every.1))

-- whether a number is the last of n is decided
pub either_every : (step n : ℕ) → Either (IsEvery step n)
either_every step n =
    either_and (0 < step) (step ∣ n) (either_same (1 ≤ step) (0 < step) (λ h. omega (arith, h)) (λ h. omega (arith, h)) (either_le 1 step))
    (either_same (n % step ≡ 0) (step ∣ n) (λ e. dvd_of_mod-eq-zero step e) (λ d. mod-eq-zero_of_dvd step d) (either_nat (n % step) 0))

-- of two numbers in a row only 1 divides both
pub one_divides_both : (step n : ℕ) → step ∣ n → step ∣ n + 1 → step ≡ 1
one_divides_both step n here next =
    let apart : n + 1 - n ≡ 1 = omega arith in
    eq-one_of_dvd-one (subst (λ m. step ∣ m) apart (dvd-sub step next here))
