-- The plain scheduler keeps what was inserted, resolved and done, and nothing else: it gathers the graph anew for each
-- answer. So it is seen as what every scheduler is seen as (`Sched` of dt_sched), and beside it how much room it has.
-- Read `Sched` before. Read next: `GraphsInner`, for the graph that it gathers.
use Rattle.std.specs.Prelude.{ℕ}
use Rattle.dt_sched.specs.Sched.{Sched}

-- a plain scheduler: what every scheduler is seen as, and the number of ids that it can finish without taking memory
pub record PlainSchedView : Type 0 where
  pub seen : Sched
  pub spare : ℕ
