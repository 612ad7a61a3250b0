-- Scaffolding: how helpers make turns. A helper is a thread that is kept over all phases of a run; a seat is lent to it, and taken
-- back when its turn is made. One learns here what is lent and what comes back (`LendsTurns`), when all is done as the seats tell
-- (`HaveAllDone`), and what the phases of a run leave (`HasRunOn`). Read `SeatsInner` before.
use Rattle.std.specs.Prelude.{◌≡◌, ◌≤◌, ◌↔◌, List, Bool, true, false, OnErr, OnOk, Result}
use Rattle.dt_lists.specs.Lists.{AllIn}
use Rattle.dt_proc.specs.Tree.{ProcTree}
use Rattle.dt_session.specs.Sessions.{EachNameIsAnswered}
use Rattle.dt_text.specs.declared.NoMemory.{NoMemory}
use Rattle.dt_run.specs.EndOfRun.{HasDone, IsAllDone}
use Rattle.dt_run.specs.NodesView.{NodesView}
use Rattle.dt_run.specs.Phase.{KeepsEvents}
use Rattle.dt_run.specs.SeatsInner.{SeatCan, SeatGoes, SeatView, nodes_view}
use Rattle.dt_run.specs.Silence.{MakesFewPhases, made_in}
use Rattle.dt_run.specs.declared.course.Setting.{Setting}

-- what the helpers of a run are told by its name: the seats that may be lent are those whose turn may be made, and the work is a turn
pub record LendsTurns (procs : List ProcTree) (can : SeatView → Type 0) (goes : SeatView → SeatView → Type 0) : Type 0 where
  pub can_turn : (s : SeatView) → can s ↔ SeatCan procs s
  pub goes_on : (s t : SeatView) → goes s t ↔ SeatGoes procs s t

-- every call is answered, and every region has executed all that every region submitted, as the seats tell
pub record HaveAllDone (seats : List SeatView) : Type 0 where
  pub answered : AllIn (λ s. EachNameIsAnswered s.node.sessions) seats
  pub executed : AllIn (λ source. AllIn (λ s. HasDone s.node source.node) seats) seats

-- the nodes of a run that has come so far, as callers see them
abbrev pub nodes_of : Setting → List SeatView → Bool → NodesView
nodes_of setting seats broken = nodes_view setting.cluster setting.workload seats broken

-- phases were made until all was done, or until one ran out of memory
pub record HasRunOn (before after : NodesView) (result : Result (Unit {0}) NoMemory) : Type 0 where
  pub kept : KeepsEvents before after
  pub sound : OnOk result (after.broken ≡ false)
  pub done : OnOk result (IsAllDone after)
  pub failed : OnErr result (after.broken ≡ true)
  pub some : OnOk result (1 ≤ made_in after)
  pub phases : OnOk result (MakesFewPhases before after)
