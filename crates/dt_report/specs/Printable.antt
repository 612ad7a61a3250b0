-- What the parts of a report are: its sessions are names, its keys are keys, its texts are texts, its numbers have 64 bits
-- at most, and its events are such as a line can have. Every report that the program makes is so, by the types of its
-- parts. One needs it to read a report's text: a session with a line end in its name could write what it likes. Read
-- next Laws.antt.
use Rattle.std.specs.Prelude.{ℕ, ◌<◌, ◌≤◌, ◌^◌, length, Option, MatchOption}
use Rattle.dt_lists.specs.Lists.{AllIn}
use Rattle.dt_text.specs.Texts.{IsKey, IsName, IsStr}
use Rattle.dt_text.specs.Values.{IsRowValue}
use Rattle.dt_text.specs.declared.Value.{Value}
use Rattle.dt_access.specs.declared.TxnId.{TxnId}
use Rattle.dt_events.specs.Events.{IsWritten}
use Rattle.dt_events.specs.declared.Event.{Event}
use Rattle.dt_events.specs.declared.Event.TheVariants.{Resolve, Execute}
use Rattle.dt_eval.specs.declared.Cause.{Cause}
use Rattle.dt_eval.specs.declared.Cause.TheVariants.{Word}
use Rattle.dt_table.specs.declared.Shown.{Shown}
use Rattle.dt_txn.specs.declared.Outcome.{Outcome}
use Rattle.dt_txn.specs.declared.Outcome.TheVariants.{Gave, Aborted, Stale}
use Rattle.dt_report.specs.declared.report.Reply.{Reply}
use Rattle.dt_report.specs.declared.report.Ran.{Ran}
use Rattle.dt_report.specs.declared.report.Report.{Report}

-- a number of at most 64 bits
abbrev pub IsNumber : ℕ → Type 0
IsNumber n = n < 2 ^ 64

-- the two numbers of an id have 64 bits at most
abbrev pub IsPrintableId : TxnId → Type 0
IsPrintableId id = IsNumber id.seq × IsNumber id.region

-- there is no value, or one that a row may have
abbrev pub MayBePrinted : Option Value → Type 0
MayBePrinted value = MatchOption value (Unit {0}) IsRowValue

-- the word of a procedure that aborted is a text
abbrev pub IsPrintableCause : Cause → Type 0
IsPrintableCause (Word text) = IsStr text
IsPrintableCause cause = Unit {0}

-- an outcome of such parts
abbrev pub IsPrintableOutcome : Outcome → Type 0
IsPrintableOutcome (Gave values) = AllIn MayBePrinted values
IsPrintableOutcome (Aborted cause) = IsPrintableCause cause
IsPrintableOutcome (Stale key had by) = IsKey key × IsNumber had × IsPrintableId by

-- an answer to a session
abbrev pub IsPrintableReply : Reply → Type 0
IsPrintableReply reply = IsName reply.session × IsNumber reply.call × IsPrintableOutcome reply.outcome

-- an executed attempt
abbrev pub IsPrintableRan : Ran → Type 0
IsPrintableRan ran =
    IsPrintableId ran.id × IsName ran.session × IsNumber ran.call × IsNumber ran.attempt × IsPrintableOutcome ran.outcome

-- a row of a table
abbrev pub IsPrintableRow : Shown → Type 0
IsPrintableRow row = IsKey row.key × MayBePrinted row.value × IsNumber row.home × IsNumber row.moves

-- the number of an id has 32 bits, and that of its region 8
abbrev pub IsSmallId : TxnId → Type 0
IsSmallId id = (id.seq < 2 ^ 32) × (id.region < 2 ^ 8)

-- an event's ids are counted from 1, and a resolved group has two or more of them, as in each event that is legal
abbrev pub HasCountedIds : Event → Type 0
HasCountedIds (Resolve region ids) = (2 ≤ length ids) × AllIn (λ id. 0 < id.seq) ids
HasCountedIds (Execute region id) = 0 < id.seq
HasCountedIds event = Unit {0}

-- a report of such parts; its events are such as a line can have
pub record IsPrintable (report : Report) : Type 0 where
  pub replies : AllIn IsPrintableReply report.replies
  pub order : AllIn IsPrintableRan report.order
  pub regions : IsNumber (length report.tables)
  pub tables : AllIn (AllIn IsPrintableRow) report.tables
  pub events : AllIn IsWritten report.events
