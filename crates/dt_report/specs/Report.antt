-- The text of a report: its sections, each made of lines of words. One learns here what `replay` and `run` print: the
-- answers, the executed attempts in the one serial order, the table of each region, and the events, so that a run can be
-- replayed from its report. Read next Laws.antt, which says that the text determines the events.
use Rattle.std.specs.Prelude.{ℕ, ◌+◌, List, [], ◌∷◌, ◌++◌, map, flat_map, codes, Option, Some, None}
use Rattle.std.specs.Fmt.{decimal}
use Rattle.std.specs.List.{join_with_byte}
use Rattle.dt_text.specs.Printed.{text_word, value_text}
use Rattle.dt_text.specs.declared.Value.{Value}
use Rattle.dt_access.specs.Ids.{id_text}
use Rattle.dt_events.specs.Events.{event_line}
use Rattle.dt_events.specs.declared.Event.{Event}
use Rattle.dt_eval.specs.declared.Cause.{Cause}
use Rattle.dt_eval.specs.declared.Cause.TheVariants.{Word, Overflow, Zero, Kind, Long}
use Rattle.dt_table.specs.declared.Shown.{Shown}
use Rattle.dt_txn.specs.declared.Outcome.{Outcome}
use Rattle.dt_txn.specs.declared.Outcome.TheVariants.{Gave, Aborted, Stale}
use Rattle.dt_report.specs.declared.report.Reply.{Reply}
use Rattle.dt_report.specs.declared.report.Ran.{Ran}
use Rattle.dt_report.specs.declared.report.Report.{Report}

-- a line of words: one space between each two, and the byte that ends it
abbrev pub line_of : List (List ℕ) → List ℕ
line_of words = join_with_byte 32 words ++ 10 ∷ []

-- a value is printed as the number or the text word, and where there is none, as `none`
abbrev pub value_word : Option Value → List ℕ
value_word None = codes "none"
value_word (Some value) = value_text value

-- why a procedure aborted: the text that it gave, as a text word, or the name of the cause
abbrev pub cause_word : Cause → List ℕ
cause_word (Word text) = text_word text
cause_word Overflow = codes "overflow"
cause_word Zero = codes "zero"
cause_word Kind = codes "kind"
cause_word Long = codes "long"

-- an outcome: `done` with the values that were given, `abort` with its cause, or `stale` with the unit that was moved (a
-- key, in version 2 of a cluster a granule), how many moves of it were known, and the id of the mover
abbrev pub outcome_words : Outcome → List (List ℕ)
outcome_words (Gave values) = codes "done" ∷ map value_word values
outcome_words (Aborted cause) = codes "abort" ∷ cause_word cause ∷ []
outcome_words (Stale key had by) = codes "stale" ∷ key ∷ codes "had" ∷ decimal had ∷ codes "by" ∷ id_text by ∷ []

-- the answer to a session's call
abbrev pub reply_line : Reply → List ℕ
reply_line reply = line_of (codes "reply" ∷ reply.session ∷ decimal reply.call ∷ outcome_words reply.outcome)

-- an executed attempt: its id, whose call and which attempt of it this was, and its outcome
abbrev pub ran_line : Ran → List ℕ
ran_line ran = line_of (id_text ran.id ∷ ran.session ∷ decimal ran.call ∷ decimal ran.attempt ∷ outcome_words ran.outcome)

-- a row: its value, its home and how often it was moved
abbrev pub row_line : Shown → List ℕ
row_line row = line_of
    (row.key ∷ codes "=" ∷ value_word row.value ∷ codes "home" ∷ decimal row.home ∷ codes "moves" ∷ decimal row.moves ∷ [])

-- the answers, in their order
abbrev pub replies_text : List Reply → List ℕ
replies_text replies = line_of (codes "replies" ∷ []) ++ flat_map reply_line replies

-- the executed attempts, in the serial order
abbrev pub order_text : List Ran → List ℕ
order_text order = line_of (codes "order" ∷ []) ++ flat_map ran_line order

-- the table of a region
abbrev pub table_text : ℕ → List Shown → List ℕ
table_text region rows = line_of (codes "table" ∷ decimal region ∷ []) ++ flat_map row_line rows

-- the tables of the regions from this one on, in ascending order
abbrev pub tables_text : ℕ → List (List Shown) → List ℕ
tables_text region [] = []
tables_text region (rows ∷ tables) = table_text region rows ++ tables_text (region + 1) tables

-- the events, each on its line
abbrev pub events_text : List Event → List ℕ
events_text events = line_of (codes "events" ∷ []) ++ flat_map event_line events

-- a report: the answers, the executed attempts, the table of each region, the events
abbrev pub report_text : Report → List ℕ
report_text report =
    replies_text report.replies ++ (order_text report.order ++ (tables_text 0 report.tables ++ events_text report.events))
