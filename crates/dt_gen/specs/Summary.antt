-- What is reported of a run of the generated load: three lines, with the number of its calls, the number of answers that were given,
-- and the sum of the rows of region 0. The last two are read off the report of the run. Of a finished run they are known beforehand,
-- since each call is answered once and no money is made or lost; so one learns here what `big` writes (`big_text`). Read next:
-- Laws, among which is that a finished run has this summary.
use Rattle.std.specs.Prelude.{ℕ, ℤ, pos, ◌+ℤ◌, Bool, true, false, List, [], ◌∷◌, ◌++◌, codes, count_by, get_or, Option, Some}
use Rattle.std.specs.List.{fold}
use Rattle.std.specs.Fmt.{decimal, signed_decimal}
use Rattle.dt_text.specs.Texts.{Bytes}
use Rattle.dt_text.specs.declared.Value.{Value}
use Rattle.dt_text.specs.declared.Value.TheVariants.{Int}
use Rattle.dt_events.specs.declared.Event.{Event}
use Rattle.dt_events.specs.declared.Event.TheVariants.{Answer}
use Rattle.dt_events.specs.declared.Stamped.{Stamped}
use Rattle.dt_table.specs.declared.Shown.{Shown}
use Rattle.dt_report.specs.Report.{line_of}
use Rattle.dt_report.specs.declared.Report.{Report}

-- whether an event answers a session
abbrev pub is_answer : Event → Bool
is_answer (Answer region session) = true
is_answer event = false

-- how many of the events answer a session
abbrev pub answer_count : List Event → ℕ
answer_count events = count_by is_answer events

-- how many of the events that a region keeps answer a session
abbrev pub kept_answers : List Stamped → ℕ
kept_answers kept = count_by (λ x. is_answer x.event) kept

-- the number that a row has, which may be negative; 0 where it has none
abbrev pub number_of_row : Option Value → ℤ
number_of_row (Some (Int z)) = z
number_of_row _ = pos 0

-- the sum of the numbers of rows that a report shows
abbrev pub row_sum : List Shown → ℤ
row_sum rows = fold (λ sum row. sum +ℤ number_of_row row.value) (pos 0) rows

-- the rows that a report shows of region 0
abbrev pub first_rows : Report → List Shown
first_rows report = get_or report.tables 0 []

-- the three lines, for these numbers of calls and answers and this sum
abbrev pub summary_text : ℕ → ℕ → ℤ → Bytes
summary_text calls answers sum =
    line_of (codes "calls" ∷ decimal calls ∷ []) ++ (line_of (codes "answers" ∷ decimal answers ∷ []) ++ line_of (codes "sum" ∷ signed_decimal sum ∷ []))

-- what is reported of a run of n calls, by its report
abbrev pub summary_of : ℕ → Report → Bytes
summary_of calls report = summary_text calls (answer_count report.events) (row_sum (first_rows report))

-- what is reported of a finished run of the load of n calls
abbrev pub big_text : ℕ → Bytes
big_text calls = summary_text calls calls (pos 100000)
