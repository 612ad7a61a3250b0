-- What tables show that are lent and not listed first: one learns here what `put_all_shown` writes of the tables of all regions,
-- row by row, since a list of all rows would take much memory. Read next: Report.antt, for their text.
use Rattle.std.specs.Prelude.{List, map}
use Rattle.std.specs.Borrow.{Bor}
use Rattle.dt_table.specs.Table.{TableView, shown}
use Rattle.dt_table.specs.declared.shown.Shown.{Shown}

-- what each of some tables, which are lent, shows
abbrev pub all_shown : List (Bor TableView) → List (List Shown)
all_shown tables = map (λ table. shown table.now.state) tables
