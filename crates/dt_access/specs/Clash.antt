-- When two uses of rows clash. Of two transactions that use one row, where one of them does more than read it, the order
-- matters; so it does where one takes a granule as a whole and the other uses a row of it. Of all others it does not. So
-- a graph of what has to wait for what has its edges just where parts clash. Read Granules.antt before, for what a
-- granule is. Read next: Views.antt of dt_sched, for the graph.
use Rattle.std.specs.Prelude.{Bool, true, false, ◌&&◌, ◌||◌, nat_eq, List}
use Rattle.std.specs.List.{list_any}
use Rattle.std.specs.Cmp.Lexicographic.{pointwise}
pub use Rattle.dt_text.specs.Texts.{Bytes}
use Rattle.dt_access.specs.Granules.{granule_of}
use Rattle.dt_access.specs.declared.access.Mode.{Mode}
use Rattle.dt_access.specs.declared.access.Mode.TheVariants.{Read, Write, Whole}

-- whether two keys are the same
abbrev pub same_key : Bytes → Bytes → Bool
same_key a b = pointwise nat_eq a b

-- whether two keys are of one granule
abbrev pub same_granule : Bytes → Bytes → Bool
same_granule a b = same_key (granule_of a) (granule_of b)

-- whether a use in this mode may change the row: its value, or its home by a move
abbrev pub may_change : Mode → Bool
may_change Read = false
may_change Write = true
may_change Whole = true

-- whether the mode takes all rows of the key's granule
abbrev pub is_whole : Mode → Bool
is_whole Read = false
is_whole Write = false
is_whole Whole = true

-- two uses of rows are of one row, and at least one of them may change it
abbrev pub rows_clash : Bytes × Mode → Bytes × Mode → Bool
rows_clash a b = same_key a.0 b.0 && (may_change a.1 || may_change b.1)

-- two uses of rows are of one granule, and at least one of them takes it as a whole
abbrev pub granules_clash : Bytes × Mode → Bytes × Mode → Bool
granules_clash a b = same_granule a.0 b.0 && (is_whole a.1 || is_whole b.1)

-- two uses of rows clash: on a row, or on a granule
abbrev pub uses_clash : Bytes × Mode → Bytes × Mode → Bool
uses_clash a b = rows_clash a b || granules_clash a b

-- two lists of keys with modes clash: some use of the one clashes with some use of the other
abbrev pub clash : List (Bytes × Mode) → List (Bytes × Mode) → Bool
clash left right = list_any (λ a. list_any (uses_clash a) right) left
