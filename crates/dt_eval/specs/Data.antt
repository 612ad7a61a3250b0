-- What expressions give, the rows that a run has, and the state of a run between two statements. A row is found by its
-- key, so two declared names of one key are one row. Read next: Cases.
use Rattle.std.specs.Prelude.{ℕ, true, cond, List, [], ◌∷◌, ◌++◌, map, Option, Some, None, Result, Ok, Err, slice_index_or}
use Rattle.dt_access.specs.Clash.{Bytes, same_key}
use Rattle.dt_text.specs.declared.Value.{Value}
use Rattle.dt_text.specs.declared.Value.TheVariants as val
use Rattle.dt_proc.specs.declared.tree.Sort.{Sort}
use Rattle.dt_proc.specs.declared.tree.Sort.TheVariants as sort
use Rattle.dt_eval.specs.declared.finish.Cause.{Cause}
use Rattle.dt_eval.specs.declared.state.Datum.{Datum}
use Rattle.dt_eval.specs.declared.state.Datum.TheVariants.{Int, Text, Bool as Truth}
use Rattle.dt_eval.specs.declared.state.Row.{Row}

-- the sort of what an expression gave
abbrev pub sort_of_datum : Datum → Sort
sort_of_datum (Int z) = sort.Int
sort_of_datum (Text t) = sort.Text
sort_of_datum (Truth b) = sort.Bool

-- the value of a row, as an expression gives it
abbrev pub datum_of : Value → Datum
datum_of (val.Int z) = Int z
datum_of (val.Text t) = Text t

-- what an expression gave, as a row has it: a truth cannot stand there
abbrev pub stored : Datum → Option Value
stored (Int z) = Some (val.Int z)
stored (Text t) = Some (val.Text t)
stored (Truth b) = None

-- the key of the declaration of this number
abbrev pub declared_key : List Bytes → ℕ → Bytes
declared_key names k = slice_index_or names k []

-- the keys of rows, in order
abbrev pub keys_in : List Row → List Bytes
keys_in rows = map (λ (r : Row). r.key) rows

-- the keys of the rows at these places
abbrev pub names_at : List ℕ → List Row → List Bytes
names_at places rows = map (λ p. slice_index_or (keys_in rows) p []) places

-- the value that the row of a key has, or none
abbrev pub value_in : List Row → Bytes → Option Value
value_in [] key = None
value_in (r ∷ rows) key = cond (same_key key r.key) r.value (value_in rows key)

-- a row after it was set to a value, or cleared
abbrev pub changed : Option Value → Row → Row
changed value r = record { key = r.key; value = value; changed = true }

-- the rows after the row of this key was set to a value, or cleared
abbrev pub with_value : Bytes → Option Value → List Row → List Row
with_value key value rows = map (λ r. cond (same_key key r.key) (changed value r) r) rows

-- a run between two statements: the parameters and the visible lets, the rows of all keys, and the values given so far
pub record RunState : Type 0 where
  pub variables : List Datum
  pub rows : List Row
  pub given : List (Option Value)

-- the value of the row of the key that the declaration of this number gives; so a row is seen under every name of its key
abbrev pub row_at : List Bytes → RunState → ℕ → Option Value
row_at names s k = value_in s.rows (declared_key names k)

-- a state with one more variable
abbrev pub with_variable : Datum → RunState → RunState
with_variable d s = record { variables = s.variables ++ d ∷ []; rows = s.rows; given = s.given }

-- a state in which the row of a declared key has a new value or none
abbrev pub with_row_value : List Bytes → ℕ → Option Value → RunState → RunState
with_row_value names k value s = record { variables = s.variables; rows = with_value (declared_key names k) value s.rows; given = s.given }

-- a state with one more value given
abbrev pub with_given : Option Value → RunState → RunState
with_given value s = record { variables = s.variables; rows = s.rows; given = s.given ++ value ∷ [] }

-- after a block: its lets are no longer visible
abbrev pub leaving : List Datum → Result RunState Cause → Result RunState Cause
leaving variables (Ok s) = Ok (record { variables = variables; rows = s.rows; given = s.given })
leaving variables (Err c) = Err c
