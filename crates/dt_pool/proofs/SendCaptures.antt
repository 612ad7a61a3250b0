-- A closure may move to another thread where each thing that it captures may. Its captures are taken one by one, in the order in
-- which its body names them, so that an answer need not say their types.
use mathlib.Core.List.{List, [], ◌∷◌}
use mir.Syntax.{Sym}
use denote.RattleType.{RattleType}
use denote.Struct.Field.{row_field}
use denote.Struct.Tuple.{TupleAt, parts, type_at}
use denote.Param.Send.{IsSend}
use denote.Param.SendFields.{FieldsHave, as_row_send, declared_send}

pub record AreMoved (Ts : List RattleType) : Type 0 where
  pub fields : FieldsHave IsSend (parts Ts)

pub no_more : AreMoved []
no_more = record { fields = tt }

pub and_moved : (T : RattleType) (Ts : List RattleType) → IsSend T → AreMoved Ts → AreMoved (T ∷ Ts)
and_moved T Ts one more = record { fields = (as_row_send (row_field T) one, more.fields) }

pub captures_send : (ν : Sym) (Ts : List RattleType) → AreMoved Ts → IsSend (TupleAt ν Ts)
captures_send ν Ts moved = declared_send (type_at ν Ts) moved.fields
