-- A closure may be called by many threads at once where each thing that it captures may be read by many. Its captures are taken one
-- by one, in the order in which its body names them, so that an answer need not say their types.
use mathlib.Core.List.{List, [], ◌∷◌}
use mir.Syntax.{Sym}
use denote.RattleType.{RattleType}
use denote.Struct.Field.{row_field}
use denote.Struct.Tuple.{TupleAt, parts, type_at}
use denote.Param.Send.{IsSync}
use denote.Param.SendFields.{FieldsHave, as_row_sync, declared_sync}

pub record AreShared (Ts : List RattleType) : Type 0 where
  pub fields : FieldsHave IsSync (parts Ts)

pub no_more : AreShared []
no_more = record { fields = tt }

pub and_shared : (T : RattleType) (Ts : List RattleType) → IsSync T → AreShared Ts → AreShared (T ∷ Ts)
and_shared T Ts one more = record { fields = (as_row_sync (row_field T) one, more.fields) }

pub captures_sync : (ν : Sym) (Ts : List RattleType) → AreShared Ts → IsSync (TupleAt ν Ts)
captures_sync ν Ts shared = declared_sync (type_at ν Ts) shared.fields
