-- The built-in procedures, as trees. Each cluster has them unless its file names others, so their meaning is fixed here
-- and not by a text that is read. Beside each stands its text; that the text means the tree is tested. Read next: Builtin
-- of dt_cluster, for the clusters that have them.
use Rattle.std.specs.Prelude.{ℕ, true, false, List, [], ◌∷◌, codes}
use Rattle.dt_syntax.specs.declared.kinds.Kind.TheVariants.{Int, Text}
use Rattle.dt_syntax.specs.declared.operator.Op.TheVariants.{Less, Add, Sub, Div}
use Rattle.dt_proc.specs.declared.tree.KeyItem.TheVariants.{Param}
use Rattle.dt_proc.specs.declared.tree.KeyDecl.{KeyDecl}
use Rattle.dt_proc.specs.Tree.{variable, number_of, has_value, binary, row, value, StmtTree, set_row, clear_row, choose, abort_with, give_all, BlockTree, done, then, ProcTree}

-- the key that is given as a parameter, and may be set
abbrev pub written_key : ℕ → KeyDecl
written_key param = record { write = true; items = Param param ∷ [] }

-- the key that is given as a parameter, and may be read alone
abbrev pub read_key : ℕ → KeyDecl
read_key param = record { write = false; items = Param param ∷ [] }

-- a block of one statement
abbrev pub one_step : StmtTree → BlockTree
one_step s = then s done

-- proc put(k: text, v: int) write a = k; { set a = v; }
abbrev pub put : ProcTree
put = record { name = codes "put"; params = Text ∷ Int ∷ []; keys = written_key 0 ∷ []; body = one_step (set_row 0 (variable 1)) }

-- proc note(k: text, v: text) write a = k; { set a = v; }
abbrev pub note : ProcTree
note = record { name = codes "note"; params = Text ∷ Text ∷ []; keys = written_key 0 ∷ []; body = one_step (set_row 0 (variable 1)) }

-- proc get(k: text) read a = k; { give row(a); }
abbrev pub get : ProcTree
get = record { name = codes "get"; params = Text ∷ []; keys = read_key 0 ∷ []; body = one_step (give_all (row 0 ∷ [])) }

-- proc del(k: text) write a = k; { clear a; }
abbrev pub del : ProcTree
del = record { name = codes "del"; params = Text ∷ []; keys = written_key 0 ∷ []; body = one_step (clear_row 0) }

-- proc add(k: text, n: int) write a = k; {
--   if has(a) { set a = int(a) + n; } else { set a = n; }
--   give int(a);
-- }
abbrev pub add : ProcTree
add = record {
  name = codes "add";
  params = Text ∷ Int ∷ [];
  keys = written_key 0 ∷ [];
  body =
      then (choose (has_value 0) (one_step (set_row 0 (binary Add (number_of 0) (variable 1)))) (one_step (set_row 0 (variable 1))))
      (one_step (give_all (value (number_of 0) ∷ [])));
}

-- proc div(k: text, n: int) read a = k; { give int(a) / n; }
abbrev pub div : ProcTree
div = record {
  name = codes "div";
  params = Text ∷ Int ∷ [];
  keys = read_key 0 ∷ [];
  body = one_step (give_all (value (binary Div (number_of 0) (variable 1)) ∷ []));
}

-- proc sum(x: text, y: text) read a = x; read b = y; { give int(a) + int(b); }
abbrev pub sum : ProcTree
sum = record {
  name = codes "sum";
  params = Text ∷ Text ∷ [];
  keys = read_key 0 ∷ read_key 1 ∷ [];
  body = one_step (give_all (value (binary Add (number_of 0) (number_of 1)) ∷ []));
}

-- what xfer does first: if int(a) < n { abort "funds"; }
abbrev pub refusal : StmtTree
refusal = choose (binary Less (number_of 0) (variable 2)) (one_step (abort_with (codes "funds"))) done

-- the statements of xfer
abbrev pub transfer : BlockTree
transfer =
    then refusal
    (then (set_row 0 (binary Sub (number_of 0) (variable 2)))
    (then (set_row 1 (binary Add (number_of 1) (variable 2)))
    (one_step (give_all (value (number_of 0) ∷ value (number_of 1) ∷ [])))))

-- proc xfer(from: text, to: text, n: int) write a = from; write b = to; {
--   if int(a) < n { abort "funds"; }
--   set a = int(a) - n;
--   set b = int(b) + n;
--   give int(a), int(b);
-- }
abbrev pub xfer : ProcTree
xfer = record {
  name = codes "xfer";
  params = Text ∷ Text ∷ Int ∷ [];
  keys = written_key 0 ∷ written_key 1 ∷ [];
  body = transfer;
}

-- the built-in procedures, in their order
abbrev pub builtin_procs : List ProcTree
builtin_procs = put ∷ note ∷ get ∷ del ∷ add ∷ div ∷ sum ∷ xfer ∷ []
