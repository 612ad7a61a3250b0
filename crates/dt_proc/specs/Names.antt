-- What a name means where it stands. Parameters and lets share one list and keys have another; the first entry of a name
-- counts, and a name that is visible may not be given anew, so there is no second. Read next: SecondPass, for when each
-- becomes visible.
use Rattle.std.specs.Prelude.{ℕ, suc, Bool, if◌then◌else◌, List, [], ◌∷◌, Option, Some, None, nat_eq, position}
use Rattle.std.specs.Option.{option_map}
use Rattle.std.specs.Cmp.Lexicographic.{pointwise}
use Rattle.dt_proc.specs.Tree.{ProcTree}
use Rattle.dt_proc.specs.declared.tree.Sort.{Sort}
use Rattle.dt_proc.specs.declared.scope.Meaning.{Meaning}
use Rattle.dt_proc.specs.declared.scope.Meaning.TheVariants.{Variable, Key, Unknown}

-- the number of the procedure of this name, counted from 0, if there is one
abbrev pub place_of_name : List ℕ → List ProcTree → Option ℕ
place_of_name name procs = position (λ p. pointwise nat_eq p.name name) procs

-- what is visible: parameters and lets with what they give, and keys with whether they may be written, each in order
pub record Scope : Type 0 where
  pub variables : List (List ℕ × Sort)
  pub keys : List (List ℕ × Bool)

-- the entry of a name, with its number
abbrev pub entry_of : {A : Type 0} → List (List ℕ × A) → List ℕ → Option (ℕ × A)
entry_of [] name = None
entry_of (e ∷ es) name = if pointwise nat_eq e.0 name then Some (0, e.1) else option_map (λ r. (suc r.0, r.1)) (entry_of es name)

-- the entry of a key as the meaning of its name; a name without one means nothing
abbrev pub as_key_entry : Option (ℕ × Bool) → Meaning
as_key_entry None = Unknown
as_key_entry (Some e) = Key e.0 e.1

-- the entry of a variable as the meaning of its name; without one, the other meaning
abbrev pub as_entry : Option (ℕ × Sort) → Meaning → Meaning
as_entry None other = other
as_entry (Some e) other = Variable e.0 e.1

-- what a name means where this is visible: a variable, else a key, else nothing
abbrev pub meaning_in : Scope → List ℕ → Meaning
meaning_in scope name = as_entry (entry_of scope.variables name) (as_key_entry (entry_of scope.keys name))
