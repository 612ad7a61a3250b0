-- The keys that a call uses. They follow from its arguments alone, before it runs, so that the order of calls can be
-- found without running them. A key that is declared twice is used once, for writing if either declaration writes. Read
-- next: Meaning, which runs a call on the rows of these keys.
use Rattle.std.specs.Prelude.{◌||◌, ℕ, zero, suc, Bool, true, false, List, [], ◌∷◌, map, slice_get, Option, Some, None}
use Rattle.std.specs.Fmt.{signed_decimal}
use Rattle.std.specs.List.{flat_map, fold}
use Rattle.std.specs.Ordering.{nat_cmp}
use Rattle.std.specs.declared.cmp.Ordering.{Ordering}
use Rattle.std.specs.declared.cmp.Ordering.TheVariants.{Less, Equal, Greater}
use Rattle.std.specs.Cmp.Lexicographic.{slice_cmp}
use Rattle.dt_lists.specs.Lists.{AllIn}
use Rattle.dt_text.specs.Texts.{IsKey}
use Rattle.dt_text.specs.declared.Value.{Value}
use Rattle.dt_text.specs.declared.Value.TheVariants as val
use Rattle.dt_access.specs.Clash.{Bytes}
use Rattle.dt_access.specs.declared.Mode.{Mode}
use Rattle.dt_access.specs.declared.Mode.TheVariants.{Read, Write}
use Rattle.dt_proc.specs.declared.tree.KeyItem.{KeyItem}
use Rattle.dt_proc.specs.declared.tree.KeyItem.TheVariants.{Text, Param, Show}
use Rattle.dt_proc.specs.declared.tree.KeyDecl.{KeyDecl}
use Rattle.dt_proc.specs.Tree.{ProcTree}

-- an argument as it stands in a key: a text as it is, a number in its printed form
abbrev pub plain : Option Value → Bytes
plain (Some (val.Text t)) = t
plain (Some (val.Int z)) = signed_decimal z
plain None = []

-- a part of a key expression, where these are the arguments
abbrev pub item_text : List Value → KeyItem → Bytes
item_text args (Text t) = t
item_text args (Param n) = plain (slice_get args n)
item_text args (Show n) = plain (slice_get args n)

-- what a key expression gives: its parts joined
abbrev pub key_text : List Value → List KeyItem → Bytes
key_text args items = flat_map (item_text args) items

-- what declarations give as keys, in order
abbrev pub names_given : List Value → List KeyDecl → List Bytes
names_given args declarations = map (λ (d : KeyDecl). key_text args d.items) declarations

-- what the declarations of a procedure give as keys, in order: names of rows, of which several may be the same
abbrev pub names_of : ProcTree → List Value → List Bytes
names_of proc args = names_given args proc.keys

-- each declaration gives a key
abbrev pub HasKeys : ProcTree → List Value → Type 0
HasKeys proc args = AllIn IsKey (names_of proc args)

-- the first text of the list that is no key stands at this place
abbrev pub IsFirstBadKey : List Bytes → ℕ → Type 0
IsFirstBadKey [] i = ⊥
IsFirstBadKey (name ∷ names) zero = ¬ (IsKey name)
IsFirstBadKey (name ∷ names) (suc i) = IsKey name × IsFirstBadKey names i

-- the key of a declaration, and whether it may be written
abbrev pub use_of : List Value → KeyDecl → Bytes × Bool
use_of args d = (key_text args d.items, d.write)

-- a use, by how it compares to the first of a list of uses, is put before it, is merged with it, or is put further on
abbrev pub placed_use : Ordering → Bytes × Bool → Bytes × Bool → List (Bytes × Bool) → List (Bytes × Bool) → List (Bytes × Bool)
placed_use Less u v vs further = u ∷ v ∷ vs
placed_use Equal u v vs further = (v.0, v.1 || u.1) ∷ vs
placed_use Greater u v vs further = v ∷ further

-- uses in ascending order of keys, with one use more: a key that is there already stays once, and may be written if either
-- use of it writes
abbrev pub with_use : List (Bytes × Bool) → Bytes × Bool → List (Bytes × Bool)
with_use [] u = u ∷ []
with_use (v ∷ vs) u = placed_use (slice_cmp nat_cmp u.0 v.0) u v vs (with_use vs u)

-- what a call does with a key: Write where the key may be written, else Read; a call takes no granule as a whole
abbrev pub mode_of : Bool → Mode
mode_of true = Write
mode_of false = Read

-- uses with their modes
abbrev pub with_modes : List (Bytes × Bool) → List (Bytes × Mode)
with_modes uses = map (λ (u : Bytes × Bool). (u.0, mode_of u.1)) uses

-- the distinct keys of the declarations in ascending order, each of which may be written if any declaration of it writes
abbrev pub distinct_uses : ProcTree → List Value → List (Bytes × Bool)
distinct_uses proc args = fold with_use [] (map (use_of args) proc.keys)

-- the distinct keys of the declarations in ascending order, each with its mode: Write if any declaration of it writes
abbrev pub keys_of : ProcTree → List Value → List (Bytes × Mode)
keys_of proc args = with_modes (distinct_uses proc args)
