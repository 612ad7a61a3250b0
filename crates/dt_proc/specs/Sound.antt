-- What holds of every procedure, so that a run of it has no case that cannot come: kinds fit, and what is named is there.
-- Procedures that a text means are sound, and so are the built-in ones; a run needs nothing else of them. Read next:
-- Meaning of dt_eval, for what such a procedure does.
use Rattle.std.specs.Prelude.{◌≡◌, ◌⊎◌, ℕ, ◌<◌, ◌≤◌, Bool, true, List, [], ◌∷◌, ◌++◌, length, map, slice_get, Some, FitsSigned}
use Rattle.std.specs.Int.{w64}
use Rattle.dt_lists.specs.Lists.{AllIn, Distinct}
use Rattle.dt_text.specs.Texts.{IsStr, IsName}
use Rattle.dt_syntax.specs.declared.kinds.Kind.{Kind}
use Rattle.dt_proc.specs.declared.tree.Sort.{Sort}
use Rattle.dt_proc.specs.declared.tree.Sort.TheVariants as sort
use Rattle.dt_syntax.specs.declared.kinds.Kind.TheVariants as kind
use Rattle.dt_syntax.specs.declared.operator.Op.{Op}
use Rattle.dt_syntax.specs.declared.operator.Op.TheVariants.{Or, And, Equal, Differ, Less, AtMost, More, AtLeast, Add, Sub, Join, Mul, Div, Rem}
use Rattle.dt_proc.specs.declared.tree.KeyItem.{KeyItem}
use Rattle.dt_proc.specs.declared.tree.KeyItem.TheVariants.{Text, Param, Show}
use Rattle.dt_proc.specs.Tree.{ExprTree, number, text, truth, variable, number_of, text_of, has_value, length_of, shown, negative, opposite, binary, GiveTree}
use Rattle.dt_proc.specs.Tree.{row, value, let_new, set_row, clear_row, choose, abort_with, give_all, BlockTree, done, then, ProcTree}

-- an operator needs two operands of this sort
abbrev pub TakesSort : Op → Sort → Type 0
TakesSort Or s = s ≡ sort.Bool
TakesSort And s = s ≡ sort.Bool
TakesSort Equal s = (s ≡ sort.Int) ⊎ (s ≡ sort.Text)
TakesSort Differ s = (s ≡ sort.Int) ⊎ (s ≡ sort.Text)
TakesSort Less s = (s ≡ sort.Int) ⊎ (s ≡ sort.Text)
TakesSort AtMost s = (s ≡ sort.Int) ⊎ (s ≡ sort.Text)
TakesSort More s = (s ≡ sort.Int) ⊎ (s ≡ sort.Text)
TakesSort AtLeast s = (s ≡ sort.Int) ⊎ (s ≡ sort.Text)
TakesSort Join s = s ≡ sort.Text
TakesSort Add s = s ≡ sort.Int
TakesSort Sub s = s ≡ sort.Int
TakesSort Mul s = s ≡ sort.Int
TakesSort Div s = s ≡ sort.Int
TakesSort Rem s = s ≡ sort.Int

-- the sort of what an operator gives
abbrev pub sort_given : Op → Sort
sort_given Join = sort.Text
sort_given Add = sort.Int
sort_given Sub = sort.Int
sort_given Mul = sort.Int
sort_given Div = sort.Int
sort_given Rem = sort.Int
sort_given Or = sort.Bool
sort_given And = sort.Bool
sort_given Equal = sort.Bool
sort_given Differ = sort.Bool
sort_given Less = sort.Bool
sort_given AtMost = sort.Bool
sort_given More = sort.Bool
sort_given AtLeast = sort.Bool

-- an expression gives a value of this sort, where the variables have these sorts and there are n keys
abbrev pub HasSort : List Sort → ℕ → ExprTree → Sort → Type 0
HasSort variables keys (number z) s = (s ≡ sort.Int) × FitsSigned w64 z
HasSort variables keys (text t) s = (s ≡ sort.Text) × IsStr t
HasSort variables keys (truth b) s = s ≡ sort.Bool
HasSort variables keys (variable n) s = slice_get variables n ≡ Some s
HasSort variables keys (number_of k) s = (s ≡ sort.Int) × (k < keys)
HasSort variables keys (text_of k) s = (s ≡ sort.Text) × (k < keys)
HasSort variables keys (has_value k) s = (s ≡ sort.Bool) × (k < keys)
HasSort variables keys (length_of f) s = (s ≡ sort.Int) × HasSort variables keys f sort.Text
HasSort variables keys (shown f) s = (s ≡ sort.Text) × HasSort variables keys f sort.Int
HasSort variables keys (negative f) s = (s ≡ sort.Int) × HasSort variables keys f sort.Int
HasSort variables keys (opposite f) s = (s ≡ sort.Bool) × HasSort variables keys f sort.Bool
HasSort variables keys (binary o f g) s =
    (t : Sort) × TakesSort o t × HasSort variables keys f t × HasSort variables keys g t × (s ≡ sort_given o)

-- a sort that a row may have
abbrev pub IsStoredSort : Sort → Type 0
IsStoredSort s = (s ≡ sort.Int) ⊎ (s ≡ sort.Text)

-- an item of `give` fits: it names a key that is there, or its expression gives what a row can have
abbrev pub IsSoundGift : List Sort → ℕ → GiveTree → Type 0
IsSoundGift variables keys (row k) = k < keys
IsSoundGift variables keys (value f) = (s : Sort) × IsStoredSort s × HasSort variables keys f s

-- statements fit, where the variables have these sorts, and each key may be set and cleared or not: a `let` adds a variable
-- for the statements after it
abbrev pub AreSound : List Sort → List Bool → BlockTree → Type 0
AreSound variables writes done = Unit {0}
AreSound variables writes (then (let_new f) rest) =
    (s : Sort) × HasSort variables (length writes) f s × AreSound (variables ++ s ∷ []) writes rest
AreSound variables writes (then (set_row k f) rest) =
    (slice_get writes k ≡ Some true) × ((s : Sort) × IsStoredSort s × HasSort variables (length writes) f s)
    × AreSound variables writes rest
AreSound variables writes (then (clear_row k) rest) = (slice_get writes k ≡ Some true) × AreSound variables writes rest
AreSound variables writes (then (choose f a b) rest) =
    HasSort variables (length writes) f sort.Bool × AreSound variables writes a × AreSound variables writes b
    × AreSound variables writes rest
AreSound variables writes (then (abort_with t) rest) = IsStr t × AreSound variables writes rest
AreSound variables writes (then (give_all gs) rest) =
    AllIn (IsSoundGift variables (length writes)) gs × AreSound variables writes rest

-- a part of a key expression fits these parameters
abbrev pub IsSoundItem : List Kind → KeyItem → Type 0
IsSoundItem params (Text t) = IsStr t
IsSoundItem params (Param n) = slice_get params n ≡ Some kind.Text
IsSoundItem params (Show n) = slice_get params n ≡ Some kind.Int

-- the sort that the arguments of a kind of parameter have
abbrev pub sort_of : Kind → Sort
sort_of kind.Int = sort.Int
sort_of kind.Text = sort.Text

-- a procedure has a name, at most 16 parameters, 1 to 16 keys, and all in it fits
pub record IsSoundProc (proc : ProcTree) : Type 0 where
  pub name : IsName proc.name
  pub few_params : length proc.params ≤ 16
  pub some_key : 1 ≤ length proc.keys
  pub few_keys : length proc.keys ≤ 16
  pub items : AllIn (λ k. AllIn (IsSoundItem proc.params) k.items) proc.keys
  pub body : AreSound (map sort_of proc.params) (map (λ k. k.write) proc.keys) proc.body

-- procedures: at most 64, of distinct names
pub record AreProcs (procs : List ProcTree) : Type 0 where
  pub few : length procs ≤ 64
  pub distinct : Distinct (map (λ p. p.name) procs)
  pub sound : AllIn IsSoundProc procs
