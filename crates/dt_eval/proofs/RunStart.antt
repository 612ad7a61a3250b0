-- A run before its first statement: its keys are read, its rows have places, and its statements are sound.
use Rattle.std.proofs.Common.{◌≡◌, ◌<◌, ◌+◌, ℕ, List, [], ◌∷◌, ◌++◌, map, length, get_or, drop, append_assoc}
use Rattle.std.proofs.Common.{refl, sym, ap, ap₂, subst, ◌∙◌, inl, inr}
use Rattle.std.specs.Prelude.{Option}
use Rattle.std.proofs.lemmas.List.{length-map, map-append}
use Rattle.dt_lists.proofs.Callers.{all_more, from_item}
use Rattle.dt_lists.specs.Lists.{AnyIn, AllIn, Has, EachThen, Pairwise}
use Rattle.dt_lists.proofs.Callers.{any_image, any_of_image, all_put, each_image}
use Rattle.dt_text.specs.declared.Value.{Value}
use Rattle.dt_text.specs.declared.Value.TheVariants as val
use Rattle.dt_access.specs.Clash.{Bytes}
use Rattle.dt_access.specs.Orders.{KeyBefore}
use Rattle.dt_access.specs.declared.Mode.{Mode}
use Rattle.dt_proc.specs.declared.tree.KeyDecl.{KeyDecl}
use Rattle.dt_syntax.specs.declared.kinds.Kind.{Kind}
use Rattle.dt_syntax.specs.declared.kinds.Kind.TheVariants as kind
use Rattle.dt_proc.specs.Tree.{ProcTree}
use Rattle.dt_proc.specs.Sound.{IsSoundProc, AreSound, sort_of}
use Rattle.dt_eval.specs.declared.frame.Frame.{Frame}
use Rattle.dt_eval.specs.declared.state.Row.{Row}
use Rattle.dt_eval.specs.Data.{datum_of, sort_of_datum, keys_in, names_at}
use Rattle.dt_eval.specs.FrameInner.{ArePlaces, IsItemWithin, IsSoundBlock}
use Rattle.dt_eval.specs.Keys.{key_text, keys_of, names_given, names_of, use_of}
use Rattle.dt_eval.specs.Meaning.{Fits, IsOfKind, unchanged}
use Rattle.dt_eval.proofs.KeyLaws.{keys_ascend, keys_there}
use Rattle.dt_eval.proofs.RowLaws.{opening_keys}

-- the keys of declarations are read, where the reads are of the keys of the call

decl_use : (args : List Value) (ds : List KeyDecl) (name : Bytes) → Has (names_given args ds) name → AnyIn (λ u. u.0 ≡ name) (map (use_of args) ds)
decl_use args [] name h = h
decl_use args (d ∷ ds) name (inl e) = inl e
decl_use args (d ∷ ds) name (inr h) = inr (decl_use args ds name h)

pub names_read : (proc : ProcTree) (args : List Value) (reads : List (Bytes × Option Value)) → map (λ (r : Bytes × Option Value). r.0) reads ≡ map (λ (u : Bytes × Mode). u.0) (keys_of proc args) →
    AllIn (λ name. AnyIn (λ r. r.0 ≡ name) reads) (names_given args proc.keys)
names_read proc args reads same = all_put (λ name. AnyIn (λ r. r.0 ≡ name) reads) (names_given args proc.keys) one
  where
    one : (name : Bytes) → Has (names_given args proc.keys) name → AnyIn (λ r. r.0 ≡ name) reads
    one name h =
        any_of_image (λ k. k ≡ name) (λ (r : Bytes × Option Value). r.0) reads
        (subst (AnyIn (λ k. k ≡ name)) (sym same) (any_image (λ k. k ≡ name) (λ (u : Bytes × Mode). u.0) (keys_of proc args) (keys_there name proc args (decl_use args proc.keys name h))))

-- the rows of a run

pub rows_named : (proc : ProcTree) (args : List Value) (reads : List (Bytes × Option Value)) (places : List ℕ) (rows : List Row) → rows ≡ map unchanged reads →
    ArePlaces (names_given args proc.keys) (map (λ (r : Bytes × Option Value). r.0) reads) places →
    ◌≡◌ {A = List Bytes × List Row} (names_at places rows, rows) (names_of proc args, map unchanged reads)
rows_named proc args reads places rows e are =
    let names : names_at places rows ≡ names_of proc args = ap (names_at places) e ∙ ap (λ keys. map (λ p. get_or keys p []) places) (opening_keys reads) ∙ are.1 in
    λ i. (names i, e i)

pub rows_below : (names : List Bytes) (reads : List (Bytes × Option Value)) (places : List ℕ) (rows : List Row) → rows ≡ map unchanged reads →
    ArePlaces names (map (λ (r : Bytes × Option Value). r.0) reads) places → AllIn (λ p. p < length rows) places
rows_below names reads places rows e are =
    subst (λ n. AllIn (λ p. p < n) places) (length-map reads (λ (r : Bytes × Option Value). r.0) ∙ sym (length-map reads unchanged) ∙ ap length (sym e)) are.0

pub rows_ascend : (proc : ProcTree) (args : List Value) (reads : List (Bytes × Option Value)) (rows : List Row) → rows ≡ map unchanged reads →
    map (λ (r : Bytes × Option Value). r.0) reads ≡ map (λ (u : Bytes × Mode). u.0) (keys_of proc args) → EachThen KeyBefore (keys_in rows)
rows_ascend proc args reads rows e same =
    subst (EachThen KeyBefore) (sym (ap keys_in e ∙ opening_keys reads ∙ same)) (each_image KeyBefore (λ (u : Bytes × Mode). u.0) (keys_of proc args) (keys_ascend proc args))

-- soundness

pub opening_sorts : (params : List Kind) (args : List Value) → Pairwise IsOfKind params args → map sort_of_datum (map datum_of args) ≡ map sort_of params
opening_sorts [] [] f = refl
opening_sorts [] (v ∷ args) f = absurd f
opening_sorts (k ∷ params) [] f = absurd f
opening_sorts (kind.Int ∷ params) (val.Int z ∷ args) f = ap₂ ◌∷◌ refl (opening_sorts params args f.1)
opening_sorts (kind.Int ∷ params) (val.Text t ∷ args) f = absurd f.0
opening_sorts (kind.Text ∷ params) (val.Int z ∷ args) f = absurd f.0
opening_sorts (kind.Text ∷ params) (val.Text t ∷ args) f = ap₂ ◌∷◌ refl (opening_sorts params args f.1)

pub opening_sound : (proc : ProcTree) (args : List Value) (f : Frame) → IsSoundProc proc → Fits proc args → f.variables ≡ map datum_of args → f.rows.0 ≡ names_of proc args → IsSoundBlock f proc.body
opening_sound proc args f sound fits vs names = (
  map (λ (d : KeyDecl). d.write) proc.keys,
  length-map proc.keys (λ (d : KeyDecl). d.write) ∙ sym (length-map proc.keys (λ (d : KeyDecl). key_text args d.items)) ∙ ap length (sym names),
  subst (λ sorts. AreSound sorts (map (λ (d : KeyDecl). d.write) proc.keys) proc.body) (sym (ap (map sort_of_datum) vs ∙ opening_sorts proc.params args fits)) sound.body,
)

-- what is known of the places of the first declarations
pub record Placing (args : List Value) (declarations : List KeyDecl) (reads : List (Bytes × Option Value)) (index : ℕ) (places : List ℕ) : Type 0 where
  pub within : AllIn (λ (d : KeyDecl). AllIn (IsItemWithin (length args)) d.items) (drop index declarations)
  pub read : AllIn (λ name. AnyIn (λ r. r.0 ≡ name) reads) (names_given args (drop index declarations))
  pub below : AllIn (λ p. p < length (map (λ (r : Bytes × Option Value). r.0) reads)) places
  pub named : map (λ p. get_or (map (λ (r : Bytes × Option Value). r.0) reads) p []) places ++ names_given args (drop index declarations) ≡ names_given args declarations

module _ (args : List Value) (declarations : List KeyDecl) (reads : List (Bytes × Option Value)) (index : ℕ) (places : List ℕ) (d : KeyDecl)
    (inside : index < length declarations) (is : d ≡ get_or declarations index d) (known : Placing args declarations reads index places) where
  cut : drop index declarations ≡ d ∷ drop (index + 1) declarations
  cut = from_item declarations index d _ inside is

  pub placing_read : AnyIn (λ r. r.0 ≡ key_text args d.items) reads
  placing_read = (subst (λ ds. AllIn (λ name. AnyIn (λ r. r.0 ≡ name) reads) (names_given args ds)) cut known.read).0

  pub placing_more : (p : ℕ) → p < length reads → get_or (map (λ (r : Bytes × Option Value). r.0) reads) p [] ≡ key_text args d.items → Placing args declarations reads (index + 1) (places ++ p ∷ [])
  placing_more p below there = record {
    within = (subst (AllIn (λ (d : KeyDecl). AllIn (IsItemWithin (length args)) d.items)) cut known.within).1;
    read = (subst (λ ds. AllIn (λ name. AnyIn (λ r. r.0 ≡ name) reads) (names_given args ds)) cut known.read).1;
    below = all_more (λ p. p < length (map (λ (r : Bytes × Option Value). r.0) reads)) places p known.below (subst (λ n. p < n) (sym (length-map reads (λ (r : Bytes × Option Value). r.0))) below);
    named =
        let name : ℕ → Bytes = λ p. get_or (map (λ (r : Bytes × Option Value). r.0) reads) p [] in
        let rest : List Bytes = names_given args (drop (index + 1) declarations) in
        ap (λ ns. ns ++ rest) (map-append name places (p ∷ [])) ∙ append_assoc (map name places) (name p ∷ []) rest ∙ ap (λ n. map name places ++ n ∷ rest) there
        ∙ ap (λ ds. map name places ++ names_given args ds) (sym cut) ∙ known.named;
  }
