-- The list of the keys of a call: it ascends, and holds each key that a declaration gives, with Write if any declaration of
-- it is.
use Rattle.std.proofs.Common.{◌≡◌, ◌<◌, ◌≤◌, ◌+◌, ◌||◌, ℕ, length, drop, add-zero, arith, zero, suc, Bool, true, false, List, []}
use Rattle.std.proofs.Common.{◌∷◌, map, get_or, slice_get, Some, refl, sym, ap, subst, ◌∙◌, inl, inr}
use Rattle.std.specs.List.{fold}
use Rattle.std.proofs.lemmas.List.{length-map, drop_all}
use Rattle.std.specs.Ordering.{nat_cmp, is_eq}
use Rattle.std.specs.declared.cmp.Ordering.{Ordering}
use Rattle.std.specs.declared.cmp.Ordering.TheVariants.{Less, Equal, Greater}
use Rattle.std.specs.Cmp.Lexicographic.{slice_cmp, bytes_decides, texts_ties, nat_list_cmp_total}
use Rattle.std.proofs.lemmas.Bool.{or_left, or_right}
use Rattle.std.proofs.lemmas.Option.{slice_get_within}
use Rattle.dt_lists.specs.Lists.{AnyIn, AllIn}
use Rattle.dt_lists.proofs.Callers.{all_map, from_item, pairwise_length}
use Rattle.dt_text.specs.declared.Value.{Value}
use Rattle.dt_access.specs.Clash.{Bytes, is_whole}
use Rattle.dt_access.specs.Orders.{KeyBefore, HasAscendingKeys}
use Rattle.dt_access.proofs.Callers.{key_before_flip}
use Rattle.dt_access.specs.declared.Mode.{Mode}
use Rattle.dt_access.specs.declared.Mode.TheVariants.{Write}
use Rattle.dt_proc.specs.declared.tree.KeyDecl.{KeyDecl}
use Rattle.dt_proc.specs.declared.tree.KeyItem.{KeyItem}
use Rattle.dt_proc.specs.declared.tree.KeyItem.TheVariants as item
use Rattle.dt_syntax.specs.declared.kinds.Kind.{Kind}
use Rattle.dt_syntax.specs.declared.kinds.Kind.TheVariants as kind
use Rattle.dt_proc.specs.Sound.{IsSoundProc, IsSoundItem}
use Rattle.dt_proc.specs.Tree.{ProcTree}
use Rattle.dt_eval.specs.FrameInner.{IsItemWithin}
use Rattle.dt_eval.specs.Meaning.{Fits, IsOfKind}
use Rattle.dt_text.specs.Texts.{IsKey}
use Rattle.dt_eval.specs.Keys.{HasKeys, IsFirstBadKey, distinct_uses, key_text, mode_of, names_given, names_of, use_of, placed_use, with_modes, with_use, keys_of}

-- keys that compare as equal are the same
pub same_by_cmp : (a b : Bytes) → slice_cmp nat_cmp a b ≡ Equal → a ≡ b
same_by_cmp a b e = (bytes_decides a b).0 (texts_ties a b ∙ ap is_eq e)

-- what holds of the keys of a list and of a new key holds of all after it was added
with_use_all : (P : Bytes → Type 0) (vs : List (Bytes × Bool)) (u : Bytes × Bool) → AllIn (λ v. P v.0) vs → P u.0 → AllIn (λ v. P v.0) (with_use vs u)
with_use_all P [] u all p = (p, tt)
with_use_all P (v ∷ vs) u all p = go (slice_cmp nat_cmp u.0 v.0) (with_use_all P vs u all.1 p)
  where
    go : (o : Ordering) → AllIn (λ x. P x.0) (with_use vs u) → AllIn (λ x. P x.0) (placed_use o u v vs (with_use vs u))
    go Less later = (p, all)
    go Equal later = all
    go Greater later = (all.0, later)

with_use_ascends : (vs : List (Bytes × Bool)) (u : Bytes × Bool) → HasAscendingKeys vs → HasAscendingKeys (with_use vs u)
with_use_ascends [] u a = (tt, tt)
with_use_ascends (v ∷ vs) u a = go (slice_cmp nat_cmp u.0 v.0) refl (with_use_ascends vs u a.1)
  where
    go : (o : Ordering) → slice_cmp nat_cmp u.0 v.0 ≡ o → HasAscendingKeys (with_use vs u) → HasAscendingKeys (placed_use o u v vs (with_use vs u))
    go Less e later = ((e, all_map _ _ vs (λ x h. nat_list_cmp_total.trans u.0 v.0 x.0 e h) a.0), a)
    go Equal e later = a
    go Greater e later = (with_use_all (KeyBefore v.0) vs u a.0 (key_before_flip u.0 v.0 e), later)

fold_ascends : (us vs : List (Bytes × Bool)) → HasAscendingKeys vs → HasAscendingKeys (fold with_use vs us)
fold_ascends [] vs a = a
fold_ascends (u ∷ us) vs a = fold_ascends us (with_use vs u) (with_use_ascends vs u a)

-- what holds of uses holds of them with their modes
modes_all : (P : Bytes → Type 0) (us : List (Bytes × Bool)) → AllIn (λ u. P u.0) us → AllIn (λ u. P u.0) (with_modes us)
modes_all P [] all = tt
modes_all P (u ∷ us) all = (all.0, modes_all P us all.1)

modes_any : (Q : Bytes × Bool → Type 0) (R : Bytes × Mode → Type 0) → ((u : Bytes × Bool) → Q u → R (u.0, mode_of u.1)) →
    (us : List (Bytes × Bool)) → AnyIn Q us → AnyIn R (with_modes us)
modes_any Q R f [] h = absurd h
modes_any Q R f (u ∷ us) (inl q) = inl (f u q)
modes_any Q R f (u ∷ us) (inr h) = inr (modes_any Q R f us h)

modes_ascend : (us : List (Bytes × Bool)) → HasAscendingKeys us → HasAscendingKeys (with_modes us)
modes_ascend [] a = tt
modes_ascend (u ∷ us) a = (modes_all (KeyBefore u.0) us a.0, modes_ascend us a.1)

-- the keys of a call stand in ascending order
pub keys_ascend : (proc : ProcTree) (args : List Value) → HasAscendingKeys (keys_of proc args)
keys_ascend proc args = modes_ascend (distinct_uses proc args) (fold_ascends (map (use_of args) proc.keys) [] tt)

-- a call has no more keys than its procedure has declarations
with_use_few : (vs : List (Bytes × Bool)) (u : Bytes × Bool) → length (with_use vs u) ≤ length vs + 1
with_use_few [] u = omega arith
with_use_few (v ∷ vs) u = go (slice_cmp nat_cmp u.0 v.0) (with_use_few vs u)
  where
    go : (o : Ordering) → length (with_use vs u) ≤ length vs + 1 → length (placed_use o u v vs (with_use vs u)) ≤ length (v ∷ vs) + 1
    go Less few = omega arith
    go Equal few = omega arith
    go Greater few = omega (arith, few)

fold_few : (us vs : List (Bytes × Bool)) → length (fold with_use vs us) ≤ length vs + length us
fold_few [] vs = omega arith
fold_few (u ∷ us) vs = omega (arith, fold_few us (with_use vs u), with_use_few vs u)

pub keys_few : (proc : ProcTree) (args : List Value) → length (keys_of proc args) ≤ length proc.keys
keys_few proc args = omega (
  arith,
  length-map {B = Bytes × Mode} (distinct_uses proc args) (λ u. (u.0, mode_of u.1)),
  fold_few (map (use_of args) proc.keys) [],
  length-map proc.keys (use_of args),
)

-- a use that has Q is kept where Q outlasts a merge
module _ (Q : Bytes × Bool → Type 0) (left : (key : Bytes) (m n : Bool) → Q (key, m) → Q (key, m || n)) (right : (key : Bytes) (m n : Bool) → Q (key, n) → Q (key, m || n)) where
  with_use_keeps : (vs : List (Bytes × Bool)) (u : Bytes × Bool) → AnyIn Q vs → AnyIn Q (with_use vs u)
  with_use_keeps [] u h = absurd h
  with_use_keeps (v ∷ vs) u h = go (slice_cmp nat_cmp u.0 v.0) h (with_use_keeps vs u)
    where
      go : (o : Ordering) → AnyIn Q (v ∷ vs) → (AnyIn Q vs → AnyIn Q (with_use vs u)) → AnyIn Q (placed_use o u v vs (with_use vs u))
      go Less h later = inr h
      go Equal (inl q) later = inl (left v.0 v.1 u.1 q)
      go Equal (inr k) later = inr k
      go Greater (inl q) later = inl q
      go Greater (inr k) later = inr (later k)

  with_use_adds : (vs : List (Bytes × Bool)) (u : Bytes × Bool) → Q u → AnyIn Q (with_use vs u)
  with_use_adds [] u q = inl q
  with_use_adds (v ∷ vs) u q = go (slice_cmp nat_cmp u.0 v.0) refl (with_use_adds vs u q)
    where
      go : (o : Ordering) → slice_cmp nat_cmp u.0 v.0 ≡ o → AnyIn Q (with_use vs u) → AnyIn Q (placed_use o u v vs (with_use vs u))
      go Less e later = inl q
      go Equal e later = inl (right v.0 v.1 u.1 (subst (λ k. Q (k, u.1)) (same_by_cmp u.0 v.0 e) q))
      go Greater e later = inr later

  fold_keeps : (us vs : List (Bytes × Bool)) → AnyIn Q vs → AnyIn Q (fold with_use vs us)
  fold_keeps [] vs h = h
  fold_keeps (u ∷ us) vs h = fold_keeps us (with_use vs u) (with_use_keeps vs u h)

  fold_adds : (us vs : List (Bytes × Bool)) → AnyIn Q us → AnyIn Q (fold with_use vs us)
  fold_adds [] vs h = absurd h
  fold_adds (u ∷ us) vs (inl q) = fold_keeps us (with_use vs u) (with_use_adds vs u q)
  fold_adds (u ∷ us) vs (inr h) = fold_adds us (with_use vs u) h

  -- what some declaration gives, some use has
  uses_any : (proc : ProcTree) (args : List Value) → AnyIn Q (map (use_of args) proc.keys) → AnyIn Q (distinct_uses proc args)
  uses_any proc args h = fold_adds (map (use_of args) proc.keys) [] h

-- no key of a procedure takes a whole granule
pub keys_narrow : (proc : ProcTree) (args : List Value) → AllIn (λ u. is_whole u.1 ≡ false) (keys_of proc args)
keys_narrow proc args = narrow (distinct_uses proc args)
  where
    moded : (write : Bool) → is_whole (mode_of write) ≡ false
    moded true = refl
    moded false = refl

    narrow : (us : List (Bytes × Bool)) → AllIn (λ u. is_whole u.1 ≡ false) (with_modes us)
    narrow [] = tt
    narrow (u ∷ us) = (moded u.1, narrow us)

-- a key that some declaration gives with `write` has mode Write
pub keys_write : (key : Bytes) (proc : ProcTree) (args : List Value) → AnyIn (λ u. (u.0 ≡ key) × (u.1 ≡ true)) (map (use_of args) proc.keys)
    → AnyIn (λ u. (u.0 ≡ key) × (u.1 ≡ Write)) (keys_of proc args)
keys_write key proc args h = modes_any _ _ (λ u q. (q.0, ap mode_of q.1)) (distinct_uses proc args)
    (uses_any (λ u. (u.0 ≡ key) × (u.1 ≡ true)) (λ k m n q. (q.0, or_left m n q.1)) (λ k m n q. (q.0, or_right m n q.1)) proc args h)

-- a key that some declaration gives is there
pub keys_there : (key : Bytes) (proc : ProcTree) (args : List Value) → AnyIn (λ u. u.0 ≡ key) (map (use_of args) proc.keys) → AnyIn (λ u. u.0 ≡ key) (keys_of proc args)
keys_there key proc args h = modes_any _ _ (λ u q. q) (distinct_uses proc args) (uses_any (λ u. u.0 ≡ key) (λ k m n q. q) (λ k m n q. q) proc args h)

-- the declaration of a number, where it is one with `write`
pub written_use : (args : List Value) (ds : List KeyDecl) (k : ℕ) → slice_get (map (λ (d : KeyDecl). d.write) ds) k ≡ Some true →
    AnyIn (λ u. (u.0 ≡ get_or (map (λ (d : KeyDecl). key_text args d.items) ds) k []) × (u.1 ≡ true)) (map (use_of args) ds)
written_use args [] k e = cc
written_use args (d ∷ ds) zero e = inl (refl, cc)
written_use args (d ∷ ds) (suc k) e = inr (written_use args ds k e)

-- the arguments that parts of key expressions name are there

one_within : (params : List Kind) (n : ℕ) → length params ≡ n → (i : KeyItem) → IsSoundItem params i → IsItemWithin n i
one_within params n e (item.Text t) s = tt
one_within params n e (item.Param p) s = subst (λ m. p < m) e (slice_get_within params p kind.Text s)
one_within params n e (item.Show p) s = subst (λ m. p < m) e (slice_get_within params p kind.Int s)

pub items_within : (proc : ProcTree) (args : List Value) → IsSoundProc proc → Fits proc args → AllIn (λ (d : KeyDecl). AllIn (IsItemWithin (length args)) d.items) proc.keys
items_within proc args sound fits =
    all_map (λ (d : KeyDecl). AllIn (IsSoundItem proc.params) d.items) (λ (d : KeyDecl). AllIn (IsItemWithin (length args)) d.items) proc.keys
    (λ (d : KeyDecl) s. all_map (IsSoundItem proc.params) (IsItemWithin (length args)) d.items (one_within proc.params (length args) (pairwise_length IsOfKind proc.params args fits)) s) sound.items

zero_add : (j : ℕ) → 0 + j ≡ j
zero_add j = omega arith

shifted : (n j : ℕ) → n + suc j ≡ n + 1 + j
shifted n j = omega arith

-- what is known of the uses gathered from the first declarations
pub record Gathers (proc : ProcTree) (args : List Value) (declarations : List KeyDecl) (number : ℕ) (uses : List (Bytes × Bool)) : Type 0 where
  pub within : AllIn (λ (d : KeyDecl). AllIn (IsItemWithin (length args)) d.items) (drop number declarations)
  pub told : fold with_use uses (map (use_of args) (drop number declarations)) ≡ distinct_uses proc args
  pub all : AllIn IsKey (names_given args (drop number declarations)) → HasKeys proc args
  pub first : (j : ℕ) → IsFirstBadKey (names_given args (drop number declarations)) j → IsFirstBadKey (names_of proc args) (number + j)

pub gathers_none : (proc : ProcTree) (args : List Value) (declarations : List KeyDecl) (uses : List (Bytes × Bool)) → IsSoundProc proc → Fits proc args
    → declarations ≡ proc.keys → uses ≡ [] → Gathers proc args declarations 0 uses
gathers_none proc args declarations uses sound fits same none = record {
  within = subst (AllIn (λ (d : KeyDecl). AllIn (IsItemWithin (length args)) d.items)) (sym same) (items_within proc args sound fits);
  told = λ i. fold with_use (none i) (map (use_of args) (same i));
  all = λ h. subst (λ ds. AllIn IsKey (names_given args ds)) same h;
  first = λ j h. subst (λ n. IsFirstBadKey (names_of proc args) n) (sym (zero_add j)) (subst (λ ds. IsFirstBadKey (names_given args ds) j) same h);
}

-- where all are keys, none is the first that is no key
pub no_bad : (names : List Bytes) (i : ℕ) → AllIn IsKey names → IsFirstBadKey names i → ⊥
no_bad [] i all bad = bad
no_bad (name ∷ names) zero all bad = bad all.0
no_bad (name ∷ names) (suc i) all bad = no_bad names i all.1 bad.1

module _ (proc : ProcTree) (args : List Value) (declarations : List KeyDecl) (number : ℕ) (uses : List (Bytes × Bool)) (d : KeyDecl)
    (below : number < length declarations) (is : d ≡ get_or declarations number d) (known : Gathers proc args declarations number uses) where
  declared : drop number declarations ≡ d ∷ drop (number + 1) declarations
  declared = from_item declarations number d _ below is

  pub gathers_more : IsKey (key_text args d.items) → (more : List (Bytes × Bool)) → more ≡ with_use uses (use_of args d) → Gathers proc args declarations (number + 1) more
  gathers_more key more e = record {
    within = (subst (AllIn (λ (d : KeyDecl). AllIn (IsItemWithin (length args)) d.items)) declared known.within).1;
    told = ap (λ us. fold with_use us (map (use_of args) (drop (number + 1) declarations))) e ∙ ap (λ ds. fold with_use uses (map (use_of args) ds)) (sym declared) ∙ known.told;
    all = λ h. known.all (subst (λ ds. AllIn IsKey (names_given args ds)) (sym declared) (key, h));
    first = λ j h. subst (IsFirstBadKey (names_of proc args)) (shifted number j) (known.first (suc j) (subst (λ ds. IsFirstBadKey (names_given args ds) (suc j)) (sym declared) (key, h)));
  }

  pub gathers_bad : ¬ (IsKey (key_text args d.items)) → (i : ℕ) → i ≡ number → IsFirstBadKey (names_of proc args) i
  gathers_bad bad i e = subst (IsFirstBadKey (names_of proc args)) (add-zero number ∙ sym e) (known.first 0 (subst (λ ds. IsFirstBadKey (names_given args ds) 0) (sym declared) bad))

module _ (proc : ProcTree) (args : List Value) (declarations : List KeyDecl) (number : ℕ) (uses : List (Bytes × Bool)) (past : length declarations ≤ number) (known : Gathers proc args declarations number uses) where
  all_used : uses ≡ distinct_uses proc args
  all_used = ap (λ ds. fold with_use uses (map (use_of args) ds)) (sym (drop_all number declarations past)) ∙ known.told

  pub gathers_all : with_modes uses ≡ keys_of proc args
  gathers_all = ap with_modes all_used

  pub gathers_ascend : HasAscendingKeys (with_modes uses)
  gathers_ascend = subst HasAscendingKeys (sym gathers_all) (keys_ascend proc args)
