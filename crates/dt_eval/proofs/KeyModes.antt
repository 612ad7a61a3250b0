-- The keys of a call as they are gathered, with their modes. A use is put among them as it is put among uses.
use Rattle.std.proofs.Common.{◌≡◌, ◌<◌, ◌≤◌, ◌+◌, ◌||◌, ℕ, if◌then◌else◌, length, take, drop, set, ◌++◌, ap₂, arith, zero, suc, Bool, true, false, List, []}
use Rattle.std.proofs.Common.{◌∷◌, get_or, refl, sym, ap, subst, ◌∙◌}
use Rattle.std.proofs.Math.Seq.{drop-cons}
use Rattle.std.proofs.lemmas.List.{take_all, drop_all, set_split}
use Rattle.std.specs.Ordering.{nat_cmp}
use Rattle.std.specs.declared.cmp.Ordering.{Ordering}
use Rattle.std.specs.declared.cmp.Ordering.TheVariants.{Less, Equal, Greater}
use Rattle.std.specs.Cmp.Lexicographic.{slice_cmp}
use Rattle.dt_lists.specs.Lists.{AllIn}
use Rattle.dt_text.specs.Texts.{IsKey}
use Rattle.dt_text.specs.declared.Value.{Value}
use Rattle.dt_access.specs.Clash.{Bytes}
use Rattle.dt_access.specs.declared.Mode.{Mode}
use Rattle.dt_access.specs.declared.Mode.TheVariants.{Write}
use Rattle.dt_proc.specs.declared.tree.KeyDecl.{KeyDecl}
use Rattle.dt_proc.specs.Sound.{IsSoundProc}
use Rattle.dt_proc.specs.Tree.{ProcTree}
use Rattle.dt_eval.specs.FrameInner.{IsItemWithin}
use Rattle.dt_eval.specs.Meaning.{Fits}
use Rattle.dt_eval.specs.Keys.{key_text, mode_of, placed_use, use_of, with_modes, with_use}
use Rattle.dt_eval.proofs.KeyLaws.{Gathers, gathers_more, gathers_none}

-- a key with its mode
abbrev pub Moded : Type 0
Moded = Bytes × Mode

-- a use among keys with their modes, by how it compares to the first of them
abbrev pub placed_mode : Ordering → Bytes × Bool → Moded → List Moded → List Moded → List Moded
placed_mode Less u v vs further = (u.0, mode_of u.1) ∷ v ∷ vs
placed_mode Equal u v vs further = (v.0, if u.1 then Write else v.1) ∷ vs
placed_mode Greater u v vs further = v ∷ further

-- keys with their modes, with one use more
abbrev pub with_mode : List Moded → Bytes × Bool → List Moded
with_mode [] u = (u.0, mode_of u.1) ∷ []
with_mode (v ∷ vs) u = placed_mode (slice_cmp nat_cmp u.0 v.0) u v vs (with_mode vs u)

-- it is what the uses give with that use more
pub moded_use : (us : List (Bytes × Bool)) (u : Bytes × Bool) → with_mode (with_modes us) u ≡ with_modes (with_use us u)
moded_use [] u = refl
moded_use (v ∷ vs) u = go (slice_cmp nat_cmp u.0 v.0) (moded_use vs u)
  where
    joined : (m n : Bool) → (if n then Write else mode_of m) ≡ mode_of (m || n)
    joined true true = refl
    joined true false = refl
    joined false true = refl
    joined false false = refl

    go : (o : Ordering) → with_mode (with_modes vs) u ≡ with_modes (with_use vs u) →
        placed_mode o u (v.0, mode_of v.1) (with_modes vs) (with_mode (with_modes vs) u) ≡ with_modes (placed_use o u v vs (with_use vs u))
    go Less later = refl
    go Equal later = ap (λ m. (v.0, m) ∷ with_modes vs) (joined v.1 u.1)
    go Greater later = ap (λ ms. (v.0, mode_of v.1) ∷ ms) later

-- a use that is put in at a place

module _ (xs : List Moded) (i : ℕ) (v : Moded) (u : Bytes × Bool) (below : i < length xs) (is : v ≡ get_or xs i v) (further : with_mode xs u ≡ take i xs ++ with_mode (drop i xs) u) where
  cut : drop i xs ≡ v ∷ drop (suc i) xs
  cut = drop-cons xs i v below ∙ ap (λ x. x ∷ drop (suc i) xs) (sym is)

  placed_at : (o : Ordering) → slice_cmp nat_cmp u.0 v.0 ≡ o → with_mode xs u ≡ take i xs ++ placed_mode o u v (drop (suc i) xs) (with_mode (drop (suc i) xs) u)
  placed_at o e = further ∙ ap (λ ys. take i xs ++ with_mode ys u) cut ∙ ap (λ o. take i xs ++ placed_mode o u v (drop (suc i) xs) (with_mode (drop (suc i) xs) u)) e

  pub use_before : slice_cmp nat_cmp u.0 v.0 ≡ Less → take i xs ++ (u.0, mode_of u.1) ∷ drop i xs ≡ with_mode xs u
  use_before e = ap (λ ys. take i xs ++ (u.0, mode_of u.1) ∷ ys) cut ∙ sym (placed_at Less e)

  pub use_same : slice_cmp nat_cmp u.0 v.0 ≡ Equal → set xs i (v.0, if u.1 then Write else v.1) ≡ with_mode xs u
  use_same e = set_split xs i (v.0, if u.1 then Write else v.1) below ∙ sym (placed_at Equal e)

pub use_last : (xs : List Moded) (i : ℕ) (u : Bytes × Bool) → length xs ≤ i → with_mode xs u ≡ take i xs ++ with_mode (drop i xs) u → xs ++ (u.0, mode_of u.1) ∷ [] ≡ with_mode xs u
use_last xs i u past further = sym (further ∙ ap₂ (λ ys zs. ys ++ with_mode zs u) (take_all i xs past) (drop_all i xs past))

-- what was read at a place is one thing
pub same_read : {A : Type 0} (xs : List A) (i : ℕ) (v w : A) → i < length xs → v ≡ get_or xs i v → w ≡ get_or xs i w → v ≡ w
same_read [] i v w below p q = absurd (omega arith)
same_read (x ∷ xs) zero v w below p q = p ∙ sym q
same_read (x ∷ xs) (suc i) v w below p q = same_read xs i v w (omega arith) p q

-- what is known of the keys with their modes that are gathered from the first declarations
pub record GathersKeys (proc : ProcTree) (args : List Value) (declarations : List KeyDecl) (number : ℕ) (keys : List Moded) : Type 0 where
  pub uses : List (Bytes × Bool)
  pub are : keys ≡ with_modes uses
  pub known : Gathers proc args declarations number uses

-- the key of one declaration more is gathered
pub keys_more : (proc : ProcTree) (args : List Value) (declarations : List KeyDecl) (number : ℕ) (keys more : List Moded) (d : KeyDecl) (u : Bytes × Bool)
    → number < length declarations → d ≡ get_or declarations number d → GathersKeys proc args declarations number keys → u ≡ use_of args d → IsKey (key_text args d.items)
    → ((before : List (Bytes × Bool)) → keys ≡ with_modes before → more ≡ with_modes (with_use before u)) → GathersKeys proc args declarations (number + 1) more
keys_more proc args declarations number keys more d u below is had e key added = record {
  uses = with_use had.uses u;
  are = added had.uses had.are;
  known = gathers_more proc args declarations number had.uses d below is had.known key (with_use had.uses u) (ap (with_use had.uses) e);
}

-- where there is one declaration only, its use is all that is gathered
module _ (proc : ProcTree) (args : List Value) (declarations : List KeyDecl) (d : KeyDecl) (sound : IsSoundProc proc) (fits : Fits proc args) (same : declarations ≡ proc.keys)
    (one : length declarations < 2) (some : 1 ≤ length declarations) (is : d ≡ get_or declarations 0 d) where
  none : Gathers proc args declarations 0 []
  none = gathers_none proc args declarations [] sound fits same refl

  only : declarations ≡ d ∷ []
  only = go declarations one some is
    where
      go : (ds : List KeyDecl) → length ds < 2 → 1 ≤ length ds → d ≡ get_or ds 0 d → ds ≡ d ∷ []
      go [] below above e = absurd (omega (above, arith))
      go (x ∷ []) below above e = ap (λ y. y ∷ []) (sym e)
      go (x ∷ y ∷ ds) below above e = absurd (omega (below, arith))

  pub only_within : AllIn (IsItemWithin (length args)) d.items
  only_within = (subst (AllIn (λ (d : KeyDecl). AllIn (IsItemWithin (length args)) d.items)) only none.within).0
