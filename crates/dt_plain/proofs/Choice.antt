-- Going through the ids of a view for one that may be executed, or whose class may be resolved.
use Rattle.std.proofs.Common.{◌≡◌, ℕ, ◌+◌, ◌<◌, ◌≤◌, ◌↔◌, Bool, false, List, [], ◌∷◌, length, get_or, take, subst, inl, inr, IsTrue}
use Rattle.std.proofs.lemmas.List.{take_more, take_all}
use Rattle.dt_lists.specs.Lists.{AllIn, Has}
use Rattle.dt_lists.proofs.Callers.{all_append, all_get}
use Rattle.dt_access.specs.declared.TxnId.{TxnId}
use Rattle.dt_sched.specs.Views.{View, here, IsComplete, IsClass}
use Rattle.dt_sched.specs.Decide.{IsExecutable, IsResolvable}
use Rattle.dt_sched.proofs.Callers.{has_id_decided, class_unique, in_own_class, present_of_complete}
use Rattle.dt_plain.proofs.IdEquality.{no_id}
use Rattle.dt_plain.proofs.Scan.{refuted}
use Rattle.dt_plain.specs.SurroundingsInner.{ArePresent}

-- one more id of the list has P
all_more : (P : TxnId → Type 0) (ids : List TxnId) (i : ℕ) → i < length ids → AllIn P (take i ids) → P (get_or ids i no_id) → AllIn P (take (i + 1) ids)
all_more P ids i h a p = rw (take_more ids i no_id h) (all_append P (take i ids) (get_or ids i no_id ∷ []) a (p, tt))

module _ (view : View) (resolved : List (List TxnId)) (done : List TxnId) where
  -- the id may not be executed, unless it is busy
  abbrev pub IsNotReady : List TxnId → TxnId → Type 0
  IsNotReady busy t = IsExecutable view resolved done t → Has busy t

  pub ready_more : (busy ids : List TxnId) (i : ℕ) (b : Bool) → i < length ids → AllIn (IsNotReady busy) (take i ids)
      → (IsTrue b ↔ (IsExecutable view resolved done (get_or ids i no_id) × ¬ (Has busy (get_or ids i no_id)))) → b ≡ false → AllIn (IsNotReady busy) (take (i + 1) ids)
  ready_more busy ids i b h a k e =
      let t : TxnId = get_or ids i no_id in
      all_more (IsNotReady busy) ids i h a (λ x. elim (has_id_decided busy t) [ inl y ↦ y | inr n ↦ absurd (refuted b k e (x, n)) ])

  pub none_ready : (busy ids : List TxnId) (i : ℕ) → length ids ≤ i → ArePresent view ids → AllIn (IsNotReady busy) (take i ids) → (t : TxnId) → IsExecutable view resolved done t → Has busy t
  none_ready busy ids i h p a t x =
      let all : AllIn (IsNotReady busy) ids = rw (take_all i ids h) at a in
      all_get (IsNotReady busy) ids all t ((p.members t).1 (present_of_complete view t (x.closed t here))) x

  -- the class of the id may not be resolved
  abbrev pub IsNotResolvable : TxnId → Type 0
  IsNotResolvable t = (ids : List TxnId) → IsClass view t ids → ¬ (IsResolvable view resolved done ids)

  pub class_more : (ids class : List TxnId) (i : ℕ) (b : Bool) → i < length ids → AllIn IsNotResolvable (take i ids) → IsClass view (get_or ids i no_id) class
      → (IsTrue b ↔ IsResolvable view resolved done class) → b ≡ false → AllIn IsNotResolvable (take (i + 1) ids)
  class_more ids class i b h a own k e =
      all_more IsNotResolvable ids i h a
      (λ others o x. refuted b k e (subst (IsResolvable view resolved done) (class_unique view (get_or ids i no_id) others class o own) x))

  pub no_class : (ids : List TxnId) (i : ℕ) → length ids ≤ i → ArePresent view ids → AllIn IsNotResolvable (take i ids) → (class : List TxnId) → ¬ (IsResolvable view resolved done class)
  no_class ids i h p a class x =
      let all : AllIn IsNotResolvable ids = rw (take_all i ids h) at a in
      let complete : IsComplete view x.group.0 = all_get _ class x.complete x.group.0 (in_own_class view x.group.0 class x.group.1) in
      all_get IsNotResolvable ids all x.group.0 ((p.members x.group.0).1 (present_of_complete view x.group.0 complete)) class x.group.1 x
