-- What a region holds it goes on holding, while it submits and gets more; and what it keeps of others comes to the same,
-- whether it looks among all that it holds, or knows that what is of its own region it submitted.
use Rattle.std.proofs.Common.{◌≡◌, ◌≢◌, ℕ, true, false, cond, List, [], ◌∷◌, ◌++◌, map, take, Some, None, refl, sym, ap, subst, ◌∙◌, inl, inr, is_some, if◌then◌else◌}
use Rattle.std.specs.Prelude.{slice_index}
use Rattle.std.proofs.lemmas.Bool.{false≢true}
use Rattle.dt_lists.specs.Lists.{AllIn, Has, Distinct}
use Rattle.dt_lists.proofs.Callers.{all_get, all_append}
use Rattle.dt_lists.proofs.Callers.{all_more, has_longer}
use Rattle.dt_lists.proofs.Callers.{front_take, any_front}
use Rattle.dt_access.specs.Ids.{same_id}
use Rattle.dt_access.specs.declared.Part.{Part}
use Rattle.dt_access.specs.declared.TxnId.{TxnId}
use Rattle.dt_sched.specs.Views.{log_at}
use Rattle.dt_txn.specs.declared.txn.Txn.{Txn}
use Rattle.dt_txn.specs.Replica.{view_of}
use Rattle.dt_region.specs.Region.{RegionState, find_txn, held}
use Rattle.dt_region.specs.Rules.{keep, hold, hold_all}
use Rattle.dt_region.specs.Conditions.{HasHomesIn, Agrees}
use Rattle.dt_region.specs.Sound.{AreCounted, IsSoundRegion, IsHeldPart}
use Rattle.dt_access.proofs.Callers.{test_of_id, test_of_other}
use Rattle.dt_region.proofs.Find.{found, found_or_none, find_left, find_right, find_only, counted_other}
use Rattle.dt_txn.proofs.Callers.{fronts_at}

-- a transaction that stands among some is found, or one before it that has its id
pub find_some : (txns : List Txn) (txn : Txn) → Has txns txn → is_some (find_txn txns txn.id) ≡ true
find_some [] txn h = absurd h
find_some (x ∷ txns) txn h =
    elim (same_id x.id txn.id) as (λ b. same_id x.id txn.id ≡ b → is_some (cond b (Some x) (find_txn txns txn.id)) ≡ true) [
      | true ↦ λ t. refl
      | false ↦ λ t. elim h [
        | inl e ↦ absurd (false≢true (sym t ∙ test_of_id x.id txn.id (ap (λ y. y.id) e)))
        | inr later ↦ find_some txns txn later
      ]
    ] refl

-- the foreign transactions after one more came
abbrev pub kept : RegionState → Txn → List Txn
kept s txn = (hold s txn).foreign

-- where it is held already nothing changes, and else it comes last
hold_there : (s : RegionState) (txn other : Txn) → held s txn.id ≡ Some other → kept s txn ≡ s.foreign
hold_there s txn other e = ap (λ o. if is_some o then s.foreign else s.foreign ++ txn ∷ []) e

hold_new : (s : RegionState) (txn : Txn) → held s txn.id ≡ None → kept s txn ≡ s.foreign ++ txn ∷ []
hold_new s txn e = ap (λ o. if is_some o then s.foreign else s.foreign ++ txn ∷ []) e

append_more : (xs ys : List Txn) (x : Txn) → xs ++ (ys ++ x ∷ []) ≡ (xs ++ ys) ++ x ∷ []
append_more [] ys x = refl
append_more (y ∷ xs) ys x = ap (λ l. y ∷ l) (append_more xs ys x)

-- with one that comes last, what was found is found, and it itself is found where nothing else has its id
find_more : (s : RegionState) (txn : Txn) (id : TxnId) (other : Txn) → held s id ≡ Some other → find_txn (s.submitted ++ (s.foreign ++ txn ∷ [])) id ≡ Some other
find_more s txn id other e = ap (λ l. find_txn l id) (append_more s.submitted s.foreign txn) ∙ find_left (s.submitted ++ s.foreign) (txn ∷ []) id other e

find_last : (s : RegionState) (txn : Txn) → held s txn.id ≡ None → find_txn (s.submitted ++ (s.foreign ++ txn ∷ [])) txn.id ≡ Some txn
find_last s txn e =
    ap (λ l. find_txn l txn.id) (append_more s.submitted s.foreign txn)
    ∙ find_right (s.submitted ++ s.foreign) (txn ∷ []) txn.id e
    ∙ ap (λ b. cond b (Some txn) None) (test_of_id txn.id txn.id refl)

-- what is held stays held
pub hold_keeps : (s : RegionState) (txn : Txn) (id : TxnId) (other : Txn) → held s id ≡ Some other → held (hold s txn) id ≡ Some other
hold_keeps s txn id other e = elim (found_or_none (s.submitted ++ s.foreign) txn.id) [
  | inl h ↦ ap (λ l. find_txn (s.submitted ++ l) id) (hold_there s txn h.0 h.1) ∙ e
  | inr h ↦ ap (λ l. find_txn (s.submitted ++ l) id) (hold_new s txn h) ∙ find_more s txn id other e
]

-- one that agrees is held afterwards
pub hold_holds : (s : RegionState) (txn : Txn) → Agrees s txn → held (hold s txn) txn.id ≡ Some txn
hold_holds s txn agrees = elim (found_or_none (s.submitted ++ s.foreign) txn.id) [
  | inl h ↦ ap (λ l. find_txn (s.submitted ++ l) txn.id) (hold_there s txn h.0 h.1) ∙ h.1 ∙ ap Some (agrees.same h.0 h.1)
  | inr h ↦ ap (λ l. find_txn (s.submitted ++ l) txn.id) (hold_new s txn h) ∙ find_last s txn h
]

-- nothing else comes to be held
hold_other : (s : RegionState) (txn : Txn) (id : TxnId) → txn.id ≢ id → held (hold s txn) id ≡ held s id
hold_other s txn id n = elim (found_or_none (s.submitted ++ s.foreign) txn.id) [
  | inl h ↦ ap (λ l. find_txn (s.submitted ++ l) id) (hold_there s txn h.0 h.1)
  | inr h ↦
      ap (λ l. find_txn (s.submitted ++ l) id) (hold_new s txn h)
      ∙ ap (λ l. find_txn l id) (append_more s.submitted s.foreign txn)
      ∙ find_only (s.submitted ++ s.foreign) (txn ∷ []) id (ap (λ b. cond b (Some txn) None) (test_of_other txn.id id n))
]

-- one of another id agrees with the region afterwards as before
agrees_after : (s : RegionState) (txn other : Txn) → txn.id ≢ other.id → Agrees s other → Agrees (hold s txn) other
agrees_after s txn other n agrees = record {
  homes = agrees.homes;
  same = λ x e. agrees.same x (sym (hold_other s txn other.id n) ∙ e);
  own = agrees.own;
}

-- what a region submitted it holds
own_held : (s : RegionState) (txn : Txn) → Has s.submitted txn → is_some (held s txn.id) ≡ true
own_held s txn h = find_some (s.submitted ++ s.foreign) txn (has_longer s.submitted s.foreign txn h)

-- where what a region has of others is transactions of other regions, it stays so
pub hold_foreign : (s : RegionState) (txn : Txn) → AllIn (λ x. x.id.region ≢ s.number) s.foreign → Agrees s txn → AllIn (λ x. x.id.region ≢ s.number) (kept s txn)
hold_foreign s txn others agrees = elim (found_or_none (s.submitted ++ s.foreign) txn.id) [
  | inl h ↦ subst (AllIn (λ (x : Txn). x.id.region ≢ s.number)) (sym (hold_there s txn h.0 h.1)) others
  | inr h ↦ subst (AllIn (λ (x : Txn). x.id.region ≢ s.number)) (sym (hold_new s txn h)) (all_more _ s.foreign txn others (λ own. absurd (false≢true (sym (ap is_some h) ∙ own_held s txn (agrees.own own)))))
]

pub hold_homes : (s : RegionState) (txn : Txn) → AllIn (HasHomesIn s.regions) s.foreign → HasHomesIn s.regions txn → AllIn (HasHomesIn s.regions) (kept s txn)
hold_homes s txn all valid = elim (found_or_none (s.submitted ++ s.foreign) txn.id) [
  | inl h ↦ subst (AllIn (HasHomesIn s.regions)) (sym (hold_there s txn h.0 h.1)) all
  | inr h ↦ subst (AllIn (HasHomesIn s.regions)) (sym (hold_new s txn h)) (all_more _ s.foreign txn all valid)
]

-- several that came, one after another

pub hold_all_keeps : (s : RegionState) (txns : List Txn) (id : TxnId) (other : Txn) → held s id ≡ Some other → held (hold_all s txns) id ≡ Some other
hold_all_keeps s [] id other e = e
hold_all_keeps s (txn ∷ txns) id other e = hold_all_keeps (hold s txn) txns id other (hold_keeps s txn id other e)

all_agree_after : (s : RegionState) (txn : Txn) (txns : List Txn) → AllIn (λ i. ¬ (txn.id ≡ i)) (map (λ x. x.id) txns) → AllIn (Agrees s) txns → AllIn (Agrees (hold s txn)) txns
all_agree_after s txn [] apart agree = tt
all_agree_after s txn (x ∷ txns) apart agree = (agrees_after s txn x apart.0 agree.0, all_agree_after s txn txns apart.1 agree.1)

pub hold_all_holds : (s : RegionState) (txns : List Txn) → Distinct (map (λ x. x.id) txns) → AllIn (Agrees s) txns → AllIn (λ txn. held (hold_all s txns) txn.id ≡ Some txn) txns
hold_all_holds s [] distinct agree = tt
hold_all_holds s (txn ∷ txns) distinct agree =
    (hold_all_keeps (hold s txn) txns txn.id txn (hold_holds s txn agree.0), hold_all_holds (hold s txn) txns distinct.1 (all_agree_after s txn txns distinct.0 agree.1))

pub hold_all_foreign : (s : RegionState) (txns : List Txn) → Distinct (map (λ x. x.id) txns) → AllIn (Agrees s) txns → AllIn (λ x. x.id.region ≢ s.number) s.foreign
    → AllIn (λ x. x.id.region ≢ s.number) (hold_all s txns).foreign
hold_all_foreign s [] distinct agree others = others
hold_all_foreign s (txn ∷ txns) distinct agree others =
    hold_all_foreign (hold s txn) txns distinct.1 (all_agree_after s txn txns distinct.0 agree.1) (hold_foreign s txn others agree.0)

pub hold_all_homes : (s : RegionState) (txns : List Txn) → AllIn (HasHomesIn s.regions) txns → AllIn (HasHomesIn s.regions) s.foreign → AllIn (HasHomesIn s.regions) (hold_all s txns).foreign
hold_all_homes s [] valid all = all
hold_all_homes s (txn ∷ txns) valid all = hold_all_homes (hold s txn) txns valid.1 (hold_homes s txn all valid.0)

-- what a region keeps, from what is kept without a look at what it submitted

-- a transaction of the region's own, which it submitted, is not kept a second time
pub keep_own : (number : ℕ) (submitted foreign : List Txn) (txn : Txn) → (txn.id.region ≡ number → Has submitted txn) → txn.id.region ≡ number → keep submitted foreign txn ≡ foreign
keep_own number submitted foreign txn own same = ap (λ b. cond b foreign (foreign ++ txn ∷ [])) (find_some (submitted ++ foreign) txn (has_longer submitted foreign txn (own same)))

-- one of another region is looked for only among those of others
pub keep_other : (number : ℕ) (submitted foreign : List Txn) (txn : Txn) → AreCounted number 1 submitted → txn.id.region ≢ number → keep submitted foreign txn ≡ keep [] foreign txn
keep_other number submitted foreign txn counted other = ap (λ o. cond (is_some o) foreign (foreign ++ txn ∷ [])) (find_right submitted foreign txn.id (counted_other number 1 submitted txn.id counted other))

-- what a sound region holds

-- what is held has its id, and regions as its homes
pub held_id : (s : RegionState) (id : TxnId) (txn : Txn) → held s id ≡ Some txn → txn.id ≡ id
held_id s id txn e = (found (s.submitted ++ s.foreign) id txn e).1

pub held_homes : (s : RegionState) → IsSoundRegion s → (id : TxnId) (txn : Txn) → held s id ≡ Some txn → HasHomesIn s.regions txn
held_homes s sound id txn e =
    all_get (HasHomesIn s.regions) (s.submitted ++ s.foreign) (all_append _ s.submitted s.foreign sound.submitted_homes sound.foreign_homes) txn (found (s.submitted ++ s.foreign) id txn e).0

-- a part of a region's view is a held part
pub view_parts : (s : RegionState) → IsSoundRegion s → (home : ℕ) (p : Part) → Has (log_at (view_of s.logs s.here) home) p → IsHeldPart s home p
view_parts s sound home p h =
    let log : List Part = log_at s.logs home in
    let n : ℕ = slice_index s.here.inserted home in
    let front : Has (take n log) p = subst (λ (l : List Part). Has l p) (fronts_at s.here.inserted s.logs home) h in
    all_get (IsHeldPart s home) log (sound.parts home) p (any_front _ (take n log) log (front_take n log) front)
