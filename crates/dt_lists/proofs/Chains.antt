-- Chains of steps: they join, they begin with a step, they go over to other steps, and whether there is one is decided,
-- where steps are and all of them begin in one list.
use Rattle.std.proofs.Common.{◌≡◌, ◌⊎◌, List, [], ◌∷◌, refl, sym, subst, inl, inr}
use Rattle.dt_lists.specs.Chain.{Chain, here, onward}
use Rattle.dt_lists.specs.Lists.{Has, Either}
use Rattle.dt_lists.proofs.Decided.{either_or, either_and, either_same}

pub chain_join : {A : Type 0} {Step : A → A → Type 0} {x y z : A} → Chain Step x y → Chain Step y z → Chain Step x z
chain_join a here = a
chain_join a (onward c e) = onward (chain_join a c) e

pub chain_step : {A : Type 0} {Step : A → A → Type 0} {x y : A} → Step x y → Chain Step x y
chain_step e = onward here e

pub chain_before : {A : Type 0} {Step : A → A → Type 0} {x y z : A} → Step x y → Chain Step y z → Chain Step x z
chain_before e c = chain_join (chain_step e) c

pub chain_map : {A : Type 0} {Step Other : A → A → Type 0} {x y : A} → ((a b : A) → Step a b → Other a b) → Chain Step x y → Chain Other x y
chain_map f here = here
chain_map f (onward {y = y} {z = z} c e) = onward (chain_map f c) (f y z e)

-- a chain of steps that are turned round leads back
pub chain_turned : {A : Type 0} {Step Other : A → A → Type 0} {x y : A} → ((a b : A) → Step a b → Other b a) → Chain Step x y → Chain Other y x
chain_turned f here = here
chain_turned f (onward {y = y} {z = z} c e) = chain_before (f y z e) (chain_turned f c)

-- what a step keeps, a chain keeps
pub chain_keeps : {A : Type 0} {Step : A → A → Type 0} {x y : A} (P : A → Type 0) → ((a b : A) → Step a b → P a → P b) → Chain Step x y → P x → P y
chain_keeps P f here p = p
chain_keeps P f (onward {y = y} {z = z} c e) p = f y z e (chain_keeps P f c p)

-- what a step takes back, a chain takes back
pub chain_takes_back : {A : Type 0} {Step : A → A → Type 0} {x y : A} (P : A → Type 0) → ((a b : A) → Step a b → P b → P a) → Chain Step x y → P y → P x
chain_takes_back P f here p = p
chain_takes_back P f (onward {y = y} {z = z} c e) p = chain_takes_back P f c (f y z e p)

-- a chain from u to v whose inner places are in the list
abbrev pub Via : {A : Type 0} → (A → A → Type 0) → List A → A → A → Type 0
Via Step [] u v = (u ≡ v) ⊎ Step u v
Via Step (x ∷ xs) u v = Via Step xs u v ⊎ (Via Step xs u x × Via Step xs x v)

module _ {A : Type 0} (Step : A → A → Type 0) where
  chain_of_via : (xs : List A) (u v : A) → Via Step xs u v → Chain Step u v
  chain_of_via [] u v (inl e) = subst (Chain Step u) e here
  chain_of_via [] u v (inr s) = chain_step s
  chain_of_via (x ∷ xs) u v (inl a) = chain_of_via xs u v a
  chain_of_via (x ∷ xs) u v (inr b) = chain_join (chain_of_via xs u x b.0) (chain_of_via xs x v b.1)

  via_same : (xs : List A) (u : A) → Via Step xs u u
  via_same [] u = inl refl
  via_same (x ∷ xs) u = inl (via_same xs u)

  via_step : (xs : List A) (u v : A) → Step u v → Via Step xs u v
  via_step [] u v s = inr s
  via_step (x ∷ xs) u v s = inl (via_step xs u v s)

  -- two of them join at a place in the list
  via_join : (xs : List A) (u m v : A) → Has xs m → Via Step xs u m → Via Step xs m v → Via Step xs u v
  via_join [] u m v h a b = absurd h
  via_join (x ∷ xs) u m v (inl e) a b = inr (
    subst (λ c. Via Step xs u c) (sym e) (elim a [ inl p ↦ p | inr q ↦ subst (λ c. Via Step xs u c) e q.0 ]),
    subst (λ c. Via Step xs c v) (sym e) (elim b [ inl p ↦ p | inr q ↦ subst (λ c. Via Step xs c v) e q.1 ]),
  )
  via_join (x ∷ xs) u m v (inr h) (inl a) (inl b) = inl (via_join xs u m v h a b)
  via_join (x ∷ xs) u m v (inr h) (inl a) (inr b) = inr (via_join xs u m x h a b.0, b.1)
  via_join (x ∷ xs) u m v (inr h) (inr a) (inl b) = inr (a.0, via_join xs x m v h a.1 b)
  via_join (x ∷ xs) u m v (inr h) (inr a) (inr b) = inr (a.0, b.1)

  via_of_chain : (xs : List A) → ((a b : A) → Step a b → Has xs a) → {u v : A} → Chain Step u v → Via Step xs u v
  via_of_chain xs from {u = u} here = via_same xs u
  via_of_chain xs from {u = u} (onward {y = y} {z = z} c s) = via_join xs u y z (from y z s) (via_of_chain xs from c) (via_step xs y z s)

  via_decided : ((a b : A) → Either (a ≡ b)) → ((a b : A) → Either (Step a b)) → (xs : List A) (u v : A) → Either (Via Step xs u v)
  via_decided same step [] u v = either_or (u ≡ v) (Step u v) (same u v) (step u v)
  via_decided same step (x ∷ xs) u v = either_or (Via Step xs u v) (Via Step xs u x × Via Step xs x v) (via_decided same step xs u v)
      (either_and (Via Step xs u x) (Via Step xs x v) (via_decided same step xs u x) (via_decided same step xs x v))

  pub chain_decided : ((a b : A) → Either (a ≡ b)) → ((a b : A) → Either (Step a b)) → (xs : List A) → ((a b : A) → Step a b → Has xs a) → (u v : A) → Either (Chain Step u v)
  chain_decided same step xs from u v = either_same (Via Step xs u v) (Chain Step u v) (chain_of_via xs u v) (λ c. via_of_chain xs from c) (via_decided same step xs u v)
