-- What is decided: combinators by which a statement on lists is decided when its parts are.
use Rattle.std.proofs.Common.{◌≡◌, ◌≤◌, ◌⊎◌, ℕ, Bool, true, false, List, [], ◌∷◌, refl, sym, inl, inr, true≢false, arith}
use Rattle.dt_lists.specs.Lists.{AnyIn, AllIn, SomeThen, Has, Either}

pub either_not : (P : Type 0) → Either P → Either (¬ P)
either_not P (inl p) = inr (λ n. n p)
either_not P (inr n) = inl n

pub either_and : (P Q : Type 0) → Either P → Either Q → Either (P × Q)
either_and P Q (inl p) (inl q) = inl (p, q)
either_and P Q (inl p) (inr n) = inr (λ b. n b.1)
either_and P Q (inr n) q = inr (λ b. n b.0)

pub either_and3 : (P Q R : Type 0) → Either P → Either Q → Either R → Either (P × Q × R)
either_and3 P Q R (inl p) (inl q) (inl r) = inl (p, q, r)
either_and3 P Q R (inl p) (inl q) (inr n) = inr (λ b. n b.2)
either_and3 P Q R (inl p) (inr n) r = inr (λ b. n b.1)
either_and3 P Q R (inr n) q r = inr (λ b. n b.0)

pub either_or : (P Q : Type 0) → Either P → Either Q → Either (P ⊎ Q)
either_or P Q (inl p) q = inl (inl p)
either_or P Q (inr n) (inl q) = inl (inr q)
either_or P Q (inr n) (inr m) = inr (elim [ inl p ↦ n p | inr q ↦ m q ])

pub either_implies : (P Q : Type 0) → Either P → Either Q → Either (P → Q)
either_implies P Q p (inl q) = inl (λ h. q)
either_implies P Q (inl p) (inr m) = inr (λ f. m (f p))
either_implies P Q (inr n) (inr m) = inl (λ p. absurd (n p))

-- two statements that imply each other are decided alike
pub either_same : (P Q : Type 0) → (P → Q) → (Q → P) → Either P → Either Q
either_same P Q f g (inl p) = inl (f p)
either_same P Q f g (inr n) = inr (λ q. n (g q))

pub either_any : {A : Type 0} (P : A → Type 0) (xs : List A) → ((x : A) → Either (P x)) → Either (AnyIn P xs)
either_any P [] d = inr (λ e. e)
either_any P (x ∷ xs) d = either_or (P x) (AnyIn P xs) (d x) (either_any P xs d)

pub either_all : {A : Type 0} (P : A → Type 0) (xs : List A) → ((x : A) → Either (P x)) → Either (AllIn P xs)
either_all P [] d = inl tt
either_all P (x ∷ xs) d = either_and (P x) (AllIn P xs) (d x) (either_all P xs d)

pub either_some : {A : Type 0} (R : A → A → Type 0) (xs : List A) → ((x y : A) → Either (R x y)) → Either (SomeThen R xs)
either_some R [] d = inr (λ e. e)
either_some R (x ∷ xs) d = either_or (AnyIn (R x) xs) (SomeThen R xs) (either_any (R x) xs (d x)) (either_some R xs d)

pub either_has : {A : Type 0} (xs : List A) (x : A) → ((a b : A) → Either (a ≡ b)) → Either (Has xs x)
either_has xs x d = either_any (λ y. y ≡ x) xs (λ y. d y x)

pub either_nat : (a b : ℕ) → Either (a ≡ b)
either_nat a b = grind arith

pub either_le : (a b : ℕ) → Either (a ≤ b)
either_le a b = grind arith

pub either_true : (b : Bool) → Either (b ≡ true)
either_true true = inl refl
either_true false = inr (λ e. true≢false (sym e))

pub either_list : {A : Type 0} (xs ys : List A) → ((a b : A) → Either (a ≡ b)) → Either (xs ≡ ys)
either_list [] [] d = inl refl
either_list [] (y ∷ ys) d = inr (λ e. cc)
either_list (x ∷ xs) [] d = inr (λ e. cc)
either_list (x ∷ xs) (y ∷ ys) d = both (d x y) (either_list xs ys d)
  where
    both : Either (x ≡ y) → Either (xs ≡ ys) → Either (x ∷ xs ≡ y ∷ ys)
    both (inl e) (inl f) = inl (cc)
    both (inl e) (inr n) = inr (λ f. n (cc))
    both (inr n) f = inr (λ g. n (cc))
