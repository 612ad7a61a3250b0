-- Keys: the test whether two are the same, and their order.
use Rattle.std.proofs.Common.{◌≡◌, Bool, true, false, refl, ap, ◌∙◌}
use Rattle.std.specs.Ordering.{nat_cmp, is_eq, ordering_reverse}
use Rattle.std.specs.declared.cmp.Ordering.TheVariants.{Equal, Greater}
use Rattle.std.specs.Cmp.Lexicographic.{slice_cmp, texts_ties, nat_list_cmp_total, nat_list_eq_equiv, bytes_decides}
use Rattle.dt_lists.proofs.Callers.{Tells}
use Rattle.dt_text.specs.Texts.{Bytes}
use Rattle.dt_access.specs.Clash.{same_key}
use Rattle.dt_access.specs.Orders.{KeyBefore}

-- the test whether two keys are the same, and what it says
pub test_of_key : (a b : Bytes) → a ≡ b → same_key a b ≡ true
test_of_key a b e = (bytes_decides a b).1 e

pub key_of_test : (a b : Bytes) → same_key a b ≡ true → a ≡ b
key_of_test a b e = (bytes_decides a b).0 e

pub same_key_self : (key : Bytes) → same_key key key ≡ true
same_key_self key = nat_list_eq_equiv.refl key

pub same_key_other : (q key : Bytes) → ¬ (q ≡ key) → same_key q key ≡ false
same_key_other q key apart = by (same_key q key) refl
  where
    by : (b : Bool) → same_key q key ≡ b → b ≡ false
    by true e = absurd (apart (key_of_test q key e))
    by false e = refl

pub tells_key : Tells same_key
tells_key = record { of_test = key_of_test; of_self = same_key_self }

-- keys of which one is less are not the same
pub same_key_before : (a b : Bytes) → KeyBefore a b → same_key a b ≡ false
same_key_before a b h = texts_ties a b ∙ ap is_eq h

pub same_key_after : (a b : Bytes) → KeyBefore b a → same_key a b ≡ false
same_key_after a b h = texts_ties a b ∙ ap is_eq (nat_list_cmp_total.antisymm a b ∙ ap ordering_reverse h)

-- keys that compare as equal are the same
pub same_key_equal : (a b : Bytes) → slice_cmp nat_cmp a b ≡ Equal → same_key a b ≡ true
same_key_equal a b h = texts_ties a b ∙ ap is_eq h

-- what compares as greater is after
pub key_before_flip : (a b : Bytes) → slice_cmp nat_cmp a b ≡ Greater → KeyBefore b a
key_before_flip a b h = nat_list_cmp_total.antisymm b a ∙ ap ordering_reverse h
