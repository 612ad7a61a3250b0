-- Numbers of units that were noted: they stay noted, and a unit whose number is not noted is not among those that were.
use Rattle.std.proofs.Common.{◌≡◌, ◌∙◌, ℕ, List, [], ◌∷◌, ◌++◌, refl, subst, sym, Option, Some, None}
use Rattle.std.specs.Cmp.Lexicographic.{bytes_decides}
use Rattle.std.specs.Map.{lookup}
use Rattle.std.proofs.lemmas.List.{append_assoc, append-nil}
use Rattle.dt_lists.proofs.Callers.{all_append, all_map}
use Rattle.dt_access.specs.Clash.{Bytes, same_key}
use Rattle.dt_table.specs.MovedPlacesInner.{unit_number, IsNoted, AreNoted}
use Rattle.dt_table.proofs.Entries.{AllIn-lookup}

-- a unit that was not noted is not among those of which each was
pub none_unnoted : {V : Type 0} (after : List ℕ) (es : List (Bytes × V)) (unit : Bytes) → AreNoted after es → (IsNoted after (unit_number unit) → ⊥) → lookup (same_key unit) es ≡ None
none_unnoted {V} after es unit all unnoted = by (lookup (same_key unit) es) refl
  where
    by : (o : Option V) → lookup (same_key unit) es ≡ o → o ≡ None
    by None is = refl
    by (Some v) is = absurd (unnoted (AllIn-lookup same_key (λ e. IsNoted after (unit_number e.0)) (λ x y. (bytes_decides x y).0) es unit v all is))

-- all of these units but the last ones are noted
pub record NotedBefore {V : Type 0} (after : List ℕ) (rest : List (Bytes × V)) (all : List (Bytes × V)) : Type 0 where
  pub done : List (Bytes × V)
  pub whole : done ++ rest ≡ all
  pub noted : AreNoted after done

module _ {V : Type 0} where
  -- at first those are all
  pub noted_none : (after : List ℕ) (all : List (Bytes × V)) → NotedBefore after all all
  noted_none after all = record { done = []; whole = refl; noted = tt }

  -- then the next one is noted
  pub noted_next : (after later : List ℕ) (e : Bytes × V) (rest all : List (Bytes × V)) → NotedBefore after (e ∷ rest) all
      → IsNoted later (unit_number e.0) → ((other : ℕ) → IsNoted after other → IsNoted later other) → NotedBefore later rest all
  noted_next after later e rest all before this others =
      record {
        done = before.done ++ e ∷ [];
        whole = append_assoc before.done (e ∷ []) rest ∙ before.whole;
        noted = all_append _ before.done (e ∷ []) (all_map _ _ before.done (λ x h. others (unit_number x.0) h) before.noted) (this, tt);
      }

  -- and at the end each is
  pub noted_all : (after : List ℕ) (all : List (Bytes × V)) → NotedBefore after [] all → AreNoted after all
  noted_all after all before = subst (AreNoted after) (sym (append-nil before.done) ∙ before.whole) before.noted
