-- A list of entries with a look-up by `==`, and the finite map that it makes: how a write of one entry changes both.
use Rattle.std.proofs.Common.{◌≡◌, Bool, true, false, cond, List, [], ◌∷◌, map, refl, sym, ap, ◌∙◌, subst, Option, Some, None}
use Rattle.std.specs.Option.{option_map}
use Rattle.std.specs.Cmp.{IsEquivalence}
use Rattle.std.specs.Cmp.Lexicographic.{nat_list_cmp_total, nat_list_eq_equiv}
use Rattle.std.specs.Map.{lookup}
use Rattle.std.specs.FinMap.{get, insert, from_entries, same_map}
use Rattle.std.proofs.lemmas.Map.Made.{lookup-map_values}
use Rattle.indexmap.specs.IndexMap.{insert_entry}
use Rattle.dt_lists.specs.Lists.{AllIn}
use Rattle.dt_lists.proofs.Callers.{all_get, lookup_has}
use Rattle.dt_access.specs.Clash.{Bytes, same_key}
use Rattle.dt_table.proofs.SortedEntries.{order, exact, get-lookup}
use Rattle.dt_table.proofs.TableLaws.{get-put}

module _ {K V : Type 0} (eq : K → K → Bool) where
  -- a look-up after an insert
  pub lookup-insert_entry : IsEquivalence eq → (es : List (K × V)) (k : K) (w : V) (q : K) → lookup (eq q) (insert_entry eq es k w) ≡ cond (eq k q) (Some w) (lookup (eq q) es)
  lookup-insert_entry laws [] k w q = ap (λ b. cond b (Some w) None) (laws.symm q k)
  lookup-insert_entry laws (e ∷ es) k w q =
      elim (eq k e.0) as (λ b. eq k e.0 ≡ b → lookup (eq q) (cond b ((e.0, w) ∷ es) (e ∷ insert_entry eq es k w)) ≡ cond (eq k q) (Some w) (cond (eq q e.0) (Some e.1) (lookup (eq q) es))) [
        | true ↦ λ tied.
            let alike : eq q e.0 ≡ eq k q = laws.symm q e.0 ∙ sym (laws.congr k e.0 q tied) in
            ap (λ b. cond b (Some w) (lookup (eq q) es)) alike
            ∙ elim (eq k q) as (λ b. eq q e.0 ≡ b → cond b (Some w) (lookup (eq q) es) ≡ cond b (Some w) (cond (eq q e.0) (Some e.1) (lookup (eq q) es))) [
              | true ↦ λ _. refl
              | false ↦ λ apart. ap (λ b. cond b (Some e.1) (lookup (eq q) es)) (sym apart)
            ] alike
        | false ↦ λ apart.
            ap (cond (eq q e.0) (Some e.1)) (lookup-insert_entry laws es k w q)
            ∙ elim (eq q e.0) as (λ b. eq q e.0 ≡ b → cond b (Some e.1) (cond (eq k q) (Some w) (lookup (eq q) es)) ≡ cond (eq k q) (Some w) (cond b (Some e.1) (lookup (eq q) es))) [
              | true ↦ λ tied.
                  let other : eq k q ≡ false = laws.symm k q ∙ laws.congr q e.0 k tied ∙ laws.symm e.0 k ∙ apart in
                  ap (λ b. cond b (Some w) (Some e.1)) (sym other)
              | false ↦ λ _. refl
            ] refl
      ] refl

  module _ (P : K × V → Type 0) (same : (x y : K) → eq x y ≡ true → x ≡ y) where
    -- what holds of each entry, and of the key with its new value, holds of each entry after the insert
    pub AllIn-insert_entry : (es : List (K × V)) (k : K) (w : V) → AllIn P es → P (k, w) → AllIn P (insert_entry eq es k w)
    AllIn-insert_entry [] k w all now = (now, tt)
    AllIn-insert_entry (e ∷ es) k w all now =
        elim (eq k e.0) as (λ b. eq k e.0 ≡ b → AllIn P (cond b ((e.0, w) ∷ es) (e ∷ insert_entry eq es k w))) [
          | true ↦ λ tied. (subst (λ x. P (x, w)) (same k e.0 tied) now, all.1)
          | false ↦ λ _. (all.0, AllIn-insert_entry es k w all.1 now)
        ] refl

    -- what holds of each entry holds of the one that a look-up finds
    pub AllIn-lookup : (es : List (K × V)) (k : K) (v : V) → AllIn P es → lookup (eq k) es ≡ Some v → P (k, v)
    AllIn-lookup es k v all there = all_get P es all (k, v) (lookup_has (eq k) k (λ other tied. sym (same k other tied)) es v there)

-- where the entries answer as others do with k at a new value, their map is the map of the others with it
pub insert-lookup : {X : Type 0} (es fs : List (Bytes × X)) (k : Bytes) (x : X) → ((q : Bytes) → lookup (same_key q) fs ≡ cond (same_key k q) (Some x) (lookup (same_key q) es))
    → from_entries {R = order} fs ≡ insert (from_entries es) k x
insert-lookup es fs k x answers = same_map nat_list_cmp_total exact _ _ (λ q.
    get-lookup fs q ∙ answers q ∙ ap (λ b. cond b (Some x) (lookup (same_key q) es)) (nat_list_eq_equiv.symm k q)
    ∙ sym (get-put (from_entries es) k x q ∙ ap (cond (same_key q k) (Some x)) (get-lookup es q)))

module _ {V X : Type 0} (f : V → X) where
  -- the map of the entries, with f at each value, answers f of what a look-up finds
  pub get-from_map : (es : List (Bytes × V)) (q : Bytes) → get (from_entries {R = order} (map (λ e. (e.0, f e.1)) es)) q ≡ option_map f (lookup (same_key q) es)
  get-from_map es q = get-lookup (map (λ e. (e.0, f e.1)) es) q ∙ lookup-map_values f (same_key q) es

  -- an insert into the list is an insert into the map
  pub insert-from_map : (es : List (Bytes × V)) (k : Bytes) (w : V)
      → from_entries {R = order} (map (λ e. (e.0, f e.1)) (insert_entry same_key es k w)) ≡ insert (from_entries (map (λ e. (e.0, f e.1)) es)) k (f w)
  insert-from_map es k w = insert-lookup (map (λ e. (e.0, f e.1)) es) (map (λ e. (e.0, f e.1)) (insert_entry same_key es k w)) k (f w) (λ q.
      lookup-map_values f (same_key q) (insert_entry same_key es k w)
      ∙ ap (option_map f) (lookup-insert_entry same_key nat_list_eq_equiv es k w q) ∙ by (same_key k q) (lookup (same_key q) es)
      ∙ ap (cond (same_key k q) (Some (f w))) (sym (lookup-map_values f (same_key q) es)))
    where
      by : (b : Bool) (o : Option V) → option_map f (cond b (Some w) o) ≡ cond b (Some (f w)) (option_map f o)
      by true o = refl
      by false o = refl
