-- The class of an id exists as a list, and there is only one.
use Rattle.std.proofs.Common.{◌≡◌, ◌≢◌, ◌≤◌, List, [], ◌∷◌, length, map, refl, sym, subst, inl, inr, arith}
use Rattle.std.proofs.lemmas.List.{length-map}
use Rattle.dt_lists.specs.Lists.{AllIn, AnyIn, Distinct, EachThen, Has, Either}
use Rattle.dt_lists.proofs.Callers.{any_get, any_put, two_of_different, either_any, either_same, either_list, IsPicked, ascending_same, pick}
use Rattle.dt_lists.proofs.Callers.{all_get, all_image, all_put, chain_join, distinct_within, each_image}
use Rattle.dt_access.specs.Ids.{Before, AreAscending}
use Rattle.dt_access.specs.declared.TxnId.{TxnId}
use Rattle.dt_sched.specs.Views.{View, here, Mutual, IsClass}
use Rattle.dt_access.proofs.Callers.{before_irreflexive, before_transitive, before_total, either_id}
use Rattle.dt_sched.proofs.Reach.{ids_in, reach_listed, mutual_decided}

pub mutual_refl : (view : View) (t : TxnId) → Mutual view t t
mutual_refl view t = (here, here)

pub mutual_sym : (view : View) (u t : TxnId) → Mutual view u t → Mutual view t u
mutual_sym view u t m = (m.1, m.0)

pub mutual_trans : (view : View) (u v t : TxnId) → Mutual view u v → Mutual view v t → Mutual view u t
mutual_trans view u v t m n = (chain_join m.0 n.0, chain_join n.1 m.1)

-- those ids of a list that have P, in ascending order
pub pick_ids : (P : TxnId → Type 0) → ((u : TxnId) → Either (P u)) → (ids : List TxnId) → (picked : List TxnId) × IsPicked Before (λ u. Has ids u × P u) picked
pick_ids P d ids = pick Before before_irreflexive before_transitive before_total either_id P d ids

-- two lists of ids in ascending order with the same members are one
pub same_ids : (ids others : List TxnId) → AreAscending ids → AreAscending others → ((u : TxnId) → Has ids u → Has others u) → ((u : TxnId) → Has others u → Has ids u) → ids ≡ others
same_ids ids others a b f g = ascending_same Before before_irreflexive before_transitive ids others a b f g

pub class_of : (view : View) (t : TxnId) → (ids : List TxnId) × IsClass view t ids
class_of view t =
    let r : (ids : List TxnId) × IsPicked Before (λ u. Has (t ∷ ids_in view) u × Mutual view u t) ids = pick_ids (λ u. Mutual view u t) (λ u. mutual_decided view u t) (t ∷ ids_in view) in (
      r.0,
      record {
        ascending = r.1.ascending;
        members = λ u. (
          λ h. let m : Has (t ∷ ids_in view) u × Mutual view u t = (r.1.members u).0 h in m.1,
          λ m. (r.1.members u).1 (reach_listed view u t m.0, m),
        );
      },
    )

pub class_unique : (view : View) (t : TxnId) (ids others : List TxnId) → IsClass view t ids → IsClass view t others → ids ≡ others
class_unique view t ids others c d = same_ids ids others c.ascending d.ascending (λ u h. (d.members u).1 ((c.members u).0 h)) (λ u h. (c.members u).1 ((d.members u).0 h))

pub in_own_class : (view : View) (t : TxnId) (ids : List TxnId) → IsClass view t ids → Has ids t
in_own_class view t ids c = (c.members t).1 (mutual_refl view t)

-- a class is the class of each of its members
pub class_of_member : (view : View) (t u : TxnId) (ids : List TxnId) → IsClass view t ids → Has ids u → IsClass view u ids
class_of_member view t u ids c h =
    let m : Mutual view u t = (c.members u).0 h in
    record {
      ascending = c.ascending;
      members = λ v. (
        λ k. mutual_trans view v t u ((c.members v).0 k) (mutual_sym view u t m),
        λ n. (c.members v).1 (mutual_trans view v u t n m),
      );
    }

-- a class with a second member has at least two
pub several_in_class : (view : View) (t u : TxnId) (ids : List TxnId) → IsClass view t ids → u ≢ t → Mutual view u t → 2 ≤ length ids
several_in_class view t u ids c ne m = two_of_different ids u t ((c.members u).1 m) (in_own_class view t ids c) ne

-- the class of an id that is reached by itself alone
pub class_alone : (view : View) (t : TxnId) (ids : List TxnId) → IsClass view t ids → ((u : TxnId) → Mutual view u t → u ≡ t) → ids ≡ t ∷ []
class_alone view t ids c alone = same_ids ids (t ∷ []) c.ascending (tt, tt) (λ u h. inl (sym (alone u ((c.members u).0 h)))) (λ u h. elim h [ inl e ↦ subst (Has ids) e (in_own_class view t ids c) | inr f ↦ absurd f ])

pub class_decided : (view : View) (t : TxnId) (ids : List TxnId) → Either (IsClass view t ids)
class_decided view t ids =
    let c : (others : List TxnId) × IsClass view t others = class_of view t in
    either_same (ids ≡ c.0) (IsClass view t ids) (λ e. subst (IsClass view t) (sym e) c.1) (λ d. class_unique view t ids c.0 d c.1) (either_list ids c.0 either_id)

-- of all ids there is one whose class the list is
pub some_class_decided : (view : View) (ids : List TxnId) → Either ((t : TxnId) × IsClass view t ids)
some_class_decided view ids = either_same (AnyIn (λ t. IsClass view t ids) ids) ((t : TxnId) × IsClass view t ids)
    (λ a. let r : (t : TxnId) × Has ids t × IsClass view t ids = any_get _ ids a in (r.0, r.2))
    (λ c. any_put (λ t. IsClass view t ids) ids c.0 (in_own_class view c.0 ids c.1) c.1)
    (either_any _ ids (λ t. class_decided view t ids))

-- the first of a group
abbrev first_in : List TxnId → TxnId
first_in [] = record { seq = 0; region = 0 }
first_in (id ∷ ids) = id

first_has : (ids : List TxnId) → 2 ≤ length ids → Has ids (first_in ids)
first_has [] le = absurd (let none : 2 ≤ 0 = le in omega (arith, none))
first_has (id ∷ ids) le = inl refl

-- groups that are classes of their members, and differ, differ in their first members
firsts_apart : (view : View) (groups : List (List TxnId)) → AllIn (λ ids. 2 ≤ length ids) groups → AllIn (λ ids. AllIn (λ t. IsClass view t ids) ids) groups → Distinct groups
    → EachThen (λ a b. ¬ (first_in a ≡ first_in b)) groups
firsts_apart view [] several classes once = tt
firsts_apart view (ids ∷ groups) several classes once = (
  all_put (λ b. ¬ (first_in ids ≡ first_in b)) groups (λ b h same.
      all_get (λ c. ¬ (ids ≡ c)) groups once.0 b h
      (class_unique view (first_in ids) ids b (all_get (λ t. IsClass view t ids) ids classes.0 (first_in ids) (first_has ids several.0))
      (subst (λ t. IsClass view t b) (sym same)
      (all_get (λ t. IsClass view t b) b (all_get (λ c. AllIn (λ t. IsClass view t c) c) groups classes.1 b h) (first_in b) (first_has b (all_get (λ c. 2 ≤ length c) groups several.1 b h)))))),
  firsts_apart view groups several.1 classes.1 once.1,
)

-- so such groups are no more than the ids among which their members are
pub few_groups : (view : View) (groups : List (List TxnId)) → AllIn (λ ids. 2 ≤ length ids) groups → AllIn (λ ids. AllIn (λ t. IsClass view t ids) ids) groups → Distinct groups
    → (known : List TxnId) → AllIn (AllIn (Has known)) groups → length groups ≤ length known
few_groups view groups several classes once known members =
    let firsts : Distinct (map first_in groups) = each_image (λ a b. ¬ (a ≡ b)) first_in groups (firsts_apart view groups several classes once) in
    let first_known : AllIn (Has known) (map first_in groups) = all_image (Has known) first_in groups
    (all_put (λ ids. Has known (first_in ids)) groups
    (λ ids h. all_get (Has known) ids (all_get (AllIn (Has known)) groups members ids h) (first_in ids) (first_has ids (all_get (λ c. 2 ≤ length c) groups several ids h)))) in
    subst (λ n. n ≤ length known) (length-map groups first_in) (distinct_within (map first_in groups) known firsts first_known)
