-- What a call of resolve may rest on.
use Rattle.std.proofs.Common.{◌≡◌, ◌≢◌, ◌∙◌, ◌+◌, ◌<◌, ◌≤◌, ◌^◌, ℕ, suc, List, [], ◌∷◌, ◌++◌, length, get_or, slice_get, Some, refl, sym, ap, subst, inl, inr, arith}
use Rattle.std.proofs.lemmas.Option.{get_or_from_slice_get}
use Rattle.dt_lists.specs.Lists.{AllIn, AnyIn, Has, Distinct}
use Rattle.dt_lists.proofs.Callers.{all_get, all_map, all_put, any_get, distinct_within, each_map, has_map, last_place, pairwise_length}
use Rattle.dt_access.specs.declared.TxnId.{TxnId}
use Rattle.dt_access.proofs.Callers.{before_differs}
use Rattle.dt_sched.specs.Views.{View, IsClass}
use Rattle.dt_sched.specs.Decide.{IsResolvable}
use Rattle.dt_sched.proofs.Callers.{class_of_member, class_unique, complete_of_closed, present_of_complete}
use Rattle.dt_waits.specs.LeftInGraph.{IsOrderly}
use Rattle.dt_waits.specs.Graph.{AllAreStuck, GraphView, KeepsGraph}
use Rattle.dt_waits.specs.Steps.{RunInOrder}
use Rattle.dt_waits.specs.Waits.{id_at}
use Rattle.dt_waits.proofs.Callers.{same_place}
use Rattle.dt_graph.proofs.ClassAnswers.{all_stuck}

-- the ids may be resolved, and what is kept is the graph
abbrev pub MayResolve : GraphView → List TxnId → Type 0
MayResolve g ids = (view : View) × (resolved : List (List TxnId)) × (done : List TxnId) × IsOrderly view resolved done × IsResolvable view resolved done ids × KeepsGraph view resolved done g

pub are_there : (g : GraphView) (ids : List TxnId) → MayResolve g ids → AllIn (Has g.ids) ids
are_there g ids r = all_map _ _ ids (λ t c. (r.5.present t).1 (present_of_complete r.0 t c)) r.4.complete

pub are_once : (g : GraphView) (ids : List TxnId) → MayResolve g ids → Distinct ids
are_once g ids r = each_map _ _ ids (λ t u b. before_differs t u b) r.4.group.1.ascending

pub are_stuck : (g : GraphView) (ids : List TxnId) → MayResolve g ids → AllAreStuck g ids
are_stuck g ids r = all_stuck r.0 r.1 r.2 r.3 g r.5 ids r.4

-- so their vertices in the order in which they run are stuck
pub run_stuck : (g : GraphView) (ids : List TxnId) (members : List ℕ) → MayResolve g ids → RunInOrder g ids members → AllIn (Has g.stuck) members
run_stuck g ids members r run = all_put _ members (λ u h.
    let a : AnyIn (λ v. id_at g.ids v ≡ id_at g.ids u) g.stuck = all_get _ ids (are_stuck g ids r) (id_at g.ids u) ((run.names (id_at g.ids u)).0 (has_map (id_at g.ids) members u h)) in
    let v : (v : ℕ) × Has g.stuck v × (id_at g.ids v ≡ id_at g.ids u) = any_get _ g.stuck a in
    subst (Has g.stuck) (same_place g.ids v.0 u r.5.once ((r.5.stuck v.0).0 v.1).0 (all_get _ members run.within u h) v.2) v.1)

-- what was pushed stands at the end
pub pushed_at : {A : Type 0} (xs : List A) (x y : A) (n : ℕ) → n ≡ length xs → y ≡ get_or (xs ++ x ∷ []) n y → y ≡ x
pushed_at xs x y n size e = e ∙ get_or_from_slice_get (xs ++ x ∷ []) n x y (subst (λ i. slice_get (xs ++ x ∷ []) i ≡ Some x) (sym size) (last_place xs x))

-- a class for each of some ids that are there, where no two of them are the same class
few_classes : (view : View) (ids : List TxnId) (classes : List (List TxnId)) → Distinct classes → AllIn (λ c. 2 ≤ length c) classes → AllIn (λ c. AllIn (λ t. IsClass view t c) c) classes
    → AllIn (AllIn (Has ids)) classes → (heads : List TxnId) × Distinct heads × (length heads ≡ length classes) × AllIn (Has ids) heads × AllIn (λ t. AnyIn (λ c. IsClass view t c) classes) heads
few_classes view ids [] once several are there = ([], tt, refl, tt, tt)
few_classes view ids ([] ∷ cs) once several are there = absurd (none several.0)
  where
    none : 2 ≤ 0 → ⊥
    none le = omega (arith, le)
few_classes view ids ((t ∷ c) ∷ cs) once several are there =
    let r = few_classes view ids cs once.1 several.1 are.1 there.1 in
    let apart : (u : TxnId) → Has r.0 u → t ≢ u = λ u h e.
    let k : (d : List TxnId) × Has cs d × IsClass view u d = any_get _ cs (all_get _ r.0 r.4 u h) in
    all_get _ cs once.0 k.0 k.1 (class_unique view t (t ∷ c) k.0 are.0.0 (subst (λ v. IsClass view v k.0) (sym e) k.2)) in
    (t ∷ r.0, (all_put _ r.0 apart, r.1), ap suc r.2, (there.0.0, r.3), (inl are.0.0, all_map _ _ r.0 (λ u a. inr a) r.4))

-- with one class more there are at most as many as ids: so the place of the next one has 32 bits
pub class_fits : (g : GraphView) (ids : List TxnId) → MayResolve g ids → length g.ids < 2 ^ 32 → length g.classes + 1 < 2 ^ 32
class_fits g ids r few =
    let view = r.0 in let resolved = r.1 in
    let sound = r.3.sound in
    let once : Distinct (ids ∷ resolved) = (all_put _ resolved (λ c h e. r.4.unresolved (subst (Has resolved) (sym e) h)), sound.resolved_once) in
    let own : AllIn (λ t. IsClass view t ids) ids = all_put _ ids (λ t h. class_of_member view r.4.group.0 t ids r.4.group.1 h) in
    let there : AllIn (AllIn (Has g.ids)) resolved = all_map _ _ resolved (λ c closed. all_put _ c (λ t h. (r.5.present t).1 (present_of_complete view t (complete_of_closed view t (all_get _ c closed t h))))) sound.resolved_closed in
    let h = few_classes view g.ids (ids ∷ resolved) once (r.4.several, sound.resolved_several) (own, sound.resolved_classes) (are_there g ids r, there) in
    fewer _ _ _ (distinct_within h.0 g.ids h.1 h.3) h.2 (pairwise_length _ resolved g.classes r.5.classes) few
  where
    fewer : (n m k : ℕ) → n ≤ m → n ≡ suc (length r.1) → length r.1 ≡ k → m < 2 ^ 32 → k + 1 < 2 ^ 32
    fewer n m k le e f lt = omega (arith, le, e, f, lt)
