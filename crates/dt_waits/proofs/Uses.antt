-- The entries that wait stay the uses of what is left: when a part is inserted and its uses are pushed, and when vertices
-- leave and their entries are taken out.
use Rattle.std.proofs.Common.{◌≡◌, ◌<◌, ◌⊎◌, ◌↔◌, ◌∙◌, ℕ, Bool, true, List, [], ◌∷◌, ◌++◌, length, filter, refl, sym, ap, subst, inl, inr}
use Rattle.std.proofs.lemmas.List.{get_or-set_same, map-append}
use Rattle.dt_lists.specs.Lists.{AnyIn, AllIn, Has, EachThen}
use Rattle.dt_lists.proofs.Callers.{all_get, all_put, all_map, all_append, any_get, any_put, any_map, any_from_at, any_append, any_append_left, any_append_right, any_image, any_of_image}
use Rattle.dt_lists.proofs.Callers.{each_append, filter_each, filter_all, has_filter, has_of_filtered, has_last}
use Rattle.dt_access.specs.Ids.{StandsBefore}
use Rattle.dt_access.specs.Clash.{Bytes}
use Rattle.dt_access.specs.declared.access.Mode.{Mode}
use Rattle.dt_access.specs.declared.TxnId.{TxnId}
use Rattle.dt_access.specs.declared.Part.{Part}
use Rattle.dt_sched.specs.Views.{View, log_at, ids_of, HasPart, IsWellFormed, IsPresent}
use Rattle.dt_sched.specs.Sched.{CanInsert, with_part}
use Rattle.dt_sched.proofs.Callers.{has_with_part, log_with_part, with_part_well_formed}
use Rattle.dt_queue.specs.Queues.{Waiting, HasDistinctSlots}
use Rattle.dt_waits.specs.LeftInGraph.{IsLeft}
use Rattle.dt_waits.specs.Waits.{id_at, IsUseOf, WaitsWith, FollowsLog, AreUses}

-- what stands before what in a list with one more at its end
stands_more : (xs : List TxnId) (y a b : TxnId) → StandsBefore (xs ++ y ∷ []) a b → StandsBefore xs a b ⊎ (Has xs a × (y ≡ b))
stands_more [] y a b (inl e) = absurd e
stands_more [] y a b (inr e) = absurd e
stands_more (x ∷ xs) y a b (inl e) = elim (any_append _ xs (y ∷ []) e) [
  | inl k ↦ inl (inl k)
  | inr k ↦ elim k [ inl r ↦ inr (inl r.0, r.1) | inr f ↦ absurd f ]
]
stands_more (x ∷ xs) y a b (inr s) = elim (stands_more xs y a b s) [ inl k ↦ inl (inr k) | inr r ↦ inr (inr r.0, r.1) ]

stands_first : (xs : List TxnId) (a b : TxnId) → StandsBefore xs a b → Has xs a
stands_first [] a b s = absurd s
stands_first (x ∷ xs) a b (inl e) = let r : (y : TxnId) × Has xs y × ((x ≡ a) × (y ≡ b)) = any_get _ xs e in inl r.2.0
stands_first (x ∷ xs) a b (inr s) = inr (stands_first xs a b s)

-- the log of its home has the part at its back
pub part_there : (view : View) (part : Part) → CanInsert view part → log_at (with_part view part) part.home ≡ log_at view part.home ++ part ∷ []
part_there view part can = get_or-set_same view part.home (log_at view part.home ++ part ∷ []) [] (all_get (λ home. home < length view) part.homes can.within part.home can.homed)

module _ (view : View) (done ids : List TxnId) (waiting : List Waiting) (part : Part) (well : IsWellFormed view) (can : CanInsert view part) (uses : AreUses view done ids waiting)
    (later : List TxnId) (v : ℕ) (more : List Waiting)
    (kept : (u : ℕ) → u < length ids → (u < length later) × (id_at later u ≡ id_at ids u)) (within : v < length later) (named : id_at later v ≡ part.id)
    (distinct : HasDistinctSlots (waiting ++ more)) (of_part : AllIn (λ w. (w.home ≡ part.home) × (w.vertex ≡ v) × Has part.keys (w.key, w.mode)) more)
    (all_uses : (way : Bytes × Mode) → Has part.keys way → AnyIn (λ w. (w.key, w.mode) ≡ way) more)
    (left : (t : TxnId) → IsLeft view done t → IsLeft (with_part view part) done t) (left_back : (t : TxnId) → IsPresent view t → IsLeft (with_part view part) done t → IsLeft view done t)
    (part_left : IsLeft (with_part view part) done part.id) where
  old_id : (w : Waiting) → Has waiting w → id_at later w.vertex ≡ id_at ids w.vertex
  old_id w h = (kept w.vertex (all_get _ waiting uses.vertices w h)).1

  new_id : (w : Waiting) → Has more w → id_at later w.vertex ≡ part.id
  new_id w h = ap (id_at later) (all_get _ more of_part w h).1 ∙ named

  in_longer : (home : ℕ) (p : Part) → Has (log_at view home) p → Has (log_at (with_part view part) home) p
  in_longer home p h = elim (log_with_part view part home) [
    | inl e ↦ subst (λ log. Has log p) (sym e.1) (any_append_left (λ y. y ≡ p) (log_at view home) (part ∷ []) h)
    | inr e ↦ subst (λ log. Has log p) (sym e) h
  ]

  -- an id stands before another one in a longer log, where neither is the part's: it did so before
  stands_back : (home : ℕ) (a b : TxnId) → Has (ids_of (log_at view home)) b → StandsBefore (ids_of (log_at (with_part view part) home)) a b → StandsBefore (ids_of (log_at view home)) a b
  stands_back home a b h s = elim (log_with_part view part home) [
    | inl e ↦ elim (stands_more (ids_of (log_at view home)) part.id a b (subst (λ l. StandsBefore l a b) (ap ids_of e.1 ∙ map-append (λ p. p.id) (log_at view home) (part ∷ [])) s)) [
      | inl k ↦ k
      | inr r ↦ absurd (absent home e.0 (subst (Has (ids_of (log_at view home))) (sym r.1) h))
    ]
    | inr e ↦ subst (λ log. StandsBefore (ids_of log) a b) e s
  ]
    where
      absent : (home : ℕ) → home ≡ part.home → Has (ids_of (log_at view home)) part.id → ⊥
      absent home e h = can.fresh (subst (λ h. HasPart (log_at view h) part.id) e (any_of_image (λ y. y ≡ part.id) (λ p. p.id) (log_at view home) h))

  -- the part's id stands before nothing in its log
  stands_not : (b : TxnId) → ¬ (StandsBefore (ids_of (log_at (with_part view part) part.home)) part.id b)
  stands_not b s = can.fresh (any_of_image (λ y. y ≡ part.id) (λ p. p.id) (log_at view part.home)
      (elim (stands_more (ids_of (log_at view part.home)) part.id part.id b (subst (λ l. StandsBefore l part.id b) (ap ids_of (part_there view part can) ∙ map-append (λ p. p.id) (log_at view part.home) (part ∷ [])) s)) [
        | inl k ↦ stands_first (ids_of (log_at view part.home)) part.id b k
        | inr r ↦ r.0
      ]))

  id_in_log : (w : Waiting) → Has waiting w → Has (ids_of (log_at view w.home)) (id_at ids w.vertex)
  id_in_log w h = any_image (λ y. y ≡ id_at ids w.vertex) (λ p. p.id) (log_at view w.home) (any_map _ _ (log_at view w.home) (λ p u. u.0) (all_get _ waiting uses.of_parts w h))

  in_order_old : (v w : Waiting) → Has waiting v → Has waiting w → FollowsLog view ids v w → FollowsLog (with_part view part) later v w
  in_order_old v w hv hw f e s = f e (stands_back v.home (id_at ids w.vertex) (id_at ids v.vertex) (id_in_log v hv)
      (subst (λ x. StandsBefore (ids_of (log_at (with_part view part) v.home)) x (id_at ids v.vertex)) (old_id w hw) (subst (StandsBefore (ids_of (log_at (with_part view part) v.home)) (id_at later w.vertex)) (old_id v hv) s)))

  in_order_new : (v w : Waiting) → Has more w → FollowsLog (with_part view part) later v w
  in_order_new v w hw e s = stands_not (id_at later v.vertex)
      (subst (λ h. StandsBefore (ids_of (log_at (with_part view part) h)) part.id (id_at later v.vertex)) (e ∙ (all_get _ more of_part w hw).0)
      (subst (λ x. StandsBefore (ids_of (log_at (with_part view part) v.home)) x (id_at later v.vertex)) (new_id w hw) s))

  each_old : (entries : List Waiting) → ((w : Waiting) → Has entries w → Has waiting w) → EachThen (FollowsLog view ids) entries → EachThen (FollowsLog (with_part view part) later) entries
  each_old [] among each = tt
  each_old (x ∷ xs) among each = (all_put _ xs (λ w h. in_order_old x w (among x (inl refl)) (among w (inr h)) (all_get _ xs each.0 w h)), each_old xs (λ w h. among w (inr h)) each.1)

  each_new : (entries : List Waiting) → ((w : Waiting) → Has entries w → Has more w) → EachThen (FollowsLog (with_part view part) later) entries
  each_new [] among = tt
  each_new (x ∷ xs) among = (all_put _ xs (λ w h. in_order_new x w (among w (inr h))), each_new xs (λ w h. among w (inr h)))

  pub uses_inserted : AreUses (with_part view part) done later (waiting ++ more)
  uses_inserted = record {
    distinct = distinct;
    vertices = all_append _ waiting more (all_map _ _ waiting (λ w lt. (kept w.vertex lt).0) uses.vertices) (all_map _ _ more (λ w f. subst (λ u. u < length later) (sym f.1) within) of_part);
    of_parts = all_append _ waiting more
        (all_put _ waiting (λ w h. any_get_longer w h))
        (all_put _ more (λ w h. let f : (w.home ≡ part.home) × (w.vertex ≡ v) × Has part.keys (w.key, w.mode) = all_get _ more of_part w h in
        any_put (IsUseOf later w) (log_at (with_part view part) w.home) part (subst (λ home. Has (log_at (with_part view part) home) part) (sym f.0) there) (sym (new_id w h), f.2)));
    of_left = all_append _ waiting more
        (all_put _ waiting (λ w h. subst (IsLeft (with_part view part) done) (sym (old_id w h)) (left (id_at ids w.vertex) (all_get _ waiting uses.of_left w h))))
        (all_put _ more (λ w h. subst (IsLeft (with_part view part) done) (sym (new_id w h)) part_left));
    all_wait = λ home p way h l k. elim (has_with_part view part home p h) [ inl e ↦ of_new home p way h e k | inr o ↦ of_old home p way o l k ];
    in_order = each_append _ waiting more (each_old waiting (λ w h. h) uses.in_order) (all_put _ waiting (λ v h. all_put _ more (λ w k. in_order_new v w k))) (each_new more (λ w h. h));
  }
    where
      there : Has (log_at (with_part view part) part.home) part
      there = subst (λ log. Has log part) (sym (part_there view part can)) (has_last (log_at view part.home) part)

      any_get_longer : (w : Waiting) → Has waiting w → AnyIn (IsUseOf later w) (log_at (with_part view part) w.home)
      any_get_longer w h =
          let r : (p : Part) × Has (log_at view w.home) p × IsUseOf ids w p = any_get _ (log_at view w.home) (all_get _ waiting uses.of_parts w h) in
          any_put (IsUseOf later w) (log_at (with_part view part) w.home) r.0 (in_longer w.home r.0 r.1) (r.2.0 ∙ sym (old_id w h), r.2.1)

      of_old : (home : ℕ) (p : Part) (way : Bytes × Mode) → Has (log_at view home) p → IsLeft (with_part view part) done p.id → Has p.keys way → AnyIn (WaitsWith later home p.id way) (waiting ++ more)
      of_old home p way o l k =
          let r : (w : Waiting) × Has waiting w × WaitsWith ids home p.id way w = any_get _ waiting (uses.all_wait home p way o (left_back p.id (present_at home p o) l) k) in
          any_append_left _ waiting more (any_put (WaitsWith later home p.id way) waiting r.0 r.1 (r.2.0, old_id r.0 r.1 ∙ r.2.1, r.2.2))
        where
          present_at : (home : ℕ) (p : Part) → Has (log_at view home) p → IsPresent view p.id
          present_at home p o = any_from_at (λ log. HasPart log p.id) [] view home (λ e. e) (any_put _ (log_at view home) p o refl)

      of_new : (home : ℕ) (p : Part) (way : Bytes × Mode) → Has (log_at (with_part view part) home) p → p ≡ part → Has p.keys way → AnyIn (WaitsWith later home p.id way) (waiting ++ more)
      of_new home p way h e k = any_append_right _ waiting more
          (let r : (w : Waiting) × Has more w × ((w.key, w.mode) ≡ way) = any_get _ more (all_uses way (subst (λ q. Has q.keys way) e k)) in
          any_put (WaitsWith later home p.id way) more r.0 r.1 ((all_get _ more of_part r.0 r.1).0 ∙ at_home, new_id r.0 r.1 ∙ ap (λ q. q.id) (sym e), r.2))
        where
          at_home : part.home ≡ home
          at_home = ap (λ q. q.home) (sym e) ∙ (all_get _ (log_at (with_part view part) home) ((with_part_well_formed view part well can).homed home) p h).0

-- the uses of what stays, where some vertices leave
module _ (view : View) (done later ids : List TxnId) (waiting : List Waiting) (uses : AreUses view done ids waiting) (keep : Waiting → Bool)
    (stays : (w : Waiting) → Has waiting w → (keep w ≡ true) ↔ IsLeft view later (id_at ids w.vertex)) (left_before : (t : TxnId) → IsLeft view later t → IsLeft view done t) where
  pub uses_left : AreUses view later ids (filter keep waiting)
  uses_left = record {
    distinct = filter_each _ keep waiting uses.distinct;
    vertices = filter_all _ keep waiting uses.vertices;
    of_parts = filter_all _ keep waiting uses.of_parts;
    of_left = all_put _ (filter keep waiting) (λ w h. let r : Has waiting w × (keep w ≡ true) = has_of_filtered keep waiting w h in (stays w r.0).0 r.1);
    all_wait = λ home p way h l k.
        let r : (w : Waiting) × Has waiting w × WaitsWith ids home p.id way w = any_get _ waiting (uses.all_wait home p way h (left_before p.id l) k) in
        any_put _ (filter keep waiting) r.0 (has_filter keep waiting r.0 r.1 ((stays r.0 r.1).1 (subst (IsLeft view later) (sym r.2.1) l))) r.2;
    in_order = filter_each _ keep waiting uses.in_order;
  }
