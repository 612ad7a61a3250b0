-- The entries of vertices are taken out slot by slot, vertex by vertex: what is still to go leaves of what waits just what is
-- to stay of all.
use Rattle.std.proofs.Common.{◌≡◌, ◌≢◌, ◌⊎◌, ◌∙◌, ℕ, true, false, ◌&&◌, ◌==◌, not, List, []}
use Rattle.std.proofs.Common.{◌∷◌, map, filter, refl, sym, ap, subst, inl, inr, eqb-true, eq-eqb}
use Rattle.std.specs.List.{list_any}
use Rattle.std.proofs.lemmas.Bool.{cases_Bool, false_from_ne_true}
use Rattle.dt_lists.specs.Lists.{AnyIn, AllIn, Has, Distinct}
use Rattle.dt_lists.proofs.Callers.{all_get, all_put, any_get, any_map, any_of_image, any_of_test, filter_each, has_filter, has_map, has_of_filtered, test_of_any}
use Rattle.dt_queue.specs.Queues.{HasDistinctSlots, IsQueued, Waiting, taken_out}
use Rattle.dt_queue.proofs.Callers.{waits_without}
use Rattle.dt_waits.specs.declared.vertex.Vertex.{Vertex}
use Rattle.dt_waits.specs.Waits.{is_leaving, is_of, slots_of}
use Rattle.dt_waits.specs.Graph.{vertex_at}
use Rattle.dt_waits.specs.Steps.{HaveSlots}
use Rattle.dt_waits.proofs.Callers.{filter_both, filter_same, slot_other}
use Rattle.dt_graph.proofs.WaitEdges.{slots_wait}

-- the entries but those at the slots
abbrev pub without_slots : List ℕ → List Waiting → List Waiting
without_slots slots waiting = filter (λ w. not (is_leaving slots w.slot)) waiting

-- the entries but those of the vertices
abbrev pub without_vertices : List ℕ → List Waiting → List Waiting
without_vertices leaving waiting = filter (λ w. not (is_leaving leaving w.vertex)) waiting

-- the entries at the slots of a list are taken out, but for the rest of them, which still wait
pub record IsTakingOut (slots rest : List ℕ) (old now : List Waiting) : Type 0 where
  pub once : Distinct rest
  pub wait : AllIn (IsQueued now) rest
  pub stays : without_slots rest now ≡ without_slots slots old

turned : (a b : ℕ) → (a == b) ≡ (b == a)
turned a b = by (cases_Bool (b == a))
  where
    by : ((b == a) ≡ true) ⊎ ((b == a) ≡ false) → (a == b) ≡ (b == a)
    by (inl e) = eq-eqb a b (sym (eqb-true b a e)) ∙ sym e
    by (inr e) = false_from_ne_true (a == b) (λ f. let t : (b == a) ≡ true = eq-eqb b a (sym (eqb-true a b f)) in cc) ∙ sym e

-- neither the one nor one of the others
neither : (xs : List ℕ) (y x : ℕ) → (not (list_any (λ s. s == x) xs) && not (y == x)) ≡ not (list_any (λ s. s == x) (y ∷ xs))
neither xs y x = by (cases_Bool (y == x)) (cases_Bool (list_any (λ s. s == x) xs))
  where
    by : ((y == x) ≡ true) ⊎ ((y == x) ≡ false) → (list_any (λ s. s == x) xs ≡ true) ⊎ (list_any (λ s. s == x) xs ≡ false)
        → (not (list_any (λ s. s == x) xs) && not (y == x)) ≡ not (list_any (λ s. s == x) (y ∷ xs))
    by (inl e) (inl f) = rw (e, f) refl
    by (inl e) (inr f) = rw (e, f) refl
    by (inr e) (inl f) = rw (e, f) refl
    by (inr e) (inr f) = rw (e, f) refl

module _ (slots : List ℕ) (old : List Waiting) where
  pub taking_on : (rest : List ℕ) (now : List Waiting) → IsTakingOut slots rest old now → (slot : ℕ) (more : List ℕ) → rest ≡ slot ∷ more → IsTakingOut slots more old (taken_out now slot)
  taking_on rest now t slot more next = by (subst (λ l. IsTakingOut slots l old now) next t)
    where
      by : IsTakingOut slots (slot ∷ more) old now → IsTakingOut slots more old (taken_out now slot)
      by t = record {
        once = t.once.1;
        wait = all_put _ more (λ s h. waits_without now slot s (λ e. all_get _ more t.once.0 s h (sym e)) (all_get _ more t.wait.1 s h));
        stays = filter_both _ _ now ∙ filter_same _ _ now (λ w h. ap (λ b. not (is_leaving more w.slot) && not b) (turned w.slot slot) ∙ neither more slot w.slot) ∙ t.stays;
      }

  pub taking_ends : (rest : List ℕ) (now : List Waiting) → IsTakingOut slots rest old now → rest ≡ [] → now ≡ without_slots slots old
  taking_ends rest now t none = sym (all_stay now) ∙ ap (λ l. without_slots l now) (sym none) ∙ t.stays
    where
      all_stay : (ws : List Waiting) → without_slots [] ws ≡ ws
      all_stay [] = refl
      all_stay (w ∷ ws) = ap (λ l. w ∷ l) (all_stay ws)

-- no two slots of a vertex are the same
pub slots_once : (waiting : List Waiting) (v : ℕ) → HasDistinctSlots waiting → Distinct (slots_of waiting v)
slots_once waiting v distinct = each_of_slots (filter (is_of v) waiting) (filter_each (λ u w. u.slot ≢ w.slot) (is_of v) waiting distinct)
  where
    all_of_slots : (x : ℕ) (ws : List Waiting) → AllIn (λ w. x ≢ w.slot) ws → AllIn (λ s. ¬ (x ≡ s)) (map (λ w. w.slot) ws)
    all_of_slots x [] a = tt
    all_of_slots x (w ∷ ws) a = (a.0, all_of_slots x ws a.1)

    each_of_slots : (ws : List Waiting) → HasDistinctSlots ws → Distinct (map (λ w. w.slot) ws)
    each_of_slots [] d = tt
    each_of_slots (w ∷ ws) d = (all_of_slots w.slot ws d.0, each_of_slots ws d.1)

-- an entry is at one of the slots of a vertex just where it is of the vertex
slots_tell : (waiting : List Waiting) (v : ℕ) → HasDistinctSlots waiting → (w : Waiting) → Has waiting w → is_leaving (slots_of waiting v) w.slot ≡ (v == w.vertex)
slots_tell waiting v distinct w h = by (cases_Bool (v == w.vertex))
  where
    one : (ws : List Waiting) → HasDistinctSlots ws → (a b : Waiting) → Has ws a → Has ws b → a.slot ≡ b.slot → a ≡ b
    one [] d a b ha hb e = absurd ha
    one (x ∷ xs) d a b (inl e) (inl f) s = sym e ∙ f
    one (x ∷ xs) d a b (inl e) (inr hb) s = absurd (all_get _ xs d.0 b hb (ap (λ u. u.slot) e ∙ s))
    one (x ∷ xs) d a b (inr ha) (inl f) s = absurd (all_get _ xs d.0 a ha (ap (λ u. u.slot) f ∙ sym s))
    one (x ∷ xs) d a b (inr ha) (inr hb) s = one xs d.1 a b ha hb s

    of_slots : is_leaving (slots_of waiting v) w.slot ≡ true → w.vertex ≡ v
    of_slots e =
        let s : AnyIn (λ s. s ≡ w.slot) (slots_of waiting v) = any_map _ _ (slots_of waiting v) (λ s t. eqb-true s w.slot t) (any_of_test (λ s. s == w.slot) (slots_of waiting v) e) in
        let u : (u : Waiting) × Has (filter (is_of v) waiting) u × (u.slot ≡ w.slot) = any_get _ (filter (is_of v) waiting) (any_of_image (λ s. s ≡ w.slot) (λ w. w.slot) (filter (is_of v) waiting) s) in
        let k : Has waiting u.0 × (is_of v u.0 ≡ true) = has_of_filtered (is_of v) waiting u.0 u.1 in
        ap (λ x. x.vertex) (sym (one waiting distinct u.0 w k.0 h u.2)) ∙ eqb-true u.0.vertex v k.1

    by : ((v == w.vertex) ≡ true) ⊎ ((v == w.vertex) ≡ false) → is_leaving (slots_of waiting v) w.slot ≡ (v == w.vertex)
    by (inl e) = test_of_any (λ s. s == w.slot) (slots_of waiting v)
        (any_map _ _ (slots_of waiting v) (λ s t. eq-eqb s w.slot t) (has_map (λ w. w.slot) (filter (is_of v) waiting) w (has_filter (is_of v) waiting w h (eq-eqb w.vertex v (sym (eqb-true v w.vertex e)))))) ∙ sym e
    by (inr e) = false_from_ne_true _ (λ t. let f : (v == w.vertex) ≡ true = eq-eqb v w.vertex (sym (of_slots t)) in cc) ∙ sym e

-- the entries of the vertices of a list are taken out, but for the rest of them, whose slots are still kept
pub record IsEmptying (vertices : List Vertex) (leaving rest : List ℕ) (old now : List Waiting) : Type 0 where
  pub once : Distinct rest
  pub distinct : HasDistinctSlots now
  pub slots : HaveSlots now vertices rest
  pub stays : without_vertices rest now ≡ without_vertices leaving old

module _ (vertices : List Vertex) (leaving : List ℕ) (old : List Waiting) where
  pub emptying_on : (rest : List ℕ) (now : List Waiting) → IsEmptying vertices leaving rest old now → (v : ℕ) (more : List ℕ) → rest ≡ v ∷ more → (after : List Waiting)
      → after ≡ without_slots (vertex_at vertices v).slots now → IsEmptying vertices leaving more old after
  emptying_on rest now t v more next after is = subst (IsEmptying vertices leaving more old) (sym is) (by (subst (λ l. IsEmptying vertices leaving l old now) next t))
    where
      by : IsEmptying vertices leaving (v ∷ more) old now → IsEmptying vertices leaving more old (without_slots (vertex_at vertices v).slots now)
      by t = record {
        once = t.once.1;
        distinct = filter_each (λ u w. u.slot ≢ w.slot) (λ w. not (is_leaving (vertex_at vertices v).slots w.slot)) now t.distinct;
        slots = all_put _ more (λ u h. (
          (all_get _ more t.slots.1 u h).0,
          (all_get _ more t.slots.1 u h).1 ∙ ap (map (λ w. w.slot)) (sym (filter_both (is_of u) _ now ∙ filter_same _ (is_of u) now (λ w m. stay u (all_get _ more t.once.0 u h) w (tell w m)))),
        ));
        stays = filter_both _ _ now ∙ filter_same _ _ now (λ w h. ap (λ b. not (is_leaving more w.vertex) && not b) (tell w h) ∙ neither more v w.vertex) ∙ t.stays;
      }
        where
          tell : (w : Waiting) → Has now w → is_leaving (vertex_at vertices v).slots w.slot ≡ (v == w.vertex)
          tell w h = ap (λ l. is_leaving l w.slot) t.slots.0.1 ∙ slots_tell now v t.distinct w h

          stay : (u : ℕ) → ¬ (v ≡ u) → (w : Waiting) → is_leaving (vertex_at vertices v).slots w.slot ≡ (v == w.vertex)
              → (is_of u w && not (is_leaving (vertex_at vertices v).slots w.slot)) ≡ is_of u w
          stay u ne w told = cases (cases_Bool (w.vertex == u))
            where
              cases : ((w.vertex == u) ≡ true) ⊎ ((w.vertex == u) ≡ false) → (is_of u w && not (is_leaving (vertex_at vertices v).slots w.slot)) ≡ is_of u w
              cases (inl e) = rw (e, told ∙ slot_other v w.vertex (λ f. ne (f ∙ eqb-true w.vertex u e))) refl
              cases (inr e) = rw e refl

  pub emptying_ends : (rest : List ℕ) (now : List Waiting) → IsEmptying vertices leaving rest old now → rest ≡ [] → now ≡ without_vertices leaving old
  emptying_ends rest now t none = sym (all_stay now) ∙ ap (λ l. without_vertices l now) (sym none) ∙ t.stays
    where
      all_stay : (ws : List Waiting) → without_vertices [] ws ≡ ws
      all_stay [] = refl
      all_stay (w ∷ ws) = ap (λ l. w ∷ l) (all_stay ws)

-- the slots of a leaving vertex are those of its entries
module _ (waiting : List Waiting) (vertices : List Vertex) (leaving : List ℕ) (have : HaveSlots waiting vertices leaving) (v : ℕ) (h : Has leaving v) where
  pub leaving_slots : (vertex_at vertices v).slots ≡ slots_of waiting v
  leaving_slots = (all_get _ leaving have v h).1

  pub leaving_wait : AllIn (IsQueued waiting) (vertex_at vertices v).slots
  leaving_wait = subst (AllIn (IsQueued waiting)) (sym leaving_slots) (slots_wait waiting v)

  pub leaving_once : HasDistinctSlots waiting → Distinct (vertex_at vertices v).slots
  leaving_once distinct = subst Distinct (sym leaving_slots) (slots_once waiting v distinct)
