-- Putting vertices into a resolved class, one after the other: those in front are in it and stuck no more.
use Rattle.std.proofs.Common.{◌≡◌, ◌≢◌, ◌<◌, ◌⊎◌, ◌↔◌, ◌+◌, ◌∙◌, ℕ, List, [], ◌∷◌, ◌++◌, length, get_or, set, slice_get, take, None, Some, refl, sym, subst, inl, inr}
use Rattle.std.proofs.lemmas.List.{get_or-set_other, get_or-set_same, length-set}
use Rattle.dt_lists.specs.Lists.{Either, Has}
use Rattle.dt_lists.proofs.Callers.{either_any, either_nat}
use Rattle.dt_access.specs.declared.TxnId.{TxnId}
use Rattle.dt_queue.specs.Queues.{Waiting}
use Rattle.dt_waits.specs.declared.vertex.Vertex.{Vertex}
use Rattle.dt_waits.specs.declared.open.Open.{Open}
use Rattle.dt_waits.specs.Graph.{vertex_at}
use Rattle.dt_graph.specs.SubsetInner.{PutsIn, Removes}
use Rattle.dt_waits.specs.Steps.{IsPut, Resolves}
use Rattle.dt_graph.proofs.WalkByPlaces.{passed_at}

-- the vertices in front were put into the class
pub record IsPutting (class : ℕ) (front : List ℕ) (old now : List Vertex) (stuck stuck_now : List ℕ) : Type 0 where
  pub size : length now ≡ length old
  pub inside : (v : ℕ) → Has front v → IsPut class (vertex_at old v) (vertex_at now v)
  pub outside : (v : ℕ) → ¬ (Has front v) → vertex_at now v ≡ vertex_at old v
  pub still_stuck : (v : ℕ) → Has stuck_now v ↔ Has stuck v × ¬ (Has front v)

module _ (class : ℕ) (members : List ℕ) (place : ℕ) (lt : place < length members) (old now : List Vertex) (stuck stuck_now stuck_next : List ℕ) where
  abbrev item : ℕ
  item = get_or members place 0

  -- one more is put into it
  pub putting_on : IsPutting class (take place members) old now stuck stuck_now → item < length now → (y : Vertex) → IsPut class (vertex_at now item) y → Removes item stuck_now stuck_next
      → IsPutting class (take (place + 1) members) old (set now item y) stuck stuck_next
  putting_on p within y put gone = record {
    size = length-set now item y ∙ p.size;
    inside = λ v h. in_class v ((passed_at members place lt v).0 h) (either_nat v item);
    outside = λ v n. other v (λ e. n ((passed_at members place lt v).1 (inr (sym e)))) ∙ p.outside v (λ h. n ((passed_at members place lt v).1 (inl h)));
    still_stuck = λ v. (
      λ h. let m : Has stuck_now v × (v ≢ item) = (gone v).0 h in
          let o : Has stuck v × ¬ (Has (take place members) v) = (p.still_stuck v).0 m.0 in
          (o.0, λ f. elim ((passed_at members place lt v).0 f) [ inl g ↦ o.1 g | inr e ↦ m.1 (sym e) ]),
      λ h. (gone v).1 ((p.still_stuck v).1 (h.0, λ f. h.1 ((passed_at members place lt v).1 (inl f))), λ e. h.1 ((passed_at members place lt v).1 (inr (sym e)))),
    );
  }
    where
      other : (v : ℕ) → v ≢ item → vertex_at (set now item y) v ≡ vertex_at now v
      other v ne = get_or-set_other now item v y (record { rank = 0; missing = 0; class = None; slots = [] }) ne

      now_put : Either (Has (take place members) item) → IsPut class (vertex_at old item) y
      now_put (inl h) = let q : IsPut class (vertex_at old item) (vertex_at now item) = p.inside item h in
          record { rank = put.rank ∙ q.rank; missing = put.missing ∙ q.missing; class = put.class; slots = put.slots ∙ q.slots }
      now_put (inr n) = subst (λ x. IsPut class x y) (p.outside item n) put

      in_class : (v : ℕ) → Has (take place members) v ⊎ (item ≡ v) → (v ≡ item) ⊎ ¬ (v ≡ item) → IsPut class (vertex_at old v) (vertex_at (set now item y) v)
      in_class v h (inl e) = subst (λ v. IsPut class (vertex_at old v) (vertex_at (set now item y) v)) (sym e)
          (subst (IsPut class (vertex_at old item)) (sym (get_or-set_same now item y (record { rank = 0; missing = 0; class = None; slots = [] }) within))
          (now_put (either_any _ (take place members) (λ x. either_nat x item))))
      in_class v (inl h) (inr ne) = subst (IsPut class (vertex_at old v)) (sym (other v ne)) (p.inside v h)
      in_class v (inr e) (inr ne) = absurd (ne (sym e))

-- the first of the members is ready, if there is one
pub first_readied : (members : List ℕ) (first : ℕ) (ready ready_now : List ℕ) → slice_get members 0 ≡ Some first → PutsIn first ready ready_now
    → (v : ℕ) → Has ready_now v ↔ Has ready v ⊎ (slice_get members 0 ≡ Some v)
first_readied members first ready ready_now at p v = (
  λ h. elim ((p v).0 h) [ inl o ↦ inl o | inr e ↦ inr (subst (λ x. slice_get members 0 ≡ Some x) (sym e) at) ],
  λ h. (p v).1 (elim h [ inl o ↦ inl o | inr e ↦ inr (one e) ]),
)
  where
    one : slice_get members 0 ≡ Some v → v ≡ first
    one e = cc

pub none_readied : (members : List ℕ) (ready : List ℕ) → slice_get members 0 ≡ None → (v : ℕ) → Has ready v ↔ Has ready v ⊎ (slice_get members 0 ≡ Some v)
none_readied members ready at v = (λ h. inl h, λ h. elim h [ inl o ↦ o | inr e ↦ absurd (none e) ])
  where
    none : slice_get members 0 ≡ Some v → ⊥
    none e = cc

-- all of them were put into it, and the first is ready
pub resolves_held : (class : ℕ) (members : List ℕ) (ids : List TxnId) (vertices vertices_now : List Vertex) (degrees degrees_now : List ℕ) (waiting waiting_now : List Waiting) (ready ready_now : List ℕ)
    (stuck stuck_now : List ℕ) (classes : List Open) → IsPutting class members vertices vertices_now stuck stuck_now → degrees_now ≡ degrees → waiting_now ≡ waiting
    → ((v : ℕ) → Has ready_now v ↔ Has ready v ⊎ (slice_get members 0 ≡ Some v))
    → Resolves members class (record { ids = ids; vertices = vertices; degrees = degrees; waiting = waiting; ready = ready; stuck = stuck; classes = classes }) (record {
      ids = ids;
      vertices = vertices_now;
      degrees = degrees_now;
      waiting = waiting_now;
      ready = ready_now;
      stuck = stuck_now;
      classes = classes ++ record { members = members; next = 0 } ∷ [];
    })
resolves_held class members ids vertices vertices_now degrees degrees_now waiting waiting_now ready ready_now stuck stuck_now classes p same_degrees same_waiting readied = record {
  ids = refl;
  size = p.size;
  inside = p.inside;
  outside = p.outside;
  degrees = same_degrees;
  waiting = same_waiting;
  ready = readied;
  stuck = p.still_stuck;
  classes = refl;
}
