-- Rule 1: what a submission makes of a region's fields is what the rule says, and keeps the region sound.
use Rattle.std.proofs.Common.{◌≡◌, ◌<◌, ◌+◌, ℕ, List, [], ◌∷◌, ◌++◌, length, Some, None, cond, slice_get, refl, sym, ap, ap₂, subst, ◌∙◌, inl, inr, arith}
use Rattle.std.proofs.lemmas.Option.{slice_get_past}
use Rattle.dt_lists.specs.Lists.{AllIn}
use Rattle.dt_lists.proofs.Callers.{all_map, all_more, none_some}
use Rattle.dt_access.specs.declared.TxnId.{TxnId}
use Rattle.dt_sched.specs.Views.{log_at}
use Rattle.dt_sched.specs.Sched.{Sched}
use Rattle.dt_events.specs.declared.Stamped.{Stamped}
use Rattle.dt_txn.specs.declared.txn.Body.{Body}
use Rattle.dt_txn.specs.declared.txn.Txn.{Txn}
use Rattle.dt_proc.specs.Tree.{ProcTree}
use Rattle.dt_txn.specs.Transaction.{annotate, homes_of, BodyFits, IsValid}
use Rattle.dt_txn.specs.HomesAsked.{ask}
use Rattle.dt_txn.proofs.Callers.{ask_length}
use Rattle.dt_region.specs.Region.{RegionState, RegionView, find_txn, held}
use Rattle.dt_region.specs.Rules.{id_for, txn_for, after_submit}
use Rattle.dt_region.specs.Sound.{AreCounted, IsSoundRegion, IsHeldPart}
use Rattle.dt_region.specs.RegionInner.{AreWell}
use Rattle.dt_region.proofs.ViewOfRegion.{IsSeenAs}
use Rattle.dt_region.proofs.Find.{found_or_none, find_left, find_right, find_only, counted_at, apart}
use Rattle.dt_access.proofs.Callers.{test_of_other}
use Rattle.dt_region.proofs.Tables.{annotate_valid}

counted_more : (region seq : ℕ) (txns : List Txn) (txn : Txn) → AreCounted region seq txns → txn.id ≡ record { seq = seq + length txns; region = region } → AreCounted region seq (txns ++ txn ∷ [])
counted_more region seq [] txn counted e = (e ∙ ap (λ n. record { seq = n; region = region }) (omega arith), tt)
counted_more region seq (x ∷ txns) txn counted e = (counted.0, counted_more region (seq + 1) txns txn counted.1 (e ∙ ap (λ n. record { seq = n; region = region }) (omega arith)))

-- what was found among what a region submitted or got is found with one submission more, if that has an id of its own
found_still : (xs ys : List Txn) (txn : Txn) (id : TxnId) (other : Txn) → find_txn (txn ∷ []) id ≡ None → find_txn (xs ++ ys) id ≡ Some other → find_txn ((xs ++ txn ∷ []) ++ ys) id ≡ Some other
found_still xs ys txn id other none e = elim (found_or_none xs id) [
  | inl h ↦ find_left (xs ++ txn ∷ []) ys id other (find_left xs (txn ∷ []) id other (h.1 ∙ sym (find_left xs ys id h.0 h.1) ∙ e))
  | inr h ↦ find_right (xs ++ txn ∷ []) ys id (find_right xs (txn ∷ []) id h ∙ none) ∙ sym (find_right xs ys id h) ∙ e
]

module _ (procs : List ProcTree) (s : RegionState) (sound : IsSoundRegion s) (rank : ℕ) (body : Body) (fits : BodyFits procs s.here.table.version s.regions body) where
  abbrev new : Txn
  new = txn_for procs s rank body

  -- its id is of this region, and above all that it submitted
  own_new : held s (id_for s) ≡ None
  own_new =
      let own : find_txn s.submitted (id_for s) ≡ slice_get s.submitted (length s.submitted) = counted_at s.number 1 (length s.submitted) s.submitted (id_for s) sound.counted refl (omega arith) in
      find_only s.submitted s.foreign (id_for s) (apart s.number s.foreign (id_for s) sound.foreign refl) ∙ own ∙ slice_get_past s.submitted (length s.submitted) (omega arith)

  keeps : (id : TxnId) (other : Txn) → held s id ≡ Some other → held (after_submit procs s rank body) id ≡ Some other
  keeps id other e = found_still s.submitted s.foreign new id other (ap (λ b. cond b (Some new) None) (test_of_other (id_for s) id (λ same. none_some own_new (ap (held s) same ∙ e)))) e

  pub submit_sound : IsSoundRegion (after_submit procs s rank body)
  submit_sound = record {
    number = sound.number;
    regions = sound.regions;
    asked = ask_length (homes_of new) new.id s.here.asked ∙ sound.asked;
    taken = sound.taken;
    logs = sound.logs;
    inserted = sound.inserted;
    counted = counted_more s.number 1 s.submitted new sound.counted (ap (λ n. record { seq = n; region = s.number }) (omega arith));
    foreign = sound.foreign;
    submitted_homes = all_more _ s.submitted new sound.submitted_homes (annotate_valid procs s.regions (id_for s) rank body s.here.table (omega (arith, sound.number)) sound.table fits).homes;
    foreign_homes = sound.foreign_homes;
    once = sound.once;
    parts = λ home. all_map _ _ (log_at s.logs home) (λ p (h : IsHeldPart s home p). (h.0, keeps p.id h.0 h.1, h.2)) (sound.parts home);
    few = sound.few;
    taken_few = sound.taken_few;
    inserted_few = sound.inserted_few;
    table = sound.table;
    decided = sound.decided;
  }

-- The region has the state s and these events, and contracts see it as r: what the call makes of its fields is what the
-- rule says.
module _ (procs : List ProcTree) (r : RegionView) (s : RegionState) (events : List Stamped) (heard room : ℕ) (seen : Sched) (stands : IsSeenAs s events heard room seen r)
    (rank : ℕ) (body : Body) (fits : BodyFits procs r.state.here.table.version r.state.regions body) where
  fits_here : BodyFits procs s.here.table.version s.regions body
  fits_here = subst (λ x. BodyFits procs x.state.here.table.version x.state.regions body) (sym stands.view) fits

  -- the homes that are asked have lists
  pub submit_homes : (id : TxnId) (txn : Txn) (homes : List ℕ) (n : ℕ) → txn ≡ annotate procs id rank body s.here.table → homes ≡ homes_of txn → n ≡ length s.here.asked → AllIn (λ home. home < n) homes
  submit_homes id txn homes n t h l =
      let below = stands.well.0.number in
      let valid : IsValid procs s.here.table.version s.regions (annotate procs id rank body s.here.table) = annotate_valid procs s.regions id rank body s.here.table (omega (arith, below)) stands.well.0.table fits_here in
      subst (λ m. AllIn (λ home. home < m) homes) (sym (l ∙ stands.well.0.asked)) (subst (AllIn (λ home. home < s.regions)) (sym (h ∙ ap homes_of t)) valid.homes)

  abbrev made : List Txn → List (List TxnId) → RegionState
  made submitted asked = record s { submitted = submitted; here = record s.here { asked = asked } }

  module _ (submitted : List Txn) (asked : List (List TxnId)) (txn : Txn) (id : TxnId) (homes : List ℕ) (i : id ≡ id_for s) (t : txn ≡ annotate procs id rank body s.here.table) (h : homes ≡ homes_of txn)
      (sub : submitted ≡ s.submitted ++ txn ∷ []) (asks : asked ≡ ask homes id s.here.asked) where
    submit_is : made submitted asked ≡ after_submit procs s rank body
    submit_is =
        let new : txn ≡ txn_for procs s rank body = t ∙ ap (λ j. annotate procs j rank body s.here.table) i in
        let asked_is : asked ≡ ask (homes_of txn) (id_for s) s.here.asked = asks ∙ (λ j. ask (h j) (i j) s.here.asked) in
        ap₂ made (sub ∙ ap (λ x. s.submitted ++ x ∷ []) new) (asked_is ∙ ap (λ x. ask (homes_of x) (id_for s) s.here.asked) new)

    pub submit_keeps : AreWell (made submitted asked) seen
    submit_keeps = subst (λ x. AreWell x seen) (sym submit_is) (submit_sound procs s stands.well.0 rank body fits_here, stands.well.1)
