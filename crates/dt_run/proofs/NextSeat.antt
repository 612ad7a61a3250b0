-- One seat more for the node of the next region.
use Rattle.std.proofs.Common.{◌≡◌, ◌+◌, ◌++◌, ℕ, List, [], ◌∷◌, map, sym, ap, subst, ◌∙◌, arith}
use Rattle.std.specs.List.{range_with_len}
use Rattle.std.proofs.lemmas.List.FromFn.{map-range_with_len_more}
use Rattle.dt_lists.specs.Lists.{AllIn}
use Rattle.dt_lists.proofs.Callers.{all_more}
use Rattle.dt_region.specs.Region.{RegionView}
use Rattle.dt_region.specs.Sound.{IsSoundRegion}
use Rattle.dt_node.specs.NodeView.{NodeView}
use Rattle.dt_run.specs.SeatsInner.{SeatView, new_seat}

-- the region of a seat is sound
abbrev pub HasSoundRegion : SeatView → Type 0
HasSoundRegion s = IsSoundRegion s.node.site.region.state

module _ (seats seats' : List SeatView) (seat : SeatView) (node : NodeView) (more : seats' ≡ seats ++ seat ∷ []) (seat_is : seat ≡ new_seat node) where
  pub seats_more : (opening : ℕ → NodeView) (region : ℕ) → seats ≡ map (λ r. new_seat (opening r)) (range_with_len 0 region) → node ≡ opening region
      → seats' ≡ map (λ r. new_seat (opening r)) (range_with_len 0 (region + 1))
  seats_more opening region all is =
      let front : seats ++ seat ∷ [] ≡ map (λ r. new_seat (opening r)) (range_with_len 0 region) ++ seat ∷ [] = ap (λ l. l ++ seat ∷ []) all in
      let last : seat ≡ new_seat (opening region) = seat_is ∙ ap new_seat is in
      let back : map (λ r. new_seat (opening r)) (range_with_len 0 (region + 1)) ≡ map (λ r. new_seat (opening r)) (range_with_len 0 region) ++ new_seat (opening region) ∷ [] =
      map-range_with_len_more (λ r. new_seat (opening r)) 0 region region (omega arith) in
      more ∙ front ∙ ap (λ s. map (λ r. new_seat (opening r)) (range_with_len 0 region) ++ s ∷ []) last ∙ sym back

  pub sound_more : {region : RegionView} → region ≡ node.site.region → IsSoundRegion region.state → AllIn HasSoundRegion seats → AllIn HasSoundRegion seats'
  sound_more is sound all =
      subst (AllIn HasSoundRegion) (sym more)
      (all_more HasSoundRegion seats seat all
      (subst HasSoundRegion (sym seat_is) (subst (λ (r : RegionView). IsSoundRegion r.state) is sound)))
