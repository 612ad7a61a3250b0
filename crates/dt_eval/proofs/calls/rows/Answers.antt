use Rattle.std.proofs.Common.{◌≡◌, List, sym, ap, subst, length, map}
use Rattle.std.specs.Prelude.{Option}
use Rattle.dt_access.specs.Clash.{Bytes}
use Rattle.dt_text.specs.declared.Value.{Value}
use Rattle.dt_lists.specs.Lists.{AllIn, AnyIn}
use Rattle.dt_proc.specs.declared.tree.KeyDecl.{KeyDecl}
use Rattle.dt_eval.specs.FrameInner.{ArePlaces, IsItemWithin}
use Rattle.dt_eval.specs.Keys.{names_given}
use Rattle.dt_eval.proofs.KeyLaws.{items_within}
use Rattle.dt_eval.specs.Meaning.{unchanged}
use Rattle.dt_eval.proofs.RowParts.{ok_moved}
use Rattle.dt_eval.proofs.RunStart.{names_read, rows_named, rows_below, rows_ascend}
use Rattle.dt_eval.proofs.calls.rows.Goals as goal
use Rattle.dt_eval.proofs.calls.rows.Goals.{In_ok-places}

-- the places that were found are those of the names in the rows that were read
places_read : (c : In_ok-places) → ArePlaces (names_given c.args.args.now c.keys-declarations.result.now) (map (λ r. r.0) c.args.reads) c.in_ok-places.places.items
places_read c = subst (λ (rs : List (Bytes × Option Value)). ArePlaces (names_given c.args.args.now c.keys-declarations.result.now) (map (λ r. r.0) rs) c.in_ok-places.places.items) c.as_slice.ensures c.in_ok-places.ensures

pub places-requires-clause-within : goal.places-requires-clause-within
places-requires-clause-within c =
    subst (AllIn (λ (d : KeyDecl). AllIn (IsItemWithin (length c.args.args.now)) d.items)) (sym c.keys-declarations.ensures.same) (items_within c.args.body.now c.args.args.now c.keys-declarations.ensures.sound c.requires.fits)

pub places-requires-clause-read : goal.places-requires-clause-read
places-requires-clause-read c =
    subst (λ (rs : List (Bytes × Option Value)). AllIn (λ name. AnyIn (λ r. r.0 ≡ name) rs) (names_given c.args.args.now c.keys-declarations.result.now)) (sym c.as_slice.ensures)
    (subst (λ ds. AllIn (λ name. AnyIn (λ r. r.0 ≡ name) c.args.reads) (names_given c.args.args.now ds)) (sym c.keys-declarations.ensures.same) (names_read c.args.body.now c.args.args.now c.args.reads c.requires.reads))

pub new-requires-clause-places : goal.new-requires-clause-places
new-requires-clause-places c =
    rows_below (names_given c.args.args.now c.keys-declarations.result.now) c.args.reads c.in_ok-places.places.items (map unchanged c.into_vec.result.items) (ap (map unchanged) c.into_vec.ensures)
    (places_read (goal.at.new-requires-clause-places c).In_ok-places)

pub new-requires-clause-keys : goal.new-requires-clause-keys
new-requires-clause-keys c = rows_ascend c.args.body.now c.args.args.now c.args.reads (map unchanged c.into_vec.result.items) (ap (map unchanged) c.into_vec.ensures) c.requires.reads

pub returns : goal.returns
returns c =
    let keys : List (Bytes × Option Value) → List Bytes = map (λ r. r.0) in
    ok_moved _ _ c.new.result c.new.ensures
    (rows_named c.args.body.now c.args.args.now c.args.reads c.in_ok-places.places.items (map unchanged c.into_vec.result.items) (ap (map unchanged) c.into_vec.ensures)
    (subst (λ ds. ArePlaces (names_given c.args.args.now ds) (keys c.args.reads) c.in_ok-places.places.items) c.keys-declarations.ensures.same
    (places_read (goal.at.returns c).In_ok-places)))
