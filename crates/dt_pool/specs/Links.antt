-- Which ring a proof speaks of, and what went through it last. A helper is lent an item by one ring and gives it back by another.
-- That what comes back is what was lent, worked, follows only where the ends at hand are the two ends of one ring: so each ring
-- has a name in proofs (`LinkName`), which both of its ends tell. Read next: the contracts of `lend` and `take_back` in
-- `src/helper.rt`.
use Rattle.std.specs.Prelude.{List, [], ◌∷◌, Option, Some, None, option_map}
use denote.RawPtr.{Ptr}
use Rattle.std.specs.declared.alloc.Global.{Global}
use Rattle.std.specs.declared.snapshot.Snapshot.{Snapshot}
use Rattle.rtrb.specs.Shared.{Names}
use Rattle.rtrb.specs.declared.producer.Producer.{Producer}
use Rattle.rtrb.specs.declared.consumer.Consumer.{Consumer}

-- what tells one ring from another: where its counts and its places lie in memory, its names in proofs, and who gave the
-- memory
pub record LinkName : Type 0 where
  pub counts : Ptr
  pub places : Ptr
  pub names : Names
  pub memory : Global

-- the last item of a list
abbrev pub last_in : {A : Type 0} → List A → Option A
last_in [] = None
last_in (x ∷ []) = Some x
last_in (x ∷ y ∷ ys) = last_in (y ∷ ys)

module _ {T P : Type 0} where
  abbrev pub name_of_outlet : Producer T Global P → LinkName
  name_of_outlet p = record { counts = p.end.words; places = p.end.slots; names = p.end.names; memory = p.end.heap }

  abbrev pub name_of_inlet : Consumer T Global P → LinkName
  name_of_inlet c = record { counts = c.end.words; places = c.end.slots; names = c.end.names; memory = c.end.heap }

-- the item that was remembered last
abbrev pub last_item : {X : Type 0} → List (Snapshot X) → Option X
last_item past = option_map (λ s. s.value) (last_in past)
