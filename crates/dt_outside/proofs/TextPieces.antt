-- Pieces that are added one behind the other.
use Rattle.std.proofs.Common.{◌≡◌, ℕ, ◌+◌, ◌≤◌, List, ◌++◌, take, drop, length, Option, None, Some, Result, Ok, Err, refl, ap, sym, ◌∙◌, append_assoc, subst, arith}
use Rattle.std.proofs.Math.Seq.{take-add, take-append-add, take-length}
use Rattle.std.proofs.lemmas.List.{take_at, take-append-drop}
use Rattle.dt_outside.specs.Sink.{SinkView, held_with, Adds, AddsPrefix, Writes}
use Rattle.std.specs.Prelude.{IsErrAnd}
use Rattle.dt_outside.specs.Faults.{Rose}

-- two pieces that are added one behind the other are one piece
pub held_with-append : (held : Option (List ℕ)) (first second : List ℕ) → held_with (held_with held first) second ≡ held_with held (first ++ second)
held_with-append None first second = refl
held_with-append (Some bytes) first second = ap Some (append_assoc bytes first second)

-- a piece, and then another, is both
pub Adds-append : (old mid new : Option (List ℕ)) (first second : List ℕ) → Adds old mid first → Adds mid new second → Adds old new (first ++ second)
Adds-append old mid new first second added more =
    more ∙ ap (λ held. held_with held second) added ∙ held_with-append old first second

-- a piece, and then some first bytes of another, are some first bytes of both
pub AddsPrefix-append : (old mid new : Option (List ℕ)) (first second : List ℕ) → Adds old mid first → AddsPrefix mid new second → AddsPrefix old new (first ++ second)
AddsPrefix-append old mid new first second added (n, more) =
    (length first + n, Adds-append old mid new first (take n second) added more ∙ ap (held_with old) (sym (take-append-add first second n)))

-- some first bytes of a piece, and then n of the rest, are that many first bytes of it
pub Adds-further : (old mid new : Option (List ℕ)) (piece : List ℕ) (written n : ℕ) → Adds old mid (take written piece) → Adds mid new (take n (drop written piece)) → Adds old new (take (written + n) piece)
Adds-further old mid new piece written n added more =
    Adds-append old mid new (take written piece) (take n (drop written piece)) added more ∙ ap (held_with old) (sym (take-add written n piece))

-- some first bytes of a piece are some first bytes of a longer one
pub AddsPrefix-longer : (old new : Option (List ℕ)) (first second : List ℕ) → AddsPrefix old new first → AddsPrefix old new (first ++ second)
AddsPrefix-longer old new first second (n, added) =
    (length (take n first), added ∙ ap (held_with old) (sym begin))
  where
    begin : take (length (take n first)) (first ++ second) ≡ take n first
    begin = ap (λ piece. take (length (take n first)) (piece ++ second)) (sym (take-append-drop n first))
        ∙ ap (take (length (take n first))) (append_assoc (take n first) (drop n first) second)
        ∙ take_at (take n first) (drop n first ++ second) (length (take n first)) refl

-- a text was added whole, and no count fell
pub record HasAdded (old new : SinkView) (text : List ℕ) : Type 0 where
  pub added : Adds old.held new.held text
  pub later : old.faults ≤ new.faults

module _ {E : Type 0} (old mid new : SinkView) (first second : List ℕ) where
  -- a text that was added, and another that was written behind it
  pub Writes-after : (r : Result (Unit {0}) E) → HasAdded old mid first → Writes mid new second r → Writes old new (first ++ second) r
  Writes-after (Ok x) before after = record {
    added = Adds-append old.held mid.held new.held first second before.added after.added;
    prefix = tt;
    failed = tt;
    later = omega (arith, before.later, after.later);
  }
  Writes-after (Err e) before after = record {
    added = tt;
    prefix = AddsPrefix-append old.held mid.held new.held first second before.added after.prefix;
    failed = omega (arith, before.later, after.failed);
    later = omega (arith, before.later, after.later);
  }

  -- where the sink took all of that, both were added
  pub Writes-more : (x : Unit {0}) (r : Result (Unit {0}) E) → HasAdded old mid first → r ≡ Ok x → Writes mid new second r → HasAdded old new (first ++ second)
  Writes-more x (Ok y) before ok after = record {
    added = Adds-append old.held mid.held new.held first second before.added after.added;
    later = omega (arith, before.later, after.later);
  }
  Writes-more x (Err e) before ok after = cc

  -- two texts that were written one behind the other
  pub Writes-append : (x : Unit {0}) (q r : Result (Unit {0}) E) → q ≡ Ok x → Writes old mid first q → Writes mid new second r → Writes old new (first ++ second) r
  Writes-append x (Ok y) r ok before after = Writes-after r (record { added = before.added; later = before.later }) after
  Writes-append x (Err e) r ok before after = cc

module _ {E : Type 0} (old new : SinkView) where
  -- a text that was written in part: so a longer one is, of which it is the front
  pub Writes-longer : (first second : List ℕ) (error : E) (P : E → Type 0) (q r : Result (Unit {0}) E) → q ≡ Err error → IsErrAnd r P → Writes old new first q → Writes old new (first ++ second) r
  Writes-longer first second error P (Ok x) r failed handed before = cc
  Writes-longer first second error P (Err e) (Ok x) failed handed before = absurd handed
  Writes-longer first second error P (Err e) (Err f) failed handed before = record {
    added = tt;
    prefix = AddsPrefix-longer old.held new.held first second before.prefix;
    failed = before.failed;
    later = before.later;
  }

  -- in each case some first bytes of a text were written, and no others
  pub Writes-prefix : (text : List ℕ) (r : Result (Unit {0}) E) → Writes old new text r → AddsPrefix old.held new.held text
  Writes-prefix text (Ok x) is = (length text, is.added ∙ ap (held_with old.held) (sym (take-length text)))
  Writes-prefix text (Err e) is = is.prefix

  -- where the sink did not fail, all of it was
  pub Writes-whole : (text : List ℕ) (r : Result (Unit {0}) E) → Writes old new text r → ¬ Rose old.faults new.faults → Adds old.held new.held text
  Writes-whole text (Ok x) is still = is.added
  Writes-whole text (Err e) is still = absurd (still is.failed)

-- of a text, all but this rest was added
pub record HasAddedUpTo (whole rest : List ℕ) (old new : SinkView) : Type 0 where
  pub done : List ℕ
  pub added : HasAdded old new done
  pub all : done ++ rest ≡ whole

module _ {E : Type 0} (whole rest piece others : List ℕ) (old mid new : SinkView) (q : Result (Unit {0}) E) (cut : rest ≡ piece ++ others) (so_far : HasAddedUpTo whole rest old mid) (next : Writes mid new piece q) where
  -- what was added, the next piece, and what is left are all
  joined : (so_far.done ++ piece) ++ others ≡ whole
  joined = append_assoc so_far.done piece others ∙ ap (λ left. so_far.done ++ left) (sym cut) ∙ so_far.all

  -- the next piece was written
  pub HasAddedUpTo-next : (x : Unit {0}) → q ≡ Ok x → HasAddedUpTo whole others old new
  HasAddedUpTo-next x ok = record { done = so_far.done ++ piece; added = Writes-more old mid new so_far.done piece x q so_far.added ok next; all = joined }

  -- the next piece was not written whole: so some first bytes of the text were
  pub HasAddedUpTo-failed : (error : E) (P : E → Type 0) (r : Result (Unit {0}) E) → q ≡ Err error → IsErrAnd r P → Writes old new whole r
  HasAddedUpTo-failed error P r failed handed =
      subst (λ text. Writes old new text r) joined
      (Writes-longer old new (so_far.done ++ piece) others error P q r failed handed (Writes-after old mid new so_far.done piece q so_far.added next))
