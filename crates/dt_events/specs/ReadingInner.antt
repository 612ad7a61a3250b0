-- Only for the functions that the reader of events is made of: what each of them finds in a list of words. Read
-- next: Events, for what the public calls promise of a line and of a file.
use Rattle.std.specs.Prelude.{◌≡◌, ◌≢◌, ℕ, ◌<◌, ◌^◌, List, length, map, take, Option, MatchOption}
use Rattle.std.specs.Borrow.{Bor}
use Rattle.dt_lists.specs.Lists.{AllIn}
use Rattle.dt_access.specs.declared.TxnId.{TxnId}
use Rattle.dt_access.specs.Ids.{IsCounted}
use Rattle.dt_events.specs.declared.event.Event.{Event}
use Rattle.dt_events.specs.Events.{event_words, IsWritten}

-- words that are read where they stand
abbrev pub spelled : List (Bor (List ℕ)) → List (List ℕ)
spelled words = map (λ w. w.now) words

-- the answer is the thing with P that is spelled by these words, and none where no such thing is
abbrev pub Reads : {A : Type 0} → (A → Type 0) → (A → List (List ℕ)) → List (List ℕ) → Option A → Type 0
Reads {A} P spelling words answer = MatchOption answer ((x : A) → P x → words ≢ spelling x) (λ x. P x × (words ≡ spelling x))

-- the answer is the event that is spelled by these words, and none where no event is
abbrev pub ReadsEvent : List (List ℕ) → Option Event → Type 0
ReadsEvent words answer = Reads IsWritten event_words words answer

-- each word is shorter than 4,294,967,296 bytes
abbrev pub AreShort : List (List ℕ) → Type 0
AreShort words = AllIn (λ w. length w < 2 ^ 32) words

-- ids that submissions can have
abbrev pub AreIds : List TxnId → Type 0
AreIds ids = AllIn IsCounted ids

-- bytes that begin with those that were there before
abbrev pub Keeps : List ℕ → List ℕ → Type 0
Keeps before now = take (length before) now ≡ before
