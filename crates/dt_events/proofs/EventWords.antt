-- Words of lines and the events that they spell.
use Rattle.std.proofs.Common.{◌≡◌, ◌≢◌, ℕ, zero, suc, ◌+◌, ◌<◌, ◌≤◌, ◌^◌, List, [], ◌∷◌, ◌++◌}
use Rattle.std.proofs.Common.{length, map, get_or, drop, Option, Some, None, MatchOption, Bor, refl, ap, sym, ◌∙◌, subst, arith, append_assoc, append-nil}
use Rattle.std.specs.List.{join_with_byte}
use Rattle.std.proofs.lemmas.Grind.{common_steps}
use Rattle.std.proofs.lemmas.List.{drop_more, take-append-le}
use Rattle.std.proofs.lemmas.Option.{same_Some}
use Rattle.dt_lists.specs.Lists.{Pairwise}
use Rattle.dt_lists.proofs.Callers.{all_get, all_of_image, has_at, same_head, same_tail}
use Rattle.dt_text.specs.Reading.{words_of}
use Rattle.dt_text.specs.Lines.{FileLine}
use Rattle.dt_text.specs.declared.Word.{Word}
use Rattle.dt_text.proofs.Callers.{exact}
use Rattle.dt_access.specs.declared.TxnId.{TxnId}
use Rattle.dt_access.specs.Ids.{IsCounted, id_text}
use Rattle.dt_events.specs.declared.event.Event.{Event}
use Rattle.dt_events.specs.Events.{event_words, bare_bytes, AreBareWords, IsEventLine, IsNumberedEvent}
use Rattle.dt_events.specs.ReadingInner.{Keeps, spelled, AreShort, AreIds, ReadsEvent}

-- ---- words that are read where they stand

-- each of short words is short
pub short_at : (words : List (Bor (List ℕ))) (i : ℕ) (d : Bor (List ℕ)) → AreShort (spelled words) → i < length words → length ((get_or words i d).now) < 2 ^ 32
short_at words i d short within =
    all_get _ words (all_of_image (λ w. length w < 2 ^ 32) (λ (w : Bor (List ℕ)). w.now) words short) (get_or words i d) (has_at words i d within)

-- words of which one is no id are no ids
pub no_ids : (words : List (Bor (List ℕ))) (i : ℕ) (d : Bor (List ℕ)) → i < length words → ((id : TxnId) → IsCounted id → (get_or words i d).now ≢ id_text id) → (ids : List TxnId) → AreIds ids
    → spelled words ≢ map id_text ids
no_ids [] i d within none ids counted same = absurd (omega arith)
no_ids (w ∷ ws) i d within none [] counted same = cc
no_ids (w ∷ ws) zero d within none (id ∷ ids) counted same = none id counted.0 (same_head same)
no_ids (w ∷ ws) (suc i) d within none (id ∷ ids) counted same = no_ids ws i d (omega arith) none ids counted.1 (same_tail same)

-- ---- bare words

-- a line that is not made of words is not made of bare words
pub not_made_of_words : (line : List ℕ) → words_of line ≡ None → (bares : List (List ℕ)) → ¬ AreBareWords line bares
not_made_of_words line none bares (words, are, same) = let h = (exact line words).1 are in cc

-- the words of a line are the only ones
pub no_bare_words : (line : List ℕ) (words : List Word) → words_of line ≡ Some words → ((bares : List (List ℕ)) → map (bare_bytes line) words ≢ map (λ w. Some w) bares)
    → (bares : List (List ℕ)) → ¬ AreBareWords line bares
no_bare_words line words found none bares (others, are, same) =
    let one : words ≡ others = same_Some _ _ (sym found ∙ (exact line others).1 are) in
    none bares (ap (map (bare_bytes line)) one ∙ same)

pub are_bare_words : (line : List ℕ) (words : List Word) (bares : List (List ℕ)) → words_of line ≡ Some words → map (bare_bytes line) words ≡ map (λ w. Some w) bares → AreBareWords line bares
are_bare_words line words bares found same = (words, (exact line words).0 found, same)

same-from-somes : (xs ys : List (List ℕ)) → map (λ w. Some w) xs ≡ map (λ w. Some w) ys → xs ≡ ys
same-from-somes [] [] e = refl
same-from-somes [] (y ∷ ys) e = cc
same-from-somes (x ∷ xs) [] e = cc
same-from-somes (x ∷ xs) (y ∷ ys) e = λ i. same_Some _ _ (same_head e) i ∷ same-from-somes xs ys (same_tail e) i

-- a line is made of one list of bare words
pub one_line : (line : List ℕ) (xs ys : List (List ℕ)) → AreBareWords line xs → AreBareWords line ys → xs ≡ ys
one_line line xs ys (words, are, same) (words', are', same') =
    let e : words ≡ words' = same_Some _ _ (sym ((exact line words).1 are) ∙ (exact line words').1 are') in
    same-from-somes xs ys (sym same ∙ ap (map (bare_bytes line)) e ∙ same')

-- the event that the bare words of a line spell is the line's
pub event_of_line : (line : List ℕ) (words : List (List ℕ)) (answer : Option Event) → AreBareWords line words → ReadsEvent words answer → MatchOption answer ((e : Event) → ¬ IsEventLine line e) (IsEventLine line)
event_of_line line words None are none = λ e h. none e h.0 (one_line line words (event_words e) are h.1)
event_of_line line words (Some e) are read = (read.0, subst (AreBareWords line) read.1 are)

pub no_event_of_line : (line : List ℕ) → ((bares : List (List ℕ)) → ¬ AreBareWords line bares) → (e : Event) → ¬ IsEventLine line e
no_event_of_line line none e h = none (event_words e) h.1

-- ---- printed ids

-- ids, each with a space before it
abbrev pub spaced_ids : List TxnId → List ℕ
spaced_ids [] = []
spaced_ids (id ∷ ids) = 32 ∷ (id_text id ++ spaced_ids ids)

pub join-ids : (word : List ℕ) (ids : List TxnId) → join_with_byte 32 (word ∷ map id_text ids) ≡ word ++ spaced_ids ids
join-ids word [] = sym (append-nil word)
join-ids word (id ∷ ids) = ap (λ t. word ++ 32 ∷ t) (join-ids (id_text id) ids)

pub ids_put_all : (text begun before kind region : List ℕ) (ids : List TxnId) (k : ℕ) → length ids ≤ k → text ++ spaced_ids (drop k ids) ≡ begun ++ spaced_ids ids
    → begun ≡ before ++ kind ++ 32 ∷ region → text ≡ before ++ join_with_byte 32 (kind ∷ region ∷ map id_text ids)
ids_put_all text begun before kind region ids k past so_far is =
    let none : drop k ids ≡ [] = grind (arith, common_steps) in
    sym (append-nil text) ∙ ap (λ t. text ++ spaced_ids t) (sym none) ∙ so_far ∙ ap (λ t. t ++ spaced_ids ids) is
    ∙ append_assoc (before ++ kind) (32 ∷ region) (spaced_ids ids) ∙ append_assoc before kind (32 ∷ (region ++ spaced_ids ids)) ∙ ap (λ t. before ++ (kind ++ 32 ∷ t)) (sym (join-ids region ids))

-- one more id
pub ids_put_one : (text after all : List ℕ) (ids : List TxnId) (k : ℕ) (d : TxnId) → k < length ids → text ++ spaced_ids (drop k ids) ≡ all → after ≡ text ++ 32 ∷ id_text (get_or ids k d)
    → after ++ spaced_ids (drop (k + 1) ids) ≡ all
ids_put_one text after all ids k d inside so_far one =
    ap (λ t. t ++ spaced_ids (drop (k + 1) ids)) one ∙ append_assoc text (32 ∷ id_text (get_or ids k d)) (spaced_ids (drop (k + 1) ids)) ∙ ap (λ t. text ++ spaced_ids t) (sym (drop_more ids k d inside)) ∙ so_far

-- ---- bytes that are kept

pub keeps_more : (xs ys more : List ℕ) → Keeps xs ys → Keeps xs (ys ++ more)
keeps_more xs ys more kept =
    let within : length xs ≤ length ys = let same = ap length kept in grind (arith, common_steps) in
    take-append-le (length xs) ys more within ∙ kept

-- ---- lines of a file

-- nothing is left of the lines: what was read is all
pub all_read : (lines all : List FileLine) (events : List (ℕ × Event)) → lines ≡ [] → ((rest : List (ℕ × Event)) → Pairwise IsNumberedEvent lines rest → Pairwise IsNumberedEvent all (events ++ rest))
    → Pairwise IsNumberedEvent all events
all_read [] all events none so_far = subst (Pairwise IsNumberedEvent all) (append-nil events) (so_far [] tt)
all_read (l ∷ lines) all events none so_far = cc
