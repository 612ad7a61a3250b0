-- Every file of events is a list of events or has a first line without a form, and not both: which words are an event is decided,
-- kind by kind, and so a line, and so a file.
use Rattle.std.proofs.Common.{◌≡◌, ◌⊎◌, inl, inr, ℕ, ◌≤◌, ◌^◌, List, [], ◌∷◌, map, length, codes, Option, Some, None, refl, sym, ap, ◌∙◌, subst, arith}
use Rattle.std.specs.Fmt.{decimal}
use Rattle.std.proofs.lemmas.List.{length-map}
use Rattle.dt_lists.specs.Lists.{AllIn, Pairwise, Either}
use Rattle.dt_lists.proofs.Callers.{either_le, either_or, either_same, pairwise_one, same_head, same_tail}
use Rattle.dt_text.specs.Texts.{Bytes, IsName}
use Rattle.dt_text.specs.Lines.{FileLine, lines_of}
use Rattle.dt_text.specs.Reading.{words_of}
use Rattle.dt_text.specs.declared.Word.{Word}
use Rattle.dt_text.proofs.Callers.{either_bytes, either_name, either_spelled}
use Rattle.dt_access.specs.declared.TxnId.{TxnId}
use Rattle.dt_access.specs.Ids.{IsCounted, id_text}
use Rattle.dt_access.proofs.Callers.{either_id_text}
use Rattle.dt_events.specs.declared.event.Event.{Event}
use Rattle.dt_events.specs.declared.event.Event.TheVariants.{Submit, Append, Deliver, Insert, Resolve, Execute, Answer}
use Rattle.dt_events.specs.Events.{event_words, IsWritten, IsRegion, IsCount, bare_bytes, AreBareWords, HasEventForm, IsNumberedEvent, FirstWithoutForm}
use Rattle.dt_events.specs.Laws.{EventFilesAreOneList, EventsHaveNoFault, EventFilesHaveOneFault, EventFilesHaveAnOutcome}
use Rattle.dt_events.proofs.EventWords.{not_made_of_words, no_bare_words, are_bare_words, one_line, no_event_of_line}
use Rattle.dt_events.proofs.PrintedEvents.{one_event}

-- ---- words that spell a value

-- some value with P is spelled so
abbrev Spells : {A W : Type 0} → (A → Type 0) → (A → W) → W → Type 0
Spells {A} P spelling w = (a : A) × P a × (w ≡ spelling a)

-- both hold, and a word before others
abbrev Both : {A B : Type 0} → (A → Type 0) → (B → Type 0) → A × B → Type 0
Both P Q c = P c.0 × Q c.1

abbrev in_front : {A B : Type 0} → (A → Bytes) → (B → List Bytes) → A × B → List Bytes
in_front f g c = f c.0 ∷ g c.1

either_two : {A B : Type 0} (P : A → Type 0) (f : A → Bytes) (Q : B → Type 0) (g : B → List Bytes) →
    ((w : Bytes) → Either (Spells P f w)) → ((ws : List Bytes) → Either (Spells Q g ws)) → (ws : List Bytes) → Either (Spells (Both P Q) (in_front f g) ws)
either_two P f Q g one rest [] = inr (λ (c, p, is). cc)
either_two {A} {B} P f Q g one rest (w ∷ ws) = by (one w) (rest ws)
  where
    by : Either (Spells P f w) → Either (Spells Q g ws) → Either (Spells (Both P Q) (in_front f g) (w ∷ ws))
    by (inl (a, p, is)) (inl (b, q, same)) = inl ((a, b), (p, q), λ i. is i ∷ same i)
    by (inr other) more = inr (λ (c, p, is). other (c.0, p.0, same_head is))
    by (inl first) (inr other) = inr (λ (c, p, is). other (c.1, p.1, same_tail is))

-- no word is left
abbrev Any : Unit {0} → Type 0
Any u = Unit {0}

abbrev no_word : Unit {0} → List Bytes
no_word u = []

either_none : (ws : List Bytes) → Either (Spells Any no_word ws)
either_none [] = inl (tt, tt, refl)
either_none (w ∷ ws) = inr (λ (a, p, is). cc)

-- a region, a number, an id and a name
either_region : (w : Bytes) → Either (Spells IsRegion decimal w)
either_region w = either_spelled (2 ^ 8) (omega arith) w

either_count : (w : Bytes) → Either (Spells IsCount decimal w)
either_count w = either_spelled (2 ^ 32) (omega arith) w

abbrev as_it_is : Bytes → Bytes
as_it_is w = w

either_session : (w : Bytes) → Either (Spells IsName as_it_is w)
either_session w = either_same (IsName w) (Spells IsName as_it_is w) (λ h. (w, h, refl)) (λ (n, h, is). subst IsName (sym is) h) (either_name w)

-- ids, one a word
either_ids : (ws : List Bytes) → Either (Spells (AllIn IsCounted) (map id_text) ws)
either_ids [] = inl ([], tt, refl)
either_ids (w ∷ ws) = by (either_id_text w) (either_ids ws)
  where
    by : Either ((id : TxnId) × IsCounted id × (w ≡ id_text id)) → Either (Spells (AllIn IsCounted) (map id_text) ws) → Either (Spells (AllIn IsCounted) (map id_text) (w ∷ ws))
    by (inl (id, counted, is)) (inl (ids, all, same)) = inl (id ∷ ids, (counted, all), λ i. is i ∷ same i)
    by (inr other) more = inr (λ (ids, all, is). none ids all is)
      where
        none : (ids : List TxnId) → AllIn IsCounted ids → w ∷ ws ≡ map id_text ids → ⊥
        none [] all is = cc
        none (id ∷ ids) all is = other (id, all.0, same_head is)
    by (inl first) (inr other) = inr (λ (ids, all, is). none ids all is)
      where
        none : (ids : List TxnId) → AllIn IsCounted ids → w ∷ ws ≡ map id_text ids → ⊥
        none [] all is = cc
        none (id ∷ ids) all is = other (ids, all.1, same_tail is)

abbrev AreTwoOrMore : List TxnId → Type 0
AreTwoOrMore ids = (2 ≤ length ids) × AllIn IsCounted ids

either_group : (ws : List Bytes) → Either (Spells AreTwoOrMore (map id_text) ws)
either_group ws = by (either_le 2 (length ws)) (either_ids ws)
  where
    by : Either (2 ≤ length ws) → Either (Spells (AllIn IsCounted) (map id_text) ws) → Either (Spells AreTwoOrMore (map id_text) ws)
    by (inl two) (inl (ids, all, is)) = inl (ids, (omega (arith, two, ap length is, length-map ids id_text), all), is)
    by (inr few) more = inr (λ (ids, both, is). few (omega (arith, both.0, ap length is, length-map ids id_text)))
    by (inl two) (inr other) = inr (λ (ids, both, is). other (ids, both.1, is))

-- ---- the words of an event, kind by kind

-- the words are this one, a region, and others with Q
abbrev Says : {B : Type 0} → Bytes → (B → Type 0) → (B → List Bytes) → List Bytes → Type 0
Says kind Q g ws = Spells (Both Any (Both IsRegion Q)) (in_front (λ u. kind) (in_front decimal g)) ws

either_says : {B : Type 0} (kind : Bytes) (Q : B → Type 0) (g : B → List Bytes) → ((ws : List Bytes) → Either (Spells Q g ws)) → (ws : List Bytes) → Either (Says kind Q g ws)
either_says kind Q g rest ws =
    either_two Any (λ u. kind) (Both IsRegion Q) (in_front decimal g)
    (λ w. either_same (w ≡ kind) (Spells Any (λ u. kind) w) (λ e. (tt, tt, e)) (λ (u, v, e). e) (either_bytes w kind))
    (either_two IsRegion decimal Q g either_region rest) ws

abbrev SaysName : Bytes → List Bytes → Type 0
SaysName kind ws = Says kind (Both IsName Any) (in_front as_it_is no_word) ws

either_says_name : (kind : Bytes) (ws : List Bytes) → Either (SaysName kind ws)
either_says_name kind ws = either_says kind _ _ (either_two IsName as_it_is Any no_word either_session either_none) ws

abbrev SaysAppend : List Bytes → Type 0
SaysAppend ws = Says (codes "append") (Both IsRegion (Both IsCount Any)) (in_front decimal (in_front decimal no_word)) ws

abbrev SaysDeliver : List Bytes → Type 0
SaysDeliver ws = Says (codes "deliver") (Both IsRegion (Both IsCount (Both IsCount Any))) (in_front decimal (in_front decimal (in_front decimal no_word))) ws

abbrev SaysInsert : List Bytes → Type 0
SaysInsert ws = Says (codes "insert") (Both IsRegion Any) (in_front decimal no_word) ws

abbrev SaysResolve : List Bytes → Type 0
SaysResolve ws = Says (codes "resolve") AreTwoOrMore (map id_text) ws

abbrev SaysExecute : List Bytes → Type 0
SaysExecute ws = Says (codes "execute") (Both IsCounted Any) (in_front id_text no_word) ws

-- the words are those of an event
abbrev SaysEvent : List Bytes → Type 0
SaysEvent ws = Spells IsWritten event_words ws

abbrev SaysOne : List Bytes → Type 0
SaysOne ws =
    SaysName (codes "submit") ws ⊎ (SaysAppend ws ⊎ (SaysDeliver ws ⊎ (SaysInsert ws ⊎ (SaysResolve ws ⊎ (SaysExecute ws ⊎ SaysName (codes "answer") ws)))))

event_of : (ws : List Bytes) → SaysOne ws → SaysEvent ws
event_of ws (inl (c, p, is)) = (Submit c.1.0 c.1.1.0, (p.1.0, p.1.1.0), is)
event_of ws (inr (inl (c, p, is))) = (Append c.1.0 c.1.1.0 c.1.1.1.0, (p.1.0, p.1.1.0, p.1.1.1.0), is)
event_of ws (inr (inr (inl (c, p, is)))) = (Deliver c.1.0 c.1.1.0 c.1.1.1.0 c.1.1.1.1.0, (p.1.0, p.1.1.0, p.1.1.1.0, p.1.1.1.1.0), is)
event_of ws (inr (inr (inr (inl (c, p, is))))) = (Insert c.1.0 c.1.1.0, (p.1.0, p.1.1.0), is)
event_of ws (inr (inr (inr (inr (inl (c, p, is)))))) = (Resolve c.1.0 c.1.1, (p.1.0, p.1.1.0, p.1.1.1), is)
event_of ws (inr (inr (inr (inr (inr (inl (c, p, is))))))) = (Execute c.1.0 c.1.1.0, (p.1.0, p.1.1.0), is)
event_of ws (inr (inr (inr (inr (inr (inr (c, p, is))))))) = (Answer c.1.0 c.1.1.0, (p.1.0, p.1.1.0), is)

kind_of : (ws : List Bytes) → SaysEvent ws → SaysOne ws
kind_of ws (Submit region session, w, is) = inl ((tt, (region, (session, tt))), (tt, (w.0, (w.1, tt))), is)
kind_of ws (Append home source number, w, is) = inr (inl ((tt, (home, (source, (number, tt)))), (tt, (w.0, (w.1, (w.2, tt)))), is))
kind_of ws (Deliver region home first last, w, is) =
    inr (inr (inl ((tt, (region, (home, (first, (last, tt))))), (tt, (w.0, (w.1, (w.2, (w.3, tt))))), is)))
kind_of ws (Insert region home, w, is) = inr (inr (inr (inl ((tt, (region, (home, tt))), (tt, (w.0, (w.1, tt))), is))))
kind_of ws (Resolve region ids, w, is) = inr (inr (inr (inr (inl ((tt, (region, ids)), (tt, (w.0, (w.1, w.2))), is)))))
kind_of ws (Execute region id, w, is) = inr (inr (inr (inr (inr (inl ((tt, (region, (id, tt))), (tt, (w.0, (w.1, tt))), is))))))
kind_of ws (Answer region session, w, is) = inr (inr (inr (inr (inr (inr ((tt, (region, (session, tt))), (tt, (w.0, (w.1, tt))), is))))))

either_event : (ws : List Bytes) → Either (SaysEvent ws)
either_event ws =
    either_same (SaysOne ws) (SaysEvent ws) (event_of ws) (kind_of ws)
    (either_or _ _ (either_says_name (codes "submit") ws)
    (either_or _ _ (either_says (codes "append") _ _ (either_two IsRegion decimal _ _ either_region (either_two IsCount decimal Any no_word either_count either_none)) ws)
    (either_or _ _ (either_says (codes "deliver") _ _ (either_two IsRegion decimal _ _ either_region (either_two IsCount decimal _ _ either_count (either_two IsCount decimal Any no_word either_count either_none))) ws)
    (either_or _ _ (either_says (codes "insert") _ _ (either_two IsRegion decimal Any no_word either_region either_none) ws)
    (either_or _ _ (either_says (codes "resolve") AreTwoOrMore (map id_text) either_group ws)
    (either_or _ _ (either_says (codes "execute") _ _ (either_two IsCounted id_text Any no_word either_id_text either_none) ws)
    (either_says_name (codes "answer") ws)))))))

-- ---- lines

-- all the words are bare, or one is not
either_bares : {A : Type 0} (os : List (Option A)) → Either ((xs : List A) × (os ≡ map (λ x. Some x) xs))
either_bares [] = inl ([], refl)
either_bares (None ∷ os) = inr (λ (xs, is). none xs is)
  where
    none : (xs : List _) → None ∷ os ≡ map (λ x. Some x) xs → ⊥
    none [] is = cc
    none (x ∷ xs) is = let h = same_head is in cc
either_bares (Some x ∷ os) = by (either_bares os)
  where
    by : Either ((xs : List _) × (os ≡ map (λ x. Some x) xs)) → Either ((xs : List _) × (Some x ∷ os ≡ map (λ x. Some x) xs))
    by (inl (xs, is)) = inl (x ∷ xs, ap (λ v. Some x ∷ v) is)
    by (inr other) = inr (λ (xs, is). none xs is)
      where
        none : (xs : List _) → Some x ∷ os ≡ map (λ x. Some x) xs → ⊥
        none [] is = cc
        none (y ∷ ys) is = other (ys, same_tail is)

either_line : (line : List ℕ) → Either (HasEventForm line)
either_line line = by (words_of line) refl
  where
    by : (found : Option (List Word)) → words_of line ≡ found → Either (HasEventForm line)
    by None is = inr (λ (e, h). no_event_of_line line (not_made_of_words line is) e h)
    by (Some words) is = bare (either_bares (map (bare_bytes line) words))
      where
        bare : Either ((bares : List Bytes) × (map (bare_bytes line) words ≡ map (λ w. Some w) bares)) → Either (HasEventForm line)
        bare (inr other) = inr (λ (e, h). no_bare_words line words is (λ bares same. other (bares, same)) (event_words e) h.1)
        bare (inl (bares, same)) = event (either_event bares)
          where
            event : Either (SaysEvent bares) → Either (HasEventForm line)
            event (inl (e, written, spelled)) = inl (e, (written, subst (AreBareWords line) spelled (are_bare_words line words bares is same)))
            event (inr other) = inr (λ (e, h). other (e, h.0, one_line line bares (event_words e) (are_bare_words line words bares is same) h.1))

-- ---- files

-- the lines are events, or one of them is the first that is none
abbrev LinesComeTo : List FileLine → Type 0
LinesComeTo lines = ((events : List (ℕ × Event)) × Pairwise IsNumberedEvent lines events) ⊎ ((number : ℕ) × FirstWithoutForm lines number)

lines_come_to : (lines : List FileLine) → LinesComeTo lines
lines_come_to [] = inl ([], tt)
lines_come_to (line ∷ lines) = by (either_line line.bytes) (lines_come_to lines)
  where
    by : Either (HasEventForm line.bytes) → LinesComeTo lines → LinesComeTo (line ∷ lines)
    by (inr none) rest = inr (line.number, inl (none, refl))
    by (inl (e, is)) (inl (events, are)) = inl ((line.number, e) ∷ events, ((refl, is), are))
    by (inl form) (inr (number, first)) = inr (number, inr (form, first))

pub every_file : EventFilesHaveAnOutcome
every_file file = lines_come_to (lines_of file)

one_numbered : (line : FileLine) (x y : ℕ × Event) → IsNumberedEvent line x → IsNumberedEvent line y → x ≡ y
one_numbered line x y h k = λ i. ((h.0 ∙ sym k.0) i, one_event line.bytes x.1 y.1 h.1 k.1 i)

pub one_list : EventFilesAreOneList
one_list file = pairwise_one IsNumberedEvent one_numbered (lines_of file)

no_faulty : (lines : List FileLine) (d : List (ℕ × Event)) (number : ℕ) → Pairwise IsNumberedEvent lines d → ¬ FirstWithoutForm lines number
no_faulty [] d number h f = f
no_faulty (l ∷ ls) [] number h f = h
no_faulty (l ∷ ls) (x ∷ d) number h (inl (none, is)) = none (x.1, h.0.1)
no_faulty (l ∷ ls) (x ∷ d) number h (inr (form, more)) = no_faulty ls d number h.1 more

pub no_fault : EventsHaveNoFault
no_fault file events number h = no_faulty (lines_of file) events number h

same_faulty : (lines : List FileLine) (m n : ℕ) → FirstWithoutForm lines m → FirstWithoutForm lines n → m ≡ n
same_faulty [] m n f g = absurd f
same_faulty (l ∷ ls) m n (inl (none, is)) (inl (other, same)) = sym is ∙ same
same_faulty (l ∷ ls) m n (inl (none, is)) (inr (form, more)) = absurd (none form)
same_faulty (l ∷ ls) m n (inr (form, more)) (inl (none, is)) = absurd (none form)
same_faulty (l ∷ ls) m n (inr (form, more)) (inr (again, others)) = same_faulty ls m n more others

pub one_fault : EventFilesHaveOneFault
one_fault file m n f g = same_faulty (lines_of file) m n f g
