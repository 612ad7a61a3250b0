-- Printed events are read back, and a line is one event.
use Rattle.std.proofs.Common.{◌≡◌, ◌≢◌, ℕ, ◌+◌, ◌<◌, ◌^◌, Bool, true, false, cond, not, ◌==◌, List, [], ◌∷◌}
use Rattle.std.proofs.Common.{◌++◌, length, map, Some, refl, ap, sym, ◌∙◌, subst, arith, append_assoc, length-append}
use Rattle.std.specs.List.{list_all, slice_range, flat_map, enumerate_from, onto_first}
use Rattle.std.specs.Char.{digit_value}
use Rattle.std.specs.Fmt.{decimal}
use Rattle.std.specs.Str.Parse.{AllDigits}
use Rattle.std.proofs.lemmas.Bool.{and_from, and_parts, false≢true, not-true}
use Rattle.std.proofs.lemmas.Bool.Decides.{nat_tests}
use Rattle.std.proofs.lemmas.Fmt.{decimal_is_IsNumeral}
use Rattle.std.proofs.lemmas.Grind.{common_steps}
use Rattle.std.proofs.lemmas.List.Folds.{list_all-append}
use Rattle.dt_lists.specs.Lists.{AllIn, Pairwise}
use Rattle.dt_text.specs.Texts.{IsName, is_name_byte}
use Rattle.dt_text.specs.Words.{is_visible, IsBareWord, MayFollowWord, AreWordsFrom, AreWords, spaced}
use Rattle.dt_text.specs.Lines.{FileLine, cut_lines, kept_lines, is_skipped}
use Rattle.dt_text.specs.declared.Word.{Word}
use Rattle.dt_text.specs.declared.Word.TheVariants.{Bare}
use Rattle.dt_access.specs.declared.TxnId.{TxnId}
use Rattle.dt_access.specs.Ids.{IsCounted, id_text}
use Rattle.dt_access.proofs.Callers.{id_text-injective}
use Rattle.dt_events.specs.declared.event.Event.{Event}
use Rattle.dt_events.specs.declared.event.Event.TheVariants.{Submit, Append, Deliver, Insert, Resolve, Execute, Answer}
use Rattle.dt_events.specs.Events.{region_of, kind_word, argument_words, event_words, IsWritten, IsRegion, bare_bytes, AreBareWords, IsEventLine, IsNumberedEvent, AreEvents, event_text, event_line}
use Rattle.dt_events.specs.Laws.{LinesAreOneEvent, PrintedEventsReadBack}
use Rattle.dt_text.proofs.Callers.{bytes_apart, join_spaced, same_number}
use Rattle.dt_lists.proofs.Callers.{same_head, same_tail}
use Rattle.dt_events.proofs.EventWords.{one_line}

-- ---- each word of an event is a bare word

digit_visible : (d : ℕ) → digit_value d < 10 → is_visible d ≡ true
digit_visible d low = grind (arith, nat_tests)

digits_visible : (ds : List ℕ) → AllDigits 10 ds → list_all is_visible ds ≡ true
digits_visible [] all = refl
digits_visible (d ∷ ds) all = and_from _ _ (digit_visible d all.0) (digits_visible ds all.1)

-- what passes a test passes a weaker one, byte by byte
pub all_weaker : (p q : ℕ → Bool) → ((b : ℕ) → p b ≡ true → q b ≡ true) → (bs : List ℕ) → list_all p bs ≡ true → list_all q bs ≡ true
all_weaker p q weaker [] all = refl
all_weaker p q weaker (b ∷ bs) all =
    let parts = and_parts _ _ all in and_from _ _ (weaker b parts.0) (all_weaker p q weaker bs parts.1)

name_byte_visible : (b : ℕ) → is_name_byte b ≡ true → is_visible b ≡ true
name_byte_visible b allowed = grind (arith, nat_tests)

name_visible : (bs : List ℕ) → list_all is_name_byte bs ≡ true → list_all is_visible bs ≡ true
name_visible bs all = all_weaker is_name_byte is_visible name_byte_visible bs all

no_quote : (d : ℕ) → digit_value d < 10 → d ≢ 34
no_quote d low e = let h : 36 < 10 = subst (λ x. digit_value x < 10) e low in omega (arith, h)

bare_digits : (ds : List ℕ) → 0 < length ds → AllDigits 10 ds → IsBareWord ds
bare_digits [] some all = absurd (omega arith)
bare_digits (d ∷ ds) some all = (some, no_quote d all.0, digits_visible (d ∷ ds) all)

bare_decimal : (n : ℕ) → n < 2 ^ 32 → IsBareWord (decimal n)
bare_decimal n small =
    let digits = (decimal_is_IsNumeral n (omega arith)).0 in bare_digits (decimal n) digits.0 digits.1

bare_region : (n : ℕ) → IsRegion n → IsBareWord (decimal n)
bare_region n small = bare_decimal n (omega arith)

bare_name : (bs : List ℕ) → IsName bs → IsBareWord bs
bare_name [] name = absurd (omega (arith, name.0))
bare_name (b ∷ bs) name =
    (name.0, (λ e. false≢true (subst (λ x. is_name_byte x ≡ true) e (and_parts _ _ name.2).0)), name_visible (b ∷ bs) name.2)

bare_dotted : (ds es : List ℕ) → 0 < length ds → AllDigits 10 ds → AllDigits 10 es → IsBareWord (ds ++ 46 ∷ es)
bare_dotted [] es some all rest = absurd (omega arith)
bare_dotted (d ∷ ds) es some all rest =
    (omega arith, no_quote d all.0, list_all-append is_visible (d ∷ ds) (46 ∷ es) ∙ and_from _ _ (digits_visible (d ∷ ds) all) (digits_visible es rest))

bare_id : (id : TxnId) → IsCounted id → IsBareWord (id_text id)
bare_id id counted =
    let seq = (decimal_is_IsNumeral id.seq (omega (arith, counted))).0 in
    let region = (decimal_is_IsNumeral id.region (omega (arith, counted))).0 in
    bare_dotted (decimal id.seq) (decimal id.region) seq.0 seq.1 region.1

bare_ids : (ids : List TxnId) → AllIn IsCounted ids → AllIn IsBareWord (map id_text ids)
bare_ids [] all = tt
bare_ids (id ∷ ids) all = (bare_id id all.0, bare_ids ids all.1)

bare_of_session : (region : ℕ) (session : List ℕ) → IsRegion region × IsName session → AllIn IsBareWord (decimal region ∷ session ∷ [])
bare_of_session region session w = (bare_region region w.0, (bare_name session w.1, tt))

bare_words : (e : Event) → IsWritten e → AllIn IsBareWord (event_words e)
bare_words (Submit region session) w =
    ((omega arith, (λ e. omega (arith, e)), refl), bare_of_session region session w)
bare_words (Append home source number) w =
    ((omega arith, (λ e. omega (arith, e)), refl), (bare_region home w.0, (bare_region source w.1, (bare_decimal number w.2, tt))))
bare_words (Deliver region home first last) w =
    ((omega arith, (λ e. omega (arith, e)), refl), (bare_region region w.0, (bare_region home w.1, (bare_decimal first w.2, (bare_decimal last w.3, tt)))))
bare_words (Insert region home) w =
    ((omega arith, (λ e. omega (arith, e)), refl), (bare_region region w.0, (bare_region home w.1, tt)))
bare_words (Resolve region ids) w =
    ((omega arith, (λ e. omega (arith, e)), refl), (bare_region region w.0, bare_ids ids w.2))
bare_words (Execute region id) w =
    ((omega arith, (λ e. omega (arith, e)), refl), (bare_region region w.0, (bare_id id w.1, tt)))
bare_words (Answer region session) w =
    ((omega arith, (λ e. omega (arith, e)), refl), bare_of_session region session w)

-- ---- words with spaces between them are these words

-- where they stand, after a place with a space
abbrev placed : ℕ → List (List ℕ) → List Word
placed at [] = []
placed at (w ∷ ws) = Bare (at + 1) (at + 1 + length w) ∷ placed (at + 1 + length w) ws

may_follow : (ws : List (List ℕ)) → MayFollowWord (spaced ws)
may_follow [] = tt
may_follow (w ∷ ws) = refl

are_spaced : (ws : List (List ℕ)) (at : ℕ) → AllIn IsBareWord ws → AreWordsFrom at (spaced ws) (placed at ws)
are_spaced [] at all = refl
are_spaced (w ∷ ws) at all =
    (32 ∷ [], w, spaced ws, refl, refl, (all.0, refl, refl), may_follow ws, are_spaced ws (at + 1 + length w) all.1)

are_joined : (w : List ℕ) (ws : List (List ℕ)) → IsBareWord w → AllIn IsBareWord ws → AreWords (w ++ spaced ws) (Bare 0 (length w) ∷ placed (length w) ws)
are_joined w ws bare all =
    let e : length w ≡ 0 + length {A = ℕ} [] + length w = omega arith in
    ([], w, spaced ws, refl, refl, (bare, refl, e), may_follow ws, subst (λ n. AreWordsFrom n (spaced ws) (placed (length w) ws)) e (are_spaced ws (length w) all))

range_at : (front w rest : List ℕ) (from to : ℕ) → from ≡ length front → to ≡ from + length w → slice_range (front ++ (w ++ rest)) from to ≡ w
range_at front w rest from to ef et = grind (arith, common_steps)

spell_spaced : (line front : List ℕ) (ws : List (List ℕ)) (at : ℕ) → line ≡ front ++ spaced ws → at ≡ length front → map (bare_bytes line) (placed at ws) ≡ map (λ w. Some w) ws
spell_spaced line front [] at e n = refl
spell_spaced line front (w ∷ ws) at e n =
    let wide : line ≡ (front ++ 32 ∷ []) ++ (w ++ spaced ws) = e ∙ sym (append_assoc front (32 ∷ []) (w ++ spaced ws)) in
    let place : at + 1 ≡ length (front ++ 32 ∷ []) = omega (arith, length-append front (32 ∷ [])) in
    let head : slice_range line (at + 1) (at + 1 + length w) ≡ w = ap (λ t. slice_range t (at + 1) (at + 1 + length w)) wide ∙ range_at (front ++ 32 ∷ []) w (spaced ws) (at + 1) (at + 1 + length w) place refl in
    let past : at + 1 + length w ≡ length (front ++ 32 ∷ w) = omega (arith, length-append front (32 ∷ w)) in
    let tail = spell_spaced line (front ++ 32 ∷ w) ws (at + 1 + length w) (e ∙ sym (append_assoc front (32 ∷ w) (spaced ws))) past in
    λ i. Some (head i) ∷ tail i

joined_bare : (w : List ℕ) (ws : List (List ℕ)) → IsBareWord w → AllIn IsBareWord ws → AreBareWords (w ++ spaced ws) (w ∷ ws)
joined_bare w ws bare all =
    let head : slice_range (w ++ spaced ws) 0 (length w) ≡ w = range_at [] w (spaced ws) 0 (length w) refl (omega arith) in
    let tail = spell_spaced (w ++ spaced ws) w ws (length w) refl refl in
    (Bare 0 (length w) ∷ placed (length w) ws, are_joined w ws bare all, λ i. Some (head i) ∷ tail i)

-- the text of an event is the event
pub text_is_event : (e : Event) → IsWritten e → IsEventLine (event_text e) e
text_is_event e written =
    let bare = bare_words e written in
    (written, subst (λ t. AreBareWords t (event_words e)) (sym (join_spaced (kind_word e) (decimal (region_of e) ∷ argument_words e))) (joined_bare (kind_word e) (decimal (region_of e) ∷ argument_words e) bare.0 bare.1))

-- ---- a line is one event

same_region : (m n : ℕ) → IsRegion m → IsRegion n → decimal m ≡ decimal n → m ≡ n
same_region m n small_m small_n e = same_number m n (omega arith) (omega arith) e

same_ids : (xs ys : List TxnId) → AllIn IsCounted xs → AllIn IsCounted ys → map id_text xs ≡ map id_text ys → xs ≡ ys
same_ids [] [] all_x all_y e = refl
same_ids [] (y ∷ ys) all_x all_y e = cc
same_ids (x ∷ xs) [] all_x all_y e = cc
same_ids (x ∷ xs) (y ∷ ys) all_x all_y e =
    λ i. id_text-injective x y all_x.0 all_y.0 (same_head e) i ∷ same_ids xs ys all_x.1 all_y.1 (same_tail e) i

same_event : (d e : Event) → IsWritten d → IsWritten e → event_words d ≡ event_words e → d ≡ e
same_event (Submit r s) (Submit r' s') w w' same =
    let args = same_tail same in
    let region = same_region r r' w.0 w'.0 (same_head args) in
    let session : s ≡ s' = same_head (same_tail args) in λ i. Submit (region i) (session i)
same_event (Append h s n) (Append h' s' n') w w' same =
    let args = same_tail same in
    let home = same_region h h' w.0 w'.0 (same_head args) in
    let source = same_region s s' w.1 w'.1 (same_head (same_tail args)) in
    let number = same_number n n' w.2 w'.2 (same_head (same_tail (same_tail args))) in λ i. Append (home i) (source i) (number i)
same_event (Deliver r h a b) (Deliver r' h' a' b') w w' same =
    let args = same_tail same in
    let region = same_region r r' w.0 w'.0 (same_head args) in
    let home = same_region h h' w.1 w'.1 (same_head (same_tail args)) in
    let first = same_number a a' w.2 w'.2 (same_head (same_tail (same_tail args))) in
    let last = same_number b b' w.3 w'.3 (same_head (same_tail (same_tail (same_tail args)))) in
    λ i. Deliver (region i) (home i) (first i) (last i)
same_event (Insert r h) (Insert r' h') w w' same =
    let args = same_tail same in
    let region = same_region r r' w.0 w'.0 (same_head args) in
    let home = same_region h h' w.1 w'.1 (same_head (same_tail args)) in λ i. Insert (region i) (home i)
same_event (Resolve r ids) (Resolve r' ids') w w' same =
    let args = same_tail same in
    let region = same_region r r' w.0 w'.0 (same_head args) in
    let group = same_ids ids ids' w.2 w'.2 (same_tail args) in λ i. Resolve (region i) (group i)
same_event (Execute r id) (Execute r' id') w w' same =
    let args = same_tail same in
    let region = same_region r r' w.0 w'.0 (same_head args) in
    let one = id_text-injective id id' w.1 w'.1 (same_head (same_tail args)) in λ i. Execute (region i) (one i)
same_event (Answer r s) (Answer r' s') w w' same =
    let args = same_tail same in
    let region = same_region r r' w.0 w'.0 (same_head args) in
    let session : s ≡ s' = same_head (same_tail args) in λ i. Answer (region i) (session i)
same_event d e w w' same = absurd (bytes_apart (kind_word d) (kind_word e) refl (same_head same))

pub one_event : LinesAreOneEvent
one_event line d e is_d is_e =
    same_event d e is_d.0 is_e.0 (one_line line (event_words d) (event_words e) is_d.1 is_e.1)

-- ---- a file of printed events

-- a byte that ends no line
abbrev pub within_line : ℕ → Bool
within_line b = not (b == 10)

visible_within : (b : ℕ) → is_visible b ≡ true → within_line b ≡ true
visible_within b visible = grind (arith, nat_tests)

word_within : (bs : List ℕ) → list_all is_visible bs ≡ true → list_all within_line bs ≡ true
word_within bs visible = all_weaker is_visible within_line visible_within bs visible

spaced_within : (ws : List (List ℕ)) → AllIn IsBareWord ws → list_all within_line (spaced ws) ≡ true
spaced_within [] all = refl
spaced_within (w ∷ ws) all =
    list_all-append within_line w (spaced ws) ∙ and_from _ _ (word_within w all.0.2) (spaced_within ws all.1)

text_within : (e : Event) → IsWritten e → list_all within_line (event_text e) ≡ true
text_within e written =
    let bare = bare_words e written in
    let words = decimal (region_of e) ∷ argument_words e in
    ap (list_all within_line) (join_spaced (kind_word e) words) ∙ list_all-append within_line (kind_word e) (spaced words) ∙ and_from _ _ (word_within (kind_word e) bare.0.2) (spaced_within words bare.1)

-- a line is cut off before the byte that ends it
cut_off : (bs rest : List ℕ) → list_all within_line bs ≡ true → cut_lines (bs ++ 10 ∷ rest) ≡ bs ∷ cut_lines rest
cut_off [] rest within = refl
cut_off (b ∷ bs) rest within =
    let parts = and_parts _ _ within in
    let others : List (List ℕ) = cut_lines (bs ++ 10 ∷ rest) in
    ap (λ t. cond t ([] ∷ others) (onto_first b others)) (not-true (b == 10) parts.0) ∙ ap (onto_first b) (cut_off bs rest parts.1)

not_skipped : (e : Event) → is_skipped (event_text e) ≡ false
not_skipped (Submit region session) = refl
not_skipped (Append home source number) = refl
not_skipped (Deliver region home first last) = refl
not_skipped (Insert region home) = refl
not_skipped (Resolve region ids) = refl
not_skipped (Execute region id) = refl
not_skipped (Answer region session) = refl

-- the lines of printed events
abbrev printed_lines : ℕ → List Event → List FileLine
printed_lines number [] = []
printed_lines number (e ∷ events) = record { number = number; bytes = event_text e } ∷ printed_lines (number + 1) events

lines_printed : (number : ℕ) (events : List Event) → AllIn IsWritten events → kept_lines number (cut_lines (flat_map event_line events)) ≡ printed_lines number events
lines_printed number [] all = refl
lines_printed number (e ∷ events) all =
    let text : List ℕ = event_text e in
    let after : List ℕ = flat_map event_line events in
    let others : List FileLine = kept_lines (number + 1) (cut_lines after) in
    let cut : cut_lines ((text ++ 10 ∷ []) ++ after) ≡ text ∷ cut_lines after = ap cut_lines (append_assoc text (10 ∷ []) after) ∙ cut_off text after (text_within e all.0) in
    ap (kept_lines number) cut ∙ ap (λ t. cond t others (record { number = number; bytes = text } ∷ others)) (not_skipped e) ∙ (λ i. record { number = number; bytes = text } ∷ lines_printed (number + 1) events all.1 i)

numbered_only : (number : ℕ) (events : List Event) → AllIn IsWritten events → (read : List (ℕ × Event)) → Pairwise IsNumberedEvent (printed_lines number events) read → read ≡ enumerate_from number events
numbered_only number [] all [] are = refl
numbered_only number [] all (r ∷ read) are = absurd are
numbered_only number (e ∷ events) all [] are = absurd are
numbered_only number (e ∷ events) all (r ∷ read) are =
    let same : r.1 ≡ e = one_event (event_text e) r.1 e are.0.1 (text_is_event e all.0) in
    λ i. (are.0.0 i, same i) ∷ numbered_only (number + 1) events all.1 read are.1 i

numbered_are : (number : ℕ) (events : List Event) → AllIn IsWritten events → Pairwise IsNumberedEvent (printed_lines number events) (enumerate_from number events)
numbered_are number [] all = tt
numbered_are number (e ∷ events) all = ((refl, text_is_event e all.0), numbered_are (number + 1) events all.1)

pub reads_back : PrintedEventsReadBack
reads_back events all read =
    let lines = lines_printed 1 events all in
    let printed : AreEvents (flat_map event_line events) (enumerate_from 1 events) =
    subst (λ ls. Pairwise IsNumberedEvent ls (enumerate_from 1 events)) (sym lines) (numbered_are 1 events all) in (
      λ are. numbered_only 1 events all read (subst (λ ls. Pairwise IsNumberedEvent ls read) lines are),
      λ same. subst (λ r. AreEvents (flat_map event_line events) r) (sym same) printed,
    )
