-- The text of a report determines its events.
use Rattle.std.proofs.Common.{◌≡◌, ◌≢◌, ℕ, suc, ◌+◌, ◌<◌, true, false, true≢false, not, ◌==◌, List, []}
use Rattle.std.proofs.Common.{◌∷◌, ◌++◌, length, map, codes, pos, negsuc, Option, Some, None, refl, sym, ap, subst, ◌∙◌, arith, append_assoc, append-nil}
use Rattle.std.specs.Prelude.{flat_map}
use Rattle.std.specs.List.{join_with_byte, list_all, enumerate_from}
use Rattle.std.specs.Char.{digit_value}
use Rattle.std.specs.Fmt.{decimal}
use Rattle.std.specs.Str.Parse.{AllDigits}
use Rattle.std.proofs.lemmas.Bool.{and_from, and_parts, and_right}
use Rattle.std.proofs.lemmas.Bool.Decides.{nat_tests}
use Rattle.std.proofs.lemmas.List.Concat.{flat_map-append}
use Rattle.std.proofs.lemmas.List.Folds.{list_all-append}
use Rattle.dt_lists.specs.Lists.{AllIn}
use Rattle.dt_lists.proofs.Callers.{all_append, same_head, same_tail}
use Rattle.dt_text.specs.Texts.{IsKey, IsName, IsStr, is_key_byte, is_name_byte, is_text_byte}
use Rattle.dt_text.specs.Printed.{text_item, text_items, text_word}
use Rattle.dt_text.specs.declared.Value.{Value}
use Rattle.dt_text.specs.declared.Value.TheVariants.{Int, Text}
use Rattle.dt_text.proofs.Callers.{bytes_apart, decimal_digits}
use Rattle.dt_access.specs.declared.TxnId.{TxnId}
use Rattle.dt_access.specs.Ids.{id_text}
use Rattle.dt_events.specs.declared.Event.{Event}
use Rattle.dt_events.specs.Events.{event_line, AreEvents}
use Rattle.dt_events.proofs.Callers.{all_weaker, reads_back, within_line}
use Rattle.dt_eval.specs.declared.Cause.{Cause}
use Rattle.dt_eval.specs.declared.Cause.TheVariants.{Word, Overflow, Zero, Kind, Long}
use Rattle.dt_table.specs.declared.Shown.{Shown}
use Rattle.dt_txn.specs.declared.Outcome.{Outcome}
use Rattle.dt_txn.specs.declared.Outcome.TheVariants.{Gave, Aborted, Stale}
use Rattle.dt_report.specs.declared.report.Reply.{Reply}
use Rattle.dt_report.specs.declared.report.Ran.{Ran}
use Rattle.dt_report.specs.declared.report.Report.{Report}
use Rattle.dt_report.specs.Report.{line_of, value_word, cause_word, outcome_words, reply_line, ran_line, row_line, replies_text, order_text, table_text, tables_text, events_text, report_text}
use Rattle.dt_report.specs.Printable.{IsNumber, IsPrintableId, MayBePrinted, IsPrintableOutcome, IsPrintableReply, IsPrintableRan, IsPrintableRow, IsPrintable}
use Rattle.dt_report.specs.Laws.{TextsTellEvents}

-- ---- printed words have no line end

-- each byte is one that a text may have
abbrev HasTextBytes : List ℕ → Type 0
HasTextBytes bs = list_all is_text_byte bs ≡ true

name_byte : (b : ℕ) → is_name_byte b ≡ true → is_text_byte b ≡ true
name_byte b allowed = grind (arith, nat_tests)

key_byte : (b : ℕ) → is_key_byte b ≡ true → is_text_byte b ≡ true
key_byte b allowed = grind (arith, nat_tests)

digit_byte : (d : ℕ) → digit_value d < 10 → is_text_byte d ≡ true
digit_byte d low = grind (arith, nat_tests)

of_name : (bs : List ℕ) → IsName bs → HasTextBytes bs
of_name bs name = all_weaker is_name_byte is_text_byte name_byte bs name.2

of_key : (bs : List ℕ) → IsKey bs → HasTextBytes bs
of_key bs key = all_weaker is_key_byte is_text_byte key_byte bs key.2

of_digits : (ds : List ℕ) → AllDigits 10 ds → HasTextBytes ds
of_digits [] all = refl
of_digits (d ∷ ds) all = and_from _ _ (digit_byte d all.0) (of_digits ds all.1)

of_number : (n : ℕ) → IsNumber n → HasTextBytes (decimal n)
of_number n small = of_digits (decimal n) (decimal_digits n small)

of_both : (xs ys : List ℕ) → HasTextBytes xs → HasTextBytes ys → HasTextBytes (xs ++ ys)
of_both xs ys left right = list_all-append is_text_byte xs ys ∙ and_from _ _ left right

of_id : (id : TxnId) → IsPrintableId id → HasTextBytes (id_text id)
of_id id small = of_both (decimal id.seq) (46 ∷ decimal id.region) (of_number id.seq small.0) (and_from _ _ refl (of_number id.region small.1))

of_item : (b : ℕ) → is_text_byte b ≡ true → HasTextBytes (text_item b)
of_item b allowed = grind (arith, nat_tests)

of_items : (bs : List ℕ) → HasTextBytes bs → HasTextBytes (text_items bs)
of_items [] all = refl
of_items (b ∷ bs) all = let parts = and_parts _ _ all in of_both (text_item b) (text_items bs) (of_item b parts.0) (of_items bs parts.1)

of_text : (bs : List ℕ) → IsStr bs → HasTextBytes (text_word bs)
of_text bs str = and_from _ _ refl (of_both (text_items bs) (34 ∷ []) (of_items bs str.1) refl)

of_value : (v : Option Value) → MayBePrinted v → HasTextBytes (value_word v)
of_value None may = refl
of_value (Some (Int (pos n))) may = of_number n (omega arith)
of_value (Some (Int (negsuc n))) may = and_from _ _ refl (of_number (suc n) (omega arith))
of_value (Some (Text bs)) may = of_text bs may

of_values : (vs : List (Option Value)) → AllIn MayBePrinted vs → AllIn HasTextBytes (map value_word vs)
of_values [] all = tt
of_values (v ∷ vs) all = (of_value v all.0, of_values vs all.1)

of_cause : (cause : Cause) → IsPrintableOutcome (Aborted cause) → HasTextBytes (cause_word cause)
of_cause (Word text) str = of_text text str
of_cause Overflow any = refl
of_cause Zero any = refl
of_cause Kind any = refl
of_cause Long any = refl

of_outcome : (outcome : Outcome) → IsPrintableOutcome outcome → AllIn HasTextBytes (outcome_words outcome)
of_outcome (Gave values) may = (refl, of_values values may)
of_outcome (Aborted cause) may = (refl, (of_cause cause may, tt))
of_outcome (Stale key had by) may = (refl, (of_key key may.0, (refl, (of_number had may.1, (refl, (of_id by may.2, tt))))))

-- ---- lines other than the last section's heading

-- the heading of the last section, without the byte that ends it
abbrev heading : List ℕ
heading = codes "events"

-- no byte ends the line, and the line is not the heading
abbrev IsOther : List ℕ → Type 0
IsOther line = (list_all within_line line ≡ true) × (line ≢ heading)

-- these lines, each with the byte that ends it
abbrev ended : List (List ℕ) → List ℕ
ended lines = flat_map (λ line. line ++ 10 ∷ []) lines

-- the text is made of lines other than the heading
pub record IsOfOthers (text : List ℕ) : Type 0 where
  pub lines : List (List ℕ)
  pub others : AllIn IsOther lines
  pub is : text ≡ ended lines

none : IsOfOthers []
none = record { lines = []; others = tt; is = refl }

both : (xs ys : List ℕ) → IsOfOthers xs → IsOfOthers ys → IsOfOthers (xs ++ ys)
both xs ys left right = record {
  lines = left.lines ++ right.lines;
  others = all_append IsOther left.lines right.lines left.others right.others;
  is = (λ i. left.is i ++ right.is i) ∙ sym (flat_map-append (λ line. line ++ 10 ∷ []) left.lines right.lines);
}

each : {A : Type 0} (P : A → Type 0) (text : A → List ℕ) → ((x : A) → P x → IsOfOthers (text x)) → (xs : List A) → AllIn P xs → IsOfOthers (flat_map text xs)
each P text one [] all = none
each P text one (x ∷ xs) all = both (text x) (flat_map text xs) (one x all.0) (each P text one xs all.1)

one_line : (line : List ℕ) → IsOther line → IsOfOthers (line ++ 10 ∷ [])
one_line line other = record { lines = line ∷ []; others = (other, tt); is = sym (append-nil (line ++ 10 ∷ [])) }

text_byte_within : (b : ℕ) → is_text_byte b ≡ true → within_line b ≡ true
text_byte_within b allowed = grind (arith, nat_tests)

has_space : (front rest : List ℕ) → list_all (λ b. not (b == 32)) (front ++ 32 ∷ rest) ≡ false
has_space [] rest = refl
has_space (b ∷ front) rest = and_right (not (b == 32)) _ (has_space front rest)

-- what has a space is not the heading
not_heading : (front rest : List ℕ) → (front ++ 32 ∷ rest) ≢ heading
not_heading front rest e = true≢false (sym (ap (list_all (λ b. not (b == 32))) e) ∙ has_space front rest)

of_joined : (words : List (List ℕ)) → AllIn HasTextBytes words → HasTextBytes (join_with_byte 32 words)
of_joined [] all = refl
of_joined (w ∷ []) all = all.0
of_joined (w ∷ v ∷ ws) all = of_both w (32 ∷ join_with_byte 32 (v ∷ ws)) all.0 (and_from _ _ refl (of_joined (v ∷ ws) all.1))

-- a line of two or more words
words_line : (w v : List ℕ) (ws : List (List ℕ)) → AllIn HasTextBytes (w ∷ v ∷ ws) → IsOfOthers (line_of (w ∷ v ∷ ws))
words_line w v ws all = one_line (join_with_byte 32 (w ∷ v ∷ ws)) (
  all_weaker is_text_byte within_line text_byte_within (join_with_byte 32 (w ∷ v ∷ ws)) (of_joined (w ∷ v ∷ ws) all),
  not_heading w (join_with_byte 32 (v ∷ ws)),
)

-- ---- the sections before the last

of_reply : (reply : Reply) → IsPrintableReply reply → IsOfOthers (reply_line reply)
of_reply reply may =
    words_line (codes "reply") reply.session (decimal reply.call ∷ outcome_words reply.outcome)
    (refl, (of_name reply.session may.0, (of_number reply.call may.1, of_outcome reply.outcome may.2)))

of_ran : (ran : Ran) → IsPrintableRan ran → IsOfOthers (ran_line ran)
of_ran ran may =
    words_line (id_text ran.id) ran.session (decimal ran.call ∷ decimal ran.attempt ∷ outcome_words ran.outcome)
    (of_id ran.id may.0, (of_name ran.session may.1, (of_number ran.call may.2, (of_number ran.attempt may.3, of_outcome ran.outcome may.4))))

of_row : (row : Shown) → IsPrintableRow row → IsOfOthers (row_line row)
of_row row may =
    words_line row.key (codes "=") (value_word row.value ∷ codes "home" ∷ decimal row.home ∷ codes "moves" ∷ decimal row.moves ∷ [])
    (of_key row.key may.0, (refl, (of_value row.value may.1, (refl, (of_number row.home may.2, (refl, (of_number row.moves may.3, tt)))))))

of_table : (region : ℕ) (rows : List Shown) → IsNumber region → AllIn IsPrintableRow rows → IsOfOthers (table_text region rows)
of_table region rows small may =
    both (line_of (codes "table" ∷ decimal region ∷ [])) (flat_map row_line rows)
    (words_line (codes "table") (decimal region) [] (refl, (of_number region small, tt)))
    (each IsPrintableRow row_line of_row rows may)

of_tables : (region : ℕ) (tables : List (List Shown)) → IsNumber (region + length tables) → AllIn (AllIn IsPrintableRow) tables → IsOfOthers (tables_text region tables)
of_tables region [] small may = none
of_tables region (rows ∷ tables) small may =
    both (table_text region rows) (tables_text (region + 1) tables) (of_table region rows (omega arith) may.0)
    (of_tables (region + 1) tables (omega arith) may.1)

-- a line of one word
word_line : (word : List ℕ) → HasTextBytes word → word ≢ heading → IsOfOthers (line_of (word ∷ []))
word_line word all other = one_line word (all_weaker is_text_byte within_line text_byte_within word all, other)

-- all that stands before the last section
abbrev front_of : Report → List ℕ
front_of report = replies_text report.replies ++ (order_text report.order ++ tables_text 0 report.tables)

of_front : (report : Report) → IsPrintable report → IsOfOthers (front_of report)
of_front report may =
    both (replies_text report.replies) (order_text report.order ++ tables_text 0 report.tables)
    (both (line_of (codes "replies" ∷ [])) (flat_map reply_line report.replies)
    (word_line (codes "replies") refl (bytes_apart (codes "replies") heading refl)) (each IsPrintableReply reply_line of_reply report.replies may.replies))
    (both (order_text report.order) (tables_text 0 report.tables)
    (both (line_of (codes "order" ∷ [])) (flat_map ran_line report.order)
    (word_line (codes "order") refl (bytes_apart (codes "order") heading refl)) (each IsPrintableRan ran_line of_ran report.order may.order))
    (of_tables 0 report.tables (omega (arith, may.regions)) may.tables))

split : (report : Report) → report_text report ≡ front_of report ++ events_text report.events
split report =
    let order = order_text report.order in
    let tables = tables_text 0 report.tables in
    let events = events_text report.events in
    ap (λ t. replies_text report.replies ++ t) (sym (append_assoc order tables events)) ∙ sym (append_assoc (replies_text report.replies) (order ++ tables) events)

-- ---- the first line that is the heading

-- a byte that ends no line is not 10
no_end : (b : ℕ) (bs : List ℕ) → list_all within_line (b ∷ bs) ≡ true → 10 ≡ b → ⊥
no_end b bs all e = true≢false (sym (and_parts _ _ all).0 ∙ ap within_line (sym e))

-- equal texts have equal first lines, and equal rests
first_line : (xs ys rest rest' : List ℕ) → list_all within_line xs ≡ true → list_all within_line ys ≡ true → xs ++ 10 ∷ rest ≡ ys ++ 10 ∷ rest'
    → (xs ≡ ys) × (rest ≡ rest')
first_line [] [] rest rest' left right e = (refl, same_tail e)
first_line [] (y ∷ ys) rest rest' left right e = absurd (no_end y ys right (same_head e))
first_line (x ∷ xs) [] rest rest' left right e = absurd (no_end x xs left (sym (same_head e)))
first_line (x ∷ xs) (y ∷ ys) rest rest' left right e =
    let later : (xs ≡ ys) × (rest ≡ rest') = first_line xs ys rest rest' (and_parts _ _ left).1 (and_parts _ _ right).1 (same_tail e) in
    ((λ i. same_head e i ∷ later.0 i), later.1)

next_line : (line : List ℕ) (lines : List (List ℕ)) (rest : List ℕ) → ended (line ∷ lines) ++ rest ≡ line ++ 10 ∷ (ended lines ++ rest)
next_line line lines rest = append_assoc (line ++ 10 ∷ []) (ended lines) rest ∙ append_assoc line (10 ∷ []) (ended lines ++ rest)

-- so what stands after the first line that is the heading is equal
same_rest : (xs ys : List (List ℕ)) (left right : List ℕ) → AllIn IsOther xs → AllIn IsOther ys
    → ended xs ++ (heading ++ 10 ∷ left) ≡ ended ys ++ (heading ++ 10 ∷ right) → left ≡ right
same_rest [] [] left right all_x all_y e = (first_line heading heading left right refl refl e).1
same_rest [] (y ∷ ys) left right all_x all_y e =
    let whole = e ∙ next_line y ys (heading ++ 10 ∷ right) in
    absurd ((all_y.0).1 (sym (first_line heading y left (ended ys ++ (heading ++ 10 ∷ right)) refl (all_y.0).0 whole).0))
same_rest (x ∷ xs) [] left right all_x all_y e =
    let whole = sym (next_line x xs (heading ++ 10 ∷ left)) ∙ e in
    absurd ((all_x.0).1 (first_line x heading (ended xs ++ (heading ++ 10 ∷ left)) right (all_x.0).0 refl whole).0)
same_rest (x ∷ xs) (y ∷ ys) left right all_x all_y e =
    let whole = sym (next_line x xs (heading ++ 10 ∷ left)) ∙ e ∙ next_line y ys (heading ++ 10 ∷ right) in
    let rest = first_line x y (ended xs ++ (heading ++ 10 ∷ left)) (ended ys ++ (heading ++ 10 ∷ right)) (all_x.0).0 (all_y.0).0 whole in
    same_rest xs ys left right all_x.1 all_y.1 rest.1

same_lines : (left right : Report) → IsPrintable left → IsPrintable right → report_text left ≡ report_text right
    → flat_map event_line left.events ≡ flat_map event_line right.events
same_lines left right may_left may_right e =
    let l = of_front left may_left in
    let r = of_front right may_right in
    same_rest l.lines r.lines (flat_map event_line left.events) (flat_map event_line right.events) l.others r.others
    (ap (λ t. t ++ events_text left.events) (sym l.is) ∙ sym (split left) ∙ e ∙ split right ∙ ap (λ t. t ++ events_text right.events) r.is)

-- numbered lists are equal only where the lists are
same_items : (n : ℕ) (xs ys : List Event) → enumerate_from n xs ≡ enumerate_from n ys → xs ≡ ys
same_items n [] [] e = refl
same_items n [] (y ∷ ys) e = cc
same_items n (x ∷ xs) [] e = cc
same_items n (x ∷ xs) (y ∷ ys) e =
    let first : x ≡ y = ap (λ (p : ℕ × Event). p.1) (same_head e) in
    λ i. first i ∷ same_items (n + 1) xs ys (same_tail e) i

pub tell_events : TextsTellEvents
tell_events left right may_left may_right e =
    let numbered = enumerate_from 1 left.events in
    let read : AreEvents (flat_map event_line left.events) numbered = (reads_back left.events may_left.events numbered).1 refl in
    let other : AreEvents (flat_map event_line right.events) numbered = subst (λ (t : List ℕ). AreEvents t numbered) (same_lines left right may_left may_right e) read in
    same_items 1 left.events right.events ((reads_back right.events may_right.events numbered).0 other)
