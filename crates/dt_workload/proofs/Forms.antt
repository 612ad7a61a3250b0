-- Words of lines and the forms that they say.
use Rattle.std.proofs.Common.{◌≡◌, ◌≢◌, ℕ, zero, suc, ◌<◌, ◌≤◌, ◌^◌, Bool, true, false, not, nat_eq, List, [], ◌∷◌, length, map, take, drop, get_or, Option, Some}
use Rattle.std.proofs.Common.{None, MatchOption, inl, inr, ◌++◌, refl, ap, sym, ◌∙◌, subst, arith}
use Rattle.std.proofs.lemmas.Bool.{false≢true, not-false, not-true}
use Rattle.std.proofs.Math.Seq.{drop-append_seam, take-append_seam}
use Rattle.std.proofs.lemmas.List.{take-append-drop}
use Rattle.std.specs.Cmp.Lexicographic.{pointwise, bytes_decides}
use Rattle.std.specs.Fmt.{decimal}
use Rattle.std.proofs.lemmas.Fmt.{decimal_injective}
use Rattle.std.specs.List.{list_any}
use Rattle.dt_lists.proofs.Callers.{any_image, any_map, any_of_image, any_of_test, same_head, same_tail, same_rest, test_of_any}
use Rattle.std.proofs.lemmas.Option.{same_Some}
use Rattle.dt_lists.specs.Lists.{AllIn, Has}
use Rattle.dt_text.specs.Texts.{IsName}
use Rattle.dt_text.specs.Reading.{words_of}
use Rattle.dt_text.specs.Values.{IsRowValue}
use Rattle.dt_text.specs.declared.Word.{Word}
use Rattle.dt_text.specs.declared.Value.{Value}
use Rattle.dt_text.proofs.Callers.{exact}
use Rattle.dt_text.specs.Texts.{Bytes}
use Rattle.dt_workload.specs.Lines.{Said, bare, said, Form, session_line, call_line, move_line, IsForm, IsRanked, IsFirstWord, SpellForm, HasForm, argument_word}
use Rattle.dt_workload.proofs.OneForm.{session_or_call, session_or_move, call_or_move, same_bare}
use Rattle.std.specs.Prelude.{codes}
use Rattle.dt_workload.specs.ReaderInner.{IsNoBeginning, ReadsForm, ReadsRank, ReadsRegion, Refuses, form_of}
use Rattle.dt_workload.specs.File.{IsSessionFault}
use Rattle.dt_workload.specs.Valid.{session_names}
use Rattle.dt_workload.specs.declared.workload.Session.{Session}
use Rattle.dt_workload.specs.declared.error.Refusal.{Refusal}
use Rattle.dt_workload.specs.declared.error.Refusal.TheVariants.{Cause, NoMemory}
use Rattle.dt_cluster.specs.declared.Cluster.{Cluster}
use Rattle.dt_workload.specs.declared.form.Form.{Form as Said_form}

-- words of which one is no argument are no arguments
pub no_arguments : (line : Bytes) (words : List Word) (i : ℕ) (d : Word) → i < length words
    → ((arg : Value) → IsRowValue arg → said line (get_or words i d) ≢ argument_word arg)
    → (args : List Value) → AllIn IsRowValue args → map (said line) words ≢ map argument_word args
no_arguments line [] i d within none args are same = absurd (omega arith)
no_arguments line (w ∷ ws) i d within none [] are same = cc
no_arguments line (w ∷ ws) zero d within none (arg ∷ args) are same = none arg are.0 (same_head same)
no_arguments line (w ∷ ws) (suc i) d within none (arg ∷ args) are same = no_arguments line ws i d (omega arith) none args are.1 (same_tail same)

-- two items
pub pair_of : {A : Type 0} (xs : List A) (a b : A) → 2 ≤ length xs → length xs < 3 → a ≡ get_or xs 0 a → b ≡ get_or xs 1 b → xs ≡ a ∷ b ∷ []
pair_of [] a b low high is is' = absurd (omega arith)
pair_of (x ∷ []) a b low high is is' = absurd (omega arith)
pair_of (x ∷ y ∷ []) a b low high is is' = rw (is, is') refl
pair_of (x ∷ y ∷ z ∷ zs) a b low high is is' = absurd (omega arith)

-- a line that is not made of words has no form
pub no_form : (line : Bytes) → words_of line ≡ None → (f : Form) → ¬ HasForm line f
no_form line none f has = let h = (exact line has.1.0).1 has.1.1 in cc

-- what the words of a line say is what the line says
pub form_answer : (line : Bytes) (words : List Word) (answer : Option Said_form) → words_of line ≡ Some words → ReadsForm (map (said line) words) answer
    → MatchOption answer ((f : Form) → ¬ HasForm line f) (λ f. HasForm line (form_of f))
form_answer line words None is none = λ f has.
    let one : has.1.0 ≡ words = same_Some _ _ (sym ((exact line has.1.0).1 has.1.1) ∙ is) in
    none f has.0 (subst (λ ws. SpellForm f (map (said line) ws)) one has.1.2)
form_answer line words (Some f) is read = (read.0, (words, (exact line words).0 is, read.1))

not_same : (b : Bool) (x y : Bytes) → b ≡ not (pointwise nat_eq x y) → b ≡ true → x ≡ y → ⊥
not_same b x y is h e = false≢true (sym (not-true _ (sym is ∙ h)) ∙ (bytes_decides x y).1 e)

same_bytes : (b : Bool) (x y : Bytes) → b ≡ not (pointwise nat_eq x y) → b ≡ false → x ≡ y
same_bytes b x y is h = (bytes_decides x y).0 (not-false _ (sym is ∙ h))

-- a word that says another than the fixed one is not followed by a number of a region
pub other_word : (fixed found : Bytes) (s : Said) (ne : Bool) (n t : Said) → ne ≡ not (pointwise nat_eq found fixed) → ne ≡ true → s ∷ t ∷ [] ≡ bare fixed ∷ n ∷ [] → s ≡ bare found → ⊥
other_word fixed found s ne n t is h same said = not_same ne found fixed is h (same_bare (sym said ∙ same_head same))

-- the fixed word and then a number, where one is read
pub region_read : (fixed found word : Bytes) (s t : Said) (ne : Bool) (answer : Option ℕ) → ne ≡ not (pointwise nat_eq found fixed) → ne ≡ false → s ≡ bare found → t ≡ bare word
    → MatchOption answer ((n : ℕ) → n < 2 ^ 32 → word ≢ decimal n) (λ n. (n < 2 ^ 32) × (word ≡ decimal n)) → ReadsRegion fixed (s ∷ t ∷ []) answer
region_read fixed found word s t ne None is h a b none = λ n small same. none n small (same_bare (sym b ∙ same_head (same_tail same)))
region_read fixed found word s t ne (Some n) is h a b read = (read.0, rw (a, b, same_bytes ne found fixed is h, read.1) refl)

-- nothing was read, so nothing is said
pub nothing_said : (P : Value → Type 0) (Q : Type 0) (found : Option Value) → found ≡ None → MatchOption found Q P → Q
nothing_said P Q None is h = h
nothing_said P Q (Some v) is h = absurd cc

-- a test of the names of sessions is passed where one of them is the name
pub named_by_test : (sessions : List Session) (name : Bytes) → list_any (λ (s : Session). pointwise nat_eq s.name name) sessions ≡ true → Has (session_names sessions) name
named_by_test sessions name passed =
    any_image (λ n. n ≡ name) (λ (s : Session). s.name) sessions (any_map _ _ sessions (λ s same. (bytes_decides s.name name).0 same) (any_of_test _ sessions passed))

pub test_of_name : (sessions : List Session) (name : Bytes) → Has (session_names sessions) name → list_any (λ (s : Session). pointwise nat_eq s.name name) sessions ≡ true
test_of_name sessions name has =
    test_of_any _ sessions (any_map _ _ sessions (λ s same. (bytes_decides s.name name).1 same) (any_of_image (λ n. n ≡ name) (λ (s : Session). s.name) sessions has))

-- where no session of a name can begin, its line is at fault for that
pub no_beginning : (cluster : Cluster) (before : List Session) (name word : Bytes) (region : ℕ) (why : Refusal) → name ≡ word → IsName name
    → Refuses (IsNoBeginning cluster before name region) why → Refuses (IsSessionFault cluster before word region) why
no_beginning cluster before name word region (Cause told) same is fault =
    subst (λ w. IsSessionFault cluster before w region told) same (inr (is, fault))
no_beginning cluster before name word region NoMemory same is fault = tt

-- ---- forms by the word that begins a line

-- fewer than two words spell no form
pub few_words : (words : List Said) → length words < 2 → (f : Form) → IsForm f → ¬ SpellForm f words
few_words [] few f fits (head, is, e) = cc
few_words (s ∷ []) few (session_line name region) fits (head, is, e) = let none = same_tail e in cc
few_words (s ∷ []) few (move_line rank key region) fits (head, is, e) = let none = same_tail e in cc
few_words (s ∷ []) few (call_line rank proc args) fits (head, is, e) = let none = same_tail e in cc
few_words (s ∷ t ∷ words) few f fits spelled = absurd (omega (arith, few))

-- the word that begins a form is bare
first_is_bare : (f : Form) (head : Said) → IsFirstWord f head → (bs : Bytes) × (head ≡ bare bs)
first_is_bare (session_line name region) head is = (codes "session", is)
first_is_bare (call_line rank proc args) head (inl is) = (codes "call", is.1)
first_is_bare (call_line rank proc args) head (inr is) = (codes "call" ++ 47 ∷ decimal rank, is)
first_is_bare (move_line rank key region) head (inl is) = (codes "move", is.1)
first_is_bare (move_line rank key region) head (inr is) = (codes "move" ++ 47 ∷ decimal rank, is)

-- words of which the first, or the second, is a text spell no form
pub no_first_word : (s : Said) (words : List Said) → ((bytes : Bytes) → s ≢ bare bytes) → (f : Form) → IsForm f → ¬ SpellForm f (s ∷ words)
no_first_word s words none f fits (head, is, e) = let b = first_is_bare f head is in none b.0 (same_head e ∙ b.1)

pub no_second_word : (s t : Said) (words : List Said) → ((bytes : Bytes) → t ≢ bare bytes) → (f : Form) → IsForm f → ¬ SpellForm f (s ∷ t ∷ words)
no_second_word s t words none (session_line name region) fits (head, is, e) = none name (same_head (same_tail e))
no_second_word s t words none (call_line rank proc args) fits (head, is, e) = none proc (same_head (same_tail e))
no_second_word s t words none (move_line rank key region) fits (head, is, e) = none key (same_head (same_tail e))

-- a list of two items at least, by its first two and the others
pub two_and_others : {A : Type 0} (xs rest : List A) (a b : A) → 2 ≤ length xs → a ≡ get_or xs 0 a → b ≡ get_or xs 1 b → rest ≡ drop 2 xs → xs ≡ a ∷ b ∷ rest
two_and_others [] rest a b some is is' others = absurd (omega (arith, some))
two_and_others (x ∷ []) rest a b some is is' others = absurd (omega (arith, some))
two_and_others (x ∷ y ∷ xs) rest a b some is is' others = rw (is, is', others) refl

-- a session's line has a form only where a region is said
pub no_session_form : (subject : Bytes) (rest : List Said) → ((n : ℕ) → n < 2 ^ 32 → rest ≢ bare (codes "at") ∷ bare (decimal n) ∷ [])
    → (f : Form) → IsForm f → ¬ SpellForm f (bare (codes "session") ∷ bare subject ∷ rest)
no_session_form subject rest none (session_line name region) fits (head, is, e) = none region fits (same_tail (same_tail e))
no_session_form subject rest none (call_line rank proc args) fits (head, is, e) = session_or_call rank head (sym (same_head e)) is
no_session_form subject rest none (move_line rank key region) fits (head, is, e) = session_or_move rank head (sym (same_head e)) is

-- a call's line has a form only where arguments are said
pub no_call_form : (word subject : Bytes) (rest : List Said) (rank : ℕ) → IsRanked (codes "call") rank (bare word)
    → ((args : List Value) → AllIn IsRowValue args → rest ≢ map argument_word args) → (f : Form) → IsForm f → ¬ SpellForm f (bare word ∷ bare subject ∷ rest)
no_call_form word subject rest rank ranked none (session_line name region) fits (head, is, e) = session_or_call rank (bare word) (same_head e ∙ is) ranked
no_call_form word subject rest rank ranked none (call_line q proc args) fits (head, is, e) = none args fits.1 (same_tail (same_tail e))
no_call_form word subject rest rank ranked none (move_line q key region) fits (head, is, e) =
    call_or_move rank q (bare word) ranked (subst (IsRanked (codes "move") q) (sym (same_head e)) is)

-- a move's line has a form only where a region is said
pub no_move_form : (word subject : Bytes) (rest : List Said) (rank : ℕ) → IsRanked (codes "move") rank (bare word)
    → ((n : ℕ) → n < 2 ^ 32 → rest ≢ bare (codes "to") ∷ bare (decimal n) ∷ []) → (f : Form) → IsForm f → ¬ SpellForm f (bare word ∷ bare subject ∷ rest)
no_move_form word subject rest rank ranked none (session_line name region) fits (head, is, e) = session_or_move rank (bare word) (same_head e ∙ is) ranked
no_move_form word subject rest rank ranked none (call_line q proc args) fits (head, is, e) =
    call_or_move q rank (bare word) (subst (IsRanked (codes "call") q) (sym (same_head e)) is) ranked
no_move_form word subject rest rank ranked none (move_line q key region) fits (head, is, e) = none region fits.1 (same_tail (same_tail e))

-- a line that begins with another word has no form
pub no_kind : (word : Bytes) (rest : List Said) → ¬ (word ≡ codes "session") → ((rank : ℕ) → rank < 10 → ¬ IsRanked (codes "call") rank (bare word))
    → ((rank : ℕ) → rank < 10 → ¬ IsRanked (codes "move") rank (bare word)) → (f : Form) → IsForm f → ¬ SpellForm f (bare word ∷ rest)
no_kind word rest other calls moves (session_line name region) fits (head, is, e) = other (same_bare (same_head e ∙ is))
no_kind word rest other calls moves (call_line rank proc args) fits (head, is, e) = calls rank fits.0 (subst (IsRanked (codes "call") rank) (sym (same_head e)) is)
no_kind word rest other calls moves (move_line rank key region) fits (head, is, e) = moves rank fits.0 (subst (IsRanked (codes "move") rank) (sym (same_head e)) is)

-- a word that is not the kind alone, and after which no digit follows a `/`, says no rank
pub no_rank : (kind word : Bytes) → ¬ (word ≡ kind) → ((rest : Bytes) → word ≢ kind ++ 47 ∷ rest) → (rank : ℕ) → rank < 10 → ¬ IsRanked kind rank (bare word)
no_rank kind word other none rank low (inl h) = other (same_bare h.1)
no_rank kind word other none rank low (inr h) = none (decimal rank) (same_bare h)

pub no_digit : (kind word digits : Bytes) → ¬ (word ≡ kind) → word ≡ kind ++ 47 ∷ digits → ((n : ℕ) → n < 10 → digits ≢ decimal n)
    → (rank : ℕ) → rank < 10 → ¬ IsRanked kind rank (bare word)
no_digit kind word digits other cut none rank low (inl h) = other (same_bare h.1)
no_digit kind word digits other cut none rank low (inr h) = none rank low (same_tail (same_rest kind (47 ∷ digits) (47 ∷ decimal rank) (sym cut ∙ same_bare h)))

-- ---- the front of a word

front_cut : (front word : Bytes) → take (length front) word ≡ front → word ≡ front ++ drop (length front) word
front_cut front word e = sym (take-append-drop (length front) word) ∙ ap (λ bs. bs ++ drop (length front) word) e

one_slash : (left rest : Bytes) → take 1 left ≡ 47 ∷ [] → rest ≡ drop 1 left → left ≡ 47 ∷ rest
one_slash [] rest e after = absurd cc
one_slash (b ∷ left) rest e after = λ i. same_head e i ∷ sym after i

-- a word that does not begin with the kind
pub begins_not : (word kind : Bytes) → pointwise nat_eq (take (length kind) word) kind ≡ false → (rest : Bytes) → word ≢ kind ++ 47 ∷ rest
begins_not word kind other rest is =
    false≢true (sym other ∙ (bytes_decides (take (length kind) word) kind).1 (ap (take (length kind)) is ∙ take-append_seam kind (47 ∷ rest)))

-- a word that goes on after the kind with another byte than a slash, or ends
pub no_slash : (word kind left : Bytes) → left ≡ drop (length kind) word → pointwise nat_eq (take 1 left) (47 ∷ []) ≡ false → (rest : Bytes) → word ≢ kind ++ 47 ∷ rest
no_slash word kind left cut other rest is =
    false≢true (sym other ∙ (bytes_decides (take 1 left) (47 ∷ [])).1 (ap (take 1) (cut ∙ ap (drop (length kind)) is ∙ drop-append_seam kind (47 ∷ rest))))

-- a word that begins with the kind and a slash
pub slash_cut : (word kind left rest : Bytes) → pointwise nat_eq (take (length kind) word) kind ≡ true → left ≡ drop (length kind) word
    → pointwise nat_eq (take 1 left) (47 ∷ []) ≡ true → rest ≡ drop 1 left → word ≡ kind ++ 47 ∷ rest
slash_cut word kind left rest begins cut slash after =
    let front = (bytes_decides (take (length kind) word) kind).0 begins in
    let is = one_slash left rest ((bytes_decides (take 1 left) (47 ∷ [])).0 slash) after in
    front_cut kind word front ∙ ap (λ bs. kind ++ bs) (sym cut ∙ is)

-- ---- ranks

pub other_bytes : (b : Bool) (x y : Bytes) → b ≡ pointwise nat_eq x y → b ≡ false → ¬ (x ≡ y)
other_bytes b x y is no_match same = false≢true (sym no_match ∙ is ∙ (bytes_decides x y).1 same)

-- no number follows the slash
pub digit_none : (kind word digits : Bytes) (answer : Option ℕ) → answer ≡ None → ¬ (word ≡ kind) → word ≡ kind ++ 47 ∷ digits
    → ((n : ℕ) → n < 2 ^ 32 → digits ≢ decimal n) → ReadsRank kind word answer
digit_none kind word digits None is other cut none = no_digit kind word digits other cut (λ n low. none n (omega (arith, low)))
digit_none kind word digits (Some n) is other cut none = absurd cc

-- the number that follows the slash has two digits or more
pub digit_high : (kind word digits : Bytes) (n : ℕ) → ¬ (word ≡ kind) → word ≡ kind ++ 47 ∷ digits → n < 2 ^ 32 → digits ≡ decimal n → 10 ≤ n
    → (rank : ℕ) → rank < 10 → ¬ IsRanked kind rank (bare word)
digit_high kind word digits n other cut small is high =
    no_digit kind word digits other cut (λ m low same. absurd (omega (arith, low, high, decimal_injective m n (omega (arith, low)) (omega (arith, small)) (sym same ∙ is))))
