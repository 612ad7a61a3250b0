-- A line has one form.
use Rattle.std.proofs.Common.{inl, inr, ◌++◌, length, length-append, subst, ◌≡◌, ℕ, ◌<◌}
use Rattle.std.proofs.Common.{List, [], ◌∷◌, map, refl, sym, ap, ◌∙◌, arith}
use Rattle.std.specs.Prelude.{codes}
use Rattle.std.specs.Fmt.{decimal}
use Rattle.std.proofs.lemmas.Fmt.{signed_decimal_injective}
use Rattle.dt_lists.proofs.Callers.{same_head, same_tail, same_rest}
use Rattle.std.proofs.lemmas.Option.{same_Some}
use Rattle.dt_lists.specs.Lists.{AllIn}
use Rattle.dt_text.specs.Values.{IsRowValue}
use Rattle.dt_text.specs.declared.Value.{Value}
use Rattle.dt_text.specs.declared.Value.TheVariants.{Int, Text}
use Rattle.dt_text.proofs.Callers.{exact, same_number}
use Rattle.dt_text.specs.Texts.{Bytes}
use Rattle.dt_workload.specs.Lines.{bare, quoted, said, Form, session_line, call_line, move_line, argument_word, Said, IsRanked, IsFirstWord, other_words, SpellForm, IsForm, HasForm}

-- the bytes of a word that is bare, and of one in quotes
pub same_bare : {a b : Bytes} → bare a ≡ bare b → a ≡ b
same_bare e = cc

pub same_quoted : {a b : Bytes} → quoted a ≡ quoted b → a ≡ b
same_quoted e = cc

not_both : {a b : Bytes} → bare a ≡ quoted b → ⊥
not_both e = cc

same_argument : (v w : Value) → IsRowValue v → IsRowValue w → argument_word v ≡ argument_word w → v ≡ w
same_argument (Int y) (Int z) fits_v fits_w e = ap Int (signed_decimal_injective y z fits_v.sfits fits_w.sfits (same_bare e))
same_argument (Int y) (Text t) fits_v fits_w e = absurd (not_both e)
same_argument (Text t) (Int z) fits_v fits_w e = absurd (not_both (sym e))
same_argument (Text t) (Text u) fits_v fits_w e = ap Text (same_quoted e)

same_arguments : (vs ws : List Value) → AllIn IsRowValue vs → AllIn IsRowValue ws → map argument_word vs ≡ map argument_word ws → vs ≡ ws
same_arguments [] [] fit_vs fit_ws e = refl
same_arguments [] (w ∷ ws) fit_vs fit_ws e = cc
same_arguments (v ∷ vs) [] fit_vs fit_ws e = cc
same_arguments (v ∷ vs) (w ∷ ws) fit_vs fit_ws e =
    λ i. same_argument v w fit_vs.0 fit_ws.0 (same_head e) i ∷ same_arguments vs ws fit_vs.1 fit_ws.1 (same_tail e) i

-- ---- the word that begins a line

-- the kind alone is no kind with a rank
not_alone : (kind : Bytes) (rank : ℕ) → kind ≡ kind ++ 47 ∷ decimal rank → ⊥
not_alone kind rank e = omega (arith, ap length e, length-append kind (47 ∷ decimal rank))

-- a word says one rank
one_rank : (kind : Bytes) (r q : ℕ) (head : Said) → r < 10 → q < 10 → IsRanked kind r head → IsRanked kind q head → r ≡ q
one_rank kind r q head low_r low_q (inl h) (inl k) = h.0 ∙ sym k.0
one_rank kind r q head low_r low_q (inl h) (inr k) = absurd (not_alone kind q (same_bare (sym h.1 ∙ k)))
one_rank kind r q head low_r low_q (inr h) (inl k) = absurd (not_alone kind r (same_bare (sym k.1 ∙ h)))
one_rank kind r q head low_r low_q (inr h) (inr k) =
    same_number r q (omega (arith, low_r)) (omega (arith, low_q)) (same_tail (same_rest kind (47 ∷ decimal r) (47 ∷ decimal q) (same_bare (sym h ∙ k))))

-- the first byte of a word that begins a line of a kind is the kind's
begins : (b : ℕ) (kind : Bytes) (rank : ℕ) (head : Said) → IsRanked (b ∷ kind) rank head → (rest : Bytes) × (head ≡ bare (b ∷ rest))
begins b kind rank head (inl h) = (kind, h.1)
begins b kind rank head (inr h) = (kind ++ 47 ∷ decimal rank, h)

-- words that begin with different bytes differ
apart : (b c : ℕ) (xs ys : Bytes) (head : Said) → head ≡ bare (b ∷ xs) → head ≡ bare (c ∷ ys) → b ≡ c
apart b c xs ys head h k = same_head (same_bare (sym h ∙ k))

pub session_or_call : (rank : ℕ) (head : Said) → head ≡ bare (codes "session") → IsRanked (codes "call") rank head → ⊥
session_or_call rank head h k = let b = begins 99 (codes "all") rank head k in let e : 115 ≡ 99 = apart 115 99 (codes "ession") b.0 head h b.1 in omega (arith, e)

pub session_or_move : (rank : ℕ) (head : Said) → head ≡ bare (codes "session") → IsRanked (codes "move") rank head → ⊥
session_or_move rank head h k = let b = begins 109 (codes "ove") rank head k in let e : 115 ≡ 109 = apart 115 109 (codes "ession") b.0 head h b.1 in omega (arith, e)

pub call_or_move : (r q : ℕ) (head : Said) → IsRanked (codes "call") r head → IsRanked (codes "move") q head → ⊥
call_or_move r q head h k =
    let a = begins 99 (codes "all") r head h in
    let b = begins 109 (codes "ove") q head k in
    let e : 99 ≡ 109 = apart 99 109 a.0 b.0 head a.1 b.1 in omega (arith, e)

-- the words determine the form
same_form : (f g : Form) → IsForm f → IsForm g → (head : Said) → IsFirstWord f head → IsFirstWord g head → other_words f ≡ other_words g → f ≡ g
same_form (session_line n r) (session_line m q) is_f is_g head h k e =
    let name : n ≡ m = same_bare (same_head e) in
    let region = same_number r q is_f is_g (same_bare (same_head (same_tail (same_tail e)))) in
    λ i. session_line (name i) (region i)
same_form (session_line n r) (call_line s p args) is_f is_g head h k e = absurd (session_or_call s head h k)
same_form (session_line n r) (move_line s j q) is_f is_g head h k e = absurd (session_or_move s head h k)
same_form (call_line s p args) (session_line n r) is_f is_g head h k e = absurd (session_or_call s head k h)
same_form (call_line s p args) (call_line t o others) is_f is_g head h k e =
    let rank = one_rank (codes "call") s t head is_f.0 is_g.0 h k in
    let proc : p ≡ o = same_bare (same_head e) in
    let same = same_arguments args others is_f.1 is_g.1 (same_tail e) in
    λ i. call_line (rank i) (proc i) (same i)
same_form (call_line s p args) (move_line t j q) is_f is_g head h k e = absurd (call_or_move s t head h k)
same_form (move_line s j r) (session_line n q) is_f is_g head h k e = absurd (session_or_move s head k h)
same_form (move_line s j r) (call_line t p args) is_f is_g head h k e = absurd (call_or_move t s head k h)
same_form (move_line s j r) (move_line t l q) is_f is_g head h k e =
    let rank = one_rank (codes "move") s t head is_f.0 is_g.0 h k in
    let key : j ≡ l = same_bare (same_head e) in
    let region = same_number r q is_f.1 is_g.1 (same_bare (same_head (same_tail (same_tail e)))) in
    λ i. move_line (rank i) (key i) (region i)

-- words spell one form
pub one_spelled : (f g : Form) (words : List Said) → IsForm f → IsForm g → SpellForm f words → SpellForm g words → f ≡ g
one_spelled f g words is_f is_g h k =
    let e = sym h.2 ∙ k.2 in
    same_form f g is_f is_g h.0 h.1 (subst (IsFirstWord g) (sym (same_head e)) k.1) (same_tail e)

-- a line has one form
pub one_form : (line : Bytes) (f g : Form) → HasForm line f → HasForm line g → f ≡ g
one_form line f g h k =
    let words : h.1.0 ≡ k.1.0 = same_Some _ _ (sym ((exact line h.1.0).1 h.1.1) ∙ (exact line k.1.0).1 k.1.1) in
    one_spelled f g (map (said line) h.1.0) h.0 k.0 h.1.2 (subst (λ ws. SpellForm g (map (said line) ws)) (sym words) k.1.2)
