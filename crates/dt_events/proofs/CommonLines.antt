-- Lines with regions of one digit: they are their events, and these are printed as they are.
use Rattle.std.proofs.Common.{◌≡◌, ℕ, ◌+◌, ◌<◌, ◌^◌, List, [], ◌∷◌, ◌++◌, codes, ap, sym, ◌∙◌, subst, arith, append_assoc, append-nil}
use Rattle.std.specs.Fmt.{decimal}
use Rattle.std.proofs.lemmas.Fmt.{decimal_digit}
use Rattle.dt_text.specs.Texts.{IsName}
use Rattle.dt_text.specs.Words.{spaced}
use Rattle.dt_access.specs.declared.TxnId.{TxnId}
use Rattle.dt_access.specs.Ids.{IsCounted, id_text}
use Rattle.dt_events.specs.declared.event.Event.{Event}
use Rattle.dt_events.specs.declared.event.Event.TheVariants.{Submit, Append, Insert, Execute, Answer}
use Rattle.dt_events.specs.Events.{IsWritten, IsEventLine, event_text}
use Rattle.dt_events.proofs.PrintedEvents.{text_is_event}

-- the bytes are the digit of a region, a space and the rest
abbrev pub BeginsWith : ℕ → List ℕ → List ℕ → Type 0
BeginsWith region bytes rest = (region < 10) × (bytes ≡ (48 + region) ∷ 32 ∷ rest)

printed : (line : List ℕ) (event : Event) → IsWritten event → event_text event ≡ line → IsEventLine line event
printed line event written same = subst (λ text. IsEventLine text event) same (text_is_event event written)

-- a region, a space and other words
region_then : (region : ℕ) (bytes rest more : List ℕ) → BeginsWith region bytes rest → more ≡ rest → decimal region ++ 32 ∷ more ≡ bytes
region_then region bytes rest more begins same =
    let digit = decimal_digit region begins.0 in
    (λ i. digit i ++ 32 ∷ same i) ∙ sym begins.1

pub insert_line : (line bytes rest : List ℕ) (region home : ℕ) → line ≡ codes "insert " ++ bytes → BeginsWith region bytes rest → (home < 10) × (rest ≡ (48 + home) ∷ []) → IsEventLine line (Insert region home)
insert_line line bytes rest region home is first last =
    let words = region_then region bytes rest (decimal home) first (decimal_digit home last.0 ∙ sym last.1) in
    printed line (Insert region home) (omega (arith, first.0), omega (arith, last.0)) ((λ i. codes "insert" ++ 32 ∷ words i) ∙ sym is)

pub execute_line : (line bytes rest : List ℕ) (region : ℕ) (id : TxnId) → line ≡ codes "execute " ++ bytes → BeginsWith region bytes rest → IsCounted id × (rest ≡ id_text id) → IsEventLine line (Execute region id)
execute_line line bytes rest region id is first read =
    let words = region_then region bytes rest (id_text id) first (sym read.1) in
    printed line (Execute region id) (omega (arith, first.0), read.0) ((λ i. codes "execute" ++ 32 ∷ words i) ∙ sym is)

pub append_line : (line bytes rest word : List ℕ) (home source number : ℕ) → line ≡ codes "append " ++ bytes → BeginsWith home bytes rest → BeginsWith source rest word → (number < 2 ^ 32) × (word ≡ decimal number)
    → IsEventLine line (Append home source number)
append_line line bytes rest word home source number is first second read =
    let words = region_then home bytes rest (decimal source ++ 32 ∷ decimal number) first (region_then source rest word (decimal number) second (sym read.1)) in
    printed line (Append home source number) (omega (arith, first.0), omega (arith, second.0), read.0) ((λ i. codes "append" ++ 32 ∷ words i) ∙ sym is)

pub submit_line : (line bytes rest : List ℕ) (region : ℕ) (session : List ℕ) → line ≡ codes "submit " ++ bytes → BeginsWith region bytes rest → IsName session × (session ≡ rest) → IsEventLine line (Submit region session)
submit_line line bytes rest region session is first read =
    let words = region_then region bytes rest session first read.1 in
    printed line (Submit region session) (omega (arith, first.0), read.0) ((λ i. codes "submit" ++ 32 ∷ words i) ∙ sym is)

pub answer_line : (line bytes rest : List ℕ) (region : ℕ) (session : List ℕ) → line ≡ codes "answer " ++ bytes → BeginsWith region bytes rest → IsName session × (session ≡ rest) → IsEventLine line (Answer region session)
answer_line line bytes rest region session is first read =
    let words = region_then region bytes rest session first read.1 in
    printed line (Answer region session) (omega (arith, first.0), read.0) ((λ i. codes "answer" ++ 32 ∷ words i) ∙ sym is)

-- ---- such events are printed

pub insert_put : (before text : List ℕ) (region home : ℕ) → region < 10 → home < 10 → text ≡ before ++ (codes "insert " ++ (48 + region) ∷ 32 ∷ (48 + home) ∷ []) → text ≡ before ++ event_text (Insert region home)
insert_put before text region home one other put =
    let first = sym (decimal_digit region one) in
    let second = sym (decimal_digit home other) in
    put ∙ (λ i. before ++ (codes "insert" ++ 32 ∷ (first i ++ 32 ∷ second i)))

pub execute_put : (before text after : List ℕ) (region : ℕ) (id : TxnId) → region < 10 → text ≡ before ++ (codes "execute " ++ (48 + region) ∷ 32 ∷ [])
    → after ≡ text ++ id_text id → after ≡ before ++ event_text (Execute region id)
execute_put before text after region id one put more =
    let first = sym (decimal_digit region one) in
    more ∙ ap (λ t. t ++ id_text id) put ∙ append_assoc before (codes "execute " ++ (48 + region) ∷ 32 ∷ []) (id_text id) ∙ (λ i. before ++ (codes "execute" ++ 32 ∷ (first i ++ 32 ∷ id_text id)))

pub append_put : (before text after : List ℕ) (home source number n : ℕ) → home < 10 → source < 10 → text ≡ before ++ (codes "append " ++ (48 + home) ∷ 32 ∷ (48 + source) ∷ []) → n ≡ number
    → after ≡ text ++ spaced (decimal n ∷ []) → after ≡ before ++ event_text (Append home source number)
append_put before text after home source number n one other put same more =
    let first = sym (decimal_digit home one) in
    let second = sym (decimal_digit source other) in
    let third = append-nil (decimal n) ∙ ap decimal same in
    more ∙ ap (λ t. t ++ 32 ∷ (decimal n ++ [])) put ∙ append_assoc before (codes "append " ++ (48 + home) ∷ 32 ∷ (48 + source) ∷ []) (32 ∷ (decimal n ++ []))
    ∙ (λ i. before ++ (codes "append" ++ 32 ∷ (first i ++ 32 ∷ (second i ++ 32 ∷ third i))))
