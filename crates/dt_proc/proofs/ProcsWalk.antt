-- Procedures, one after another, as the walk over them finds them.
use Rattle.std.proofs.Common.{◌≡◌, ◌⊎◌, inl, inr, ℕ, ◌+◌, ◌≤◌, true, false, ◌==◌, List, [], ◌∷◌, ◌++◌, length, append-nil, Ok}
use Rattle.std.proofs.Common.{Err, refl, sym, ap, ◌∙◌, subst, arith}
use Rattle.std.proofs.lemmas.List.{length-append}
use Rattle.dt_lists.specs.Lists.{AllIn, Distinct}
use Rattle.dt_lists.proofs.Callers.{all_more}
use Rattle.dt_syntax.specs.declared.token.Placed.{Placed}
use Rattle.dt_proc.specs.declared.error.ProcError.{ProcError}
use Rattle.dt_proc.specs.declared.error.ProcError.TheVariants as fault
use Rattle.dt_proc.specs.Tree.{ProcTree}
use Rattle.dt_proc.specs.Sound.{IsSoundProc}
use Rattle.dt_proc.specs.AfterOk.{after_ok}
use Rattle.dt_proc.specs.SecondPass.{Checked, check_proc, check_procs}
use Rattle.dt_syntax.specs.Grammar.{ProcSyntax, proc_tokens, procs_tokens, IsProc, AreProcSyntaxes}
use Rattle.dt_proc.specs.WalkInner.{WalkAnswers, PassGives, StartsProc, AreFewProcs}
use Rattle.dt_syntax.specs.Limits.{AllSound, IsSmall}
use Rattle.std.proofs.lemmas.Bool.Decides.{nat_tests}
use Rattle.dt_syntax.specs.FirstPass.{PassesFirst, NoneTooMany, FirstFault}
use Rattle.dt_syntax.specs.declared.error.SyntaxError.{SyntaxError}
use Rattle.dt_syntax.specs.declared.error.SyntaxError.TheVariants as syntax
use Rattle.dt_proc.specs.Outcome.{Outcome, told_first}
use Rattle.dt_proc.proofs.EveryOutcome.{second}
use Rattle.dt_proc.proofs.ExprWalk.{one_more}
use Rattle.dt_syntax.proofs.Callers.{sound_left, sound_right, text_sound, procs_small, none_spelled}
use Rattle.dt_proc.proofs.ProcNames.{distinct_more, names}

-- what is left of the procedures: few enough, and each of the grammar
pub record Left (made : ℕ) (ts : List Placed) : Type 0 where
  pub all : List ProcSyntax
  pub good : AreProcSyntaxes all
  pub small : AllIn IsSmall all
  pub few : made + length all ≤ 64
  pub sound : AllSound ts
  pub cut : procs_tokens all ≡ ts

-- what is reported of all, in terms of what was made and what is left
abbrev pub ToldSoFar : List Placed → List ProcTree → List Placed → Type 0
ToldSoFar tokens items rest =
    (ps : List ProcSyntax) → AreProcSyntaxes ps → procs_tokens ps ≡ tokens →
    (qs : List ProcSyntax) × AreProcSyntaxes qs × (procs_tokens qs ≡ rest) × (check_procs [] ps ≡ after_ok (check_procs items qs) (λ r. Ok (items ++ r)))

pub record Going (tokens : List Placed) (items : List ProcTree) (rest : List Placed) : Type 0 where
  pub sound : AllIn IsSoundProc items
  pub distinct : Distinct (names items)
  pub left : Left (length items) rest
  pub told : ToldSoFar tokens items rest

-- a procedure comes first where something is left
pub starts : (made : ℕ) (ts : List Placed) → ¬ (ts ≡ []) → Left made ts → StartsProc ts
starts made ts some l = first l.all l.good l.small l.cut
  where
    first : (all : List ProcSyntax) → AreProcSyntaxes all → AllIn IsSmall all → procs_tokens all ≡ ts → StartsProc ts
    first [] good small cut = absurd (some (sym cut))
    first (p ∷ ps) good small cut =
        record { one = p; rest = procs_tokens ps; good = good.0; small = small.0; sound = sound_left (proc_tokens p) (procs_tokens ps) (subst AllSound (sym cut) l.sound); cut = cut }

-- the code's answer about the procedure that comes first
abbrev pub Right : List ProcTree → List Placed → Checked (ProcTree × List Placed) → Type 0
Right before ts r = (p : ProcSyntax) (rest : List Placed) → IsProc p → proc_tokens p ++ rest ≡ ts → WalkAnswers (check_proc before p) rest r

-- what is left after one more procedure
next_left : (before : List ProcTree) (item : ProcTree) (ts after : List Placed) → ¬ (ts ≡ []) → Left (length before) ts → Right before ts (Ok (item, after)) →
    Left (length (before ++ item ∷ [])) after
next_left before item ts after some l right = first l.all l.good l.small l.few l.cut
  where
    first : (all : List ProcSyntax) → AreProcSyntaxes all → AllIn IsSmall all → length before + length all ≤ 64 → procs_tokens all ≡ ts → Left (length (before ++ item ∷ [])) after
    first [] good small few cut = absurd (some (sym cut))
    first (p ∷ ps) good small few cut =
        let told = right p (procs_tokens ps) good.0 cut in
        record {
          all = ps;
          good = good.1;
          small = small.1;
          few = omega (arith, few, length-append before (item ∷ []));
          sound = subst AllSound (sym told.1) (sound_right (proc_tokens p) (procs_tokens ps) (subst AllSound (sym cut) l.sound));
          cut = sym told.1;
        }

-- what is told of procedures where `t` is reported of the first
abbrev procs_with : List ProcTree → List ProcSyntax → Checked ProcTree → Checked (List ProcTree)
procs_with before qs t = after_ok (after_ok t (λ i. after_ok (check_procs (before ++ i ∷ []) qs) (λ r. Ok (i ∷ r)))) (λ r. Ok (before ++ r))

next_told : (tokens : List Placed) (before : List ProcTree) (item : ProcTree) (ts after : List Placed) → ¬ (ts ≡ []) → ToldSoFar tokens before ts → Right before ts (Ok (item, after)) →
    ToldSoFar tokens (before ++ item ∷ []) after
next_told tokens before item ts after some so right ps good cut = first (so ps good cut).0 (so ps good cut).1 (so ps good cut).2 (so ps good cut).3
  where
    first : (qs : List ProcSyntax) → AreProcSyntaxes qs → procs_tokens qs ≡ ts → check_procs [] ps ≡ after_ok (check_procs before qs) (λ r. Ok (before ++ r)) →
        (us : List ProcSyntax) × AreProcSyntaxes us × (procs_tokens us ≡ after) × (check_procs [] ps ≡ after_ok (check_procs (before ++ item ∷ []) us) (λ r. Ok ((before ++ item ∷ []) ++ r)))
    first [] g c is = absurd (some (sym c))
    first (q ∷ qs) g c is =
        let told = right q (procs_tokens qs) g.0 c in (
          qs,
          g.1,
          sym told.1,
          is ∙ ap (procs_with before qs) told.0
              ∙ one_more (check_procs (before ++ item ∷ []) qs) before item,
        )

next_distinct : (before : List ProcTree) (item : ProcTree) (ts after : List Placed) → ¬ (ts ≡ []) → Left (length before) ts → Distinct (names before) →
    Right before ts (Ok (item, after)) → Distinct (names (before ++ item ∷ []))
next_distinct before item ts after some l d right = first l.all l.good l.cut
  where
    first : (all : List ProcSyntax) → AreProcSyntaxes all → procs_tokens all ≡ ts → Distinct (names (before ++ item ∷ []))
    first [] good cut = absurd (some (sym cut))
    first (p ∷ ps) good cut = distinct_more before p item (right p (procs_tokens ps) good.0 cut).0 d

pub going_next : (tokens : List Placed) (before : List ProcTree) (item : ProcTree) (ts after : List Placed) → ¬ (ts ≡ []) → Going tokens before ts → IsSoundProc item →
    Right before ts (Ok (item, after)) → Going tokens (before ++ item ∷ []) after
going_next tokens before item ts after some g fits right = record {
  sound = all_more IsSoundProc before item g.sound fits;
  distinct = next_distinct before item ts after some g.left g.distinct right;
  left = next_left before item ts after some g.left right;
  told = next_told tokens before item ts after some g.told right;
}

-- a fault of the procedure that comes first is the first fault of all
pub going_fault : (tokens : List Placed) (before : List ProcTree) (ts : List Placed) (e : ProcError) → ¬ (ts ≡ []) → ToldSoFar tokens before ts → Right before ts (Err e) →
    (ps : List ProcSyntax) → AreProcSyntaxes ps → procs_tokens ps ≡ tokens → (e ≡ fault.NoMemory) ⊎ (check_procs [] ps ≡ Err e)
going_fault tokens before ts e some so right ps good cut = first (so ps good cut).0 (so ps good cut).1 (so ps good cut).2 (so ps good cut).3
  where
    told : (q : ProcSyntax) (qs : List ProcSyntax) → check_procs [] ps ≡ after_ok (check_procs before (q ∷ qs)) (λ r. Ok (before ++ r)) →
        (e ≡ fault.NoMemory) ⊎ (check_proc before q ≡ Err e) → (e ≡ fault.NoMemory) ⊎ (check_procs [] ps ≡ Err e)
    told q qs is (inl m) = inl m
    told q qs is (inr f) = inr (is ∙ ap (procs_with before qs) f)

    first : (qs : List ProcSyntax) → AreProcSyntaxes qs → procs_tokens qs ≡ ts → check_procs [] ps ≡ after_ok (check_procs before qs) (λ r. Ok (before ++ r)) →
        (e ≡ fault.NoMemory) ⊎ (check_procs [] ps ≡ Err e)
    first [] g c is = absurd (some (sym c))
    first (q ∷ qs) g c is = told q qs is (right q (procs_tokens qs) g.0 c)

pub going_end : (tokens : List Placed) (items : List ProcTree) (ts : List Placed) → ts ≡ [] → ToldSoFar tokens items ts →
    (ps : List ProcSyntax) → AreProcSyntaxes ps → procs_tokens ps ≡ tokens → check_procs [] ps ≡ Ok items
going_end tokens items ts none so ps good cut = first (so ps good cut).0 (so ps good cut).2 (so ps good cut).3
  where
    first : (qs : List ProcSyntax) → procs_tokens qs ≡ ts → check_procs [] ps ≡ after_ok (check_procs items qs) (λ r. Ok (items ++ r)) → check_procs [] ps ≡ Ok items
    first [] c is = is ∙ ap Ok (append-nil items)
    first (q ∷ qs) c is = absurd (none_spelled q (procs_tokens qs) (sym (c ∙ none)))

-- the tokens of a text that the first pass lets through
pub passed_few : (text : List ℕ) (tokens : List Placed) → PassesFirst text tokens → AreFewProcs tokens
passed_few text tokens h =
    let ps = h.grammar.0 in
    let small = procs_small ps (subst (NoneTooMany []) (sym h.grammar.2) h.few) in
    record {
      all = ps;
      good = h.grammar.1;
      small = small.1;
      few = small.0;
      sound = subst AllSound (ap (λ l. l.tokens) h.whole) (text_sound text);
      cut = h.grammar.2;
    }

abbrev pub GivesAll : List Placed → Checked (List ProcTree) → Type 0
GivesAll tokens r = (ps : List ProcSyntax) → AreProcSyntaxes ps → procs_tokens ps ≡ tokens → PassGives (check_procs [] ps) r

-- what the second pass gives is the outcome of a text that the first pass lets through
pub outcome_second : (text : List ℕ) (tokens : List Placed) (r : Checked (List ProcTree)) → PassesFirst text tokens → GivesAll tokens r → (r ≡ Err fault.NoMemory) ⊎ Outcome text r
outcome_second text tokens (Ok procs) h g = inr (second text tokens h (Ok procs) (g h.grammar.0 h.grammar.1 h.grammar.2))
outcome_second text tokens (Err e) h g =
    elim (g h.grammar.0 h.grammar.1 h.grammar.2) [ inl m ↦ inl (ap Err m) | inr is ↦ inr (second text tokens h (Err e) is) ]

pub some_left : (ts : List Placed) → false ≡ (length ts == 0) → ¬ (ts ≡ [])
some_left [] e = absurd cc
some_left (t ∷ ts) e = λ is. cc

pub none_left : (ts : List Placed) → true ≡ (length ts == 0) → ts ≡ []
none_left [] e = refl
none_left (t ∷ ts) e = let none : length (t ∷ ts) ≡ 0 = grind (arith, nat_tests) in absurd (omega (arith, none))

-- the first fault is the outcome
pub outcome_first : (text : List ℕ) (s : SyntaxError) → FirstFault text s →
    (◌≡◌ {A = Checked (List ProcTree)} (Err (told_first s)) (Err fault.NoMemory)) ⊎ Outcome text (Err (told_first s))
outcome_first text (syntax.Syntax p) h = inr h
outcome_first text (syntax.TooMany p) h = inr h
outcome_first text syntax.NoMemory h = inl refl
