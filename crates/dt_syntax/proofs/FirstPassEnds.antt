-- Every text passes first or has a first fault: its tokens are tried from the front on, until one is refused or none is left.
use Rattle.std.proofs.Common.{◌≡◌, ◌⊎◌, inl, inr, ℕ, Bool, true, false, List, [], ◌∷◌, ◌++◌, length, Option, Some, None, refl, sym, ap, ◌∙◌, append_assoc, append-nil}
use Rattle.dt_lists.proofs.Callers.{none_some, some_same}
use Rattle.dt_syntax.specs.declared.token.Placed.{Placed}
use Rattle.dt_syntax.specs.declared.machine.Sym.{Sym}
use Rattle.dt_syntax.specs.declared.machine.Sym.TheVariants as expect
use Rattle.dt_syntax.specs.Tokens.{tokens_of}
use Rattle.dt_syntax.specs.MachineInner.{advance, onward, run}
use Rattle.dt_syntax.specs.FirstPass.{is_too_many, NoneTooMany, StartsWell, PassesFirst, IsSyntaxFault, IsTooMany, backwards}
use Rattle.dt_syntax.proofs.MachineComplete.{grammar_read, beginning_read}
use Rattle.dt_syntax.proofs.MachineSound.{read_begins, read_whole}
use Rattle.dt_syntax.proofs.FirstPassLoop.{few_more, run_more}

-- what the first pass comes to
abbrev pub FirstPassEnds : List ℕ → Type 0
FirstPassEnds text =
    ((tokens : List Placed) × PassesFirst text tokens) ⊎ (((place : ℕ) × IsSyntaxFault text place) ⊎ ((place : ℕ) × IsTooMany text place))

-- these tokens of the text are read, and none is one too many; the others are left
record Tried (text : List ℕ) (before after : List Placed) (stack : List Sym) : Type 0 where
  cut : (tokens_of text).tokens ≡ before ++ after
  read : run (expect.Procs ∷ []) before ≡ Some stack
  few : NoneTooMany [] before

starts_well : (text : List ℕ) (before after : List Placed) (stack : List Sym) → Tried text before after stack → StartsWell text before after
starts_well text before after stack t = record { tokens = t.cut; begins = read_begins before stack t.read; few = t.few }

either_start : (stack : List Sym) → (stack ≡ expect.Procs ∷ []) ⊎ ¬ (stack ≡ expect.Procs ∷ [])
either_start [] = inr (λ e. cc)
either_start (expect.Procs ∷ []) = inl refl
either_start (s ∷ []) = inr (λ e. cc)
either_start (s ∷ u ∷ rest) = inr (λ e. cc)

-- no token is left
end_comes : (text : List ℕ) (before : List Placed) (stack : List Sym) → Tried text before [] stack → (bad : Option ℕ) → (tokens_of text).bad ≡ bad →
    (stack ≡ expect.Procs ∷ []) ⊎ ¬ (stack ≡ expect.Procs ∷ []) → FirstPassEnds text
end_comes text before stack t (Some place) is start =
    inr (inl (place, record { before = before; after = []; well = starts_well text before [] stack t; told = inl is }))
end_comes text before stack t None is (inl start) =
    let tokens : (tokens_of text).tokens ≡ before = t.cut ∙ append-nil before in
    inl (
      before,
      record {
        whole = λ i. record { tokens = tokens i; bad = is i };
        grammar = read_whole before (t.read ∙ ap (λ s. Some s) start);
        few = t.few;
      },
    )
end_comes text before stack t None is (inr other) =
    inr (inl (
      length text,
      record {
        before = before;
        after = [];
        well = starts_well text before [] stack t;
        told = inr (is, refl, λ g. other (some_same (sym t.read ∙ grammar_read before g)));
      },
    ))

-- what is expected after one token more
read_one : (before : List Placed) (one : Placed) (stack : List Sym) {next : Option (List Sym)} → run (expect.Procs ∷ []) before ≡ Some stack → advance stack one.token ≡ next →
    run (expect.Procs ∷ []) (before ++ one ∷ []) ≡ onward next (λ s. Some s)
read_one before one stack read is = run_more before one stack read ∙ ap (λ o. onward o (λ s. Some s)) is

-- a token comes next: it is refused, or is one too many, or the others are tried after it
token_comes : (text : List ℕ) (before : List Placed) (one : Placed) (after : List Placed) (stack : List Sym) → Tried text before (one ∷ after) stack →
    (next : Option (List Sym)) → advance stack one.token ≡ next → (many : Bool) → is_too_many (backwards before []) one.token ≡ many →
    ((s : List Sym) → Tried text (before ++ one ∷ []) after s → FirstPassEnds text) → FirstPassEnds text
token_comes text before one after stack t None is many same onward_from =
    inr (inl (
      one.place,
      record {
        before = before;
        after = one ∷ after;
        well = starts_well text before (one ∷ after) stack t;
        told = (
          refl,
          λ begins.
              let goes = beginning_read (before ++ one ∷ []) begins in
              none_some (read_one before one stack t.read is) goes.1,
        );
      },
    ))
token_comes text before one after stack t (Some next) is true same onward_from =
    inr (inr (
      one.place,
      record {
        before = before;
        token = one;
        after = after;
        well = starts_well text before (one ∷ after) stack t;
        goes_on = read_begins (before ++ one ∷ []) next (read_one before one stack t.read is);
        too_many = same;
        stands = refl;
      },
    ))
token_comes text before one after stack t (Some next) is false same onward_from =
    onward_from next (record {
      cut = t.cut ∙ sym (append_assoc before (one ∷ []) after);
      read = read_one before one stack t.read is;
      few = few_more [] before one t.few same;
    })

ends_after : (text : List ℕ) (before after : List Placed) (stack : List Sym) → Tried text before after stack → FirstPassEnds text
ends_after text before [] stack t = end_comes text before stack t (tokens_of text).bad refl (either_start stack)
ends_after text before (one ∷ after) stack t =
    token_comes text before one after stack t (advance stack one.token) refl (is_too_many (backwards before []) one.token) refl
    (λ next u. ends_after text (before ++ one ∷ []) after next u)

-- every text comes to an end of the first pass
pub first_pass_ends : (text : List ℕ) → FirstPassEnds text
first_pass_ends text = ends_after text [] (tokens_of text).tokens (expect.Procs ∷ []) (record { cut = refl; read = refl; few = tt })
