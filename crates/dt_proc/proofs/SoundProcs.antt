-- The procedures that a text means are sound, and so are the built-in ones.
use Rattle.std.proofs.Common.{◌≡◌, inl, inr, ℕ, suc, ◌≤◌, Bool, true, ◌&&◌, not, nat_le, nat_lt, List, [], ◌∷◌, ◌++◌, map, length, append_assoc, append-nil, Ok}
use Rattle.std.proofs.Common.{Err, refl, sym, ap, ◌∙◌, subst, arith, nat_eq, ltb-true, leb-true}
use Rattle.std.specs.List.{list_all}
use Rattle.std.specs.Cmp.Lexicographic.{pointwise, bytes_decides}
use Rattle.std.proofs.lemmas.Bool.{and_parts, false≢true, not-true}
use Rattle.dt_lists.specs.Lists.{AllIn, Distinct}
use Rattle.dt_text.specs.Texts.{is_name_byte}
use Rattle.dt_proc.specs.declared.error.ProcError.{ProcError}
use Rattle.dt_proc.specs.declared.error.ProcError.TheVariants as fault
use Rattle.dt_proc.specs.declared.tree.KeyDecl.{KeyDecl}
use Rattle.dt_proc.specs.declared.tree.Sort.TheVariants as sort
use Rattle.dt_proc.specs.Names.{Scope}
use Rattle.dt_proc.specs.Tree.{ProcTree}
use Rattle.dt_proc.specs.Sound.{IsSoundProc, IsSoundItem, AreSound, AreProcs, sort_of}
use Rattle.dt_proc.specs.Builtin.{put, note, get, del, add, div, sum, xfer, builtin_procs}
use Rattle.dt_proc.specs.AfterOk.{after_ok}
use Rattle.dt_proc.specs.SecondPass.{check_params, check_keys, check_block, check_proc, check_procs}
use Rattle.dt_syntax.specs.Grammar.{param_kinds, ProcSyntax, proc_tokens, procs_tokens}
use Rattle.dt_syntax.specs.Limits.{AllSound, IsSmall}
use Rattle.dt_syntax.specs.FirstPass.{NoneTooMany}
use Rattle.dt_proc.specs.Outcome.{Outcome}
use Rattle.dt_proc.proofs.ExprSorts.{Holds, holds_ok, holds_after, holds_cond}
use Rattle.dt_syntax.proofs.Callers.{sound_left, sound_right, text_sound, procs_small}
use Rattle.dt_proc.proofs.ProcNames.{distinct_more, is_named, names}
use Rattle.dt_proc.proofs.ProcWalk.{proc_sound}

next_fits : (before : List ProcTree) (p : ProcSyntax) → AllSound (proc_tokens p) → IsSmall p → Holds IsSoundProc (check_proc before p)
next_fits before p sound small =
    holds_cond IsSoundProc (is_named before p.name) (Err (fault.Twice p.name_at)) _ (λ e q is. absurd cc)
    (λ free. holds_after IsSoundProc (check_params p.params) _
    (λ s params. holds_after {A = List KeyDecl × Scope} IsSoundProc (check_keys s (p.key ∷ p.more_keys)) _
    (λ r keys. holds_after IsSoundProc (check_block r.1 p.body) _
    (λ b body. holds_ok IsSoundProc (record { name = p.name; params = param_kinds p.params; keys = r.0; body = b })
    (proc_sound p p.name s r.1 (param_kinds p.params) r.0 b sound small sound.1.0
    (ap (λ t. after_ok {A = Scope} {E = ProcError} t (λ s. Ok (s, param_kinds p.params))) params)
    (ap (λ t. after_ok {A = List KeyDecl × Scope} {E = ProcError} t (λ r. Ok (r.1, [] ++ r.0))) keys)
    body)))))

-- procedures that are reported after others are as many as are spelled, and fit, and their names are new
abbrev AreNext : List ProcTree → List ProcSyntax → List ProcTree → Type 0
AreNext before ps qs = (length qs ≡ length ps) × AllIn IsSoundProc qs × Distinct (names (before ++ qs))

all_fit : (before : List ProcTree) (ps : List ProcSyntax) → AllIn IsSmall ps → AllSound (procs_tokens ps) → Distinct (names before)
    → Holds (AreNext before ps) (check_procs before ps)
all_fit before [] small sound distinct =
    holds_ok (AreNext before []) [] (refl, tt, subst (λ v. Distinct (names v)) (sym (append-nil before)) distinct)
all_fit before (p ∷ ps) small sound distinct =
    holds_after (AreNext before (p ∷ ps)) (check_proc before p) _ (λ q told.
    let one = next_fits before p (sound_left (proc_tokens p) (procs_tokens ps) sound) small.0 q told in
    holds_after (AreNext before (p ∷ ps)) (check_procs (before ++ q ∷ []) ps) _ (λ qs rest.
    let more = all_fit (before ++ q ∷ []) ps small.1 (sound_right (proc_tokens p) (procs_tokens ps) sound) (distinct_more before p q told distinct) qs rest in
    holds_ok (AreNext before (p ∷ ps)) (q ∷ qs)
    (ap suc more.0, (one, more.1), subst (λ v. Distinct (names v)) (append_assoc before (q ∷ []) qs) more.2)))

-- the procedures that a text means are sound
pub outcome_sound : (text : List ℕ) (procs : List ProcTree) → Outcome text (Ok procs) → AreProcs procs
outcome_sound text procs h =
    let small = procs_small h.spelled (subst (NoneTooMany []) (sym h.spells) h.passes.few) in
    let sound : AllSound (procs_tokens h.spelled) = subst AllSound (ap (λ l. l.tokens) h.passes.whole ∙ sym h.spells) (text_sound text) in
    let fit = all_fit [] h.spelled small.1 sound tt procs h.tells in
    record { few = subst (λ n. n ≤ 64) (sym fit.0) small.0; distinct = fit.2; sound = fit.1 }

-- ---- the built-in procedures

-- no name is equal to one after it, as a test
are_apart : List (List ℕ) → Bool
are_apart [] = true
are_apart (n ∷ ns) = list_all (λ m. not (pointwise nat_eq n m)) ns && are_apart ns

differ : (n m : List ℕ) → not (pointwise nat_eq n m) ≡ true → ¬ (n ≡ m)
differ n m e is = false≢true (sym (not-true (pointwise nat_eq n m) e) ∙ (bytes_decides n m).1 is)

other_names : (n : List ℕ) (ns : List (List ℕ)) → list_all (λ m. not (pointwise nat_eq n m)) ns ≡ true → AllIn (λ m. ¬ (n ≡ m)) ns
other_names n [] e = tt
other_names n (m ∷ ns) e = (differ n m ((and_parts _ _ e).0), other_names n ns ((and_parts (not (pointwise nat_eq n m)) _ e).1))

apart_distinct : (ns : List (List ℕ)) → are_apart ns ≡ true → Distinct ns
unfolding are_apart
apart_distinct [] e = tt
apart_distinct (n ∷ ns) e = (other_names n ns ((and_parts _ _ e).0), apart_distinct ns ((and_parts (list_all (λ m. not (pointwise nat_eq n m)) ns) _ e).1))

-- whether a procedure has a name, few parameters, and some keys, but few
abbrev is_within : ProcTree → Bool
is_within p =
    nat_lt 0 (length p.name) && (nat_le (length p.name) 32 && (list_all is_name_byte p.name
    && (nat_le (length p.params) 16 && (nat_le 1 (length p.keys) && nat_le (length p.keys) 16))))

sound_within : (p : ProcTree) → is_within p ≡ true → AllIn (λ k. AllIn (IsSoundItem p.params) k.items) p.keys → AreSound (map sort_of p.params) (map (λ k. k.write) p.keys) p.body →
    IsSoundProc p
sound_within p h items body =
    let some = and_parts (nat_lt 0 (length p.name)) _ h in
    let short = and_parts (nat_le (length p.name) 32) _ some.1 in
    let spelled = and_parts (list_all is_name_byte p.name) _ short.1 in
    let few = and_parts (nat_le (length p.params) 16) _ spelled.1 in
    let keys = and_parts (nat_le 1 (length p.keys)) _ few.1 in
    record {
      name = (ltb-true _ _ some.0, leb-true _ _ short.0, spelled.0);
      few_params = leb-true _ _ few.0;
      some_key = leb-true _ _ keys.0;
      few_keys = leb-true _ _ keys.1;
      items = items;
      body = body;
    }

put_sound : IsSoundProc put
put_sound = sound_within put refl ((refl, tt), tt) (refl, (sort.Int, inl refl, refl), tt)

note_sound : IsSoundProc note
note_sound = sound_within note refl ((refl, tt), tt) (refl, (sort.Text, inr refl, refl), tt)

get_sound : IsSoundProc get
get_sound = sound_within get refl ((refl, tt), tt) ((omega arith, tt), tt)

del_sound : IsSoundProc del
del_sound = sound_within del refl ((refl, tt), tt) (refl, tt)

add_sound : IsSoundProc add
add_sound =
    sound_within add refl ((refl, tt), tt)
    ((refl, omega arith), (refl, (sort.Int, inl refl, (sort.Int, refl, (refl, omega arith), refl, refl)), tt), (refl, (sort.Int, inl refl, refl), tt), (((sort.Int, inl refl, (refl, omega arith)), tt), tt))

div_sound : IsSoundProc div
div_sound = sound_within div refl ((refl, tt), tt) (((sort.Int, inl refl, (sort.Int, refl, (refl, omega arith), refl, refl)), tt), tt)

sum_sound : IsSoundProc sum
sum_sound =
    sound_within sum refl ((refl, tt), ((refl, tt), tt)) (((sort.Int, inl refl, (sort.Int, refl, (refl, omega arith), (refl, omega arith), refl)), tt), tt)

xfer_sound : IsSoundProc xfer
xfer_sound =
    sound_within xfer refl ((refl, tt), ((refl, tt), tt)) (
      (sort.Int, inl refl, (refl, omega arith), refl, refl),
      ((omega arith, refl), tt),
      tt,
      (
        refl,
        (sort.Int, inl refl, (sort.Int, refl, (refl, omega arith), refl, refl)),
        (
          refl,
          (sort.Int, inl refl, (sort.Int, refl, (refl, omega arith), refl, refl)),
          (((sort.Int, inl refl, (refl, omega arith)), ((sort.Int, inl refl, (refl, omega arith)), tt)), tt),
        ),
      ),
    )

-- the built-in procedures are sound
pub builtin_sound : AreProcs builtin_procs
unfolding are_apart
builtin_sound = record {
  few = omega arith;
  distinct = apart_distinct (names builtin_procs) refl;
  sound = (put_sound, (note_sound, (get_sound, (del_sound, (add_sound, (div_sound, (sum_sound, (xfer_sound, tt))))))));
}
