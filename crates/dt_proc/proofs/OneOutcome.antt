-- A text has one outcome.
use Rattle.std.proofs.Common.{◌≡◌, ℕ, List, [], ◌∷◌, Err, sym, ap, ◌∙◌, subst, append-nil}
use Rattle.dt_proc.specs.declared.error.ProcError.TheVariants as fault
use Rattle.dt_proc.specs.Tree.{ProcTree}
use Rattle.dt_syntax.specs.Grammar.{InGrammar}
use Rattle.dt_proc.specs.SecondPass.{Checked, check_procs}
use Rattle.dt_proc.specs.Outcome.{Outcome, SecondTells}
use Rattle.dt_syntax.proofs.Callers.{one_reading, Stop, wrong, many, end, Read, one_stop, same_wrong, same_many}

read_whole : (text : List ℕ) (told : Checked (List ProcTree)) → SecondTells text told → Read text end
read_whole text told h = record {
  before = h.tokens;
  after = [];
  well = record {
    tokens = ap (λ l. l.tokens) h.passes.whole ∙ sym (append-nil h.tokens);
    begins = ([], subst InGrammar (sym (append-nil h.tokens)) h.passes.grammar);
    few = h.passes.few;
  };
  stops = (ap (λ l. l.bad) h.passes.whole, h.passes.grammar);
}

-- how an outcome stops
stop_of : Checked (List ProcTree) → Stop
stop_of (Err (fault.Syntax p)) = wrong p
stop_of (Err (fault.TooMany p)) = many p
stop_of r = end

stopped : (text : List ℕ) (r : Checked (List ProcTree)) → Outcome text r → Read text (stop_of r)
unfolding stop_of
stopped text (Err (fault.Syntax p)) h = record { before = h.before; after = h.after; well = h.well; stops = h.told }
stopped text (Err (fault.TooMany p)) h = record { before = h.before; after = h.token ∷ h.after; well = h.well; stops = (h.goes_on, h.too_many, h.stands) }
stopped text (Err fault.NoMemory) h = absurd h
stopped text r h = read_whole text r h

is_wrong : (p : ℕ) (s : Checked (List ProcTree)) → wrong p ≡ stop_of s → Err (fault.Syntax p) ≡ s
unfolding stop_of
is_wrong p (Err (fault.Syntax q)) e = ap (λ n. Err (fault.Syntax n)) (same_wrong p q e)
is_wrong p s e = absurd cc

is_many : (p : ℕ) (s : Checked (List ProcTree)) → many p ≡ stop_of s → Err (fault.TooMany p) ≡ s
unfolding stop_of
is_many p (Err (fault.TooMany q)) e = ap (λ n. Err (fault.TooMany n)) (same_many p q e)
is_many p s e = absurd cc

is_told : (text : List ℕ) (s : Checked (List ProcTree)) → end ≡ stop_of s → Outcome text s → SecondTells text s
unfolding stop_of
is_told text (Err (fault.Syntax q)) e k = absurd cc
is_told text (Err (fault.TooMany q)) e k = absurd cc
is_told text (Err fault.NoMemory) e k = absurd k
is_told text s e k = k

one_telling : (text : List ℕ) (r s : Checked (List ProcTree)) → SecondTells text r → SecondTells text s → r ≡ s
one_telling text r s h k =
    let tokens : h.tokens ≡ k.tokens = ap (λ l. l.tokens) (sym h.passes.whole ∙ k.passes.whole) in
    let same = one_reading h.spelled k.spelled h.grammar k.grammar (h.spells ∙ tokens ∙ sym k.spells) in
    sym h.tells ∙ ap (check_procs []) same ∙ k.tells

told_one : (text : List ℕ) (r s : Checked (List ProcTree)) → Outcome text r → Outcome text s → stop_of r ≡ stop_of s → r ≡ s
unfolding stop_of
told_one text (Err (fault.Syntax p)) s h k e = is_wrong p s e
told_one text (Err (fault.TooMany p)) s h k e = is_many p s e
told_one text (Err fault.NoMemory) s h k e = absurd h
told_one text r s h k e = one_telling text r s h (is_told text s e k)

-- a text has one outcome
pub one_outcome : (text : List ℕ) (r s : Checked (List ProcTree)) → Outcome text r → Outcome text s → r ≡ s
one_outcome text r s h k = told_one text r s h k (one_stop text (stop_of r) (stop_of s) (stopped text r h) (stopped text s k))
