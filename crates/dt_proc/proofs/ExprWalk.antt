-- What a walk over tokens answers, put together from its parts.
use Rattle.std.proofs.Common.{◌≡◌, inl, inr, ℕ, ◌≤◌, List, [], ◌∷◌, ◌++◌, Ok, Err, refl, sym, ap, ◌∙◌, subst, arith, append_assoc}
use Rattle.std.proofs.Common.{get_or, length, Bool, true, false, ℤ}
use Rattle.dt_syntax.specs.declared.token.Token.{Token}
use Rattle.dt_syntax.specs.declared.token.Token.TheVariants as tok
use Rattle.dt_syntax.specs.declared.token.Placed.{Placed}
use Rattle.dt_syntax.specs.declared.operator.Op.{Op}
use Rattle.dt_syntax.specs.declared.operator.Op.TheVariants as op
use Rattle.dt_proc.specs.declared.tree.Sort.TheVariants as sort
use Rattle.dt_proc.specs.declared.error.ProcError.{ProcError}
use Rattle.dt_proc.specs.declared.error.ProcError.TheVariants as fault
use Rattle.dt_proc.specs.Sound.{sort_given}
use Rattle.dt_proc.specs.Tree as tree
use Rattle.dt_proc.specs.Names.{Scope, meaning_in}
use Rattle.dt_proc.specs.AfterOk.{after_ok}
use Rattle.dt_proc.specs.SecondPass.{Checked, Typed, check, check_links, as_variable, key_of, made_by, fits_both}
use Rattle.dt_proc.specs.WalkInner.{WalkAnswers}
use Rattle.dt_syntax.specs.Grammar.{at, Bracketed, bracketed_tokens, Syntax, chain, minus, denial, int, text, truth, name, parens, of_key, made, Links, no_link}
use Rattle.dt_syntax.specs.Grammar.{link, syntax_tokens, links_tokens, level_of, IsLevel, AreLinks, reads_int, reads_text, reads_presence, makes_length}
use Rattle.dt_syntax.specs.Grammar.{makes_text}
use Rattle.dt_syntax.proofs.Callers.{cut_first, inner, after_first}
use Rattle.dt_lists.proofs.Callers.{same_head, same_tail}

pub ok_then : {A B : Type 0} (told : Checked A) (a : A) (next : A → Checked B) (rest : List Placed) (r : Checked (B × List Placed)) →
    told ≡ Ok a → WalkAnswers (next a) rest r → WalkAnswers (after_ok told next) rest r
ok_then told a next rest r e h = subst (λ t. WalkAnswers (after_ok t next) rest r) (sym e) h

pub err_then : {A B : Type 0} (told : Checked A) (next : A → Checked B) (before rest : List Placed) (e : ProcError) →
    WalkAnswers told before (Err e) → WalkAnswers (after_ok told next) rest (Err e)
err_then told next before rest e (inl m) = inl m
err_then told next before rest e (inr s) = inr (ap (λ t. after_ok t next) s)

-- one more of a list, after those that were reported
pub one_more : {A : Type 0} (told : Checked (List A)) (before : List A) (one : A) →
    after_ok (after_ok told (λ more. Ok (one ∷ more))) (λ more. Ok (before ++ more)) ≡ after_ok told (λ more. Ok ((before ++ one ∷ []) ++ more))
one_more (Ok more) before one = ap Ok (sym (append_assoc before (one ∷ []) more))
one_more (Err e) before one = refl

-- what the first token of an operand says of it, of what follows the token, and of what follows the operand
abbrev pub Shape : ℕ → Scope → Token → ℕ → List Placed → Syntax → List Placed → Type 0
Shape n scope (tok.Int z) p ts x rest = (check scope x ≡ Ok (tree.number z, sort.Int)) × (ts ≡ rest)
Shape n scope (tok.Text t) p ts x rest = (check scope x ≡ Ok (tree.text t, sort.Text)) × (ts ≡ rest)
Shape n scope (tok.Truth b) p ts x rest = (check scope x ≡ Ok (tree.truth b, sort.Bool)) × (ts ≡ rest)
Shape n scope (tok.Name m) p ts x rest = (check scope x ≡ as_variable p (meaning_in scope m)) × (ts ≡ rest)
Shape n scope tok.IntWord p ts x rest =
    (b : Bracketed) × (check scope x ≡ after_ok (key_of scope b) (λ k. Ok (tree.number_of k, sort.Int))) × (bracketed_tokens b ++ rest ≡ ts)
Shape n scope tok.TextWord p ts x rest =
    (b : Bracketed) × (check scope x ≡ after_ok (key_of scope b) (λ k. Ok (tree.text_of k, sort.Text))) × (bracketed_tokens b ++ rest ≡ ts)
Shape n scope tok.Has p ts x rest =
    (b : Bracketed) × (check scope x ≡ after_ok (key_of scope b) (λ k. Ok (tree.has_value k, sort.Bool))) × (bracketed_tokens b ++ rest ≡ ts)
Shape n scope tok.Open p ts x rest =
    (y : Syntax) × (q : ℕ) × (check scope x ≡ check scope y) × IsLevel 0 y × (syntax_tokens y ++ at q tok.Close ∷ rest ≡ ts)
Shape n scope tok.Len p ts x rest =
    (o : ℕ) × (y : Syntax) × (q : ℕ) × (check scope x ≡ after_ok (check scope y) (made_by makes_length p)) × IsLevel 0 y
    × (at o tok.Open ∷ (syntax_tokens y ++ at q tok.Close ∷ rest) ≡ ts)
Shape n scope tok.Show p ts x rest =
    (o : ℕ) × (y : Syntax) × (q : ℕ) × (check scope x ≡ after_ok (check scope y) (made_by makes_text p)) × IsLevel 0 y
    × (at o tok.Open ∷ (syntax_tokens y ++ at q tok.Close ∷ rest) ≡ ts)
Shape n scope tok.Not p ts x rest =
    (y : Syntax) × (check scope x ≡ check scope (denial p y)) × IsLevel 6 y × (n ≡ 5) × (syntax_tokens y ++ rest ≡ ts)
Shape n scope (tok.Op o) p ts x rest =
    (y : Syntax) × (check scope x ≡ check scope (minus p y)) × IsLevel 6 y × (n ≡ 5) × (syntax_tokens y ++ rest ≡ ts)
Shape n scope t p ts x rest = ⊥

-- a shape that is known at one token holds at the equal one
shape_at : (n : ℕ) (scope : Scope) (t u : Placed) (ts us : List Placed) (x : Syntax) (rest : List Placed) → t ∷ ts ≡ u ∷ us →
    Shape n scope t.token t.place ts x rest → Shape n scope u.token u.place us x rest
shape_at n scope t u ts us x rest e h =
    subst (λ v. Shape n scope u.token u.place v x rest) (same_tail e)
    (subst (λ v. Shape n scope v.token v.place ts x rest) (same_head e) h)

-- an expression between brackets, and what follows them
opened : (o : ℕ) (x : Syntax) (q : ℕ) (rest : List Placed) → at o tok.Open ∷ (syntax_tokens x ++ at q tok.Close ∷ rest) ≡ at o tok.Open ∷ ((syntax_tokens x ++ at q tok.Close ∷ []) ++ rest)
opened o x q rest = ap (λ v. at o tok.Open ∷ v) (inner (syntax_tokens x) (at q tok.Close) rest)

pub operand_shape : (n : ℕ) (scope : Scope) (x : Syntax) (rest : List Placed) (t : Placed) (ts : List Placed) → 5 ≤ n → IsLevel n x →
    syntax_tokens x ++ rest ≡ t ∷ ts → Shape n scope t.token t.place ts x rest
operand_shape n scope (chain head links) rest t ts le h e = absurd (omega (arith, h.0))
operand_shape n scope (minus p x) rest t ts le h e =
    shape_at n scope (at p (tok.Op op.Sub)) t (syntax_tokens x ++ rest) ts (minus p x) rest e (x, refl, h.1, h.0, refl)
operand_shape n scope (denial p x) rest t ts le h e =
    shape_at n scope (at p tok.Not) t (syntax_tokens x ++ rest) ts (denial p x) rest e (x, refl, h.1, h.0, refl)
operand_shape n scope (int p z) rest t ts le h e = shape_at n scope (at p (tok.Int z)) t rest ts (int p z) rest e (refl, refl)
operand_shape n scope (text p z) rest t ts le h e = shape_at n scope (at p (tok.Text z)) t rest ts (text p z) rest e (refl, refl)
operand_shape n scope (truth p z) rest t ts le h e = shape_at n scope (at p (tok.Truth z)) t rest ts (truth p z) rest e (refl, refl)
operand_shape n scope (name p z) rest t ts le h e = shape_at n scope (at p (tok.Name z)) t rest ts (name p z) rest e (refl, refl)
operand_shape n scope (parens p x q) rest t ts le h e =
    shape_at n scope (at p tok.Open) t ((syntax_tokens x ++ at q tok.Close ∷ []) ++ rest) ts (parens p x q) rest e
    (x, q, refl, h.1, inner (syntax_tokens x) (at q tok.Close) rest)
operand_shape n scope (of_key p reads_int b) rest t ts le h e =
    shape_at n scope (at p tok.IntWord) t (bracketed_tokens b ++ rest) ts (of_key p reads_int b) rest e (b, refl, refl)
operand_shape n scope (of_key p reads_text b) rest t ts le h e =
    shape_at n scope (at p tok.TextWord) t (bracketed_tokens b ++ rest) ts (of_key p reads_text b) rest e (b, refl, refl)
operand_shape n scope (of_key p reads_presence b) rest t ts le h e =
    shape_at n scope (at p tok.Has) t (bracketed_tokens b ++ rest) ts (of_key p reads_presence b) rest e (b, refl, refl)
operand_shape n scope (made p makes_length o x q) rest t ts le h e =
    shape_at n scope (at p tok.Len) t (at o tok.Open ∷ ((syntax_tokens x ++ at q tok.Close ∷ []) ++ rest)) ts (made p makes_length o x q) rest e
    (o, x, q, refl, h.1, opened o x q rest)
operand_shape n scope (made p makes_text o x q) rest t ts le h e =
    shape_at n scope (at p tok.Show) t (at o tok.Open ∷ ((syntax_tokens x ++ at q tok.Close ∷ []) ++ rest)) ts (made p makes_text o x q) rest e
    (o, x, q, refl, h.1, opened o x q rest)

pub operand_when : (n : ℕ) (scope : Scope) (x : Syntax) (rest ts : List Placed) (first : Placed) (k : Token) → 5 ≤ n → IsLevel n x →
    1 ≤ length ts → first ≡ get_or ts 0 first → syntax_tokens x ++ rest ≡ ts → first.token ≡ k → Shape n scope k first.place (after_first ts) x rest
operand_when n scope x rest ts first k low h some is e same =
    subst (λ t. Shape n scope t first.place (after_first ts) x rest) same
    (operand_shape n scope x rest first (after_first ts) low h (e ∙ cut_first ts first some is))

pub told_is : {A : Type 0} (told other : Checked A) (left rest : List Placed) (r : Checked (A × List Placed)) → told ≡ other → left ≡ rest →
    WalkAnswers other left r → WalkAnswers told rest r
told_is told other left rest r same is h = subst (λ v. WalkAnswers told v r) is (subst (λ v. WalkAnswers v left r) (sym same) h)

pub told_right : {A : Type 0} (told other : Checked A) (rest : List Placed) (r : Checked (A × List Placed)) → told ≡ other → WalkAnswers other rest r → WalkAnswers told rest r
told_right told other rest r same h = subst (λ v. WalkAnswers v rest r) (sym same) h

pub no_operand : (n : ℕ) (scope : Scope) (k : Token) (p : ℕ) (ts : List Placed) (x : Syntax) (rest : List Placed) →
    ((v : List ℕ) → ¬ (k ≡ tok.Name v)) → ((v : ℤ) → ¬ (k ≡ tok.Int v)) → ((v : List ℕ) → ¬ (k ≡ tok.Text v)) → ((v : Op) → ¬ (k ≡ tok.Op v)) →
    ¬ (k ≡ tok.IntWord) → ¬ (k ≡ tok.TextWord) → ¬ (k ≡ tok.Has) → ¬ (k ≡ tok.Len) → ¬ (k ≡ tok.Show) → ¬ (k ≡ tok.Not) →
    ((v : Bool) → ¬ (k ≡ tok.Truth v)) → ¬ (k ≡ tok.Open) → ¬ (Shape n scope k p ts x rest)
no_operand n scope (tok.Name v) p ts x rest a b c d e f g h i j k l s = a v refl
no_operand n scope (tok.Int v) p ts x rest a b c d e f g h i j k l s = b v refl
no_operand n scope (tok.Text v) p ts x rest a b c d e f g h i j k l s = c v refl
no_operand n scope (tok.Op v) p ts x rest a b c d e f g h i j k l s = d v refl
no_operand n scope tok.IntWord p ts x rest a b c d e f g h i j k l s = e refl
no_operand n scope tok.TextWord p ts x rest a b c d e f g h i j k l s = f refl
no_operand n scope tok.Has p ts x rest a b c d e f g h i j k l s = g refl
no_operand n scope tok.Len p ts x rest a b c d e f g h i j k l s = h refl
no_operand n scope tok.Show p ts x rest a b c d e f g h i j k l s = i refl
no_operand n scope tok.Not p ts x rest a b c d e f g h i j k l s = j refl
no_operand n scope (tok.Truth v) p ts x rest a b c d e f g h i j k l s = k v refl
no_operand n scope tok.Open p ts x rest a b c d e f g h i j k l s = l refl
no_operand n scope t p ts x rest a b c d e f g h i j k l s = s

-- where no operator of the level comes first, nothing follows the operand
pub no_links : (scope : Scope) (a : Typed) (ls : Links) (n : ℕ) (rest ts : List Placed) → AreLinks n ls → links_tokens ls ++ rest ≡ ts →
    ((p : ℕ) (o : Op) (us : List Placed) → at p (tok.Op o) ∷ us ≡ ts → ¬ (level_of o ≡ n)) → (check_links scope a ls ≡ Ok a) × (ts ≡ rest)
no_links scope a no_link n rest ts h e none = (refl, sym e)
no_links scope a (link p o x more) n rest ts h e none = absurd (none p o ((syntax_tokens x ++ links_tokens more) ++ rest) e h.0)

pub link_misfit : (scope : Scope) (a b : Typed) (p : ℕ) (o : Op) (x : Syntax) (more ls : Links) → ls ≡ link p o x more → check scope x ≡ Ok b →
    fits_both o a.1 b.1 ≡ false → check_links scope a ls ≡ Err (fault.Kind p)
link_misfit scope a b p o x more ls is told misfit = rw (is, told, misfit) refl

pub link_fits : (scope : Scope) (a b c : Typed) (p : ℕ) (o : Op) (x : Syntax) (more ls : Links) → ls ≡ link p o x more → check scope x ≡ Ok b →
    fits_both o a.1 b.1 ≡ true → c ≡ (tree.binary o a.0 b.0, sort_given o) → check_links scope a ls ≡ check_links scope c more
link_fits scope a b c p o x more ls is told fits same = rw (is, told, fits) (ap (λ v. check_links scope v more) (sym same))
