-- Procedures are spelled in one way: tokens that some procedures spell are those of no others.
use Rattle.std.proofs.Common.{◌≡◌, ℕ, Bool, List, [], ◌∷◌, ◌++◌, refl, sym, ◌∙◌, append_assoc}
use Rattle.std.specs.List.{flat_map}
use Rattle.dt_lists.specs.Lists.{AllIn}
use Rattle.dt_syntax.specs.declared.token.Token.TheVariants as tok
use Rattle.dt_syntax.specs.declared.token.Placed.{Placed}
use Rattle.dt_syntax.specs.declared.kinds.Kind.{Kind}
use Rattle.dt_syntax.specs.declared.kinds.Kind.TheVariants as kind
use Rattle.dt_syntax.specs.declared.operator.Op.TheVariants as op
use Rattle.dt_syntax.specs.Fronts.{comma_param, joined_part}
use Rattle.dt_syntax.specs.Grammar.{at, bracketed_tokens, Param, kind_token, param_tokens, Params, no_param, params, params_tokens, KeyPart, text_part}
use Rattle.dt_syntax.specs.Grammar.{name_part, show_part, part_tokens, KeySyntax, mode_token, key_tokens, statements_tokens, ProcSyntax, proc_tokens}
use Rattle.dt_syntax.specs.Grammar.{procs_tokens, IsProc, AreProcSyntaxes}
use Rattle.dt_syntax.proofs.Shapes.{from_more_parts, key_cut, mode_is, mode_begin, no_comma_close, no_join_semicolon, proc_cut}
use Rattle.dt_syntax.proofs.OneSyntax.{front_place_is, front_token_is, after_front, same_name, same_text, one_bracketed, one_list, one_statements}
use Rattle.dt_lists.proofs.Callers.{same_head, same_tail}

same_kind : (k l : Kind) → kind_token k ≡ kind_token l → k ≡ l
same_kind kind.Int kind.Int e = refl
same_kind kind.Text kind.Text e = refl
same_kind kind.Int kind.Text e = absurd cc
same_kind kind.Text kind.Int e = absurd cc

one_param : (p q : Param) (r s : List Placed) → param_tokens p ++ r ≡ param_tokens q ++ s → (p ≡ q) × (r ≡ s)
one_param p q r s e =
    let name_at = front_place_is p.name_at q.name_at (tok.Name p.name) (tok.Name q.name) _ _ e in
    let called = same_name p.name q.name (front_token_is p.name_at q.name_at (tok.Name p.name) (tok.Name q.name) _ _ e) in
    let one = after_front p.name_at q.name_at (tok.Name p.name) (tok.Name q.name) _ _ e in
    let colon_at = front_place_is p.colon_at q.colon_at tok.Colon tok.Colon _ _ one in
    let two = after_front p.colon_at q.colon_at tok.Colon tok.Colon _ _ one in
    let kind_at = front_place_is p.kind_at q.kind_at (kind_token p.kind) (kind_token q.kind) r s two in
    let same = same_kind p.kind q.kind (front_token_is p.kind_at q.kind_at (kind_token p.kind) (kind_token q.kind) r s two) in (
      (λ i. record { name_at = name_at i; name = called i; colon_at = colon_at i; kind_at = kind_at i; kind = same i }),
      after_front p.kind_at q.kind_at (kind_token p.kind) (kind_token q.kind) r s two,
    )

abbrev Any : {A : Type 0} → A → Type 0
Any a = Unit {0}

every : {A : Type 0} (xs : List (ℕ × A)) → AllIn (λ m. Any m.1) xs
every [] = tt
every (x ∷ xs) = (tt, every xs)

more_params : (xs ys : List (ℕ × Param)) (e f : ℕ) (r s : List Placed) → flat_map comma_param xs ++ at e tok.Close ∷ r ≡ flat_map comma_param ys ++ at f tok.Close ∷ s →
    (xs ≡ ys) × (e ≡ f) × (r ≡ s)
more_params xs ys e f r s is =
    one_list tok.Comma tok.Close param_tokens Any Any no_comma_close (λ p us. tt) (λ p us. tt) (λ a b u v g h k l. one_param a b u v) xs ys e f r s (every xs) (every ys) is

close_name : (p q : ℕ) (n : List ℕ) (us vs : List Placed) → at p tok.Close ∷ us ≡ at q (tok.Name n) ∷ vs → ⊥
close_name p q n us vs e = let t = front_token_is p q tok.Close (tok.Name n) us vs e in cc

one_params : (ps qs : Params) (c d : ℕ) (r s : List Placed) → params_tokens ps ++ at c tok.Close ∷ r ≡ params_tokens qs ++ at d tok.Close ∷ s → (ps ≡ qs) × (c ≡ d) × (r ≡ s)
one_params no_param no_param c d r s e = (refl, front_place_is c d tok.Close tok.Close r s e, after_front c d tok.Close tok.Close r s e)
one_params no_param (params q more) c d r s e = absurd (close_name c q.name_at q.name r _ e)
one_params (params p more) no_param c d r s e = absurd (close_name d p.name_at p.name s _ (sym e))
one_params (params p more) (params q others) c d r s e =
    let cut = sym (append_assoc (param_tokens p) (flat_map comma_param more) (at c tok.Close ∷ r)) ∙ e ∙ append_assoc (param_tokens q) (flat_map comma_param others) (at d tok.Close ∷ s) in
    let a = one_param p q (flat_map comma_param more ++ at c tok.Close ∷ r) (flat_map comma_param others ++ at d tok.Close ∷ s) cut in
    let b = more_params more others c d r s a.1 in
    ((λ i. params (a.0 i) (b.0 i)), b.1, b.2)

one_part : (i j : KeyPart) (r s : List Placed) → part_tokens i ++ r ≡ part_tokens j ++ s → (i ≡ j) × (r ≡ s)
one_part (text_part p t) (text_part q u) r s e =
    let place = front_place_is p q (tok.Text t) (tok.Text u) r s e in
    let same = same_text t u (front_token_is p q (tok.Text t) (tok.Text u) r s e) in
    ((λ i. text_part (place i) (same i)), after_front p q (tok.Text t) (tok.Text u) r s e)
one_part (text_part p t) (name_part q n) r s e = let f = front_token_is p q (tok.Text t) (tok.Name n) r s e in absurd cc
one_part (text_part p t) (show_part q b) r s e = let f = front_token_is p q (tok.Text t) tok.Show r (bracketed_tokens b ++ s) e in absurd cc
one_part (name_part p n) (text_part q u) r s e = let f = front_token_is p q (tok.Name n) (tok.Text u) r s e in absurd cc
one_part (name_part p n) (name_part q m) r s e =
    let place = front_place_is p q (tok.Name n) (tok.Name m) r s e in
    let same = same_name n m (front_token_is p q (tok.Name n) (tok.Name m) r s e) in
    ((λ i. name_part (place i) (same i)), after_front p q (tok.Name n) (tok.Name m) r s e)
one_part (name_part p n) (show_part q b) r s e = let f = front_token_is p q (tok.Name n) tok.Show r (bracketed_tokens b ++ s) e in absurd cc
one_part (show_part p b) (text_part q u) r s e = let f = front_token_is p q tok.Show (tok.Text u) (bracketed_tokens b ++ r) s e in absurd cc
one_part (show_part p b) (name_part q m) r s e = let f = front_token_is p q tok.Show (tok.Name m) (bracketed_tokens b ++ r) s e in absurd cc
one_part (show_part p b) (show_part q c) r s e =
    let place = front_place_is p q tok.Show tok.Show (bracketed_tokens b ++ r) (bracketed_tokens c ++ s) e in
    let a = one_bracketed b c r s (after_front p q tok.Show tok.Show (bracketed_tokens b ++ r) (bracketed_tokens c ++ s) e) in
    ((λ i. show_part (place i) (a.0 i)), a.1)

more_parts : (xs ys : List (ℕ × KeyPart)) (e f : ℕ) (r s : List Placed) → flat_map joined_part xs ++ at e tok.Semicolon ∷ r ≡ flat_map joined_part ys ++ at f tok.Semicolon ∷ s →
    (xs ≡ ys) × (e ≡ f) × (r ≡ s)
more_parts xs ys e f r s is =
    one_list (tok.Op op.Join) tok.Semicolon part_tokens Any Any no_join_semicolon (λ p us. tt) (λ p us. tt) (λ a b u v g h k l. one_part a b u v) xs ys e f r s (every xs) (every ys) is

one_key : (k l : KeySyntax) (r s : List Placed) → key_tokens k ++ r ≡ key_tokens l ++ s → (k ≡ l) × (r ≡ s)
one_key k l r s e =
    let cut = sym (key_cut k r) ∙ e ∙ key_cut l s in
    let ks = part_tokens k.first ++ from_more_parts k r in
    let ls = part_tokens l.first ++ from_more_parts l s in
    let word_at = front_place_is k.word_at l.word_at (mode_token k.write) (mode_token l.write) (at k.name_at (tok.Name k.name) ∷ at k.is_at tok.Is ∷ ks) (at l.name_at (tok.Name l.name) ∷ at l.is_at tok.Is ∷ ls) cut in
    let mode = mode_is k.write l.write (front_token_is k.word_at l.word_at (mode_token k.write) (mode_token l.write) (at k.name_at (tok.Name k.name) ∷ at k.is_at tok.Is ∷ ks)
    (at l.name_at (tok.Name l.name) ∷ at l.is_at tok.Is ∷ ls) cut) in
    let one = after_front k.word_at l.word_at (mode_token k.write) (mode_token l.write) (at k.name_at (tok.Name k.name) ∷ at k.is_at tok.Is ∷ ks) (at l.name_at (tok.Name l.name) ∷ at l.is_at tok.Is ∷ ls) cut in
    let name_at = front_place_is k.name_at l.name_at (tok.Name k.name) (tok.Name l.name) (at k.is_at tok.Is ∷ ks) (at l.is_at tok.Is ∷ ls) one in
    let called = same_name k.name l.name (front_token_is k.name_at l.name_at (tok.Name k.name) (tok.Name l.name) (at k.is_at tok.Is ∷ ks) (at l.is_at tok.Is ∷ ls) one) in
    let two = after_front k.name_at l.name_at (tok.Name k.name) (tok.Name l.name) (at k.is_at tok.Is ∷ ks) (at l.is_at tok.Is ∷ ls) one in
    let is_at = front_place_is k.is_at l.is_at tok.Is tok.Is ks ls two in
    let a = one_part k.first l.first (from_more_parts k r) (from_more_parts l s) (after_front k.is_at l.is_at tok.Is tok.Is ks ls two) in
    let b = more_parts k.more l.more k.end_at l.end_at r s a.1 in
    ((λ i. record { word_at = word_at i; write = mode i; name_at = name_at i; name = called i; is_at = is_at i; first = a.0 i; more = b.0 i; end_at = b.1 i }), b.2)

begin_mode : (b p : ℕ) (w : Bool) (us vs : List Placed) → at b tok.Begin ∷ us ≡ at p (mode_token w) ∷ vs → ⊥
begin_mode b p w us vs e = mode_begin w (front_token_is b p tok.Begin (mode_token w) us vs e)

one_keys : (ks ls : List KeySyntax) (b c : ℕ) (r s : List Placed) → flat_map key_tokens ks ++ at b tok.Begin ∷ r ≡ flat_map key_tokens ls ++ at c tok.Begin ∷ s →
    (ks ≡ ls) × (b ≡ c) × (r ≡ s)
one_keys [] [] b c r s e = (refl, front_place_is b c tok.Begin tok.Begin r s e, after_front b c tok.Begin tok.Begin r s e)
one_keys [] (l ∷ ls) b c r s e = absurd (begin_mode b l.word_at l.write r _ e)
one_keys (k ∷ ks) [] b c r s e = absurd (begin_mode c k.word_at k.write s _ (sym e))
one_keys (k ∷ ks) (l ∷ ls) b c r s e =
    let cut = sym (append_assoc (key_tokens k) (flat_map key_tokens ks) (at b tok.Begin ∷ r)) ∙ e ∙ append_assoc (key_tokens l) (flat_map key_tokens ls) (at c tok.Begin ∷ s) in
    let a = one_key k l (flat_map key_tokens ks ++ at b tok.Begin ∷ r) (flat_map key_tokens ls ++ at c tok.Begin ∷ s) cut in
    let t = one_keys ks ls b c r s a.1 in
    ((λ i. a.0 i ∷ t.0 i), t.1, t.2)

one_proc : (p q : ProcSyntax) (r s : List Placed) → IsProc p → IsProc q → proc_tokens p ++ r ≡ proc_tokens q ++ s → (p ≡ q) × (r ≡ s)
one_proc p q r s h k e =
    let body_p = statements_tokens p.body ++ at p.end_at tok.End ∷ r in
    let body_q = statements_tokens q.body ++ at q.end_at tok.End ∷ s in
    let keys_p = flat_map key_tokens (p.key ∷ p.more_keys) ++ at p.begin_at tok.Begin ∷ body_p in
    let keys_q = flat_map key_tokens (q.key ∷ q.more_keys) ++ at q.begin_at tok.Begin ∷ body_q in
    let head_p = params_tokens p.params ++ at p.close_at tok.Close ∷ keys_p in
    let head_q = params_tokens q.params ++ at q.close_at tok.Close ∷ keys_q in
    let cut = proc_cut p r (proc_tokens p ++ r) refl ∙ e ∙ sym (proc_cut q s (proc_tokens q ++ s) refl) in
    let named_p = at p.name_at (tok.Name p.name) ∷ at p.open_at tok.Open ∷ head_p in
    let named_q = at q.name_at (tok.Name q.name) ∷ at q.open_at tok.Open ∷ head_q in
    let word_at = front_place_is p.word_at q.word_at tok.Proc tok.Proc named_p named_q cut in
    let one = after_front p.word_at q.word_at tok.Proc tok.Proc named_p named_q cut in
    let name_at = front_place_is p.name_at q.name_at (tok.Name p.name) (tok.Name q.name) (at p.open_at tok.Open ∷ head_p) (at q.open_at tok.Open ∷ head_q) one in
    let called = same_name p.name q.name (front_token_is p.name_at q.name_at (tok.Name p.name) (tok.Name q.name) (at p.open_at tok.Open ∷ head_p) (at q.open_at tok.Open ∷ head_q) one) in
    let two = after_front p.name_at q.name_at (tok.Name p.name) (tok.Name q.name) (at p.open_at tok.Open ∷ head_p) (at q.open_at tok.Open ∷ head_q) one in
    let open_at = front_place_is p.open_at q.open_at tok.Open tok.Open head_p head_q two in
    let ps = one_params p.params q.params p.close_at q.close_at keys_p keys_q (after_front p.open_at q.open_at tok.Open tok.Open head_p head_q two) in
    let ks = one_keys (p.key ∷ p.more_keys) (q.key ∷ q.more_keys) p.begin_at q.begin_at body_p body_q ps.2 in
    let key = same_head ks.0 in
    let others = same_tail ks.0 in
    let b = one_statements p.body q.body p.end_at q.end_at r s h k ks.2 in (
      (λ i. record {
        word_at = word_at i;
        name_at = name_at i;
        name = called i;
        open_at = open_at i;
        params = ps.0 i;
        close_at = ps.1 i;
        key = key i;
        more_keys = others i;
        begin_at = ks.1 i;
        body = b.0 i;
        end_at = b.1 i;
      }),
      b.2,
    )

-- a procedure is spelled with some token
pub none_spelled : (p : ProcSyntax) (ts : List Placed) → [] ≡ proc_tokens p ++ ts → ⊥
none_spelled p ts e = cc

-- the same tokens are spelled by the same procedures
pub one_reading : (ps qs : List ProcSyntax) → AreProcSyntaxes ps → AreProcSyntaxes qs → procs_tokens ps ≡ procs_tokens qs → ps ≡ qs
one_reading [] [] h k e = refl
one_reading [] (q ∷ qs) h k e = absurd (none_spelled q (procs_tokens qs) e)
one_reading (p ∷ ps) [] h k e = absurd (none_spelled p (procs_tokens ps) (sym e))
one_reading (p ∷ ps) (q ∷ qs) h k e =
    let a = one_proc p q (procs_tokens ps) (procs_tokens qs) h.0 k.0 e in
    let b = one_reading ps qs h.1 k.1 a.1 in
    λ i. a.0 i ∷ b i
