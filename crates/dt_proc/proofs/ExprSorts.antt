-- What the second pass makes fits.
use Rattle.std.proofs.Common.{◌≡◌, inl, inr, ℕ, suc, ◌<◌, Bool, true, false, cond, List, [], ◌∷◌, map, length, slice_get, Option, Some, None, Ok, Err, refl, subst, nat_eq}
use Rattle.std.specs.Option.{option_map}
use Rattle.std.specs.Cmp.Lexicographic.{pointwise}
use Rattle.std.proofs.lemmas.Option.{slice_get_within}
use Rattle.dt_proc.specs.declared.tree.Sort.{Sort}
use Rattle.dt_proc.specs.declared.tree.Sort.TheVariants as sort
use Rattle.dt_syntax.specs.declared.operator.Op.{Op}
use Rattle.dt_syntax.specs.declared.operator.Op.TheVariants as op
use Rattle.dt_syntax.specs.declared.token.Token.TheVariants as tok
use Rattle.dt_proc.specs.declared.scope.Meaning.{Meaning}
use Rattle.dt_proc.specs.declared.scope.Meaning.TheVariants.{Variable, Key, Unknown}
use Rattle.dt_proc.specs.declared.error.ProcError.TheVariants as fault
use Rattle.dt_proc.specs.Names.{Scope, entry_of, meaning_in, as_entry, as_key_entry}
use Rattle.dt_proc.specs.Sound.{TakesSort, sort_given, HasSort, IsStoredSort}
use Rattle.dt_proc.specs.Tree as tree
use Rattle.dt_proc.specs.AfterOk.{after_ok}
use Rattle.dt_proc.specs.SecondPass.{Checked, Typed, same_sort, needs, needs_stored, fits_both, combined, as_variable, as_key, as_written, key_of, read_by, made_by, check, check_links}
use Rattle.dt_syntax.specs.Grammar.{at, Syntax, chain, minus, denial, int, text, truth, name, parens, of_key, made, Links, no_link, link, syntax_tokens}
use Rattle.dt_syntax.specs.Grammar.{links_tokens, Reader, reads_int, reads_text, reads_presence, Maker, makes_length, makes_text}
use Rattle.dt_syntax.specs.Limits.{AllSound}
use Rattle.dt_syntax.proofs.Callers.{sound_left, sound_right}
use Rattle.dt_lists.proofs.Callers.{some_same}

-- what is reported has P
abbrev pub Holds : {A : Type 0} → (A → Type 0) → Checked A → Type 0
Holds {A} P told = (a : A) → told ≡ Ok a → P a

-- equal answers report one thing
pub ok_same : {A : Type 0} (a b : A) → ◌≡◌ {A = Checked A} (Ok a) (Ok b) → a ≡ b
ok_same a b e = cc

pub holds_ok : {A : Type 0} (P : A → Type 0) (a : A) → P a → Holds P (Ok a)
holds_ok P a h b e = subst P (ok_same a b e) h

pub holds_after : {A B : Type 0} (P : B → Type 0) (told : Checked A) (next : A → Checked B) → ((a : A) → told ≡ Ok a → Holds P (next a)) → Holds P (after_ok told next)
holds_after P (Ok a) next h = h a refl
holds_after P (Err e) next h = λ b is. absurd cc

pub holds_cond : {A : Type 0} (P : A → Type 0) (b : Bool) (t f : Checked A) → (b ≡ true → Holds P t) → (b ≡ false → Holds P f) → Holds P (cond b t f)
holds_cond P true t f h k = h refl
holds_cond P false t f h k = k refl

abbrev pub sorts : Scope → List Sort
sorts scope = map (λ v. v.1) scope.variables

abbrev pub writes : Scope → List Bool
writes scope = map (λ k. k.1) scope.keys

-- an entry stands at its number
abbrev pub Stands : {A : Type 0} → List A → ℕ × A → Type 0
Stands xs r = slice_get xs r.0 ≡ Some r.1

entry_here : {A : Type 0} (b : Bool) (x : A) (xs : List A) (o : Option (ℕ × A)) (r : ℕ × A) →
    ((s : ℕ × A) → o ≡ Some s → Stands xs s) → cond b (Some (0, x)) (option_map (λ q. (suc q.0, q.1)) o) ≡ Some r → Stands (x ∷ xs) r
entry_here true x xs o r later e = subst (Stands (x ∷ xs)) (some_same {x = (0, x)} {y = r} e) refl
entry_here false x xs None r later e = absurd cc
entry_here false x xs (Some s) r later e = subst (Stands (x ∷ xs)) (some_same {x = (suc s.0, s.1)} {y = r} e) (later s refl)

pub entry_place : {A : Type 0} (es : List (List ℕ × A)) (n : List ℕ) (r : ℕ × A) → entry_of es n ≡ Some r → Stands (map (λ e. e.1) es) r
entry_place [] n r e = absurd cc
entry_place (x ∷ es) n r e = entry_here (pointwise nat_eq x.0 n) x.1 (map (λ e. e.1) es) (entry_of es n) r (λ s. entry_place es n s) e

-- what a name means is there
abbrev pub StandsInScope : Scope → Meaning → Type 0
StandsInScope scope (Variable n s) = slice_get (sorts scope) n ≡ Some s
StandsInScope scope (Key k w) = slice_get (writes scope) k ≡ Some w
StandsInScope scope Unknown = Unit {0}

fits_sort : (s t : Sort) (o : Op) → fits_both o s t ≡ true → TakesSort o s × (t ≡ s)
fits_sort sort.Bool sort.Bool op.Or e = (refl, refl)
fits_sort sort.Bool sort.Bool op.And e = (refl, refl)
fits_sort sort.Int sort.Int op.Equal e = (inl refl, refl)
fits_sort sort.Text sort.Text op.Equal e = (inr refl, refl)
fits_sort sort.Int sort.Int op.Differ e = (inl refl, refl)
fits_sort sort.Text sort.Text op.Differ e = (inr refl, refl)
fits_sort sort.Int sort.Int op.Less e = (inl refl, refl)
fits_sort sort.Text sort.Text op.Less e = (inr refl, refl)
fits_sort sort.Int sort.Int op.AtMost e = (inl refl, refl)
fits_sort sort.Text sort.Text op.AtMost e = (inr refl, refl)
fits_sort sort.Int sort.Int op.More e = (inl refl, refl)
fits_sort sort.Text sort.Text op.More e = (inr refl, refl)
fits_sort sort.Int sort.Int op.AtLeast e = (inl refl, refl)
fits_sort sort.Text sort.Text op.AtLeast e = (inr refl, refl)
fits_sort sort.Int sort.Int op.Add e = (refl, refl)
fits_sort sort.Int sort.Int op.Sub e = (refl, refl)
fits_sort sort.Text sort.Text op.Join e = (refl, refl)
fits_sort sort.Int sort.Int op.Mul e = (refl, refl)
fits_sort sort.Int sort.Int op.Div e = (refl, refl)
fits_sort sort.Int sort.Int op.Rem e = (refl, refl)
fits_sort s t o e = absurd cc

key_means : (scope : Scope) (o : Option (ℕ × Bool)) → ((r : ℕ × Bool) → o ≡ Some r → Stands (writes scope) r) → StandsInScope scope (as_key_entry o)
key_means scope None h = tt
key_means scope (Some r) h = h r refl

entry_means : (scope : Scope) (o : Option (ℕ × Sort)) (m : Meaning) → ((r : ℕ × Sort) → o ≡ Some r → Stands (sorts scope) r) → StandsInScope scope m → StandsInScope scope (as_entry o m)
entry_means scope None m h k = k
entry_means scope (Some r) m h k = h r refl

pub means : (scope : Scope) (n : List ℕ) → StandsInScope scope (meaning_in scope n)
means scope n =
    entry_means scope (entry_of scope.variables n) (as_key_entry (entry_of scope.keys n)) (λ r e. entry_place scope.variables n r e)
    (key_means scope (entry_of scope.keys n) (λ r e. entry_place scope.keys n r e))

pub same_is : (s t : Sort) → same_sort s t ≡ true → s ≡ t
same_is sort.Int sort.Int e = refl
same_is sort.Text sort.Text e = refl
same_is sort.Bool sort.Bool e = refl
same_is s t e = absurd cc

pub not_truth : (s : Sort) → same_sort s sort.Bool ≡ false → IsStoredSort s
not_truth sort.Int e = inl refl
not_truth sort.Text e = inr refl
not_truth sort.Bool e = absurd cc

-- the expression has its sort
abbrev pub HasItsSort : Scope → Typed → Type 0
HasItsSort scope a = HasSort (sorts scope) (length (writes scope)) a.0 a.1

pub variable_fits : (scope : Scope) (p : ℕ) (m : Meaning) → StandsInScope scope m → Holds (HasItsSort scope) (as_variable p m)
variable_fits scope p (Variable n s) h = holds_ok (HasItsSort scope) (tree.variable n, s) h
variable_fits scope p (Key k w) h = λ a e. absurd cc
variable_fits scope p Unknown h = λ a e. absurd cc

pub key_fits : (scope : Scope) (p : ℕ) (m : Meaning) → StandsInScope scope m → Holds (λ k. k < length (writes scope)) (as_key p m)
key_fits scope p (Variable n s) h = λ a e. absurd cc
key_fits scope p (Key k w) h = holds_ok (λ k. k < length (writes scope)) k (slice_get_within (writes scope) k w h)
key_fits scope p Unknown h = λ a e. absurd cc

pub written_fits : (scope : Scope) (p : ℕ) (m : Meaning) → StandsInScope scope m → Holds (λ k. slice_get (writes scope) k ≡ Some true) (as_written p m)
written_fits scope p (Variable n s) h = λ a e. absurd cc
written_fits scope p (Key k true) h = holds_ok (λ k. slice_get (writes scope) k ≡ Some true) k h
written_fits scope p (Key k false) h = λ a e. absurd cc
written_fits scope p Unknown h = λ a e. absurd cc

reader_fits : (scope : Scope) (r : Reader) (k : ℕ) → k < length (writes scope) → HasItsSort scope (read_by r k)
reader_fits scope reads_int k h = (refl, h)
reader_fits scope reads_text k h = (refl, h)
reader_fits scope reads_presence k h = (refl, h)

pub needs_fits : {A : Type 0} (P : A → Type 0) (p : ℕ) (s : Sort) (a : Typed) (r : A) → (a.1 ≡ s → P r) → Holds P (needs p s a r)
needs_fits P p s a r h = holds_cond P (same_sort a.1 s) (Ok r) (Err (fault.Kind p)) (λ e. holds_ok P r (h (same_is a.1 s e))) (λ e b is. absurd cc)

pub stored_fits : {A : Type 0} (P : A → Type 0) (p : ℕ) (a : Typed) (r : A) → (IsStoredSort a.1 → P r) → Holds P (needs_stored p a r)
stored_fits P p a r h = holds_cond P (same_sort a.1 sort.Bool) (Err (fault.Kind p)) (Ok r) (λ e b is. absurd cc) (λ e. holds_ok P r (h (not_truth a.1 e)))

-- where the sort of an expression is this one, its tree has it
of_sort : (scope : Scope) (a : Typed) (s : Sort) → HasItsSort scope a → a.1 ≡ s → HasSort (sorts scope) (length (writes scope)) a.0 s
of_sort scope a s h is = subst (λ t. HasSort (sorts scope) (length (writes scope)) a.0 t) is h

maker_fits : (scope : Scope) (m : Maker) (p : ℕ) (a : Typed) → HasItsSort scope a → Holds (HasItsSort scope) (made_by m p a)
maker_fits scope makes_length p a h =
    needs_fits (HasItsSort scope) p sort.Text a (tree.length_of a.0, sort.Int) (λ e. (refl, of_sort scope a _ h e))
maker_fits scope makes_text p a h =
    needs_fits (HasItsSort scope) p sort.Int a (tree.shown a.0, sort.Text) (λ e. (refl, of_sort scope a _ h e))

combined_fits : (scope : Scope) (p : ℕ) (o : Op) (a b : Typed) → HasItsSort scope a → HasItsSort scope b → Holds (HasItsSort scope) (combined p o a b)
combined_fits scope p o a b h k =
    holds_cond (HasItsSort scope) (fits_both o a.1 b.1) (Ok (tree.binary o a.0 b.0, sort_given o)) (Err (fault.Kind p))
    (λ e. let f = fits_sort a.1 b.1 o e in holds_ok (HasItsSort scope) (tree.binary o a.0 b.0, sort_given o)
    (a.1, f.0, h, of_sort scope b _ k f.1, refl))
    (λ e c is. absurd cc)

mutual
  pub check_fits : (scope : Scope) (x : Syntax) → AllSound (syntax_tokens x) → Holds (HasItsSort scope) (check scope x)
  check_fits scope (chain head links) h =
      holds_after (HasItsSort scope) (check scope head) (λ a. check_links scope a links)
      (λ a e. links_fit scope a links (check_fits scope head (sound_left (syntax_tokens head) (links_tokens links) h) a e) (sound_right (syntax_tokens head) (links_tokens links) h))
  check_fits scope (minus p x) h =
      holds_after (HasItsSort scope) (check scope x) (λ a. needs p sort.Int a (tree.negative a.0, sort.Int))
      (λ a e. needs_fits (HasItsSort scope) p sort.Int a (tree.negative a.0, sort.Int)
      (λ s. (refl, of_sort scope a _ (check_fits scope x h.1 a e) s)))
  check_fits scope (denial p x) h =
      holds_after (HasItsSort scope) (check scope x) (λ a. needs p sort.Bool a (tree.opposite a.0, sort.Bool))
      (λ a e. needs_fits (HasItsSort scope) p sort.Bool a (tree.opposite a.0, sort.Bool)
      (λ s. (refl, of_sort scope a _ (check_fits scope x h.1 a e) s)))
  check_fits scope (int p z) h = holds_ok (HasItsSort scope) (tree.number z, sort.Int) (refl, h.0)
  check_fits scope (text p t) h = holds_ok (HasItsSort scope) (tree.text t, sort.Text) (refl, h.0)
  check_fits scope (truth p b) h = holds_ok (HasItsSort scope) (tree.truth b, sort.Bool) refl
  check_fits scope (name p n) h = variable_fits scope p (meaning_in scope n) (means scope n)
  check_fits scope (parens p x q) h = check_fits scope x (sound_left (syntax_tokens x) (at q tok.Close ∷ []) h.1)
  check_fits scope (of_key p r b) h =
      holds_after (HasItsSort scope) (key_of scope b) (λ k. Ok (read_by r k))
      (λ k e. holds_ok (HasItsSort scope) (read_by r k) (reader_fits scope r k (key_fits scope b.name_at (meaning_in scope b.name) (means scope b.name) k e)))
  check_fits scope (made p m o x q) h =
      holds_after (HasItsSort scope) (check scope x) (made_by m p)
      (λ a e. maker_fits scope m p a (check_fits scope x (sound_left (syntax_tokens x) (at q tok.Close ∷ []) h.1.1) a e))

  pub links_fit : (scope : Scope) (a : Typed) (links : Links) → HasItsSort scope a → AllSound (links_tokens links) → Holds (HasItsSort scope) (check_links scope a links)
  links_fit scope a no_link h s = holds_ok (HasItsSort scope) a h
  links_fit scope a (link p o x more) h s =
      holds_after (HasItsSort scope) (check scope x) (λ b. after_ok (combined p o a b) (λ c. check_links scope c more))
      (λ b e. holds_after (HasItsSort scope) (combined p o a b) (λ c. check_links scope c more)
      (λ c f. links_fit scope c more
      (combined_fits scope p o a b h (check_fits scope x (sound_left (syntax_tokens x) (links_tokens more) s.1) b e) c f)
      (sound_right (syntax_tokens x) (links_tokens more) s.1)))
