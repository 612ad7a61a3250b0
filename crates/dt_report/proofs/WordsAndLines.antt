-- Words and lines that are appended one after another.
use Rattle.std.proofs.Common.{◌≡◌, ℕ, ◌+◌, ◌<◌, ◌≤◌, List, [], ◌∷◌, ◌++◌, length, map, drop, get_or, Option, refl, ap, sym, subst, ◌∙◌, arith, append_assoc, append-nil}
use Rattle.std.proofs.lemmas.Grind.{common_steps}
use Rattle.dt_lists.specs.Lists.{AllIn}
use Rattle.dt_lists.proofs.Callers.{from_item}
use Rattle.dt_text.specs.Words.{spaced}
use Rattle.dt_text.specs.declared.Value.{Value}
use Rattle.dt_table.specs.declared.Shown.{Shown}
use Rattle.dt_report.specs.Report.{line_of, value_word, table_text, tables_text}
use Rattle.dt_text.proofs.Callers.{join_spaced}

spaced-append : (ws vs : List (List ℕ)) → spaced (ws ++ vs) ≡ spaced ws ++ spaced vs
spaced-append [] vs = refl
spaced-append (w ∷ ws) vs =
    ap (λ t. 32 ∷ (w ++ t)) (spaced-append ws vs) ∙ ap (λ t. 32 ∷ t) (sym (append_assoc w (spaced ws) (spaced vs)))

-- words after words
pub words_added : (start : List ℕ) (ws vs : List (List ℕ)) (before after : List ℕ) → before ≡ start ++ spaced ws → after ≡ before ++ spaced vs → after ≡ start ++ spaced (ws ++ vs)
words_added start ws vs before after so_far added =
    added ∙ ap (λ t. t ++ spaced vs) so_far ∙ append_assoc start (spaced ws) (spaced vs) ∙ ap (λ t. start ++ t) (sym (spaced-append ws vs))

-- a first word, others after it, and the end of the line
pub line_added : (old head : List ℕ) (ws : List (List ℕ)) (first before after : List ℕ) → first ≡ old ++ head → before ≡ first ++ spaced ws → after ≡ before ++ 10 ∷ [] → after ≡ old ++ line_of (head ∷ ws)
line_added old head ws first before after begun so_far ended =
    ended ∙ ap (λ t. t ++ 10 ∷ []) (so_far ∙ ap (λ t. t ++ spaced ws) begun ∙ append_assoc old head (spaced ws)) ∙ append_assoc old (head ++ spaced ws) (10 ∷ [])
    ∙ ap (λ t. old ++ (t ++ 10 ∷ [])) (sym (join_spaced head ws))

-- one value more
pub value_put : (start before after : List ℕ) (vs : List (Option Value)) (k : ℕ) (v : Option Value) → k < length vs → v ≡ get_or vs k v → before ++ spaced (map value_word (drop k vs)) ≡ start
    → after ≡ before ++ spaced (value_word v ∷ []) → after ++ spaced (map value_word (drop (k + 1) vs)) ≡ start
value_put start before after vs k v within is so_far added =
    let rest : List (List ℕ) = map value_word (drop (k + 1) vs) in
    let one : List (List ℕ) = value_word v ∷ [] in
    let cut : drop k vs ≡ v ∷ drop (k + 1) vs = from_item vs k v _ within is in
    ap (λ t. t ++ spaced rest) added ∙ append_assoc before (spaced one) (spaced rest) ∙ ap (λ t. before ++ t) (sym (spaced-append one rest)) ∙ ap (λ t. before ++ spaced (map value_word t)) (sym cut) ∙ so_far

-- all values after their first word
pub values_put : (old head before after : List ℕ) (vs : List (Option Value)) (k : ℕ) → length vs ≤ k → before ≡ old ++ spaced (head ∷ [])
    → after ++ spaced (map value_word (drop k vs)) ≡ before ++ spaced (map value_word vs) → after ≡ old ++ spaced (head ∷ map value_word vs)
values_put old head before after vs k past begun so_far =
    let none : drop k vs ≡ [] = grind (arith, common_steps) in
    let all : after ≡ before ++ spaced (map value_word vs) = sym (append-nil after) ∙ ap (λ t. after ++ spaced (map value_word t)) (sym none) ∙ so_far in
    words_added old (head ∷ []) (map value_word vs) before after begun all

-- one table more
pub table_put : (start before after : List ℕ) (tables : List (List Shown)) (k : ℕ) (table : List Shown) → k < length tables → table ≡ get_or tables k table
    → before ++ tables_text k (drop k tables) ≡ start → after ≡ before ++ table_text k table → after ++ tables_text (k + 1) (drop (k + 1) tables) ≡ start
table_put start before after tables k table within is so_far added =
    let rest : List ℕ = tables_text (k + 1) (drop (k + 1) tables) in
    let cut : drop k tables ≡ table ∷ drop (k + 1) tables = from_item tables k table _ within is in
    ap (λ t. t ++ rest) added ∙ append_assoc before (table_text k table) rest ∙ ap (λ t. before ++ tables_text k t) (sym cut) ∙ so_far

-- all tables
pub tables_put : (old after : List ℕ) (tables : List (List Shown)) (k : ℕ) → length tables ≤ k → after ++ tables_text k (drop k tables) ≡ old ++ tables_text 0 tables → after ≡ old ++ tables_text 0 tables
tables_put old after tables k past so_far =
    let none : drop k tables ≡ [] = grind (arith, common_steps) in
    sym (append-nil after) ∙ ap (λ t. after ++ tables_text k t) (sym none) ∙ so_far

-- what follows once each item from a place on is such, follows once each item from the next place on is
pub held_more : {A : Type 0} (P : A → Type 0) {G : Type 0} (xs : List A) (k : ℕ) (x : A) → k < length xs → x ≡ get_or xs k x → P x → (AllIn P (drop k xs) → G) → AllIn P (drop (k + 1) xs) → G
held_more P xs k x within is one so_far rest = so_far (subst (AllIn P) (sym (from_item xs k x _ within is)) (one, rest))

-- and so it holds after the last
pub held_all : {A : Type 0} (P : A → Type 0) {G : Type 0} (xs : List A) (k : ℕ) → length xs ≤ k → (AllIn P (drop k xs) → G) → G
held_all P xs k past so_far =
    let none : drop k xs ≡ [] = grind (arith, common_steps) in
    so_far (subst (AllIn P) (sym none) tt)
