-- The text of a report, line by line: the list that an event makes longer by an item has the item's line after its text, and the
-- sections that are appended one after another are the whole text.
use Rattle.std.proofs.Common.{◌≡◌, ℕ, List, [], ◌∷◌, ◌++◌, codes, sym, ap, subst, ◌∙◌, append_assoc, append-nil}
use Rattle.std.specs.Prelude.{Result, OnOk, flat_map}
use Rattle.std.proofs.lemmas.List.Concat.{flat_map-append}
use Rattle.std.proofs.lemmas.Result.{on_ok_weaker}
use Rattle.dt_lists.specs.Lists.{AllIn}
use Rattle.dt_lists.proofs.Callers.{all_more}
use Rattle.dt_events.specs.declared.Event.{Event}
use Rattle.dt_table.specs.declared.Shown.{Shown}
use Rattle.dt_site.proofs.Callers.{on_ok}
use Rattle.dt_report.specs.Report.{events_text, line_of, order_text, replies_text, reply_line, report_text, tables_text}
use Rattle.dt_report.specs.declared.Ran.{Ran}
use Rattle.dt_report.specs.declared.Reply.{Reply}

module _ {A : Type 0} (line : A → List ℕ) (start : List ℕ) {so_far : List ℕ} (before : List A) {after : List A} (written : so_far ≡ start ++ flat_map line before) where
  -- one line more
  pub one_line : {more : List ℕ} (item : A) → after ≡ before ++ item ∷ [] → more ≡ so_far ++ line item → more ≡ start ++ flat_map line after
  one_line item one added =
      added ∙ ap (λ t. t ++ line item) written ∙ append_assoc start (flat_map line before) (line item)
      ∙ ap (λ t. start ++ (flat_map line before ++ t)) (sym (append-nil (line item)))
      ∙ ap (λ t. start ++ t) (sym (flat_map-append line before (item ∷ []))) ∙ ap (λ l. start ++ flat_map line l) (sym one)

-- a list that an item makes longer by itself: where its line was appended, and it is such as the others are
module _ {A : Type 0} {T E : Type 0} (answer : Result T E) (before after : List A) (item : A) (added : after ≡ before ++ item ∷ []) where
  -- the lines are those of all items
  pub lines_put : (line : A → List ℕ) (so_far more : List ℕ) → OnOk answer (more ≡ so_far ++ line item) → OnOk answer ((start : List ℕ) → so_far ≡ start ++ flat_map line before → more ≡ start ++ flat_map line after)
  lines_put line so_far more put = on_ok_weaker answer (λ one start written. one_line line start before written item added one) put

  -- all items are such
  pub all_put : (P : A → Type 0) → P item → OnOk answer (AllIn P before → AllIn P after)
  all_put P holds = on_ok answer (λ all. subst (AllIn P) (sym added) (all_more P before item all holds))

-- the lines after the first one of a section are the section
pub section_is : (old : List ℕ) {begun out : List ℕ} (head lines : List ℕ) → begun ≡ old ++ (head ++ []) → out ≡ begun ++ lines → out ≡ old ++ (head ++ lines)
section_is old head lines begins ends =
    ends ∙ ap (λ t. t ++ lines) (begins ∙ ap (λ t. old ++ t) (append-nil head)) ∙ append_assoc old head lines

-- the sections, one after another
pub text_is : {begun ordered shown whole : List ℕ} (replies : List Reply) (order : List Ran) (tables : List (List Shown)) (events : List Event)
    → begun ≡ replies_text [] → ordered ≡ (begun ++ flat_map reply_line replies) ++ order_text order → shown ≡ ordered ++ tables_text 0 tables
    → whole ≡ shown ++ events_text events → whole ≡ report_text (record { replies = replies; order = order; tables = tables; events = events })
text_is replies order tables events begins orders shows ends =
    let head : List ℕ = line_of (codes "replies" ∷ []) in
    let lines : List ℕ = flat_map reply_line replies in
    ends ∙ ap (λ t. t ++ events_text events) (shows ∙ ap (λ t. t ++ tables_text 0 tables) (orders ∙ ap (λ t. (t ++ lines) ++ order_text order) (begins ∙ append-nil head)))
    ∙ append_assoc ((head ++ lines) ++ order_text order) (tables_text 0 tables) (events_text events)
    ∙ append_assoc (head ++ lines) (order_text order) (tables_text 0 tables ++ events_text events)
