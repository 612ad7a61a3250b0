use Rattle.std.proofs.Common.{ℕ, List, [], ◌∷◌}
use Rattle.std.specs.Fmt.{decimal}
use Rattle.dt_access.specs.Ids.{id_text}
use Rattle.dt_report.specs.Report.{outcome_words}
use Rattle.dt_report.proofs.WordsAndLines.{words_added, line_added}
use Rattle.dt_report.proofs.lines.put_ran.Goals as goal

pub returns-clause-line : goal.returns-clause-line
returns-clause-line c =
    let name = c.args.session.now in
    let call : List ℕ = decimal c.args.call in
    let attempt : List ℕ = decimal c.args.attempt in
    let outcome : List (List ℕ) = outcome_words c.args.outcome.now in
    let session = rw c.bytes.ensures.same at c.in_ok-put_word.ensures in
    let number = rw c.from.ensures at c.in_ok-put_number.ensures.added in
    let numbered = words_added _ (name ∷ []) (call ∷ []) _ _ session number in
    let count = rw c.from-2.ensures at c.in_ok-put_number-2.ensures.added in
    let counted = words_added _ (name ∷ call ∷ []) (attempt ∷ []) _ _ numbered count in
    let all = words_added _ (name ∷ call ∷ attempt ∷ []) outcome _ _ counted c.in_ok-put_outcome.ensures in
    line_added _ (id_text c.args.id) (name ∷ call ∷ attempt ∷ outcome) _ _ _ c.in_ok-put_id.ensures.added all c.in_ok-push.ensures.items
