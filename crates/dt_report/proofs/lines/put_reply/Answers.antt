use Rattle.std.proofs.Common.{ℕ, List, [], ◌∷◌, codes}
use Rattle.std.specs.Fmt.{decimal}
use Rattle.dt_report.specs.Report.{outcome_words}
use Rattle.dt_report.proofs.WordsAndLines.{words_added, line_added}
use Rattle.dt_report.proofs.lines.put_reply.Goals as goal

pub returns-clause-line : goal.returns-clause-line
returns-clause-line c =
    let name = c.args.session.now in
    let number : List ℕ = decimal c.args.call in
    let outcome : List (List ℕ) = outcome_words c.args.outcome.now in
    let session = rw c.bytes.ensures.same at c.in_ok-put_word.ensures in
    let call = rw c.from.ensures at c.in_ok-put_number.ensures.added in
    let numbered = words_added _ (name ∷ []) (number ∷ []) _ _ session call in
    let all = words_added _ (name ∷ number ∷ []) outcome _ _ numbered c.in_ok-put_outcome.ensures in
    line_added _ (codes "reply") (name ∷ number ∷ outcome) _ _ _ c.in_ok-extend_from_slice.ensures.items all c.in_ok-push.ensures.items
