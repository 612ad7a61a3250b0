-- What has been taken stands in the log.
use Rattle.std.proofs.Common.{◌≡◌, ℕ, ◌+◌, ◌-◌, ◌<◌, ◌≤◌, inl, inr, List, [], ◌++◌, length, drop, ap, sym, ◌∙◌, arith, append-nil, length-append, length-drop}
use Rattle.std.proofs.lemmas.Grind.{common_steps}
use Rattle.std.proofs.lemmas.List.{drop-append-le}
use Rattle.dt_access.specs.declared.Part.{Part}
use Rattle.dt_log.specs.Logs.{AgreeOnOverlap, StandFrom}

drop-front : (front rest : List Part) (k : ℕ) → k ≡ length front → drop k (front ++ rest) ≡ rest
drop-front front rest k e = grind (arith, common_steps)

-- after what is past the log's end was added, the log has all that was delivered
pub stands-new : (log : List Part) (first : ℕ) (entries : List Part) (after : List Part) → AgreeOnOverlap log first entries → first ≤ length log
    → length log < first + length entries → after ≡ log ++ drop (length log - first) entries → StandFrom after first entries
stands-new log first entries after (inl (rest, e)) within longer is =
    absurd (omega (arith, length-append entries rest, ap length e, length-drop first log))
stands-new log first entries after (inr (rest, e)) within longer is =
    let new : drop (length log - first) entries ≡ rest = ap (drop (length log - first)) (sym e) ∙ drop-front (drop first log) rest (length log - first) (sym (length-drop first log)) in
    let held : drop first after ≡ entries = ap (drop first) (is ∙ ap (λ t. log ++ t) new) ∙ drop-append-le first log rest within ∙ e in
    ([], append-nil entries ∙ sym held)
