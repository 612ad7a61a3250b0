use Rattle.std.proofs.Common.{ℕ, List, [], ◌∷◌, codes}
use Rattle.std.specs.Fmt.{decimal}
use Rattle.dt_report.specs.Report.{value_word}
use Rattle.dt_report.proofs.WordsAndLines.{words_added, line_added}
use Rattle.dt_report.proofs.lines.put_row.Goals as goal

pub returns : goal.returns
returns c =
    let row = c.args.row.now in
    let value : List (List ℕ) = value_word row.value ∷ [] in
    let home : List (List ℕ) = codes "home" ∷ [] in
    let moves : List (List ℕ) = codes "moves" ∷ [] in
    let begun = rw c.bytes.ensures.same at c.in_ok-extend_from_slice.ensures.items in
    let number = rw c.from.ensures at c.in_ok-put_number.ensures.added in
    let count = rw c.from-2.ensures at c.in_ok-put_number-2.ensures.added in
    let two = words_added _ (codes "=" ∷ []) value _ _ c.in_ok-put_word.ensures c.in_ok-put_value_word.ensures in
    let three = words_added _ (codes "=" ∷ value) home _ _ two c.in_ok-put_word-2.ensures in
    let four = words_added _ (codes "=" ∷ value_word row.value ∷ home) (decimal row.home ∷ []) _ _ three number in
    let five = words_added _ (codes "=" ∷ value_word row.value ∷ codes "home" ∷ decimal row.home ∷ []) moves _ _ four c.in_ok-put_word-3.ensures in
    let all = words_added _ (codes "=" ∷ value_word row.value ∷ codes "home" ∷ decimal row.home ∷ moves) (decimal row.moves ∷ []) _ _ five count in
    line_added _ row.key (codes "=" ∷ value_word row.value ∷ codes "home" ∷ decimal row.home ∷ codes "moves" ∷ decimal row.moves ∷ []) _ _ _ begun all c.in_ok-push.ensures.items
