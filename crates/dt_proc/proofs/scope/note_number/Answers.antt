use Rattle.std.specs.Ordering.{nat_cmp}
use Rattle.std.specs.Cmp.Lexicographic.{slice_cmp}
use Rattle.std.specs.BTreeMap.{get}
use Rattle.dt_proc.proofs.VariableNumbers.{added_as, added_known, some_entry}
use Rattle.dt_proc.proofs.scope.note_number.Goals as goal

pub returns-in_ok-insert-clause-added : goal.returns-in_ok-insert-clause-added
returns-in_ok-insert-clause-added c = λ before len h.
    added_as c.args.numbers.now c.insert.new.self before c.args.name.now c.in_ok-copy.field-0 c.args.number c.args.sort h c.if-not-contains_key.ensures len c.in_ok-copy.ensures.same
    c.in_ok-insert.ensures.updates

pub returns-else-not-contains_key-clause-added : goal.returns-else-not-contains_key-clause-added
returns-else-not-contains_key-clause-added c = λ before len h.
    let known = some_entry (get (slice_cmp nat_cmp) c.args.numbers.now c.args.name.now) c.if-not-contains_key.ensures in
    added_known c.args.numbers.now before c.args.name.now c.args.sort known.0 h known.1
