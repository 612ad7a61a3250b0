use Rattle.std.proofs.Common.{rules, ◌≡◌, ◌∙◌, sym, true, false}
use Rattle.dt_outside.proofs.FilesByName.{fails_next-found}
use Rattle.dt_outside.specs.Folder.{fails_next}
use Rattle.dt_outside.proofs.memory_folder.MemoryFolder.next_answer.Goals as goal

-- this load passes, so it fails by neither of the two causes, and a copy never does
pub returns-in-Some-clause-failed : goal.returns-in-Some-clause-failed
returns-in-Some-clause-failed c =
    let passes : fails_next c.args.self.now c.args.name.now ≡ false =
    fails_next-found _ _ _ _ _ c.self.view_is c.saturating_add-number.ensures
    (sym c.if-not-is_failing.true ∙ (rw c.deref.ensures.value at c.contains-is_failing.ensures.value))
    (rw c.deref-2.ensures.value at c.in-Some.ensures) in
    (λ is. absurd (c.copy_within.ensures.not_failed is), λ fails. cc)

-- this load fails, so no limit matters
pub returns-in_default-clause-long : goal.returns-in_default-clause-long
returns-in_default-clause-long c =
    let fails : fails_next c.args.self.now c.args.name.now ≡ true = search rules in
    (λ is. cc, λ both. let passes = both.0 in cc)
