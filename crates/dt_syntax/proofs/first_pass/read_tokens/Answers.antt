use Rattle.std.proofs.Common.{[], reverse, ap, sym, ◌∙◌, subst, arith, refl}
use Rattle.std.proofs.lemmas.List.{reverse-reverse, take_rest}
use Rattle.dt_syntax.specs.Tokens.{front_token}
use Rattle.dt_syntax.specs.MachineInner.{Advances}
use Rattle.dt_syntax.specs.FirstPass.{backwards}
use Rattle.dt_syntax.specs.Grammar.{at}
use Rattle.dt_syntax.proofs.FirstPassLoop.{Reading, bad_token, refused, one_too_many, counts_small, front_within, reads_on, passes, too_early}
use Rattle.dt_syntax.proofs.first_pass.read_tokens.Goals as goal

pub returns-in_default-clause-fault : goal.returns-in_default-clause-fault
returns-in_default-clause-fault c =
    bad_token c.args.text.now c.loop-at.tokens.items (reverse c.loop-at.stack.items) c.loop-at.counts c.loop-at.at c.loop-at.invariant c.loop-at-test.true
    (sym (ap front_token (take_rest c.args.text.now c.loop-at.at)) ∙ sym c.in_ok-token.ensures ∙ c.in_default.is)

pub returns-then-not-branch-clause-fault : goal.returns-then-not-branch-clause-fault
returns-then-not-branch-clause-fault c =
    let front = sym (ap front_token (take_rest c.args.text.now c.loop-at.at)) ∙ sym c.in_ok-token.ensures ∙ c.in-Some.is in
    let stops = subst (Advances (reverse c.loop-at.stack.items) c.in-Some.token (reverse c.advance.new.stack.items)) c.if-not-branch.true c.in_ok-advance.ensures in
    refused c.args.text.now c.loop-at.tokens.items (reverse c.loop-at.stack.items) c.loop-at.counts c.loop-at.at c.in-Some.size c.in-Some.token
    c.loop-at.invariant c.loop-at-test.true front stops

pub returns-then-is_too_many-clause-fault : goal.returns-then-is_too_many-clause-fault
returns-then-is_too_many-clause-fault c =
    let front = sym (ap front_token (take_rest c.args.text.now c.loop-at.at)) ∙ sym c.in_ok-token.ensures ∙ c.in-Some.is in
    let goes = subst (Advances (reverse c.loop-at.stack.items) c.in-Some.token (reverse c.advance.new.stack.items)) c.if-not-branch.false c.in_ok-advance.ensures in
    one_too_many c.args.text.now c.loop-at.tokens.items (reverse c.loop-at.stack.items) (reverse c.advance.new.stack.items) c.loop-at.counts c.loop-at.at c.in-Some.size c.in-Some.token
    c.loop-at.invariant c.loop-at-test.true front goes
    (sym (c.is_too_many.ensures (backwards c.loop-at.tokens.items []) c.loop-at.invariant.counted) ∙ c.if-is_too_many.true)

pub add-requires : goal.add-requires
add-requires c = counts_small c.args.text.now c.loop-at.tokens.items (reverse c.loop-at.stack.items) c.loop-at.counts c.loop-at.at c.requires c.loop-at.invariant

pub overflow_add-at : goal.overflow_add-at
overflow_add-at c =
    let front = sym (ap front_token (take_rest c.args.text.now c.loop-at.at)) ∙ sym c.in_ok-token.ensures ∙ c.in-Some.is in
    let within = front_within c.args.text.now c.loop-at.at c.in-Some.token c.in-Some.size c.loop-at-test.true front in
    omega (arith, within.1, c.requires)

pub gap_end-at-requires-in-loop-at : goal.gap_end-at-requires-in-loop-at
gap_end-at-requires-in-loop-at c =
    let front = sym (ap front_token (take_rest c.args.text.now c.loop-at.at)) ∙ sym c.in_ok-token.ensures ∙ c.in-Some.is in
    (front_within c.args.text.now c.loop-at.at c.in-Some.token c.in-Some.size c.loop-at-test.true front).1

pub loop-at-smaller : goal.loop-at-smaller
loop-at-smaller c =
    let front = sym (ap front_token (take_rest c.args.text.now c.loop-at.at)) ∙ sym c.in_ok-token.ensures ∙ c.in-Some.is in
    let within = front_within c.args.text.now c.loop-at.at c.in-Some.token c.in-Some.size c.loop-at-test.true front in
    omega (arith, within.0, within.1, c.gap_end-at-in-loop-at.ensures.after, c.gap_end-at-in-loop-at.ensures.within)

pub loop-at-preserved : goal.loop-at-preserved
loop-at-preserved c =
    let front = sym (ap front_token (take_rest c.args.text.now c.loop-at.at)) ∙ sym c.in_ok-token.ensures ∙ c.in-Some.is in
    let goes = subst (Advances (reverse c.loop-at.stack.items) c.in-Some.token (reverse c.advance.new.stack.items)) c.if-not-branch.false c.in_ok-advance.ensures in
    let gap = c.gap_end-at-in-loop-at.ensures in
    subst (λ ts. Reading c.args.text.now ts (reverse c.advance.new.stack.items) c.add.new.self c.gap_end-at-in-loop-at.result) (sym c.in_ok-push-2.ensures.items)
    (reads_on c.args.text.now c.loop-at.tokens.items (reverse c.loop-at.stack.items) (reverse c.advance.new.stack.items) c.loop-at.counts c.add.new.self c.loop-at.at
    c.gap_end-at-in-loop-at.result c.in-Some.size c.in-Some.token c.loop-at.invariant c.loop-at-test.true front goes
    (sym (c.is_too_many.ensures (backwards c.loop-at.tokens.items []) c.loop-at.invariant.counted) ∙ c.if-is_too_many.false)
    (c.add.ensures (backwards c.loop-at.tokens.items []) (at c.loop-at.at c.in-Some.token) c.loop-at.invariant.counted refl)
    gap.after gap.within gap.same gap.starts)

pub returns-then-is_whole-clause-ok : goal.returns-then-is_whole-clause-ok
returns-then-is_whole-clause-ok c =
    passes c.args.text.now c.loop-at.tokens.items (reverse c.loop-at.stack.items) c.loop-at.counts c.loop-at.at c.loop-at.invariant c.loop-at-test.false
    (ap reverse (sym c.as_slice.ensures.value ∙ c.if-is_whole.ensures))

pub returns-else-is_whole-clause-fault : goal.returns-else-is_whole-clause-fault
returns-else-is_whole-clause-fault c =
    too_early c.args.text.now c.loop-at.tokens.items (reverse c.loop-at.stack.items) c.loop-at.counts c.loop-at.at c.loop-at.invariant c.loop-at-test.false
    (λ e. c.if-is_whole.ensures (c.as_slice.ensures.value ∙ sym (reverse-reverse c.loop-at.stack.items) ∙ ap reverse e))

pub returns-then-is_whole-clause-short : goal.returns-then-is_whole-clause-short
returns-then-is_whole-clause-short c = omega (arith, c.loop-at.invariant.short, c.loop-at.invariant.within)
