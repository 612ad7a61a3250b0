use Rattle.std.proofs.Common.{inr, ◌∷◌, ap, sym, ◌∙◌, Ok, Err, subst, length, ◌<◌}
use Rattle.std.proofs.lemmas.Result.{err_from_is_err_and}
use Rattle.dt_text.specs.Texts.{IsName}
use Rattle.dt_proc.specs.WalkInner.{WalkAnswers, keys_told}
use Rattle.dt_proc.proofs.ProcNames.{Free, is_named}
use Rattle.dt_proc.proofs.ProcWalk.{proc_twice, proc_sound, params_first_fault, keys_first_fault, body_first_fault, proc_told, name_read, head_read, keys_left, body_left}
use Rattle.dt_syntax.proofs.Callers.{proc_longer}
use Rattle.dt_proc.proofs.reader.proc.Goals as goal

pub returns-then-is_taken-clause-right : goal.returns-then-is_taken-clause-right
returns-then-is_taken-clause-right c = λ p rest h e.
    let name = name_read p rest e c.after_one.ensures.right c.named-place.ensures.right in
    inr (proc_twice c.args.before.now p c.named-place.result.1.now c.named-place.result.0 (sym c.is_taken.ensures ∙ c.if-is_taken.true) name.1 name.0)

pub returns-in_err-scope-clause-right : goal.returns-in_err-scope-clause-right
returns-in_err-scope-clause-right c = λ p rest h e.
    let r = err_from_is_err_and c.from_residual.result c.from_residual.ensures.1 in
    let head = head_read p rest e c.after_one.ensures.right c.named-place.ensures.right c.after_one-2.ensures.right in
    let free : Free c.args.before.now p = ap (is_named c.args.before.now) (sym head.1) ∙ sym c.is_taken.ensures ∙ c.if-is_taken.false in
    let keyed = keys_left p rest in
    let ps = c.in_err-scope.ensures.right p.params p.close_at keyed head.2 in
    rw (r.1, r.2) (params_first_fault c.args.before.now p keyed rest _ free ps)

pub returns-in_err-rest-clause-right : goal.returns-in_err-rest-clause-right
returns-in_err-rest-clause-right c = λ p rest h e.
    let r = err_from_is_err_and c.from_residual-in_err-rest.result c.from_residual-in_err-rest.ensures.1 in
    let head = head_read p rest e c.after_one.ensures.right c.named-place.ensures.right c.after_one-2.ensures.right in
    let free : Free c.args.before.now p = ap (is_named c.args.before.now) (sym head.1) ∙ sym c.is_taken.ensures ∙ c.if-is_taken.false in
    let keyed = keys_left p rest in
    let ps = c.in_ok-scope.ensures.right p.params p.close_at keyed head.2 in
    let inside = body_left p rest in
    let ks = c.in_err-rest.ensures.right (p.key ∷ p.more_keys) p.begin_at inside (sym ps.1) in
    let empty = subst (λ v. WalkAnswers (keys_told c.in_ok-scope.scope v (p.key ∷ p.more_keys)) inside (Err c.in_err-rest.field-0.0)) c.new-keys.ensures ks in
    rw (r.1, r.2) (keys_first_fault c.args.before.now p (c.in_ok-scope.scope, c.in_ok-scope.kinds) inside rest _ free ps.0 empty)

pub returns-in_err-body-clause-right : goal.returns-in_err-body-clause-right
returns-in_err-body-clause-right c = λ p rest h e.
    let r = err_from_is_err_and c.from_residual-in_err-body.result c.from_residual-in_err-body.ensures.1 in
    let head = head_read p rest e c.after_one.ensures.right c.named-place.ensures.right c.after_one-2.ensures.right in
    let free : Free c.args.before.now p = ap (is_named c.args.before.now) (sym head.1) ∙ sym c.is_taken.ensures ∙ c.if-is_taken.false in
    let keyed = keys_left p rest in
    let ps = c.in_ok-scope.ensures.right p.params p.close_at keyed head.2 in
    let inside = body_left p rest in
    let ks = c.in_ok-rest.ensures.right (p.key ∷ p.more_keys) p.begin_at inside (sym ps.1) in
    let made = ap (λ v. keys_told c.in_ok-scope.scope v (p.key ∷ p.more_keys)) (sym c.new-keys.ensures) ∙ ks.0 in
    let b = c.in_err-body.ensures.right p.body p.end_at rest h (sym ks.1) in
    rw (r.1, r.2) (body_first_fault c.args.before.now p (c.in_ok-scope.scope, c.in_ok-scope.kinds) (c.more_keys.new.scope, c.more_keys.new.keys) rest rest _ free ps.0 made b.0)

pub new-requires : goal.new-requires
new-requires c =
    let p = c.requires.starts.one in
    let rest = c.requires.starts.rest in
    let h = c.requires.starts.good in
    let e = c.requires.starts.cut in
    let head = head_read p rest e c.after_one.ensures.right c.named-place.ensures.right c.after_one-2.ensures.right in
    let keyed = keys_left p rest in
    let ps = c.in_ok-scope.ensures.right p.params p.close_at keyed head.2 in
    let inside = body_left p rest in
    let ks = c.in_ok-rest.ensures.right (p.key ∷ p.more_keys) p.begin_at inside (sym ps.1) in
    let made = ap (λ v. keys_told c.in_ok-scope.scope v (p.key ∷ p.more_keys)) (sym c.new-keys.ensures) ∙ ks.0 in
    let b = c.in_ok-body.ensures.right p.body p.end_at rest h (sym ks.1) in
    proc_sound p c.in_ok-copy.field-0 c.in_ok-scope.scope c.more_keys.new.scope c.in_ok-scope.kinds c.more_keys.new.keys c.in_ok-body.body c.requires.starts.sound c.requires.starts.small
    (subst IsName (sym c.in_ok-copy.ensures.same) c.in_ok-copy.ensures.name) ps.0 made b.0.0

pub returns-clause-shorter : goal.returns-clause-shorter
returns-clause-shorter c =
    let p = c.requires.starts.one in
    let rest = c.requires.starts.rest in
    let h = c.requires.starts.good in
    let e = c.requires.starts.cut in
    let head = head_read p rest e c.after_one.ensures.right c.named-place.ensures.right c.after_one-2.ensures.right in
    let keyed = keys_left p rest in
    let ps = c.in_ok-scope.ensures.right p.params p.close_at keyed head.2 in
    let inside = body_left p rest in
    let ks = c.in_ok-rest.ensures.right (p.key ∷ p.more_keys) p.begin_at inside (sym ps.1) in
    let made = ap (λ v. keys_told c.in_ok-scope.scope v (p.key ∷ p.more_keys)) (sym c.new-keys.ensures) ∙ ks.0 in
    let b = c.in_ok-body.ensures.right p.body p.end_at rest h (sym ks.1) in
    subst (λ v. length v < length c.args.tokens.now) (sym b.0.1) (proc_longer p rest c.args.tokens.now e)

pub returns-clause-right : goal.returns-clause-right
returns-clause-right c = λ p rest h e.
    let head = head_read p rest e c.after_one.ensures.right c.named-place.ensures.right c.after_one-2.ensures.right in
    let free : Free c.args.before.now p = ap (is_named c.args.before.now) (sym head.1) ∙ sym c.is_taken.ensures ∙ c.if-is_taken.false in
    let keyed = keys_left p rest in
    let ps = c.in_ok-scope.ensures.right p.params p.close_at keyed head.2 in
    let inside = body_left p rest in
    let ks = c.in_ok-rest.ensures.right (p.key ∷ p.more_keys) p.begin_at inside (sym ps.1) in
    let made = ap (λ v. keys_told c.in_ok-scope.scope v (p.key ∷ p.more_keys)) (sym c.new-keys.ensures) ∙ ks.0 in
    let b = c.in_ok-body.ensures.right p.body p.end_at rest h (sym ks.1) in
    let called = c.in_ok-copy.ensures.same ∙ head.1 in (
      proc_told c.args.before.now p (c.in_ok-scope.scope, c.in_ok-scope.kinds) (c.more_keys.new.scope, c.more_keys.new.keys) c.in_ok-body.body free ps.0 made b.0.0
          ∙ ap Ok (sym (c.new.ensures.same ∙ λ i. record { name = called i; params = c.in_ok-scope.kinds; keys = c.more_keys.new.keys; body = c.in_ok-body.body })),
      b.0.1,
    )

pub more_keys-requires-clause-starts : goal.more_keys-requires-clause-starts
more_keys-requires-clause-starts c =
    let p = c.requires.starts.one in
    let rest = c.requires.starts.rest in
    let e = c.requires.starts.cut in
    let head = head_read p rest e c.after_one.ensures.right c.named-place.ensures.right c.after_one-2.ensures.right in
    let ps = c.in_ok-scope.ensures.right p.params p.close_at (keys_left p rest) head.2 in
    record { more = p.key ∷ p.more_keys; begin_at = p.begin_at; rest = body_left p rest; cut = sym ps.1 }

pub block-requires-clause-starts : goal.block-requires-clause-starts
block-requires-clause-starts c =
    let p = c.requires.starts.one in
    let rest = c.requires.starts.rest in
    let e = c.requires.starts.cut in
    let head = head_read p rest e c.after_one.ensures.right c.named-place.ensures.right c.after_one-2.ensures.right in
    let ps = c.in_ok-scope.ensures.right p.params p.close_at (keys_left p rest) head.2 in
    let ks = c.in_ok-rest.ensures.right (p.key ∷ p.more_keys) p.begin_at (body_left p rest) (sym ps.1) in
    record { all = p.body; end_at = p.end_at; rest = rest; good = c.requires.starts.good; cut = sym ks.1 }
