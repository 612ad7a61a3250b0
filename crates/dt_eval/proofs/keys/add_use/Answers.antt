use Rattle.std.proofs.Common.{◌≡◌, ◌∙◌, ◌++◌, ◌∷◌, [], if◌then◌else◌, take, drop, set, sym, ap, arith, Bool, List}
use Rattle.dt_access.specs.Clash.{Bytes}
use Rattle.dt_access.specs.declared.Mode.{Mode}
use Rattle.dt_access.specs.declared.Mode.TheVariants.{Write}
use Rattle.dt_eval.specs.Keys.{with_modes, with_use}
use Rattle.dt_eval.proofs.KeyModes.{use_before, use_same, use_last, same_read, with_mode, moded_use}
use Rattle.dt_eval.proofs.keys.add_use.Goals as goal

-- with one use more among those that were there before, the keys are what the uses give
added : (before : List (Bytes × Bool)) (held old : List (Bytes × Mode)) (key name : Bytes) (write : Bool) → held ≡ old → key ≡ name → old ≡ with_modes before →
    with_mode held (key, write) ≡ with_modes (with_use before (name, write))
added before held old key name write same named is = (λ i. with_mode (same i) (named i, write)) ∙ ap (λ vs. with_mode vs (name, write)) is ∙ moded_use before (name, write)

pub returns-in-Less : goal.returns-in-Less
returns-in-Less c = λ before is.
    c.in_ok-insert-in-Less.ensures.items
    ∙ ap (λ m. take c.loop-place.place c.loop-place.uses.items ++ (c.loop-place.key, m) ∷ drop c.loop-place.place c.loop-place.uses.items) c.mode_of.ensures
    ∙ use_before c.loop-place.uses.items c.loop-place.place c.index.result.now (c.loop-place.key, c.args.write) (omega arith) c.index.ensures c.loop-place.invariant.further (sym c.in-Less.ensures)
    ∙ added before c.loop-place.uses.items c.args.uses.now.items c.loop-place.key c.args.key c.args.write c.loop-place.invariant.same c.loop-place.invariant.key is

pub returns-in-Equal : goal.returns-in-Equal
returns-in-Equal c = λ before is.
    let xs = c.loop-place.uses.items in
    let i = c.loop-place.place in
    let v = c.index.result.now in
    let put = same_read xs i c.index_mut.result.now v (omega arith) c.index_mut.ensures.value c.index.ensures in
    let had = same_read xs i c.index-in-Equal.result.now v (omega arith) c.index-in-Equal.ensures c.index.ensures in
    ap (λ m. set xs i (c.index_mut.result.now.0, m)) c.joined.ensures
    ∙ (λ j. set xs i ((put j).0, if c.args.write then Write else (had j).1))
    ∙ use_same xs i v (c.loop-place.key, c.args.write) (omega arith) c.index.ensures c.loop-place.invariant.further (sym c.in-Equal.ensures)
    ∙ added before xs c.args.uses.now.items c.loop-place.key c.args.key c.args.write c.loop-place.invariant.same c.loop-place.invariant.key is

pub returns : goal.returns
returns c = λ before is.
    c.in_ok-push.ensures.items
    ∙ ap (λ m. c.loop-place.uses.items ++ (c.loop-place.key, m) ∷ []) c.mode_of-2.ensures
    ∙ use_last c.loop-place.uses.items c.loop-place.place (c.loop-place.key, c.args.write) (omega arith) c.loop-place.invariant.further
    ∙ added before c.loop-place.uses.items c.args.uses.now.items c.loop-place.key c.args.key c.args.write c.loop-place.invariant.same c.loop-place.invariant.key is
