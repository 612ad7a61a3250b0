use Rattle.std.proofs.Common.{◌≡◌, ◌≢◌, ◌<◌, ◌+◌, ◌∙◌, ℕ, length, sym, ap, subst, inl, inr, arith}
use Rattle.dt_lists.proofs.Callers.{either_nat}
use Rattle.dt_graph.specs.VerticesInner.{HasPassed, VerticesView}
use Rattle.dt_graph.proofs.waits.Waits.forget.Goals as goal

pub loop-self-preserved : goal.loop-self-preserved
loop-self-preserved c =
    let old = c.args.self.now.vertices in let now = c.loop-self.self.vertices in let new = c.forget.new.self in
    let k = c.loop-self.invariant in
    let next : new.first ≡ now.first + 1 = ap (λ x. x.first) c.forget.ensures in
    let front : (now.first < length old.vertices) × HasPassed c.args.classes.now old now.first =
    subst (λ (x : VerticesView). (now.first < length x.vertices) × HasPassed c.args.classes.now x now.first) k.vertices (c.has_front_passed.ensures.0 c.loop-self-test.true) in
    record {
      vertices = c.forget.ensures ∙ (λ i. record (k.vertices i) { first = sym next i; room = new.room });
      queues = k.queues;
      within = omega (arith, next, front.0);
      passed = λ v le lt. elim (either_nat v now.first) [
        | inl e ↦ subst (HasPassed c.args.classes.now old) (sym e) front.1
        | inr ne ↦ k.passed v le (less v new.first now.first lt next ne)
      ];
    }
  where
    less : (v a b : ℕ) → v < a → a ≡ b + 1 → v ≢ b → v < b
    less v a b lt e ne = omega (arith, lt, e, ne)
