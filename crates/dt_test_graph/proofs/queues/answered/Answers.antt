use Rattle.std.proofs.Common.{◌≡◌, ℕ, zero, suc, ◌<◌, List, [], ◌∷◌, length, get_or, subst, sym, arith}
use Rattle.dt_lists.specs.Lists.{AllIn}
use Rattle.dt_queue.specs.Queues.{IsQueued}
use Rattle.dt_queue.proofs.Callers.{waits_without}
use Rattle.dt_test_graph.proofs.queues.answered.Goals as goal

-- what all of a list have, the one at a place has
at : {A : Type 0} (P : A → Type 0) (xs : List A) (i : ℕ) (x : A) → i < length xs → ((d : A) → x ≡ get_or xs i d) → AllIn P xs → P x
at P [] i x lt e a = absurd (omega arith)
at P (y ∷ ys) zero x lt e a = subst P (sym (e x)) a.0
at P (y ∷ ys) (suc i) x lt e a = at P ys i x (omega arith) e a.1

pub asked-requires-in-Some-get : goal.asked-requires-in-Some-get
asked-requires-in-Some-get c =
    let found = c.in-Some.ensures.lookup in
    let waits : IsQueued c.args.queues.now c.in-Some.slot.now =
    at (IsQueued c.args.queues.now) c.args.slots.now c.args.place c.in-Some.slot.now found.3.0 found.3.1 c.requires in
    rw c.remove.ensures
    (waits_without c.args.queues.now c.in-Some-get.gone.now c.in-Some.slot.now (λ e. c.if-gone-slot.true (sym e)) waits)
