-- Chains of steps, over any relation: one thing leads to another where steps of the relation go from the one to the
-- other. What reaches what in a graph is a chain over its edges. Whether there is a chain is decided where each step
-- begins in one known list, by proofs/Chains.antt. Read next: Views.antt of dt_sched, where chains are what reaches what.

-- a chain of steps leads from one thing to another, or they are the same
pub data Chain {A : Type 0} (Step : A → A → Type 0) : A → A → Type 0 where
  here : {x : A} → Chain Step x x
  onward : {x y z : A} → Chain Step x y → Step y z → Chain Step x z
