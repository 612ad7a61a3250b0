-- Scaffolding, which the toolchain asks for: a code of each tree, by which proofs tell trees apart. Skip it; read Tree
-- for the trees.
use Rattle.std.specs.Prelude.{◌≡◌, ℕ, List, refl}
use Rattle.std.proofs.Common.{ap, arith}
use Rattle.std.specs.Coded.{Coded, code_by, coded×, coded_ℕ, coded_ℤ, coded_bool, coded_list}
use base.Stored.{Gv, gnil, gnum, gcons}
use Rattle.dt_syntax.specs.contracts.operator.Op as op
use Rattle.dt_syntax.specs.contracts.kinds.Kind as kind
use Rattle.dt_proc.specs.contracts.tree.KeyDecl as key
use Rattle.dt_syntax.specs.declared.kinds.Kind.{Kind}
use Rattle.dt_proc.specs.declared.tree.KeyDecl.{KeyDecl}
use Rattle.dt_proc.specs.Tree.{ExprTree, number, text, truth, variable, number_of, text_of, has_value, length_of, shown, negative, opposite, binary, GiveTree}
use Rattle.dt_proc.specs.Tree.{row, value, StmtTree, let_new, set_row, clear_row, choose, abort_with, give_all, BlockTree, done, then, ProcTree}

-- the number in front of a code, which gives the case
abbrev tag : Gv → ℕ
tag (gcons (gnum n) g) = n
tag _ = 0

-- a code without what stands in front of it
abbrev rest : Gv → Gv
rest (gcons a b) = b
rest _ = gnil

-- what stands in front of a code
abbrev front : Gv → Gv
front (gcons a b) = a
front _ = gnil

-- the code of bytes
abbrev coded_bytes : Coded (List ℕ)
coded_bytes = coded_list coded_ℕ

-- the code of an expression: the number of its case, and then its parts
abbrev formula_code : ExprTree → Gv
formula_code (number z) = gcons (gnum 0) (coded_ℤ.code z)
formula_code (text t) = gcons (gnum 1) (coded_bytes.code t)
formula_code (truth b) = gcons (gnum 2) (coded_bool.code b)
formula_code (variable n) = gcons (gnum 3) (gnum n)
formula_code (number_of n) = gcons (gnum 4) (gnum n)
formula_code (text_of n) = gcons (gnum 5) (gnum n)
formula_code (has_value n) = gcons (gnum 6) (gnum n)
formula_code (length_of f) = gcons (gnum 7) (formula_code f)
formula_code (shown f) = gcons (gnum 8) (formula_code f)
formula_code (negative f) = gcons (gnum 9) (formula_code f)
formula_code (opposite f) = gcons (gnum 10) (formula_code f)
formula_code (binary o f g) = gcons (gnum 11) (gcons (op.the_row.coded.code o) (gcons (formula_code f) (formula_code g)))

-- two expressions of one code are the same
pub formula_inj : (x y : ExprTree) → formula_code x ≡ formula_code y → x ≡ y
formula_inj (number z) (number w) e = ap number (coded_ℤ.inj z w (ap rest e))
formula_inj (text t) (text u) e = ap text (coded_bytes.inj t u (ap rest e))
formula_inj (truth b) (truth c) e = ap truth (coded_bool.inj b c (ap rest e))
formula_inj (variable n) (variable m) e = ap variable (coded_ℕ.inj n m (ap rest e))
formula_inj (number_of n) (number_of m) e = ap number_of (coded_ℕ.inj n m (ap rest e))
formula_inj (text_of n) (text_of m) e = ap text_of (coded_ℕ.inj n m (ap rest e))
formula_inj (has_value n) (has_value m) e = ap has_value (coded_ℕ.inj n m (ap rest e))
formula_inj (length_of f) (length_of g) e = ap length_of (formula_inj f g (ap rest e))
formula_inj (shown f) (shown g) e = ap shown (formula_inj f g (ap rest e))
formula_inj (negative f) (negative g) e = ap negative (formula_inj f g (ap rest e))
formula_inj (opposite f) (opposite g) e = ap opposite (formula_inj f g (ap rest e))
formula_inj (binary o f g) (binary p h k) e =
    λ i. binary (op.the_row.coded.inj o p (ap (λ v. front (rest v)) e) i)
    (formula_inj f h (ap (λ v. front (rest (rest v))) e) i) (formula_inj g k (ap (λ v. rest (rest (rest v))) e) i)
formula_inj x y e = absurd (omega (arith, ap tag e))

-- the code of an item of `give`
abbrev gift_code : GiveTree → Gv
gift_code (row n) = gcons (gnum 0) (gnum n)
gift_code (value f) = gcons (gnum 1) (formula_code f)

-- two items of one code are the same
pub gift_inj : (x y : GiveTree) → gift_code x ≡ gift_code y → x ≡ y
gift_inj (row n) (row m) e = ap row (coded_ℕ.inj n m (ap rest e))
gift_inj (value f) (value g) e = ap value (formula_inj f g (ap rest e))
gift_inj x y e = absurd (omega (arith, ap tag e))

-- lists of items are told apart by these codes
abbrev coded_gifts : Coded (List GiveTree)
coded_gifts = coded_list (record { code = gift_code; inj = gift_inj })

-- the codes of a statement and of a block
abbrev mutual
  step_code : StmtTree → Gv
  step_code (let_new f) = gcons (gnum 0) (formula_code f)
  step_code (set_row n f) = gcons (gnum 1) (gcons (gnum n) (formula_code f))
  step_code (clear_row n) = gcons (gnum 2) (gnum n)
  step_code (choose f a b) = gcons (gnum 3) (gcons (formula_code f) (gcons (block_code a) (block_code b)))
  step_code (abort_with t) = gcons (gnum 4) (coded_bytes.code t)
  step_code (give_all gs) = gcons (gnum 5) (coded_gifts.code gs)

  block_code : BlockTree → Gv
  block_code done = gcons (gnum 0) gnil
  block_code (then s b) = gcons (gnum 1) (gcons (step_code s) (block_code b))

-- two statements of one code are the same, and so are two blocks
mutual
  pub step_inj : (x y : StmtTree) → step_code x ≡ step_code y → x ≡ y
  step_inj (let_new f) (let_new g) e = ap let_new (formula_inj f g (ap rest e))
  step_inj (set_row n f) (set_row m g) e =
      λ i. set_row (coded_ℕ.inj n m (ap (λ v. front (rest v)) e) i) (formula_inj f g (ap (λ v. rest (rest v)) e) i)
  step_inj (clear_row n) (clear_row m) e = ap clear_row (coded_ℕ.inj n m (ap rest e))
  step_inj (choose f a b) (choose g c d) e =
      λ i. choose (formula_inj f g (ap (λ v. front (rest v)) e) i)
      (block_inj a c (ap (λ v. front (rest (rest v))) e) i) (block_inj b d (ap (λ v. rest (rest (rest v))) e) i)
  step_inj (abort_with t) (abort_with u) e = ap abort_with (coded_bytes.inj t u (ap rest e))
  step_inj (give_all gs) (give_all hs) e = ap give_all (coded_gifts.inj gs hs (ap rest e))
  step_inj x y e = absurd (omega (arith, ap tag e))

  pub block_inj : (x y : BlockTree) → block_code x ≡ block_code y → x ≡ y
  block_inj done done e = refl
  block_inj (then s a) (then t b) e =
      λ i. then (step_inj s t (ap (λ v. front (rest v)) e) i) (block_inj a b (ap (λ v. rest (rest v)) e) i)
  block_inj x y e = absurd (omega (arith, ap tag e))

-- blocks are told apart by these codes
abbrev pub coded_block : Coded BlockTree
coded_block = record { code = block_code; inj = block_inj }

-- a procedure is stored as its fields
abbrev pub coded_proc : Coded ProcTree
coded_proc =
    code_by (List ℕ × (List Kind × (List KeyDecl × BlockTree)))
    (coded× coded_bytes (coded× (coded_list kind.the_row.coded) (coded× (coded_list key.the_row.coded) coded_block)))
    (λ p. (p.name, (p.params, (p.keys, p.body))))
    (λ p. record { name = p.0; params = p.1.0; keys = p.1.1.0; body = p.1.1.1 }) (λ _. refl)

-- lists of procedures are told apart by the codes of their fields
abbrev pub coded_procs : Coded (List ProcTree)
coded_procs = coded_list coded_proc
