-- Records of which some at the front are gone: those that are kept stand behind them.
use Rattle.std.proofs.Common.{◌≡◌, ◌≤◌, ◌-◌, ◌∙◌, ℕ, List, ◌++◌, length, get_or, set, sym}
use Rattle.std.proofs.lemmas.List.{get_or-append_right, set-append_right}
use Rattle.dt_graph.specs.declared.kept.Kept.{Kept}

module _ (gone kept : List Kept) (first n : ℕ) (e : first ≡ length gone) (le : first ≤ n) where
  pub read_at : (x : Kept) → x ≡ get_or kept (n - first) x → x ≡ get_or (gone ++ kept) n x
  read_at x is = is ∙ sym (get_or-append_right gone kept first n x (sym e) le)

  pub set_at : (y : Kept) → gone ++ set kept (n - first) y ≡ set (gone ++ kept) n y
  set_at y = sym (set-append_right gone kept first n y (sym e) le)
