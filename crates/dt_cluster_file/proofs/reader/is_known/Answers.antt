use Rattle.std.proofs.Common.{◌≡◌, ◌∙◌, ℕ, Bool, List, sym, nat_eq}
use Rattle.std.specs.Cmp.Lexicographic.{pointwise, bytes_decides, nat_list_eq_equiv}
use Rattle.dt_lists.proofs.Callers.{has_listed, listed_has}
use Rattle.dt_cluster_file.specs.File.{known_names}
use Rattle.dt_cluster_file.proofs.reader.is_known.Goals as goal

abbrev same : List ℕ → List ℕ → Bool
same a b = pointwise nat_eq a b

turned : (a b : List ℕ) → same a b ≡ same b a
turned a b = nat_list_eq_equiv.symm a b

pub returns : goal.returns
returns c = (
  λ t. listed_has same (λ a b. (bytes_decides a b).0) (λ a b. (bytes_decides a b).1) turned known_names c.args.name.now (sym c.contains.ensures.value ∙ t),
  λ h. c.contains.ensures.value ∙ has_listed same (λ a b. (bytes_decides a b).0) (λ a b. (bytes_decides a b).1) turned known_names c.args.name.now h,
)
