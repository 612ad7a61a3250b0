-- A key expression compared part by part with the bytes of a key.
use Rattle.std.proofs.Common.{◌≡◌, ◌<◌, ◌+◌, ℕ, List, ◌∷◌, ◌++◌, length, get_or, drop, sym, ap, subst, ◌∙◌}
use Rattle.std.specs.Prelude.{◌↔◌}
use Rattle.dt_lists.specs.Lists.{AllIn}
use Rattle.dt_lists.proofs.Callers.{from_item, same_rest}
use Rattle.dt_text.specs.declared.Value.{Value}
use Rattle.dt_access.specs.Clash.{Bytes}
use Rattle.dt_proc.specs.declared.tree.KeyItem.{KeyItem}
use Rattle.dt_eval.specs.FrameInner.{IsItemWithin}
use Rattle.dt_eval.specs.Keys.{item_text, key_text}

-- what is known after the first parts of a key expression
pub record Giving (args : List Value) (items : List KeyItem) (bytes : Bytes) (index : ℕ) (rest : Bytes) : Type 0 where
  pub within : AllIn (IsItemWithin (length args)) (drop index items)
  pub left : (bytes ≡ key_text args items) ↔ (rest ≡ key_text args (drop index items))

module _ (args : List Value) (items : List KeyItem) (bytes rest : Bytes) (index : ℕ) (item : KeyItem)
    (inside : index < length items) (is : item ≡ get_or items index item) (known : Giving args items bytes index rest) where
  cut : drop index items ≡ item ∷ drop (index + 1) items
  cut = from_item items index item _ inside is

  cut_text : key_text args (drop index items) ≡ item_text args item ++ key_text args (drop (index + 1) items)
  cut_text = ap (key_text args) cut

  pub giving_more : (after : Bytes) → rest ≡ item_text args item ++ after → Giving args items bytes (index + 1) after
  giving_more after e = record {
    within = (subst (AllIn (IsItemWithin (length args))) cut known.within).1;
    left = (
      λ h. same_rest (item_text args item) after (key_text args (drop (index + 1) items)) (sym e ∙ known.left.0 h ∙ cut_text),
      λ h. known.left.1 (e ∙ ap (λ bs. item_text args item ++ bs) h ∙ sym cut_text),
    );
  }
