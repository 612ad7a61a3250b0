-- What a run does with its rows: a property of the rows that each `set` and `clear` of a block keeps, the block keeps.
use Rattle.std.proofs.Common.{◌≡◌, ℕ, Bool, true, false, cond, List, [], ◌∷◌, ◌++◌, map, Some, Ok, Err, refl, sym, ap, ap₂, subst, ◌∙◌}
use Rattle.std.specs.Prelude.{Option, None, Result, slice_get}
use Rattle.std.specs.Cmp.Lexicographic.{bytes_decides, texts_ties}
use Rattle.std.specs.Ordering.{is_eq}
use Rattle.std.proofs.lemmas.Bool.{true≢false}
use Rattle.std.specs.List.{filter}
use Rattle.dt_lists.specs.Lists.{AllIn, EachThen}
use Rattle.dt_lists.proofs.Callers.{filter_each, of_filter}
use Rattle.dt_lists.proofs.Callers.{all_map, all_get, all_image, each_map, each_image, each_of_image}
use Rattle.dt_access.specs.Clash.{Bytes, same_key}
use Rattle.dt_access.specs.Orders.{KeyBefore, HasAscendingKeys, HasDistinctKeys}
use Rattle.dt_text.specs.declared.Value.{Value}
use Rattle.dt_proc.specs.declared.tree.Sort.{Sort}
use Rattle.dt_proc.specs.Tree.{GiveTree, let_new, set_row, clear_row, choose, abort_with, give_all, BlockTree, done, then}
use Rattle.dt_proc.specs.Sound.{AreSound}
use Rattle.dt_eval.specs.declared.finish.Cause.{Cause}
use Rattle.dt_eval.specs.declared.state.Datum.{Datum}
use Rattle.dt_eval.specs.declared.state.Datum.TheVariants.{Int, Text, Bool as Truth}
use Rattle.dt_eval.specs.declared.state.Row.{Row}
use Rattle.dt_proc.specs.AfterOk.{after_ok}
use Rattle.dt_eval.specs.Data.{RunState, stored, declared_key, changed, with_value, with_variable, with_row_value, with_given, leaving}
use Rattle.dt_eval.specs.Statements.{value_now, gift_value, after_gift, after_gifts, chosen, after_step, after_block}
use Rattle.dt_eval.specs.Meaning.{unchanged, writes_of}

-- the block sets and clears only keys of declarations that have A
abbrev pub SetsOnly : (ℕ → Type 0) → BlockTree → Type 0
SetsOnly A done = Unit {0}
SetsOnly A (then (let_new f) rest) = SetsOnly A rest
SetsOnly A (then (set_row k f) rest) = A k × SetsOnly A rest
SetsOnly A (then (clear_row k) rest) = A k × SetsOnly A rest
SetsOnly A (then (choose f a b) rest) = SetsOnly A a × SetsOnly A b × SetsOnly A rest
SetsOnly A (then (abort_with t) rest) = SetsOnly A rest
SetsOnly A (then (give_all gs) rest) = SetsOnly A rest

pub sets_any : (A : ℕ → Type 0) → ((k : ℕ) → A k) → (b : BlockTree) → SetsOnly A b
sets_any A all done = tt
sets_any A all (then (let_new f) rest) = sets_any A all rest
sets_any A all (then (set_row k f) rest) = (all k, sets_any A all rest)
sets_any A all (then (clear_row k) rest) = (all k, sets_any A all rest)
sets_any A all (then (choose f a b) rest) = (sets_any A all a, sets_any A all b, sets_any A all rest)
sets_any A all (then (abort_with t) rest) = sets_any A all rest
sets_any A all (then (give_all gs) rest) = sets_any A all rest

pub sets_sound : (variables : List Sort) (writes : List Bool) (b : BlockTree) → AreSound variables writes b → SetsOnly (λ k. slice_get writes k ≡ Some true) b
sets_sound variables writes done s = tt
sets_sound variables writes (then (let_new f) rest) s = sets_sound (variables ++ s.0 ∷ []) writes rest s.2
sets_sound variables writes (then (set_row k f) rest) s = (s.0, sets_sound variables writes rest s.2)
sets_sound variables writes (then (clear_row k) rest) s = (s.0, sets_sound variables writes rest s.1)
sets_sound variables writes (then (choose f a b) rest) s = (sets_sound variables writes a s.1, sets_sound variables writes b s.2, sets_sound variables writes rest s.3)
sets_sound variables writes (then (abort_with t) rest) s = sets_sound variables writes rest s.1
sets_sound variables writes (then (give_all gs) rest) s = sets_sound variables writes rest s.1

-- where a run went on, its rows have P
abbrev pub Keeps : (List Row → Type 0) → Result RunState Cause → Type 0
Keeps P (Ok s) = P s.rows
Keeps P (Err c) = Unit {0}

module _ (names : List Bytes) (P : List Row → Type 0) (A : ℕ → Type 0) (keeps : (k : ℕ) (v : Option Value) (rows : List Row) → A k → P rows → P (with_value (declared_key names k) v rows)) where
  on_value : (r : Result Datum Cause) (f : Datum → Result RunState Cause) → ((d : Datum) → Keeps P (f d)) → Keeps P (after_ok r f)
  on_value (Ok d) f k = k d
  on_value (Err c) f k = tt

  on_state : (r : Result RunState Cause) (f : RunState → Result RunState Cause) → Keeps P r → ((s : RunState) → P s.rows → Keeps P (f s)) → Keeps P (after_ok r f)
  on_state (Ok s) f p k = k s p
  on_state (Err c) f p k = tt

  on_leaving : (variables : List Datum) (r : Result RunState Cause) → Keeps P r → Keeps P (leaving variables r)
  on_leaving variables (Ok s) p = p
  on_leaving variables (Err c) p = tt

  on_chosen : (d : Datum) (a b : Result RunState Cause) → Keeps P a → Keeps P b → Keeps P (chosen d a b)
  on_chosen (Truth true) a b p q = p
  on_chosen (Truth false) a b p q = q
  on_chosen (Int z) a b p q = tt
  on_chosen (Text t) a b p q = tt

  gift_keeps : (g : GiveTree) (s : RunState) → P s.rows → Keeps P (after_gift names g s)
  gift_keeps g s p = go (gift_value names g s)
    where
      go : (r : Result (Option Value) Cause) → Keeps P (after_ok r (λ v. Ok (with_given v s)))
      go (Ok v) = p
      go (Err c) = tt

  gifts_keep : (gs : List GiveTree) (s : RunState) → P s.rows → Keeps P (after_gifts names gs s)
  gifts_keep [] s p = p
  gifts_keep (g ∷ gs) s p = on_state (after_gift names g s) (after_gifts names gs) (gift_keeps g s p) (gifts_keep gs)

  pub block_keeps : (b : BlockTree) → SetsOnly A b → (s : RunState) → P s.rows → Keeps P (after_block names b s)
  block_keeps done only s p = p
  block_keeps (then (let_new f) rest) only s p =
      on_state (after_step names (let_new f) s) (after_block names rest) (on_value (value_now names s f) (λ d. Ok (with_variable d s)) (λ d. p)) (block_keeps rest only)
  block_keeps (then (set_row k f) rest) only s p =
      on_state (after_step names (set_row k f) s) (after_block names rest) (on_value (value_now names s f) (λ d. Ok (with_row_value names k (stored d) s)) (λ d. keeps k (stored d) s.rows only.0 p)) (block_keeps rest only.1)
  block_keeps (then (clear_row k) rest) only s p = block_keeps rest only.1 (with_row_value names k None s) (keeps k None s.rows only.0 p)
  block_keeps (then (choose f a b) rest) only s p =
      on_state (after_step names (choose f a b) s) (after_block names rest)
      (on_value (value_now names s f) (λ d. leaving s.variables (chosen d (after_block names a s) (after_block names b s)))
      (λ d. on_leaving s.variables (chosen d (after_block names a s) (after_block names b s)) (on_chosen d (after_block names a s) (after_block names b s) (block_keeps a only.0 s p) (block_keeps b only.1 s p))))
      (block_keeps rest only.2)
  block_keeps (then (abort_with t) rest) only s p = tt
  block_keeps (then (give_all gs) rest) only s p = on_state (after_gifts names gs s) (after_block names rest) (gifts_keep gs s p) (block_keeps rest only)

-- the keys of the rows stay
pub with_value_keys : (key : Bytes) (v : Option Value) (rows : List Row) → map (λ (r : Row). r.key) (with_value key v rows) ≡ map (λ (r : Row). r.key) rows
with_value_keys key v [] = refl
with_value_keys key v (r ∷ rows) = ap₂ ◌∷◌ (go (same_key key r.key)) (with_value_keys key v rows)
  where
    go : (b : Bool) → (cond b (changed v r) r).key ≡ r.key
    go true = refl
    go false = refl

-- a row that was set or cleared has a key with W
abbrev pub IsWrittenIn : (Bytes → Type 0) → Row → Type 0
IsWrittenIn W r = r.changed ≡ true → W r.key

pub with_value_written : (W : Bytes → Type 0) (key : Bytes) (v : Option Value) (rows : List Row) → W key → AllIn (IsWrittenIn W) rows → AllIn (IsWrittenIn W) (with_value key v rows)
with_value_written W key v [] w all = tt
with_value_written W key v (r ∷ rows) w all = (go (same_key key r.key) refl, with_value_written W key v rows w all.1)
  where
    go : (b : Bool) → same_key key r.key ≡ b → IsWrittenIn W (cond b (changed v r) r)
    go true e = λ c. subst W ((bytes_decides key r.key).0 e) w
    go false e = all.0

-- before the first statement no row was written
pub opening_written : (W : Bytes → Type 0) (reads : List (Bytes × Option Value)) → AllIn (IsWrittenIn W) (map unchanged reads)
opening_written W [] = tt
opening_written W (read ∷ reads) = ((λ c. absurd (true≢false (sym c))), opening_written W reads)

pub opening_keys : (reads : List (Bytes × Option Value)) → map (λ (r : Row). r.key) (map unchanged reads) ≡ map (λ r. r.0) reads
opening_keys [] = refl
opening_keys (read ∷ reads) = ap₂ ◌∷◌ refl (opening_keys reads)

-- what is written has W
pub writes_written : (W : Bytes → Type 0) (rows : List Row) → AllIn (IsWrittenIn W) rows → AllIn (λ w. W w.0) (writes_of rows)
writes_written W rows all =
    all_image (λ w. W w.0) (λ (r : Row). (r.key, r.value)) (filter (λ (r : Row). r.changed) rows)
    (all_map _ (λ (r : Row). W r.key) (filter (λ (r : Row). r.changed) rows) (λ r h. all_get (IsWrittenIn W) rows all r h.0 h.1) (of_filter (λ (r : Row). r.changed) rows))

-- what is written stands in the order of the rows
pub writes_ascend : (rows : List Row) → EachThen KeyBefore (map (λ (r : Row). r.key) rows) → HasAscendingKeys (writes_of rows)
writes_ascend rows each =
    each_image (λ a b. KeyBefore a.0 b.0) (λ (r : Row). (r.key, r.value)) (filter (λ (r : Row). r.changed) rows)
    (filter_each (λ (a b : Row). KeyBefore a.key b.key) (λ (r : Row). r.changed) rows (each_of_image KeyBefore (λ (r : Row). r.key) rows each))

never_before_itself : (a b : Bytes) → KeyBefore a b → ¬ (a ≡ b)
never_before_itself a b h e = true≢false (sym ((bytes_decides a b).1 e) ∙ (texts_ties a b ∙ ap is_eq h))

-- what is written has distinct keys
pub writes_distinct : (rows : List Row) → EachThen KeyBefore (map (λ (r : Row). r.key) rows) → HasDistinctKeys (writes_of rows)
writes_distinct rows each =
    each_image (λ a b. ¬ (a ≡ b)) (λ w. w.0) (writes_of rows) (each_map (λ a b. KeyBefore a.0 b.0) (λ a b. ¬ (a.0 ≡ b.0)) (writes_of rows) (λ a b h. never_before_itself a.0 b.0 h) (writes_ascend rows each))
