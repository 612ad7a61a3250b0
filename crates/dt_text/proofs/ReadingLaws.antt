-- The words that are found in a line byte by byte are those that it is made of.
use Rattle.std.proofs.Common.{◌≡◌, ◌≢◌, ℕ, suc, ◌+◌, ◌≤◌, Bool, true, false, cond, ◌==◌, ◌||◌, ◌&&◌, nat_lt, List, [], ◌∷◌, ◌++◌, eqb-true}
use Rattle.std.proofs.Common.{length, Option, Some, None, refl, sym, ◌∙◌, ap, subst, arith, append_assoc, append-nil, length-append}
use Rattle.std.specs.List.{list_all}
use Rattle.std.proofs.lemmas.List.Folds.{list_all-append}
use Rattle.std.proofs.lemmas.Bool.{and_parts}
use Rattle.std.proofs.lemmas.Bool.Decides.{nat_tests}
use Rattle.dt_text.specs.Texts.{is_text_byte, IsStr}
use Rattle.dt_text.specs.Printed.{text_item, text_items, text_word}
use Rattle.dt_text.specs.Words.{is_visible, IsBareWord, Spells, AreSpaces, MayFollowWord, AreWordsFrom}
use Rattle.dt_text.specs.Reading.{with_word, words_from, bare_from, text_from, escape_from, after_text, words_of, WordsAreExact, PrintedTextsReadBack}
use Rattle.dt_text.specs.declared.word.Word.{Word}
use Rattle.dt_text.specs.declared.word.Word.TheVariants.{Bare, Text}
use Rattle.dt_text.proofs.ReadingSteps as step

-- of two lists, each byte passes exactly where it does in both
parts : (p : ℕ → Bool) (xs ys : List ℕ) → list_all p (xs ++ ys) ≡ true → (list_all p xs ≡ true) × (list_all p ys ≡ true)
parts p xs ys e = and_parts _ _ (sym (list_all-append p xs ys) ∙ e)

joins : (p : ℕ → Bool) (xs ys : List ℕ) → list_all p xs ≡ true → list_all p ys ≡ true → list_all p (xs ++ ys) ≡ true
joins p xs ys e f = list_all-append p xs ys ∙ rw (e, f) refl

-- what is made of words is found: spaces
gap_found : (gap : List ℕ) (at : ℕ) (bs : List ℕ) → AreSpaces gap → words_from at (gap ++ bs) ≡ words_from (at + length gap) bs
gap_found [] at bs spaces = let e : at + 0 ≡ at = omega arith in rw e refl
gap_found (b ∷ gap) at bs spaces =
    let first = and_parts (b == 32) (list_all (λ b. b == 32) gap) spaces in
    let e : at + 1 + length gap ≡ at + suc (length gap) = omega arith in
    step.gap_space at b (gap ++ bs) (eqb-true b 32 first.0) ∙ (gap_found gap (at + 1) bs first.1 ∙ ap (λ n. words_from n bs) e)

-- a bare word
bare_over : (from at : ℕ) (rest : List ℕ) → MayFollowWord rest → bare_from from at rest ≡ with_word (Bare from at) (words_from at rest)
bare_over from at [] may = step.bare_end from at
bare_over from at (b ∷ bs) may = let over : is_visible b ≡ false = rw may refl in step.bare_over from at b bs over

bare_found : (more : List ℕ) (from at : ℕ) (rest : List ℕ) → list_all is_visible more ≡ true → MayFollowWord rest
    → bare_from from at (more ++ rest) ≡ with_word (Bare from (at + length more)) (words_from (at + length more) rest)
bare_found [] from at rest visible may = let e : at + 0 ≡ at = omega arith in rw e (bare_over from at rest may)
bare_found (b ∷ more) from at rest visible may =
    let first = and_parts (is_visible b) (list_all is_visible more) visible in
    let e : at + 1 + length more ≡ at + suc (length more) = omega arith in
    step.bare_more from at b (more ++ rest) first.0 ∙ (bare_found more from (at + 1) rest first.1 may ∙ ap (λ n. with_word (Bare from n) (words_from n rest)) e)

-- a text word
after_found : (text : List ℕ) (at : ℕ) (rest : List ℕ) → MayFollowWord rest → after_text text at rest ≡ with_word (Text text) (words_from at rest)
after_found text at [] may = step.after_end text at
after_found text at (b ∷ bs) may = step.after_space text at b bs may

item_found : (text : List ℕ) (at b : ℕ) (bs : List ℕ) → is_text_byte b ≡ true → nat_lt (length text) 256 ≡ true → text_from text at (text_item b ++ bs) ≡ text_from (text ++ b ∷ []) (at + length (text_item b)) bs
item_found text at b bs allowed room = by_escape (b == 34 || b == 92) refl
  where
    by_escape : (escaped : Bool) → (b == 34 || b == 92) ≡ escaped → text_from text at (cond escaped (92 ∷ b ∷ []) (b ∷ []) ++ bs) ≡ text_from (text ++ b ∷ []) (at + length (cond escaped (92 ∷ b ∷ []) (b ∷ []))) bs
    by_escape true e =
        let two : at + 1 + 1 ≡ at + 2 = omega arith in
        step.text_escape text at 92 (b ∷ bs) refl ∙ (step.escape_more text (at + 1) b bs ∙ (rw (e, room) refl ∙ ap (λ n. text_from (text ++ b ∷ []) n bs) two))
    by_escape false e =
        let plain : b ≢ 34 = grind (arith, nat_tests) in
        let unescaped : b ≢ 92 = grind (arith, nat_tests) in
        step.text_plain text at b bs plain unescaped ∙ rw (allowed, room) refl

text_found : (more text : List ℕ) (at : ℕ) (rest : List ℕ) → IsStr (text ++ more) → text_from text at (text_items more ++ 34 ∷ rest) ≡ after_text (text ++ more) (at + length (text_items more) + 1) rest
text_found [] text at rest is_text =
    let e : at + 0 + 1 ≡ at + 1 = omega arith in
    rw (e, append-nil text) (step.text_quote text at 34 rest refl)
text_found (b ∷ more) text at rest is_text =
    let long : length (text ++ b ∷ more) ≡ length text + suc (length more) = length-append text (b ∷ more) in
    let room : nat_lt (length text) 256 ≡ true = grind (arith, nat_tests, is_text.0) in
    let bytes = parts is_text_byte text (b ∷ more) is_text.1 in
    let first = and_parts (is_text_byte b) (list_all is_text_byte more) bytes.1 in
    let regroup : (text ++ b ∷ []) ++ more ≡ text ++ (b ∷ more) = append_assoc text (b ∷ []) more in
    let items : text_items (b ∷ more) ++ 34 ∷ rest ≡ text_item b ++ (text_items more ++ 34 ∷ rest) = append_assoc (text_item b) (text_items more) (34 ∷ rest) in
    let place : at + length (text_item b) + length (text_items more) + 1 ≡ at + length (text_items (b ∷ more)) + 1 = omega (arith, length-append (text_item b) (text_items more)) in
    ap (λ bs. text_from text at bs) items
    ∙ (item_found text at b (text_items more ++ 34 ∷ rest) first.0 room
    ∙ (text_found more (text ++ b ∷ []) (at + length (text_item b)) rest (rw regroup is_text)
    ∙ (ap (λ t. after_text t (at + length (text_item b) + length (text_items more) + 1) rest) regroup
    ∙ ap (λ n. after_text (text ++ (b ∷ more)) n rest) place)))

bare_word_found : (spelling rest : List ℕ) (at : ℕ) → IsBareWord spelling → MayFollowWord rest → words_from at (spelling ++ rest) ≡ with_word (Bare at (at + length spelling)) (words_from (at + length spelling) rest)
bare_word_found [] rest at bare may = absurd (omega (arith, bare.0))
bare_word_found (b ∷ more) rest at bare may =
    let first = and_parts (is_visible b) (list_all is_visible more) bare.2 in
    let e : at + 1 + length more ≡ at + suc (length more) = omega arith in
    step.gap_bare at b (more ++ rest) bare.1 first.0
    ∙ (bare_found more at (at + 1) rest first.1 may ∙ ap (λ n. with_word (Bare at n) (words_from n rest)) e)

text_word_found : (text rest : List ℕ) (at : ℕ) → IsStr text → MayFollowWord rest → words_from at (text_word text ++ rest) ≡ with_word (Text text) (words_from (at + length (text_word text)) rest)
text_word_found text rest at is_text may =
    let items : (text_items text ++ 34 ∷ []) ++ rest ≡ text_items text ++ 34 ∷ rest = append_assoc (text_items text) (34 ∷ []) rest in
    let e : at + 1 + length (text_items text) + 1 ≡ at + suc (length (text_items text ++ 34 ∷ [])) = omega (arith, length-append (text_items text) (34 ∷ [])) in
    step.gap_quote at 34 ((text_items text ++ 34 ∷ []) ++ rest) refl
    ∙ (ap (λ bs. text_from [] (at + 1) bs) items
    ∙ (text_found text [] (at + 1) rest is_text
    ∙ (ap (λ n. after_text text n rest) e
    ∙ after_found text (at + suc (length (text_items text ++ 34 ∷ []))) rest may)))

word_found : (word : Word) (spelling rest : List ℕ) (at : ℕ) → Spells spelling at word → MayFollowWord rest → words_from at (spelling ++ rest) ≡ with_word word (words_from (at + length spelling) rest)
word_found (Bare from to) spelling rest at (bare, begins, ends) may = rw (begins, ends) (bare_word_found spelling rest at bare may)
word_found (Text text) spelling rest at (is_text, is) may = rw is (text_word_found text rest at is_text may)

-- a line that is made of words has them
pub complete : (words : List Word) (at : ℕ) (bs : List ℕ) → AreWordsFrom at bs words → words_from at bs ≡ Some words
complete [] at bs spaces =
    ap (λ cs. words_from at cs) (sym (append-nil bs)) ∙ (gap_found bs at [] spaces ∙ step.gap_end (at + length bs))
complete (word ∷ words) at bs (gap, spelling, rest, is, spaces, spells, may, others) =
    ap (λ cs. words_from at cs) is
    ∙ (gap_found gap at (spelling ++ rest) spaces
    ∙ (word_found word spelling rest (at + length gap) spells may
    ∙ ap (with_word word) (complete words (at + length gap + length spelling) rest others)))

-- what is found from within a bare word, from within a text word, after a `\` in one, and after one
abbrev BareMeans : ℕ → ℕ → List ℕ → List Word → Type 0
BareMeans from at bs [] = ⊥
BareMeans from at bs (word ∷ words) =
    (more rest : List ℕ) × (bs ≡ more ++ rest) × (list_all is_visible more ≡ true) × (word ≡ Bare from (at + length more))
    × MayFollowWord rest × AreWordsFrom (at + length more) rest words

abbrev TextMeans : List ℕ → ℕ → List ℕ → List Word → Type 0
TextMeans text at bs [] = ⊥
TextMeans text at bs (word ∷ words) =
    (more rest : List ℕ) × (bs ≡ text_items more ++ 34 ∷ rest) × IsStr (text ++ more) × (word ≡ Text (text ++ more))
    × MayFollowWord rest × AreWordsFrom (at + length (text_items more) + 1) rest words

abbrev EscapeMeans : List ℕ → ℕ → List ℕ → List Word → Type 0
EscapeMeans text at bs [] = ⊥
EscapeMeans text at bs (word ∷ words) =
    (b : ℕ) × (more rest : List ℕ) × (bs ≡ b ∷ (text_items more ++ 34 ∷ rest)) × ((b == 34 || b == 92) ≡ true) × IsStr (text ++ b ∷ more) × (word ≡ Text (text ++ b ∷ more))
    × MayFollowWord rest × AreWordsFrom (at + 1 + length (text_items more) + 1) rest words

abbrev AfterMeans : List ℕ → ℕ → List ℕ → List Word → Type 0
AfterMeans text at bs [] = ⊥
AfterMeans text at bs (word ∷ words) = (word ≡ Text text) × MayFollowWord bs × AreWordsFrom at bs words

-- what is found in bytes is what they are made of
record Sound (bs : List ℕ) : Type 0 where
  gap : (at : ℕ) (words : List Word) → words_from at bs ≡ Some words → AreWordsFrom at bs words
  bare : (from at : ℕ) (words : List Word) → bare_from from at bs ≡ Some words → BareMeans from at bs words
  text : (text : List ℕ) (at : ℕ) (words : List Word) → IsStr text → text_from text at bs ≡ Some words → TextMeans text at bs words
  escape : (text : List ℕ) (at : ℕ) (words : List Word) → IsStr text → escape_from text at bs ≡ Some words → EscapeMeans text at bs words
  after : (text : List ℕ) (at : ℕ) (words : List Word) → after_text text at bs ≡ Some words → AfterMeans text at bs words

with_word_gives : (word : Word) (rest : Option (List Word)) (words : List Word) → with_word word rest ≡ Some words → (others : List Word) × (words ≡ word ∷ others) × (rest ≡ Some others)
with_word_gives word None words e = cc
with_word_gives word (Some others) words e = let is : words ≡ word ∷ others = cc in (others, is, refl)

if_passes : (b : Bool) (words : Option (List Word)) (ws : List Word) → cond b words None ≡ Some ws → (b ≡ true) × (words ≡ Some ws)
if_passes true words ws e = (refl, e)
if_passes false words ws e = cc

str_more : (text : List ℕ) (b : ℕ) → IsStr text → is_text_byte b ≡ true → nat_lt (length text) 256 ≡ true → IsStr (text ++ b ∷ [])
str_more text b is_text allowed room =
    let long : length (text ++ b ∷ []) ≡ length text + 1 = length-append text (b ∷ []) in
    let fits : length (text ++ b ∷ []) ≤ 256 = grind (arith, nat_tests, long) in
    let last : list_all is_text_byte (b ∷ []) ≡ true = rw allowed refl in
    (fits, joins is_text_byte text (b ∷ []) is_text.1 last)

str_regrouped : (text more : List ℕ) (b : ℕ) → IsStr ((text ++ b ∷ []) ++ more) → IsStr (text ++ b ∷ more)
str_regrouped text more b is_text = subst IsStr (append_assoc text (b ∷ []) more) is_text

-- one space more in front
gap_more : (at b : ℕ) (bs : List ℕ) (words : List Word) → b ≡ 32 → AreWordsFrom (at + 1) bs words → AreWordsFrom at (b ∷ bs) words
gap_more at b bs [] space spaces = rw space spaces
gap_more at b bs (word ∷ words) space (gap, spelling, rest, is, spaces, spells, may, others) =
    let e : at + 1 + length gap ≡ at + suc (length gap) = omega arith in
    let all_spaces : AreSpaces (b ∷ gap) = rw space spaces in
    (b ∷ gap, spelling, rest, ap (λ cs. b ∷ cs) is, all_spaces, subst (λ n. Spells spelling n word) e spells, may, subst (λ n. AreWordsFrom (n + length spelling) rest words) e others)

-- a bare word in front
gap_bare : (at b : ℕ) (bs : List ℕ) (words : List Word) → b ≢ 34 → is_visible b ≡ true → BareMeans at (at + 1) bs words → AreWordsFrom at (b ∷ bs) words
gap_bare at b bs [] plain visible means = absurd means
gap_bare at b bs (word ∷ words) plain visible (more, rest, is, all, word_is, may, others) =
    let zero_gap : at + 0 ≡ at = omega arith in
    let e : at + 1 + length more ≡ at + suc (length more) = omega arith in
    let bare : IsBareWord (b ∷ more) = (omega arith, plain, rw (visible, all) refl) in
    let spells : Spells (b ∷ more) at (Bare at (at + suc (length more))) = (bare, refl, refl) in
    let spells_word : Spells (b ∷ more) at word = subst (λ w. Spells (b ∷ more) at w) (sym (word_is ∙ ap (λ n. Bare at n) e)) spells in
    ([], b ∷ more, rest, ap (λ cs. b ∷ cs) is, refl, rw zero_gap spells_word, may, rw zero_gap (subst (λ n. AreWordsFrom n rest words) e others))

-- a text word in front
gap_text : (at b : ℕ) (bs : List ℕ) (words : List Word) → b ≡ 34 → TextMeans [] (at + 1) bs words → AreWordsFrom at (b ∷ bs) words
gap_text at b bs [] quote means = absurd means
gap_text at b bs (word ∷ words) quote (more, rest, is, is_text, word_is, may, others) =
    let zero_gap : at + 0 ≡ at = omega arith in
    let e : at + 1 + length (text_items more) + 1 ≡ at + length (text_word more) = omega (arith, length-append (text_items more) (34 ∷ [])) in
    let spelt : b ∷ bs ≡ text_word more ++ rest = rw (quote, is) (sym (ap (λ cs. 34 ∷ cs) (append_assoc (text_items more) (34 ∷ []) rest))) in
    let spells : Spells (text_word more) at word = subst (λ w. Spells (text_word more) at w) (sym word_is) (is_text, refl) in
    ([], text_word more, rest, spelt, refl, rw zero_gap spells, may, rw zero_gap (subst (λ n. AreWordsFrom n rest words) e others))

sound_gap : (b : ℕ) (bs : List ℕ) → Sound bs → (at : ℕ) (words : List Word) → words_from at (b ∷ bs) ≡ Some words → AreWordsFrom at (b ∷ bs) words
sound_gap b bs rest at words found = by_tests (b == 32) (b == 34) (is_visible b) refl refl refl
  where
    by_tests : (space quote visible : Bool) → (b == 32) ≡ space → (b == 34) ≡ quote → is_visible b ≡ visible → AreWordsFrom at (b ∷ bs) words
    by_tests true quote visible e f g =
        let is : b ≡ 32 = eqb-true b 32 e in
        gap_more at b bs words is (rest.gap (at + 1) words (sym (step.gap_space at b bs is) ∙ found))
    by_tests false true visible e f g =
        let is : b ≡ 34 = eqb-true b 34 f in
        gap_text at b bs words is (rest.text [] (at + 1) words (omega arith, refl) (sym (step.gap_quote at b bs is) ∙ found))
    by_tests false false true e f g =
        let plain : b ≢ 34 = grind (arith, nat_tests) in
        gap_bare at b bs words plain g (rest.bare at (at + 1) words (sym (step.gap_bare at b bs plain g) ∙ found))
    by_tests false false false e f g =
        let no_space : b ≢ 32 = grind (arith, nat_tests) in
        let none = step.gap_bad at b bs no_space g in
        cc

-- a bare word ends here
bare_ends : (from at : ℕ) (bs : List ℕ) (words : List Word) → MayFollowWord bs → ((words : List Word) → words_from at bs ≡ Some words → AreWordsFrom at bs words)
    → with_word (Bare from at) (words_from at bs) ≡ Some words → BareMeans from at bs words
bare_ends from at bs words may gap found =
    let given = with_word_gives (Bare from at) (words_from at bs) words found in
    let zero_more : at ≡ at + 0 = omega arith in
    subst (BareMeans from at bs) (sym given.1)
    ([], bs, refl, refl, ap (λ n. Bare from n) zero_more, may, subst (λ n. AreWordsFrom n bs given.0) zero_more (gap given.0 given.2))

bare_goes_on : (from at b : ℕ) (bs : List ℕ) (words : List Word) → is_visible b ≡ true → BareMeans from (at + 1) bs words → BareMeans from at (b ∷ bs) words
bare_goes_on from at b bs [] visible means = means
bare_goes_on from at b bs (word ∷ words) visible (more, rest, is, all, word_is, may, others) =
    let e : at + 1 + length more ≡ at + suc (length more) = omega arith in
    (b ∷ more, rest, ap (λ cs. b ∷ cs) is, rw (visible, all) refl, word_is ∙ ap (λ n. Bare from n) e, may, subst (λ n. AreWordsFrom n rest words) e others)

sound_bare : (b : ℕ) (bs : List ℕ) → Sound bs → (from at : ℕ) (words : List Word) → bare_from from at (b ∷ bs) ≡ Some words → BareMeans from at (b ∷ bs) words
sound_bare b bs rest from at words found = by_tests (b == 32) (is_visible b) refl refl
  where
    by_tests : (space visible : Bool) → (b == 32) ≡ space → is_visible b ≡ visible → BareMeans from at (b ∷ bs) words
    by_tests space true e g = bare_goes_on from at b bs words g (rest.bare from (at + 1) words (sym (step.bare_more from at b bs g) ∙ found))
    by_tests true false e g = bare_ends from at (b ∷ bs) words (eqb-true b 32 e) (sound_gap b bs rest at) (sym (step.bare_over from at b bs g) ∙ found)
    by_tests false false e g =
        let no_space : b ≢ 32 = grind (arith, nat_tests) in
        let none : with_word (Bare from at) (words_from at (b ∷ bs)) ≡ None = rw (step.gap_bad at b bs no_space g) refl in
        let over = step.bare_over from at b bs g in
        cc

-- a text word has ended
text_over : (text : List ℕ) (at : ℕ) (bs : List ℕ) (words : List Word) → MayFollowWord bs
    → ((words : List Word) → words_from at bs ≡ Some words → AreWordsFrom at bs words) → with_word (Text text) (words_from at bs) ≡ Some words
    → AfterMeans text at bs words
text_over text at bs words may gap found =
    let given = with_word_gives (Text text) (words_from at bs) words found in
    subst (AfterMeans text at bs) (sym given.1) (refl, may, gap given.0 given.2)

sound_after : (b : ℕ) (bs : List ℕ) → Sound bs → (text : List ℕ) (at : ℕ) (words : List Word) → after_text text at (b ∷ bs) ≡ Some words → AfterMeans text at (b ∷ bs) words
sound_after b bs rest text at words found = by_space (b == 32) refl
  where
    by_space : (space : Bool) → (b == 32) ≡ space → AfterMeans text at (b ∷ bs) words
    by_space true e =
        let is : b ≡ 32 = eqb-true b 32 e in
        text_over text at (b ∷ bs) words is (sound_gap b bs rest at) (sym (step.after_space text at b bs is) ∙ found)
    by_space false e =
        let no_space : b ≢ 32 = grind (arith, nat_tests) in
        let none = step.after_other text at b bs no_space in
        cc

-- the last `"` of a text word
text_ends : (text : List ℕ) (at b : ℕ) (bs : List ℕ) (words : List Word) → b ≡ 34 → IsStr text → AfterMeans text (at + 1) bs words → TextMeans text at (b ∷ bs) words
text_ends text at b bs [] quote is_text means = means
text_ends text at b bs (word ∷ words) quote is_text (word_is, may, others) =
    let same : text ≡ text ++ [] = sym (append-nil text) in
    let e : at + 1 ≡ at + 0 + 1 = omega arith in
    ([], bs, rw quote refl, subst IsStr same is_text, word_is ∙ ap (λ t. Text t) same, may, subst (λ n. AreWordsFrom n bs words) e others)

-- an item of a text word: a byte alone, and one after a `\`
plain_item : (b : ℕ) → b ≢ 34 → b ≢ 92 → text_item b ≡ b ∷ []
plain_item b plain unescaped =
    let e : (b == 34 || b == 92) ≡ false = grind (arith, nat_tests) in
    rw e refl

text_goes_on : (text : List ℕ) (at b : ℕ) (bs : List ℕ) (words : List Word) → b ≢ 34 → b ≢ 92 → TextMeans (text ++ b ∷ []) (at + 1) bs words → TextMeans text at (b ∷ bs) words
text_goes_on text at b bs [] plain unescaped means = means
text_goes_on text at b bs (word ∷ words) plain unescaped (more, rest, is, is_text, word_is, may, others) =
    let alone : text_item b ≡ b ∷ [] = plain_item b plain unescaped in
    let items : text_items (b ∷ more) ≡ b ∷ text_items more = ap (λ item. item ++ text_items more) alone in
    let spelt : b ∷ bs ≡ text_items (b ∷ more) ++ 34 ∷ rest = ap (λ cs. b ∷ cs) is ∙ sym (ap (λ cs. cs ++ 34 ∷ rest) items) in
    let e : at + 1 + length (text_items more) + 1 ≡ at + length (text_items (b ∷ more)) + 1 = omega (arith, ap length items) in
    (b ∷ more, rest, spelt, str_regrouped text more b is_text, word_is ∙ ap (λ t. Text t) (append_assoc text (b ∷ []) more), may, subst (λ n. AreWordsFrom n rest words) e others)

text_escapes : (text : List ℕ) (at b : ℕ) (bs : List ℕ) (words : List Word) → b ≡ 92 → EscapeMeans text (at + 1) bs words → TextMeans text at (b ∷ bs) words
text_escapes text at b bs [] escape means = means
text_escapes text at b bs (word ∷ words) escape (c, more, rest, is, escaped, is_text, word_is, may, others) =
    let item : text_item c ≡ 92 ∷ c ∷ [] = rw escaped refl in
    let items : text_items (c ∷ more) ≡ 92 ∷ c ∷ text_items more = ap (λ item. item ++ text_items more) item in
    let spelt : b ∷ bs ≡ text_items (c ∷ more) ++ 34 ∷ rest = rw (escape, is) (sym (ap (λ cs. cs ++ 34 ∷ rest) items)) in
    let e : at + 1 + 1 + length (text_items more) + 1 ≡ at + length (text_items (c ∷ more)) + 1 = omega (arith, ap length items) in
    (c ∷ more, rest, spelt, is_text, word_is, may, subst (λ n. AreWordsFrom n rest words) e others)

sound_text : (b : ℕ) (bs : List ℕ) → Sound bs → (text : List ℕ) (at : ℕ) (words : List Word) → IsStr text → text_from text at (b ∷ bs) ≡ Some words → TextMeans text at (b ∷ bs) words
sound_text b bs rest text at words is_text found = by_tests (b == 34) (b == 92) refl refl
  where
    by_tests : (quote escape : Bool) → (b == 34) ≡ quote → (b == 92) ≡ escape → TextMeans text at (b ∷ bs) words
    by_tests true escape e f =
        let is : b ≡ 34 = eqb-true b 34 e in
        text_ends text at b bs words is is_text (rest.after text (at + 1) words (sym (step.text_quote text at b bs is) ∙ found))
    by_tests false true e f =
        let is : b ≡ 92 = eqb-true b 92 f in
        text_escapes text at b bs words is (rest.escape text (at + 1) words is_text (sym (step.text_escape text at b bs is) ∙ found))
    by_tests false false e f =
        let plain : b ≢ 34 = grind (arith, nat_tests) in
        let unescaped : b ≢ 92 = grind (arith, nat_tests) in
        let passes = if_passes (is_text_byte b && nat_lt (length text) 256) (text_from (text ++ b ∷ []) (at + 1) bs) words (sym (step.text_plain text at b bs plain unescaped) ∙ found) in
        let tests = and_parts (is_text_byte b) (nat_lt (length text) 256) passes.0 in
        text_goes_on text at b bs words plain unescaped (rest.text (text ++ b ∷ []) (at + 1) words (str_more text b is_text tests.0 tests.1) passes.1)

escape_goes_on : (text : List ℕ) (at b : ℕ) (bs : List ℕ) (words : List Word) → (b == 34 || b == 92) ≡ true → TextMeans (text ++ b ∷ []) (at + 1) bs words → EscapeMeans text at (b ∷ bs) words
escape_goes_on text at b bs [] escaped means = means
escape_goes_on text at b bs (word ∷ words) escaped (more, rest, is, is_text, word_is, may, others) =
    (b, more, rest, ap (λ cs. b ∷ cs) is, escaped, str_regrouped text more b is_text, word_is ∙ ap (λ t. Text t) (append_assoc text (b ∷ []) more), may, others)

sound_escape : (b : ℕ) (bs : List ℕ) → Sound bs → (text : List ℕ) (at : ℕ) (words : List Word) → IsStr text → escape_from text at (b ∷ bs) ≡ Some words → EscapeMeans text at (b ∷ bs) words
sound_escape b bs rest text at words is_text found =
    let passes = if_passes ((b == 34 || b == 92) && nat_lt (length text) 256) (text_from (text ++ b ∷ []) (at + 1) bs) words (sym (step.escape_more text at b bs) ∙ found) in
    let tests = and_parts (b == 34 || b == 92) (nat_lt (length text) 256) passes.0 in
    let allowed : is_text_byte b ≡ true = grind (arith, nat_tests, tests.0) in
    escape_goes_on text at b bs words tests.0 (rest.text (text ++ b ∷ []) (at + 1) words (str_more text b is_text allowed tests.1) passes.1)

-- at the end of a line
gap_over : (at : ℕ) (words : List Word) → words_from at [] ≡ Some words → AreWordsFrom at [] words
gap_over at [] found = refl
gap_over at (word ∷ words) found = let end = step.gap_end at in cc

sound_nil : Sound []
sound_nil = record {
  gap = gap_over;
  bare = λ from at words found. bare_ends from at [] words tt (gap_over at) (sym (step.bare_end from at) ∙ found);
  text = λ text at words is_text found. let end = step.text_end text at in cc;
  escape = λ text at words is_text found. let end = step.escape_end text at in cc;
  after = λ text at words found. text_over text at [] words tt (gap_over at) (sym (step.after_end text at) ∙ found);
}

sound : (bs : List ℕ) → Sound bs
sound [] = sound_nil
sound (b ∷ bs) =
    let rest = sound bs in
    record {
      gap = sound_gap b bs rest;
      bare = sound_bare b bs rest;
      text = sound_text b bs rest;
      escape = sound_escape b bs rest;
      after = sound_after b bs rest;
    }

-- the laws
pub exact : WordsAreExact
unfolding words_of
exact line words = ((sound line).gap 0 words, complete words 0 line)

pub reads_back : PrintedTextsReadBack
unfolding words_of
reads_back text is_text =
    let same : text_word text ≡ text_word text ++ [] = sym (append-nil (text_word text)) in
    let spells : Spells (text_word text) (0 + 0) (Text text) = (is_text, refl) in
    complete (Text text ∷ []) 0 (text_word text) ([], text_word text, [], same, refl, spells, tt, refl)
