-- How the words of the command line are spelled.
use Rattle.std.proofs.Common.{◌≡◌, ℕ, ◌+◌, ◌-◌, ◌≤◌, List, [], ◌∷◌, length, get_or, Option, None, Some, refl, ap, sym, ◌∙◌, arith, subst, codes, String, string_bytes, MatchOption}
use Rattle.std.proofs.lemmas.Fmt.{decimal_digit, length-decimal-le}
use Rattle.std.specs.Fmt.{decimal}
use Rattle.dt_access.specs.Clash.{Bytes}
use Rattle.dt_command.specs.Tasks.{Replay, Run, Big, Asks, AreAForm, NeedsThreads, NamesCluster, IsFileName, IsSize, IsBuiltin, builtin_word, word_bytes}

-- the word of a built-in cluster is `:` and a digit
pub two_bytes : (n : ℕ) → IsBuiltin n → builtin_word n ≡ 58 ∷ (48 + n) ∷ []
two_bytes n (some, few) = ap (λ digits. 58 ∷ digits) (decimal_digit n (omega (arith, few)))

-- numbers up to 20000 have at most five digits
pub five_digits : (n : ℕ) → n ≤ 20000 → length (decimal n) ≤ 5
five_digits n few = length-decimal-le 5 n (omega arith) (omega (arith, few)) (omega (arith, few))

-- two bytes, `:` and one from `1` to `8`, are the word of a built-in cluster
pub read_builtin : (word : Bytes) → length word ≡ 2 → get_or word 0 0 ≡ 58 → 49 ≤ get_or word 1 0 → get_or word 1 0 ≤ 56 → IsBuiltin (get_or word 1 0 - 48) × (word ≡ builtin_word (get_or word 1 0 - 48))
read_builtin [] long colon low high = absurd (omega (arith, low))
read_builtin (a ∷ []) long colon low high = absurd (omega (arith, low))
read_builtin (a ∷ b ∷ []) long colon low high =
    let is : IsBuiltin (b - 48) = (omega (arith, low), omega (arith, high)) in
    let digit : 48 + (b - 48) ≡ b = omega (arith, low) in
    (is, ap (λ first. first ∷ b ∷ []) colon ∙ ap (λ last. 58 ∷ last ∷ []) (sym digit) ∙ sym (two_bytes (b - 48) is))
read_builtin (a ∷ b ∷ d ∷ word) long colon low high = absurd (omega (arith, long))

-- the word of a built-in cluster is nothing else
pub builtin_length : (word : Bytes) (n : ℕ) → IsBuiltin n → word ≡ builtin_word n → length word ≡ 2
builtin_length word n is spelled = ap length (spelled ∙ two_bytes n is)

pub builtin_digit : (word : Bytes) (n : ℕ) → IsBuiltin n → word ≡ builtin_word n → get_or word 1 0 ≡ 48 + n
builtin_digit word n is spelled = ap (λ w. get_or w 1 0) (spelled ∙ two_bytes n is)

-- words that are none of a replay's, and ask for nothing that threads do, are of no form
pub no_form : (words : List Bytes) → ((cluster workload events : Bytes) → ¬ Asks words (Replay cluster workload events)) → ¬ NeedsThreads words → ¬ AreAForm words
no_form words none idle (Replay cluster workload events, asks) = none cluster workload events asks
no_form words none idle (Run cluster workload, asks) = idle (Run cluster workload, asks, tt)
no_form words none idle (Big size, asks) = idle (Big size, asks, tt)

-- words that ask neither for a run nor for a big one ask for nothing that threads do
pub no_threads_asked : (words : List Bytes) → ((cluster workload : Bytes) → ¬ Asks words (Run cluster workload)) → ((size : Bytes) → ¬ Asks words (Big size)) → ¬ NeedsThreads words
no_threads_asked words no_run no_big (Replay cluster workload events, asks, threaded) = threaded
no_threads_asked words no_run no_big (Run cluster workload, asks, threaded) = no_run cluster workload asks
no_threads_asked words no_run no_big (Big size, asks, threaded) = no_big size asks

-- n words, one by one
module _ {A : Type 0} (words : List (String A)) (a b c d : String A) where
  pub two_words : length words ≡ 2 → a ≡ get_or words 0 a → b ≡ get_or words 1 b → word_bytes words ≡ string_bytes a ∷ string_bytes b ∷ []
  two_words long first second = go words long first second
    where
      go : (l : List (String A)) → length l ≡ 2 → a ≡ get_or l 0 a → b ≡ get_or l 1 b → word_bytes l ≡ string_bytes a ∷ string_bytes b ∷ []
      go [] is x y = absurd (omega (arith, is))
      go (p ∷ []) is x y = absurd (omega (arith, is))
      go (p ∷ q ∷ []) is x y = λ i. string_bytes (sym x i) ∷ string_bytes (sym y i) ∷ []
      go (p ∷ q ∷ r ∷ l) is x y = absurd (omega (arith, is))

  pub three_words : length words ≡ 3 → a ≡ get_or words 0 a → b ≡ get_or words 1 b → c ≡ get_or words 2 c
      → word_bytes words ≡ string_bytes a ∷ string_bytes b ∷ string_bytes c ∷ []
  three_words long first second third = go words long first second third
    where
      go : (l : List (String A)) → length l ≡ 3 → a ≡ get_or l 0 a → b ≡ get_or l 1 b → c ≡ get_or l 2 c → word_bytes l ≡ string_bytes a ∷ string_bytes b ∷ string_bytes c ∷ []
      go [] is x y z = absurd (omega (arith, is))
      go (p ∷ []) is x y z = absurd (omega (arith, is))
      go (p ∷ q ∷ []) is x y z = absurd (omega (arith, is))
      go (p ∷ q ∷ r ∷ []) is x y z = λ i. string_bytes (sym x i) ∷ string_bytes (sym y i) ∷ string_bytes (sym z i) ∷ []
      go (p ∷ q ∷ r ∷ s ∷ l) is x y z = absurd (omega (arith, is))

  pub four_words : length words ≡ 4 → a ≡ get_or words 0 a → b ≡ get_or words 1 b → c ≡ get_or words 2 c → d ≡ get_or words 3 d
      → word_bytes words ≡ string_bytes a ∷ string_bytes b ∷ string_bytes c ∷ string_bytes d ∷ []
  four_words long first second third fourth = go words long first second third fourth
    where
      go : (l : List (String A)) → length l ≡ 4 → a ≡ get_or l 0 a → b ≡ get_or l 1 b → c ≡ get_or l 2 c → d ≡ get_or l 3 d
          → word_bytes l ≡ string_bytes a ∷ string_bytes b ∷ string_bytes c ∷ string_bytes d ∷ []
      go [] is x y z w = absurd (omega (arith, is))
      go (p ∷ []) is x y z w = absurd (omega (arith, is))
      go (p ∷ q ∷ []) is x y z w = absurd (omega (arith, is))
      go (p ∷ q ∷ r ∷ []) is x y z w = absurd (omega (arith, is))
      go (p ∷ q ∷ r ∷ s ∷ []) is x y z w = λ i. string_bytes (sym x i) ∷ string_bytes (sym y i) ∷ string_bytes (sym z i) ∷ string_bytes (sym w i) ∷ []
      go (p ∷ q ∷ r ∷ s ∷ t ∷ l) is x y z w = absurd (omega (arith, is))

module _ (words : List Bytes) where
  -- words of a big run, where the second is a size
  pub asks_big : (verb a size : Bytes) (r : Option ℕ) → words ≡ verb ∷ a ∷ [] → verb ≡ codes "big" → a ≡ size
      → MatchOption r (¬ IsSize size) (λ calls. (1 ≤ calls) × (calls ≤ 20000) × (size ≡ decimal calls))
      → MatchOption r ((size : Bytes) → ¬ Asks words (Big size)) (λ calls. Asks words (Big (decimal calls)) × (1 ≤ calls) × (calls ≤ 20000))
  asks_big verb a size (Some calls) is big same (some, few, named) =
      (record { form = is ∙ (λ i. big i ∷ (same ∙ named) i ∷ []); right = (calls, some, few, refl) }, some, few)
  asks_big verb a size None is big same wrong =
      λ other asks. wrong (subst IsSize (ap (λ (l : List Bytes). get_or l 1 []) (sym asks.form ∙ is) ∙ same) asks.right)

  -- words of a run
  pub asks_run : (verb a w cluster workload : Bytes) → words ≡ verb ∷ a ∷ w ∷ [] → verb ≡ codes "run" → a ≡ cluster → w ≡ workload
      → NamesCluster cluster → IsFileName workload → Asks words (Run cluster workload)
  asks_run verb a w cluster workload is run named file right some =
      record { form = is ∙ (λ i. run i ∷ named i ∷ file i ∷ []); right = (right, some) }

  -- words of a replay
  pub asks_replay : (verb a w e cluster workload events : Bytes) → words ≡ verb ∷ a ∷ w ∷ e ∷ [] → verb ≡ codes "replay" → a ≡ cluster → w ≡ workload → e ≡ events
      → NamesCluster cluster → IsFileName workload → IsFileName events → Asks words (Replay cluster workload events)
  asks_replay verb a w e cluster workload events is replay named file list right some more =
      record { form = is ∙ (λ i. replay i ∷ named i ∷ file i ∷ list i ∷ []); right = (right, some, more) }
