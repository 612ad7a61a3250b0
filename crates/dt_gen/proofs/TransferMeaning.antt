-- What a transfer comes to between two accounts: the source has the amount less and the target has it more, or it aborts.
use Rattle.std.proofs.Common.{◌≡◌, ℕ, ◌+◌, ◌-◌, ◌<◌, ◌≤◌, ◌^◌, true, false, List, [], ◌∷◌, arith, append-nil}
use Rattle.std.proofs.Common.{Option, Some, pos, ◌-ℤ◌, codes, ltb}
use Rattle.std.proofs.lemmas.Bool.{lt-ltb, le-ltb}
use Rattle.std.proofs.lemmas.Int.{ints}
use Rattle.dt_text.specs.Texts.{Bytes}
use Rattle.dt_text.specs.declared.Value.{Value}
use Rattle.dt_text.specs.declared.Value.TheVariants.{Int, Text}
use Rattle.std.specs.Ordering.{nat_cmp}
use Rattle.std.specs.Cmp.Lexicographic.{slice_cmp}
use Rattle.std.specs.declared.cmp.Ordering.TheVariants.{Less, Equal, Greater}
use Rattle.dt_access.specs.Clash.{same_key}
use Rattle.dt_access.specs.declared.Mode.{Mode}
use Rattle.dt_access.specs.declared.Mode.TheVariants.{Write}
use Rattle.dt_access.proofs.Callers.{same_key_self}
use Rattle.dt_proc.specs.Builtin.{xfer}
use Rattle.dt_eval.specs.declared.finish.Cause.TheVariants as cause
use Rattle.dt_eval.specs.declared.finish.Finish.TheVariants as finish
use Rattle.dt_eval.specs.Keys.{keys_of}
use Rattle.dt_eval.specs.Meaning.{meaning}

-- the arguments of a transfer
abbrev pub transfer_args : Bytes → Bytes → ℕ → List Value
transfer_args source target amount = Text source ∷ Text target ∷ Int (pos amount) ∷ []

-- the keys of a transfer, by the order of the two

abbrev pub written_use : Bytes → Bytes × Mode
written_use key = (key, Write)

pub uses_same : (source target : Bytes) (amount : ℕ) → slice_cmp nat_cmp target source ≡ Equal → keys_of xfer (transfer_args source target amount) ≡ written_use source ∷ []
uses_same source target amount e = simp (append-nil, e)

pub uses_before : (source target : Bytes) (amount : ℕ) → slice_cmp nat_cmp target source ≡ Less → keys_of xfer (transfer_args source target amount) ≡ written_use target ∷ written_use source ∷ []
uses_before source target amount e = simp (append-nil, e)

pub uses_after : (source target : Bytes) (amount : ℕ) → slice_cmp nat_cmp target source ≡ Greater → keys_of xfer (transfer_args source target amount) ≡ written_use source ∷ written_use target ∷ []
uses_after source target amount e = simp (append-nil, e)

less_by : (had amount : ℕ) → amount ≤ had → pos had -ℤ pos amount ≡ pos (had - amount)
less_by had amount h = omega (arith, ints)

-- where the source has less than the amount, it aborts: whichever row stands first, or where both are one

pub refused_first : (source target : Bytes) (amount had : ℕ) (other : Option Value) → had < amount
    → meaning xfer (transfer_args source target amount) ((source, Some (Int (pos had))) ∷ (target, other) ∷ []) ≡ finish.Aborted (cause.Word (codes "funds"))
refused_first source target amount had other few =
    let test : ltb had amount ≡ true = lt-ltb had amount few in
    simp (append-nil, same_key_self, test)

pub refused_second : (source target : Bytes) (amount had : ℕ) (other : Option Value) → same_key source target ≡ false → had < amount
    → meaning xfer (transfer_args source target amount) ((target, other) ∷ (source, Some (Int (pos had))) ∷ []) ≡ finish.Aborted (cause.Word (codes "funds"))
refused_second source target amount had other apart few =
    let test : ltb had amount ≡ true = lt-ltb had amount few in
    simp (append-nil, same_key_self, apart, test)

pub refused_alone : (source : Bytes) (amount had : ℕ) → had < amount
    → meaning xfer (transfer_args source source amount) ((source, Some (Int (pos had))) ∷ []) ≡ finish.Aborted (cause.Word (codes "funds"))
refused_alone source amount had few =
    let test : ltb had amount ≡ true = lt-ltb had amount few in
    simp (append-nil, same_key_self, test)

-- else the source has the amount less, and the target has it more

pub done_first : (source target : Bytes) (amount had held : ℕ) → same_key source target ≡ false → same_key target source ≡ false
    → amount ≤ had → had < 2 ^ 63 → held + amount < 2 ^ 63
    → meaning xfer (transfer_args source target amount) ((source, Some (Int (pos had))) ∷ (target, Some (Int (pos held))) ∷ [])
    ≡ finish.Gave (Some (Int (pos (had - amount))) ∷ Some (Int (pos (held + amount))) ∷ []) ((source, Some (Int (pos (had - amount)))) ∷ (target, Some (Int (pos (held + amount)))) ∷ [])
done_first source target amount had held apart other enough small fits =
    let test : ltb had amount ≡ false = le-ltb had amount enough in
    let less = less_by had amount enough in
    let left : ltb (had - amount) (2 ^ 63) ≡ true = lt-ltb (had - amount) (2 ^ 63) (omega arith) in
    let more : ltb (held + amount) (2 ^ 63) ≡ true = lt-ltb (held + amount) (2 ^ 63) fits in
    simp (append-nil, same_key_self, apart, other, test, less, left, more)

pub done_second : (source target : Bytes) (amount had held : ℕ) → same_key source target ≡ false → same_key target source ≡ false
    → amount ≤ had → had < 2 ^ 63 → held + amount < 2 ^ 63
    → meaning xfer (transfer_args source target amount) ((target, Some (Int (pos held))) ∷ (source, Some (Int (pos had))) ∷ [])
    ≡ finish.Gave (Some (Int (pos (had - amount))) ∷ Some (Int (pos (held + amount))) ∷ []) ((target, Some (Int (pos (held + amount)))) ∷ (source, Some (Int (pos (had - amount)))) ∷ [])
done_second source target amount had held apart other enough small fits =
    let test : ltb had amount ≡ false = le-ltb had amount enough in
    let less = less_by had amount enough in
    let left : ltb (had - amount) (2 ^ 63) ≡ true = lt-ltb (had - amount) (2 ^ 63) (omega arith) in
    let more : ltb (held + amount) (2 ^ 63) ≡ true = lt-ltb (held + amount) (2 ^ 63) fits in
    simp (append-nil, same_key_self, apart, other, test, less, left, more)

pub done_alone : (source : Bytes) (amount had : ℕ) → amount ≤ had → had < 2 ^ 63
    → meaning xfer (transfer_args source source amount) ((source, Some (Int (pos had))) ∷ [])
    ≡ finish.Gave (Some (Int (pos had)) ∷ Some (Int (pos had)) ∷ []) ((source, Some (Int (pos had))) ∷ [])
done_alone source amount had enough small =
    let test : ltb had amount ≡ false = le-ltb had amount enough in
    let less = less_by had amount enough in
    let left : ltb (had - amount) (2 ^ 63) ≡ true = lt-ltb (had - amount) (2 ^ 63) (omega arith) in
    let back : had - amount + amount ≡ had = omega arith in
    let more : ltb had (2 ^ 63) ≡ true = lt-ltb had (2 ^ 63) small in
    simp (append-nil, same_key_self, test, less, left, back, more)
