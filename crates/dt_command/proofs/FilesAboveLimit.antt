-- A file that is reported to be longer than a limit.
use Rattle.std.proofs.Common.{◌≡◌, ℕ, ◌+◌, ◌<◌, length, replicate, Option, Some, None, IfSome, IsSomeAnd, refl, arith}
use Rattle.std.proofs.lemmas.List.{length-replicate}
use Rattle.dt_access.specs.Clash.{Bytes}
use Rattle.dt_outside.specs.Folder.{Files, IsAboveLimit}
use Rattle.dt_command.specs.TaskFiles.{HasFile}

-- there are bytes above every limit
long_bytes : (limit : ℕ) → (bytes : Bytes) × limit < length bytes
long_bytes limit = (replicate (limit + 1) 0, omega (arith, length-replicate {A = ℕ} (limit + 1) 0))

-- its bytes are longer; if the folder does not report them, there are such bytes
pub longer : {A : Type 0} (limit : ℕ) (told : Option Files) (name : Bytes) → IfSome told (λ files. A → IsAboveLimit files name limit) → A → HasFile told name (λ bytes. limit < length bytes)
longer limit None name is a = let (bytes, long) = long_bytes limit in (bytes, tt, long)
longer limit (Some files) name is a = held (files name) refl (is a)
  where
    held : (o : Option Bytes) → files name ≡ o → IsSomeAnd o (λ bytes. limit < length bytes) → HasFile (Some files) name (λ bytes. limit < length bytes)
    held None here more = absurd more
    held (Some bytes) here more = (bytes, here, more)
