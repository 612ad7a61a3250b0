-- Folders, which give files by name.
--
-- A promise on what was read from a file has to say what stood in it, so a folder may show its files. The real disk
-- shows none; then a promise says what the bytes were read as, whatever they are. Each folder counts the loads that
-- failed, and may report the name of the most recent of them, so that a file that could not be read is not reported as another.
-- A folder in memory is defined whole here, for tests. Read next: Sink, for what is written.
use Rattle.std.specs.Prelude.{◌≡◌, ℕ, ◌<◌, Bool, List, [], ◌∷◌, length, ◌||◌, ◌==◌, if◌then◌else◌, Option, None, Some, is_none, IfSome, IsSomeAnd, nat_eq, String, Vec, string_bytes}
use Rattle.std.specs.List.{list_any}
use Rattle.std.specs.Option.{option_map}
use Rattle.std.specs.Cmp.Lexicographic.{pointwise}
use Rattle.dt_outside.specs.Faults.{next_count}

-- the files of a folder: by its name the bytes of each file, and nothing where there is no file
abbrev pub Files : Type 0
Files = List ℕ → Option (List ℕ)

-- what is seen of a folder: its files, where it reports them; how many loads failed; and the name of the most recent load
-- that failed, where the folder reports it
pub record FolderView : Type 0 where
  pub told : Option Files
  pub faults : ℕ
  pub missed : Option (List ℕ)

-- where the folder shows which load failed last, it was that of this name
abbrev pub MissedLast : FolderView → List ℕ → Type 0
MissedLast folder name = IfSome folder.missed (λ missed. missed ≡ name)

-- there is a file of this name, and it is longer than the limit
abbrev pub IsAboveLimit : Files → List ℕ → ℕ → Type 0
IsAboveLimit files name limit = IsSomeAnd (files name) (λ bytes. limit < length bytes)

-- a file in memory
pub record StoredFile : Type 0 where
  pub name : List ℕ
  pub content : List ℕ

-- a file as the program keeps it, its name as a text and its content as a vector
abbrev pub stored_file : {A B : Type 0} → String A × Vec ℕ B → StoredFile
stored_file (name, bytes) = record { name = string_bytes name; content = bytes.items }

-- the name that is kept of the most recent load that failed
abbrev pub stored_name : {A : Type 0} → Option (String A) → Option (List ℕ)
stored_name name = option_map string_bytes name

-- the bytes of the first file of this name
abbrev pub file_in : List StoredFile → Files
file_in [] name = None
file_in (file ∷ files) name = if pointwise nat_eq file.name name then Some file.content else file_in files name

-- a folder in memory: its files, the numbers of the loads that fail, how many loads and faults there were, and the name
-- of the most recent load that failed, if there was memory to keep it
pub record MemoryFolderView : Type 0 where
  pub files : List StoredFile
  pub failing : List ℕ
  pub loads : ℕ
  pub faults : ℕ
  pub missed : Option (List ℕ)

-- whether the next load fails: its number is one of those that fail, or no file has the name
abbrev pub fails_next : MemoryFolderView → List ℕ → Bool
fails_next folder name =
    list_any (λ number. number == next_count folder.loads) folder.failing || is_none (file_in folder.files name)

-- a folder of the disk: how many loads failed, and the name of the most recent of them, if there was memory to keep it
pub record DiskFolderView : Type 0 where
  pub faults : ℕ
  pub missed : Option (List ℕ)
