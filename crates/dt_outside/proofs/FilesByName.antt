-- The files of a folder in memory, looked up in the vector that holds them.
use Rattle.std.proofs.Common.{◌≡◌, ℕ, List, [], ◌∷◌, map, find, true, false, cond, Vec, String, string_bytes, Some, refl, nat_eq, ◌==◌}
use Rattle.std.specs.Option.{option_map}
use Rattle.std.specs.Cmp.Lexicographic.{pointwise}
use Rattle.std.specs.List.{list_any}
use Rattle.dt_outside.specs.Faults.{next_count}
use Rattle.dt_outside.specs.Folder.{MemoryFolderView, fails_next, file_in, stored_file}

-- the first file of a name is the first entry whose text is that name
pub file_in-map : {A B : Type 0} (files : List (String A × Vec ℕ B)) (name : List ℕ)
    → file_in (map stored_file files) name ≡ option_map (λ file. file.1.items) (find (λ file. pointwise nat_eq (string_bytes file.0) name) files)
file_in-map [] name = refl
file_in-map (file ∷ files) name =
    let found = find (λ f. pointwise nat_eq (string_bytes f.0) name) files in
    elim (pointwise nat_eq (string_bytes file.0) name)
    as (λ same. cond same (Some file.1.items) (file_in (map stored_file files) name) ≡ option_map (λ f. f.1.items) (cond same (Some file) found))
    [ true ↦ refl | false ↦ file_in-map files name ]

-- for the tactics
pub ruleset finding = (file_in-map)

-- a load passes where its number is none of those that fail, and a file has the name
pub fails_next-found : (seen folder : MemoryFolderView) (name bytes : List ℕ) (number : ℕ) → seen ≡ folder → number ≡ next_count seen.loads
    → false ≡ list_any (λ failing. failing == number) seen.failing → Some bytes ≡ file_in seen.files name → fails_next folder name ≡ false
fails_next-found seen folder name bytes number is_seen same passes found = rw (← is_seen, ← same, ← passes, ← found) refl
