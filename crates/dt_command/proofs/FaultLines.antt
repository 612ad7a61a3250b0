-- Fault lines, as their pieces are written.
use Rattle.std.proofs.Common.{◌≡◌, ℕ, ◌+◌, ◌<◌, List, [], ◌∷◌, ◌++◌, length, take, set, get_or, map, ap, ap₂, sym, ◌∙◌, append_assoc, append-nil, codes}
use Rattle.std.proofs.lemmas.List.{map-append, take_more, take_more_set}
use Rattle.std.specs.Fmt.{decimal}
use Rattle.dt_access.specs.Clash.{Bytes}
use Rattle.dt_cluster_file.specs.declared.ClusterFault.{ClusterFault}
use Rattle.dt_workload.specs.declared.WorkloadCause.{WorkloadCause}
use Rattle.dt_cluster_file.specs.CauseTexts.{cluster_text}
use Rattle.dt_workload.specs.CauseTexts.{workload_text}
use Rattle.dt_command.specs.LineCode.{events_end}
use Rattle.dt_command.specs.Statuses.{cause_text, fault_line, place_text}
use Rattle.dt_command.specs.declared.status.Status.TheVariants.{CannotRead, BadCluster, BadWorkload, BadEvents}
use Rattle.dt_command.specs.declared.status.EventsCause.{EventsCause}
use Rattle.dt_command.specs.declared.status.EventsCause.TheVariants.{Rule}

-- the line of a file that could not be read
pub cannot_read_line : (number : Bytes) (word : ℕ) → number ≡ decimal word → codes "detock: cannot read word " ++ (number ++ (10 ∷ [])) ≡ fault_line (CannotRead word)
cannot_read_line number word is = ap (λ digits. codes "detock: cannot read word " ++ (digits ++ 10 ∷ [])) is

-- the line of a fault in an events' file
pub events_line : (number : Bytes) (line : ℕ) (cause : EventsCause) → number ≡ decimal line → (codes "detock: events line " ++ (number ++ [])) ++ events_end cause ≡ fault_line (BadEvents line cause)
events_line number line cause is =
    ap (λ digits. (codes "detock: events line " ++ digits) ++ events_end cause) (append-nil number ∙ is)
    ∙ ap (λ rest. codes "detock: events line " ++ rest)
    (sym (append_assoc (decimal line ++ codes ": ") (cause_text cause) (10 ∷ []) ∙ append_assoc (decimal line) (codes ": ") (cause_text cause ++ 10 ∷ [])))

-- and how it ends where an event is not legal
pub rule_end : (digits : Bytes) (n : ℕ) → digits ≡ decimal n → codes ": rule " ++ (digits ++ (10 ∷ [])) ≡ events_end (Rule n)
rule_end digits n is = ap (λ number. codes ": rule " ++ (number ++ (10 ∷ []))) is

-- the line of a fault in a cluster's file
pub cluster_line : (text : Bytes) (fault : ClusterFault) → text ≡ cluster_text fault.cause
    → (codes "detock: cluster" ++ place_text fault.place) ++ (codes ": " ++ (text ++ (10 ∷ []))) ≡ fault_line (BadCluster fault)
cluster_line text fault is =
    ap (λ words. (codes "detock: cluster" ++ place_text fault.place) ++ (codes ": " ++ (words ++ (10 ∷ [])))) is
    ∙ ap (λ rest. codes "detock: cluster" ++ rest) (sym (append_assoc (place_text fault.place ++ codes ": ") (cluster_text fault.cause) (10 ∷ [])
    ∙ append_assoc (place_text fault.place) (codes ": ") (cluster_text fault.cause ++ 10 ∷ [])))

-- the line of a fault in a workload's file
pub workload_line : (number text : Bytes) (line : ℕ) (cause : WorkloadCause) → number ≡ decimal line → text ≡ workload_text cause
    → codes "detock: workload line " ++ (number ++ (codes ": " ++ (text ++ (10 ∷ [])))) ≡ fault_line (BadWorkload line cause)
workload_line number text line cause is said =
    ap₂ (λ digits words. codes "detock: workload line " ++ (digits ++ (codes ": " ++ (words ++ (10 ∷ []))))) is said
    ∙ ap (λ rest. codes "detock: workload line " ++ rest)
    (sym (append_assoc (decimal line ++ codes ": ") (workload_text cause) (10 ∷ []) ∙ append_assoc (decimal line) (codes ": ") (workload_text cause ++ 10 ∷ [])))

-- where a number stands at the end
pub ends_with : (front number : Bytes) (n : ℕ) → number ≡ decimal n → front ++ (number ++ []) ≡ front ++ decimal n
ends_with front number n is = ap (λ rest. front ++ rest) (append-nil number ∙ is)

-- one byte more is shown
pub next_shown : (f : ℕ → ℕ) (shown run : List ℕ) (i b d : ℕ) → i < length run → i < length shown → take i shown ≡ map f (take i run) → b ≡ f (get_or run i d)
    → take (i + 1) (set shown i b) ≡ map f (take (i + 1) run)
next_shown f shown run i b d inside room so_far is =
    take_more_set shown i b room
    ∙ ap (λ front. front ++ b ∷ []) so_far
    ∙ ap (λ last. map f (take i run) ++ last ∷ []) is
    ∙ sym (ap (map f) (take_more run i d inside) ∙ map-append f (take i run) (get_or run i d ∷ []))
