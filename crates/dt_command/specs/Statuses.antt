-- What the program ends with: its exit numbers and fault lines.
--
-- A caller learns how a call ended by a number, and a person by one line, whose text is fixed to the byte: here, and for
-- what is wrong with the file of a cluster or a workload in `CauseTexts` of that reader's crate. A byte of a name that is
-- not a visible ASCII character is printed as `?`, so that a line is one line on every terminal. This is the last of the
-- files here. Read next: src/top.rt, the call that promises all this.
use Rattle.std.specs.Prelude.{Option, Some, None, ℕ, [], ◌∷◌, ◌++◌, codes, map, if◌then◌else◌}
use Rattle.std.specs.Fmt.{decimal}
use Rattle.std.specs.declared.io.ErrorKind.{ErrorKind}
use Rattle.std.specs.declared.io.ErrorKind.TheVariants.{OutOfMemory, InvalidData}
use Rattle.dt_text.specs.Words.{is_visible}
use Rattle.dt_access.specs.Clash.{Bytes}
use Rattle.dt_cluster_file.specs.declared.ClusterPlace.{ClusterPlace}
use Rattle.dt_cluster_file.specs.declared.error.ClusterPlace.TheVariants as place
use Rattle.dt_cluster_file.specs.CauseTexts.{cluster_text}
use Rattle.dt_workload.specs.CauseTexts.{workload_text}
use Rattle.dt_command.specs.declared.status.Status.{Status}
use Rattle.dt_command.specs.declared.status.Status.TheVariants.{Done, NoMemory, BadWords, CannotRead, BadCluster, BadWorkload, BadEvents, CannotWrite}
use Rattle.dt_command.specs.declared.status.EventsCause.{EventsCause}
use Rattle.dt_command.specs.declared.status.EventsCause.TheVariants.{TooLong, Form, Rule}

-- the number with which the program ends
abbrev pub exit_number : Status → ℕ
exit_number Done = 0
exit_number NoMemory = 1
exit_number BadWords = 2
exit_number (CannotRead word) = 3
exit_number (BadCluster fault) = 4
exit_number (BadWorkload line cause) = 5
exit_number (BadEvents line cause) = 6
exit_number CannotWrite = 7

-- the status if the words of the command line cannot be obtained: out of memory; or a word that is not text, which is a fault of
-- the caller; and none where the system does not supply them at all
abbrev pub status_without : ErrorKind → Option Status
status_without OutOfMemory = Some NoMemory
status_without InvalidData = Some BadWords
status_without kind = None

-- the number of no status: the system does not supply the words
abbrev pub no_words : ℕ
no_words = 12

-- a byte of a name as it is printed: `?` for one that is not a visible ASCII character
abbrev pub visible_byte : ℕ → ℕ
visible_byte byte = if is_visible byte then byte else 63

-- where a cluster file is at fault, in words
abbrev pub place_text : ClusterPlace → Bytes
place_text place.Whole = []
place_text (place.Entry name) = codes " " ++ map visible_byte name
place_text (place.Home name) = codes " homes." ++ map visible_byte name
place_text (place.Row name) = codes " rows." ++ map visible_byte name
place_text (place.Procs at) = codes " procs byte " ++ decimal at

-- what is wrong with a file of events, in words
abbrev pub cause_text : EventsCause → Bytes
cause_text TooLong = codes "too long"
cause_text Form = codes "no event"
cause_text (Rule n) = codes "rule " ++ decimal n

-- a fault is reported in one line: the program's name, the fault, and the byte that ends the line
abbrev pub told_line : Bytes → Bytes
told_line text = codes "detock: " ++ text ++ 10 ∷ []

-- the line that reports a status; none after Done
abbrev pub fault_line : Status → Bytes
fault_line Done = []
fault_line NoMemory = told_line (codes "no memory")
fault_line BadWords = told_line (codes "usage: replay CLUSTER WORKLOAD EVENTS, run CLUSTER WORKLOAD, big N")
fault_line (CannotRead word) = told_line (codes "cannot read word " ++ decimal word)
fault_line (BadCluster fault) = told_line (codes "cluster" ++ place_text fault.place ++ codes ": " ++ cluster_text fault.cause)
fault_line (BadWorkload line cause) = told_line (codes "workload line " ++ decimal line ++ codes ": " ++ workload_text cause)
fault_line (BadEvents line cause) = told_line (codes "events line " ++ decimal line ++ codes ": " ++ cause_text cause)
fault_line CannotWrite = told_line (codes "cannot write")
