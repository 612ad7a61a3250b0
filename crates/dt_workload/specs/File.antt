-- What a workload file is, and what fault is reported for a file that is not one. A file is read line by line: the lines before
-- the first faulty one are some sessions, and that line's fault is the first of its causes in a fixed order, so each file
-- is one workload or has one fault (`Laws`). The forms of lines are in `Lines`, and what a workload is in `Valid`. Read
-- next: `Laws`.
use Rattle.dt_access.specs.Granules.{IsUnitKey}
use Rattle.std.specs.Prelude.{◌≡◌, ◌⊎◌, ℕ, ◌<◌, List, [], ◌∷◌, ◌++◌, map, flat_map, slice_get, Option, Some, None, IsSome}
use Rattle.std.specs.Option.{option_and_then}
use Rattle.dt_lists.specs.Lists.{Has, Pairwise}
use Rattle.dt_text.specs.Texts.{IsName}
use Rattle.dt_text.specs.Lines.{FileLine, lines_of}
use Rattle.dt_text.specs.declared.Value.{Value}
use Rattle.dt_proc.specs.Tree.{ProcTree}
use Rattle.dt_proc.specs.Names.{place_of_name}
use Rattle.dt_eval.specs.Meaning.{Fits, HasKeys}
use Rattle.dt_cluster.specs.declared.Cluster.{Cluster}
use Rattle.dt_text.specs.Texts.{Bytes}
use Rattle.dt_workload.specs.Lines.{Form, session_line, call_line, move_line, HasForm}
use Rattle.dt_workload.specs.Valid.{session_names, session_count_at, calls_in, IsValidWorkload}
use Rattle.dt_workload.specs.declared.workload.Wanted.{Wanted}
use Rattle.dt_workload.specs.declared.workload.Wanted.TheVariants.{Call, Move}
use Rattle.dt_workload.specs.declared.workload.Ranked.{Ranked}
use Rattle.dt_workload.specs.declared.workload.Session.{Session}
use Rattle.dt_workload.specs.declared.workload.Workload.{Workload}
use Rattle.dt_workload.specs.declared.error.WorkloadCause.{WorkloadCause}
use Rattle.dt_workload.specs.declared.error.WorkloadCause.TheVariants as cause

-- the name of a procedure, if there is one
abbrev pub proc_name : Option ProcTree → Bytes
proc_name None = []
proc_name (Some proc) = proc.name

-- the line of a call or a move with its rank: a call names its procedure
abbrev pub wanted_line : List ProcTree → ℕ → Wanted → Form
wanted_line procs rank (Call number args) = call_line rank (proc_name (slice_get procs number)) args
wanted_line procs rank (Move key target) = move_line rank key target

-- the line of what a session wants, with its rank
abbrev pub ranked_line : List ProcTree → Ranked → Form
ranked_line procs ranked = wanted_line procs ranked.rank ranked.wanted

-- the lines of a session: its own, and then those of its calls and moves
abbrev pub session_lines : List ProcTree → Session → List Form
session_lines procs session = session_line session.name session.region ∷ map (ranked_line procs) session.calls

-- the lines of sessions
abbrev pub all_lines : List ProcTree → List Session → List Form
all_lines procs sessions = flat_map (session_lines procs) sessions

-- some lines are these sessions: they are the sessions' lines in order, and the sessions are a valid workload
pub record AreSessions (cluster : Cluster) (file_lines : List FileLine) (read : List Session) : Type 0 where
  pub lines : Pairwise (λ (l : FileLine) form. HasForm l.bytes form) file_lines (all_lines cluster.procs read)
  pub valid : IsValidWorkload cluster (record { sessions = read })

-- the bytes are this workload, in this cluster
abbrev pub IsWorkload : Cluster → Bytes → Workload → Type 0
IsWorkload cluster file workload = AreSessions cluster (lines_of file) workload.sessions

-- P is needed, or else this is the cause; with P, later needs decide
abbrev pub Needs : Type 0 → WorkloadCause → (WorkloadCause → Type 0) → WorkloadCause → Type 0
Needs P why later told = ((told ≡ why) × ¬ P) ⊎ (P × later told)

-- nothing more is needed, so there is no fault
abbrev pub NothingMore : WorkloadCause → Type 0
NothingMore told = ⊥

-- the fault of a session's line after some sessions: it needs a name, which no session before has, a region, and room there
abbrev pub IsSessionFault : Cluster → List Session → Bytes → ℕ → WorkloadCause → Type 0
IsSessionFault cluster before name region told =
    Needs (IsName name) cause.Name
    (Needs (¬ (Has (session_names before) name)) cause.Twice
    (Needs (region < cluster.regions) cause.Region
    (Needs (session_count_at region before < 64) cause.TooMany NothingMore))) told

-- the procedure of a name, if there is one
abbrev pub proc_named : Cluster → Bytes → Option ProcTree
proc_named cluster name = option_and_then (slice_get cluster.procs) (place_of_name name cluster.procs)

-- there is a procedure, and the arguments fit it
abbrev pub FitsIf : Option ProcTree → List Value → Type 0
FitsIf None args = ⊥
FitsIf (Some proc) args = Fits proc args

-- there is a procedure, and by it the arguments give keys
abbrev pub GivesKeys : Option ProcTree → List Value → Type 0
GivesKeys None args = ⊥
GivesKeys (Some proc) args = HasKeys proc args

-- the fault of a call's line after some sessions: it needs a session before it, a procedure of that name, arguments that fit it
-- and give keys, and room for one more call or move
abbrev pub IsCallFault : Cluster → List Session → Bytes → List Value → WorkloadCause → Type 0
IsCallFault cluster before name args told =
    Needs (¬ (before ≡ [])) cause.NoSession
    (Needs (IsSome (proc_named cluster name)) cause.Proc
    (Needs (FitsIf (proc_named cluster name) args) cause.Args
    (Needs (GivesKeys (proc_named cluster name) args) cause.Key
    (Needs (calls_in before < 20000) cause.TooMany NothingMore)))) told

-- the fault of a move's line after some sessions: it needs a session before it, a key that can be moved, a region, and room
-- for one more call or move
abbrev pub IsMoveFault : Cluster → List Session → Bytes → ℕ → WorkloadCause → Type 0
IsMoveFault cluster before key region told =
    Needs (¬ (before ≡ [])) cause.NoSession
    (Needs (IsUnitKey cluster.version key) cause.Key
    (Needs (region < cluster.regions) cause.Region
    (Needs (calls_in before < 20000) cause.TooMany NothingMore))) told

-- the fault of a form after some sessions
abbrev pub IsFormFault : Cluster → List Session → Form → WorkloadCause → Type 0
IsFormFault cluster before (session_line name region) told = IsSessionFault cluster before name region told
IsFormFault cluster before (call_line rank name args) told = IsCallFault cluster before name args told
IsFormFault cluster before (move_line rank key region) told = IsMoveFault cluster before key region told

-- the fault of a line after some sessions: it has no form, or its form has this fault
abbrev pub IsLineFault : Cluster → List Session → Bytes → WorkloadCause → Type 0
IsLineFault cluster before line told =
    ((told ≡ cause.Form) × ((form : Form) → ¬ (HasForm line form)))
    ⊎ ((form : Form) × HasForm line form × IsFormFault cluster before form told)

-- the first fault of a file: its lines up to the faulty one, which has this number and this fault, are some sessions
pub record IsWorkloadFault (cluster : Cluster) (file : Bytes) (number : ℕ) (told : WorkloadCause) : Type 0 where
  pub before : List FileLine
  pub faulty : FileLine
  pub after : List FileLine
  pub sessions : List Session
  pub cut : lines_of file ≡ before ++ faulty ∷ after
  pub fine : AreSessions cluster before sessions
  pub numbered : faulty.number ≡ number
  pub fault : IsLineFault cluster sessions faulty.bytes told
