-- Inner words, for the private parts of the reader alone: what a line makes of the sessions so far, and why it makes
-- nothing. `File` says the same of whole files; a reader of the contracts of `dt_workload` can skip this file. Read next:
-- `File`.
use Rattle.dt_access.specs.Granules.{IsUnitKey}
use Rattle.std.specs.Prelude.{◌≡◌, ◌≢◌, ℕ, ◌<◌, ◌≤◌, ◌^◌, List, [], ◌∷◌, ◌++◌, slice_get, Option, MatchOption, IsSome}
use Rattle.std.specs.Fmt.{decimal}
use Rattle.dt_workload.specs.Lines as lines
use Rattle.dt_text.specs.Texts.{Bytes}
use Rattle.dt_workload.specs.Lines.{Said, bare, SpellForm, IsRanked, IsForm, HasForm}
use Rattle.dt_workload.specs.File.{proc_name, Needs, NothingMore, FitsIf, GivesKeys}
use Rattle.dt_workload.specs.Valid.{session_names, session_count_at, calls_in, wanting}
use Rattle.dt_proc.specs.Tree.{ProcTree}
use Rattle.dt_text.specs.declared.Value.{Value}
use Rattle.dt_lists.specs.Lists.{Has}
use Rattle.dt_text.specs.Texts.{IsName}
use Rattle.dt_eval.specs.Calls.{CallFits}
use Rattle.dt_eval.specs.Meaning.{HasKeys}
use Rattle.dt_cluster.specs.declared.Cluster.{Cluster}
use Rattle.dt_workload.specs.declared.form.Form.{Form}
use Rattle.dt_workload.specs.declared.form.Form.TheVariants as said_form
use Rattle.dt_workload.specs.declared.draft.Draft.{Draft}
use Rattle.dt_workload.specs.declared.error.WorkloadCause.{WorkloadCause}
use Rattle.dt_workload.specs.declared.error.WorkloadCause.TheVariants as cause
use Rattle.dt_workload.specs.declared.error.Refusal.{Refusal}
use Rattle.dt_workload.specs.declared.error.Refusal.TheVariants.{Cause, NoMemory}
use Rattle.dt_workload.specs.declared.workload.Ranked.{Ranked}
use Rattle.dt_workload.specs.declared.workload.Wanted.TheVariants.{Call, Move}
use Rattle.dt_workload.specs.declared.workload.Session.{Session}

-- the form that the reader's own value stands for
abbrev pub form_of : Form → lines.Form
form_of (said_form.Session name region) = lines.session_line name.now region
form_of (said_form.Call rank name args) = lines.call_line rank name.now args
form_of (said_form.Move rank key region) = lines.move_line rank key.now region

-- the answer is the form that these words say, and none where they say none
abbrev pub ReadsForm : List Said → Option Form → Type 0
ReadsForm words answer =
    MatchOption answer ((f : lines.Form) → IsForm f → ¬ SpellForm f words) (λ f. IsForm (form_of f) × SpellForm (form_of f) words)

-- the answer is the rank that a word says as the first one of a line of this kind, and none where it says none
abbrev pub ReadsRank : Bytes → Bytes → Option ℕ → Type 0
ReadsRank kind word answer =
    MatchOption answer ((rank : ℕ) → rank < 10 → ¬ IsRanked kind rank (bare word)) (λ rank. (rank < 10) × IsRanked kind rank (bare word))

-- the answer is the number of a region that these words say after a fixed one, and none where they say none
abbrev pub ReadsRegion : Bytes → List Said → Option ℕ → Type 0
ReadsRegion fixed words answer =
    MatchOption answer ((n : ℕ) → n < 2 ^ 32 → words ≢ bare fixed ∷ bare (decimal n) ∷ [])
    (λ n. (n < 2 ^ 32) × (words ≡ bare fixed ∷ bare (decimal n) ∷ []))

-- a refusal has a cause that holds, or memory ran out
abbrev pub Refuses : (WorkloadCause → Type 0) → Refusal → Type 0
Refuses IsCause (Cause why) = IsCause why
Refuses IsCause NoMemory = Unit {0}

-- the sessions after are those before, the last of which wants one thing more
abbrev pub IsWithWanted : List Session → Ranked → List Session → Type 0
IsWithWanted before wanted after =
    (others : List Session) × (last : Session) × (before ≡ others ++ last ∷ []) × (after ≡ others ++ wanting last wanted ∷ [])

-- a session of this name can begin at a region after some sessions: they do not have the name, there is such a region, and room at it
abbrev pub CanBegin : Cluster → List Session → Bytes → ℕ → Type 0
CanBegin cluster before name region = ¬ (Has (session_names before) name) × (region < cluster.regions) × (session_count_at region before < 64)

-- why no session of this name can begin at a region after some sessions
abbrev pub IsNoBeginning : Cluster → List Session → Bytes → ℕ → WorkloadCause → Type 0
IsNoBeginning cluster before name region told =
    Needs (¬ (Has (session_names before) name)) cause.Twice
    (Needs (region < cluster.regions) cause.Region
    (Needs (session_count_at region before < 64) cause.TooMany NothingMore)) told

-- a form goes on from some sessions: a session is one more, and a call or a move is wanted by the last one
abbrev pub FormGoesOn : Cluster → List Session → lines.Form → List Session → Type 0
FormGoesOn cluster before (lines.session_line name region) after =
    IsName name × ¬ (Has (session_names before) name) × (region < cluster.regions) × (session_count_at region before < 64)
    × (after ≡ before ++ record { name = name; region = region; calls = [] } ∷ [])
FormGoesOn cluster before (lines.call_line rank name args) after =
    (number : ℕ) × (proc_name (slice_get cluster.procs number) ≡ name) × CallFits cluster.procs number args
    × (calls_in before < 20000) × (rank < 10) × IsWithWanted before (record { rank = rank; wanted = Call number args }) after
FormGoesOn cluster before (lines.move_line rank key target) after =
    IsUnitKey cluster.version key × (target < cluster.regions) × (calls_in before < 20000) × (rank < 10) × IsWithWanted before (record { rank = rank; wanted = Move key target }) after

-- a line goes on from some sessions: by its form
abbrev pub LineGoesOn : Cluster → List Session → Bytes → List Session → Type 0
LineGoesOn cluster before line after = (form : lines.Form) × HasForm line form × FormGoesOn cluster before form after

-- why there is no call of this procedure: it needs a procedure, arguments that fit it, and keys
abbrev pub IsNoCall : Option ProcTree → List Value → WorkloadCause → Type 0
IsNoCall proc args told =
    Needs (IsSome proc) cause.Proc (Needs (FitsIf proc args) cause.Args (Needs (GivesKeys proc args) cause.Key NothingMore)) told

-- the arguments give no key
abbrev pub IsNoKey : ProcTree → List Value → WorkloadCause → Type 0
IsNoKey proc args told = (told ≡ cause.Key) × ¬ (HasKeys proc args)

-- the calls and moves are counted, and not too many
abbrev pub HasCount : Draft → Type 0
HasCount draft = (draft.made ≡ calls_in draft.sessions.items) × (calls_in draft.sessions.items ≤ 20000)
