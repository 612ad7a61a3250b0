-- Every file is a workload or has a fault: each line goes on the sessions of those before it, or is the first faulty one.
use Rattle.std.proofs.Common.{◌≡◌, ◌⊎◌, inl, inr, ℕ, ◌<◌, List, [], ◌∷◌, ◌++◌, map, slice_get, Option, Some, None, IsSome}
use Rattle.std.proofs.Common.{refl, sym, ap, ◌∙◌, subst, append_assoc, append-nil}
use Rattle.std.specs.Option.{option_and_then}
use Rattle.std.proofs.lemmas.Option.{same_Some}
use Rattle.dt_lists.specs.Lists.{Has, Pairwise, Either}
use Rattle.dt_lists.proofs.Callers.{either_and, either_not, either_all, either_has}
use Rattle.dt_access.specs.Granules.{IsUnitKey, unit_of}
use Rattle.dt_text.specs.Texts.{IsKey, IsName}
use Rattle.dt_text.specs.Lines.{FileLine, lines_of}
use Rattle.dt_text.specs.Reading.{words_of}
use Rattle.dt_text.proofs.Callers.{exact}
use Rattle.dt_text.specs.declared.Word.{Word}
use Rattle.dt_text.specs.declared.Value.{Value}
use Rattle.dt_text.specs.declared.Value.TheVariants as val
use Rattle.dt_proc.specs.Tree.{ProcTree}
use Rattle.dt_proc.specs.Names.{place_of_name}
use Rattle.dt_proc.specs.Sound.{IsSoundProc}
use Rattle.dt_syntax.specs.declared.kinds.Kind.{Kind}
use Rattle.dt_syntax.specs.declared.kinds.Kind.TheVariants as kind
use Rattle.dt_eval.specs.Meaning.{IsOfKind, names_of}
use Rattle.dt_eval.specs.Calls.{CallFits}
use Rattle.dt_cluster.specs.declared.Cluster.{Cluster}
use Rattle.dt_cluster.specs.Valid.{IsValidCluster}
use Rattle.dt_text.specs.Texts.{Bytes}
use Rattle.dt_workload.specs.Lines.{said, Form, session_line, call_line, move_line, SpellForm, HasForm, IsForm}
use Rattle.dt_workload.specs.Valid.{session_names, session_count_at, calls_in, wanting}
use Rattle.dt_workload.specs.File.{AreSessions, IsWorkload, Needs, NothingMore, FitsIf, GivesKeys, proc_name, proc_named}
use Rattle.dt_workload.specs.File.{IsFormFault, IsLineFault, IsWorkloadFault}
use Rattle.dt_workload.specs.ReaderInner.{FormGoesOn, LineGoesOn, IsWithWanted}
use Rattle.dt_workload.specs.Laws.{WorkloadFilesHaveAnOutcome}
use Rattle.dt_workload.specs.declared.workload.Ranked.{Ranked}
use Rattle.dt_workload.specs.declared.workload.Wanted.TheVariants.{Call, Move}
use Rattle.dt_workload.specs.declared.workload.Session.{Session}
use Rattle.dt_workload.specs.declared.workload.Workload.{Workload}
use Rattle.dt_workload.specs.declared.error.WorkloadCause.{WorkloadCause}
use Rattle.dt_workload.specs.declared.error.WorkloadCause.TheVariants as cause
use Rattle.dt_workload.proofs.Decisions.{SayForm, either_form}
use Rattle.dt_text.proofs.Callers.{either_bytes, either_lt, either_key, either_name}
use Rattle.dt_workload.proofs.Forms.{no_form}
use Rattle.dt_workload.proofs.Steps.{none_read, line_read, named_word, all_at}

-- a form goes on some sessions, or has a fault after them
abbrev FormComesTo : Cluster → List Session → Form → Type 0
FormComesTo cluster before form =
    ((after : List Session) × FormGoesOn cluster before form after) ⊎ ((told : WorkloadCause) × IsFormFault cluster before form told)

-- what is needed is there, and more is to be said; or it is the fault
need : (P : Type 0) (why : WorkloadCause) (later : WorkloadCause → Type 0) (Q : Type 0) → Either P → (P → Q ⊎ ((told : WorkloadCause) × later told))
    → Q ⊎ ((told : WorkloadCause) × Needs P why later told)
need P why later Q (inr not_so) more = inr (why, inl (refl, not_so))
need P why later Q (inl p) more = onward (more p)
  where
    onward : Q ⊎ ((told : WorkloadCause) × later told) → Q ⊎ ((told : WorkloadCause) × Needs P why later told)
    onward (inl q) = inl q
    onward (inr (told, fault)) = inr (told, inr (p, fault))

either_new : (names : List Bytes) (name : Bytes) → Either (¬ (Has names name))
either_new names name = either_not (Has names name) (either_has names name either_bytes)

either_some : (before : List Session) → Either (¬ (before ≡ []))
either_some [] = inr (λ not_so. not_so refl)
either_some (x ∷ before) = inl (λ e. cc)

session_comes_to : (cluster : Cluster) (before : List Session) (name : Bytes) (region : ℕ) → FormComesTo cluster before (session_line name region)
session_comes_to cluster before name region =
    need (IsName name) cause.Name _ _ (either_name name) (λ named.
    need (¬ (Has (session_names before) name)) cause.Twice _ _ (either_new (session_names before) name) (λ new.
    need (region < cluster.regions) cause.Region _ _ (either_lt region cluster.regions) (λ there.
    need (session_count_at region before < 64) cause.TooMany NothingMore _ (either_lt (session_count_at region before) 64) (λ room.
    inl (before ++ record { name = name; region = region; calls = [] } ∷ [], (named, new, there, room, refl))))))

-- sessions of which there are some have a last one
last_of : (before : List Session) → ¬ (before ≡ []) → (others : List Session) × (last : Session) × (before ≡ others ++ last ∷ [])
last_of [] some = absurd (some refl)
last_of (x ∷ []) some = ([], x, refl)
last_of (x ∷ y ∷ before) some =
    let rest = last_of (y ∷ before) (λ e. cc) in
    (x ∷ rest.0, rest.1, ap (λ xs. x ∷ xs) rest.2)

with_wanted : (before : List Session) → ¬ (before ≡ []) → (wanted : Ranked) → (after : List Session) × IsWithWanted before wanted after
with_wanted before some wanted =
    let cut = last_of before some in
    (cut.0 ++ wanting cut.1 wanted ∷ [], (cut.0, cut.1, cut.2, refl))

either_movable : (version : ℕ) (key : Bytes) → Either (IsUnitKey version key)
either_movable version key = either_and _ _ (either_key key) (either_bytes (unit_of version key) key)

move_comes_to : (cluster : Cluster) (before : List Session) (rank : ℕ) → rank < 10 → (key : Bytes) (region : ℕ) → FormComesTo cluster before (move_line rank key region)
move_comes_to cluster before rank digit key region =
    need (¬ (before ≡ [])) cause.NoSession _ _ (either_some before) (λ some.
    need (IsUnitKey cluster.version key) cause.Key _ _ (either_movable cluster.version key) (λ is.
    need (region < cluster.regions) cause.Region _ _ (either_lt region cluster.regions) (λ there.
    need (calls_in before < 20000) cause.TooMany NothingMore _ (either_lt (calls_in before) 20000) (λ room.
    let after = with_wanted before some (record { rank = rank; wanted = Move key region }) in
    inl (after.0, (is, there, room, digit, after.1))))))

-- ---- calls

either_of_kind : (k : Kind) (v : Value) → Either (IsOfKind k v)
either_of_kind kind.Int (val.Int z) = inl tt
either_of_kind kind.Int (val.Text t) = inr (λ not_so. not_so)
either_of_kind kind.Text (val.Int z) = inr (λ not_so. not_so)
either_of_kind kind.Text (val.Text t) = inl tt

either_fits : (kinds : List Kind) (args : List Value) → Either (Pairwise IsOfKind kinds args)
either_fits [] [] = inl tt
either_fits [] (v ∷ args) = inr (λ not_so. not_so)
either_fits (k ∷ kinds) [] = inr (λ not_so. not_so)
either_fits (k ∷ kinds) (v ∷ args) = either_and _ _ (either_of_kind k v) (either_fits kinds args)

either_named : (found : Option ProcTree) → Either (IsSome found)
either_named None = inr (λ e. cc)
either_named (Some p) = inl refl

either_fits_if : (found : Option ProcTree) (args : List Value) → Either (FitsIf found args)
either_fits_if None args = inr (λ not_so. not_so)
either_fits_if (Some p) args = either_fits p.params args

either_gives_keys : (found : Option ProcTree) (args : List Value) → Either (GivesKeys found args)
either_gives_keys None args = inr (λ not_so. not_so)
either_gives_keys (Some p) args = either_all IsKey (names_of p args) either_key

-- a procedure that is found by its name has a number
numbered : (procs : List ProcTree) (place : Option ℕ) (p : ProcTree) → option_and_then (slice_get procs) place ≡ Some p
    → (number : ℕ) × (place ≡ Some number) × (slice_get procs number ≡ Some p)
numbered procs None p e = absurd cc
numbered procs (Some number) p e = (number, refl, e)

call_goes_on : (cluster : Cluster) → IsValidCluster cluster → (before : List Session) (rank : ℕ) → rank < 10 → (name : Bytes) (args : List Value) (found : Option ProcTree) → proc_named cluster name ≡ found
    → ¬ (before ≡ []) → FitsIf found args → GivesKeys found args → calls_in before < 20000
    → (after : List Session) × FormGoesOn cluster before (call_line rank name args) after
call_goes_on cluster valid before rank digit name args None is some fits keys room = absurd fits
call_goes_on cluster valid before rank digit name args (Some p) is some fits keys room =
    let at = numbered cluster.procs (place_of_name name cluster.procs) p is in
    let after = with_wanted before some (record { rank = rank; wanted = Call at.0 args }) in
    let name_is : proc_name (slice_get cluster.procs at.0) ≡ name = ap proc_name at.2 ∙ named_word cluster.procs name at.0 p at.1 at.2 in
    let sound = all_at IsSoundProc cluster.procs at.0 p valid.procs.sound at.2 in
    let call : CallFits cluster.procs at.0 args = record { body = p; named = at.2; sound = sound; fits = fits; keys = keys } in
    (after.0, (at.0, name_is, call, room, digit, after.1))

call_comes_to : (cluster : Cluster) → IsValidCluster cluster → (before : List Session) (rank : ℕ) → rank < 10 → (name : Bytes) (args : List Value)
    → FormComesTo cluster before (call_line rank name args)
call_comes_to cluster valid before rank digit name args =
    let found = proc_named cluster name in
    need (¬ (before ≡ [])) cause.NoSession _ _ (either_some before) (λ some.
    need (IsSome found) cause.Proc _ _ (either_named found) (λ named.
    need (FitsIf found args) cause.Args _ _ (either_fits_if found args) (λ fits.
    need (GivesKeys found args) cause.Key _ _ (either_gives_keys found args) (λ keys.
    need (calls_in before < 20000) cause.TooMany NothingMore _ (either_lt (calls_in before) 20000) (λ room.
    inl (call_goes_on cluster valid before rank digit name args found refl some fits keys room))))))

form_comes_to : (cluster : Cluster) → IsValidCluster cluster → (before : List Session) (form : Form) → IsForm form → FormComesTo cluster before form
form_comes_to cluster valid before (session_line name region) is = session_comes_to cluster before name region
form_comes_to cluster valid before (call_line rank name args) is = call_comes_to cluster valid before rank is.0 name args
form_comes_to cluster valid before (move_line rank key region) is = move_comes_to cluster before rank is.0 key region

-- ---- lines

-- a line goes on some sessions, or has a fault after them
abbrev LineComesTo : Cluster → List Session → Bytes → Type 0
LineComesTo cluster before line =
    ((after : List Session) × LineGoesOn cluster before line after) ⊎ ((told : WorkloadCause) × IsLineFault cluster before line told)

of_form : (cluster : Cluster) (before : List Session) (line : Bytes) (form : Form) → HasForm line form → FormComesTo cluster before form → LineComesTo cluster before line
of_form cluster before line form has (inl (after, on)) = inl (after, (form, has, on))
of_form cluster before line form has (inr (told, fault)) = inr (told, inr (form, has, fault))

of_words : (cluster : Cluster) → IsValidCluster cluster → (before : List Session) (line : Bytes) (words : List Word) → words_of line ≡ Some words
    → Either (SayForm (map (said line) words)) → LineComesTo cluster before line
of_words cluster valid before line words is (inl (form, fits, says)) =
    of_form cluster before line form (fits, (words, (exact line words).0 is, says)) (form_comes_to cluster valid before form fits)
of_words cluster valid before line words is (inr not_so) = inr (cause.Form, inl (refl, none))
  where
    none : (form : Form) → ¬ (HasForm line form)
    none form has =
        let same : has.1.0 ≡ words = same_Some _ _ (sym ((exact line has.1.0).1 has.1.1) ∙ is) in
        not_so (form, has.0, subst (λ ws. SpellForm form (map (said line) ws)) same has.1.2)

line_comes_to : (cluster : Cluster) → IsValidCluster cluster → (before : List Session) (line : Bytes) (words : Option (List Word)) → words_of line ≡ words
    → LineComesTo cluster before line
line_comes_to cluster valid before line None is = inr (cause.Form, inl (refl, no_form line is))
line_comes_to cluster valid before line (Some words) is = of_words cluster valid before line words is (either_form (map (said line) words))

-- ---- files

-- some lines are sessions, or one of them is the first faulty one
abbrev LinesComeTo : Cluster → List FileLine → Type 0
LinesComeTo cluster lines =
    ((sessions : List Session) × AreSessions cluster lines sessions)
    ⊎ ((before : List FileLine) × (faulty : FileLine) × (after : List FileLine) × (sessions : List Session) × (told : WorkloadCause)
    × (lines ≡ before ++ faulty ∷ after) × AreSessions cluster before sessions × IsLineFault cluster sessions faulty.bytes told)

-- a line after lines that are some sessions, and what the lines behind it come to where it goes on
line_and_more : (cluster : Cluster) (read : List FileLine) (line : FileLine) (more : List FileLine) (sessions : List Session) → AreSessions cluster read sessions
    → ((after : List Session) → AreSessions cluster (read ++ line ∷ []) after → LinesComeTo cluster ((read ++ line ∷ []) ++ more))
    → LineComesTo cluster sessions line.bytes → LinesComeTo cluster (read ++ line ∷ more)
line_and_more cluster read line more sessions are onward (inr (told, fault)) = inr (read, line, more, sessions, told, refl, are, fault)
line_and_more cluster read line more sessions are onward (inl (after, on)) =
    subst (LinesComeTo cluster) (append_assoc read (line ∷ []) more) (onward after (line_read cluster read line sessions after are on))

lines_come_to : (cluster : Cluster) → IsValidCluster cluster → (read more : List FileLine) (sessions : List Session) → AreSessions cluster read sessions
    → LinesComeTo cluster (read ++ more)
lines_come_to cluster valid read [] sessions are = inl (sessions, subst (λ ls. AreSessions cluster ls sessions) (sym (append-nil read)) are)
lines_come_to cluster valid read (line ∷ more) sessions are =
    line_and_more cluster read line more sessions are
    (λ after fine. lines_come_to cluster valid (read ++ line ∷ []) more after fine)
    (line_comes_to cluster valid sessions line.bytes (words_of line.bytes) refl)

-- in a cluster, every file is a workload or has a fault
pub every_file : WorkloadFilesHaveAnOutcome
every_file cluster valid file = by (lines_come_to cluster valid [] (lines_of file) [] (none_read cluster))
  where
    by : LinesComeTo cluster (lines_of file)
        → ((workload : Workload) × IsWorkload cluster file workload) ⊎ ((line : ℕ) × (why : WorkloadCause) × IsWorkloadFault cluster file line why)
    by (inl (sessions, are)) = inl (record { sessions = sessions }, are)
    by (inr (before, faulty, after, sessions, told, cut, fine, fault)) =
        inr (
          faulty.number,
          told,
          record {
            before = before;
            faulty = faulty;
            after = after;
            sessions = sessions;
            cut = cut;
            fine = fine;
            numbered = refl;
            fault = fault;
          },
        )
