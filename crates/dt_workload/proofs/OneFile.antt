-- Bytes are one workload of a cluster or have one fault, and never both.
use Rattle.dt_access.specs.Granules.{IsUnitKey}
use Rattle.dt_access.proofs.Callers.{same_key_other}
use Rattle.std.proofs.Common.{◌≡◌, ◌⊎◌, inl, inr, ℕ, zero, suc, ◌+◌, ◌<◌, ◌≤◌, ◌==◌, cond, not, nat_lt, List, [], ◌∷◌, ◌++◌}
use Rattle.std.proofs.Common.{eq-eqb}
use Rattle.std.proofs.Common.{length, lt-ltb}
use Rattle.std.proofs.Common.{map, slice_get, Some, None, refl, sym, ap, ◌∙◌, subst, arith, append_assoc, append-nil, length-append}
use Rattle.std.specs.Prelude.{nat_eq, IsSome}
use Rattle.std.specs.Option.{is_some, option_and_then}
use Rattle.std.specs.List.{position_or_len, sum_by}
use Rattle.std.specs.Cmp.Lexicographic.{pointwise, bytes_decides}
use Rattle.std.proofs.lemmas.List.{map-append}
use Rattle.std.proofs.lemmas.List.Sums.{sum_by-append}
use Rattle.std.proofs.lemmas.Option.{slice_get_within}
use Rattle.dt_lists.proofs.Callers.{same_head, same_tail, some_same}
use Rattle.dt_lists.specs.Lists.{AllIn, Has, Distinct, Pairwise}
use Rattle.dt_lists.proofs.Callers.{all_get, all_append_right, each_across, has_map}
use Rattle.dt_lists.proofs.Callers.{has_place}
use Rattle.dt_text.specs.Texts.{IsName}
use Rattle.dt_text.specs.Lines.{FileLine, lines_of}
use Rattle.dt_text.specs.declared.Value.{Value}
use Rattle.dt_proc.specs.Tree.{ProcTree}
use Rattle.dt_proc.specs.Names.{place_of_name}
use Rattle.dt_cluster.specs.declared.Cluster.{Cluster}
use Rattle.dt_cluster.specs.Valid.{IsValidCluster}
use Rattle.dt_text.specs.Texts.{Bytes}
use Rattle.dt_workload.specs.Lines.{Form, session_line, call_line, move_line, HasForm}
use Rattle.dt_workload.specs.File.{proc_name, wanted_line, ranked_line, all_lines, AreSessions, IsWorkload, Needs, NothingMore, proc_named, FitsIf, GivesKeys, IsFormFault, IsLineFault, IsWorkloadFault}
use Rattle.dt_workload.specs.Valid.{session_names, session_count_at, calls_in, WantedFits, RankedFits, IsValidSession, IsValidWorkload}
use Rattle.dt_workload.specs.declared.workload.Wanted.{Wanted}
use Rattle.dt_workload.specs.declared.workload.Wanted.TheVariants.{Call, Move}
use Rattle.dt_workload.specs.declared.workload.Ranked.{Ranked}
use Rattle.dt_workload.specs.declared.workload.Session.{Session}
use Rattle.dt_workload.specs.declared.workload.Workload.{Workload}
use Rattle.dt_workload.specs.declared.error.WorkloadCause.{WorkloadCause}
use Rattle.dt_workload.specs.declared.error.WorkloadCause.TheVariants as cause
use Rattle.dt_workload.proofs.OneForm.{one_form}

-- ---- the procedure of a name

abbrev HaveNames : List ProcTree → Type 0
HaveNames procs = Distinct (map (λ p. p.name) procs)

named_at : (procs : List ProcTree) (number : ℕ) (body : ProcTree) (name : Bytes) → HaveNames procs → slice_get procs number ≡ Some body → body.name ≡ name
    → position_or_len (λ p. pointwise nat_eq p.name name) procs ≡ number
named_at [] number body name once e is = cc
named_at (p ∷ ps) zero body name once e is =
    ap (λ b. cond (not b) (1 + position_or_len (λ p. pointwise nat_eq p.name name) ps) 0) ((bytes_decides p.name name).1 (ap (λ q. q.name) (some_same e) ∙ is))
named_at (p ∷ ps) (suc number) body name once e is =
    let next : 1 + number ≡ suc number = omega arith in
    let later = has_map (λ p. p.name) ps body (has_place ps number body e) in
    let other = same_key_other p.name name (λ same. all_get _ (map (λ p. p.name) ps) once.0 body.name later (same ∙ sym is)) in
    ap (λ b. cond (not b) (1 + position_or_len (λ p. pointwise nat_eq p.name name) ps) 0) other
    ∙ ap (λ n. 1 + n) (named_at ps number body name once.1 e is)
    ∙ next

found : (cluster : Cluster) (number : ℕ) (body : ProcTree) → HaveNames cluster.procs → slice_get cluster.procs number ≡ Some body → proc_named cluster body.name ≡ Some body
found cluster number body once e =
    let at = named_at cluster.procs number body body.name once e refl in
    let below = lt-ltb number (length cluster.procs) (slice_get_within cluster.procs number body e) in
    let place : place_of_name body.name cluster.procs ≡ Some number =
    ap (λ n. cond (nat_lt n (length cluster.procs)) (Some n) None) at ∙ ap (λ b. cond b (Some number) None) below in
    ap (option_and_then (slice_get cluster.procs)) place ∙ e

-- ---- calls and moves by their lines

call_rank : {r s : ℕ} {p q : Bytes} {a b : List Value} → call_line r p a ≡ call_line s q b → r ≡ s
call_rank e = cc

call_name : {r s : ℕ} {p q : Bytes} {a b : List Value} → call_line r p a ≡ call_line s q b → p ≡ q
call_name e = cc

call_args : {r s : ℕ} {p q : Bytes} {a b : List Value} → call_line r p a ≡ call_line s q b → a ≡ b
call_args e = cc

move_rank : {r s : ℕ} {k j : Bytes} {m n : ℕ} → move_line r k m ≡ move_line s j n → r ≡ s
move_rank e = cc

move_key : {r s : ℕ} {k j : Bytes} {m n : ℕ} → move_line r k m ≡ move_line s j n → k ≡ j
move_key e = cc

move_target : {r s : ℕ} {k j : Bytes} {m n : ℕ} → move_line r k m ≡ move_line s j n → m ≡ n
move_target e = cc

session_name : {k j : Bytes} {m n : ℕ} → session_line k m ≡ session_line j n → k ≡ j
session_name e = cc

session_region : {k j : Bytes} {m n : ℕ} → session_line k m ≡ session_line j n → m ≡ n
session_region e = cc

same_wanted : (cluster : Cluster) → HaveNames cluster.procs → (r s : ℕ) (v w : Wanted) → WantedFits cluster v → WantedFits cluster w
    → wanted_line cluster.procs r v ≡ wanted_line cluster.procs s w → (r ≡ s) × (v ≡ w)
same_wanted cluster once r s (Call m a) (Call n b) h k e =
    let names : k.body.name ≡ h.body.name = sym (ap proc_name k.named) ∙ sym (call_name e) ∙ ap proc_name h.named in
    let number : m ≡ n = sym (named_at cluster.procs m h.body h.body.name once h.named refl) ∙ named_at cluster.procs n k.body h.body.name once k.named names in
    let args = call_args e in
    (call_rank e, λ i. Call (number i) (args i))
same_wanted cluster once r s (Call m a) (Move j n) h k e = absurd cc
same_wanted cluster once r s (Move i m) (Call n b) h k e = absurd cc
same_wanted cluster once r s (Move k m) (Move j n) h l e =
    let key = move_key e in
    let target = move_target e in
    (move_rank e, λ i. Move (key i) (target i))

same_ranked : (cluster : Cluster) → HaveNames cluster.procs → (v w : Ranked) → RankedFits cluster v → RankedFits cluster w
    → ranked_line cluster.procs v ≡ ranked_line cluster.procs w → v ≡ w
same_ranked cluster once v w h k e =
    let same = same_wanted cluster once v.rank w.rank v.wanted w.wanted h.1 k.1 e in
    λ i. record { rank = same.0 i; wanted = same.1 i }

-- a session's line is not that of a call or move
not_of_session : (procs : List ProcTree) (name : Bytes) (region rank : ℕ) (w : Wanted) → session_line name region ≡ wanted_line procs rank w → ⊥
not_of_session procs name region rank (Call number args) e = cc
not_of_session procs name region rank (Move key target) e = cc

no_session_line : (procs : List ProcTree) (name : Bytes) (region : ℕ) (w : Ranked) → session_line name region ≡ ranked_line procs w → ⊥
no_session_line procs name region w e = not_of_session procs name region w.rank w.wanted e

-- lines of sessions do not begin with that of a call or move
no_wanted_first : (procs : List ProcTree) (xs : List Session) (w : Ranked) (more : List Form) → all_lines procs xs ≡ ranked_line procs w ∷ more → ⊥
no_wanted_first procs [] w more e = cc
no_wanted_first procs (x ∷ xs) w more e = no_session_line procs x.name x.region w (same_head e)

-- the one calls and moves are the others and more
record GoOn (procs : List ProcTree) (calls others : List Ranked) (rest : List Form) : Type 0 where
  pub wanted : Ranked
  pub later : List Ranked
  pub lines : List Form
  pub is : calls ≡ others ++ wanted ∷ later
  pub told : rest ≡ ranked_line procs wanted ∷ lines

split_calls : (cluster : Cluster) → HaveNames cluster.procs → (xs : List Session) (calls others : List Ranked) (rest : List Form)
    → AllIn (RankedFits cluster) calls → AllIn (RankedFits cluster) others
    → map (ranked_line cluster.procs) calls ++ all_lines cluster.procs xs ≡ map (ranked_line cluster.procs) others ++ rest
    → ((calls ≡ others) × (all_lines cluster.procs xs ≡ rest)) ⊎ GoOn cluster.procs calls others rest
split_calls cluster once xs [] [] rest h k e = inl (refl, e)
split_calls cluster once xs [] (w ∷ others) rest h k e = absurd (no_wanted_first cluster.procs xs w (map (ranked_line cluster.procs) others ++ rest) e)
split_calls cluster once xs (w ∷ calls) [] rest h k e =
    inr (record { wanted = w; later = calls; lines = map (ranked_line cluster.procs) calls ++ all_lines cluster.procs xs; is = refl; told = sym e })
split_calls cluster once xs (v ∷ calls) (w ∷ others) rest h k e =
    one_more (same_ranked cluster once v w h.0 k.0 (same_head e)) (split_calls cluster once xs calls others rest h.1 k.1 (same_tail e))
  where
    one_more : v ≡ w → ((calls ≡ others) × (all_lines cluster.procs xs ≡ rest)) ⊎ GoOn cluster.procs calls others rest
        → ((v ∷ calls ≡ w ∷ others) × (all_lines cluster.procs xs ≡ rest)) ⊎ GoOn cluster.procs (v ∷ calls) (w ∷ others) rest
    one_more same (inl (c, l)) = inl ((λ i. same i ∷ c i), l)
    one_more same (inr g) = inr (record { wanted = g.wanted; later = g.later; lines = g.lines; is = λ i. same i ∷ g.is i; told = g.told })

-- ---- sessions whose lines are those of others and more

-- one more session
record BySession (before all : List Session) (form : Form) : Type 0 where
  pub session : Session
  pub later : List Session
  pub is : all ≡ before ++ session ∷ later
  pub told : form ≡ session_line session.name session.region

abbrev longer : Session → Ranked → List Ranked → Session
longer session wanted later = record { name = session.name; region = session.region; calls = session.calls ++ wanted ∷ later }

-- one more call or move of the last session
record ByWanted (procs : List ProcTree) (before all : List Session) (form : Form) : Type 0 where
  pub front : List Session
  pub last : Session
  pub wanted : Ranked
  pub others : List Ranked
  pub later : List Session
  pub was : before ≡ front ++ last ∷ []
  pub is : all ≡ front ++ longer last wanted others ∷ later
  pub told : form ≡ ranked_line procs wanted

abbrev Onward : List ProcTree → List Session → List Session → List Form → Type 0
Onward procs before all [] = all ≡ before
Onward procs before all (form ∷ forms) = BySession before all form ⊎ ByWanted procs before all form

one_session_more : (procs : List ProcTree) (y x : Session) (ys xs : List Session) (rest : List Form) → x ≡ y → Onward procs ys xs rest → Onward procs (y ∷ ys) (x ∷ xs) rest
one_session_more procs y x ys xs [] same o = λ i. same i ∷ o i
one_session_more procs y x ys xs (form ∷ rest) same (inl o) = inl (record { session = o.session; later = o.later; is = λ i. same i ∷ o.is i; told = o.told })
one_session_more procs y x ys xs (form ∷ rest) same (inr o) =
    inr (record { front = y ∷ o.front; last = o.last; wanted = o.wanted; others = o.others; later = o.later; was = ap (λ l. y ∷ l) o.was; is = λ i. same i ∷ o.is i; told = o.told })

last_goes_on : (procs : List ProcTree) (y x : Session) (ys xs : List Session) (rest : List Form) → session_line x.name x.region ≡ session_line y.name y.region
    → GoOn procs x.calls y.calls (all_lines procs ys ++ rest) → Onward procs (y ∷ ys) (x ∷ xs) rest
last_goes_on procs y x [] xs [] head g = absurd (none g.told)
  where
    none : ◌≡◌ {A = List Form} [] (ranked_line procs g.wanted ∷ g.lines) → ⊥
    none e = cc
last_goes_on procs y x [] xs (form ∷ rest) head g =
    let name = session_name head in
    let region = session_region head in
    inr (record {
      front = [];
      last = y;
      wanted = g.wanted;
      others = g.later;
      later = xs;
      was = refl;
      is = λ i. record { name = name i; region = region i; calls = g.is i } ∷ xs;
      told = same_head g.told;
    })
last_goes_on procs y x (z ∷ ys) xs rest head g = absurd (no_session_line procs z.name z.region g.wanted (same_head g.told))

onward : (cluster : Cluster) → HaveNames cluster.procs → (before all : List Session) (rest : List Form)
    → AllIn (IsValidSession cluster) before → AllIn (IsValidSession cluster) all
    → all_lines cluster.procs all ≡ all_lines cluster.procs before ++ rest → Onward cluster.procs before all rest
onward cluster once [] [] [] h k e = refl
onward cluster once [] [] (form ∷ rest) h k e = absurd cc
onward cluster once [] (x ∷ xs) [] h k e = absurd cc
onward cluster once [] (x ∷ xs) (form ∷ rest) h k e = inl (record { session = x; later = xs; is = refl; told = sym (same_head e) })
onward cluster once (y ∷ ys) [] rest h k e = absurd cc
onward cluster once (y ∷ ys) (x ∷ xs) rest h k e =
    by (split_calls cluster once xs x.calls y.calls (all_lines cluster.procs ys ++ rest) k.0.calls h.0.calls
    (same_tail e ∙ append_assoc (map (ranked_line cluster.procs) y.calls) (all_lines cluster.procs ys) rest))
    (λ lines. onward cluster once ys xs rest h.1 k.1 lines)
  where
    head : session_line x.name x.region ≡ session_line y.name y.region
    head = same_head e

    by : ((x.calls ≡ y.calls) × (all_lines cluster.procs xs ≡ all_lines cluster.procs ys ++ rest)) ⊎ GoOn cluster.procs x.calls y.calls (all_lines cluster.procs ys ++ rest)
        → (all_lines cluster.procs xs ≡ all_lines cluster.procs ys ++ rest → Onward cluster.procs ys xs rest) → Onward cluster.procs (y ∷ ys) (x ∷ xs) rest
    by (inl (calls, lines)) later =
        one_session_more cluster.procs y x ys xs rest (λ i. record { name = session_name head i; region = session_region head i; calls = calls i }) (later lines)
    by (inr g) later = last_goes_on cluster.procs y x ys xs rest head g

-- ---- lines of a file

abbrev IsLine : FileLine → Form → Type 0
IsLine line form = HasForm line.bytes form

-- what is related to a front of a list is a front of what is related to the list
related_front : (xs more : List FileLine) (fs gs : List Form) → Pairwise IsLine (xs ++ more) fs → Pairwise IsLine xs gs
    → (rest : List Form) × (fs ≡ gs ++ rest) × Pairwise IsLine more rest
related_front [] more fs [] h k = (fs, refl, h)
related_front [] more fs (g ∷ gs) h k = absurd k
related_front (x ∷ xs) more [] gs h k = absurd h
related_front (x ∷ xs) more (f ∷ fs) [] h k = absurd k
related_front (x ∷ xs) more (f ∷ fs) (g ∷ gs) h k =
    let r : (rest : List Form) × (fs ≡ gs ++ rest) × Pairwise IsLine more rest = related_front xs more fs gs h.1 k.1 in
    (r.0, (λ i. one_form x.bytes f g h.0 k.0 i ∷ r.1 i), r.2)

one_sessions : (cluster : Cluster) → HaveNames cluster.procs → (lines : List FileLine) (s t : List Session) → AreSessions cluster lines s → AreSessions cluster lines t → t ≡ s
one_sessions cluster once lines s t h k =
    by (related_front lines [] (all_lines cluster.procs t) (all_lines cluster.procs s) (subst (λ l. Pairwise IsLine l (all_lines cluster.procs t)) (sym (append-nil lines)) k.lines) h.lines)
  where
    by : (rest : List Form) × (all_lines cluster.procs t ≡ all_lines cluster.procs s ++ rest) × Pairwise IsLine [] rest → t ≡ s
    by ([], e, none) = onward cluster once s t [] h.valid.sessions k.valid.sessions e
    by (form ∷ rest, e, none) = absurd none

-- ---- needs

abbrev HasNoCause : (WorkloadCause → Type 0) → Type 0
HasNoCause Told = (told : WorkloadCause) → Told told → ⊥

abbrev HasOneCause : (WorkloadCause → Type 0) → Type 0
HasOneCause Told = (a b : WorkloadCause) → Told a → Told b → a ≡ b

met : (P : Type 0) (why : WorkloadCause) (later : WorkloadCause → Type 0) → P → HasNoCause later → HasNoCause (Needs P why later)
met P why later p none told (inl h) = h.1 p
met P why later p none told (inr h) = none told h.1

all_met : HasNoCause NothingMore
all_met told h = h

one_need : (P : Type 0) (why : WorkloadCause) (later : WorkloadCause → Type 0) → HasOneCause later → HasOneCause (Needs P why later)
one_need P why later one a b (inl h) (inl k) = h.0 ∙ sym k.0
one_need P why later one a b (inl h) (inr k) = absurd (h.1 k.0)
one_need P why later one a b (inr h) (inl k) = absurd (k.1 h.0)
one_need P why later one a b (inr h) (inr k) = one a b h.1 k.1

no_need : HasOneCause NothingMore
no_need a b h k = absurd h

one_form_fault : (cluster : Cluster) (before : List Session) (form : Form) → HasOneCause (IsFormFault cluster before form)
one_form_fault cluster before (session_line name region) =
    one_need (IsName name) cause.Name _ (one_need (¬ (Has (session_names before) name)) cause.Twice _
    (one_need (region < cluster.regions) cause.Region _ (one_need (session_count_at region before < 64) cause.TooMany NothingMore no_need)))
one_form_fault cluster before (call_line rank name args) =
    one_need (¬ (before ≡ [])) cause.NoSession _ (one_need (IsSome (proc_named cluster name)) cause.Proc _
    (one_need (FitsIf (proc_named cluster name) args) cause.Args _ (one_need (GivesKeys (proc_named cluster name) args) cause.Key _
    (one_need (calls_in before < 20000) cause.TooMany NothingMore no_need))))
one_form_fault cluster before (move_line rank key region) =
    one_need (¬ (before ≡ [])) cause.NoSession _ (one_need (IsUnitKey cluster.version key) cause.Key _
    (one_need (region < cluster.regions) cause.Region _ (one_need (calls_in before < 20000) cause.TooMany NothingMore no_need)))

one_line_fault : (cluster : Cluster) (before : List Session) (line : Bytes) → HasOneCause (IsLineFault cluster before line)
one_line_fault cluster before line a b (inl h) (inl k) = h.0 ∙ sym k.0
one_line_fault cluster before line a b (inl h) (inr k) = absurd (h.1 k.0 k.1)
one_line_fault cluster before line a b (inr h) (inl k) = absurd (k.1 h.0 h.1)
one_line_fault cluster before line a b (inr h) (inr k) =
    one_form_fault cluster before h.0 a b h.2 (subst (λ f. IsFormFault cluster before f b) (one_form line k.0 h.0 k.1 h.1) k.2)

-- ---- what goes on to be sessions has no fault

-- what sessions are, whatever their lines
abbrev Fit : Cluster → List Session → Type 0
Fit cluster sessions = IsValidWorkload cluster (record { sessions = sessions })

sum_parts : {A : Type 0} (f : A → ℕ) (xs : List A) (y : A) (ys : List A) → sum_by f (xs ++ y ∷ ys) ≡ sum_by f xs + (f y + sum_by f ys)
sum_parts f xs y ys =
    let all : sum_by f (xs ++ y ∷ ys) ≡ sum_by f xs + sum_by f (y ∷ ys) = sum_by-append f xs (y ∷ ys) in
    let first : sum_by f (y ∷ ys) ≡ (0 + f y) + sum_by f ys = sum_by-append f (y ∷ []) ys in
    omega (arith, all, first)

fresh_name : (before : List Session) (x : Session) (xs : List Session) → Distinct (session_names (before ++ x ∷ xs)) → ¬ (Has (session_names before) x.name)
fresh_name before x xs once has =
    each_across (λ a b. ¬ (a ≡ b)) (session_names before) (session_names (x ∷ xs)) x.name x.name (subst Distinct (map-append (λ s. s.name) before (x ∷ xs)) once) has (inl refl) refl

room_there : (before : List Session) (x : Session) (xs : List Session) → session_count_at x.region (before ++ x ∷ xs) ≤ 64 → session_count_at x.region before < 64
room_there before x xs few =
    let at : ℕ → List Session → ℕ = session_count_at in
    let sum : at x.region (before ++ x ∷ xs) ≡ at x.region before + (cond (x.region == x.region) 1 0 + at x.region xs) = sum_parts (λ s. cond (s.region == x.region) 1 0) before x xs in
    let one : ◌≡◌ {A = ℕ} (cond (x.region == x.region) 1 0) 1 = ap (λ b. cond b 1 0) (eq-eqb x.region x.region refl) in
    omega (arith, few, sum, one)

no_session_fault : (cluster : Cluster) (before : List Session) (x : Session) (xs : List Session) → Fit cluster (before ++ x ∷ xs)
    → HasNoCause (IsFormFault cluster before (session_line x.name x.region))
no_session_fault cluster before x xs fit =
    let can_be = (all_append_right (IsValidSession cluster) before (x ∷ xs) fit.sessions).0 in
    met (IsName x.name) cause.Name _ can_be.name (met (¬ (Has (session_names before) x.name)) cause.Twice _ (fresh_name before x xs fit.names_once)
    (met (x.region < cluster.regions) cause.Region _ can_be.region
    (met (session_count_at x.region before < 64) cause.TooMany NothingMore (room_there before x xs (fit.few_sessions x.region)) all_met)))

some_before : (front : List Session) (last : Session) → ¬ (front ++ last ∷ [] ≡ [])
some_before [] last e = cc
some_before (x ∷ front) last e = cc

room_for_one : (front : List Session) (last : Session) (wanted : Ranked) (others : List Ranked) (later : List Session)
    → calls_in (front ++ longer last wanted others ∷ later) ≤ 20000 → calls_in (front ++ last ∷ []) < 20000
room_for_one front last wanted others later few =
    let sum : calls_in (front ++ longer last wanted others ∷ later) ≡ calls_in front + (length (last.calls ++ wanted ∷ others) + calls_in later) =
    sum_parts (λ s. length s.calls) front (longer last wanted others) later in
    let before : calls_in (front ++ last ∷ []) ≡ calls_in front + (length last.calls + 0) = sum_parts (λ s. length s.calls) front last [] in
    let calls = length-append last.calls (wanted ∷ others) in
    omega (arith, few, sum, before, calls)

no_wanted_fault : (cluster : Cluster) → HaveNames cluster.procs → (front : List Session) (last : Session) (wanted : Ranked) (others : List Ranked) (later : List Session)
    → Fit cluster (front ++ longer last wanted others ∷ later) → HasNoCause (IsFormFault cluster (front ++ last ∷ []) (ranked_line cluster.procs wanted))
no_wanted_fault cluster once front last wanted others later fit =
    let valid = (all_append_right (IsValidSession cluster) front (longer last wanted others ∷ later) fit.sessions).0 in
    by wanted.rank wanted.wanted (all_append_right (RankedFits cluster) last.calls (wanted ∷ others) valid.calls).0.1
  where
    room : HasNoCause (Needs (calls_in (front ++ last ∷ []) < 20000) cause.TooMany NothingMore)
    room = met (calls_in (front ++ last ∷ []) < 20000) cause.TooMany NothingMore (room_for_one front last wanted others later fit.few_calls) all_met

    by : (rank : ℕ) (w : Wanted) → WantedFits cluster w → HasNoCause (IsFormFault cluster (front ++ last ∷ []) (wanted_line cluster.procs rank w))
    by rank (Call number args) can =
        let name : Bytes = proc_name (slice_get cluster.procs number) in
        let is : proc_named cluster name ≡ Some can.body = ap (λ o. proc_named cluster (proc_name o)) can.named ∙ found cluster number can.body once can.named in
        met (¬ (front ++ last ∷ [] ≡ [])) cause.NoSession _ (some_before front last) (met (IsSome (proc_named cluster name)) cause.Proc _ (ap is_some is)
        (met (FitsIf (proc_named cluster name) args) cause.Args _ (subst (λ o. FitsIf o args) (sym is) can.fits)
        (met (GivesKeys (proc_named cluster name) args) cause.Key _ (subst (λ o. GivesKeys o args) (sym is) can.keys)
        room)))
    by rank (Move key target) can =
        met (¬ (front ++ last ∷ [] ≡ [])) cause.NoSession _ (some_before front last) (met (IsUnitKey cluster.version key) cause.Key _ can.0
        (met (target < cluster.regions) cause.Region _ can.1
        room))

no_onward_fault : (cluster : Cluster) → HaveNames cluster.procs → (before all : List Session) (form : Form) (rest : List Form)
    → Fit cluster all → Onward cluster.procs before all (form ∷ rest) → HasNoCause (IsFormFault cluster before form)
no_onward_fault cluster once before all form rest fit (inl o) told fault =
    no_session_fault cluster before o.session o.later (subst (Fit cluster) o.is fit) told (subst (λ f. IsFormFault cluster before f told) o.told fault)
no_onward_fault cluster once before all form rest fit (inr o) told fault =
    no_wanted_fault cluster once o.front o.last o.wanted o.others o.later (subst (Fit cluster) o.is fit) told
    (subst (λ b. IsFormFault cluster b (ranked_line cluster.procs o.wanted) told) o.was (subst (λ f. IsFormFault cluster before f told) o.told fault))

-- a line that is followed through to sessions has no fault after those of the lines before it
no_line_fault : (cluster : Cluster) → HaveNames cluster.procs → (before : List FileLine) (line : FileLine) (after : List FileLine) (s t : List Session) (told : WorkloadCause)
    → AreSessions cluster before s → AreSessions cluster (before ++ line ∷ after) t → IsLineFault cluster s line.bytes told → ⊥
no_line_fault cluster once before line after s t told h k fault =
    by (related_front before (line ∷ after) (all_lines cluster.procs t) (all_lines cluster.procs s) k.lines h.lines)
  where
    fit : Fit cluster t
    fit = k.valid

    has : (form : Form) (rest : List Form) → HasForm line.bytes form → all_lines cluster.procs t ≡ all_lines cluster.procs s ++ form ∷ rest → IsLineFault cluster s line.bytes told → ⊥
    has form rest is e (inl f) = f.1 form is
    has form rest is e (inr f) =
        no_onward_fault cluster once s t form rest fit (onward cluster once s t (form ∷ rest) h.valid.sessions k.valid.sessions e) told
        (subst (λ g. IsFormFault cluster s g told) (one_form line.bytes f.0 form f.1 is) f.2)

    by : (rest : List Form) × (all_lines cluster.procs t ≡ all_lines cluster.procs s ++ rest) × Pairwise IsLine (line ∷ after) rest → ⊥
    by ([], e, none) = none
    by (form ∷ rest, e, is) = has form rest is.0 e fault

-- ---- files

-- two cuts of a list before an item: at one place, or one of them further on
abbrev Cuts : List FileLine → FileLine → List FileLine → FileLine → Type 0
Cuts xs x ys y =
    ((xs ≡ ys) × (x ≡ y)) ⊎ (((more : List FileLine) × (ys ≡ xs ++ x ∷ more)) ⊎ ((more : List FileLine) × (xs ≡ ys ++ y ∷ more)))

cuts : (xs : List FileLine) (x : FileLine) (us ys : List FileLine) (y : FileLine) (vs : List FileLine) → xs ++ x ∷ us ≡ ys ++ y ∷ vs → Cuts xs x ys y
cuts [] x us [] y vs e = inl (refl, same_head e)
cuts [] x us (z ∷ ys) y vs e = inr (inl (ys, ap (λ l. l ∷ ys) (sym (same_head e))))
cuts (z ∷ xs) x us [] y vs e = inr (inr (xs, ap (λ l. l ∷ xs) (same_head e)))
cuts (z ∷ xs) x us (w ∷ ys) y vs e = one_more (same_head e) (cuts xs x us ys y vs (same_tail e))
  where
    one_more : z ≡ w → Cuts xs x ys y → Cuts (z ∷ xs) x (w ∷ ys) y
    one_more same (inl (l, k)) = inl ((λ i. same i ∷ l i), k)
    one_more same (inr (inl (more, l))) = inr (inl (more, λ i. sym same i ∷ l i))
    one_more same (inr (inr (more, l))) = inr (inr (more, λ i. same i ∷ l i))

-- bytes are one workload of a cluster
pub one_workload : (cluster : Cluster) → IsValidCluster cluster → (bytes : Bytes) (v w : Workload) → IsWorkload cluster bytes v → IsWorkload cluster bytes w → v ≡ w
one_workload cluster valid bytes v w h k =
    let same = one_sessions cluster valid.procs.distinct (lines_of bytes) w.sessions v.sessions k h in
    λ i. record { sessions = same i }

-- a workload has no fault
pub no_workload_fault : (cluster : Cluster) → IsValidCluster cluster → (bytes : Bytes) (v : Workload) (line : ℕ) (why : WorkloadCause)
    → IsWorkload cluster bytes v → IsWorkloadFault cluster bytes line why → ⊥
no_workload_fault cluster valid bytes v line why h k =
    no_line_fault cluster valid.procs.distinct k.before k.faulty k.after k.sessions v.sessions why k.fine
    (subst (λ l. AreSessions cluster l v.sessions) k.cut h) k.fault

-- bytes have one fault in a cluster
pub one_workload_fault : (cluster : Cluster) → IsValidCluster cluster → (bytes : Bytes) (l m : ℕ) (why how : WorkloadCause)
    → IsWorkloadFault cluster bytes l why → IsWorkloadFault cluster bytes m how → (l ≡ m) × (why ≡ how)
one_workload_fault cluster valid bytes l m why how h k =
    by (cuts h.before h.faulty h.after k.before k.faulty k.after (sym h.cut ∙ k.cut))
  where
    by : Cuts h.before h.faulty k.before k.faulty → (l ≡ m) × (why ≡ how)
    by (inl (front, line)) =
        let same = one_sessions cluster valid.procs.distinct h.before h.sessions k.sessions h.fine (subst (λ f. AreSessions cluster f k.sessions) (sym front) k.fine) in (
          sym h.numbered ∙ ap (λ f. f.number) line ∙ k.numbered,
          one_line_fault cluster h.sessions h.faulty.bytes why how h.fault
              (subst (λ s. IsLineFault cluster s h.faulty.bytes how) same (subst (λ f. IsLineFault cluster k.sessions f.bytes how) (sym line) k.fault)),
        )
    by (inr (inl (more, further))) =
        absurd (no_line_fault cluster valid.procs.distinct h.before h.faulty more h.sessions k.sessions why h.fine (subst (λ f. AreSessions cluster f k.sessions) further k.fine) h.fault)
    by (inr (inr (more, further))) =
        absurd (no_line_fault cluster valid.procs.distinct k.before k.faulty more k.sessions h.sessions how k.fine (subst (λ f. AreSessions cluster f h.sessions) further h.fine) k.fault)
