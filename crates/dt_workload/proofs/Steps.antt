-- What one line more makes of sessions.
use Rattle.std.proofs.Common.{◌≡◌, ℕ, ◌+◌, ◌<◌, ◌≤◌, ◌==◌, Bool, true, false, cond, nat_eq, List, [], ◌∷◌, ◌++◌, map, length, slice_get, Some, refl}
use Rattle.std.proofs.Common.{eqb-true}
use Rattle.std.proofs.Common.{ap, sym, ◌∙◌, subst, arith, append_assoc, append-nil}
use Rattle.std.specs.Option.{option_and_then}
use Rattle.std.specs.Cmp.Lexicographic.{pointwise, bytes_decides}
use Rattle.std.proofs.lemmas.List.{length_push, map-append}
use Rattle.std.proofs.lemmas.List.Sums.{sum_by-append}
use Rattle.std.proofs.lemmas.List.Quantifiers.{position-Some}
use Rattle.std.proofs.lemmas.Option.{get_or_from_slice_get}
use Rattle.dt_lists.specs.Lists.{AllIn, Has, Pairwise}
use Rattle.dt_lists.proofs.Callers.{all_append, all_append_left, all_append_right, all_get, distinct_push, has_place, pairwise_more}
use Rattle.dt_text.specs.Lines.{FileLine}
use Rattle.dt_proc.specs.Tree.{ProcTree}
use Rattle.dt_proc.specs.Names.{place_of_name}
use Rattle.dt_cluster.specs.declared.Cluster.{Cluster}
use Rattle.dt_text.specs.Texts.{Bytes}
use Rattle.dt_workload.specs.Lines.{Form, session_line, call_line, move_line, HasForm}
use Rattle.dt_workload.specs.File.{ranked_line, session_lines, all_lines, AreSessions, proc_named}
use Rattle.dt_workload.specs.Valid.{session_names, session_count_at, calls_in, RankedFits, IsValidSession, IsValidWorkload, wanting}
use Rattle.dt_workload.specs.ReaderInner.{IsWithWanted, FormGoesOn, LineGoesOn}
use Rattle.dt_workload.specs.declared.workload.Ranked.{Ranked}
use Rattle.dt_workload.specs.declared.workload.Wanted.TheVariants.{Call, Move}
use Rattle.dt_workload.specs.declared.workload.Session.{Session}
use Rattle.dt_workload.specs.declared.workload.Workload.{Workload}

pub all_at : {A : Type 0} (P : A → Type 0) (xs : List A) (i : ℕ) (x : A) → AllIn P xs → slice_get xs i ≡ Some x → P x
all_at P xs i x all is = all_get P xs all x (has_place xs i x is)

-- the procedure at the place of a name has the name
pub named_word : (procs : List ProcTree) (word : Bytes) (number : ℕ) (p : ProcTree) → place_of_name word procs ≡ Some number → slice_get procs number ≡ Some p → p.name ≡ word
named_word procs word number p place is =
    let found = position-Some (λ q. pointwise nat_eq q.name word) procs number p place in
    (bytes_decides p.name word).0 (ap (λ q. pointwise nat_eq q.name word) (sym (get_or_from_slice_get procs number p p is)) ∙ found.1)

pub found_proc : (cluster : Cluster) (word : Bytes) (number : ℕ) → place_of_name word cluster.procs ≡ Some number → proc_named cluster word ≡ slice_get cluster.procs number
found_proc cluster word number place = ap (λ o. option_and_then (slice_get cluster.procs) o) place

lines_more : (procs : List ProcTree) (others : List Session) (last : Session) → all_lines procs (others ++ last ∷ []) ≡ all_lines procs others ++ session_lines procs last
lines_more procs [] last = append-nil (session_lines procs last)
lines_more procs (s ∷ others) last = ap (λ ls. session_lines procs s ++ ls) (lines_more procs others last) ∙ sym (append_assoc (session_lines procs s) (all_lines procs others) (session_lines procs last))

lines_wanting : (procs : List ProcTree) (others : List Session) (last : Session) (w : Ranked)
    → all_lines procs (others ++ wanting last w ∷ []) ≡ all_lines procs (others ++ last ∷ []) ++ ranked_line procs w ∷ []
lines_wanting procs others last w =
    lines_more procs others (wanting last w)
    ∙ ap (λ ls. all_lines procs others ++ session_line last.name last.region ∷ ls) (map-append (ranked_line procs) last.calls (w ∷ []))
    ∙ sym (append_assoc (all_lines procs others) (session_lines procs last) (ranked_line procs w ∷ []))
    ∙ ap (λ ls. ls ++ ranked_line procs w ∷ []) (sym (lines_more procs others last))

names_wanting : (others : List Session) (last : Session) (w : Ranked) → session_names (others ++ wanting last w ∷ []) ≡ session_names (others ++ last ∷ [])
names_wanting [] last w = refl
names_wanting (s ∷ others) last w = ap (λ ns. s.name ∷ ns) (names_wanting others last w)

at_wanting : (region : ℕ) (others : List Session) (last : Session) (w : Ranked) → session_count_at region (others ++ wanting last w ∷ []) ≡ session_count_at region (others ++ last ∷ [])
at_wanting region others last w =
    sum_by-append (λ (s : Session). cond (s.region == region) 1 0) others (wanting last w ∷ [])
    ∙ sym (sum_by-append (λ (s : Session). cond (s.region == region) 1 0) others (last ∷ []))

calls_wanting : (others : List Session) (last : Session) (w : Ranked) → calls_in (others ++ wanting last w ∷ []) ≡ calls_in (others ++ last ∷ []) + 1
calls_wanting others last w =
    let a = sum_by-append (λ (s : Session). length s.calls) others (wanting last w ∷ []) in
    let b = sum_by-append (λ (s : Session). length s.calls) others (last ∷ []) in
    let n = length_push last.calls w in
    omega (arith, a, b, n)

none_at : (region : ℕ) → session_count_at region [] ≤ 64
none_at region = omega arith

-- no lines are no sessions
pub none_read : (cluster : Cluster) → AreSessions cluster [] []
none_read cluster = record { lines = tt; valid = record { sessions = tt; names_once = tt; few_sessions = none_at; few_calls = omega arith } }

one_more_at : (b : Bool) (n : ℕ) → (b ≡ true → n < 64) → n ≤ 64 → n + (0 + cond b 1 0) ≤ 64
one_more_at true n room few = let r = room refl in omega arith
one_more_at false n room few = omega arith

room_at : (region : ℕ) (before : List Session) (x : Session) → session_count_at x.region before < 64 → session_count_at region before ≤ 64
    → session_count_at region (before ++ x ∷ []) ≤ 64
room_at region before x room few =
    let room_if : (x.region == region) ≡ true → session_count_at region before < 64 = λ e. subst (λ r. session_count_at r before < 64) (eqb-true x.region region e) room in
    rw (sum_by-append (λ (s : Session). cond (s.region == region) 1 0) before (x ∷ []))
    (one_more_at (x.region == region) (session_count_at region before) room_if few)

-- some lines and their forms
abbrev Say : List FileLine → List Form → Type 0
Say ls forms = Pairwise (λ (l : FileLine) form. HasForm l.bytes form) ls forms

say_more : (ls : List FileLine) (forms : List Form) (line : FileLine) (form : Form) → Say ls forms → HasForm line.bytes form → Say (ls ++ line ∷ []) (forms ++ form ∷ [])
say_more ls forms line form say has = pairwise_more (λ (l : FileLine) form. HasForm l.bytes form) ls forms line form say has

say_session : (procs : List ProcTree) (ls : List FileLine) (line : FileLine) (before : List Session) (x : Session) → Say ls (all_lines procs before) → x.calls ≡ []
    → HasForm line.bytes (session_line x.name x.region) → Say (ls ++ line ∷ []) (all_lines procs (before ++ x ∷ []))
say_session procs ls line before x say none has =
    let first : Form = session_line x.name x.region in
    let wants : List Ranked → Type 0 = λ ws. Say (ls ++ line ∷ []) (all_lines procs before ++ first ∷ map (ranked_line procs) ws) in
    rw (lines_more procs before x) (subst wants (sym none) (say_more ls (all_lines procs before) line first say has))

-- sessions of which the last wants nothing yet, and which may begin
session_valid : (cluster : Cluster) (before : List Session) (x : Session) → IsValidWorkload cluster (record { sessions = before })
    → IsValidSession cluster x → x.calls ≡ [] → ¬ (Has (session_names before) x.name) → session_count_at x.region before < 64
    → IsValidWorkload cluster (record { sessions = before ++ x ∷ [] })
session_valid cluster before x valid can none new room =
    record {
      sessions = all_append (IsValidSession cluster) before (x ∷ []) valid.sessions (can, tt);
      names_once = rw (map-append (λ (s : Session). s.name) before (x ∷ [])) (distinct_push (session_names before) x.name valid.names_once new);
      few_sessions = λ region. room_at region before x room (valid.few_sessions region);
      few_calls = rw (sum_by-append (λ (s : Session). length s.calls) before (x ∷ []), none) (omega (arith, valid.few_calls));
    }

can_be_wanting : (cluster : Cluster) (last : Session) (w : Ranked) → IsValidSession cluster last → RankedFits cluster w
    → IsValidSession cluster (wanting last w)
can_be_wanting cluster last w can wanted =
    record { name = can.name; region = can.region; calls = all_append (RankedFits cluster) last.calls (w ∷ []) can.calls (wanted, tt) }

-- sessions of which the last wants one thing more
wanting_valid : (cluster : Cluster) (others : List Session) (last : Session) (w : Ranked) → IsValidWorkload cluster (record { sessions = others ++ last ∷ [] })
    → RankedFits cluster w → calls_in (others ++ last ∷ []) < 20000 → IsValidWorkload cluster (record { sessions = others ++ wanting last w ∷ [] })
wanting_valid cluster others last w valid can room =
    let P = IsValidSession cluster in
    let last_can = (all_append_right P others (last ∷ []) valid.sessions).0 in
    record {
      sessions = all_append P others (wanting last w ∷ []) (all_append_left P others (last ∷ []) valid.sessions) (can_be_wanting cluster last w last_can can, tt);
      names_once = rw (names_wanting others last w) valid.names_once;
      few_sessions = λ region. rw (at_wanting region others last w) (valid.few_sessions region);
      few_calls = rw (calls_wanting others last w) (omega (arith, room));
    }

wanted_read : (cluster : Cluster) (ls : List FileLine) (line : FileLine) (others : List Session) (last : Session) (w : Ranked) → AreSessions cluster ls (others ++ last ∷ [])
    → RankedFits cluster w → HasForm line.bytes (ranked_line cluster.procs w) → calls_in (others ++ last ∷ []) < 20000
    → AreSessions cluster (ls ++ line ∷ []) (others ++ wanting last w ∷ [])
wanted_read cluster ls line others last w are can has room =
    record {
      lines = rw (lines_wanting cluster.procs others last w) (say_more ls (all_lines cluster.procs (others ++ last ∷ [])) line (ranked_line cluster.procs w) are.lines has);
      valid = wanting_valid cluster others last w are.valid can room;
    }

wanted_goes_on : (cluster : Cluster) (ls : List FileLine) (line : FileLine) (before after : List Session) (w : Ranked) → AreSessions cluster ls before
    → RankedFits cluster w → HasForm line.bytes (ranked_line cluster.procs w) → calls_in before < 20000 → IsWithWanted before w after
    → AreSessions cluster (ls ++ line ∷ []) after
wanted_goes_on cluster ls line before after w are can has room with =
    rw with.3 (wanted_read cluster ls line with.0 with.1 w (subst (AreSessions cluster ls) with.2 are) can has (subst (λ s. calls_in s < 20000) with.2 room))

form_read : (cluster : Cluster) (ls : List FileLine) (line : FileLine) (before after : List Session) (form : Form) → AreSessions cluster ls before → HasForm line.bytes form
    → FormGoesOn cluster before form after → AreSessions cluster (ls ++ line ∷ []) after
form_read cluster ls line before after (session_line name region) are has on =
    let x : Session = record { name = name; region = region; calls = [] } in
    let can : IsValidSession cluster x = record { name = on.0; region = on.2; calls = tt } in
    rw on.4 (record { lines = say_session cluster.procs ls line before x are.lines refl has; valid = session_valid cluster before x are.valid can refl on.1 on.3 })
form_read cluster ls line before after (call_line rank name args) are has on =
    wanted_goes_on cluster ls line before after (record { rank = rank; wanted = Call on.0 args }) are (on.4, on.2)
    (subst (λ n. HasForm line.bytes (call_line rank n args)) (sym on.1) has) on.3 on.5
form_read cluster ls line before after (move_line rank key target) are has on =
    wanted_goes_on cluster ls line before after (record { rank = rank; wanted = Move key target }) are (on.3, (on.0, on.1)) has on.2 on.4

-- one line more, by which sessions go on
pub line_read : (cluster : Cluster) (ls : List FileLine) (line : FileLine) (before after : List Session) → AreSessions cluster ls before
    → LineGoesOn cluster before line.bytes after → AreSessions cluster (ls ++ line ∷ []) after
line_read cluster ls line before after are on = form_read cluster ls line before after on.0 are on.1 on.2

-- the workload of a file is one that the cluster can be given
pub read_valid : (cluster : Cluster) (ls : List FileLine) (workload : Workload) → AreSessions cluster ls workload.sessions → IsValidWorkload cluster workload
read_valid cluster ls workload are = are.valid
