-- The words and the files call for one status.
use Rattle.std.proofs.Common.{◌≡◌, ℕ, ◌⊎◌, inl, inr, List, [], ◌∷◌, ◌++◌, length, Option, Some, None, IsSome, IsSomeAnd, slice_get, refl, ap, sym, ◌∙◌, subst, arith, get_or}
use Rattle.std.proofs.lemmas.List.{map-append}
use Rattle.dt_access.specs.Clash.{Bytes}
use Rattle.dt_outside.specs.Faults.{Rose}
use Rattle.dt_outside.specs.Folder.{Files, FolderView}
use Rattle.dt_events.specs.declared.Event.{Event}
use Rattle.dt_events.proofs.Callers.{no_fault as no_form_fault, one_fault as one_form_fault, one_list}
use Rattle.dt_cluster.specs.declared.Cluster.{Cluster}
use Rattle.dt_cluster_file.specs.declared.ClusterFault.{ClusterFault}
use Rattle.dt_cluster.specs.Builtin.{builtin_cluster}
use Rattle.dt_cluster.specs.Valid.{IsValidCluster}
use Rattle.dt_cluster_file.proofs.Callers.{one_cluster, no_fault as no_cluster_fault, one_fault as one_cluster_fault}
use Rattle.dt_cluster.proofs.Callers.{builtin_valid}
use Rattle.dt_cluster_file.proofs.Callers.{cluster_valid}
use Rattle.dt_workload.specs.declared.Workload.{Workload}
use Rattle.dt_workload.specs.declared.WorkloadCause.{WorkloadCause}
use Rattle.dt_workload.proofs.Callers.{one_workload, no_workload_fault, one_workload_fault}
use Rattle.dt_session.specs.World.{World, opening_world}
use Rattle.dt_session.specs.Step.{IsLegal, next, rule_of}
use Rattle.dt_session.specs.Run.{AreLegal, AreLegalFrom, world_from}
use Rattle.dt_agreement.proofs.Callers.{legal_append}
use Rattle.dt_command.specs.declared.status.Status.{Status}
use Rattle.dt_command.specs.declared.status.Status.TheVariants.{Done, NoMemory, BadWords, CannotRead, BadCluster, BadWorkload, BadEvents, CannotWrite}
use Rattle.dt_command.specs.declared.status.EventsCause.{EventsCause}
use Rattle.dt_command.specs.declared.status.EventsCause.TheVariants.{TooLong, Form, Rule}
use Rattle.dt_command.specs.Tasks.{Task, Replay, Run, Big, Asks, AskFor, IsBuiltin, IsClusterFile, AreAForm, builtin_word, task_words, cluster_word, workload_word, events_word}
use Rattle.dt_command.specs.TaskFiles.{HasFile, HasCluster, HasEvents, Loaded, HoldCluster, HoldWorkload, HoldEvents, unnumbered}
use Rattle.dt_command.specs.Causes.{AreBadCluster, HasBadCluster, AreBadWorkload, HasBadWorkload, IsFirstIllegal, AreBadEvents, HasBadEvents, WasMissed, CouldNotRead, CanBeDone, CallsFor, IsDue}
use Rattle.dt_command.specs.RefusalCode.{IsRefusal}
use Rattle.dt_command.proofs.WordForms.{two_bytes}
use Rattle.dt_lists.proofs.Callers.{same_head, same_tail}

-- the bytes of one file
both_files : (files : Files) (name : Bytes) (P Q : Bytes → Type 0) → HasFile (Some files) name P → HasFile (Some files) name Q → (bytes : Bytes) × P bytes × Q bytes
both_files files name P Q (bytes, here, p) (others, there, q) =
    let same : others ≡ bytes = cc in
    (bytes, p, subst Q same q)

-- the bytes of the file of one word, if a task has that
both_words : (files : Files) (word : Option Bytes) (P Q : Bytes → Type 0) → IsSomeAnd word (λ name. HasFile (Some files) name P) → IsSomeAnd word (λ name. HasFile (Some files) name Q) → (bytes : Bytes) × P bytes × Q bytes
both_words files None P Q p q = absurd p
both_words files (Some name) P Q p q = both_files files name P Q p q

-- the number of regions in the word of a built-in cluster
one_builtin : (m n : ℕ) → IsBuiltin m → IsBuiltin n → builtin_word m ≡ builtin_word n → m ≡ n
one_builtin m n few many same =
    let digits = ap (λ (word : Bytes). get_or word 1 0) (sym (two_bytes m few) ∙ same ∙ two_bytes n many) in omega (arith, digits)

-- words ask for one task
module _ (words : List Bytes) where
  -- tasks that they ask for have the same words, and so as many
  same_words : (s t : Task) → Asks words s → Asks words t → task_words s ≡ task_words t
  same_words s t is also = sym is.form ∙ also.form

  as_many : (s t : Task) → Asks words s → Asks words t → length (task_words s) ≡ length (task_words t)
  as_many s t is also = ap (λ (l : List Bytes). length l) (same_words s t is also)

  pub one_task : (s t : Task) → Asks words s → Asks words t → s ≡ t
  one_task (Replay a b c) (Replay x y z) is also =
      let same = same_words (Replay a b c) (Replay x y z) is also in
      let clusters : a ≡ x = ap (λ (l : List Bytes). get_or l 1 []) same in
      let workloads : b ≡ y = ap (λ (l : List Bytes). get_or l 2 []) same in
      let events : c ≡ z = ap (λ (l : List Bytes). get_or l 3 []) same in
      λ i. Replay (clusters i) (workloads i) (events i)
  one_task (Run a b) (Run x y) is also =
      let same = same_words (Run a b) (Run x y) is also in
      let clusters : a ≡ x = ap (λ (l : List Bytes). get_or l 1 []) same in
      let workloads : b ≡ y = ap (λ (l : List Bytes). get_or l 2 []) same in
      λ i. Run (clusters i) (workloads i)
  one_task (Big a) (Big x) is also = ap (λ (l : List Bytes). Big (get_or l 1 [])) (same_words (Big a) (Big x) is also)
  one_task (Replay a b c) (Run x y) is also = absurd (omega (arith, as_many (Replay a b c) (Run x y) is also))
  one_task (Replay a b c) (Big x) is also = absurd (omega (arith, as_many (Replay a b c) (Big x) is also))
  one_task (Run a b) (Replay x y z) is also = absurd (omega (arith, as_many (Run a b) (Replay x y z) is also))
  one_task (Run a b) (Big x) is also = absurd (omega (arith, as_many (Run a b) (Big x) is also))
  one_task (Big a) (Replay x y z) is also = absurd (omega (arith, as_many (Big a) (Replay x y z) is also))
  one_task (Big a) (Run x y) is also = absurd (omega (arith, as_many (Big a) (Run x y) is also))

  -- so what holds of the task that they ask for holds of one
  pub one_asked : (P Q : Task → Type 0) → AskFor words P → AskFor words Q → (task : Task) × P task × Q task
  one_asked P Q (s, asks, p) (t, also, q) = (s, p, subst Q (one_task t s also asks) q)

-- of events, the first that is not legal is one
module _ (cluster : Cluster) (workload : Workload) where
  one_illegal : (w : World) (a b after later : List (ℕ × Event)) (x y : ℕ × Event) → a ++ x ∷ after ≡ b ++ y ∷ later
      → AreLegalFrom cluster workload w (unnumbered a) → AreLegalFrom cluster workload w (unnumbered b)
      → ¬ IsLegal cluster workload (world_from cluster workload w (unnumbered a)) x.1
      → ¬ IsLegal cluster workload (world_from cluster workload w (unnumbered b)) y.1 → x ≡ y
  one_illegal w [] [] after later x y same before also never none = same_head same
  one_illegal w [] (z ∷ b) after later x y same before (legal, also) never none =
      let P : ℕ × Event → Type 0 = λ event. IsLegal cluster workload w event.1 in absurd (never (subst P (sym (same_head same)) legal))
  one_illegal w (z ∷ a) [] after later x y same (legal, before) also never none =
      let P : ℕ × Event → Type 0 = λ event. IsLegal cluster workload w event.1 in absurd (none (subst P (same_head same) legal))
  one_illegal w (u ∷ a) (v ∷ b) after later x y same (legal, before) (too, also) never none =
      let head : v ≡ u = sym (same_head same) in
      let P : ℕ × Event → Type 0 = λ event. AreLegalFrom cluster workload (next cluster workload w event.1) (unnumbered b) in
      let Q : ℕ × Event → Type 0 = λ event. ¬ IsLegal cluster workload (world_from cluster workload (next cluster workload w event.1) (unnumbered b)) y.1 in
      one_illegal (next cluster workload w u.1) a b after later x y (same_tail same) before (subst P head also) never (subst Q head none)

  -- it has one line and one rule
  same_illegal : (events : List (ℕ × Event)) (l m n k : ℕ) → IsFirstIllegal cluster workload events l n → IsFirstIllegal cluster workload events m k → (l ≡ m) × (n ≡ k)
  same_illegal events l m n k a b =
      let same : (l, a.event) ≡ (m, b.event) = one_illegal (opening_world cluster workload) a.before b.before a.after b.after (l, a.event) (m, b.event) (sym a.cut ∙ b.cut) a.legal b.legal a.illegal b.illegal in
      (ap (λ (x : ℕ × Event). x.0) same, a.number ∙ ap (λ (x : ℕ × Event). rule_of x.1) same ∙ sym b.number)

  -- where all events are legal, none is the first that is not
  all_legal : (events : List (ℕ × Event)) (l n : ℕ) → AreLegal cluster workload (unnumbered events) → IsFirstIllegal cluster workload events l n → ⊥
  all_legal events l n legal is =
      let split : unnumbered events ≡ unnumbered is.before ++ is.event ∷ unnumbered is.after = ap unnumbered is.cut ∙ map-append (λ (x : ℕ × Event). x.1) is.before ((l, is.event) ∷ is.after) in
      is.illegal (legal_append cluster workload (opening_world cluster workload) (unnumbered is.before) (is.event ∷ unnumbered is.after) (subst (AreLegal cluster workload) split legal)).1.0

  -- bytes have one fault
  one_fault : (bytes : Bytes) (l m : ℕ) (c d : EventsCause) → AreBadEvents cluster workload l c bytes → AreBadEvents cluster workload m d bytes → BadEvents l c ≡ BadEvents m d
  one_fault bytes l m TooLong TooLong (zero_l, long) (zero_m, also) = ap (λ line. BadEvents line TooLong) (zero_l ∙ sym zero_m)
  one_fault bytes l m TooLong Form (zero_l, long) (short, without) = absurd (omega (arith, long, short))
  one_fault bytes l m TooLong (Rule k) (zero_l, long) (events, are, illegal) = absurd (omega (arith, long, are.short))
  one_fault bytes l m Form TooLong (short, without) (zero_m, long) = absurd (omega (arith, long, short))
  one_fault bytes l m Form Form (short, without) (also, none) = ap (λ line. BadEvents line Form) (one_form_fault bytes l m without none)
  one_fault bytes l m Form (Rule k) (short, without) (events, are, illegal) = absurd (no_form_fault bytes events l are.form without)
  one_fault bytes l m (Rule n) TooLong (events, are, illegal) (zero_m, long) = absurd (omega (arith, long, are.short))
  one_fault bytes l m (Rule n) Form (events, are, illegal) (short, without) = absurd (no_form_fault bytes events m are.form without)
  one_fault bytes l m (Rule n) (Rule k) (events, are, illegal) (others, too, also) =
      let same : others ≡ events = one_list bytes others events too.form are.form in
      let P : List (ℕ × Event) → Type 0 = λ list. IsFirstIllegal cluster workload list m k in
      let both = same_illegal events l m n k illegal (subst P same also) in
      λ i. BadEvents (both.0 i) (Rule (both.1 i))

  -- legal events have no fault
  no_fault : (bytes : Bytes) (events : List (ℕ × Event)) (l : ℕ) (c : EventsCause) → HoldEvents events bytes → AreLegal cluster workload (unnumbered events) → AreBadEvents cluster workload l c bytes → ⊥
  no_fault bytes events l TooLong are legal (zero_l, long) = omega (arith, long, are.short)
  no_fault bytes events l Form are legal (short, without) = no_form_fault bytes events l are.form without
  no_fault bytes events l (Rule n) are legal (others, too, illegal) =
      let P : List (ℕ × Event) → Type 0 = λ list. IsFirstIllegal cluster workload list l n in
      all_legal events l n legal (subst P (one_list bytes others events too.form are.form) illegal)

-- a word that begins with `:` is no name of a cluster's file
no_file : (word : Bytes) (n : ℕ) → IsBuiltin n → word ≡ builtin_word n → IsClusterFile word → ⊥
no_file word n is spelled file =
    let colon : slice_get word 0 ≡ Some 58 = ap (λ (w : Bytes). slice_get w 0) (spelled ∙ two_bytes n is) in file.1 colon

module _ (files : Files) where
  -- a task's word, if it has one, names this cluster
  abbrev Names : Option Bytes → Cluster → Type 0
  Names word cluster = IsSomeAnd word (λ w. HasCluster (Some files) w cluster)

  -- or the file of a cluster that has this fault
  abbrev NamesFaulty : Option Bytes → ClusterFault → Type 0
  NamesFaulty word fault = IsSomeAnd word (λ w. IsClusterFile w × HasFile (Some files) w (AreBadCluster fault))

  -- a word names one cluster
  same_cluster : (word : Bytes) (c d : Cluster) → HasCluster (Some files) word c → HasCluster (Some files) word d → c ≡ d
  same_cluster word c d (inl (m, few, is, made)) (inl (n, many, too, also)) =
      made ∙ ap builtin_cluster (one_builtin m n few many (sym is ∙ too)) ∙ sym also
  same_cluster word c d (inl (m, few, is, made)) (inr (file, _)) = absurd (no_file word m few is file)
  same_cluster word c d (inr (file, _)) (inl (n, many, too, also)) = absurd (no_file word n many too file)
  same_cluster word c d (inr (_, one)) (inr (_, other)) =
      let (bytes, a, b) = both_files files word (HoldCluster c) (HoldCluster d) one other in one_cluster bytes c d a.form b.form

  -- if a task has a word for a cluster, it has one cluster
  same_named : (word : Option Bytes) (c d : Cluster) → Names word c → Names word d → c ≡ d
  same_named None c d is also = absurd is
  same_named (Some word) c d is also = same_cluster word c d is also

  -- which is valid
  valid_cluster : (word : Option Bytes) (c : Cluster) → Names word c → IsValidCluster c
  valid_cluster None c is = absurd is
  valid_cluster (Some word) c (inl (n, (some, few), is, made)) = subst IsValidCluster (sym made) (builtin_valid n some few)
  valid_cluster (Some word) c (inr (file, content)) = cluster_valid content.0 c content.2.form

  -- the word of a cluster's file that has a fault names no cluster
  no_named : (word : Option Bytes) (c : Cluster) (f : ClusterFault) → Names word c → NamesFaulty word f → ⊥
  no_named None c f is bad = is
  no_named (Some word) c f (inl (m, few, is, made)) (file, bad) = no_file word m few is file
  no_named (Some word) c f (inr (_, one)) (file, bad) =
      let (bytes, is, has) = both_files files word (HoldCluster c) (AreBadCluster f) one bad in go bytes is has
    where
      go : (bytes : Bytes) → HoldCluster c bytes → AreBadCluster f bytes → ⊥
      go bytes is (inl (whole, long)) = omega (arith, long, is.short)
      go bytes is (inr (short, has)) = no_cluster_fault bytes c f is.form has

  -- a cluster's file has one fault
  one_named : (word : Option Bytes) (f g : ClusterFault) → NamesFaulty word f → NamesFaulty word g → f ≡ g
  one_named None f g bad worse = absurd bad
  one_named (Some word) f g (file, bad) (also, worse) =
      let (bytes, a, b) = both_files files word (AreBadCluster f) (AreBadCluster g) bad worse in go bytes a b
    where
      go : (bytes : Bytes) → AreBadCluster f bytes → AreBadCluster g bytes → f ≡ g
      go bytes (inl (is, long)) (inl (too, also)) = is ∙ sym too
      go bytes (inl (is, long)) (inr (short, has)) = absurd (omega (arith, long, short))
      go bytes (inr (short, has)) (inl (too, long)) = absurd (omega (arith, long, short))
      go bytes (inr (_, one)) (inr (_, other)) = one_cluster_fault bytes f g one other

  module _ (task : Task) where
    -- a task has one cluster and one workload
    same_loaded : (c d : Cluster) (v w : Workload) → Loaded (Some files) task c v → Loaded (Some files) task d w → (c ≡ d) × (v ≡ w)
    same_loaded c d v w a b =
        let same = same_named (cluster_word task) c d a.cluster_word b.cluster_word in
        let P : Cluster → Type 0 = λ q. IsSomeAnd (workload_word task) (λ name. HasFile (Some files) name (HoldWorkload q w)) in
        let (bytes, one, other) = both_words files (workload_word task) (HoldWorkload c v) (HoldWorkload c w) a.workload_file (subst P (sym same) b.workload_file) in
        (same, one_workload c (valid_cluster (cluster_word task) c a.cluster_word) bytes v w one.form other.form)

    -- a workload has no fault
    sound_workload : (c : Cluster) (v : Workload) (l : ℕ) (why : WorkloadCause) → Loaded (Some files) task c v → HasBadWorkload (Some files) task l why → ⊥
    sound_workload c v l why a (d, names, bad) =
        let same = same_named (cluster_word task) c d a.cluster_word names in
        let P : Cluster → Type 0 = λ q. IsSomeAnd (workload_word task) (λ name. HasFile (Some files) name (AreBadWorkload q l why)) in
        let (bytes, is, has) = both_words files (workload_word task) (HoldWorkload c v) (AreBadWorkload c l why) a.workload_file (subst P (sym same) bad) in
        go bytes is has
      where
        go : (bytes : Bytes) → HoldWorkload c v bytes → AreBadWorkload c l why bytes → ⊥
        go bytes is (inl (zero_l, whole, long)) = omega (arith, long, is.short)
        go bytes is (inr (short, has)) = no_workload_fault c (valid_cluster (cluster_word task) c a.cluster_word) bytes v l why is.form has

    -- a workload's file has one fault
    same_workload_fault : (l m : ℕ) (why how : WorkloadCause) → HasBadWorkload (Some files) task l why → HasBadWorkload (Some files) task m how → BadWorkload l why ≡ BadWorkload m how
    same_workload_fault l m why how (c, names, bad) (d, also, worse) =
        let same = same_named (cluster_word task) c d names also in
        let P : Cluster → Type 0 = λ q. IsSomeAnd (workload_word task) (λ name. HasFile (Some files) name (AreBadWorkload q m how)) in
        let (bytes, a, b) = both_words files (workload_word task) (AreBadWorkload c l why) (AreBadWorkload c m how) bad (subst P (sym same) worse) in
        go bytes a b
      where
        go : (bytes : Bytes) → AreBadWorkload c l why bytes → AreBadWorkload c m how bytes → BadWorkload l why ≡ BadWorkload m how
        go bytes (inl (zero_l, is, long)) (inl (zero_m, too, also)) = λ i. BadWorkload ((zero_l ∙ sym zero_m) i) ((is ∙ sym too) i)
        go bytes (inl (zero_l, is, long)) (inr (short, has)) = absurd (omega (arith, long, short))
        go bytes (inr (short, has)) (inl (zero_m, too, long)) = absurd (omega (arith, long, short))
        go bytes (inr (_, one)) (inr (_, other)) =
            let both = one_workload_fault c (valid_cluster (cluster_word task) c names) bytes l m why how one other in λ i. BadWorkload (both.0 i) (both.1 i)

    -- legal events have no fault
    sound_events : (c : Cluster) (v : Workload) (events : List (ℕ × Event)) (l : ℕ) (why : EventsCause) → Loaded (Some files) task c v → HasEvents (Some files) task events
        → AreLegal c v (unnumbered events) → HasBadEvents (Some files) task l why → ⊥
    sound_events c v events l why a list legal (d, w, b, bad) =
        let same = same_loaded c d v w a b in
        let P : Cluster × Workload → Type 0 = λ q. IsSomeAnd (events_word task) (λ name. HasFile (Some files) name (AreBadEvents q.0 q.1 l why)) in
        let both : (d, w) ≡ (c, v) = λ i. (sym same.0 i, sym same.1 i) in
        let (bytes, are, fault) = both_words files (events_word task) (HoldEvents events) (AreBadEvents c v l why) list (subst P both bad) in
        no_fault c v bytes events l why are legal fault

    -- two faults of the events are one
    same_fault : (l m : ℕ) (why how : EventsCause) → HasBadEvents (Some files) task l why → HasBadEvents (Some files) task m how → BadEvents l why ≡ BadEvents m how
    same_fault l m why how (c, v, a, bad) (d, w, b, too) =
        let same = same_loaded c d v w a b in
        let P : Cluster × Workload → Type 0 = λ q. IsSomeAnd (events_word task) (λ name. HasFile (Some files) name (AreBadEvents q.0 q.1 m how)) in
        let both : (d, w) ≡ (c, v) = λ i. (sym same.0 i, sym same.1 i) in
        let (bytes, one, other) = both_words files (events_word task) (AreBadEvents c v l why) (AreBadEvents c v m how) bad (subst P both too) in
        one_fault c v bytes l m why how one other

  -- what can be done has no fault
  done_cluster : (task : Task) (f : ClusterFault) → CanBeDone (Some files) task → HasBadCluster (Some files) task f → ⊥
  done_cluster (Replay word name list) f can bad = no_named (Some word) can.runnable.cluster f can.runnable.loaded.cluster_word bad
  done_cluster (Run word name) f can bad = no_named (Some word) can.cluster f can.loaded.cluster_word bad
  done_cluster (Big size) f can bad = bad

  done_workload : (task : Task) (l : ℕ) (why : WorkloadCause) → CanBeDone (Some files) task → HasBadWorkload (Some files) task l why → ⊥
  done_workload (Replay word name list) l why can bad = sound_workload (Replay word name list) can.runnable.cluster can.runnable.workload l why can.runnable.loaded bad
  done_workload (Run word name) l why can bad = sound_workload (Run word name) can.cluster can.workload l why can.loaded bad
  done_workload (Big size) l why can (cluster, names, bad) = names

  done_events : (task : Task) (l : ℕ) (why : EventsCause) → CanBeDone (Some files) task → HasBadEvents (Some files) task l why → ⊥
  done_events (Replay word name list) l why can bad =
      sound_events (Replay word name list) can.runnable.cluster can.runnable.workload can.events l why can.runnable.loaded can.events_file can.legal bad
  done_events (Run word name) l why can (cluster, workload, loaded, bad) = bad
  done_events (Big size) l why can (cluster, workload, loaded, bad) = bad

  -- a task and the files call for one status; of two, the first is tried first
  before : (task : Task) (s t : Status) → CallsFor (Some files) task s → CallsFor (Some files) task t → s ≡ t
  before task Done Done can also = refl
  before task Done (BadCluster f) can bad = absurd (done_cluster task f can bad)
  before task Done (BadWorkload l why) can bad = absurd (done_workload task l why can bad)
  before task Done (BadEvents l why) can bad = absurd (done_events task l why can bad)
  before task (BadCluster f) Done bad can = absurd (done_cluster task f can bad)
  before task (BadCluster f) (BadCluster g) bad also = ap BadCluster (one_named (cluster_word task) f g bad also)
  before task (BadCluster f) (BadWorkload l why) bad (c, names, worse) = absurd (no_named (cluster_word task) c f names bad)
  before task (BadCluster f) (BadEvents l why) bad (c, v, loaded, worse) = absurd (no_named (cluster_word task) c f loaded.cluster_word bad)
  before task (BadWorkload l why) Done bad can = absurd (done_workload task l why can bad)
  before task (BadWorkload l why) (BadCluster f) (c, names, worse) bad = absurd (no_named (cluster_word task) c f names bad)
  before task (BadWorkload l why) (BadWorkload m how) bad also = same_workload_fault task l m why how bad also
  before task (BadWorkload l why) (BadEvents m how) bad (c, v, loaded, worse) = absurd (sound_workload task c v l why loaded bad)
  before task (BadEvents l why) Done bad can = absurd (done_events task l why can bad)
  before task (BadEvents l why) (BadCluster f) (c, v, loaded, worse) bad = absurd (no_named (cluster_word task) c f loaded.cluster_word bad)
  before task (BadEvents m how) (BadWorkload l why) (c, v, loaded, worse) bad = absurd (sound_workload task c v l why loaded bad)
  before task (BadEvents l why) (BadEvents m how) bad also = same_fault task l m why how bad also
  before task NoMemory t none calls = absurd none
  before task BadWords t none calls = absurd none
  before task (CannotRead word) t none calls = absurd none
  before task CannotWrite t none calls = absurd none
  before task s NoMemory calls none = absurd none
  before task s BadWords calls none = absurd none
  before task s (CannotRead word) calls none = absurd none
  before task s CannotWrite calls none = absurd none

  -- so do the words and the files
  pub one_due : (words : List Bytes) (s t : Status) → IsDue (Some files) words s → IsDue (Some files) words t → s ≡ t
  one_due words s t (inl (is, none)) (inl (also, never)) = is ∙ sym also
  one_due words s t (inl (is, none)) (inr (task, asks, calls)) = absurd (none (task, asks))
  one_due words s t (inr (task, asks, calls)) (inl (is, none)) = absurd (none (task, asks))
  one_due words s t (inr one) (inr other) =
      let (task, calls, also) = one_asked words (λ task. CallsFor (Some files) task s) (λ task. CallsFor (Some files) task t) one other in before task s t calls also

-- where a file could not be read, the folder's count rose
missed_rose : (before now : FolderView) (word : Option Bytes) → IsSomeAnd word (WasMissed before now) → Rose before.faults now.faults
missed_rose before now None is = absurd is
missed_rose before now (Some name) is = is.rose

missed_file : (before now : FolderView) (word : Option Bytes) → IsSomeAnd word (λ name. IsClusterFile name × WasMissed before now name) → Rose before.faults now.faults
missed_file before now None is = absurd is
missed_file before now (Some name) (file, is) = is.rose

could_not : (task : Task) (before now : FolderView) (word : ℕ) → CouldNotRead task before now word → Rose before.faults now.faults
could_not task before now word (inl (is, missed)) = missed_file before now (cluster_word task) missed
could_not task before now word (inr (inl (is, cluster, names, missed))) = missed_rose before now (workload_word task) missed
could_not task before now word (inr (inr (is, cluster, workload, loaded, missed))) = missed_rose before now (events_word task) missed

-- a status that is no fault of a device is the one that is due
module _ (words : List Bytes) (task : Task) (asks : Asks words task) (before now : FolderView) where
  due_of : (told : Option Files) → told ≡ before.told → (status due : Status) → IsSome told → IsDue told words due → ¬ Rose before.faults now.faults
      → IsRefusal task before now status → (status ≡ due) ⊎ (status ≡ NoMemory)
  due_of None is status due some is_due still refused = cc
  due_of (Some files) is NoMemory due some is_due still refused = inr refl
  due_of (Some files) is (BadCluster f) due some is_due still refused =
      inl (one_due files words (BadCluster f) due (inr (task, asks, subst (λ told. HasBadCluster told task f) (sym is) refused)) is_due)
  due_of (Some files) is (BadWorkload l why) due some is_due still refused =
      inl (one_due files words (BadWorkload l why) due (inr (task, asks, subst (λ told. HasBadWorkload told task l why) (sym is) refused)) is_due)
  due_of (Some files) is (BadEvents l why) due some is_due still refused =
      inl (one_due files words (BadEvents l why) due (inr (task, asks, subst (λ told. HasBadEvents told task l why) (sym is) refused)) is_due)
  due_of (Some files) is (CannotRead word) due some is_due still refused = absurd (still (could_not task before now word refused))
  due_of (Some files) is Done due some is_due still refused = absurd refused
  due_of (Some files) is BadWords due some is_due still refused = absurd refused
  due_of (Some files) is CannotWrite due some is_due still refused = absurd refused

  -- a refusal
  pub refusal_due : (status due : Status) → IsSome before.told → IsDue before.told words due → ¬ Rose before.faults now.faults → IsRefusal task before now status → (status ≡ due) ⊎ (status ≡ NoMemory)
  refusal_due = due_of before.told refl

-- a text that was made
pub done_due : (told : Option Files) (words : List Bytes) (task : Task) → Asks words task → CanBeDone told task → (due : Status) → IsSome told → IsDue told words due → Done ≡ due
done_due None words task asks can due some is_due = cc
done_due (Some files) words task asks can due some is_due = one_due files words Done due (inr (task, asks, can)) is_due

-- words of no form
pub words_due : (told : Option Files) (words : List Bytes) → ¬ AreAForm words → (due : Status) → IsSome told → IsDue told words due → BadWords ≡ due
words_due None words none due some is_due = cc
words_due (Some files) words none due some is_due = one_due files words BadWords due (inl (refl, none)) is_due
