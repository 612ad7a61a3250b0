-- Events, each tried after those before it.
use Rattle.std.proofs.Common.{◌≡◌, ℕ, ◌+◌, ◌<◌, List, [], ◌∷◌, ◌++◌, length, get_or, take, drop, map, ap, sym, ◌∙◌, subst, refl}
use Rattle.std.proofs.lemmas.List.{take_more, drop_more, get_or-map, length-map, take-append-drop, take-map, get_or_default}
use Rattle.dt_events.specs.declared.Event.{Event}
use Rattle.dt_cluster.specs.declared.Cluster.{Cluster}
use Rattle.dt_workload.specs.declared.Workload.{Workload}
use Rattle.dt_session.specs.World.{World, opening_world}
use Rattle.dt_session.specs.Step.{IsLegal, next, rule_of}
use Rattle.dt_session.specs.Run.{AreLegal, world_after}
use Rattle.dt_agreement.proofs.Callers.{append_legal, world_from_append}
use Rattle.dt_command.specs.TaskFiles.{unnumbered}
use Rattle.dt_world.specs.WorldView.{WorldView, kept_next}
use Rattle.dt_world.specs.declared.StepError.{StepError}
use Rattle.dt_world.specs.declared.StepError.TheVariants.{Illegal}
use Rattle.dt_world.specs.declared.StepError.TheVariants as errors
use Rattle.dt_command.specs.Causes.{IsFirstIllegal}
use Rattle.dt_command.specs.RefusalCode.{IsStepRefusal, refusal_of}

-- of events, the first i are legal, and led to this world
pub record IsAfter (cluster : Cluster) (workload : Workload) (events : List Event) (i : ℕ) (world : WorldView) : Type 0 where
  pub of_cluster : world.cluster ≡ cluster
  pub of_workload : world.workload ≡ workload
  pub steps : world.steps ≡ i
  pub legal : AreLegal cluster workload (take i events)
  pub state : world.state ≡ world_after cluster workload (take i events)

module _ (cluster : Cluster) (workload : Workload) (events : List Event) (i : ℕ) (x : Event) (inside : i < length events) (item : x ≡ get_or events i x) where
  -- the first i events, and the next one
  abbrev front : List Event
  front = take i events

  abbrev next_one : Event
  next_one = get_or events i x

  -- the next event stands behind those so far
  one_more : take (i + 1) events ≡ front ++ next_one ∷ []
  one_more = take_more events i x inside

  -- a legal event after legal ones
  legal_next : AreLegal cluster workload front → IsLegal cluster workload (world_after cluster workload front) next_one → AreLegal cluster workload (take (i + 1) events)
  legal_next before legal =
      subst (AreLegal cluster workload) (sym one_more)
      (append_legal cluster workload (opening_world cluster workload) front (next_one ∷ []) before (legal, tt))

  -- the world after it
  world_next : next cluster workload (world_after cluster workload front) next_one ≡ world_after cluster workload (take (i + 1) events)
  world_next =
      sym (ap (world_after cluster workload) one_more ∙ world_from_append cluster workload (opening_world cluster workload) front (next_one ∷ []))

  module _ (numbered : List (ℕ × Event)) (same_events : events ≡ unnumbered numbered) (line : ℕ) (same_line : line ≡ get_or (map (λ (event : ℕ × Event). event.0) numbered) i line) where
    -- it stands among those with numbers
    there : i < length numbered
    there = subst (λ n. i < n) (ap length same_events ∙ length-map numbered (λ (event : ℕ × Event). event.1)) inside

    -- the next event, with the number of its line
    numbered_one : get_or numbered i (line, x) ≡ (line, next_one)
    numbered_one =
        let of_line : (get_or numbered i (line, x)).0 ≡ line = sym (get_or-map (λ event. event.0) numbered i (line, x) line there) ∙ sym same_line in
        let of_event : (get_or numbered i (line, x)).1 ≡ next_one =
        sym (get_or-map (λ event. event.1) numbered i (line, x) x there) ∙ ap (λ all. get_or all i x) (sym same_events) in λ j. (of_line j, of_event j)

    -- the events so far, with the numbers of their lines
    numbered_front : unnumbered (take i numbered) ≡ front
    numbered_front = sym (take-map (λ (event : ℕ × Event). event.1) i numbered) ∙ ap (take i) (sym same_events)

    -- an event that is not legal after legal ones is the first that is not
    first_illegal : (rule : ℕ) → AreLegal cluster workload front → ¬ IsLegal cluster workload (world_after cluster workload front) next_one
        → rule ≡ rule_of next_one → IsFirstIllegal cluster workload numbered line rule
    first_illegal rule before illegal by = record {
      before = take i numbered;
      event = next_one;
      after = drop (i + 1) numbered;
      cut = sym (take-append-drop i numbered) ∙ ap (λ rest. take i numbered ++ rest) (drop_more numbered i (line, x) there ∙ ap (λ one. one ∷ drop (i + 1) numbered) numbered_one);
      legal = subst (AreLegal cluster workload) (sym numbered_front) before;
      illegal = subst (λ all. ¬ IsLegal cluster workload (world_after cluster workload all) next_one) (sym numbered_front) illegal;
      number = by;
    }

  module _ (old : WorldView) (is : IsAfter cluster workload events i old) where
    -- where the world stands and what comes next, in the words of the definitions
    same : ◌≡◌ {A = Cluster × (Workload × (World × Event))} (old.cluster, (old.workload, (old.state, x))) (cluster, (workload, (world_after cluster workload front, next_one)))
    same = λ j. (is.of_cluster j, (is.of_workload j, (is.state j, item j)))

    -- the next event was made
    pub step_made : (new : WorldView) → IsLegal old.cluster old.workload old.state x
        → new ≡ record old { state = next old.cluster old.workload old.state x; kept = kept_next old.state old.kept x; steps = old.steps + 1 } → IsAfter cluster workload events (i + 1) new
    step_made new legal made =
        let Legal : Cluster × (Workload × (World × Event)) → Type 0 = λ q. IsLegal q.0 q.1.0 q.1.1.0 q.1.1.1 in
        let after : next old.cluster old.workload old.state x ≡ next cluster workload (world_after cluster workload front) next_one =
        λ j. next (is.of_cluster j) (is.of_workload j) (is.state j) (item j) in record {
          of_cluster = ap (λ (k : WorldView). k.cluster) made ∙ is.of_cluster;
          of_workload = ap (λ (k : WorldView). k.workload) made ∙ is.of_workload;
          steps = ap (λ (k : WorldView). k.steps) made ∙ ap (λ n. n + 1) is.steps;
          legal = legal_next is.legal (subst Legal same legal);
          state = ap (λ (k : WorldView). k.state) made ∙ after ∙ world_next;
        }

    -- the next event is not legal, by the number of its line
    pub step_refused : (numbered : List (ℕ × Event)) → events ≡ unnumbered numbered → (line : ℕ) → line ≡ get_or (map (λ (event : ℕ × Event). event.0) numbered) i line
        → (rule : ℕ) → (rule ≡ rule_of x) × ¬ IsLegal old.cluster old.workload old.state x → IsFirstIllegal cluster workload numbered line rule
    step_refused numbered same_events line same_line rule (by, illegal) =
        let Refused : Cluster × (Workload × (World × Event)) → Type 0 = λ q. ¬ IsLegal q.0 q.1.0 q.1.1.0 q.1.1.1 in
        first_illegal numbered same_events line same_line rule is.legal (subst Refused same illegal) (by ∙ ap rule_of item)

-- the status that an event's refusal gives
pub refused_by : (cluster : Cluster) (workload : Workload) (events : List (ℕ × Event)) (line : ℕ) (error : StepError)
    → ((rule : ℕ) → error ≡ Illegal rule → IsFirstIllegal cluster workload events line rule) → IsStepRefusal cluster workload events (refusal_of line error)
refused_by cluster workload events line (Illegal rule) first = first rule refl
refused_by cluster workload events line (errors.NoMemory) first = tt

-- the number of an event's line hangs on no other number
pub inside_any : (numbered : List (ℕ × Event)) (i a b : ℕ) → i < length (unnumbered numbered) → get_or (map (λ (event : ℕ × Event). event.0) numbered) i a ≡ get_or (map (λ (event : ℕ × Event). event.0) numbered) i b
inside_any numbered i a b within =
    let as_many : length (unnumbered numbered) ≡ length (map number numbered) = length-map numbered (λ (event : ℕ × Event). event.1) ∙ sym (length-map numbered number) in
    get_or_default (map number numbered) i a b (subst (λ n. i < n) as_many within)
  where
    number : ℕ × Event → ℕ
    number event = event.0
