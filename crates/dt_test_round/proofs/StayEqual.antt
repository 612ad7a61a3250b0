-- Two equal regions stay equal where both submit the same call, and where both place the same part.
use Rattle.std.proofs.Common.{◌≡◌, ℕ, List, sym, ap, ◌∙◌}
use Rattle.dt_events.specs.declared.Event.TheVariants.{Submit, Append}
use Rattle.dt_proc.specs.Tree.{ProcTree}
use Rattle.dt_txn.specs.declared.txn.Body.{Body}
use Rattle.dt_txn.specs.declared.txn.Txn.{Txn}
use Rattle.dt_region.specs.Region.{RegionView}
use Rattle.dt_region.specs.Rules.{after_append, after_submit, with_event}

pub submitted_alike : (procs : List ProcTree) (r twin after twin_after : RegionView) (session : List ℕ) (body copied : Body) → twin ≡ r → copied ≡ body
    → twin_after ≡ with_event twin (after_submit procs twin.state 5 copied) (Submit twin.state.number session)
    → after ≡ with_event r (after_submit procs r.state 5 body) (Submit r.state.number session) → twin_after ≡ after
submitted_alike procs r twin after twin_after session body copied equal copy made own =
    made ∙ ap (λ (x : RegionView). with_event x (after_submit procs x.state 5 copied) (Submit x.state.number session)) equal
    ∙ ap (λ (b : Body). with_event r (after_submit procs r.state 5 b) (Submit r.state.number session)) copy ∙ sym own

pub placed_alike : (r twin after twin_after : RegionView) (source number : ℕ) (txn : Txn) → twin ≡ r
    → twin_after ≡ with_event twin (after_append twin.state source txn) (Append twin.state.number source number)
    → after ≡ with_event r (after_append r.state source txn) (Append r.state.number source number) → twin_after ≡ after
placed_alike r twin after twin_after source number txn equal made own =
    made ∙ ap (λ (x : RegionView). with_event x (after_append x.state source txn) (Append x.state.number source number)) equal ∙ sym own
