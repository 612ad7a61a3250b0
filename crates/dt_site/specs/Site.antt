-- A site: one region of a cluster, and of each of its submissions the session that made it. A region knows transactions
-- alone; that one is an attempt of a session, at which of its calls, stands beside them here, in the same order.
-- `node_of` says which node of a world a site is, so that the rules of a region and those of a world speak of the same
-- thing. Read `StandsIn` next: when a site is that node of a given world.
use Rattle.std.specs.Prelude.{◌≡◌, ℕ, List, [], ◌∷◌, ◌++◌, length, map, set, Result, Ok, Err}
use Rattle.dt_text.specs.declared.NoMemory.{NoMemory}
use Rattle.dt_access.specs.declared.TxnId.{TxnId}
use Rattle.dt_events.specs.declared.Event.TheVariants.{Submit}
use Rattle.dt_sched.specs.Views.{log_at}
use Rattle.dt_proc.specs.Tree.{ProcTree}
use Rattle.dt_table.specs.Table.{Table, opening}
use Rattle.dt_txn.specs.declared.Body.{Body}
use Rattle.dt_txn.specs.declared.Txn.{Txn}
use Rattle.dt_region.specs.Region.{RegionView}
use Rattle.dt_region.specs.Rules.{after_submit, id_for, opening_state, with_event}
use Rattle.dt_session.specs.World.{Node, Submission}
use Rattle.dt_site.specs.declared.site.Origin.{Origin}

-- a region, and of each of its submissions, in their order, the session that made it
pub record SiteView : Type 0 where
  pub region : RegionView
  pub origins : List Origin

-- an attempt: what was submitted, and whose it is
abbrev pub attempt : Txn → Origin → Submission
attempt txn origin = record { txn = txn; session = origin.session; call = origin.call; attempt = origin.attempt }

-- the attempts of a region, from what it submitted and whose that is
abbrev pub attempts : List Txn → List Origin → List Submission
attempts [] origins = []
attempts (txn ∷ txns) [] = []
attempts (txn ∷ txns) (origin ∷ origins) = attempt txn origin ∷ attempts txns origins

-- the node of a world that a site is; its own log is received whole, and no length is kept for it
abbrev pub node_of : SiteView → Node
node_of p = record {
  submitted = attempts p.region.state.submitted p.origins;
  log = log_at p.region.state.logs p.region.state.number;
  received = set (map length p.region.state.logs) p.region.state.number 0;
  here = p.region.state.here;
}

-- a site before anything happens, in a cluster of n regions, with this table
abbrev pub opening_site : ℕ → ℕ → Table → SiteView
opening_site number regions table = record { region = record { state = opening_state number regions table; events = []; heard = 0; room = 0 }; origins = [] }

-- stands in where there is no such thing: a site
abbrev pub no_site : SiteView
no_site = opening_site 0 0 (opening 1 0 [] [])

-- a site with its region changed
abbrev pub in_region : SiteView → RegionView → SiteView
in_region p region = record p { region = region }

-- a site after it submitted a body of this rank for a session
abbrev pub after_attempt : List ProcTree → SiteView → ℕ → Body → Origin → SiteView
after_attempt procs p rank body origin = record {
  region = with_event p.region (after_submit procs p.region.state rank body) (Submit p.region.state.number origin.session);
  origins = p.origins ++ origin ∷ [];
}

-- a submission gives its id; after `NoMemory` the site is as before
abbrev pub MakesAttempt : List ProcTree → SiteView → ℕ → Body → Origin → Result TxnId NoMemory → SiteView → Type 0
MakesAttempt procs p rank body origin (Ok id) after = (id ≡ id_for p.region.state) × (after ≡ after_attempt procs p rank body origin)
MakesAttempt procs p rank body origin (Err e) after = after ≡ p
