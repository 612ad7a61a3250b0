-- The generated load, of which the number of calls alone is chosen: its cluster, with 100 accounts in four regions, and its
-- workload, in which 64 sessions transfer amounts between accounts, and now and then move one. It is for measuring, and for
-- finding out whether money is lost: transfers and moves leave the total of all accounts as it was. Read next: the laws
-- of this crate, which prove that.
use Rattle.std.specs.Prelude.{ℕ, ◌+◌, ◌*◌, ◌/◌, ◌%◌, ◌==◌, if◌then◌else◌, List, [], ◌∷◌, map, filter, pos}
use Rattle.std.specs.List.{range_with_len}
use Rattle.std.specs.Fmt.{decimal}
use Rattle.dt_text.specs.Texts.{Bytes}
use Rattle.dt_text.specs.declared.Value.{Value}
use Rattle.dt_text.specs.declared.Value.TheVariants.{Int, Text}
use Rattle.dt_proc.specs.Builtin.{builtin_procs}
use Rattle.dt_cluster.specs.declared.Cluster.{Cluster}
use Rattle.dt_workload.specs.declared.Wanted.{Wanted}
use Rattle.dt_workload.specs.declared.workload.Wanted.TheVariants.{Call, Move}
use Rattle.dt_workload.specs.declared.Ranked.{Ranked}
use Rattle.dt_workload.specs.declared.Session.{Session}
use Rattle.dt_workload.specs.declared.Workload.{Workload}
use Rattle.dt_gen.specs.Draws.{drawn}

-- the key of account q: one of the letters `a` to `d` for each 25 accounts, then `/`, then the place among these 25
abbrev pub account : ℕ → Bytes
account q = (97 + q / 25) ∷ 47 ∷ decimal (q % 25)

-- the accounts by their numbers, 0 to 99
unfoldable pub account_numbers : List ℕ
account_numbers = range_with_len 0 100

-- what an account has at first
abbrev pub account_row : ℕ → Bytes × Value
account_row q = (account q, Int (pos 1000))

-- the cluster: four regions, in which every fifth packet is lost and every seventh comes twice, unless it is lost; the built-in
-- procedures, and the rows of the accounts
abbrev pub load_cluster : Cluster
load_cluster = record {
  version = 1;
  regions = 4;
  workers = 4;
  tries = 3;
  drop = 5;
  repeat = 7;
  procs = builtin_procs;
  homes = [];
  rows = map account_row account_numbers;
}

-- the number of `xfer` among the built-in procedures
abbrev pub xfer_number : ℕ
xfer_number = 7

-- the call that transfers an amount from one account to another, which may be the same one
abbrev pub transfer_call : ℕ → ℕ → ℕ → Wanted
transfer_call source target amount = Call xfer_number (Text (account source) ∷ Text (account target) ∷ Int (pos amount) ∷ [])

-- what call i wants, for which these three numbers were drawn: the last of every 50 calls moves an account to a region, and
-- each other one transfers an amount from 1 to 50
abbrev pub wanted_by : ℕ → ℕ → ℕ → ℕ → Wanted
wanted_by i u v w = if i % 50 == 49 then Move (account (u % 100)) (v % 4) else transfer_call (u % 100) (v % 100) (w % 50 + 1)

-- call i, counted from 0: three numbers are drawn for each call, also for a move, which uses only two; all have rank 5
abbrev pub load_call : ℕ → Ranked
load_call i = record { rank = 5; wanted = wanted_by i (drawn (3 * i)) (drawn (3 * i + 1)) (drawn (3 * i + 2)) }

-- the sessions by their numbers, 0 to 63
unfoldable pub session_numbers : List ℕ
session_numbers = range_with_len 0 64

-- the name of session j: `s` and two digits
abbrev pub session_name : ℕ → Bytes
session_name j = 115 ∷ (48 + j / 10) ∷ (48 + j % 10) ∷ []

-- the calls of session j where there are n in all: every 64th from call j on
abbrev pub load_calls : ℕ → ℕ → List Ranked
load_calls n j = map load_call (filter (λ i. i % 64 == j) (range_with_len 0 n))

-- session j where there are n calls in all: 16 sessions are at each region
abbrev pub load_session : ℕ → ℕ → Session
load_session n j = record { name = session_name j; region = j / 16; calls = load_calls n j }

-- the workload of n calls
abbrev pub load_workload : ℕ → Workload
load_workload n = record { sessions = map (load_session n) session_numbers }
