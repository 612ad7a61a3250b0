-- Ids of transactions: how two are compared, and how an id is spelled. An id is the number of a submission in its region,
-- with that region. Every region can compare any two ids without asking another, so a group of transactions that wait for
-- each other is put in the same order everywhere. Ranks come before ids in that order (`IsSooner` of dt_sched). Read
-- next: Granules.antt.
use Rattle.std.specs.Prelude.{◌≡◌, ◌≢◌, ℕ, ◌<◌, ◌^◌, ◌⊎◌, Bool, ◌&&◌, ◌==◌, List, ◌∷◌, ◌++◌, Option, MatchOption}
use Rattle.std.specs.Fmt.{decimal}
use Rattle.std.specs.List.{list_any}
use Rattle.dt_lists.specs.Lists.{EachThen, SomeThen}
use Rattle.dt_access.specs.declared.id.TxnId.{TxnId}

-- the order of ids: by sequence number, then by region
abbrev pub Before : TxnId → TxnId → Type 0
Before a b = (a.seq < b.seq) ⊎ ((a.seq ≡ b.seq) × (a.region < b.region))

-- whether two ids are the same
abbrev pub same_id : TxnId → TxnId → Bool
same_id a b = (a.seq == b.seq) && (a.region == b.region)

-- whether the id is one of these
abbrev pub is_among : List TxnId → TxnId → Bool
is_among ids id = list_any (same_id id) ids

-- the one id stands earlier in the list than the other
abbrev pub StandsBefore : List TxnId → TxnId → TxnId → Type 0
StandsBefore ids a b = SomeThen (λ x y. (x ≡ a) × (y ≡ b)) ids

-- each id stands before all later ones in the order of ids
abbrev pub AreAscending : List TxnId → Type 0
AreAscending ids = EachThen Before ids

-- the printed form of an id: the sequence number, a dot, the region
abbrev pub id_text : TxnId → List ℕ
id_text id = decimal id.seq ++ 46 ∷ decimal id.region

-- an id that some submission can have: they are counted from 1, in 32 bits, and a region's number has 8 bits
abbrev pub IsCounted : TxnId → Type 0
IsCounted id = (0 < id.seq) × (id.seq < 2 ^ 32) × (id.region < 2 ^ 8)

-- the answer is the counted id that the word spells, and none where it spells no such id
abbrev pub ReadsId : List ℕ → Option TxnId → Type 0
ReadsId word answer =
    MatchOption answer ((id : TxnId) → IsCounted id → word ≢ id_text id) (λ id. IsCounted id × (word ≡ id_text id))
