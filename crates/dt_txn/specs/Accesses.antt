-- The order of an access list: one learns here what keeps a transaction's keys apart. A list of rows that a transaction
-- uses stands in ascending order of keys, so no row stands in it twice, and so the parts that its homes order have their
-- keys in that order too. Read next: Transaction.antt, for what an entry means.
use Rattle.std.specs.Prelude.{List}
use Rattle.dt_lists.specs.Lists.{EachThen}
use Rattle.dt_access.specs.Orders.{KeyBefore}
use Rattle.dt_access.specs.declared.Access.{Access}

-- every key is less than all later ones, so none stands twice
abbrev pub AreAscendingAccesses : List Access → Type 0
AreAscendingAccesses accesses = EachThen (λ a b. KeyBefore a.key b.key) accesses
