use Rattle.std.proofs.Common.{ℕ, List, ◌∷◌, ◌++◌, sym, ◌∙◌, true, false, arith}
use Rattle.std.specs.List.{flat_map}
use Rattle.std.proofs.lemmas.Result.{err_from_is_err_and}
use Rattle.dt_syntax.specs.declared.token.Token.TheVariants as tok
use Rattle.dt_syntax.specs.declared.token.Placed.{Placed}
use Rattle.dt_syntax.specs.Grammar.{at, KeySyntax, key_tokens}
use Rattle.dt_proc.proofs.ExprWalk.{told_right}
use Rattle.dt_syntax.proofs.Callers.{cut_first, key_first, key_none}
use Rattle.dt_proc.proofs.HeadWalk.{keys_next, keys_fault, keys_end}
use Rattle.dt_proc.proofs.keys.+more_keys.Goals as goal

-- the tokens behind a key: more keys, and then the body
abbrev after_key : List KeySyntax → ℕ → List Placed → List Placed
after_key more b rest = flat_map key_tokens more ++ at b tok.Begin ∷ rest

pub returns-in_err-rest-in-Read-clause-right : goal.returns-in_err-rest-in-Read-clause-right
returns-in_err-rest-in-Read-clause-right t c = λ ks b rest e.
    let p = err_from_is_err_and c.from_residual.result c.from_residual.ensures.1 in
    let k = key_first ks b rest c.first-item.result _ false c.in-Read.is (e ∙ cut_first c.args.tokens.now c.first-item.result c.in-len1-up.len_at_least c.first-item.is) in
    let told = c.in_err-rest-in-Read.ensures.right k.key (after_key k.more b rest) k.mode k.cut in
    rw (p.1, p.2) (keys_fault c.args.scope.now c.args.keys.now ks k.key k.more (after_key k.more b rest) rest _ k.is told)

pub returns-in_ok-rest-in-Read-clause-right : goal.returns-in_ok-rest-in-Read-clause-right
returns-in_ok-rest-in-Read-clause-right t c = λ ks b rest e.
    let k = key_first ks b rest c.first-item.result _ false c.in-Read.is (e ∙ cut_first c.args.tokens.now c.first-item.result c.in-len1-up.len_at_least c.first-item.is) in
    let told = c.in_ok-rest-in-Read.ensures.right k.key (after_key k.more b rest) k.mode k.cut in
    told_right _ _ rest _ (keys_next c.args.scope.now c.key.new.scope c.args.keys.now c.key.new.keys ks k.key k.more k.is told.0)
    (c.more_keys.ensures.right k.more b rest (sym told.1))

pub returns-in_err-rest-in-Write-clause-right : goal.returns-in_err-rest-in-Write-clause-right
returns-in_err-rest-in-Write-clause-right t c = λ ks b rest e.
    let p = err_from_is_err_and c.from_residual-in_err-rest-in-Write.result c.from_residual-in_err-rest-in-Write.ensures.1 in
    let k = key_first ks b rest c.first-item.result _ true c.in-Write.is (e ∙ cut_first c.args.tokens.now c.first-item.result c.in-len1-up.len_at_least c.first-item.is) in
    let told = c.in_err-rest-in-Write.ensures.right k.key (after_key k.more b rest) k.mode k.cut in
    rw (p.1, p.2) (keys_fault c.args.scope.now c.args.keys.now ks k.key k.more (after_key k.more b rest) rest _ k.is told)

pub returns-in_ok-rest-in-Write-clause-right : goal.returns-in_ok-rest-in-Write-clause-right
returns-in_ok-rest-in-Write-clause-right t c = λ ks b rest e.
    let k = key_first ks b rest c.first-item.result _ true c.in-Write.is (e ∙ cut_first c.args.tokens.now c.first-item.result c.in-len1-up.len_at_least c.first-item.is) in
    let told = c.in_ok-rest-in-Write.ensures.right k.key (after_key k.more b rest) k.mode k.cut in
    told_right _ _ rest _ (keys_next c.args.scope.now c.key-in-Write.new.scope c.args.keys.now c.key-in-Write.new.keys ks k.key k.more k.is told.0)
    (c.more_keys-in-Write.ensures.right k.more b rest (sym told.1))

pub returns-in_default-token-clause-right : goal.returns-in_default-token-clause-right
returns-in_default-token-clause-right t c = λ ks b rest e.
    let n = key_none ks b rest c.first-item.result _ c.in_default-token.not-Read c.in_default-token.not-Write
    (e ∙ cut_first c.args.tokens.now c.first-item.result c.in-len1-up.len_at_least c.first-item.is) in
    (keys_end c.args.scope.now c.args.keys.now ks n.0, n.1)

pub key-requires-clause-starts : goal.key-requires-clause-starts
key-requires-clause-starts t c =
    let s = c.requires.starts in
    let k = key_first s.more s.begin_at s.rest c.first-item.result _ false c.in-Read.is (s.cut ∙ cut_first c.args.tokens.now c.first-item.result c.in-len1-up.len_at_least c.first-item.is) in
    record { one = k.key; rest = after_key k.more s.begin_at s.rest; cut = k.cut }

pub more_keys-requires : goal.more_keys-requires
more_keys-requires t c =
    let s = c.requires.starts in
    let k = key_first s.more s.begin_at s.rest c.first-item.result _ false c.in-Read.is (s.cut ∙ cut_first c.args.tokens.now c.first-item.result c.in-len1-up.len_at_least c.first-item.is) in
    let told = c.in_ok-rest-in-Read.ensures.right k.key (after_key k.more s.begin_at s.rest) k.mode k.cut in (
      omega (arith, c.decreases, c.in_ok-rest-in-Read.ensures.shorter),
      (omega (arith, c.requires.room, c.in_ok-rest-in-Read.ensures.room), record { more = k.more; begin_at = s.begin_at; rest = s.rest; cut = sym told.1 }),
    )

pub key-requires-in-Write-clause-starts : goal.key-requires-in-Write-clause-starts
key-requires-in-Write-clause-starts t c =
    let s = c.requires.starts in
    let k = key_first s.more s.begin_at s.rest c.first-item.result _ true c.in-Write.is (s.cut ∙ cut_first c.args.tokens.now c.first-item.result c.in-len1-up.len_at_least c.first-item.is) in
    record { one = k.key; rest = after_key k.more s.begin_at s.rest; cut = k.cut }

pub more_keys-requires-in-Write : goal.more_keys-requires-in-Write
more_keys-requires-in-Write t c =
    let s = c.requires.starts in
    let k = key_first s.more s.begin_at s.rest c.first-item.result _ true c.in-Write.is (s.cut ∙ cut_first c.args.tokens.now c.first-item.result c.in-len1-up.len_at_least c.first-item.is) in
    let told = c.in_ok-rest-in-Write.ensures.right k.key (after_key k.more s.begin_at s.rest) k.mode k.cut in (
      omega (arith, c.decreases, c.in_ok-rest-in-Write.ensures.shorter),
      (omega (arith, c.requires.room, c.in_ok-rest-in-Write.ensures.room), record { more = k.more; begin_at = s.begin_at; rest = s.rest; cut = sym told.1 }),
    )
