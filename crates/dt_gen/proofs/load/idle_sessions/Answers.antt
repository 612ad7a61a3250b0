use Rattle.std.proofs.Common.{◌≡◌, ◌++◌, ◌∷◌, [], List, sym, ap, ◌∙◌, arith, rules}
use Rattle.std.proofs.lemmas.List.FromFn.{map-range_with_len_more}
use Rattle.dt_workload.specs.declared.Session.{Session}
use Rattle.dt_gen.specs.Load.{load_session}
use Rattle.dt_gen.proofs.load.idle_sessions.Goals as goal

pub loop-number-preserved : goal.loop-number-preserved
loop-number-preserved c =
    let n = c.loop-number.number in
    let longer : c.push.new.self.items ≡ c.loop-number.sessions.items ++ load_session 0 n ∷ [] = search rules in
    longer ∙ ap (λ (sessions : List Session). sessions ++ load_session 0 n ∷ []) c.loop-number.invariant ∙ sym (map-range_with_len_more (load_session 0) 0 n n (omega arith))
