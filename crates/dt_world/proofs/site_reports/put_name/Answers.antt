use Rattle.std.proofs.Common.{◌≡◌, cond, [], ◌∷◌, ◌++◌, subst}
use Rattle.std.specs.List.{list_any}
use Rattle.dt_access.specs.Clash.{Bytes, same_key}
use Rattle.dt_world.proofs.site_reports.put_name.Goals as goal

pub returns : goal.returns
returns c =
    let keys = c.args.names.now.keys in
    subst (λ (n : Bytes). c.insert.new.self.keys ≡ cond (list_any (same_key n) keys) keys (keys ++ n ∷ [])) c.in_ok-copy.ensures.same c.in_ok-insert.ensures.keys
