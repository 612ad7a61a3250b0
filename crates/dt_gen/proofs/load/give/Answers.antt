use Rattle.std.proofs.Common.{◌≡◌, ◌%◌, ◌++◌, ◌∷◌, [], List, length, get_or, set, ap, ◌∙◌, arith, rules}
use Rattle.dt_workload.specs.declared.Ranked.{Ranked}
use Rattle.dt_workload.specs.declared.Session.{Session}
use Rattle.dt_workload.specs.Valid.{wanting}
use Rattle.dt_gen.specs.Load.{load_call, load_session}
use Rattle.dt_gen.proofs.OneCallMore.{dealt, session_there, sessions_length}
use Rattle.dt_gen.proofs.load.give.Goals as goal

pub bounds-sessions-number : goal.bounds-sessions-number
bounds-sessions-number c = omega (arith, ap length c.requires.before, sessions_length c.args.number)

pub returns : goal.returns
returns c =
    let n = c.args.number in
    let turn = n % 64 in
    let d = c.index-sessions-number.result in
    let there = ap (λ l. get_or l turn d) c.requires.before ∙ session_there n turn d (omega arith) in
    let s = get_or c.args.sessions.now turn d in
    let longer : c.push.new.self ≡ s.calls ++ c.args.call ∷ [] = search rules in
    ap (λ (calls : List Ranked). set c.args.sessions.now turn (record { name = s.name; region = s.region; calls = calls })) longer
    ∙ ap (λ (now : Session). set c.args.sessions.now turn (wanting now c.args.call)) there
    ∙ ap (λ (call : Ranked). set c.args.sessions.now turn (wanting (load_session n turn) call)) c.requires.call
    ∙ ap (λ (all : List Session). set all turn (wanting (load_session n turn) (load_call n))) c.requires.before
    ∙ dealt n
