use denote.Exit.{no}
use denote.Plain.{UInt}
use denote.Param.Send.{IsSend, arg_send, param_send, sendable, shr_send}
use mir.Syntax.{w32}
use Rattle.std.proofs.Common.{◌≡◌, ◌+◌, ◌-◌, arith, subst, take, vec_len}
use Rattle.std.proofs.Crossing.{send}
use Rattle.dt_pool.proofs.Callers.{and_moved, captures_send, no_more, server_send}
use Rattle.dt_proc.proofs.Callers.{procs_sync}
use Rattle.dt_run.proofs.LeftLinks.{still_there, taken_there}
use Rattle.dt_run.proofs.SeatMoves.{seat_moves}
use Rattle.dt_run.proofs.to_end.fn.with_links.scope.Goals as goal

workers_send : IsSend (UInt w32)
workers_send = search sendable

-- a helper's thread is given rt, alloc, its own side, procs, workers and gate
pub spawn-served-requires-send-F : goal.spawn-served-requires-send-F
spawn-served-requires-send-F g c κs within =
    let name = c.requires.send.0 in
    let seat = c.requires.send.1 in
    param_send _ _ (arg_send _ no _ (captures_send _ _
    (and_moved _ _ (shr_send _ _ _ c.requires.send.2)
    (and_moved _ _ send
    (and_moved _ _ (server_send _ _ _ (seat_moves _ g.S.Scheduler seat) name)
    (and_moved _ _ (shr_send _ _ _ procs_sync)
    (and_moved _ _ workers_send
    (and_moved _ _ (shr_send _ _ _ c.requires.send.3) no_more))))))))

pub loop-link-preserved-else-is_err-2 : goal.loop-link-preserved-else-is_err-2
loop-link-preserved-else-is_err-2 g c =
    let one : vec_len c.pop.new.self + 1 ≡ vec_len c.loop-link.links = c.in-Some.ensures.cases in
    let last : vec_len c.loop-link.links - 1 ≡ vec_len c.pop.new.self = omega (arith, one) in
    still_there g.N.Lending.links c.loop-link.links.items c.pop.new.self.items (vec_len c.loop-link.links) (vec_len c.pop.new.self)
    (subst (λ n. c.pop.new.self.items ≡ take n c.loop-link.links.items) last c.pop.ensures.rest) one c.loop-link.invariant

pub hire-requires : goal.hire-requires
hire-requires g c =
    let one : vec_len c.pop.new.self + 1 ≡ vec_len c.loop-link.links = c.in-Some.ensures.cases in
    taken_there g.N.Lending.links c.loop-link.links.items c.pop.new.self.items c.in-Some.link (vec_len c.loop-link.links) (vec_len c.pop.new.self) c.len.result
    c.in-Some.ensures.items c.pop.new.self.ok.0 c.len.ensures one c.loop-link.invariant
