-- `nothing` picks what is seen at first. Assumes `Logic`.
use Rattle.std.proofs.Common.{◌<◌, ◌^◌, ℕ, List, [], ◌∷◌, refl, sym, subst}
use seplogic.Ra.Ura.{Ura}
use mir.Syntax.{Fn, w8}
use mir.Val.{Val, vint}
use base.Logic.{SProp, ent, via, fst∗, snd∗}
use prog.Memory.{Memory}
use prog.Routine.{Routine}
use prog.Wp.{Calls, Loops, WpFn, Tables}
use contract.Monad.{Fun, fact_use}
use contract.Running.{tables, tables_of}
use sound.WpLaws.{WpFn-mono}
use types.Logic.{Logic, sem}
use types.Kit.{‵, raw, ◌⊛◌, ◌$◌, ◌∵◌, !, qed, move, keep, drop, split, fjoin, suffices, done}
use types.Part.{agg}
use types.Run.{enter, returns, no_more}
use types.ByLocal.{alloc_all, pass_all, free_all, look_at, sets}
use denote.Exit.{yes}
use denote.RattleType.{RattleType, owns}
use denote.Builtin.{u8}
use denote.Laws.{Are, Ises, owns_show, showss}
use denote.Signature.{plain, types_at}
use denote.Steps.{nothing}
use denote.Triple.Clauses.{Clauses, Ended, closing}
use denote.Triple.Entry.{alive, on_entry}
use denote.Triple.Spec.{Meets, triple_of}
use denote.Triple.Table.{entered}
use denote.Triple.Walked.{says, Stays, stay_dropped, walk_of, ends_at, walk_Meets, Goes-dropped}
use Rattle.dt_sched.specs.Sched.{nothing_yet}
use Rattle.dt_graph.proofs.NoFields.{none, none_made}
use Rattle.dt_graph.specs.contracts.seen.Seen as Seen
use Rattle.dt_graph.specs.contracts.seen.Seen.nothing as F
use Rattle.dt_graph.specs.contracts.seen.Seen.nothing.Key.{name as #self}
use Rattle.dt_graph.proofs.seen.Seen.nothing.Statement as stated
use Rattle.dt_graph.proofs.seen.Seen.nothing.Code as code

abbrev function : Fn
function = code.function

abbrev ended : Ended
ended = F.ended

abbrev stayed : Stays ended.signature.params ended.kept
stayed = (stay_dropped (plain (λ _. u8)) yes, tt)

module _ {M : Type 1} {𝓤 : Ura M} (𝓛 : Logic 𝓤) (at_mem : Memory → SProp 𝓤) (run : Routine → Fun 𝓤) where
  open 𝓛 use {H}

  abbrev held : Clauses 𝓤 ended
  held = F.clauses 𝓛 at_mem run

  module _ (C : Calls 𝓤 H) (Λ : Loops 𝓤 H) (z : (walk_of 𝓛 ended stayed held).Ghost) where
    abbrev At : List Val × Unit {0} → (walk_of 𝓛 ended stayed held).Ghost
    At vss = ((z.0.0, z.0.1, z.0.2, z.0.3, vss), z.1)

    abbrev Goes : List Val × Unit {0} → Type 1
    Goes vss = ent 𝓤 ((walk_of 𝓛 ended stayed held).pre (At vss)) (WpFn 𝓤 H C Λ function ((walk_of 𝓛 ended stayed held).args (At vss)) ((walk_of 𝓛 ended stayed held).post (At vss)))

    abbrev toks : SProp 𝓤
    toks = alive 𝓛 ended.signature z.0.0 z.0.1

    abbrev asked : SProp 𝓤
    asked = (held z.0.0 z.0.3).requires z.1

    abbrev regions : ℕ
    regions = z.0.3.0

    abbrev passed : List Val × Unit {0}
    passed = (vint w8 regions ∷ [], tt)

    walks : regions < 2 ^ 8 → Goes passed
    walks fits =
        let seen : (Seen.the_row).Denot = record { sched = nothing_yet regions } in
        qed 𝓛 ((raw toks ⊛ ‵ (owns (types_at ended.signature.params z.0.0) z.0.3 passed)) ∷ raw asked ∷ []) ∵
        keep ! (0 ∷ []) $ split ! $ move ! (1 ∷ []) $ drop ! $
        enter ! C Λ function (vint w8 regions ∷ []) _ $ alloc_all ! (λ l. pass_all ! refl ((tt, record { fits = fits }), tt) $
        sets ! (agg ! (no_more !)) refl (tt, tt) $
        nothing ! $ none_made ! $ fjoin ! $
        returns ! (look_at ! 0 refl) $ free_all ! refl $
        suffices ! _ (ends_at 𝓛 ended stayed held (At passed) none seen (tt, tt) (tt, tt)) $ says ! refl $
        nothing ! $ nothing ! $ fjoin ! $ move ! (2 ∷ 0 ∷ 1 ∷ []) $ done !)

  meets : (𝓣 : Tables 𝓤 H) → Meets 𝓛 ended.signature (WpFn 𝓤 H 𝓣.C 𝓣.Λ function) (closing 𝓛 ended held)
  meets 𝓣 =
      walk_Meets 𝓛 ended stayed (Goes-dropped 𝓛 0 (plain (λ _. u8)) yes (λ κs x f. refl), tt) held
      (WpFn 𝓤 H 𝓣.C 𝓣.Λ function) (WpFn-mono 𝓤 H 𝓛.laws 𝓣 function)
      (λ z.
      let a = z.0.3 in
      let vss = z.0.4 in
      let Rs : List RattleType = types_at ended.signature.params z.0.0 in
      let On : SProp 𝓤 = on_entry 𝓛 ended.signature z.0.0 z.0.1 a vss in
      let owned : SProp 𝓤 = sem 𝓛 (owns Rs a vss) in
      let entry : ent 𝓤 ((walk_of 𝓛 ended stayed held).pre z) owned = via 𝓤 On (fst∗ 𝓤 On ((held z.0.0 a).requires z.1)) (snd∗ 𝓤 (alive 𝓛 ended.signature z.0.0 z.0.1) owned) in
      fact_use 𝓤 (Are Rs (Ises Rs) a vss) (via 𝓤 owned entry (owns_show 𝓛 Rs (Ises Rs) (showss 𝓛 Rs) a vss)) (λ are.
      subst (Goes 𝓣.C 𝓣.Λ z) (λ i. (sym are.0.0 i, tt)) (walks 𝓣.C 𝓣.Λ z are.0.1)))

pub nothing_spec : {M : Type 1} → stated.statement M
unfolding tables_of
nothing_spec 𝓤 𝓛 𝓜 𝓡 wired =
    let 𝓣 : Tables 𝓤 𝓛.H = tables_of 𝓤 𝓛.H 𝓜 (tables 𝓤 𝓛.H 𝓜 𝓡 𝓡.env) in
    entered 𝓤 𝓛.H (triple_of 𝓛 ended.signature (closing 𝓛 ended (held 𝓛 𝓜.mem 𝓡.returns))) 𝓣.C 𝓣.Λ #self function
    (code.unfolded 𝓤 𝓛.H 𝓜 𝓡 wired) (meets 𝓛 𝓜.mem 𝓡.returns 𝓣)
