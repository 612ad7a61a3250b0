use Rattle.std.proofs.Common.{◌≡◌, ap, sym, ◌∙◌, subst, Some, slice_get, option_copied}
use Rattle.dt_eval.specs.Meaning.{Fits, HasKeys}
use Rattle.dt_proc.specs.Sound.{IsSoundProc}
use Rattle.dt_workload.specs.File.{proc_name}
use Rattle.dt_workload.proofs.Steps.{named_word, found_proc, all_at}
use Rattle.dt_workload.proofs.draft.call_number.Goals as goal

pub returns-clause-ok : goal.returns-clause-ok
returns-clause-ok c =
    let body = c.in-Some-get.body.now in
    let place = sym c.find.ensures ∙ c.in-Some.is in
    let there : slice_get c.args.cluster.now.procs c.in-Some.number ≡ Some body = sym c.get.ensures ∙ ap option_copied c.in-Some-get.is in (
      ap proc_name there ∙ named_word c.args.cluster.now.procs c.args.word.now c.in-Some.number body place there,
      record {
        body = body;
        named = there;
        sound = all_at IsSoundProc c.args.cluster.now.procs c.in-Some.number body c.requires.procs.sound there;
        fits = subst (Fits body) c.as_slice.ensures (c.fits.ensures.0 c.if-not-fits.false);
        keys = subst (HasKeys body) c.as_slice-2.ensures c.in_ok-gives_keys.ensures.ok;
      },
      found_proc c.args.cluster.now c.args.word.now c.in-Some.number place,
    )
