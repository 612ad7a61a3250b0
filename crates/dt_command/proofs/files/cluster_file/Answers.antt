use Rattle.std.proofs.Common.{◌≡◌, ◌∙◌, Err, ap, inr, subst}
use Rattle.std.specs.Prelude.{IfErr}
use Rattle.dt_access.specs.Clash.{Bytes}
use Rattle.dt_cluster_file.specs.File.{IsClusterFault, TellsFault}
use Rattle.dt_command.specs.RefusalCode.{IsFileRefusal}
use Rattle.dt_command.specs.declared.status.Status.{Status}
use Rattle.dt_command.specs.declared.status.Status.TheVariants.{BadCluster}
use Rattle.dt_command.proofs.files.cluster_file.Goals as goal

pub returns-in-Err-Fault-clause-refused : goal.returns-in-Err-Fault-clause-refused
returns-in-Err-Fault-clause-refused g c = λ status is.
    let P : Status → Type 0 = IsFileRefusal c.args.name.now (g.F.Folder.seen c.args.files.now) (g.F.Folder.seen c.load.new.files) in
    let same : BadCluster c.in-Err-Fault.fault ≡ status = cc in
    let said = subst (λ r. IfErr r (TellsFault (IsClusterFault c.as_slice.result.now))) (c.in-Err-Fault.is ∙ ap Err c.in-Err-Fault.field-0-is) c.read_cluster.ensures.fault in
    let fault = subst (λ (b : Bytes). IsClusterFault b c.in-Err-Fault.fault) c.as_slice.ensures.value said in
    subst P same (c.in_ok-bytes.bytes.items, c.in_ok-bytes.ensures.told, inr (c.in_ok-bytes.ensures.short, fault))
