-- What is wrong with a workload file, in words. The program's line for such a fault ends with these. Read next: `Statuses` of
-- `dt_command`, for the whole line.
use Rattle.std.specs.Prelude.{codes}
use Rattle.dt_text.specs.Texts.{Bytes}
use Rattle.dt_workload.specs.declared.error.WorkloadCause.{WorkloadCause}
use Rattle.dt_workload.specs.declared.error.WorkloadCause.TheVariants as cause

-- a cause in words
abbrev pub workload_text : WorkloadCause → Bytes
workload_text cause.TooLong = codes "too long"
workload_text cause.Form = codes "no line of a workload"
workload_text cause.Name = codes "no name"
workload_text cause.Twice = codes "name used twice"
workload_text cause.Region = codes "no region"
workload_text cause.TooMany = codes "too many"
workload_text cause.NoSession = codes "no session"
workload_text cause.Proc = codes "unknown procedure"
workload_text cause.Args = codes "wrong arguments"
workload_text cause.Key = codes "no key"
