-- What is wrong with a cluster file, in words. The program's line for such a fault ends with these. Read next: `Statuses` of
-- `dt_command`, for the whole line.
use Rattle.std.specs.Prelude.{codes}
use Rattle.dt_text.specs.Texts.{Bytes}
use Rattle.dt_cluster_file.specs.declared.error.ClusterCause.{ClusterCause}
use Rattle.dt_cluster_file.specs.declared.error.ClusterCause.TheVariants as cause

-- a cause in words
abbrev pub cluster_text : ClusterCause → Bytes
cluster_text cause.TooLong = codes "too long"
cluster_text cause.NotToml = codes "no toml"
cluster_text cause.Unknown = codes "unknown entry"
cluster_text cause.Missing = codes "missing"
cluster_text cause.Kind = codes "wrong kind"
cluster_text cause.Range = codes "out of range"
cluster_text cause.BadKey = codes "no key"
cluster_text cause.BadText = codes "no text"
cluster_text cause.Syntax = codes "syntax"
cluster_text cause.UnknownName = codes "unknown name"
cluster_text cause.Twice = codes "name used twice"
cluster_text cause.TooMany = codes "too many"
