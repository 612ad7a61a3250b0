-- Procedures may be read by many threads at once: they hold nothing that changes. Trees hold themselves, so their case is cited.
use denote.Param.Send.{IsSend, IsSync, sendable}
use Rattle.std.proofs.Crossing.{crosses}
use Rattle.dt_text.specs.contracts.listed.Listed as listed
use Rattle.dt_text.specs.contracts.name.Name as name
use Rattle.dt_text.specs.contracts.spelling.Spelling as spelling
use Rattle.dt_text.specs.contracts.text.Str as str
use Rattle.dt_syntax.specs.contracts.kinds.Kind as kind
use Rattle.dt_proc.specs.contracts.procs.Proc as proc
use Rattle.dt_proc.specs.contracts.procs.Procs as procs
use Rattle.dt_proc.specs.contracts.tree.Expr as expr
use Rattle.dt_proc.specs.contracts.tree.Give as give
use Rattle.dt_proc.specs.contracts.tree.KeyDecl as decl
use Rattle.dt_proc.specs.contracts.tree.Stmts as stmts
use Rattle.dt_proc.proofs.tree.Expr.TheLaws.TheKnot.{send-Expr, sync-Expr}
use Rattle.dt_proc.proofs.tree.Stmts.TheLaws.TheKnot.{send-Stmts, sync-Stmts}

spelling_send : IsSend spelling.the_row
spelling_send = search (crosses, sendable) depth 30

spelling_sync : IsSync spelling.the_row
spelling_sync = search (crosses, sendable) depth 30

name_sync : IsSync name.the_row
name_sync = search (spelling_send, spelling_sync, crosses, sendable) depth 30

str_send : IsSend str.the_row
str_send = search (spelling_send, spelling_sync, crosses, sendable) depth 30

str_sync : IsSync str.the_row
str_sync = search (spelling_send, spelling_sync, crosses, sendable) depth 30

kinds_sync : IsSync (listed.the_row kind.the_row)
kinds_sync = search (crosses, sendable) depth 30

decls_sync : IsSync (listed.the_row decl.the_row)
decls_sync = search (crosses, sendable) depth 50 fits 10000

expr_sync : IsSync expr.the_row
expr_sync = search (str_send, str_sync, sync-Expr, crosses, sendable) depth 40

gives_sync : IsSync (listed.the_row give.the_row)
gives_sync = search (str_send, str_sync, sync-Expr, crosses, sendable) depth 100 fits 100000

stmts_sync : IsSync stmts.the_row
stmts_sync = search (expr_sync, str_sync, gives_sync, sync-Stmts, crosses, sendable) depth 20

proc_sync : IsSync proc.the_row
proc_sync = search (name_sync, kinds_sync, decls_sync, stmts_sync, crosses, sendable) depth 30

-- copies of procedures have them in common, so that whoever drops the last of them may be another thread

name_send : IsSend name.the_row
name_send = search (spelling_send, spelling_sync, crosses, sendable) depth 30

kinds_send : IsSend (listed.the_row kind.the_row)
kinds_send = search (crosses, sendable) depth 30

decls_send : IsSend (listed.the_row decl.the_row)
decls_send = search (crosses, sendable) depth 50 fits 10000

expr_send : IsSend expr.the_row
expr_send = search (str_send, str_sync, send-Expr, crosses, sendable) depth 40

gives_send : IsSend (listed.the_row give.the_row)
gives_send = search (str_send, str_sync, send-Expr, crosses, sendable) depth 100 fits 100000

stmts_send : IsSend stmts.the_row
stmts_send = search (expr_send, str_send, gives_send, send-Stmts, crosses, sendable) depth 20

proc_send : IsSend proc.the_row
proc_send = search (name_send, kinds_send, decls_send, stmts_send, crosses, sendable) depth 30

pub procs_sync : IsSync procs.the_row
procs_sync = search (proc_send, proc_sync, crosses, sendable) depth 30
