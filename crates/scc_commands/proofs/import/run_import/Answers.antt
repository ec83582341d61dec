use Rattle.std.proofs.Common.{Err, None}
use Rattle.cc_base.specs.declared.streams.Put.TheVariants as put
use Rattle.command_base.specs.Ends.{ends}
use Rattle.command_base.proofs.MadeLemmas.{made_done, made_failed, read_refused}
use Rattle.scc_commands.specs.Import.{IsImport, IsRefusedImport, import_words, opening_of}
use Rattle.scc_commands.proofs.ImportLemmas.{IsCarriedImport, import_put, reads_alike}
use Rattle.scc_commands.proofs.import.run_import.Goals as goal

pub returns-in-Done : goal.returns-in-Done
returns-in-Done g c =
    rw c.opening_of.ensures at (
    made_done (IsImport c.opening_of.result) import_words IsCarriedImport (IsRefusedImport c.opening_of.result) _ _ c.in-Ok.ensures.reads.0 c.in-Done.ensures.cause c.in-Ok.ensures.reads.1
    (import_put c.opening_of.result put.Done _ _ _ c.in-Ok.pairs c.in-Ok.ensures.reads.2 c.in-Done.ensures.bytes)
    )

pub returns-in-Failed : goal.returns-in-Failed
returns-in-Failed g c =
    rw c.opening_of.ensures at (
    made_failed (IsImport c.opening_of.result) import_words IsCarriedImport (IsRefusedImport c.opening_of.result) _ (ends None _ _ _) c.in-Ok.ensures.reads.0 c.in-Failed.ensures.cause.1
    (import_put c.opening_of.result put.Failed _ _ _ c.in-Ok.pairs c.in-Ok.ensures.reads.2 c.in-Failed.ensures.bytes)
    )

pub returns-in-Err : goal.returns-in-Err
returns-in-Err g c =
    read_refused (IsImport (opening_of c.args.time)) import_words IsCarriedImport (IsRefusedImport (opening_of c.args.time)) (IsImport (opening_of c.args.time)) _ _ _ _ _ _ c.in-Err.status
    (reads_alike c.opening_of.result _ _ _ _ _ (Err c.in-Err.status) c.opening_of.ensures c.in-Err.ensures.reads)
