use Rattle.std.proofs.Common.{◌≡◌, Err, rules}
use Rattle.command_base.proofs.WholeInputLemmas.{judged, unread}
use Rattle.scc_commands.specs.Import.{IsImport, IsRefusedImport}
use Rattle.scc_commands.proofs.ImportLemmas.{import_refusals, placed_read}
use Rattle.scc_commands.proofs.import.read_pairs.Goals as goal

pub returns-clause-reads : goal.returns-clause-reads
returns-clause-reads g c =
    judged (IsImport c.args.opening) (IsRefusedImport c.args.opening) (import_refusals c.args.opening) _ _ _ _ c.in_ok-bytes.bytes.items c.judge.result c.in_ok-bytes.ensures.bytes.2 c.in_ok-bytes.ensures.bytes.1 c.in_ok-bytes.ensures.bytes.0
    (rw c.deref.ensures.value at c.judge.ensures)

pub returns-clause-placed : goal.returns-clause-placed
returns-clause-placed g c = placed_read _ _ c.judge.result c.judge.ensures

pub returns-in_err-bytes-clause-reads : goal.returns-in_err-bytes-clause-reads
returns-in_err-bytes-clause-reads g c =
    let answer : c.from_residual.result ≡ Err c.in_err-bytes.field-0.0 = search rules in
    rw answer (unread (IsImport c.args.opening) (IsRefusedImport c.args.opening) (λ bytes long. long) _ _ _ _ c.in_err-bytes.field-0.0 c.in_err-bytes.ensures.bytes)
