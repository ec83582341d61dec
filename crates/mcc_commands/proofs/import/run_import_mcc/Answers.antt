use Rattle.std.proofs.Common.{refl}
use Rattle.command_base.proofs.RealisedLemmas.{no_memory}
use Rattle.mcc_commands.specs.ImportMcc.{ImportMccVerdict}
use Rattle.text_output.specs.Gathered.{held_of}
use Rattle.command_base.specs.Ends.{ends}
use Rattle.mcc_commands.proofs.RunLemmas.{answered, err_is, ok_is}
use Rattle.mcc_commands.proofs.import.run_import_mcc.Goals as goal

pub returns-in_default : goal.returns-in_default
returns-in_default g c = no_memory ImportMccVerdict _ _ refl

pub returns-in-Ok-put_rest : goal.returns-in-Ok-put_rest
returns-in-Ok-put_rest g c =
    ok_is
    (ends (g.M.Source.left c.args.input.now) (g.M.Source.faults c.args.input.now) (g.O.Sink.written c.args.out.now) (g.O.Sink.faults c.args.out.now))
    (ends (g.M.Source.left c.read_file-read.new.input) (g.M.Source.faults c.read_file-read.new.input) (g.O.Sink.written c.put_rest.new.out) (g.O.Sink.faults c.put_rest.new.out))
    c.put_rest.result c.in-Ok-put_rest.field-0 c.in-Ok-put_rest.is
    (answered _ _ _ _ _ _ _ _ _ _ (held_of c.read_file-read.new.text) c.read_file-read.result c.put_rest.result c.read_file-read.ensures c.put_rest.ensures)

pub returns : goal.returns
returns g c =
    err_is
    (ends (g.M.Source.left c.args.input.now) (g.M.Source.faults c.args.input.now) (g.O.Sink.written c.args.out.now) (g.O.Sink.faults c.args.out.now))
    (ends (g.M.Source.left c.read_file-read.new.input) (g.M.Source.faults c.read_file-read.new.input) (g.O.Sink.written c.put_rest.new.out) (g.O.Sink.faults c.put_rest.new.out))
    c.put_rest.result c.in-Err.stop c.status.result c.in-Err.is c.status.ensures
    (answered _ _ _ _ _ _ _ _ _ _ (held_of c.read_file-read.new.text) c.read_file-read.result c.put_rest.result c.read_file-read.ensures c.put_rest.ensures)
