use Rattle.line21_codes.specs.Reading.{code_of}
use Rattle.xds_packets.proofs.ReaderLemmas.{code_is, reads_code, reads_null, same_code}
use Rattle.xds_packets.proofs.reader.XdsReader.pair.Goals as goal

pub code-requires : goal.code-requires
code-requires c = same_code (code_of c.args.pair) c.in-Ok.code c.in-Ok.ensures.code (code_is c.args.pair)

pub returns-in-Ok : goal.returns-in-Ok
returns-in-Ok c = λ pairs read. reads_code pairs c.args.pair c.in-Ok.code c.args.self.now c.code.new.self c.code.result c.in-Ok.ensures.code c.code.ensures.gives c.code.ensures.next read

pub returns-in-Err : goal.returns-in-Err
returns-in-Err c = λ pairs read. reads_null pairs c.args.pair c.args.self.now c.in-Err.ensures.null read
