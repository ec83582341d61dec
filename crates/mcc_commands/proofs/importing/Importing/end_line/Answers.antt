use Rattle.std.proofs.Common.{◌∙◌}
use Rattle.mcc_files.specs.Readers.{packet_in}
use Rattle.mcc_commands.proofs.importing.Importing.end_line.Goals as goal

pub put_packet-requires-clause-whole : goal.put_packet-requires-clause-whole
put_packet-requires-clause-whole g c = ((packet_in c.args.self.now.reader).1, c.bytes.ensures ∙ c.requires.whole)

pub add_packet-requires-clause-words : goal.add_packet-requires-clause-words
add_packet-requires-clause-words g c = c.deref.ensures.0 ∙ c.put_packet.ensures (packet_in c.args.self.now.reader).1 (c.bytes.ensures ∙ c.requires.whole)
