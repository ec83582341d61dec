use Rattle.std.proofs.Common.{◌++◌, List, take}
use Rattle.std.specs.List.{flat_map}
use Rattle.line21_codes.specs.declared.pairs.Pair.{Pair}
use Rattle.text_output.specs.Pages.{Writes, WritesSome, page}
use Rattle.xds_packets.specs.Reader.{HasRead}
use Rattle.words_commands.specs.PacketLines.{packet_line}
use Rattle.words_commands.proofs.PacketLinesLemmas.{ended_in}
use Rattle.words_commands.proofs.packet_lines.PacketLines.write_packets.Given as goal

-- the pairs so far are read, and the lines of the packets that ended in them written
abbrev pub invariant-loop-pair : goal.invariant-loop-pair
invariant-loop-pair g l = record {
  reads : (before : List Pair) → HasRead before l.initial.self.reader → HasRead (before ++ take l.pair-index l.pairs) l.self.reader;
  writes : (before : List Pair) → HasRead before l.initial.self.reader
      → Writes (page l.initial.text (g.O.Sink.written l.initial.out) (g.O.Sink.faults l.initial.out)) (page l.text (g.O.Sink.written l.out) (g.O.Sink.faults l.out))
      (flat_map (packet_line l.frame) (ended_in before (take l.pair-index l.pairs)));
  some : WritesSome (page l.initial.text (g.O.Sink.written l.initial.out) (g.O.Sink.faults l.initial.out)) (page l.text (g.O.Sink.written l.out) (g.O.Sink.faults l.out));
}
