use Rattle.std.proofs.Common.{◌++◌, ap, append-nil, subst, sym}
use Rattle.std.proofs.lemmas.List.{take_all, take_more}
use Rattle.std.specs.List.{flat_map}
use Rattle.text_output.proofs.PageLemmas.{some_none, some_then, writes_none, writes_same}
use Rattle.xds_packets.specs.Reader.{HasRead}
use Rattle.words_commands.specs.PacketLines.{packet_line}
use Rattle.words_commands.proofs.PacketLinesLemmas.{ended_in, packet_written, read_more}
use Rattle.words_commands.proofs.packet_lines.PacketLines.write_packets.Goals as goal

pub loop-pair-init : goal.loop-pair-init
loop-pair-init g c = record {
  reads = λ before read. subst (λ ps. HasRead ps c.args.self.now.reader) (sym (append-nil before)) read;
  writes = λ before read. writes_none _;
  some = some_none _;
}

pub loop-pair-preserved : goal.loop-pair-preserved
loop-pair-preserved g c = record {
  reads = λ before read.
      read_more before _ _ _ _ (take_more c.args.pairs.now c.loop-pair.pair-index _ c.loop-pair-test.true)
      (c.pair-ended.ensures _ (c.loop-pair.invariant.reads before read)).1;
  writes = λ before read.
      packet_written _ _ _ before _ _ _ c.pair-ended.result c.args.frame (take_more c.args.pairs.now c.loop-pair.pair-index _ c.loop-pair-test.true)
      (c.pair-ended.ensures _ (c.loop-pair.invariant.reads before read)).0
      (c.loop-pair.invariant.writes before read) c.write_ended.ensures;
  some = some_then _ _ _ c.loop-pair.invariant.some (_, c.write_ended.ensures);
}

pub returns : goal.returns
returns g c =
    let all = take_all c.loop-pair.pair-index c.args.pairs.now c.loop-pair-test.false in
    record {
      reads = λ before read. subst (λ ps. HasRead (before ++ ps) c.loop-pair.self.reader) all (c.loop-pair.invariant.reads before read);
      writes = λ before read. writes_same _ _ _ _ (ap (λ ps. flat_map (packet_line c.args.frame) (ended_in before ps)) all) (c.loop-pair.invariant.writes before read);
      some = c.loop-pair.invariant.some;
    }
