use Rattle.text_output.proofs.PageLemmas.{written_same}
use Rattle.words_commands.proofs.PacketLinesLemmas.{line_written}
use Rattle.words_commands.proofs.packet_lines.write_packet.Goals as goal

pub returns : goal.returns
returns g c start faults before has =
    written_same start faults _ _ _ (line_written before _ c.args.frame _ _ c.args.packet.now c.from.ensures c.from-2.ensures c.as_slice.ensures.bytes)
    (c.write-6.ensures start faults _
    (c.write-5.ensures start faults _
    (c.write-4.ensures start faults _
    (c.write_number-3.ensures start faults _
    (c.write-3.ensures start faults _
    (c.write_number-2.ensures start faults _
    (c.write-2.ensures start faults _
    (c.write_number.ensures start faults _ (c.write.ensures start faults _ has)))))))))
