use Rattle.std.proofs.Common.{◌∙◌, subst, sym}
use Rattle.cc_base.specs.Streams.{PutCause}
use Rattle.line21_codes.specs.declared.channels.FieldNumber.TheVariants.{Two}
use Rattle.text_output.proofs.PageLemmas.{some_cause}
use Rattle.words_files.specs.Received.{received_pairs}
use Rattle.words_commands.proofs.PacketLinesLemmas.{lines_gathered, pairs_read}
use Rattle.words_commands.proofs.packet_lines.PacketLinesPerFrame.frame.Goals as goal

pub returns-in-Done-clause-makes : goal.returns-in-Done-clause-makes
returns-in-Done-clause-makes g c given start bytes frames next stands way received are number =
    let same = c.pairs_two.ensures bytes frames next received are in
    let made = lines_gathered start _ _ c.answer.result frames next c.args.number _ (rw (sym c.begin.ensures.held) at way) c.begin.ensures.answer
    (c.write_packets.ensures.writes (received_pairs Two frames) stands) c.answer.ensures same number in
    (pairs_read frames next _ _ same (c.write_packets.ensures.reads (received_pairs Two frames) stands), rw c.in-Done.is at made)

pub returns-in-Failed-clause-makes : goal.returns-in-Failed-clause-makes
returns-in-Failed-clause-makes g c given start bytes frames next stands way received are number =
    let same = c.pairs_two.ensures bytes frames next received are in
    let made = lines_gathered start _ _ c.answer.result frames next c.args.number _ (rw (sym c.begin.ensures.held) at way) c.begin.ensures.answer
    (c.write_packets.ensures.writes (received_pairs Two frames) stands) c.answer.ensures same number in
    (tt, rw c.in-Failed.is at made)

pub returns-in-Done-clause-cause : goal.returns-in-Done-clause-cause
returns-in-Done-clause-cause g c =
    subst (λ a. PutCause (g.O.Sink.faults c.args.out.now) (g.O.Sink.faults c.write_packets.new.out) a) (sym c.answer.ensures ∙ c.in-Done.is)
    (some_cause _ _ c.begin.ensures.answer c.write_packets.ensures.some)

pub returns-in-Failed-clause-cause : goal.returns-in-Failed-clause-cause
returns-in-Failed-clause-cause g c =
    subst (λ a. PutCause (g.O.Sink.faults c.args.out.now) (g.O.Sink.faults c.write_packets.new.out) a) (sym c.answer.ensures ∙ c.in-Failed.is)
    (some_cause _ _ c.begin.ensures.answer c.write_packets.ensures.some)
