use Rattle.std.proofs.Common.{refl, ◌∙◌}
use Rattle.mcc_files.specs.PayloadWords.{payload_of}
use Rattle.mcc_commands.proofs.ExportLineLemmas.{caption_payload, line_at, same_payload}
use Rattle.mcc_commands.proofs.lines.caption_line.Goals as goal

pub words_line-requires-clause-packet : goal.words_line-requires-clause-packet
words_line-requires-clause-packet c =
    let captions = c.requires.packet in
    (payload_of captions.packet, caption_payload captions.packet c.args.packet.now captions.is captions.is_caption)

pub returns-in-Err : goal.returns-in-Err
returns-in-Err c start frames packet stands number is = c.in-Err.ensures.passes start frames stands number

pub returns : goal.returns
returns c start frames packet stands number is =
    let passes = c.in-Ok.ensures.passes start frames stands number in
    let payload = same_payload packet c.args.packet.now c.requires.packet is in (
      c.in-Ok.frame,
      passes,
      line_at c.count.result start.count c.in-Ok.frame c.in-Ok.frame (payload_of packet) c.words_line.new.out.items (c.count.ensures ∙ passes.count_is) refl
          (c.words_line.ensures (payload_of packet) payload),
    )
