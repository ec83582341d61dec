use Rattle.std.proofs.Common.{◌++◌, ◌∷◌, [], subst, sym, Ok, Err}
use Rattle.anc_words.specs.WordsFiles.{IsPacketBytes}
use Rattle.words_files.proofs.FramesOfLemmas.{file_frames}
use Rattle.services_files.specs.CaptionChannel.{caption_channel}
use Rattle.words_reading.proofs.PacketWayLemmas.{ends_caption, ends_foreign, read_caption, read_foreign, read_still}
use Rattle.words_reading.specs.OpenPackets.{open_bytes}
use Rattle.mcc_commands.proofs.ExportStepLemmas.{any_caption, any_foreign, halted_caption, halted_foreign, judged_caption, judged_foreign, judged_still, line_judged, line_read, line_used, may_follow, some_frame, word_refused}
use Rattle.mcc_commands.specs.ExportSteps.{IsAnyPacket, IsCaptionPacket, WritesCaption, WritesForeign}
use Rattle.mcc_commands.proofs.exporting.ExportingJudge.step.Goals as goal

pub feed-requires : goal.feed-requires
feed-requires g c = may_follow c.args.self.now _ c.requires.ready

pub returns-in-Err-clause-judges : goal.returns-in-Err-clause-judges
returns-in-Err-clause-judges g c start begun before had =
    word_refused start begun _ _ before c.args.bytes.now c.args.self.now had c.in-Err.refusal
    (c.in-Err.ensures had.judged.says.frames had.judged.says.frames_are.file had.judged.read)

pub returns-in-No-clause-judges : goal.returns-in-No-clause-judges
returns-in-No-clause-judges g c start begun before had =
    judged_still start begun _ _ before c.args.bytes.now c.args.self.now had c.feed.new.self c.in-Ok.fed
    (c.in-Ok.ensures had.judged.says.frames had.judged.says.frames_are.file had.judged.read) c.in-No.is

pub returns-in-No-clause-used : goal.returns-in-No-clause-used
returns-in-No-clause-used g c =
    let may = c.requires.ready.read in
    let read = c.in-Ok.ensures may.frames may.file may.read in
    (read.moves c.requires.some, read.within)

pub returns-in-No-clause-reads : goal.returns-in-No-clause-reads
returns-in-No-clause-reads g c before had =
    read_still before c.args.bytes.now c.args.self.now.packets had c.feed.new.self c.in-Ok.fed (c.in-Ok.ensures had.frames had.file had.read) c.in-No.is

pub foreign_line-requires-clause-packet : goal.foreign_line-requires-clause-packet
foreign_line-requires-clause-packet g c =
    let may = c.requires.ready.read in
    let read = c.in-Ok.ensures may.frames may.file may.read in
    subst IsAnyPacket (sym c.bytes.ensures.is)
    (any_foreign may.frames may.file (open_bytes c.feed.new.self) c.feed.new.self (ends_foreign c.in-Ok.fed.ended may.frames may.file c.feed.new.self c.in-Foreign.is read.ends))

pub rate-rate-requires : goal.rate-rate-requires
rate-rate-requires g c =
    let may = c.requires.ready.read in
    let read = c.in-Ok.ensures may.frames may.file may.read in
    some_frame may.frames may.file (open_bytes c.feed.new.self) c.feed.new.self (ends_caption c.in-Ok.fed.ended may.frames may.file c.feed.new.self c.in-Caption.is read.ends)

pub caption_line-requires-clause-packet : goal.caption_line-requires-clause-packet
caption_line-requires-clause-packet g c =
    let may = c.requires.ready.read in
    let read = c.in-Ok.ensures may.frames may.file may.read in
    subst IsCaptionPacket (sym c.bytes-packet.ensures.is)
    (any_caption may.frames may.file (open_bytes c.feed.new.self) c.feed.new.self (ends_caption c.in-Ok.fed.ended may.frames may.file c.feed.new.self c.in-Caption.is read.ends))

pub returns-in-Ok-foreign_line-clause-reads : goal.returns-in-Ok-foreign_line-clause-reads
returns-in-Ok-foreign_line-clause-reads g c before had =
    line_read _ _ _ _ c.deref.result.now before c.args.bytes.now c.in-Ok.fed.used (record { packets = c.feed.new.self; clock = c.args.self.now.clock }) c.add.new.self c.add.result
    c.add.ensures.adds
    (λ receiver none. read_foreign before c.args.bytes.now c.args.self.now.packets had c.feed.new.self c.in-Ok.fed (c.in-Ok.ensures had.frames had.file had.read) c.add.new.self.packets
    c.in-Foreign.is receiver none)

pub returns-in-Ok-foreign_line-clause-judges : goal.returns-in-Ok-foreign_line-clause-judges
returns-in-Ok-foreign_line-clause-judges g c start begun before had =
    let read = c.in-Ok.ensures had.judged.says.frames had.judged.says.frames_are.file had.judged.read in
    let ends = ends_foreign c.in-Ok.fed.ended had.judged.says.frames had.judged.says.frames_are.file c.feed.new.self c.in-Foreign.is read.ends in
    let writes = c.in-Ok-foreign_line.ensures ends.packet (subst (IsPacketBytes ends.packet) (sym c.bytes.ensures.is) ends.is) in
    line_judged start begun _ _ _ _ c.deref.result.now before c.args.bytes.now c.in-Ok.fed.used c.args.self.now (record { packets = c.feed.new.self; clock = c.args.self.now.clock })
    c.add.new.self c.add.result had c.add.ensures.adds
    (λ gathers receiver none clock.
    judged_foreign start begun _ _ before c.args.bytes.now c.args.self.now had c.feed.new.self c.in-Ok.fed read c.add.new.self c.frames-number.result c.deref.result.now _ _ c.in-Foreign.is
    (subst (λ l. WritesForeign c.args.self.now.clock c.frames-number.result ends.packet l (Ok tt)) (sym c.deref.ensures.0) writes) gathers receiver none clock)

pub returns-in-Ok-foreign_line-clause-used : goal.returns-in-Ok-foreign_line-clause-used
returns-in-Ok-foreign_line-clause-used g c =
    let may = c.requires.ready.read in
    let read = c.in-Ok.ensures may.frames may.file may.read in
    line_used _ _ _ _ c.deref.result.now c.args.bytes.now c.in-Ok.fed.used (record { packets = c.feed.new.self; clock = c.args.self.now.clock }) c.add.new.self c.add.result
    c.add.ensures.adds (read.moves c.requires.some) read.within

pub returns-in-Err-foreign_line-clause-judges : goal.returns-in-Err-foreign_line-clause-judges
returns-in-Err-foreign_line-clause-judges g c start begun before had =
    let read = c.in-Ok.ensures had.judged.says.frames had.judged.says.frames_are.file had.judged.read in
    let ends = ends_foreign c.in-Ok.fed.ended had.judged.says.frames had.judged.says.frames_are.file c.feed.new.self c.in-Foreign.is read.ends in
    halted_foreign start begun _ _ before c.args.bytes.now c.args.self.now had c.feed.new.self c.in-Ok.fed read c.frames-number.result c.foreign_line.new.line.items
    c.in-Err-foreign_line.why c.in-Foreign.is
    (c.in-Err-foreign_line.ensures ends.packet (subst (IsPacketBytes ends.packet) (sym c.bytes.ensures.is) ends.is))
    (c.frames-number.ensures had.judged.says.frames had.judged.says.frames_are.file had.judged.read)

pub returns-in-Ok-caption_line-clause-reads : goal.returns-in-Ok-caption_line-clause-reads
returns-in-Ok-caption_line-clause-reads g c before had =
    line_read _ _ _ _ c.deref-in-Ok-caption_line.result.now before c.args.bytes.now c.in-Ok.fed.used (record { packets = c.feed.new.self; clock = c.caption_line.new.clock })
    c.add-in-Ok-caption_line.new.self c.add-in-Ok-caption_line.result c.add-in-Ok-caption_line.ensures.adds
    (λ receiver none. read_caption before c.args.bytes.now c.args.self.now.packets had c.feed.new.self c.in-Ok.fed (c.in-Ok.ensures had.frames had.file had.read)
    c.add-in-Ok-caption_line.new.self.packets c.in-Caption.is receiver none)

pub returns-in-Ok-caption_line-clause-judges : goal.returns-in-Ok-caption_line-clause-judges
returns-in-Ok-caption_line-clause-judges g c start begun before had =
    let frames = had.judged.says.frames in
    let file = had.judged.says.frames_are.file in
    let read = c.in-Ok.ensures frames file had.judged.read in
    let ends = ends_caption c.in-Ok.fed.ended frames file c.feed.new.self c.in-Caption.is read.ends in
    let rate = c.rate-rate.ensures (file ++ open_bytes c.feed.new.self) frames ends.frame ends.received
    (file_frames caption_channel (frames ++ ends.frame ∷ []) (file ++ open_bytes c.feed.new.self) ends.under) in
    let writes = c.in-Ok-caption_line.ensures start frames ends.packet had.judged.stands (c.frames-number.ensures frames file had.judged.read)
    (subst (IsPacketBytes ends.packet) (sym c.bytes-packet.ensures.is) ends.is) in
    line_judged start begun _ _ _ _ c.deref-in-Ok-caption_line.result.now before c.args.bytes.now c.in-Ok.fed.used c.args.self.now
    (record { packets = c.feed.new.self; clock = c.caption_line.new.clock }) c.add-in-Ok-caption_line.new.self c.add-in-Ok-caption_line.result had c.add-in-Ok-caption_line.ensures.adds
    (λ gathers receiver none clock.
    judged_caption start begun _ _ before c.args.bytes.now c.args.self.now had c.feed.new.self c.in-Ok.fed read c.add-in-Ok-caption_line.new.self c.caption_line.new.clock
    c.deref-in-Ok-caption_line.result.now _ _ c.in-Caption.is
    (subst (λ l. WritesCaption start frames ends.frame.rate ends.packet c.caption_line.new.clock l (Ok tt)) (sym c.deref-in-Ok-caption_line.ensures.0)
    (subst (λ r. WritesCaption start frames r ends.packet c.caption_line.new.clock c.caption_line.new.line.items (Ok tt)) rate writes)) gathers receiver none clock)

pub returns-in-Ok-caption_line-clause-used : goal.returns-in-Ok-caption_line-clause-used
returns-in-Ok-caption_line-clause-used g c =
    let may = c.requires.ready.read in
    let read = c.in-Ok.ensures may.frames may.file may.read in
    line_used _ _ _ _ c.deref-in-Ok-caption_line.result.now c.args.bytes.now c.in-Ok.fed.used (record { packets = c.feed.new.self; clock = c.caption_line.new.clock })
    c.add-in-Ok-caption_line.new.self c.add-in-Ok-caption_line.result c.add-in-Ok-caption_line.ensures.adds (read.moves c.requires.some) read.within

pub returns-in-Err-caption_line-clause-judges : goal.returns-in-Err-caption_line-clause-judges
returns-in-Err-caption_line-clause-judges g c start begun before had =
    let frames = had.judged.says.frames in
    let file = had.judged.says.frames_are.file in
    let read = c.in-Ok.ensures frames file had.judged.read in
    let ends = ends_caption c.in-Ok.fed.ended frames file c.feed.new.self c.in-Caption.is read.ends in
    let rate = c.rate-rate.ensures (file ++ open_bytes c.feed.new.self) frames ends.frame ends.received
    (file_frames caption_channel (frames ++ ends.frame ∷ []) (file ++ open_bytes c.feed.new.self) ends.under) in
    let writes = c.in-Err-caption_line.ensures start frames ends.packet had.judged.stands (c.frames-number.ensures frames file had.judged.read)
    (subst (IsPacketBytes ends.packet) (sym c.bytes-packet.ensures.is) ends.is) in
    halted_caption start begun _ _ before c.args.bytes.now c.args.self.now had c.feed.new.self c.in-Ok.fed read c.caption_line.new.clock c.caption_line.new.line.items
    c.in-Err-caption_line.why c.in-Caption.is
    (subst (λ r. WritesCaption start frames r ends.packet c.caption_line.new.clock c.caption_line.new.line.items (Err c.in-Err-caption_line.why)) rate writes)
