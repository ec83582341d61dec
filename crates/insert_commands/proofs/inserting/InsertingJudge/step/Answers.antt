use Rattle.std.proofs.Common.{◌++◌, ◌∷◌, [], subst}
use Rattle.cc_base.specs.declared.streams.Put.TheVariants as put
use Rattle.words_files.proofs.FramesOfLemmas.{file_frames}
use Rattle.services_files.specs.CaptionChannel.{caption_channel}
use Rattle.text_output.specs.Gathered.{Gathers, held_of}
use Rattle.words_reading.specs.OpenPackets.{open_bytes}
use Rattle.words_reading.proofs.PacketWayLemmas.{ends_caption, read_caption, read_foreign, read_still}
use Rattle.insert_commands.proofs.StepLemmas.{halted, has_frame, judged_caption, judged_foreign, judged_still, may_follow, word_refused, words_unwritten}
use Rattle.insert_commands.proofs.inserting.InsertingJudge.step.Goals as goal

pub feed-requires : goal.feed-requires
feed-requires g c = may_follow c.args.self.now _ c.requires.ready

pub returns-in-Err-clause-judges : goal.returns-in-Err-clause-judges
returns-in-Err-clause-judges g c list start before had =
    word_refused list start _ _ before c.args.bytes.now c.args.self.now had c.in-Err.refusal
    (c.in-Err.ensures had.judged.says.frames had.judged.says.frames_are.file had.judged.read)

pub replace-requires-clause-frame : goal.replace-requires-clause-frame
replace-requires-clause-frame g c =
    let may = c.requires.ready.read in
    let read = c.in-Ok.ensures may.frames may.file may.read in
    has_frame may.frames may.file (open_bytes c.feed.new.self) c.feed.new.self
    (ends_caption c.in-Ok.fed.ended may.frames may.file c.feed.new.self c.in-Caption.is read.ends)

pub returns-in-No-clause-judges : goal.returns-in-No-clause-judges
returns-in-No-clause-judges g c list start before had =
    judged_still list start _ _ before c.args.bytes.now c.args.self.now had c.feed.new.self c.in-Ok.fed
    (c.in-Ok.ensures had.judged.says.frames had.judged.says.frames_are.file had.judged.read) c.in-No.is

pub returns-in-No-clause-used : goal.returns-in-No-clause-used
returns-in-No-clause-used g c =
    let may = c.requires.ready.read in
    let read = c.in-Ok.ensures may.frames may.file may.read in
    (read.moves c.requires.some, read.within)

pub returns-in-No-clause-reads : goal.returns-in-No-clause-reads
returns-in-No-clause-reads g c before had =
    read_still before c.args.bytes.now c.args.self.now.packets had c.feed.new.self c.in-Ok.fed (c.in-Ok.ensures had.frames had.file had.read) c.in-No.is

pub returns-in-Done-clause-judges : goal.returns-in-Done-clause-judges
returns-in-Done-clause-judges g c list start before had =
    judged_foreign list start _ _ before c.args.bytes.now c.args.self.now had c.feed.new.self c.in-Ok.fed
    (c.in-Ok.ensures had.judged.says.frames had.judged.says.frames_are.file had.judged.read) c.begin.new.self (g.O.Sink.written c.add.new.out) (held_of c.add.new.self)
    c.in-Foreign.is
    (subst (Gathers (g.O.Sink.written c.args.out.now) (g.O.Sink.written c.add.new.out) (held_of c.args.text.now) (held_of c.add.new.self) put.Done)
    c.bytes.ensures.is c.in-Done.ensures.bytes)
    c.begin.ensures.receiver c.begin.ensures.none

pub returns-in-Done-clause-used : goal.returns-in-Done-clause-used
returns-in-Done-clause-used g c =
    let may = c.requires.ready.read in
    let read = c.in-Ok.ensures may.frames may.file may.read in
    (read.moves c.requires.some, read.within)

pub returns-in-Done-clause-reads : goal.returns-in-Done-clause-reads
returns-in-Done-clause-reads g c before had =
    read_foreign before c.args.bytes.now c.args.self.now.packets had c.feed.new.self c.in-Ok.fed (c.in-Ok.ensures had.frames had.file had.read) c.begin.new.self
    c.in-Foreign.is c.begin.ensures.receiver c.begin.ensures.none

pub returns-in-Failed-clause-judges : goal.returns-in-Failed-clause-judges
returns-in-Failed-clause-judges g c list start before had =
    words_unwritten list start _ _ before c.args.bytes.now c.args.self.now had _ _ c.in-Failed.ensures.bytes

pub returns-in-Done-add-clause-judges : goal.returns-in-Done-add-clause-judges
returns-in-Done-add-clause-judges g c list start before had =
    let read = c.in-Ok.ensures had.judged.says.frames had.judged.says.frames_are.file had.judged.read in
    let ends = ends_caption c.in-Ok.fed.ended had.judged.says.frames had.judged.says.frames_are.file c.feed.new.self c.in-Caption.is read.ends in
    judged_caption list start _ _ before c.args.bytes.now c.args.self.now had c.feed.new.self c.in-Ok.fed read c.begin-in-Done-add.new.self c.replace.new.captions
    c.replace.new.words.items (g.O.Sink.written c.add-in-Ok-replace.new.out) (held_of c.add-in-Ok-replace.new.self) c.in-Caption.is
    (c.in-Ok-replace.ensures list (had.judged.says.frames_are.file ++ open_bytes c.feed.new.self) had.judged.says.frames ends.frame ends.received
    (file_frames caption_channel (had.judged.says.frames ++ ends.frame ∷ []) (had.judged.says.frames_are.file ++ open_bytes c.feed.new.self) ends.under) ends.carries.sections
    (c.frames-frame.ensures had.judged.says.frames had.judged.says.frames_are.file had.judged.read) had.judged.gives)
    (subst (Gathers (g.O.Sink.written c.args.out.now) (g.O.Sink.written c.add-in-Ok-replace.new.out) (held_of c.args.text.now)
    (held_of c.add-in-Ok-replace.new.self) put.Done) c.deref.ensures.0 c.in-Done-add.ensures.bytes)
    c.begin-in-Done-add.ensures.receiver c.begin-in-Done-add.ensures.none

pub returns-in-Done-add-clause-used : goal.returns-in-Done-add-clause-used
returns-in-Done-add-clause-used g c =
    let may = c.requires.ready.read in
    let read = c.in-Ok.ensures may.frames may.file may.read in
    (read.moves c.requires.some, read.within)

pub returns-in-Done-add-clause-reads : goal.returns-in-Done-add-clause-reads
returns-in-Done-add-clause-reads g c before had =
    read_caption before c.args.bytes.now c.args.self.now.packets had c.feed.new.self c.in-Ok.fed (c.in-Ok.ensures had.frames had.file had.read) c.begin-in-Done-add.new.self
    c.in-Caption.is c.begin-in-Done-add.ensures.receiver c.begin-in-Done-add.ensures.none

pub returns-in-Failed-add-clause-judges : goal.returns-in-Failed-add-clause-judges
returns-in-Failed-add-clause-judges g c list start before had =
    words_unwritten list start _ _ before c.args.bytes.now c.args.self.now had _ _ c.in-Failed-add.ensures.bytes

pub returns-in-Err-replace-clause-judges : goal.returns-in-Err-replace-clause-judges
returns-in-Err-replace-clause-judges g c list start before had =
    let read = c.in-Ok.ensures had.judged.says.frames had.judged.says.frames_are.file had.judged.read in
    let ends = ends_caption c.in-Ok.fed.ended had.judged.says.frames had.judged.says.frames_are.file c.feed.new.self c.in-Caption.is read.ends in
    halted list start _ _ before c.args.bytes.now c.args.self.now had c.feed.new.self c.in-Ok.fed read c.replace.new.captions c.replace.new.words.items
    c.in-Err-replace.halt c.in-Caption.is
    (c.in-Err-replace.ensures list (had.judged.says.frames_are.file ++ open_bytes c.feed.new.self) had.judged.says.frames ends.frame ends.received
    (file_frames caption_channel (had.judged.says.frames ++ ends.frame ∷ []) (had.judged.says.frames_are.file ++ open_bytes c.feed.new.self) ends.under) ends.carries.sections
    (c.frames-frame.ensures had.judged.says.frames had.judged.says.frames_are.file had.judged.read) had.judged.gives)
