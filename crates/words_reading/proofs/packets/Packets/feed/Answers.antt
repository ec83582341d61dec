use Rattle.std.proofs.Common.{refl}
use Rattle.words_reading.proofs.FeedLemmas.{caption_moves, fed_ends, fed_room, foreign_moves, reads_front}
use Rattle.words_reading.proofs.RefusedLemmas.{refused_behind}
use Rattle.words_reading.proofs.packets.Packets.feed.Goals as goal

pub keep-requires : goal.keep-requires
keep-requires c =
    let had = c.requires.read in
    fed_room c.requires.frames c.requires.file _ c.args.self.now c.feed.new.self c.in-Ok.fed had (c.in-Ok.ensures.feeds _ had.received)
    c.in-Ok.ensures.within

pub returns-in-Ok : goal.returns-in-Ok
returns-in-Ok c frames file had =
    let fed = c.in-Ok.fed in
    reads_front frames file c.args.bytes.now c.args.self.now c.keep.new.self fed c.in-Ok.ensures.within c.in-Ok.ensures.all c.in-Ok.ensures.some c.keep.ensures.held
    (fed_ends frames file c.args.bytes.now c.args.self.now c.feed.new.self fed had (c.in-Ok.ensures.feeds _ had.received) c.in-Ok.ensures.within
    c.keep.new.self c.keep.ensures.receiver c.keep.ensures.held fed.ended refl
    (caption_moves fed.used fed.ended c.in-Ok.ensures.some) (foreign_moves fed.used fed.ended c.in-Ok.ensures.some))

pub returns-in-Err : goal.returns-in-Err
returns-in-Err c frames file had =
    let refused = c.in-Err.ensures.feeds _ had.received in
    refused_behind frames file _ c.args.bytes.now c.in-Err.refusal had.under had.none refused.offence refused.first
