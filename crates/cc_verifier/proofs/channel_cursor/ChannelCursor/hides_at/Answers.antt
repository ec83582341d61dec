use Rattle.std.proofs.Common.{arith}
use Rattle.cc_verifier.proofs.ChannelLineLemmas.{last_is}
use Rattle.cc_verifier.proofs.channel_cursor.ChannelCursor.hides_at.Goals as goal

pub bounds-cues-number : goal.bounds-cues-number
bounds-cues-number c =
    let last = last_is c.args.self.now.channel c.args.cues.now c.args.self.now.next c.args.self.now.last c.in-Some.number c.requires.last c.in-Some.is in
    let h = c.requires.within in
    let k = last.before in
    omega arith
