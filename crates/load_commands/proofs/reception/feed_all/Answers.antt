use Rattle.std.proofs.Common.{◌≢◌, ◌+◌, ◌++◌, ◌<◌, ◌≤◌, ℕ, subst, take, arith}
use Rattle.cc_receiver.specs.Feeds.{Counts}
use Rattle.cc_receiver.specs.Receivers.{HasReceived}
use Rattle.cc_receiver.specs.declared.receiver.Ended.{Ended}
use Rattle.cc_receiver.specs.declared.receiver.Ended.TheVariants as ended
use Rattle.words_commands.proofs.PieceLemmas.{front_more, rest_size}
use Rattle.load_commands.proofs.reception.feed_all.Goals as goal

-- no more frames are counted than bytes were read
counts_few : (before now used : ℕ) (e : Ended) → Counts before now e → (e ≢ ended.No → 0 < used) → now ≤ before + used
counts_few before now used ended.Caption counts some = let read = some (λ same. cc) in omega (arith, counts, read)
counts_few before now used ended.Foreign counts some = omega (arith, counts)
counts_few before now used ended.No counts some = omega (arith, counts)

pub loop-at-preserved : goal.loop-at-preserved
loop-at-preserved c =
    let size = rest_size c.loop-at.at c.args.words.now c.loop-at.invariant.within in
    let read = c.in-Ok.ensures.within in
    let fed = c.in-Ok.ensures.feeds _ (c.loop-at.invariant.received c.requires.before c.requires.received) in
    let counted = c.loop-at.invariant.counted in
    let few = counts_few _ _ c.in-Ok.fed.used c.in-Ok.fed.ended fed.counts c.in-Ok.ensures.some in
    record {
      within = omega (arith, size, read, c.loop-at.invariant.within);
      counted = omega (arith, counted, few);
      received = λ before had.
          subst (λ bytes. HasReceived bytes c.feed.new.self) (front_more before c.args.words.now c.loop-at.at c.in-Ok.fed.used c.loop-at.invariant.within)
          (c.in-Ok.ensures.feeds (before ++ take c.loop-at.at c.args.words.now) (c.loop-at.invariant.received before had)).received;
    }
