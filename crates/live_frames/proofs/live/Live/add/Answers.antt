use Rattle.std.proofs.Common.{◌≡◌, ◌<◌, ap, arith, length, List}
use Rattle.cue_lists.specs.Listing.{most_cues}
use Rattle.cue_lists.specs.declared.cue.Cue.{Cue}
use Rattle.live_frames.proofs.LiveLemmas.{added}
use Rattle.live_frames.proofs.live.Live.add.Goals as goal

pub returns-in-Ok-clause-adds : goal.returns-in-Ok-clause-adds
returns-in-Ok-clause-adds c words list has =
    let few : length c.args.self.now.list.cues < most_cues = omega (arith, ap (λ (cues : List Cue). length cues) c.cues-count.ensures.cues) in (
      record { ruled = rw (c.in_default.ensures.ok, has.list_is) at c.in-Ok.ensures.ruled; loaded = c.in-Ok.ensures.loaded },
      added words list c.args.self.now.list c.push.new.self c.args.cue c.args.self.now.plan c.in-Ok.plan c.skipped.result c.args.self.now.carrier
          c.args.self.now.frame has c.cues-count.ensures.formed c.requires few c.in_default.ensures.ok c.in-Ok.ensures.ruled c.in-Ok.ensures.loaded
          c.in-Ok.ensures.answer c.skipped.ensures.gives c.skipped.ensures.left,
    )
