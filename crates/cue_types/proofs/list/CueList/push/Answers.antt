use Rattle.std.proofs.Common.{◌<◌, length, subst, sym}
use Rattle.cue_types.specs.Listing.{Listing, most_cues}
use Rattle.cue_types.proofs.FormedLemmas.{formed_push}
use Rattle.cue_types.proofs.list.CueList.push.Goals as goal

pub invariant_of-self-2 : goal.invariant_of-self-2
invariant_of-self-2 c =
    formed_push (record { rate = c.self.inside.rate; frames = c.self.inside.frames; shares = c.self.inside.shares.items; cues = c.self.inside.cues.items })
    c.args.cue c.push.new.self.items c.self.invariant c.requires.formed
    (subst (λ (l : Listing). length l.cues < most_cues) (sym c.self.view_is) c.requires.few) c.in_ok-push.ensures.items
