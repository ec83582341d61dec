-- The cues of each channel of a list that keeps the rules are timed.
use Rattle.std.proofs.Common.{ℕ, ◌≤◌, List, [], ◌∷◌, arith}
use Rattle.std.specs.Prelude.{⊤}
use Rattle.cc_verifier.specs.ChannelTimes.{AreCuesTimed}
use Rattle.cue_lists.specs.Rules.{IsRuled}
use Rattle.cue_lists.proofs.RulesSaid.{lanes_ruled}
use Rattle.cue_lists.specs.Rules.Sentences.{AreInSequence}
use Rattle.cue_types.specs.Channels.{cues_on}
use Rattle.cue_types.specs.Listing.{Listing}
use Rattle.cue_types.specs.declared.cue.Cue.{Cue}
use Rattle.cue_lists.specs.Cadences.{slot_step}
use Rattle.cc_verifier.specs.Channels.{AreTimedAll}

-- the first of the cues, if there is one, isn't loaded before a frame
abbrev BeginFrom : ℕ → List Cue → Type 0
BeginFrom from [] = ⊤
BeginFrom from (cue ∷ later) = from ≤ cue.load

timed_from : (step frames from : ℕ) (cues : List Cue) → BeginFrom from cues → AreInSequence step frames cues → AreCuesTimed from cues
timed_from step frames from [] begin sequence = tt
timed_from step frames from (cue ∷ []) begin sequence = (begin, sequence.loaded, tt)
timed_from step frames from (cue ∷ (next ∷ later)) begin sequence =
    (begin, sequence.0.loaded, timed_from step frames cue.show (next ∷ later) sequence.1.loaded sequence.2)

begin_from_zero : (cues : List Cue) → BeginFrom 0 cues
begin_from_zero [] = tt
begin_from_zero (cue ∷ later) = omega arith

-- the cues of each channel are timed
pub ruled_timed : (list : Listing) → IsRuled list → AreTimedAll list.cues
ruled_timed list ruled channel = timed_from (slot_step list.rate) list.frames 0 (cues_on channel list.cues) (begin_from_zero (cues_on channel list.cues)) ((lanes_ruled list ruled).channels channel)
