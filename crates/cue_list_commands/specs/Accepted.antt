-- Believed: the program's answer stands on these definitions.
-- Which cue lists are accepted, and why another one is refused.
use Rattle.std.specs.Prelude.{◌<◌, ◌≤◌, ℕ, List, length}
use Rattle.cc_base.specs.Streams.{whole_limit}
use Rattle.cc_base.specs.declared.limit_of.LimitOf.TheVariants as limit
use Rattle.cue_lists.specs.FirstFault.{IsFirstFault}
use Rattle.cue_lists.specs.Listing.{Listing}
use Rattle.cue_lists.specs.Records.{records_of}
use Rattle.cue_lists.specs.Rules.{HasFault, IsRuled}
use Rattle.cue_lists.specs.Spelling.{SpellsList}
use Rattle.cue_lists.specs.declared.fault.CueFault.{CueFault}
use Rattle.cue_lists.specs.declared.fault.CueFault.TheVariants as fault
use Rattle.cue_lists.specs.declared.rules.RuleFault.{RuleFault}
use Rattle.frame_carrier.specs.Planned.{IsFirstWithoutRoom, IsListPlaced, Placement}
use Rattle.command_base.specs.declared.status.Place.TheVariants.{Field}
use Rattle.command_base.specs.declared.status.Status.{Status}
use Rattle.command_base.specs.declared.status.Status.TheVariants as status

-- the records of the bytes spell a cue list that keeps the rules; whether it can be placed isn't asked
pub record IsGoodList (bytes : List ℕ) (list : Listing) : Type 0 where
  pub within : length bytes ≤ whole_limit
  pub spelled : SpellsList (records_of bytes) list
  pub ruled : IsRuled list

-- they spell such a list, and its units have their earliest placement in these frames
pub record IsAccepted (bytes : List ℕ) (list : Listing) (placed : Placement) : Type 0 where
  pub good : IsGoodList bytes list
  pub placement : IsListPlaced list placed

-- they spell such a list, of which this holds
pub record SpellGoodList (bytes : List ℕ) (Holds : Listing → Type 0) : Type 0 where
  pub list : Listing
  pub good : IsGoodList bytes list
  pub holds : Holds list

-- the records of the bytes spell no list, and this is their first fault
pub record IsFaulty (bytes : List ℕ) (fault : CueFault) : Type 0 where
  pub within : length bytes ≤ whole_limit
  pub first : IsFirstFault (records_of bytes) fault

-- the records of the bytes spell a list that breaks a rule
pub record BreaksRule (bytes : List ℕ) (fault : RuleFault) : Type 0 where
  pub list : Listing
  pub within : length bytes ≤ whole_limit
  pub spelled : SpellsList (records_of bytes) list
  pub broken : HasFault list fault

-- the bytes are refused with this status, and with no other, where it isn't asked whether their list can be placed
abbrev pub IsRefusedList : List ℕ → Status → Type 0
IsRefusedList bytes (status.Limit limit.Bytes) = whole_limit < length bytes
IsRefusedList bytes (status.Limit limit.Frames) = IsFaulty bytes (fault.Limit limit.Frames)
IsRefusedList bytes (status.Limit limit.Cues) = IsFaulty bytes (fault.Limit limit.Cues)
IsRefusedList bytes (status.Malformed (Field rec field) why) = IsFaulty bytes (fault.Malformed rec field why)
IsRefusedList bytes (status.Rule fault) = BreaksRule bytes fault
IsRefusedList bytes _ = ⊥

-- the same where it is asked: a list that keeps the rules is refused for want of room, with its first cue that has no placement
abbrev pub IsRefused : List ℕ → Status → Type 0
IsRefused bytes (status.NoRoom cue) = SpellGoodList bytes (λ list. IsFirstWithoutRoom list cue)
IsRefused bytes answer = IsRefusedList bytes answer
