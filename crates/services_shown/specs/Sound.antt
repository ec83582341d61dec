-- Believed in part: the program's answer stands on some of these definitions.
-- What holds of the frames of a programme, by their columns alone.
use Rattle.std.specs.Prelude.{ℕ}
use Rattle.cc_base.specs.declared.rate.Rate.{Rate}
use Rattle.line21_shown.specs.Shares.{share_room}
use Rattle.frame_carrier.specs.Carried.{AreByteBlocks, AreBytePairs, AreCarried, AreRoomy}
use Rattle.frame_carrier.specs.Carrying.{column_packets}
use Rattle.frame_carrier.specs.Columns.{Columns, first_pairs}
use Rattle.frame_carrier.specs.DoubledPairs.{IsDoubled}
use Rattle.line21_codes.specs.declared.channels.FieldNumber.{FieldNumber}
use Rattle.services_shown.specs.ServicesCarried.{AreWithin, HasBlocks}
use Rattle.cc_receiver.specs.CarriedChannel.{CarryChannel}
use Rattle.services_shown.specs.Buffers.{BuffersNeverFill}

-- in each field every longest stretch of equal control pairs has an even number of pairs
abbrev pub AreDoubledIn : ℕ → Columns → Type 0
AreDoubledIn n columns = (in_field : FieldNumber) → IsDoubled (first_pairs in_field columns n)

-- what holds of this many frames of columns at a rate: control pairs are doubled; their words are a words file of their packets, each
-- frame keeps to its room, and its service blocks to theirs; the packets carry a whole caption channel, of which no byte fills the
-- buffer of a service
pub record IsSoundFrames (rate : Rate) (n : ℕ) (columns : Columns) : Type 0 where
  pub doubled : AreDoubledIn n columns
  pub carried : AreCarried rate columns n
  pub within : AreWithin (share_room rate) columns
  pub whole : CarryChannel (column_packets rate columns 0 n)
  pub fills : BuffersNeverFill (column_packets rate columns 0 n)

-- what has to be shown of the pairs of columns
pub record HasFitPairs (n : ℕ) (columns : Columns) : Type 0 where
  pub doubled : AreDoubledIn n columns
  pub pairs : AreBytePairs columns

-- and of their service blocks
pub record HasFitBlocks (rate : Rate) (n : ℕ) (columns : Columns) : Type 0 where
  pub bytes : AreByteBlocks columns
  pub within : AreWithin (share_room rate) columns
  pub roomy : AreRoomy rate columns
  pub blocks : (frame : ℕ) → HasBlocks columns frame
  pub fills : BuffersNeverFill (column_packets rate columns 0 n)

abbrev pub FitFramesAreSound : Type 0
FitFramesAreSound = (rate : Rate) (n : ℕ) (columns : Columns) → HasFitPairs n columns → HasFitBlocks rate n columns → IsSoundFrames rate n columns
