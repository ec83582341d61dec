-- Between crates: the program's answer stands on none of these definitions.
-- Words that are verified.
use Rattle.std.specs.Prelude.{◌≤◌, ℕ, List, length}
use Rattle.cc_verifier.specs.Findings.{AreClean}
use Rattle.cdp_packets.specs.Packets.{Frame}
use Rattle.cue_types.specs.Listing.{Listing}
use Rattle.words_reading.specs.CaptionChannel.{caption_channel}
use Rattle.words_files.specs.Offences.{IsFileUnder}
use Rattle.words_reading.specs.Causes.{words_limit}

-- the words are a file within the limit with as many frames as the list, at least, and nothing is found at any
pub record AreVerified (list : Listing) (bytes : List ℕ) : Type 0 where
  pub frames : List Frame
  pub file : IsFileUnder caption_channel frames bytes
  pub within : length bytes ≤ words_limit
  pub enough : list.frames ≤ length frames
  pub clean : AreClean list frames
