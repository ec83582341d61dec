-- Believed in part: the program's answer stands on some of these definitions.
-- What holds of words in which the captions of a cue list are inserted, and what a receiver makes of them.
use Rattle.std.specs.Prelude.{◌≡◌, ◌≤◌, ℕ, List, [], ◌∷◌, ◌++◌, length, take}
use Rattle.std.specs.List.{All}
use Rattle.cc_base.specs.declared.rate.Rate.{Rate}
use Rattle.cc_data.specs.declared.triplet.Triplet.{Triplet}
use Rattle.cdp_packets.specs.Packets.{Frame}
use Rattle.cue_list_commands.specs.Accepted.{IsAccepted}
use Rattle.cue_list_commands.specs.Output.{built_packets, list_framing, list_grids, list_told, list_windows}
use Rattle.cue_lists.specs.Listing.{Listing}
use Rattle.cue_list_commands.specs.Planned.{Placement, share_in}
use Rattle.packet_inserter.specs.Insertion.{IsInserted}
use Rattle.cue_list_commands.specs.Told.{CarryTheSame}
use Rattle.cue_list_commands.specs.Buffers.{BuffersNeverFill}
use Rattle.cue_list_commands.specs.Shares.{AreSharesKept}
use Rattle.cue_list_commands.specs.Showing.{ShowsFrames}
use Rattle.words_files.specs.Offences.{IsFileUnder}
use Rattle.services_files.specs.CaptionChannel.{caption_channel}
use Rattle.insert_commands.specs.Captions.{captions_of}
use Rattle.insert_commands.specs.InsertedFile.{AreInserted}

-- all frames have this rate
abbrev pub HaveRate : Rate → List Frame → Type 0
HaveRate rate frames = All (λ frame. frame.rate ≡ rate) frames

-- as many frames as these, each with its captions in place of its own, and all else as it was
pub data HaveCaptions : (ℕ → List Triplet) → List Frame → List Frame → Type 0 where
  none : (captions : ℕ → List Triplet) → HaveCaptions captions [] []
  more : (captions : ℕ → List Triplet) (frames news all all_news : List Frame) (old new : Frame) → HaveCaptions captions frames news
      → IsInserted (captions (length frames)) old new → all ≡ frames ++ old ∷ [] → all_news ≡ news ++ new ∷ [] → HaveCaptions captions all all_news

-- what holds of a text that was put of these frames with a list's captions. It is a words file of as many frames, each with its captions,
-- which carry a whole caption channel. The list's frames have the rates and triplets of the frames that `build` makes of it. No byte fills
-- the buffer of a service, and none gets more than its share in a frame. A receiver that takes the text and was reset before the first
-- frame shows the list at every frame, after its end too: the authored grids wherever the frame is settled, and the authored windows
pub record IsSoundInsertion (list : Listing) (placed : Placement) (frames : List Frame) (text : List ℕ) : Type 0 where
  pub news : List Frame
  pub have : HaveCaptions (captions_of (list_framing list placed)) frames news
  pub whole : IsFileUnder caption_channel news text
  pub alike : CarryTheSame (take list.frames news) (built_packets list placed)
  pub fills : BuffersNeverFill news
  pub shares : AreSharesKept list.rate (share_in list) (length frames) news
  pub shows : ShowsFrames (list_told list) (list_grids list) (list_windows list) (length frames) news

-- so it is where the list is accepted and the frames have its rate, and are as many as it has, at least
abbrev pub InsertionsAreSound : Type 0
InsertionsAreSound = (bytes : List ℕ) (list : Listing) (placed : Placement) (frames : List Frame) (file text : List ℕ) → IsAccepted bytes list placed
    → AreInserted (captions_of (list_framing list placed)) frames file text → HaveRate list.rate frames → list.frames ≤ length frames
    → IsSoundInsertion list placed frames text
