-- Between crates: the program's answer stands on none of these definitions.
-- From the words that `build` puts of a cue list, `xds` with packets, `insert` with its captions, or `dual` of two lists, to the screens and the services of
-- a receiver that is fed them: what is authored is what is seen, on line 21 and in the services.
use Rattle.std.specs.Prelude.{◌≡◌, ◌++◌, ◌+◌, ◌<◌, ◌≤◌, ℕ, false, length, List, ◌∷◌}
use Rattle.cue_lists.specs.AuthoredServiceGrid.{authored_windows}
use Rattle.cc_receiver.specs.ReceivedServices.{fills_in}
use Rattle.cc_receiver.specs.Receivers.{HasReceived, displayed_grid, frame_count}
use Rattle.cc_receiver.specs.SeenServices.{seen_windows}
use Rattle.cc_receiver.specs.declared.receiver.Receiver.{Receiver}
use Rattle.cdp_packets.specs.Packets.{Frame}
use Rattle.cue_lists.specs.AuthoredGrid.{IsSettled, authored_grid, blank}
use Rattle.cue_lists.specs.Listing.{Listing}
use Rattle.dtvcc_services.specs.Numbers.{IsService}
use Rattle.cue_list_commands.specs.Planned.{Placement}
use Rattle.line21_codes.specs.declared.channels.Chan.TheVariants.{Cc1, Cc2, Cc3, Cc4}
use Rattle.words_files.specs.FramesOf.{AreFramesOf}
use Rattle.services_files.specs.CaptionChannel.{caption_channel}
use Rattle.cue_list_commands.specs.Accepted.{IsAccepted}
use Rattle.cue_list_commands.specs.Output.{build_output, list_framing}
use Rattle.dual_commands.specs.DualLists.{IsPlacedBeside, PlacedLists}
use Rattle.dual_commands.specs.DualWords.{dual_framing}
use Rattle.cue_list_commands.specs.Framing.{words_of}
use Rattle.insert_commands.specs.Captions.{captions_of}
use Rattle.insert_commands.specs.InsertedFile.{AreInserted}
use Rattle.insert_commands.specs.Soundness.{HaveRate}
use Rattle.xds_commands.specs.PacketLists.{IsGoodPackets}
use Rattle.xds_commands.specs.PlacedPackets.{IsPlacedWith, PlacedPackets}
use Rattle.xds_commands.specs.XdsWords.{xds_framing}

-- a receiver that was fed these words shows what a list authors at a frame: the authored grids on CC1 and CC3, where the frame is
-- settled for the channel, nothing on CC2 and CC4, and of each service the authored windows; and in no frame of the words the
-- buffer of a service was filled
pub record IsSeenAsAuthored (list : Listing) (frame : ℕ) (words : List ℕ) (receiver : Receiver) : Type 0 where
  pub cc1 : IsSettled Cc1 list.cues frame → displayed_grid receiver Cc1 ≡ authored_grid Cc1 list.cues frame
  pub cc2 : displayed_grid receiver Cc2 ≡ blank
  pub cc3 : IsSettled Cc3 list.cues frame → displayed_grid receiver Cc3 ≡ authored_grid Cc3 list.cues frame
  pub cc4 : displayed_grid receiver Cc4 ≡ blank
  pub windows : (service id : ℕ) → IsService service → id < 8
      → seen_windows receiver service id ≡ authored_windows service list.cues frame id
  pub unfilled : (service : ℕ) (earlier : List Frame) (last : Frame) (later : List Frame) → IsService service
      → AreFramesOf caption_channel (earlier ++ last ∷ later) words → fills_in earlier last service ≡ false

-- a receiver that was fed a front of the words that `build` puts of an accepted list, in whatever pieces, shows what the list
-- authors at the last frame that it counts, which are frames 0 to `frame`
abbrev pub BuiltWordsAreSeen : Type 0
BuiltWordsAreSeen = (bytes : List ℕ) (list : Listing) (placed : Placement) (words rest : List ℕ) (receiver : Receiver) (frame : ℕ)
    → IsAccepted bytes list placed → build_output list placed ≡ words ++ rest → HasReceived words receiver → frame_count receiver ≡ frame + 1
    → IsSeenAsAuthored list frame words receiver

-- so does one that was fed a front of what `xds` puts of one with good packets beside whose captions they have room
abbrev pub XdsWordsAreSeen : Type 0
XdsWordsAreSeen = (text bytes : List ℕ) (made : PlacedPackets) (words rest : List ℕ) (receiver : Receiver) (frame : ℕ)
    → IsGoodPackets text made.listed → IsPlacedWith made.listed bytes made → words_of (xds_framing made) ≡ words ++ rest → HasReceived words receiver
    → frame_count receiver ≡ frame + 1 → IsSeenAsAuthored made.list frame words receiver

-- so does one that was fed a front of what `insert` puts of a words file with the captions of an accepted list, where the file's frames have the
-- list's rate and are as many as it has, at least; and after the list's end what it shows stays
abbrev pub InsertedWordsAreSeen : Type 0
InsertedWordsAreSeen = (bytes : List ℕ) (list : Listing) (placed : Placement) (frames : List Frame) (file text words rest : List ℕ) (receiver : Receiver) (frame : ℕ)
    → IsAccepted bytes list placed → AreInserted (captions_of (list_framing list placed)) frames file text → HaveRate list.rate frames → list.frames ≤ length frames
    → text ≡ words ++ rest → HasReceived words receiver → frame_count receiver ≡ frame + 1 → IsSeenAsAuthored list frame words receiver

-- so two lists: the authored grids of the first on CC1 and CC3, and of the second on CC2 and CC4, each where the frame is settled for the
-- channel by its own list, and the first list's windows
pub record AreSeenAsAuthored (one two : Listing) (frame : ℕ) (words : List ℕ) (receiver : Receiver) : Type 0 where
  pub cc1 : IsSettled Cc1 one.cues frame → displayed_grid receiver Cc1 ≡ authored_grid Cc1 one.cues frame
  pub cc2 : IsSettled Cc1 two.cues frame → displayed_grid receiver Cc2 ≡ authored_grid Cc1 two.cues frame
  pub cc3 : IsSettled Cc3 one.cues frame → displayed_grid receiver Cc3 ≡ authored_grid Cc3 one.cues frame
  pub cc4 : IsSettled Cc3 two.cues frame → displayed_grid receiver Cc4 ≡ authored_grid Cc3 two.cues frame
  pub windows : (service id : ℕ) → IsService service → id < 8
      → seen_windows receiver service id ≡ authored_windows service one.cues frame id
  pub unfilled : (service : ℕ) (earlier : List Frame) (last : Frame) (later : List Frame) → IsService service
      → AreFramesOf caption_channel (earlier ++ last ∷ later) words → fills_in earlier last service ≡ false

-- a receiver that was fed a front of what `dual` puts of two lists that are accepted together, in whatever pieces, shows both
abbrev pub DualWordsAreSeen : Type 0
DualWordsAreSeen = (second : Listing) (bytes : List ℕ) (lists : PlacedLists) (words rest : List ℕ) (receiver : Receiver) (frame : ℕ)
    → IsPlacedBeside second bytes lists → words_of (dual_framing lists) ≡ words ++ rest → HasReceived words receiver → frame_count receiver ≡ frame + 1
    → AreSeenAsAuthored lists.one lists.two frame words receiver
