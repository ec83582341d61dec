-- Believed in part: the library's answers stand on some of these definitions.
-- What a verifier is, after the bytes that it was fed.
use Rattle.std.specs.Prelude.{◌≡◌, ◌<◌, ◌≤◌, ℕ, List, [], ◌∷◌, ◌++◌, length, take, Option, Some, None, Result, Ok, Err}
use Rattle.cc_base.specs.declared.refusal.Refusal.{Refusal}
use Rattle.cc_receiver.specs.Feeds.{Feeds}
use Rattle.cc_receiver.specs.ReceivedServices.{received_windows}
use Rattle.cc_receiver.specs.Receivers.{HasReceived, frame_count}
use Rattle.cc_receiver.specs.declared.receiver.Fed.{Fed}
use Rattle.cdp_packets.specs.Packets.{Frame}
use Rattle.cue_types.specs.Listing.{Listing}
use Rattle.findings.specs.First.{IsFirstTried}
use Rattle.findings.specs.declared.finding.Finding.{Finding}
use Rattle.findings.specs.declared.finding.Kind45.{Kind45}
use Rattle.line21_codes.specs.declared.channels.Chan.{Chan}
use Rattle.line21_screen.specs.Grid.{Grid}
use Rattle.cc_verifier.specs.Channels.{AreReady, KnowAll}
use Rattle.cc_verifier.specs.Differing.{AllSeenWindows}
use Rattle.cc_verifier.specs.Services.{KnowServices, StandAt}
use Rattle.cc_verifier.specs.WindowTurns.{AreAllInTurn}
use Rattle.words_files.specs.FramesOf.{AreFramesOf}
use Rattle.words_files.specs.Offences.{IsFileUnder, IsMalformed}
use Rattle.words_files.specs.Received.{received_grids}
use Rattle.cc_receiver.specs.CaptionChannel.{caption_channel}
use Rattle.cc_verifier.specs.Findings.{AreClean, FirstFinding, IsClean, IsFound, place_of}
use Rattle.cc_verifier.specs.declared.verifier.Verdict.{Verdict}
use Rattle.cc_verifier.specs.declared.verifier.Verdict.TheVariants as verdict
use Rattle.cc_verifier.specs.declared.verifier.Verifier.{Verifier}

-- its list, its finding and the number of whole frames that it counts
abbrev pub list_of : Verifier → Listing
list_of verifier = verifier.list

abbrev pub finding_of : Verifier → Option Finding
finding_of verifier = verifier.finding

abbrev pub verified_frames : Verifier → ℕ
verified_frames verifier = frame_count verifier.receiver

-- the counter of the last of frames, if there is one
abbrev pub IsLastCounter : List Frame → Option ℕ → Type 0
IsLastCounter frames None = frames ≡ []
IsLastCounter frames (Some counter) = (before : List Frame) × ((last : Frame) × (frames ≡ before ++ last ∷ []) × (counter ≡ last.counter))

-- the first finding of frames, or that there is none
abbrev pub Found : Listing → List Frame → Option Finding → Type 0
Found list frames None = AreClean list frames
Found list frames (Some finding) = FirstFinding list frames finding

-- its checks stand at a frame, and the cues of each window are shown in turn
pub record IsReadyAt (frame : ℕ) (verifier : Verifier) : Type 0 where
  pub turn : AreAllInTurn verifier.list.cues
  pub channels : AreReady verifier.list.cues frame verifier.channels
  pub services : StandAt verifier.list.cues frame verifier.services

-- and know what was shown at the frame before it
pub record KnowsAt (frame : ℕ) (screens : Chan → Grid) (windows : AllSeenWindows) (verifier : Verifier) : Type 0 where
  pub channels : KnowAll verifier.list.cues frame screens verifier.channels
  pub services : KnowServices verifier.list.cues frame windows verifier.services

-- it goes on after frames
pub record GoesOn (frames : List Frame) (verifier : Verifier) : Type 0 where
  pub counter : IsLastCounter frames verifier.counter
  pub ready : IsReadyAt (length frames) verifier
  pub knows : KnowsAt (length frames) (received_grids frames) (received_windows frames) verifier

-- it was fed these bytes, found the first finding of their frames, if there is one, and else goes on
pub record HasVerified (bytes : List ℕ) (verifier : Verifier) : Type 0 where
  pub received : HasReceived bytes verifier.receiver
  pub frames : List Frame
  pub frames_are : AreFramesOf caption_channel frames bytes
  pub found : Found verifier.list frames verifier.finding
  pub goes_on : verifier.finding ≡ None → GoesOn frames verifier

-- it was fed some bytes, and found nothing yet
abbrev pub FindsOn : Verifier → Type 0
FindsOn verifier = (bytes : List ℕ) × HasVerified bytes verifier × (verifier.finding ≡ None)

-- but for its checks and its counter it is as before
pub record IsSameBeside (old new : Verifier) : Type 0 where
  pub receiver : new.receiver ≡ old.receiver
  pub list : new.list ≡ old.list
  pub finding : new.finding ≡ old.finding

-- what its receiver makes of the next bytes
abbrev pub FeedsOn : List ℕ → List ℕ → Verifier → Verifier → Result Fed Refusal → Type 0
FeedsOn before bytes old new result = Feeds before bytes old.receiver new.receiver result

-- it verified the bytes that were read, or all of them where a word is refused
abbrev pub Verifies : List ℕ → List ℕ → Verifier → Result Fed Refusal → Type 0
Verifies before bytes verifier (Ok fed) = HasVerified (before ++ take fed.used bytes) verifier
Verifies before bytes verifier (Err refusal) = HasVerified (before ++ bytes) verifier

-- what is found first at a frame; where nothing is, the checks know what it shows
abbrev pub Finds : Listing → List Frame → Frame → Verifier → Option Kind45 → Type 0
Finds list earlier last verifier None =
    IsClean list earlier last
    × KnowsAt (length earlier) (received_grids (earlier ++ last ∷ [])) (received_windows (earlier ++ last ∷ [])) verifier
Finds list earlier last verifier (Some found) = IsFirstTried (IsFound list earlier last) place_of found

-- a frame more was judged
pub record HasJudgedFrame (list : Listing) (earlier : List Frame) (last : Frame) (verifier : Verifier) : Type 0 where
  pub found : Found list (earlier ++ last ∷ []) verifier.finding
  pub goes_on : verifier.finding ≡ None → GoesOn (earlier ++ last ∷ []) verifier

-- how the frames are judged that it was fed
abbrev pub JudgedAs : Listing → List ℕ → Verdict → Type 0
JudgedAs list bytes verdict.Ok = (frames : List Frame) × IsFileUnder caption_channel frames bytes × AreClean list frames × (list.frames ≤ length frames)
JudgedAs list bytes (verdict.Differs finding) = (frames : List Frame) × AreFramesOf caption_channel frames bytes × FirstFinding list frames finding
JudgedAs list bytes (verdict.Short count) =
    (frames : List Frame) × IsFileUnder caption_channel frames bytes × AreClean list frames × (count ≡ length frames) × (length frames < list.frames)

-- or the words may not end here, and nothing is found before
abbrev pub JudgesFile : Listing → List ℕ → Result Verdict Refusal → Type 0
JudgesFile list bytes (Ok answer) = JudgedAs list bytes answer
JudgesFile list bytes (Err refusal) = (frames : List Frame) × AreFramesOf caption_channel frames bytes × AreClean list frames × IsMalformed caption_channel bytes refusal
