-- Believed: the program's answer stands on these definitions.
-- What `verify` makes of words against the cue list of its side file.
use Rattle.std.specs.Prelude.{◌≡◌, ◌<◌, ◌≤◌, ℕ, List, [], length, codes}
use Rattle.cc_verifier.specs.Findings.{AreClean, IsFound, place_of}
use Rattle.cdp_packets.specs.Packets.{Frame}
use Rattle.command_base.specs.MadeVerdict.{BesideVerdict}
use Rattle.command_base.specs.declared.status.Status.{Status}
use Rattle.command_base.specs.declared.status.Status.TheVariants as status
use Rattle.cue_list_commands.specs.Accepted.{IsGoodList, IsRefusedList}
use Rattle.cue_types.specs.Listing.{Listing}
use Rattle.findings.specs.First.{IsFirstTried}
use Rattle.findings.specs.declared.finding.Finding.{Finding}
use Rattle.words_reading.specs.Causes.{words_limit}
use Rattle.words_reading.specs.FrameTexts.{FramesHalt, FramesSay}
use Rattle.words_reading.specs.WordsVerdict.{OfFile, WordsVerdict}

-- nothing is found at any frame that bytes bring, and nothing is put
abbrev pub FindsNothing : Listing → List ℕ → List ℕ → Type 0
FindsNothing list = FramesSay (λ frames. []) (AreClean list)

-- bytes, none of whose words offends, end with the frame at which this is found, first of all there, and nothing is found at any before;
-- and nothing is put
abbrev pub FindsFirst : Listing → Finding → List ℕ → List ℕ → Type 0
FindsFirst list finding =
    FramesHalt (λ frames. []) (AreClean list)
    (λ frames last. (finding.frame ≡ length frames) × IsFirstTried (IsFound list frames last) place_of finding.kind)

-- nothing is found at any frame, and there are as many as in the list, and one line is put; or there are too few, and nothing is
abbrev pub VerifyEnd : Listing → Status → List ℕ → List ℕ → Type 0
VerifyEnd list status.Ok input text =
    OfFile (λ frames. AreClean list frames × (list.frames ≤ length frames) × (text ≡ codes "ok\n")) input
VerifyEnd list (status.Short count) input text =
    OfFile (λ frames. AreClean list frames × (count ≡ length frames) × (count < list.frames) × (text ≡ [])) input
VerifyEnd list _ input text = ⊥

-- or this is found first
abbrev pub VerifyHalts : Listing → Status → List ℕ → List ℕ → Type 0
VerifyHalts list (status.Differs finding) judged text = FindsFirst list finding judged text
VerifyHalts list _ judged text = ⊥

-- only the one line is put, so only a put of it fails
abbrev pub VerifyWords : Listing → List ℕ → Status → List ℕ → Type 0
VerifyWords list input status.WriteFault text = (length input ≤ words_limit) × VerifyEnd list status.Ok input text
VerifyWords list input answer text = WordsVerdict (VerifyEnd list) (FindsNothing list) (VerifyHalts list) input answer text

-- `verify`
abbrev pub VerifyVerdict : List ℕ → List ℕ → Status → List ℕ → Type 0
VerifyVerdict = BesideVerdict IsGoodList IsRefusedList VerifyWords
