-- Believed: the program's answer stands on these definitions.
-- What the commands make of words that put the changes of their screens, or other lines of them, and that show one frame.
use Rattle.std.specs.Prelude.{◌≡◌, ◌<◌, ◌≤◌, ℕ, List, [], length}
use Rattle.cdp_packets.specs.Packets.{Frame}
use Rattle.command_base.specs.declared.status.Status.{Status}
use Rattle.command_base.specs.declared.status.Status.TheVariants as status
use Rattle.words_reading.specs.FrameTexts.{FramesSay}
use Rattle.words_reading.specs.WordsVerdict.{EndsWell, NeverHalts, OfFile, WordsVerdict}
use Rattle.words_commands.specs.Screens.{counted, show_output, texts_behind}

-- this is the text of the frames that bytes bring
abbrev pub IsTextOf : (List Frame → List ℕ) → List ℕ → List ℕ → Type 0
IsTextOf text_of = FramesSay text_of (λ frames. Unit {0})

-- the text that stands for each frame after those before it, and at the end of the file their number: `decode` puts the changes of
-- screens, `conceal` those of concealed screens, and `xds-show` the lines of packets
abbrev pub ChangesVerdict : (List Frame → Frame → List ℕ) → List ℕ → Status → List ℕ → Type 0
ChangesVerdict text_of =
    WordsVerdict (EndsWell (λ frames text. text ≡ counted text_of frames)) (IsTextOf (texts_behind text_of [])) NeverHalts

-- the screens of one frame, which the file has or is too short for
abbrev pub ShowEnd : ℕ → Status → List ℕ → List ℕ → Type 0
ShowEnd frame status.Ok input text = OfFile (λ frames. (frame < length frames) × (text ≡ show_output frame frames)) input
ShowEnd frame (status.Short count) input text = OfFile (λ frames. (count ≡ length frames) × (count ≤ frame) × (text ≡ [])) input
ShowEnd frame _ input text = ⊥

-- `show`
abbrev pub ShowVerdict : ℕ → List ℕ → Status → List ℕ → Type 0
ShowVerdict frame = WordsVerdict (ShowEnd frame) (IsTextOf (show_output frame)) NeverHalts
