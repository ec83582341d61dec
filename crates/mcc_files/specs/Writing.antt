-- Believed in part: the program's answer stands on some of these definitions.
-- How packets are written as an MCC file: its first line, an empty one, attributes with the time code rate, an empty line, and a line for
-- each packet.
use Rattle.std.specs.Prelude.{◌≡◌, ℕ, ◌<◌, ◌≤◌, false, List, [], ◌∷◌, ◌++◌, codes, ⊤}
use Rattle.std.specs.List.{All}
use Rattle.time_codes.specs.Countings.{counting_text, day_frames_in, time_in}
use Rattle.time_codes.specs.Texts.{text_of}
use Rattle.time_codes.specs.declared.counting.Counting.{Counting}
use Rattle.time_codes.specs.declared.counting.Counting.TheVariants as counting
use Rattle.mcc_files.specs.Lines.{Version, format_text, one, two}
use Rattle.mcc_files.specs.MccFiles.{TimedPackets}
use Rattle.mcc_files.specs.Payloads.{Payload, payload_bytes}
use Rattle.mcc_files.specs.PayloadWriting.{IsWritten}

-- the version that is written: 2 at 60 frames a second with drop frame, else 1
abbrev pub written_version : Counting → Version
written_version counting.F60Drop = two
written_version _ = one

-- what stands between the first line and the time code rate: an empty line and four attributes
abbrev pub written_attributes : List ℕ
written_attributes =
    codes "\n\nUUID=00000000-0000-0000-0000-000000000000\nCreation Program=ccsuite\nCreation Date=Thursday, January 1, 1970\nCreation Time=00:00:00\n"

-- the head of a file: up to the empty line after the time code rate
abbrev pub written_head : Counting → List ℕ
written_head count = format_text (written_version count) ++ written_attributes ++ codes "Time Code Rate=" ++ counting_text count ++ codes "\n\n"

-- the text of a frame's time code, with a colon throughout, since readers of the format take no other
abbrev pub time_text : Counting → ℕ → List ℕ
time_text count frame = text_of (record (time_in count frame) { drop_frame = false })

-- the bytes are the line of a packet at a frame: the time code's text, TAB, the payload and LF
pub record IsWrittenLine (count : Counting) (frame : ℕ) (payload : Payload) (bytes : List ℕ) : Type 0 where
  pub text : List ℕ
  pub is : IsWritten (payload_bytes payload) text
  pub spelled : bytes ≡ time_text count frame ++ (9 ∷ (text ++ (10 ∷ [])))

-- the bytes are the lines of packets
abbrev pub AreWrittenLines : Counting → TimedPackets → List ℕ → Type 0
AreWrittenLines count [] bytes = bytes ≡ []
AreWrittenLines count (placed ∷ more) bytes =
    (front : List ℕ) × (rest : List ℕ) × IsWrittenLine count placed.0 placed.1 front × AreWrittenLines count more rest × (bytes ≡ front ++ rest)

-- the bytes are the written form of packets
pub record IsWrittenFile (count : Counting) (placed : TimedPackets) (bytes : List ℕ) : Type 0 where
  pub rest : List ℕ
  pub are : AreWrittenLines count placed rest
  pub spelled : bytes ≡ written_head count ++ rest

-- packets of bytes at frames of the day that never fall, none before this one
abbrev pub AreWritable : Counting → ℕ → TimedPackets → Type 0
AreWritable count last [] = ⊤
AreWritable count last (placed ∷ more) =
    (last ≤ placed.0) × (placed.0 < day_frames_in count) × All (λ byte. byte < 256) (payload_bytes placed.1) × AreWritable count placed.0 more
