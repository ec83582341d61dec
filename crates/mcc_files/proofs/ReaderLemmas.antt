-- A reader that took bytes.
use Rattle.std.proofs.Common.{◌≡◌, ℕ, ◌+◌, ◌-◌, Bool, true, false, List, [], ◌∷◌, ◌++◌, length, Some, None, Result, Ok, Err, sym, ◌∙◌, ap, subst}
use Rattle.mcc_files.specs.MccFiles.{IsMccFile, TimedPackets}
use Rattle.mcc_files.specs.Offences.{IsFirstOffence}
use Rattle.mcc_files.specs.Phases.{why_in}
use Rattle.mcc_files.specs.Reading.{at_first, ends, payload_in, placed_with}
use Rattle.mcc_files.specs.Readers.{Finishes, HasRead, TakesByte, TakesOn, packet_in, read_bytes, state_of}
use Rattle.mcc_files.specs.declared.reader.MccReader.{MccReader}
use Rattle.mcc_files.specs.declared.payload_reader.Offence.{Offence}
use Rattle.mcc_files.proofs.OriginLemmas.{ended_file, origin, whole_bytes}
use Rattle.mcc_files.specs.Payloads.{payload_bytes}
use Rattle.mcc_files.proofs.FileReads.{ends_lf}
use Rattle.mcc_files.proofs.Refused.{first_offence, zero_more}
use Rattle.mcc_files.proofs.RunLemmas.{run_more, stops_read, stops_short}

pub takes_on : (old new : MccReader) (byte : ℕ) (result : Result Bool Offence) (before : List ℕ) (placed : TimedPackets) → HasRead before placed old → TakesByte old new byte result
    → TakesOn before placed byte new result
takes_on old new byte (Ok false) before placed read takes = run_more at_first before (state_of old placed) byte (state_of new placed) read (takes placed)
takes_on old new byte (Ok true) before placed read takes =
    let (stepped, may, same) = takes placed in (
      run_more at_first before (state_of old placed) byte (state_of new (placed ++ packet_in new ∷ [])) read stepped,
      same ∙ (whole_bytes before (state_of old placed) (origin before (state_of old placed) read) may ∙ ap (λ b. payload_bytes (payload_in b)) (sym same)),
    )
takes_on old new byte (Err o) before placed read takes = λ rest.
    subst (λ (n : ℕ). IsFirstOffence (before ++ byte ∷ rest) (record { place = n - o.back; why = o.why })) (zero_more (length before))
    (first_offence (before ++ byte ∷ rest) (record { place = 0 + length before - o.back; why = o.why })
    (stops_read 0 at_first (state_of old placed) before byte rest o read (takes placed)))

-- the end of a file
pub ends_file : (reader : MccReader) (packet : Bool) (before : List ℕ) (placed : TimedPackets) → HasRead before placed reader → ends (state_of reader placed) ≡ Some packet
    → IsMccFile (placed_with (state_of reader placed) packet) before
ends_file reader packet before placed read may = ended_file before (state_of reader placed) packet (origin before (state_of reader placed) read) may

pub finishes_ok : (reader : MccReader) (packet : Bool) (before : List ℕ) (placed : TimedPackets) → HasRead before placed reader → Some packet ≡ ends (state_of reader placed)
    → Finishes before placed reader (Ok packet)
finishes_ok reader false before placed read may = ends_file reader false before placed read (sym may)
finishes_ok reader true before placed read may = (
  ends_file reader true before placed read (sym may),
  whole_bytes before (state_of reader placed) (origin before (state_of reader placed) read) (ends_lf reader.phase (read_bytes reader) true (sym may)),
)

pub finishes_err : (reader : MccReader) (before : List ℕ) (placed : TimedPackets) → HasRead before placed reader → None ≡ ends (state_of reader placed)
    → Finishes before placed reader (Err (why_in reader.phase))
finishes_err reader before placed read none =
    subst (λ (n : ℕ). IsFirstOffence before (record { place = n; why = why_in reader.phase })) (zero_more (length before))
    (first_offence before (record { place = 0 + length before; why = why_in reader.phase }) (stops_short 0 at_first (state_of reader placed) before read (sym none)))
