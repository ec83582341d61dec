-- What is exported is imported as it was.
use Rattle.std.proofs.Common.{◌≡◌, inl, inr, ℕ, ◌<◌, ◌≤◌, ◌++◌, List, [], ◌∷◌, append-nil, length, length-append, ap, sym, ◌∙◌, subst, arith}
use Rattle.cdp_packets.specs.Packets.{Frame}
use Rattle.command_base.specs.declared.status.Status.TheVariants as status
use Rattle.services_files.specs.CaptionChannel.{caption_channel}
use Rattle.time_codes.specs.Countings.{day_frames_in}
use Rattle.time_codes.specs.declared.counting.Counting.{Counting}
use Rattle.time_codes.specs.declared.counting.Counting.TheVariants as counting
use Rattle.words_files.specs.Offences.{IsFileUnder}
use Rattle.words_reading.specs.Causes.{words_limit}
use Rattle.mcc_words.specs.Close.{words_as_they_came}
use Rattle.mcc_words.specs.MccWords.{AreMccWords}
use Rattle.mcc_commands.proofs.FileLemmas.{exported_file, exported_words}
use Rattle.mcc_commands.specs.ExportMcc.{ExportMccVerdict, IsMccOf, SaysMcc}
use Rattle.mcc_commands.specs.Placing.{placed}
use Rattle.mcc_commands.specs.declared.start.Start.{Start}
use Rattle.mcc_commands.specs.Imported.{IsMccImport, most_imported_frames}
use Rattle.mcc_commands.proofs.LimitLemmas.{one_import}
use Rattle.mcc_commands.proofs.RoundTripMadeLemmas.{frames_are, words_are}
use Rattle.mcc_commands.specs.RoundTrip.{ExportedFilesAreImports, WordsComeBack}

-- a day has no more frames than an import may have
day_few : (count : Counting) → day_frames_in count ≤ most_imported_frames
day_few counting.F24 = omega arith
day_few counting.F25 = omega arith
day_few counting.F30 = omega arith
day_few counting.F30Drop = omega arith
day_few counting.F50 = omega arith
day_few counting.F60 = omega arith
day_few counting.F60Drop = omega arith

pub exported_import : (start : Start) (frames : List Frame) (words text : List ℕ) (is_file : IsFileUnder caption_channel frames words) → start.first < day_frames_in start.count
    → IsMccOf start frames words is_file text → length words ≤ words_limit → IsMccImport text words
exported_import start frames words text is_file below mcc short =
    let packets = is_file.file.packets in
    let all = placed start.first packets in
    let carried = is_file.file.carried in
    let came : words_as_they_came all ≡ words = exported_words start frames words is_file mcc.fit in
    let number = frames_are start.first packets frames carried in
    let within = mcc.fit.within_day in
    let few = day_few start.count in
    record {
      placed = all;
      file = exported_file start frames words text is_file below mcc;
      frames = frames;
      words = subst (λ (w : List ℕ). IsFileUnder caption_channel frames w) (sym came) is_file;
      within = record {
        are = subst (λ (w : List ℕ). AreMccWords all w) came (words_are start.first packets frames carried);
        frames = omega (arith, number, within, few);
        bytes = short;
      };
    }

pub exported_again : ExportedFilesAreImports
exported_again start frames words text is_file below mcc short =
    let is = exported_import start frames words text is_file below mcc short in
    record { is = is; just = λ others also. one_import text others words also is }

-- the longest file with which a file begins is that file
all_of : (file behind bytes : List ℕ) → bytes ≡ file ++ behind → length bytes ≤ length file → file ≡ bytes
all_of file [] bytes spelled within = sym (spelled ∙ append-nil file)
all_of file (byte ∷ behind) bytes spelled within = absurd (omega (arith, ap length spelled, length-append file (byte ∷ behind), within))

-- words that are exported whole are imported
whole_import : (start : Start) (others : List Frame) (words text : List ℕ) → start.first < day_frames_in start.count → IsFileUnder caption_channel others words
    → SaysMcc start words text → length words ≤ words_limit → IsMccImport text words
whole_import start others words text below file says within =
    let are = says.frames_are in
    let most = are.longest others words [] (sym (append-nil words)) file in
    let all : are.file ≡ words = all_of are.file are.behind words are.spelled most in
    let size = ap length all in
    subst (λ (w : List ℕ). IsMccImport text w) all (exported_import start says.frames are.file text are.is_file below says.mcc (omega (arith, within, size)))

said_import : (start : Start) (words text : List ℕ) → start.first < day_frames_in start.count → ExportMccVerdict start words status.Ok text → IsMccImport text words
said_import start words text below (inl (within, (others, file, says))) = whole_import start others words text below file says within
said_import start words text below (inr (inl (refused, says))) = absurd refused
said_import start words text below (inr (inr (judged, rest, is, within, halts))) = absurd halts.at.is

pub come_back : WordsComeBack
come_back start words text below made within =
    let is = said_import start words text below made in
    record { is = (within, is); just = λ others also. one_import text others words also.1 is }
