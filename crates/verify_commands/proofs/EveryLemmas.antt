-- Of every side file and all words `verify` makes one status: at a frame after clean ones nothing is found, or something first.
use Rattle.std.proofs.Common.{◌⊎◌, ◌++◌, ◌∷◌, codes, inl, inr, length, refl, ℕ, List, []}
use Rattle.std.proofs.lemmas.Bool.{cases_lt}
use Rattle.words_reading.specs.CaptionChannel.{caption_channel}
use Rattle.cc_verifier.proofs.FindingLemmas.{clean_more, clean_none}
use Rattle.cc_verifier.specs.Findings.{AreClean}
use Rattle.cdp_packets.specs.Packets.{Frame}
use Rattle.command_base.proofs.JudgedLemmas.{beside_made}
use Rattle.command_base.specs.Exact.{HasVerdict, IsFault}
use Rattle.command_base.specs.declared.status.Status.{Status}
use Rattle.command_base.specs.declared.status.Status.TheVariants as status
use Rattle.cue_list_commands.proofs.EveryLemmas.{good_or_refused}
use Rattle.cue_list_commands.proofs.Refusals.{list_refusals}
use Rattle.cue_list_commands.specs.Accepted.{IsGoodList, IsRefusedList}
use Rattle.cue_types.specs.Listing.{Listing}
use Rattle.verify_commands.proofs.DecidedLemmas.{clean_or_found}
use Rattle.verify_commands.proofs.VerdictLemmas.{IsFoundFor}
use Rattle.verify_commands.specs.VerifyVerdict.{FindsNothing, VerifyEnd, VerifyHalts, VerifyVerdict, VerifyWords}
use Rattle.words_files.specs.FramesOf.{AreFramesOf}
use Rattle.words_files.specs.Offences.{IsFileUnder}
use Rattle.words_reading.proofs.EveryLemmas.{HaltsIn, IsSaid, every_words}
use Rattle.words_reading.proofs.WalkLemmas.{frames_judged}
use Rattle.words_reading.proofs.WordsLemmas.{said_of}
use Rattle.words_reading.specs.FrameTexts.{FramesHalt}
use Rattle.words_reading.specs.WordsVerdict.{WordsVerdict}

module _ (list : Listing) where
  decides : (earlier : List Frame) (last : Frame) → AreClean list earlier → AreClean list (earlier ++ last ∷ []) ⊎ ((answer : Status) × IsFoundFor list answer earlier last)
  decides earlier last clean = elim (clean_or_found list earlier last) [
    | inl more ↦ inl (clean_more list earlier last clean more)
    | inr (found, first) ↦ inr (status.Differs (record { frame = length earlier; kind = found }), (refl, first))
  ]

  -- a run that stops at a frame has a finding there
  halts_of : (answer : Status) (judged text : List ℕ) → FramesHalt (λ frames. []) (AreClean list) (IsFoundFor list answer) judged text
      → (IsFault answer → ⊥) × VerifyHalts list answer judged text
  halts_of (status.Differs finding) judged text halts = (λ fault. fault, halts)
  halts_of _ judged text halts = absurd halts.is

  judges : (bytes : List ℕ) (frames : List Frame) → AreFramesOf caption_channel frames bytes
      → IsSaid (VerifyEnd list) (FindsNothing list) (VerifyHalts list) bytes ⊎ HaltsIn (VerifyEnd list) (FindsNothing list) (VerifyHalts list) bytes
  judges bytes frames are = elim (frames_judged (AreClean list) (IsFoundFor list) (clean_none list) decides (λ frames. []) bytes frames are) [
    | inl clean ↦ inl ([], record { frames = frames; frames_are = are; fit = clean; text_is = refl })
    | inr (answer, text, judged, rest, is, halts) ↦ let (plain, so) = halts_of answer judged text halts in inr (answer, text, judged, rest, is, plain, so)
  ]

  ends : (input text : List ℕ) (frames : List Frame) → IsFileUnder caption_channel frames input → FindsNothing list input text
      → (answer : Status) × (out : List ℕ) × (IsFault answer → ⊥) × VerifyEnd list answer input out
  ends input text frames file says =
      let (others, another, clean) = said_of (λ frames. []) (AreClean list) frames input text file says in
      elim (cases_lt (length others) list.frames) [
        | inl few ↦ (status.Short (length others), [], λ fault. fault, (others, another, (clean.0, refl, few, refl)))
        | inr enough ↦ (status.Ok, codes "ok\n", λ fault. fault, (others, another, (clean.0, enough, refl)))
      ]

  words_plain : (input : List ℕ) (answer : Status) (text : List ℕ) → (IsFault answer → ⊥) → WordsVerdict (VerifyEnd list) (FindsNothing list) (VerifyHalts list) input answer text
      → VerifyWords list input answer text
  words_plain input status.WriteFault text plain is = absurd (plain tt)
  words_plain input answer text plain is = is

verify_made : (aside : List ℕ) (list : Listing) → IsGoodList aside list → HasVerdict (λ side. VerifyWords list)
verify_made aside list good side input bytes =
    let (answer, text, plain, is) = every_words (VerifyEnd list) (FindsNothing list) (VerifyHalts list) (judges list) (ends list) side input bytes in
    (answer, text, plain, words_plain list input answer text plain is)

pub every_verify : HasVerdict VerifyVerdict
every_verify = beside_made IsGoodList IsRefusedList VerifyWords list_refusals verify_made good_or_refused
