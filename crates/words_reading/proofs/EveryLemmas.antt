-- Of every input a command makes something that reads words: they are a file, offend, are cut short or pass the limit; or a run stops within
-- them. What is asked of the command: of bytes that bring frames it says a text, or stops within them.
use Rattle.std.proofs.Common.{◌≡◌, ◌∙◌, ◌<◌, ◌≤◌, ◌⊎◌, ◌++◌, ap, append_assoc, append-nil, arith, drop, inl, inr, length, length-append, subst, sym, ℕ, List, []}
use Rattle.std.specs.List.{All}
use Rattle.std.proofs.lemmas.Bool.{cases_lt}
use Rattle.std.proofs.lemmas.List.{length-take, take-append-drop}
use Rattle.std.proofs.lemmas.List.Elements.{All-take}
use Rattle.cc_base.specs.declared.limit_of.LimitOf.TheVariants as limit
use Rattle.cc_base.specs.declared.refusal.Refusal.{Refusal}
use Rattle.cdp_packets.specs.Packets.{Frame}
use Rattle.command_base.specs.declared.status.Place.TheVariants.{Byte}
use Rattle.command_base.specs.declared.status.Status.{Status}
use Rattle.command_base.specs.declared.status.Status.TheVariants as status
use Rattle.cc_receiver.proofs.ChannelFiles.{each_channel, got_frames}
use Rattle.cc_receiver.specs.CaptionChannel.{caption_channel}
use Rattle.words_files.proofs.EndingLemmas.{file_whole}
use Rattle.words_files.specs.FramesOf.{AreFramesOf}
use Rattle.words_files.specs.Offences.{FirstOffendingWord, IsFileUnder, IsUnoffending}
use Rattle.words_reading.specs.Causes.{words_limit}
use Rattle.words_reading.proofs.WordsLemmas.{admitted_all}
use Rattle.command_base.specs.Exact.{HasVerdict, IsFault}
use Rattle.words_reading.specs.WordsVerdict.{AreRefused, EndsWords, WordsVerdict, admitted}

file_fine : (bytes : List ℕ) (frames : List Frame) → IsFileUnder caption_channel frames bytes → IsUnoffending caption_channel bytes
file_fine bytes frames file =
    record {
      words = bytes;
      half = [];
      spelled = sym (append-nil bytes);
      whole = file_whole caption_channel frames bytes file;
      single = omega arith;
      begins = record { more = []; frames = frames; is_file = subst (IsFileUnder caption_channel frames) (sym (append-nil bytes)) file };
    }

module _ (AtEnd : Status → List ℕ → List ℕ → Type 0) (Says : List ℕ → List ℕ → Type 0) (Halts : Status → List ℕ → List ℕ → Type 0) where
  -- what words end with is a verdict, where it isn't a fault
  said_plain : (input : List ℕ) (answer : Status) (text : List ℕ) → (IsFault answer → ⊥) → EndsWords AtEnd Says Halts input answer text
      → WordsVerdict AtEnd Says Halts input answer text
  said_plain input status.ReadFault text plain is = absurd (plain tt)
  said_plain input status.WriteFault text plain is = absurd (plain tt)
  said_plain input answer text plain is = is

  abbrev Has : List ℕ → Type 0
  Has input = (answer : Status) × (text : List ℕ) × (IsFault answer → ⊥) × WordsVerdict AtEnd Says Halts input answer text

  -- a text is said of bytes
  abbrev pub IsSaid : List ℕ → Type 0
  IsSaid bytes = (text : List ℕ) × Says bytes text

  -- a run stops within them
  abbrev pub HaltsIn : List ℕ → Type 0
  HaltsIn bytes = (answer : Status) × (text judged rest : List ℕ) × (bytes ≡ judged ++ rest) × (IsFault answer → ⊥) × Halts answer judged text

  module _ (judges : (bytes : List ℕ) (frames : List Frame) → AreFramesOf caption_channel frames bytes → IsSaid bytes ⊎ HaltsIn bytes)
      (ends : (input text : List ℕ) (frames : List Frame) → IsFileUnder caption_channel frames input → Says input text
      → (answer : Status) × (out : List ℕ) × (IsFault answer → ⊥) × AtEnd answer input out) where
    refused_so : (input : List ℕ) (answer : Status) → (IsFault answer → ⊥) → AreRefused input answer → IsSaid (admitted input) → Has input
    refused_so input answer plain refused (text, said) = (answer, text, plain, said_plain input answer text plain (inr (inl (refused, said))))

    offends_so : (input : List ℕ) (refusal : Refusal) → FirstOffendingWord caption_channel (admitted input) refusal → IsSaid (admitted input) → Has input
    offends_so input refusal offence said = refused_so input (status.Malformed (Byte refusal.place) refusal.why) (λ fault. fault) (inl offence) said

    halts_so : (input : List ℕ) → HaltsIn (admitted input) → Has input
    halts_so input (answer, text, judged, rest, is, plain, halts) =
        let whole : input ≡ judged ++ (rest ++ drop words_limit input) =
        sym (take-append-drop words_limit input) ∙ (ap (λ l. l ++ drop words_limit input) is ∙ append_assoc judged rest (drop words_limit input)) in
        let size = ap length is ∙ length-append judged rest in (
          answer,
          text,
          plain,
          said_plain input answer text plain
              (inr (inr (judged, rest ++ drop words_limit input, whole, omega (arith, size, length-take words_limit input), halts))),
        )

    within_so : (input : List ℕ) → All (λ byte. byte < 256) input → length input ≤ words_limit → IsSaid (admitted input) → Has input
    within_so input bytes within (text, said) =
        let all = admitted_all input within in
        elim (each_channel input bytes) [
          | inl (frames, file) ↦
              let (answer, out, plain, at_end) = ends input text frames file (subst (λ l. Says l text) all said) in
              (answer, out, plain, said_plain input answer out plain (inl (within, at_end)))
          | inr (inl (refusal, cut)) ↦
              refused_so input (status.Malformed (Byte refusal.place) refusal.why) (λ fault. fault) (inr (within, cut)) (text, said)
          | inr (inr (refusal, offence)) ↦ offends_so input refusal (subst (λ l. FirstOffendingWord caption_channel l refusal) (sym all) offence) (text, said)
        ]

    past_so : (input : List ℕ) → All (λ byte. byte < 256) input → words_limit < length input → IsSaid (admitted input) → Has input
    past_so input bytes past said = elim (each_channel (admitted input) (All-take (λ byte. byte < 256) words_limit input bytes)) [
      | inl (frames, file) ↦ refused_so input (status.Limit limit.Bytes) (λ fault. fault) (past, file_fine (admitted input) frames file) said
      | inr (inl (refusal, cut)) ↦ refused_so input (status.Limit limit.Bytes) (λ fault. fault) (past, cut.unoffending) said
      | inr (inr (refusal, offence)) ↦ offends_so input refusal offence said
    ]

    said_so : (input : List ℕ) → All (λ byte. byte < 256) input → IsSaid (admitted input) → Has input
    said_so input bytes said = elim (cases_lt words_limit (length input)) [
      | inl past ↦ past_so input bytes past said
      | inr within ↦ within_so input bytes within said
    ]

    pub every_words : HasVerdict (λ aside. WordsVerdict AtEnd Says Halts)
    every_words aside input bytes =
        let got = got_frames (admitted input) (All-take (λ byte. byte < 256) words_limit input bytes) in
        elim (judges (admitted input) got.frames got.are) [
          | inl said ↦ said_so input bytes said
          | inr halts ↦ halts_so input halts
        ]
