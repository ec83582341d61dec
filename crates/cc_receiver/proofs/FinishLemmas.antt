-- What the end of the bytes says.
use Rattle.std.proofs.Common.{◌≡◌, ℕ, ◌%◌, ◌^◌, List, length, Option, Some, None, inl, inr, refl, subst, sym}
use Rattle.std.specs.Prelude.{IfErr, IsOk, Result, Ok, Err}
use Rattle.std.specs.Result.{result_err}
use Rattle.cc_base.specs.Syntax.{open_behind}
use Rattle.cc_base.specs.declared.refusal.Refusal.{Refusal}
use Rattle.cc_base.specs.declared.why.Why.TheVariants as why
use Rattle.anc_words.specs.Packets.{AncillaryPacket}
use Rattle.anc_words.specs.Readers.{HasRead}
use Rattle.anc_words.specs.Reading.{anc_syntax, nothing_open}
use Rattle.anc_words.specs.WordsFiles.{IsWordsFile}
use Rattle.anc_words.proofs.ByteLemmas.{file_is_read, what_is_read_is_file}
use Rattle.cdp_packets.specs.Packets.{Frame}
use Rattle.services_files.specs.Catching.{refusal_of}
use Rattle.services_files.specs.Services.{services_say}
use Rattle.services_files.specs.CaptionChannel.{caption_channel}
use Rattle.services_files.proofs.ChannelFiles.{caught_channel, channel_caught, open_cut_short, refused_offence}
use Rattle.services_files.specs.Offences.{FirstOffendingWord, IsFileUnder, IsMalformed}
use Rattle.cc_receiver.specs.declared.receiver.Receiver.{Receiver}
use Rattle.cc_receiver.specs.Receivers.{HasReceived, receiver_refusal}

-- what the reader of words answers where the bytes may end
pub record Finishes (bytes : List ℕ) (receiver : Receiver) (answer : Result (Unit {0}) Refusal) : Type 0 where
  pub kept : (refused : Refusal) → receiver_refusal receiver ≡ Some refused → result_err answer ≡ Some refused
  pub whole : HasRead bytes receiver.words → IsOk answer → (packets : List AncillaryPacket) × IsWordsFile packets bytes
  pub file : (packets : List AncillaryPacket) → HasRead bytes receiver.words → IsWordsFile packets bytes → IsOk answer
  pub cut : HasRead bytes receiver.words → IfErr answer (λ refused. (refused.why ≡ why.Truncated) × (refused.place ≡ length bytes % 2 ^ 64))

-- where it is Ok the bytes are a file
kept_refusal_is_err : (refused : Refusal) (answer : Result (Unit {0}) Refusal) → result_err answer ≡ Some refused → IsOk answer → ⊥
kept_refusal_is_err refused (Ok value) is ok = let clash : None ≡ Some refused = is in absurd cc
kept_refusal_is_err refused (Err other) is ok = cc

pub finish_whole : (bytes : List ℕ) (receiver : Receiver) (answer : Result (Unit {0}) Refusal) → HasReceived bytes receiver → Finishes bytes receiver answer → IsOk answer
    → (frames : List Frame) × IsFileUnder caption_channel frames bytes
finish_whole bytes receiver answer had finishes ok =
    let cases : (refusal : Option Refusal) → refusal_of services_say bytes ≡ refusal → (frames : List Frame) × IsFileUnder caption_channel frames bytes = elim [
      | None ↦ λ none.
          let (packets, file) = finishes.whole (had.reached.leads none) ok in
          caught_channel bytes had.bytes_are none (file_is_read packets bytes file).leads
      | Some refused ↦ λ some. absurd (kept_refusal_is_err refused answer (finishes.kept refused (had.reached.kept refused some)) ok)
    ] in cases _ refl

-- where the bytes are a file it is Ok
pub finish_file : (bytes : List ℕ) (frames : List Frame) (receiver : Receiver) (answer : Result (Unit {0}) Refusal) → HasReceived bytes receiver
    → Finishes bytes receiver answer → IsFileUnder caption_channel frames bytes → IsOk answer
finish_file bytes frames receiver answer had finishes is =
    finishes.file is.file.packets (had.reached.leads (channel_caught frames bytes is).1) is.file.file

-- where it isn't, they are malformed
pub finish_malformed : (bytes : List ℕ) (receiver : Receiver) (answer : Result (Unit {0}) Refusal) → HasReceived bytes receiver → Finishes bytes receiver answer
    → IfErr answer (λ refused. IsMalformed caption_channel bytes refused)
finish_malformed bytes receiver (Ok value) had finishes = tt
finish_malformed bytes receiver (Err refused) had finishes =
    let cases : (refusal : Option Refusal) → refusal_of services_say bytes ≡ refusal → IsMalformed caption_channel bytes refused = elim [
      | None ↦ λ none.
          let led = had.reached.leads none in
          let opens : open_behind anc_syntax bytes ≡ nothing_open → ⊥ = λ closed.
          let (packets, file) = what_is_read_is_file bytes led.0 led.1.all closed in (let ok = finishes.file packets led file in cc) in
          let short = open_cut_short bytes had.bytes_are none opens in
          let cut = finishes.cut led in
          inr (record { unoffending = short.unoffending; no_file = short.no_file; place_is = cut.1; why_is = cut.0 })
      | Some other ↦ λ some.
          let same : refused ≡ other = (let e : Some refused ≡ Some other = finishes.kept other (had.reached.kept other some) in cc) in
          inl (subst (FirstOffendingWord caption_channel bytes) (sym same) (refused_offence bytes other had.bytes_are some))
    ] in cases _ refl
