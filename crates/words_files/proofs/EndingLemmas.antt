-- How bytes end: as a file, cut short, or with an offending word, and never as two of these.
use Rattle.std.proofs.Common.{◌≡◌, ℕ, ◌%◌, ◌^◌, ◌<◌, ◌⊎◌, inl, inr, List, [], ◌∷◌, ◌++◌, length, Option, Some, None, refl, ap, sym, subst, ◌∙◌, append_assoc, append-nil, arith, length-append}
use Rattle.std.specs.List.{All}
use Rattle.cc_base.specs.declared.refusal.Refusal.{Refusal}
use Rattle.cc_base.specs.declared.why.Why.TheVariants as why
use Rattle.cc_base.specs.Feeding.{Verdict}
use Rattle.cc_base.specs.Syntax.{open_behind}
use Rattle.anc_words.specs.Reading.{Open, anc_syntax, nothing_open}
use Rattle.anc_words.proofs.ByteLemmas.{file_is_read}
use Rattle.cdp_packets.specs.declared.parts.CdpPart.{CdpPart}
use Rattle.cdp_packets.specs.Packets.{Frame}
use Rattle.words_files.specs.Catching.{refusal_of}
use Rattle.words_files.specs.Offences.{AreWholeWords, FirstOffendingWord, IsCutShort, IsFileUnder}
use Rattle.words_files.specs.Layers.{Layers}
use Rattle.words_files.specs.Verdicts.{TakesFilling, layers_of}
use Rattle.words_files.proofs.CaughtLemmas.{caught_file}
use Rattle.words_files.proofs.OffenceLemmas.{past_offence, refused_offends, unoffending_is_unrefused, unrefused_is_unoffending}
use Rattle.words_files.proofs.WordLemmas.{AreWords-whole}

-- the bytes of a file are whole words, and leave nothing open
pub file_whole : (layers : Layers) (frames : List Frame) (bytes : List ℕ) → IsFileUnder layers frames bytes → AreWholeWords bytes
file_whole layers frames bytes is = AreWords-whole bytes is.file.file.words is.file.file.spelled

pub file_closed : (layers : Layers) (frames : List Frame) (bytes : List ℕ) → IsFileUnder layers frames bytes → open_behind anc_syntax bytes ≡ nothing_open
file_closed layers frames bytes is = (file_is_read is.file.packets bytes is.file.file).leads

-- where the bytes are cut short
abbrev pub truncated : List ℕ → Refusal
truncated bytes = record { place = length bytes % 2 ^ 64; why = why.Truncated }

-- bytes that aren't refused and leave something open are cut short
pub open_is_cut_short : (v : Verdict CdpPart) → TakesFilling v → (bytes : List ℕ) → All (λ byte. byte < 256) bytes → refusal_of v bytes ≡ None
    → (open_behind anc_syntax bytes ≡ nothing_open → ⊥) → IsCutShort (layers_of v) bytes (truncated bytes)
open_is_cut_short v takes bytes are none opens = record {
  unoffending = unrefused_is_unoffending v takes bytes are none;
  no_file = λ frames is. opens (file_closed (layers_of v) frames bytes is);
  place_is = refl;
  why_is = refl;
}

-- and the other way round
pub cut_short_is_open : (v : Verdict CdpPart) (bytes : List ℕ) (refusal : Refusal) → All (λ byte. byte < 256) bytes → IsCutShort (layers_of v) bytes refusal
    → (refusal_of v bytes ≡ None) × (open_behind anc_syntax bytes ≡ nothing_open → ⊥) × (refusal ≡ truncated bytes)
cut_short_is_open v bytes refusal are is =
    let none = unoffending_is_unrefused v bytes is.unoffending in (
      none,
      λ nothing. let (frames, file) = caught_file v bytes are none nothing in is.no_file frames file,
      ap (λ n. let r : Refusal = record { place = n; why = refusal.why } in r) is.place_is
          ∙ ap (λ w. let r : Refusal = record { place = length bytes % 2 ^ 64; why = w } in r) is.why_is,
    )

-- something is open, or nothing
pub nothing_or_some : (front : Open) → (front ≡ nothing_open) ⊎ (front ≡ nothing_open → ⊥)
nothing_or_some front =
    let by_words : (high : Option ℕ) (words : List ℕ) → front.high ≡ high → front.words ≡ words → (front ≡ nothing_open) ⊎ (front ≡ nothing_open → ⊥) = elim [
      | None ↦ elim [
        | [] ↦ λ high words. inl (ap (λ h. let o : Open = record { high = h; words = front.words } in o) high
            ∙ ap (λ ws. let o : Open = record { high = None; words = ws } in o) words)
        | word ∷ rest ↦ λ high words. inr (λ same. let clash : word ∷ rest ≡ [] = sym words ∙ ap (λ (o : Open). o.words) same in absurd cc)
      ]
      | Some byte ↦ λ words high is. inr (λ same. let clash : Some byte ≡ None = sym high ∙ ap (λ (o : Open). o.high) same in absurd cc)
    ] in by_words _ _ refl refl

-- bytes are a file, cut short, or have an offending word
pub each_ends : (v : Verdict CdpPart) → TakesFilling v → (bytes : List ℕ) → All (λ byte. byte < 256) bytes
    → ((frames : List Frame) × IsFileUnder (layers_of v) frames bytes) ⊎ (((refusal : Refusal) × IsCutShort (layers_of v) bytes refusal) ⊎ ((refusal : Refusal) × FirstOffendingWord (layers_of v) bytes refusal))
each_ends v takes bytes are =
    let cases : (r : Option Refusal) → refusal_of v bytes ≡ r
    → ((frames : List Frame) × IsFileUnder (layers_of v) frames bytes) ⊎ (((refusal : Refusal) × IsCutShort (layers_of v) bytes refusal) ⊎ ((refusal : Refusal) × FirstOffendingWord (layers_of v) bytes refusal)) = elim [
      | None ↦ λ none. elim (nothing_or_some (open_behind anc_syntax bytes)) [
        | inl nothing ↦ inl (caught_file v bytes are none nothing)
        | inr some ↦ inr (inl (truncated bytes, open_is_cut_short v takes bytes are none some))
      ]
      | Some refusal ↦ λ some. inr (inr (refusal, refused_offends v takes bytes refusal are some))
    ] in cases _ refl

-- never two of these
pub file_has_no_offence : (layers : Layers) (frames : List Frame) (bytes : List ℕ) (refusal : Refusal) → IsFileUnder layers frames bytes → FirstOffendingWord layers bytes refusal → ⊥
file_has_no_offence layers frames bytes refusal file has =
    let long = ap length has.spelled ∙ length-append has.before (has.high ∷ has.low ∷ has.rest) in
    past_offence layers bytes [] bytes refusal has (append-nil bytes) (omega (arith, long))
    (record { more = []; frames = frames; is_file = subst (IsFileUnder layers frames) (sym (append-nil bytes)) file })

pub cut_short_has_no_offence : (layers : Layers) (bytes : List ℕ) (refusal other : Refusal) → IsCutShort layers bytes refusal → FirstOffendingWord layers bytes other → ⊥
cut_short_has_no_offence layers bytes refusal other cut has =
    let is = cut.unoffending in
    let long = sym (length-append is.words is.half) ∙ ap length (sym is.spelled ∙ has.spelled) ∙ length-append has.before (has.high ∷ has.low ∷ has.rest) in
    past_offence layers is.words is.half bytes other has (sym is.spelled) (omega (arith, long, is.single, is.whole, has.whole)) is.begins

-- an offence is one, whatever bytes follow
pub offence_stays : (layers : Layers) (bytes more : List ℕ) (refusal : Refusal) → FirstOffendingWord layers bytes refusal → FirstOffendingWord layers (bytes ++ more) refusal
offence_stays layers bytes more refusal has = record {
  before = has.before;
  high = has.high;
  low = has.low;
  rest = has.rest ++ more;
  spelled = ap (λ bs. bs ++ more) has.spelled ∙ append_assoc has.before (has.high ∷ has.low ∷ has.rest) more;
  whole = has.whole;
  begins = has.begins;
  offends = has.offends;
  place_is = has.place_is;
  why_is = has.why_is;
}
