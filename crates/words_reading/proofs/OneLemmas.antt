-- Of words a command makes one status, where it stops for one reason, and nowhere in words of which its text is made.
use Rattle.std.proofs.Common.{◌≡◌, ◌∙◌, ◌<◌, ◌≤◌, ◌⊎◌, ◌++◌, ap, arith, inl, inr, length, refl, subst, sym, ℕ, List}
use Rattle.cc_base.specs.declared.limit_of.LimitOf.TheVariants as limit
use Rattle.cc_base.specs.declared.refusal.Refusal.{Refusal}
use Rattle.cdp_packets.specs.Packets.{Frame}
use Rattle.command_base.specs.declared.status.Place.TheVariants.{Byte}
use Rattle.command_base.specs.declared.status.Status.{Status}
use Rattle.command_base.specs.declared.status.Status.TheVariants as status
use Rattle.cc_receiver.specs.CaptionChannel.{caption_channel}
use Rattle.words_files.proofs.EndingLemmas.{cut_short_has_no_offence}
use Rattle.words_files.specs.Offences.{FirstOffendingWord, IsCutShort, IsFileUnder, IsMalformed, IsUnoffending}
use Rattle.words_reading.proofs.KnownLemmas.{malformed_no_file, one_malformed}
use Rattle.words_reading.proofs.PieceLemmas.{cut_short}
use Rattle.words_reading.specs.Causes.{words_limit}
use Rattle.words_reading.proofs.WordsLemmas.{admitted_all, admitted_front}
use Rattle.command_base.specs.Exact.{IsFault}
use Rattle.words_reading.specs.WordsVerdict.{AreRefused, EndsWords, WordsVerdict, admitted}

never_offends : (bytes : List ℕ) (refusal : Refusal) → IsUnoffending caption_channel bytes → FirstOffendingWord caption_channel bytes refusal → ⊥
never_offends bytes refusal fine offence = cut_short_has_no_offence caption_channel bytes refusal refusal (cut_short bytes refusal fine (inl offence)) offence

-- why words are refused
abbrev Case : List ℕ → Status → Type 0
Case input answer =
    ((refusal : Refusal) × (answer ≡ status.Malformed (Byte refusal.place) refusal.why) × IsMalformed caption_channel (admitted input) refusal
    × (FirstOffendingWord caption_channel (admitted input) refusal ⊎ (length input ≤ words_limit)))
    ⊎ ((answer ≡ status.Limit limit.Bytes) × (words_limit < length input) × IsUnoffending caption_channel (admitted input))

case_of : (input : List ℕ) (answer : Status) → AreRefused input answer → Case input answer
case_of input (status.Malformed (Byte place) why) (inl offence) = inl (record { place = place; why = why }, refl, inl offence, inl offence)
case_of input (status.Malformed (Byte place) why) (inr cut) =
    let refusal : Refusal = record { place = place; why = why } in
    inl (refusal, refl, inr (subst (λ l. IsCutShort caption_channel l refusal) (sym (admitted_all input cut.0)) cut.1), inr cut.0)
case_of input (status.Limit limit.Bytes) is = inr (refl, is.0, is.1)
case_of input _ is = absurd is

same_case : (input : List ℕ) (one other : Status) → Case input one → Case input other → one ≡ other
same_case input one other (inl (refusal, is, malformed, why)) (inl (again, at, more, also)) =
    is ∙ ap (λ (r : Refusal). status.Malformed (Byte r.place) r.why) (one_malformed (admitted input) refusal again malformed more) ∙ sym at
same_case input one other (inl (refusal, is, malformed, inl offence)) (inr (at, past, fine)) = absurd (never_offends (admitted input) refusal fine offence)
same_case input one other (inl (refusal, is, malformed, inr within)) (inr (at, past, fine)) = absurd (omega (arith, within, past))
same_case input one other (inr (at, past, fine)) (inl (refusal, is, malformed, inl offence)) = absurd (never_offends (admitted input) refusal fine offence)
same_case input one other (inr (at, past, fine)) (inl (refusal, is, malformed, inr within)) = absurd (omega (arith, within, past))
same_case input one other (inr (is, past, fine)) (inr (at, more, also)) = is ∙ sym at

pub refused_one : (input : List ℕ) (one other : Status) → AreRefused input one → AreRefused input other → one ≡ other
refused_one input one other refused again = same_case input one other (case_of input one refused) (case_of input other again)

-- a file within the limit isn't refused
pub file_not_refused : (input : List ℕ) (frames : List Frame) (answer : Status) → length input ≤ words_limit → IsFileUnder caption_channel frames input → AreRefused input answer → ⊥
file_not_refused input frames answer within file refused = at (case_of input answer refused)
  where
    at : Case input answer → ⊥
    at (inl (refusal, is, malformed, why)) =
        malformed_no_file input refusal frames (subst (λ l. IsMalformed caption_channel l refusal) (admitted_all input within) malformed) file
    at (inr (is, past, fine)) = omega (arith, within, past)

module _ (AtEnd : Status → List ℕ → List ℕ → Type 0) (Says : List ℕ → List ℕ → Type 0) (Halts : Status → List ℕ → List ℕ → Type 0)
    (ends_file : (answer : Status) (input text : List ℕ) → AtEnd answer input text → (frames : List Frame) × IsFileUnder caption_channel frames input)
    (ends_one : (input : List ℕ) (one other : Status) (text more : List ℕ) → AtEnd one input text → AtEnd other input more → one ≡ other)
    (halts_end : (judged rest : List ℕ) (one other : Status) (text more : List ℕ) → Halts one judged text → AtEnd other (judged ++ rest) more → ⊥)
    (halts_says : (judged rest : List ℕ) (one : Status) (text more : List ℕ) → Halts one judged text → Says (judged ++ rest) more → ⊥)
    (halts_one : (judged rest again left : List ℕ) (one other : Status) (text more : List ℕ) → judged ++ rest ≡ again ++ left → Halts one judged text → Halts other again more → one ≡ other) where
  halts_refused : (input judged rest text more : List ℕ) (one : Status) → input ≡ judged ++ rest → length judged ≤ words_limit → Halts one judged text → Says (admitted input) more → ⊥
  halts_refused input judged rest text more one is within halts says =
      let (behind, front) = admitted_front input judged rest is within in
      halts_says judged behind one text more halts (subst (λ l. Says l more) front says)

  file_refused : (input text : List ℕ) (one other : Status) → length input ≤ words_limit → AtEnd one input text → AreRefused input other → ⊥
  file_refused input text one other within ends refused =
      let (frames, file) = ends_file one input text ends in file_not_refused input frames other within file refused

  words_end_one : (input : List ℕ) (one other : Status) (text more : List ℕ) → EndsWords AtEnd Says Halts input one text → EndsWords AtEnd Says Halts input other more
      → one ≡ other
  words_end_one input one other text more (inl (within, ends)) (inl (again, last)) = ends_one input one other text more ends last
  words_end_one input one other text more (inl (within, ends)) (inr (inl (refused, says))) = absurd (file_refused input text one other within ends refused)
  words_end_one input one other text more (inl (within, ends)) (inr (inr (judged, rest, is, few, halts))) =
      absurd (halts_end judged rest other one more text halts (subst (λ l. AtEnd one l text) is ends))
  words_end_one input one other text more (inr (inl (refused, says))) (inl (within, ends)) = absurd (file_refused input more other one within ends refused)
  words_end_one input one other text more (inr (inl (refused, says))) (inr (inl (again, also))) = refused_one input one other refused again
  words_end_one input one other text more (inr (inl (refused, says))) (inr (inr (judged, rest, is, few, halts))) =
      absurd (halts_refused input judged rest more text other is few halts says)
  words_end_one input one other text more (inr (inr (judged, rest, is, few, halts))) (inl (within, ends)) =
      absurd (halts_end judged rest one other text more halts (subst (λ l. AtEnd other l more) is ends))
  words_end_one input one other text more (inr (inr (judged, rest, is, few, halts))) (inr (inl (refused, says))) =
      absurd (halts_refused input judged rest text more one is few halts says)
  words_end_one input one other text more (inr (inr (judged, rest, is, few, halts))) (inr (inr (again, left, at, short, stops))) =
      halts_one judged rest again left one other text more (sym is ∙ at) halts stops

  plain_of : (input : List ℕ) (answer : Status) (text : List ℕ) → (IsFault answer → ⊥) → WordsVerdict AtEnd Says Halts input answer text → EndsWords AtEnd Says Halts input answer text
  plain_of input status.ReadFault text plain is = absurd (plain tt)
  plain_of input status.WriteFault text plain is = absurd (plain tt)
  plain_of input answer text plain is = is

  pub words_one : (input : List ℕ) (one other : Status) (text more : List ℕ) → (IsFault one → ⊥) → (IsFault other → ⊥) → WordsVerdict AtEnd Says Halts input one text
      → WordsVerdict AtEnd Says Halts input other more → one ≡ other
  words_one input one other text more plain told is at = words_end_one input one other text more (plain_of input one text plain is) (plain_of input other more told at)
