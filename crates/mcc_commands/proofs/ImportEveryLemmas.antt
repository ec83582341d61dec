-- Of every input `import-mcc` makes something: byte by byte nothing stops a run, or a line ends with which a limit is passed, or something
-- offends.
use Rattle.std.proofs.Common.{◌≡◌, ◌∙◌, ◌<◌, ◌≤◌, ◌==◌, ◌⊎◌, ◌++◌, ◌∷◌, ap, append_assoc, append-nil, arith, drop, false, inl, inr, length, length-append, not, refl, subst, sym, take, true, ℕ, List, [], None}
use Rattle.std.proofs.lemmas.Bool.{cases_Bool, cases_lt, eqb-true}
use Rattle.std.proofs.lemmas.List.{length-take, take-append-drop}
use Rattle.cc_base.specs.declared.limit_of.LimitOf.{LimitOf}
use Rattle.cc_base.specs.declared.limit_of.LimitOf.TheVariants as limit
use Rattle.cc_base.specs.declared.refusal.Refusal.{Refusal}
use Rattle.command_base.specs.declared.status.Place.TheVariants.{Byte}
use Rattle.command_base.specs.declared.status.Status.{Status}
use Rattle.command_base.specs.declared.status.Status.TheVariants as status
use Rattle.mcc_commands.proofs.EachLemmas.{every_input}
use Rattle.mcc_commands.proofs.ImportOffenceLemmas.{no_word_first}
use Rattle.mcc_commands.proofs.ImportedOffenceLemmas.{nothing_offends}
use Rattle.mcc_commands.proofs.StateLemmas.{stepped}
use Rattle.mcc_commands.proofs.TakeLemmas.{step_between}
use Rattle.mcc_commands.specs.ImportMcc.{RefusesAt, ImportMccVerdict}
use Rattle.mcc_commands.specs.EveryInput.{IsOneOfThese, PassesWithin}
use Rattle.mcc_commands.specs.Imported.{IsMccImport, PassesAtPacket, SaysLines}
use Rattle.mcc_commands.specs.Offences.{IsMccCutShort, IsWithoutOffence}
use Rattle.mcc_files.proofs.FrontLemmas.{all_more}
use Rattle.mcc_files.proofs.OriginLemmas.{ended_file, origin}
use Rattle.mcc_files.proofs.RunLemmas.{run_front}
use Rattle.mcc_files.proofs.Unoffending.{is_begun, unoffending}
use Rattle.mcc_files.proofs.UnitReads.{unoffending_runs}
use Rattle.mcc_files.specs.Reading.{at_first, ends_in}
use Rattle.mcc_files.specs.declared.phase.Phase.{Phase}
use Rattle.scc_files.specs.Offences.{EndsLine}
use Rattle.words_reading.specs.Causes.{words_limit}
use Rattle.command_base.specs.Exact.{IsFault, HasVerdict}
use Rattle.words_reading.specs.WordsVerdict.{admitted}
use Rattle.mcc_commands.proofs.ImportVerdictLemmas.{fine_never}

-- how far a run comes in bytes
data Taken (bytes : List ℕ) : Type 0 where
  on : (text : List ℕ) → IsWithoutOffence bytes → SaysLines bytes text → Taken bytes
  passed : (which : LimitOf) (judged rest text : List ℕ) → bytes ≡ judged ++ rest → EndsLine judged → PassesAtPacket which judged text → Taken bytes
  refused : (refusal : Refusal) (judged rest text : List ℕ) → bytes ≡ judged ++ rest → RefusesAt refusal judged text → Taken bytes

-- the words of the lines that ended, with a byte that ends none, and with one that does
line_open : (before : List ℕ) (byte : ℕ) (text : List ℕ) → SaysLines before text → (byte == 10) ≡ false → SaysLines (before ++ byte ∷ []) text
line_open before byte text says other = record {
  lines = says.lines;
  rest = says.rest ++ byte ∷ [];
  placed = says.placed;
  spelled = ap (λ (b : List ℕ). b ++ byte ∷ []) says.spelled ∙ append_assoc says.lines says.rest (byte ∷ []);
  ended = says.ended;
  open_line = all_more (λ (b : ℕ). not (b == 10)) says.rest byte says.open_line (ap not other);
  within = says.within;
}

line_ended : (before words : List ℕ) → IsMccImport (before ++ 10 ∷ []) words → SaysLines (before ++ 10 ∷ []) words
line_ended before words is = record {
  lines = before ++ 10 ∷ [];
  rest = [];
  placed = is.placed;
  spelled = sym (append-nil (before ++ 10 ∷ []));
  ended = inr ((before, refl), is.file);
  open_line = refl;
  within = is.within;
}

-- bytes that end with a line don't end too soon
line_whole : (before : List ℕ) (refusal : Refusal) → IsMccCutShort (before ++ 10 ∷ []) refusal → ⊥
line_whole before refusal cut =
    let front = before ++ 10 ∷ [] in
    let all = unoffending_runs front cut.early.unoffending in
    let first = run_front at_first before (10 ∷ []) all.to all.is in
    let step = stepped before first.to all.to 10 first.is (step_between before 10 first.to all.to first.is all.is) in
    elim step.line [
      | inl (ten, start) ↦
          cut.early.no_file all.to.placed (ended_file front all.to false (origin front all.to all.is) (ap (λ (p : Phase). ends_in p all.to.payload.bytes) start))
      | inr (other, same) ↦ let clash : true ≡ false = other in cc
    ]

-- a limit that is passed within bytes is passed at a line of them, or with all of them
passes_all : (which : LimitOf) (bytes : List ℕ) (p : PassesWithin which bytes) → p.more ≡ [] → PassesAtPacket which bytes p.words
passes_all which bytes p none =
    subst (λ (b : List ℕ). PassesAtPacket which b p.words) (sym (p.spelled ∙ (ap (λ (m : List ℕ). p.front ++ m) none ∙ append-nil p.front))) p.passes

passed_fine : (which : LimitOf) (bytes text : List ℕ) → PassesAtPacket which bytes text → IsWithoutOffence bytes
passed_fine which bytes text p = record { form = inl (is_begun bytes (p.placed ++ p.last ∷ []) p.file); no_word = p.no_word }

module _ (before : List ℕ) (byte : ℕ) (text : List ℕ) (says : SaysLines before text) where
  abbrev Now : List ℕ
  Now = before ++ byte ∷ []

  refused_now : (refusal : Refusal) (offends : RefusesAt refusal Now text) → Taken Now
  refused_now refusal offends = refused refusal Now [] text (sym (append-nil Now)) offends

  -- a byte more within a line
  within_line : (byte == 10) ≡ false → IsOneOfThese Now → Taken Now
  within_line other (inl (words, is)) = on text (nothing_offends Now words is).0 (line_open before byte text says other)
  within_line other (inr (inl (refusal, inl offends))) = refused_now refusal (record { offends = offends; front = before; last = byte; spelled = refl; says = says })
  within_line other (inr (inl (refusal, inr cut))) =
      on text (record { form = cut.early.unoffending; no_word = cut.no_word }) (line_open before byte text says other)
  within_line other (inr (inr (which, p))) = by_end p.ended
    where
      by_end : EndsLine p.front ⊎ (p.more ≡ []) → Taken Now
      by_end (inl ends) = passed which p.front p.more p.words p.spelled ends p.passes
      by_end (inr none) = on text (passed_fine which Now p.words (passes_all which Now p none)) (line_open before byte text says other)

-- a line end
line_end : (before text : List ℕ) → SaysLines before text → IsOneOfThese (before ++ 10 ∷ []) → Taken (before ++ 10 ∷ [])
line_end before text says (inl (words, is)) = on words (nothing_offends (before ++ 10 ∷ []) words is).0 (line_ended before words is)
line_end before text says (inr (inl (refusal, inl offends))) =
    refused_now before 10 text says refusal (record { offends = offends; front = before; last = 10; spelled = refl; says = says })
line_end before text says (inr (inl (refusal, inr cut))) = absurd (line_whole before refusal cut)
line_end before text says (inr (inr (which, p))) = by_end p.ended
  where
    by_end : EndsLine p.front ⊎ (p.more ≡ []) → Taken (before ++ 10 ∷ [])
    by_end (inl ends) = passed which p.front p.more p.words p.spelled ends p.passes
    by_end (inr none) =
        passed which (before ++ 10 ∷ []) [] p.words (sym (append-nil (before ++ 10 ∷ []))) (before, refl) (passes_all which (before ++ 10 ∷ []) p none)

ten_of : (byte : ℕ) → (byte == 10) ≡ true → 10 ≡ byte
ten_of byte is = sym (eqb-true byte 10 is)

one_more : (before : List ℕ) (byte : ℕ) (text : List ℕ) → SaysLines before text → Taken (before ++ byte ∷ [])
one_more before byte text says = elim (cases_Bool (byte == 10)) [
  | inl is ↦ subst (λ (n : ℕ). Taken (before ++ n ∷ [])) (ten_of byte is) (line_end before text says (every_input (before ++ 10 ∷ [])))
  | inr other ↦ within_line before byte text says other (every_input (before ++ byte ∷ []))
]

each_from : (rest before : List ℕ) → Taken before → Taken (before ++ rest)
each_from [] before taken = subst Taken (sym (append-nil before)) taken
each_from (byte ∷ rest) before (on text fine says) =
    subst Taken (append_assoc before (byte ∷ []) rest) (each_from rest (before ++ byte ∷ []) (one_more before byte text says))
each_from rest before (passed which judged more text is ends p) =
    passed which judged (more ++ rest) text (ap (λ (b : List ℕ). b ++ rest) is ∙ append_assoc judged more rest) ends p
each_from rest before (refused refusal judged more text is offends) =
    refused refusal judged (more ++ rest) text (ap (λ (b : List ℕ). b ++ rest) is ∙ append_assoc judged more rest) offends

nothing_taken : Taken []
nothing_taken =
    on [] (record { form = unoffending [] at_first (origin [] at_first refl); no_word = no_word_first })
    (record {
      lines = [];
      rest = [];
      placed = [];
      spelled = refl;
      ended = inl (refl, refl);
      open_line = refl;
      within = record { are = record { after = None; are = (refl, refl) }; frames = omega arith; bytes = omega arith };
    })

taken : (bytes : List ℕ) → Taken bytes
taken bytes = each_from bytes [] nothing_taken

-- so something is made of them
abbrev Has : List ℕ → Type 0
Has input = (answer : Status) × (text : List ℕ) × (IsFault answer → ⊥) × ImportMccVerdict input answer text

limit_made : (input : List ℕ) (which : LimitOf) (judged rest text : List ℕ) → input ≡ judged ++ rest → length judged ≤ words_limit → PassesAtPacket which judged text
    → EndsLine judged ⊎ (rest ≡ []) → Has input
limit_made input limit.Bytes judged rest text is within p ended = (status.Limit limit.Bytes, text, λ fault. fault, inr (judged, rest, is, within, p, ended))
limit_made input limit.Frames judged rest text is within p ended = (status.Limit limit.Frames, text, λ fault. fault, (judged, rest, is, within, p, ended))
limit_made input _ judged rest text is within p ended = absurd p.passes

refusal_made : (input : List ℕ) (refusal : Refusal) (judged rest text : List ℕ) → input ≡ judged ++ rest → length judged ≤ words_limit → RefusesAt refusal judged text → Has input
refusal_made input refusal judged rest text is within at =
    (status.Malformed (Byte refusal.place) refusal.why, text, λ fault. fault, inl (judged, rest, is, within, at))

front_within : (bytes judged rest : List ℕ) → bytes ≡ judged ++ rest → length bytes ≤ words_limit → length judged ≤ words_limit
front_within bytes judged rest is within = omega (arith, within, ap length is ∙ length-append judged rest)

-- within the limit
whole_made : (input text : List ℕ) → length input ≤ words_limit → IsWithoutOffence input → SaysLines input text → IsOneOfThese input → Has input
whole_made input text within fine says (inl (words, is)) = (status.Ok, words, λ fault. fault, (within, is))
whole_made input text within fine says (inr (inl (refusal, inl offends))) = absurd (fine_never input refusal fine offends)
whole_made input text within fine says (inr (inl (refusal, inr cut))) =
    (status.Malformed (Byte refusal.place) refusal.why, text, λ fault. fault, inr (within, cut, says))
whole_made input text within fine says (inr (inr (which, p))) =
    limit_made input which p.front p.more p.words p.spelled (front_within input p.front p.more p.spelled within) p.passes p.ended

within_made : (input : List ℕ) → length input ≤ words_limit → Taken input → Has input
within_made input within (on text fine says) = whole_made input text within fine says (every_input input)
within_made input within (passed which judged rest text is ends p) =
    limit_made input which judged rest text is (front_within input judged rest is within) p (inl ends)
within_made input within (refused refusal judged rest text is at) = refusal_made input refusal judged rest text is (front_within input judged rest is within) at

-- past it
admitted_within : (input : List ℕ) → length (admitted input) ≤ words_limit
admitted_within input = omega (arith, length-take words_limit input)

behind_admitted : (input judged rest : List ℕ) → admitted input ≡ judged ++ rest → input ≡ judged ++ (rest ++ drop words_limit input)
behind_admitted input judged rest is =
    sym (take-append-drop words_limit input) ∙ (ap (λ (b : List ℕ). b ++ drop words_limit input) is ∙ append_assoc judged rest (drop words_limit input))

past_made : (input : List ℕ) → words_limit < length input → Taken (admitted input) → Has input
past_made input long (on text fine says) = (status.Limit limit.Bytes, text, λ fault. fault, inl (long, fine, says))
past_made input long (passed which judged rest text is ends p) =
    limit_made input which judged (rest ++ drop words_limit input) text (behind_admitted input judged rest is)
    (front_within (admitted input) judged rest is (admitted_within input)) p (inl ends)
past_made input long (refused refusal judged rest text is at) =
    refusal_made input refusal judged (rest ++ drop words_limit input) text (behind_admitted input judged rest is)
    (front_within (admitted input) judged rest is (admitted_within input)) at

pub every_import_mcc : HasVerdict (λ aside. ImportMccVerdict)
every_import_mcc aside input bytes = elim (cases_lt words_limit (length input)) [
  | inl long ↦ past_made input long (taken (admitted input))
  | inr within ↦ within_made input within (taken input)
]
