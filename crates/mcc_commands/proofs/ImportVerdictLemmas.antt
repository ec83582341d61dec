-- `import-mcc` makes one status of bytes: they are a file, or pass the limit, or have a line with which one is passed, or a first offence; and
-- the first of these that a run meets is one.
use Rattle.std.proofs.Common.{◌≡◌, ◌∙◌, ◌<◌, ◌≤◌, ◌⊎◌, ◌++◌, ◌∷◌, ap, append_assoc, append-nil, arith, inl, inr, length, length-append, refl, subst, sym, ℕ, List, []}
use Rattle.std.proofs.lemmas.Bool.{cases_lt}
use Rattle.cc_base.specs.declared.limit_of.LimitOf.{LimitOf}
use Rattle.cc_base.specs.declared.limit_of.LimitOf.TheVariants as limit
use Rattle.cc_base.specs.declared.refusal.Refusal.{Refusal}
use Rattle.command_base.specs.declared.status.Place.TheVariants.{Byte}
use Rattle.command_base.specs.declared.status.Status.{Status}
use Rattle.command_base.specs.declared.status.Status.TheVariants as status
use Rattle.mcc_commands.proofs.ImportedOffenceLemmas.{no_import_offends, offends_stays, one_first}
use Rattle.mcc_commands.proofs.LimitLemmas.{lines_pass_none, never_passed, one_limit}
use Rattle.mcc_commands.proofs.TakeLemmas.{no_byte_offends}
use Rattle.mcc_commands.specs.ImportMcc.{RefusesAt, ImportMccVerdict, StopsAtLine}
use Rattle.mcc_commands.specs.EveryInput.{PassesWithin}
use Rattle.mcc_commands.specs.Imported.{IsMccImport, PassesAtPacket, SaysLines}
use Rattle.mcc_commands.specs.Offences.{IsFirstOffence, IsMccCutShort, IsWithoutOffence, Offends}
use Rattle.mcc_files.proofs.Refused.{no_offence}
use Rattle.mcc_files.proofs.UnitReads.{unoffending_runs}
use Rattle.scc_files.specs.Offences.{EndsLine}
use Rattle.words_files.proofs.WordLemmas.{front_of}
use Rattle.words_reading.specs.Causes.{words_limit}
use Rattle.words_reading.proofs.WordsLemmas.{admitted_front}
use Rattle.command_base.specs.Exact.{IsFault, IsOne}
use Rattle.words_reading.specs.WordsVerdict.{StopsWithin, admitted}

abbrev malformed : Refusal → Status
malformed refusal = status.Malformed (Byte refusal.place) refusal.why

-- why an import makes a status of bytes
data Case (input : List ℕ) (answer : Status) : Type 0 where
  whole : (text : List ℕ) → answer ≡ status.Ok → length input ≤ words_limit → IsMccImport input text → Case input answer
  past : (text : List ℕ) → answer ≡ status.Limit limit.Bytes → words_limit < length input → IsWithoutOffence (admitted input) → SaysLines (admitted input) text
      → Case input answer
  passed : (which : LimitOf) → answer ≡ status.Limit which → (p : PassesWithin which input) → length p.front ≤ words_limit → Case input answer
  refused : (refusal : Refusal) (text : List ℕ) → answer ≡ malformed refusal → StopsWithin (RefusesAt refusal) input text → Case input answer
  cut : (refusal : Refusal) (text : List ℕ) → answer ≡ malformed refusal → length input ≤ words_limit → IsMccCutShort input refusal → SaysLines input text → Case input answer

passed_at : (which : LimitOf) (input text : List ℕ) → StopsAtLine (PassesAtPacket which) input text → Case input (status.Limit which)
passed_at which input text (judged, rest, is, within, halts, ended) =
    passed which refl (record { front = judged; more = rest; words = text; spelled = is; ended = ended; passes = halts }) within

case_of : (input : List ℕ) (answer : Status) (text : List ℕ) → (IsFault answer → ⊥) → ImportMccVerdict input answer text → Case input answer
case_of input status.Ok text plain (within, is) = whole text refl within is
case_of input status.ReadFault text plain is = absurd (plain tt)
case_of input status.WriteFault text plain is = absurd (plain tt)
case_of input (status.Limit limit.Bytes) text plain (inl (long, fine, says)) = past text refl long fine says
case_of input (status.Limit limit.Bytes) text plain (inr stops) = passed_at limit.Bytes input text stops
case_of input (status.Limit limit.Frames) text plain stops = passed_at limit.Frames input text stops
case_of input (status.Malformed (Byte place) why) text plain (inl stops) = refused (record { place = place; why = why }) text refl stops
case_of input (status.Malformed (Byte place) why) text plain (inr (within, short, says)) = cut (record { place = place; why = why }) text refl within short says
case_of input _ text plain is = absurd is

-- in bytes without an offence nothing offends
pub fine_never : (bytes : List ℕ) (refusal : Refusal) → IsWithoutOffence bytes → Offends bytes refusal → ⊥
fine_never bytes refusal fine (inl word) = fine.no_word refusal word
fine_never bytes refusal fine (inr (byte, none)) = let runs = unoffending_runs bytes fine.form in no_byte_offends bytes runs.to refusal runs.is byte

-- what a run refuses is the input's first offence
refused_first : (input : List ℕ) (refusal : Refusal) (text : List ℕ) → StopsWithin (RefusesAt refusal) input text → IsFirstOffence input refusal
refused_first input refusal text (judged, rest, is, within, at) =
    subst (λ (b : List ℕ). IsFirstOffence b refusal) (sym is) (inl (offends_stays judged rest refusal at.offends))

-- past the limit nothing offends before it, and with no line that ends before it a limit is passed
past_unrefused : (input : List ℕ) (refusal : Refusal) (text : List ℕ) → IsWithoutOffence (admitted input) → StopsWithin (RefusesAt refusal) input text → ⊥
past_unrefused input refusal text fine (judged, rest, is, within, at) =
    let (more, front) = admitted_front input judged rest is within in
    fine_never (admitted input) refusal fine (subst (λ (b : List ℕ). Offends b refusal) (sym front) (offends_stays judged more refusal at.offends))

past_unpassed : (input text : List ℕ) (which : LimitOf) → words_limit < length input → SaysLines (admitted input) text → (p : PassesWithin which input)
    → length p.front ≤ words_limit → ⊥
past_unpassed input text which long says p within = elim p.ended [
  | inl ends ↦
      let (more, front) = admitted_front input p.front p.more p.spelled within in
      lines_pass_none (admitted input) p.front more text p.words which says front ends p.passes
  | inr none ↦ omega (arith, long, within, ap length p.spelled ∙ length-append p.front p.more, ap length none)
]

-- with no packet of a file within the limits one is passed
whole_unpassed : (input text : List ℕ) (which : LimitOf) → IsMccImport input text → PassesWithin which input → ⊥
whole_unpassed input text which is p = never_passed is.placed input text p.front p.more p.words which is.file is.within p.spelled p.passes

-- nothing offends in the bytes up to a line with which a limit is passed
front_unoffending : (front rest : List ℕ) (which : LimitOf) (words judged behind : List ℕ) (refusal : Refusal) → PassesAtPacket which front words → judged ++ rest ≡ front ++ behind
    → length judged ≤ length front → Offends judged refusal → ⊥
front_unoffending front rest which words judged behind refusal p spelled within offends =
    let more = front_of judged front rest behind spelled within in
    by_offence (subst (λ (b : List ℕ). Offends b refusal) (sym more.1) (offends_stays judged more.0 refusal offends))
  where
    by_offence : Offends front refusal → ⊥
    by_offence (inl word) = p.no_word refusal word
    by_offence (inr (byte, none)) = no_offence front refusal (p.placed ++ p.last ∷ []) (inl byte) p.file

-- where something offends after such a line, a run stopped at the line
behind_line : (front more words : List ℕ) (which : LimitOf) → EndsLine front ⊎ (more ≡ []) → PassesAtPacket which front words → (judged rest text before : List ℕ) (last : ℕ)
    → judged ≡ before ++ last ∷ [] → SaysLines before text → judged ++ rest ≡ front ++ more → length front < length judged → ⊥
behind_line front more words which (inr none) p judged rest text before last spelled says all below =
    omega (arith, below, ap length all, length-append judged rest, length-append front more, ap length none)
behind_line front more words which (inl ends) p judged rest text before last spelled says all below =
    let size = ap length spelled ∙ length-append before (last ∷ []) in
    let split : before ++ (last ∷ rest) ≡ front ++ more = sym (append_assoc before (last ∷ []) rest) ∙ (ap (λ (b : List ℕ). b ++ rest) (sym spelled) ∙ all) in
    let on = front_of front before more (last ∷ rest) (sym split) (omega (arith, below, size)) in
    lines_pass_none before front on.0 text words which says on.1 ends p

passed_unrefused : (input : List ℕ) (which : LimitOf) (refusal : Refusal) (text : List ℕ) → PassesWithin which input → StopsWithin (RefusesAt refusal) input text → ⊥
passed_unrefused input which refusal text p (judged, rest, is, within, at) =
    let all : judged ++ rest ≡ p.front ++ p.more = sym is ∙ p.spelled in
    elim (cases_lt (length p.front) (length judged)) [
      | inr short ↦ front_unoffending p.front rest which p.words judged p.more refusal p.passes all short at.offends
      | inl below ↦ behind_line p.front p.more p.words which p.ended p.passes judged rest text at.front at.last at.spelled at.says all below
    ]

passed_uncut : (input : List ℕ) (which : LimitOf) (refusal : Refusal) (text : List ℕ) → PassesWithin which input → IsMccCutShort input refusal → SaysLines input text → ⊥
passed_uncut input which refusal text p short says = elim p.ended [
  | inl ends ↦ lines_pass_none input p.front p.more text p.words which says p.spelled ends p.passes
  | inr none ↦
      let all : input ≡ p.front = p.spelled ∙ (ap (λ (b : List ℕ). p.front ++ b) none ∙ append-nil p.front) in
      let front = subst (λ (b : List ℕ). IsMccCutShort b refusal) all short in
      front.early.no_file (p.passes.placed ++ p.passes.last ∷ []) p.passes.file
]

-- so each is the one status
whole_only : (input text : List ℕ) (other : Status) → length input ≤ words_limit → IsMccImport input text → Case input other → other ≡ status.Ok
whole_only input text other within is (whole more at short also) = at
whole_only input text other within is (past more at long fine says) = absurd (omega (arith, within, long))
whole_only input text other within is (passed which at p front) = absurd (whole_unpassed input text which is p)
whole_only input text other within is (refused refusal more at stops) = absurd (no_import_offends input text is refusal (refused_first input refusal more stops))
whole_only input text other within is (cut refusal more at short early says) = absurd (no_import_offends input text is refusal (inr early))

past_only : (input text : List ℕ) (other : Status) → words_limit < length input → IsWithoutOffence (admitted input) → SaysLines (admitted input) text → Case input other
    → other ≡ status.Limit limit.Bytes
past_only input text other long fine says (whole more at short also) = absurd (omega (arith, short, long))
past_only input text other long fine says (past more at also none lines) = at
past_only input text other long fine says (passed which at p front) = absurd (past_unpassed input text which long says p front)
past_only input text other long fine says (refused refusal more at stops) = absurd (past_unrefused input refusal more fine stops)
past_only input text other long fine says (cut refusal more at short early lines) = absurd (omega (arith, short, long))

passed_only : (input : List ℕ) (which : LimitOf) (other : Status) → (p : PassesWithin which input) → length p.front ≤ words_limit → Case input other → other ≡ status.Limit which
passed_only input which other p within (whole text at short is) = absurd (whole_unpassed input text which is p)
passed_only input which other p within (past text at long fine says) = absurd (past_unpassed input text which long says p within)
passed_only input which other p within (passed another at q front) =
    at ∙ ap status.Limit (one_limit q.front q.more p.front p.more q.words p.words another which (sym q.spelled ∙ p.spelled) q.passes p.passes)
passed_only input which other p within (refused refusal text at stops) = absurd (passed_unrefused input which refusal text p stops)
passed_only input which other p within (cut refusal text at short early says) = absurd (passed_uncut input which refusal text p early says)

same_first : (input : List ℕ) (refusal another : Refusal) → IsFirstOffence input refusal → IsFirstOffence input another → malformed refusal ≡ malformed another
same_first input refusal another is also = ap malformed (one_first input refusal another is also)

same_case : (input : List ℕ) (one other : Status) → Case input one → Case input other → one ≡ other
same_case input one other (whole text is within file) next = is ∙ sym (whole_only input text other within file next)
same_case input one other first (whole text at within file) = whole_only input text one within file first ∙ sym at
same_case input one other (past text is long fine says) next = is ∙ sym (past_only input text other long fine says next)
same_case input one other first (past text at long fine says) = past_only input text one long fine says first ∙ sym at
same_case input one other (passed which is p within) next = is ∙ sym (passed_only input which other p within next)
same_case input one other first (passed which at p within) = passed_only input which one p within first ∙ sym at
same_case input one other (refused refusal text is stops) (refused another more at halts) =
    is ∙ same_first input refusal another (refused_first input refusal text stops) (refused_first input another more halts) ∙ sym at
same_case input one other (refused refusal text is stops) (cut another more at short early says) =
    is ∙ same_first input refusal another (refused_first input refusal text stops) (inr early) ∙ sym at
same_case input one other (cut refusal text is within early says) (refused another more at halts) =
    is ∙ same_first input refusal another (inr early) (refused_first input another more halts) ∙ sym at
same_case input one other (cut refusal text is within early says) (cut another more at short also lines) =
    is ∙ same_first input refusal another (inr early) (inr also) ∙ sym at

pub import_mcc_one : IsOne (λ aside. ImportMccVerdict)
import_mcc_one aside input one other text more plain told is at = same_case input one other (case_of input one text plain is) (case_of input other more told at)
