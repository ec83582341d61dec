-- Where a limit is passed at a packet, it is that one, and no bytes with it are an import.
use Rattle.std.proofs.Common.{◌≡◌, ℕ, ◌≤◌, ◌⊎◌, inl, inr, ◌==◌, not, List, [], ◌∷◌, ◌++◌, append_assoc, length, length-append, Result, Ok, refl, ap, sym, ◌∙◌, subst, arith}
use Rattle.std.proofs.lemmas.Bool.{and_parts, cases_lt}
use Rattle.std.specs.List.{list_all}
use Rattle.cc_base.specs.declared.limit_of.LimitOf.{LimitOf}
use Rattle.cc_base.specs.declared.limit_of.LimitOf.TheVariants as limit
use Rattle.cc_base.specs.declared.refusal.Refusal.{Refusal}
use Rattle.mcc_files.proofs.FileReads.{file_is_read}
use Rattle.mcc_files.specs.Lines.{HaveNoLf}
use Rattle.mcc_files.specs.MccFiles.{IsMccFile, TimedPackets}
use Rattle.mcc_files.specs.Reading.{read_file}
use Rattle.mcc_files.specs.Payloads.{Payload}
use Rattle.mcc_words.specs.MccWords.{AreMccWords}
use Rattle.scc_files.specs.Offences.{EndsLine}
use Rattle.words_files.proofs.WordLemmas.{front_of}
use Rattle.words_reading.specs.Causes.{words_limit}
use Rattle.mcc_commands.specs.Imported.{AreEndedLines, AreWithinImport, PassesAtPacket, PassesWith, SaysLines, frames_put, most_imported_frames}
use Rattle.mcc_commands.proofs.ImportedFrontLemmas.{packets_go_on}
use Rattle.mcc_commands.proofs.ImportedWordsLemmas.{frames_fewer, one_words, same_fronts, words_go_on}
use Rattle.mcc_commands.specs.Imports.{ImportsAreOne}

-- no limit is passed by what is within the limits
not_passed : (which : LimitOf) (frames : ℕ) (words : List ℕ) → PassesWith which frames words → frames ≤ most_imported_frames → length words ≤ words_limit → ⊥
not_passed limit.Bytes frames words passes few short = omega (arith, passes, short)
not_passed limit.Frames frames words passes few short = let more = passes.0 in omega (arith, more, few)
not_passed limit.Cues frames words passes few short = passes
not_passed limit.Packet frames words passes few short = passes
not_passed limit.Day frames words passes few short = passes

-- nor by packets that begin packets within them
pub none_passed : (placed rest : TimedPackets) (which : LimitOf) (longer words : List ℕ) → PassesWith which (frames_put placed) longer → AreMccWords placed longer
    → AreWithinImport (placed ++ rest) words → ⊥
none_passed placed rest which longer words passes are within =
    let more = words_go_on placed rest longer words are within.are in
    let size = ap length more.1 ∙ length-append longer more.0 in
    let short = within.bytes in
    let few = within.frames in
    let fewer = frames_fewer placed rest in
    not_passed which (frames_put placed) longer passes (omega (arith, few, fewer)) (omega (arith, size, short))

-- with no packet of a file within the limits one is passed
pub never_passed : (placed : TimedPackets) (file words front more other : List ℕ) (which : LimitOf) → IsMccFile placed file → AreWithinImport placed words → file ≡ front ++ more
    → PassesAtPacket which front other → ⊥
never_passed placed file words front more other which is within spelled p =
    let all = p.placed ++ p.last ∷ [] in
    let on = packets_go_on all placed front more p.file (subst (λ (b : List ℕ). IsMccFile placed b) spelled is) in
    none_passed all on.0 which p.longer words p.passes p.are (subst (λ (ps : TimedPackets). AreWithinImport ps words) on.1 within)

-- bytes have one import
one_placed : (bytes : List ℕ) (one other : TimedPackets) → IsMccFile one bytes → IsMccFile other bytes → one ≡ other
one_placed bytes one other is also = by_result (read_file bytes) (file_is_read one bytes is) (file_is_read other bytes also)
  where
    by_result : (result : Result TimedPackets Refusal) → result ≡ Ok one → result ≡ Ok other → one ≡ other
    by_result result is also = cc

pub one_import : ImportsAreOne
one_import bytes one other is also =
    one_words also.placed one other (subst (λ (ps : TimedPackets). AreMccWords ps one) (one_placed bytes is.placed also.placed is.file also.file) is.within.are) also.within.are

-- a limit that is passed at a packet is one
one_kind : (which other : LimitOf) (frames : ℕ) (words : List ℕ) → PassesWith which frames words → PassesWith other frames words → which ≡ other
one_kind limit.Bytes limit.Bytes frames words passes also = refl
one_kind limit.Bytes limit.Frames frames words passes also = let short = also.1 in absurd (omega (arith, passes, short))
one_kind limit.Frames limit.Bytes frames words passes also = let short = passes.1 in absurd (omega (arith, also, short))
one_kind limit.Frames limit.Frames frames words passes also = refl
one_kind limit.Cues other frames words passes also = absurd passes
one_kind limit.Packet other frames words passes also = absurd passes
one_kind limit.Day other frames words passes also = absurd passes
one_kind which limit.Cues frames words passes also = absurd also
one_kind which limit.Packet frames words passes also = absurd also
one_kind which limit.Day frames words passes also = absurd also

-- packets with one more that begin packets with one more: they are the same, or begin those before the last one
last_or_before : (front rest packets : TimedPackets) (one last : ℕ × Payload) → (front ++ one ∷ []) ++ rest ≡ packets ++ last ∷ []
    → (front ++ one ∷ [] ≡ packets ++ last ∷ []) ⊎ ((more : TimedPackets) × (packets ≡ (front ++ one ∷ []) ++ more))
last_or_before [] rest [] one last is = let none : rest ≡ [] = cc in inl (ap (λ (r : TimedPackets). one ∷ r) (sym none) ∙ is)
last_or_before [] rest (p ∷ packets) one last is = let first : p ≡ one = cc in inr (packets, ap (λ (x : ℕ × Payload). x ∷ packets) first)
last_or_before (f ∷ front) rest [] one last is =
    let none : (front ++ one ∷ []) ++ rest ≡ [] = cc in
    absurd (omega (arith, ap length none, length-append (front ++ one ∷ []) rest, length-append front (one ∷ [])))
last_or_before (f ∷ front) rest (p ∷ packets) one last is =
    let first : f ≡ p = cc in
    let tails : (front ++ one ∷ []) ++ rest ≡ packets ++ last ∷ [] = cc in
    elim (last_or_before front rest packets one last tails) [
      | inl same ↦ inl (ap (λ (x : ℕ × Payload). x ∷ (front ++ one ∷ [])) first ∙ ap (λ (l : TimedPackets). p ∷ l) same)
      | inr (more, same) ↦ inr (more, ap (λ (l : TimedPackets). p ∷ l) same ∙ ap (λ (x : ℕ × Payload). x ∷ ((front ++ one ∷ []) ++ more)) (sym first))
    ]

limit_within : (front more back words other : List ℕ) (which another : LimitOf) → back ≡ front ++ more → PassesAtPacket which front words → PassesAtPacket another back other → which ≡ another
limit_within front more back words other which another spelled p q =
    let all = p.placed ++ p.last ∷ [] in
    let both = q.placed ++ q.last ∷ [] in
    let on = packets_go_on all both front more p.file (subst (λ (b : List ℕ). IsMccFile both b) spelled q.file) in
    elim (last_or_before p.placed on.0 q.placed p.last q.last (sym on.1)) [
      | inl same ↦
          let longer : p.longer ≡ q.longer = one_words both p.longer q.longer (subst (λ (ps : TimedPackets). AreMccWords ps p.longer) same p.are) q.are in
          one_kind which another (frames_put both) q.longer
          (subst (λ (w : List ℕ). PassesWith which (frames_put both) w) longer (subst (λ (ps : TimedPackets). PassesWith which (frames_put ps) p.longer) same p.passes)) q.passes
      | inr (rest, same) ↦ absurd (none_passed all rest which p.longer other p.passes p.are (subst (λ (ps : TimedPackets). AreWithinImport ps other) same q.within))
    ]

pub one_limit : (front more back rest words other : List ℕ) (which another : LimitOf) → front ++ more ≡ back ++ rest → PassesAtPacket which front words → PassesAtPacket another back other
    → which ≡ another
one_limit front more back rest words other which another spelled p q = elim (cases_lt (length back) (length front)) [
  | inl below ↦
      let behind = front_of back front rest more (sym spelled) (omega (arith, below)) in
      sym (limit_within back behind.0 front other words another which behind.1 q p)
  | inr within ↦
      let behind = front_of front back more rest spelled within in
      limit_within front behind.0 back words other which another behind.1 p q
]

-- what ended in bytes goes on after a line that ended in them
no_lf_last : (front : List ℕ) (rest : List ℕ) → HaveNoLf (front ++ 10 ∷ rest) → ⊥
no_lf_last [] rest none = cc
no_lf_last (byte ∷ front) rest none = no_lf_last front rest (and_parts (not (byte == 10)) (list_all (λ (b : ℕ). not (b == 10)) (front ++ 10 ∷ rest)) none).1

pub line_in_lines : (front more lines rest : List ℕ) → EndsLine front → front ++ more ≡ lines ++ rest → HaveNoLf rest → (behind : List ℕ) × (lines ≡ front ++ behind)
line_in_lines front more lines rest (start, is) spelled open_line = elim (cases_lt (length lines) (length front)) [
  | inl below ↦
      let long = ap length is ∙ length-append start (10 ∷ []) in
      let split : start ++ (10 ∷ more) ≡ lines ++ rest = sym (append_assoc start (10 ∷ []) more) ∙ (ap (λ (b : List ℕ). b ++ more) (sym is) ∙ spelled) in
      let behind = front_of lines start rest (10 ∷ more) (sym split) (omega (arith, below, long)) in
      let parts : lines ++ (behind.0 ++ 10 ∷ more) ≡ lines ++ rest = sym (append_assoc lines behind.0 (10 ∷ more)) ∙ (ap (λ (b : List ℕ). b ++ (10 ∷ more)) (sym behind.1) ∙ split) in
      let rests : behind.0 ++ 10 ∷ more ≡ rest = (same_fronts lines (behind.0 ++ 10 ∷ more) lines rest refl parts).1 in
      absurd (no_lf_last behind.0 more (subst (λ (r : List ℕ). HaveNoLf r) (sym rests) open_line))
  | inr within ↦ front_of front lines more rest spelled within
]

-- so no limit was passed there where the words of the lines that ended are within the limits
pub lines_pass_none : (bytes front more words other : List ℕ) (which : LimitOf) → SaysLines bytes words → bytes ≡ front ++ more → EndsLine front → PassesAtPacket which front other → ⊥
lines_pass_none bytes front more words other which says spelled ends p =
    let behind = line_in_lines front more says.lines says.rest ends (sym spelled ∙ says.spelled) says.open_line in
    by_lines says.placed says.lines says.ended behind.0 behind.1 says.within
  where
    by_lines : (placed : TimedPackets) (lines : List ℕ) → AreEndedLines placed lines → (rest : List ℕ) → lines ≡ front ++ rest → AreWithinImport placed words → ⊥
    by_lines placed lines (inl (none, nothing)) rest split within =
        let (start, is) = ends in
        omega (arith, ap length none, ap length split, length-append front rest, ap length is, length-append start (10 ∷ []))
    by_lines placed lines (inr (last, file)) rest split within = never_passed placed lines words front rest other which file within split p
