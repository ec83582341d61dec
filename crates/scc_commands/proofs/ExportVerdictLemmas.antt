-- Of words `export` makes one status, and of all words it makes one.
use Rattle.std.proofs.Common.{◌≡◌, ◌∙◌, ◌<◌, ◌≤◌, ◌⊎◌, ◌+◌, ◌++◌, ap, arith, inl, inr, length, refl, subst, suc, sym, ℕ, Bool, List, [], ◌∷◌, false, true}
use Rattle.findings.specs.declared.finding.Finding.{Finding}
use Rattle.words_files.specs.Offences.{IsFileUnder}
use Rattle.command_base.specs.Exact.{HasVerdict, IsFault, IsOne}
use Rattle.words_reading.proofs.EveryLemmas.{HaltsIn, IsSaid, every_words}
use Rattle.words_reading.proofs.WordsLemmas.{said_of}
use Rattle.words_reading.proofs.WalkLemmas.{frames_judged}
use Rattle.words_reading.proofs.HaltLemmas.{frames_one, halted_at, said_fit}
use Rattle.std.proofs.lemmas.Bool.{cases_lt}
use Rattle.std.specs.Prelude.{◌≢◌}
use Rattle.cc_base.specs.declared.rate.Rate.{Rate}
use Rattle.cc_base.specs.declared.rate.Rate.TheVariants as rate
use Rattle.line21_codes.specs.declared.pairs.Pair.{Pair}
use Rattle.cc_base.specs.declared.limit_of.LimitOf.TheVariants as limit
use Rattle.cdp_packets.specs.Packets.{Frame}
use Rattle.command_base.specs.declared.status.Status.{Status}
use Rattle.command_base.specs.declared.status.Status.TheVariants as status
use Rattle.findings.specs.declared.finding.Kind45.{Kind45}
use Rattle.findings.specs.declared.finding.Kind45.TheVariants as kind
use Rattle.time_codes.specs.declared.time_code.TimeCode.{TimeCode}
use Rattle.words_files.specs.FramesOf.{AreFramesOf}
use Rattle.services_files.specs.CaptionChannel.{caption_channel}
use Rattle.scc_commands.specs.Export.{AreExported, ExportVerdict, HasFinding, HasNoFinding, StopsAtFrame, export_file, export_front, exported_from, pairs_of}
use Rattle.scc_commands.specs.Exporting.{ExportEnd, ExportHalts, IsExportOf, first_standing}
use Rattle.scc_commands.proofs.WrittenLemmas.{AreWithinDay, HaveNoFinding, at_number, exported_more, one_pair, passes_day}
use Rattle.scc_commands.specs.Import.{PlacedPairs}

-- within the day, in front and after
within_back : (time : TimeCode) (pairs more : PlacedPairs) → AreWithinDay time (pairs ++ more) → AreWithinDay time more
within_back time [] more within = within
within_back time (placed ∷ pairs) more (fits, within) = within_back time pairs more within

within_front : (time : TimeCode) (pairs more : PlacedPairs) → AreWithinDay time (pairs ++ more) → AreWithinDay time pairs
within_front time [] more within = tt
within_front time (placed ∷ pairs) more (fits, within) = (fits, within_front time pairs more within)

-- so is one frame of them
within_at : (time : TimeCode) (number : ℕ) (frames : List Frame) (last : Frame) (behind : List Frame)
    → AreWithinDay time (exported_from number ((frames ++ last ∷ []) ++ behind)) → AreWithinDay time (at_number (number + length frames) (pairs_of last))
within_at time number [] last behind within =
    subst (λ n. AreWithinDay time (at_number n (pairs_of last))) (none number)
    (within_front time (at_number number (pairs_of last)) (exported_from (suc number) behind) within)
  where
    none : (n : ℕ) → n ≡ n + 0
    none n = omega arith
within_at time number (frame ∷ frames) last behind within =
    let count : suc number + length frames ≡ number + suc (length frames) = omega arith in
    subst (λ n. AreWithinDay time (at_number n (pairs_of last))) count
    (within_at time (suc number) frames last behind
    (within_back time (at_number number (pairs_of frame)) (exported_from (suc number) ((frames ++ last ∷ []) ++ behind)) within))

-- nothing is found at one frame of them
no_finding_at : (frames : List Frame) (last : Frame) (behind : List Frame) → HaveNoFinding ((frames ++ last ∷ []) ++ behind) → HasNoFinding last
no_finding_at [] last behind (none, more) = none
no_finding_at (frame ∷ frames) last behind (none, more) = no_finding_at frames last behind more

pub not_found : (frame : Frame) (found : Kind45) → HasNoFinding frame → HasFinding frame found → ⊥
not_found frame (kind.WrongRate expected seen) none finding = finding.2 none.rate_is
not_found frame (kind.TwoPairs seen) none finding = let one = none.one in let more = finding.2 in omega arith
not_found frame _ none finding = absurd finding

-- frames with one at which an export stops aren't exported
day_ends : (time : TimeCode) (frames more : List Frame) (last : Frame) → StopsAtFrame time (length frames) last (status.Limit limit.Day) → AreExported time ((frames ++ last ∷ []) ++ more) → ⊥
day_ends time frames more last stands good =
    let within = within_at time 0 frames last more good.within_day in
    let one = subst (λ l. AreWithinDay time (at_number (0 + length frames) l)) stands.2 within in
    let isnt : true ≡ false = sym stands.3 ∙ ap (λ n. passes_day (first_standing time) n stands.1) (none (length frames)) ∙ one.0 in cc
  where
    none : (n : ℕ) → n ≡ 0 + n
    none n = omega arith

pub not_exported : (time : TimeCode) (frames more : List Frame) (last : Frame) (stop : Status) → StopsAtFrame time (length frames) last stop
    → AreExported time ((frames ++ last ∷ []) ++ more) → ⊥
not_exported time frames more last (status.Differs finding) stops good = not_found last finding.kind (no_finding_at frames last more good.no_finding) stops.1
not_exported time frames more last (status.Limit limit.Day) stops good = day_ends time frames more last stops good
not_exported time frames more last (status.Limit _) stops good = stops
not_exported time frames more last _ stops good = stops

-- what is found at a frame is one
found_once : (frame : Frame) (one other : Kind45) → HasFinding frame one → HasFinding frame other → one ≡ other
found_once frame (kind.WrongRate a b) (kind.WrongRate c d) has also = rw (has.0, has.1, also.0, also.1) refl
found_once frame (kind.TwoPairs a) (kind.TwoPairs b) has also = ap kind.TwoPairs (has.1 ∙ sym also.1)
found_once frame (kind.WrongRate a b) (kind.TwoPairs c) has also = absurd (has.2 also.0)
found_once frame (kind.TwoPairs a) (kind.WrongRate c d) has also = absurd (also.2 has.0)
found_once frame (kind.WrongRate a b) _ has also = absurd also
found_once frame (kind.TwoPairs a) _ has also = absurd also
found_once frame _ other has also = absurd has

-- so is the status with which an export stops at it
stop_once : (time : TimeCode) (number : ℕ) (frame : Frame) (one other : Status) → StopsAtFrame time number frame one → StopsAtFrame time number frame other → one ≡ other
stop_once time number frame (status.Differs a) (status.Differs b) has also = ap status.Differs (same_finding a b (has.0 ∙ sym also.0) (found_once frame a.kind b.kind has.1 also.1))
  where
    same_finding : (x y : Finding) → x.frame ≡ y.frame → x.kind ≡ y.kind → x ≡ y
    same_finding x y at found = rw (at, found) refl
stop_once time number frame (status.Differs a) (status.Limit limit.Day) has also = absurd (not_found frame a.kind also.0 has.1)
stop_once time number frame (status.Limit limit.Day) (status.Differs b) has also = absurd (not_found frame b.kind has.0 also.1)
stop_once time number frame (status.Limit limit.Day) (status.Limit limit.Day) has also = refl
stop_once time number frame (status.Differs a) (status.Limit _) has also = absurd also
stop_once time number frame (status.Differs a) _ has also = absurd also
stop_once time number frame (status.Limit limit.Day) (status.Limit _) has also = absurd also
stop_once time number frame (status.Limit limit.Day) _ has also = absurd also
stop_once time number frame (status.Limit _) other has also = absurd has
stop_once time number frame _ other has also = absurd has

abbrev Reason : TimeCode → Status → List Frame → Frame → Type 0
Reason time answer frames last = StopsAtFrame time (length frames) last answer

export_ends : (time : TimeCode) (answer : Status) (input text : List ℕ) → ExportEnd time answer input text
    → (answer ≡ status.Ok) × ((frames : List Frame) × IsFileUnder caption_channel frames input × AreExported time frames)
export_ends time status.Ok input text (frames, file, is) = (refl, (frames, file, is.0))
export_ends time _ input text ends = absurd ends

pub export_one : (time : TimeCode) → IsOne (λ aside. ExportVerdict time)
export_one time aside =
    frames_one (AreExported time) (Reason time) (λ answer frames behind last. not_exported time frames behind last answer)
    (λ frames last. stop_once time (length frames) last)
    (ExportEnd time) (IsExportOf time) (ExportHalts time)
    (λ answer input text ends. (export_ends time answer input text ends).1)
    (λ input one other text more first next. (export_ends time one input text first).0 ∙ sym (export_ends time other input more next).0)
    (said_fit (export_front time) (AreExported time))
    (λ answer. halted_at (export_front time) (AreExported time) (Reason time answer))

-- of all words it makes one: a frame after exported ones is exported, or an export stops at it
right_or_wrong : (seen : Rate) → (seen ≡ rate.F2997) ⊎ (seen ≢ rate.F2997)
right_or_wrong rate.F2997 = inl refl
right_or_wrong rate.F23976 = inr (λ is. let clash : rate.F23976 ≡ rate.F2997 = is in cc)
right_or_wrong rate.F24 = inr (λ is. let clash : rate.F24 ≡ rate.F2997 = is in cc)
right_or_wrong rate.F25 = inr (λ is. let clash : rate.F25 ≡ rate.F2997 = is in cc)
right_or_wrong rate.F30 = inr (λ is. let clash : rate.F30 ≡ rate.F2997 = is in cc)
right_or_wrong rate.F50 = inr (λ is. let clash : rate.F50 ≡ rate.F2997 = is in cc)
right_or_wrong rate.F5994 = inr (λ is. let clash : rate.F5994 ≡ rate.F2997 = is in cc)
right_or_wrong rate.F60 = inr (λ is. let clash : rate.F60 ≡ rate.F2997 = is in cc)

abbrev Decided : TimeCode → List Frame → Frame → Type 0
Decided time earlier last = AreExported time (earlier ++ last ∷ []) ⊎ ((answer : Status) × Reason time answer earlier last)

decides : (time : TimeCode) (earlier : List Frame) (last : Frame) → AreExported time earlier
    → AreExported time (earlier ++ last ∷ []) ⊎ ((answer : Status) × Reason time answer earlier last)
decides time earlier last fit = by_rate (right_or_wrong last.rate)
  where
    by_day : HasNoFinding last → (pair : Pair) → pairs_of last ≡ pair ∷ [] → (test : Bool) → passes_day (first_standing time) (length earlier) pair ≡ test → Decided time earlier last
    by_day none pair one true past = inr (status.Limit limit.Day, (none, pair, one, past))
    by_day none pair one false within = inl (exported_more time earlier last (pair ∷ []) one none (within, tt) fit)

    by_pairs : HasNoFinding last → (pairs : List Pair) → pairs_of last ≡ pairs → Decided time earlier last
    by_pairs none [] is = inl (exported_more time earlier last [] is none tt fit)
    by_pairs none (pair ∷ rest) is =
        by_day none pair (one_pair (pairs_of last) pair rest is none.one) (passes_day (first_standing time) (length earlier) pair) refl

    by_count : last.rate ≡ rate.F2997 → (1 < length (pairs_of last)) ⊎ (length (pairs_of last) ≤ 1) → Decided time earlier last
    by_count right (inr few) = by_pairs (record { rate_is = right; one = few }) (pairs_of last) refl
    by_count right (inl many) =
        inr (status.Differs (record { frame = length earlier; kind = kind.TwoPairs (length (pairs_of last)) }), (refl, (right, refl, many)))

    by_rate : (last.rate ≡ rate.F2997) ⊎ (last.rate ≢ rate.F2997) → Decided time earlier last
    by_rate (inl right) = by_count right (cases_lt 1 (length (pairs_of last)))
    by_rate (inr wrong) = inr (status.Differs (record { frame = length earlier; kind = kind.WrongRate rate.F2997 last.rate }), (refl, (refl, refl, wrong)))

-- no fault is a reason
plain_stop : (time : TimeCode) (number : ℕ) (frame : Frame) (answer : Status) → StopsAtFrame time number frame answer → IsFault answer → ⊥
plain_stop time number frame status.ReadFault stops fault = stops
plain_stop time number frame status.WriteFault stops fault = stops
plain_stop time number frame _ stops fault = fault

judges : (time : TimeCode) (bytes : List ℕ) (frames : List Frame) → AreFramesOf caption_channel frames bytes
    → IsSaid (ExportEnd time) (IsExportOf time) (ExportHalts time) bytes ⊎ HaltsIn (ExportEnd time) (IsExportOf time) (ExportHalts time) bytes
judges time bytes frames are =
    elim (frames_judged (AreExported time) (Reason time) (record { no_finding = tt; within_day = tt }) (decides time) (export_front time) bytes frames are) [
      | inl fit ↦ inl (export_front time frames, record { frames = frames; frames_are = are; fit = fit; text_is = refl })
      | inr (answer, text, judged, rest, is, halts) ↦
          inr (answer, text, judged, rest, is, plain_stop time (length halts.frames) halts.last answer halts.is, halts)
    ]

pub every_export : (time : TimeCode) → HasVerdict (λ aside. ExportVerdict time)
every_export time =
    every_words (ExportEnd time) (IsExportOf time) (ExportHalts time) (judges time)
    (λ input text frames file says.
    let (others, another, both) = said_of (export_front time) (AreExported time) frames input text file says in
    (status.Ok, export_file time others, λ fault. fault, (others, another, (both.0, refl))))
