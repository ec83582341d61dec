-- Each refusal stands at its place.
use Rattle.std.proofs.Common.{◌≡◌, ℕ, ◌+◌, ◌-◌, ◌/◌, ◌%◌, ◌<◌, ◌≤◌, ◌==◌, ◌||◌, ◌⊎◌, inl, inr, nat_lt, if◌then◌else◌, Bool, true, false, Option, Some, None, List, [], ◌∷◌, ◌++◌, drop, length, refl, sym, ap, ◌∙◌, subst, append-nil, lit<, arith}
use Rattle.std.proofs.lemmas.Bool.Decides.{nat_tests}
use Rattle.std.specs.List.{concat}
use Rattle.cc_base.specs.declared.rate.Rate.{Rate}
use Rattle.cc_base.specs.declared.step.Step.{Step}
use Rattle.cc_base.specs.declared.step.Step.TheVariants.{Nothing, One, Refuse}
use Rattle.cc_base.specs.declared.why.Why.{Why}
use Rattle.cc_base.specs.declared.why.Why.TheVariants as why
use Rattle.cc_base.specs.Rate.{rate_of}
use Rattle.cc_base.specs.Steps.{IsTaken}
use Rattle.cc_base.specs.Syntax.{AllRead, open_behind}
use Rattle.cdp_packets.specs.declared.parts.CdpPart.{CdpPart}
use Rattle.cdp_packets.specs.declared.parts.CdpPart.TheVariants as part
use Rattle.cdp_packets.specs.Reading.{cdp_syntax, IsPacketLength, count_fits, id_fits, judge_behind, judge_cdp, judge_footer, judge_rate, judge_section, nothing_open}
use Rattle.cdp_packets.specs.Refusals.{EndWithSections, StandsAt}
use Rattle.cdp_packets.specs.Sections.{IsSectionList}
use Rattle.cdp_packets.proofs.BegunLemmas.{CanGoOn, InFooter, InSections, IsBegun, footer_long, id_fits-is_id, none_open, test-same}
use Rattle.cdp_packets.proofs.ReadLemmas.{body_taken}
use Rattle.cdp_packets.proofs.SoundLemmas.{bytes_behind-is, read_open}

-- the reason of a test that fails
refused-if : (test : Bool) (step : Step CdpPart) (fails reason : Why) → IsTaken step → (if test then step else Refuse fails) ≡ Refuse reason → fails ≡ reason
refused-if true step fails reason taken is = absurd (subst IsTaken is taken)
refused-if false step fails reason taken is = cc

-- a reason that is this one
stands : (size : ℕ) (bytes : List ℕ) (fails reason : Why) → fails ≡ reason → StandsAt size bytes fails → StandsAt size bytes reason
stands size bytes fails reason same at = subst (StandsAt size bytes) same at

rate_refused : (code : Option Rate) (reason : Why) → judge_rate code ≡ Refuse reason → why.Rate ≡ reason
rate_refused None reason is = cc
rate_refused (Some rate) reason is = absurd cc

-- bytes that follow whole sections
behind_sections : (bytes body section : List ℕ) (size : ℕ) → drop 7 bytes ≡ body → (begun : InSections size body section) → section ≡ [] → IsSectionList (drop 7 bytes)
behind_sections bytes body section size same begun empty = record {
  cut = begun.cut;
  are = begun.are;
  joined = sym (same ∙ begun.spelled ∙ ap (λ s. concat begun.cut ++ s) empty ∙ append-nil (concat begun.cut));
}

-- a byte of the sections
section_stands : (size : ℕ) (bytes body section triplet : List ℕ) (left byte : ℕ) (reason : Why) → 7 ≤ length bytes → drop 7 bytes ≡ body → length bytes + 4 < size
    → InSections size body section → judge_section left section triplet byte ≡ Refuse reason → StandsAt size bytes reason
section_stands size bytes body [] triplet left byte reason seven same room begun is =
    stands size bytes why.Section reason (refused-if (id_fits left byte) (One (part.SectionByte byte)) why.Section reason tt is)
    ((seven, behind_sections bytes body [] size same begun refl), omega arith)
section_stands size bytes body (id ∷ []) triplet left byte reason seven same room begun is =
    stands size bytes why.Count reason (refused-if (id == 0x71 || count_fits left id byte) (One (part.SectionByte byte)) why.Count reason tt is) (
      record {
        seven = seven;
        sections = concat begun.cut;
        are = record { cut = begun.cut; are = begun.are; joined = refl };
        id = id;
        id_is = id_fits-is_id (begun.left + 1) id begun.can;
        spelled = same ∙ begun.spelled;
      },
      room,
    )
section_stands size bytes body (id ∷ second ∷ rest) triplet left byte reason seven same room begun is =
    absurd (subst IsTaken is (body_taken (id == 0x72) triplet byte))

-- one of two steps that is a refusal
either : (reason : Why) (goal : Type 0) (test : Bool) (one two : Step CdpPart) → (test ≡ true → one ≡ Refuse reason → goal) → (two ≡ Refuse reason → goal)
    → (if test then one else two) ≡ Refuse reason → goal
either reason goal true one two taken other is = taken refl is
either reason goal false one two taken other is = other is

-- a byte of the footer, where the id follows whole sections
footer_stands : (size : ℕ) (bytes : List ℕ) (left high low total byte : ℕ) (reason : Why) → length bytes + left ≡ size → (left ≡ 4 → EndWithSections bytes)
    → judge_footer left high low total byte ≡ Refuse reason → StandsAt size bytes reason
footer_stands size bytes left high low total byte reason whole behind is =
    let goal = StandsAt size bytes reason in
    let last : Step CdpPart = if (total + byte) % 256 == 0 then One part.End else Refuse why.Sum in
    let one : Step CdpPart = if left == 1 then last else Nothing in
    let second : Step CdpPart = if byte == low then Nothing else Refuse why.Counter in
    let two : Step CdpPart = if left == 2 then second else one in
    let first : Step CdpPart = if byte == high then Nothing else Refuse why.Counter in
    let three : Step CdpPart = if left == 3 then first else two in
    let id : Step CdpPart = if byte == 0x74 then Nothing else Refuse why.Section in
    either reason goal (left == 4) id three
    (λ test refused.
    let left_is = test-same left 4 test in
    stands size bytes why.Section reason (refused-if (byte == 0x74) Nothing why.Section reason tt refused) (behind left_is, omega arith))
    (either reason goal (left == 3) first two
    (λ test refused.
    let left_is = test-same left 3 test in
    stands size bytes why.Counter reason (refused-if (byte == high) Nothing why.Counter reason tt refused) (inl (omega arith)))
    (either reason goal (left == 2) second one
    (λ test refused.
    let left_is = test-same left 2 test in
    stands size bytes why.Counter reason (refused-if (byte == low) Nothing why.Counter reason tt refused) (inr (omega arith)))
    (either reason goal (left == 1) last Nothing
    (λ test refused.
    let left_is = test-same left 1 test in
    stands size bytes why.Sum reason (refused-if ((total + byte) % 256 == 0) (One part.End) why.Sum reason tt refused) (omega arith))
    (λ refused. absurd cc)))) is

-- no section is open where the footer begins
sections_end : (size high low : ℕ) (bytes body section : List ℕ) → 7 ≤ length bytes → drop 7 bytes ≡ body → length body + 11 ≡ size
    → InSections size body section ⊎ InFooter size high low body → EndWithSections bytes
sections_end size high low bytes body section seven same whole (inl begun) =
    let none_left : begun.left ≡ 0 = omega (arith, begun.long) in
    (seven, behind_sections bytes body section size same begun (none_open section (subst (λ n. CanGoOn n section) none_left begun.can)))
sections_end size high low bytes body section seven same whole (inr footer) = absurd (omega (arith, footer_long size high low body footer))

-- a byte after the first seven
body_stands : (size high low total : ℕ) (bytes body section triplet : List ℕ) (byte : ℕ) (reason : Why) → length bytes ≡ length body + 7 → drop 7 bytes ≡ body
    → length bytes ≤ size → InSections size body section ⊎ InFooter size high low body
    → (if nat_lt (length body + 11) size then judge_section (size - 11 - length body) section triplet byte
    else judge_footer (size - 7 - length body) high low total byte) ≡ Refuse reason → StandsAt size bytes reason
body_stands size high low total bytes body section triplet byte reason long same below begun is =
    either reason (StandsAt size bytes reason) (nat_lt (length body + 11) size)
    (judge_section (size - 11 - length body) section triplet byte) (judge_footer (size - 7 - length body) high low total byte)
    (λ more refused.
    let room : length body + 11 < size = grind (arith, nat_tests) in
    elim begun [
      | inl sections ↦ section_stands size bytes body section triplet (size - 11 - length body) byte reason (omega arith) same (omega arith) sections refused
      | inr footer ↦ absurd (omega (arith, footer_long size high low body footer))
    ])
    (footer_stands size bytes (size - 7 - length body) high low total byte reason (omega arith)
    (λ four. sections_end size high low bytes body section (omega arith) same (omega arith) begun)) is

refused_stands : (size : ℕ) (bytes : List ℕ) (total : ℕ) (section triplet : List ℕ) (byte : ℕ) (reason : Why) → length bytes ≤ size → IsBegun size bytes section
    → judge_behind size bytes total section triplet byte ≡ Refuse reason → StandsAt size bytes reason
refused_stands size [] total section triplet byte reason below begun is =
    stands size [] why.Identifier reason (refused-if (byte == 0x96) Nothing why.Identifier reason tt is) (lit< tt)
refused_stands size (a ∷ []) total section triplet byte reason below begun is =
    stands size (a ∷ []) why.Identifier reason (refused-if (byte == 0x69) Nothing why.Identifier reason tt is) (lit< tt)
refused_stands size (a ∷ b ∷ []) total section triplet byte reason below begun is =
    stands size (a ∷ b ∷ []) why.Length reason (refused-if (byte == size) Nothing why.Length reason tt is) refl
refused_stands size (a ∷ b ∷ c ∷ []) total section triplet byte reason below begun is =
    stands size (a ∷ b ∷ c ∷ []) why.Rate reason (rate_refused (rate_of (byte / 16)) reason is) refl
refused_stands size (_ ∷ _ ∷ _ ∷ _ ∷ []) total section triplet byte reason below begun is = absurd cc
refused_stands size (_ ∷ _ ∷ _ ∷ _ ∷ _ ∷ []) total section triplet byte reason below begun is = absurd cc
refused_stands size (_ ∷ _ ∷ _ ∷ _ ∷ _ ∷ _ ∷ []) total section triplet byte reason below begun is = absurd cc
refused_stands size (mark ∷ second ∷ long ∷ rate ∷ flags ∷ high ∷ low ∷ body) total section triplet byte reason below begun is =
    body_stands size high low total (mark ∷ second ∷ long ∷ rate ∷ flags ∷ high ∷ low ∷ body) body section triplet byte reason (omega arith) refl below begun.1 is

-- after bytes that are read
pub refusal_stands : (size : ℕ) (bytes : List ℕ) (byte : ℕ) (reason : Why) → IsPacketLength size → length bytes ≤ size → AllRead (cdp_syntax size) bytes
    → judge_cdp size (open_behind (cdp_syntax size) bytes) byte ≡ Refuse reason → StandsAt size bytes reason
refusal_stands size bytes byte reason can below read is =
    let behind = open_behind (cdp_syntax size) bytes in
    let open_is = read_open size bytes can read in
    let kept : behind.bytes ≡ bytes = bytes_behind-is size bytes nothing_open (omega (arith, below)) in
    subst (λ bs. StandsAt size bs reason) kept
    (refused_stands size behind.bytes behind.total behind.section behind.triplet byte reason open_is.below open_is.begun is)
