-- Every list is accepted or refused, never both, and refused with one status.
use Rattle.std.proofs.Common.{◌≡◌, ◌∙◌, ◌<◌, ◌≤◌, ◌⊎◌, ℕ, List, length, Result, Ok, Err, refl, sym, subst, ap, arith, inl, inr}
use Rattle.std.proofs.lemmas.Bool.{cases_lt}
use Rattle.cc_base.specs.declared.limit_of.LimitOf.TheVariants as limit
use Rattle.cue_lists.specs.Listing.{Listing}
use Rattle.cue_lists.specs.Reading.{read_list}
use Rattle.cue_lists.specs.Records.{records_of}
use Rattle.cue_lists.specs.Rules.{HasFault, IsRuled}
use Rattle.cue_lists.specs.Spelling.{SpellsList}
use Rattle.cue_lists.specs.declared.fault.CueFault.{CueFault}
use Rattle.cue_lists.specs.declared.fault.CueFault.TheVariants as fault
use Rattle.cue_lists.specs.declared.rules.RuleFault.{RuleFault}
use Rattle.cue_lists.proofs.Complete.{list_of-spelled}
use Rattle.cue_lists.proofs.Faults.{answered_fault, answered_list}
use Rattle.cue_lists.proofs.RuleLists.{one_fault, ruled_has_none}
use Rattle.cue_lists.proofs.RulesDecided.{ruled_or_broken}
use Rattle.cue_lists.proofs.Unique.{first_fault_read}
use Rattle.frame_carrier.specs.Planned.{IsFirstWithoutRoom, IsListPlaced, Placement}
use Rattle.frame_carrier.proofs.LanesLemmas.{first_without_room, one_placement, placed_has_room}
use Rattle.frame_carrier.proofs.RoomDecided.{list_decided}
use Rattle.cc_base.specs.Streams.{whole_limit}
use Rattle.cue_list_commands.specs.Accepted.{BreaksRule, IsAccepted, IsFaulty, IsGoodList, IsRefused, IsRefusedList, SpellGoodList}
use Rattle.cue_list_commands.specs.Reads.{form_status}
use Rattle.cue_list_commands.specs.Judged.{AcceptanceIsOne, AcceptedIsNotRefused, EveryListIsJudged, RefusalIsOne}
use Rattle.command_base.specs.declared.status.Place.TheVariants.{Field}
use Rattle.command_base.specs.declared.status.Status.{Status}
use Rattle.command_base.specs.declared.status.Status.TheVariants as status
use Rattle.command_base.proofs.OneLemmas.{made_one}
use Rattle.command_base.specs.Exact.{IsOne}
use Rattle.cue_list_commands.specs.ListVerdict.{BuildVerdict, CuesVerdict, IsReadAgain, PairsVerdict}
use Rattle.cue_list_commands.specs.Output.{IsPlacedAs, IsSoundPairs, IsSoundWords, PlacedList, framing_of, lines_of}
use Rattle.cue_lists.specs.Printing.{list_bytes}
use Rattle.frame_carrier.specs.Framing.{words_of}
use Rattle.cue_lists.proofs.ListLimits.{no_want_of_memory}
use Rattle.cue_list_commands.proofs.Refusals.{form_refused, ok_is_no_fault, refused_list}

-- bytes that spell a list are read as it
spelled_read : (bytes : List ℕ) (list : Listing) → SpellsList (records_of bytes) list → read_list bytes ≡ Ok list
spelled_read bytes list spelled = list_of-spelled (records_of bytes) list spelled

-- so they have no fault
spelled_faultless : (bytes : List ℕ) (list : Listing) (f : CueFault) → SpellsList (records_of bytes) list → IsFaulty bytes f → ⊥
spelled_faultless bytes list f spelled faulty =
    ok_is_no_fault list f (sym (spelled_read bytes list spelled) ∙ first_fault_read (records_of bytes) f faulty.first)

-- and they spell one list
spelled_one : (bytes : List ℕ) (a b : Listing) → SpellsList (records_of bytes) a → SpellsList (records_of bytes) b → a ≡ b
spelled_one bytes a b spelled_a spelled_b =
    let one : read_list bytes ≡ Ok a = spelled_read bytes a spelled_a in
    let two : read_list bytes ≡ Ok b = spelled_read bytes b spelled_b in
    cc

pub good_once : (bytes : List ℕ) (a b : Listing) → IsGoodList bytes a → IsGoodList bytes b → a ≡ b
good_once bytes a b good_a good_b = spelled_one bytes a b good_a.spelled good_b.spelled

-- a list that keeps the rules breaks none
spelled_unbroken : (bytes : List ℕ) (list : Listing) (fault : RuleFault) → SpellsList (records_of bytes) list → IsRuled list → BreaksRule bytes fault → ⊥
spelled_unbroken bytes list fault spelled ruled breaks =
    let same = spelled_one bytes breaks.list list breaks.spelled spelled in
    ruled_has_none list fault spelled.formed ruled (subst (λ l. HasFault l fault) same breaks.broken)

-- a list that keeps the rules is refused with no status where room isn't asked
pub good_not_refused : (bytes : List ℕ) (list : Listing) (answer : Status) → IsGoodList bytes list → IsRefusedList bytes answer → ⊥
good_not_refused bytes list (status.Limit limit.Bytes) good long = let within = good.within in omega arith
good_not_refused bytes list (status.Limit limit.Frames) good faulty =
    spelled_faultless bytes list (fault.Limit limit.Frames) good.spelled faulty
good_not_refused bytes list (status.Limit limit.Cues) good faulty =
    spelled_faultless bytes list (fault.Limit limit.Cues) good.spelled faulty
good_not_refused bytes list (status.Malformed (Field rec field) why) good faulty =
    spelled_faultless bytes list (fault.Malformed rec field why) good.spelled faulty
good_not_refused bytes list (status.Rule fault) good breaks =
    spelled_unbroken bytes list fault good.spelled good.ruled breaks
good_not_refused bytes list _ good refused = refused

-- an accepted list is refused with no status
pub accepted_not_refused : AcceptedIsNotRefused
accepted_not_refused bytes list placed (status.NoRoom cue) accepted lacks =
    let same = good_once bytes lacks.list list lacks.good accepted.good in
    placed_has_room list placed cue accepted.placement (subst (λ l. IsFirstWithoutRoom l cue) same lacks.holds)
accepted_not_refused bytes list placed answer accepted refused =
    good_not_refused bytes list answer accepted.good refused

-- bytes are accepted as one list, with one placement
pub accepted_once : AcceptanceIsOne
accepted_once bytes one other placed moved first second =
    let same = good_once bytes other one second.good first.good in
    (sym same, one_placement one placed moved first.placement (subst (λ l. IsListPlaced l moved) same second.placement))

-- why a list is refused
abbrev Cause : List ℕ → Status → Type 0
Cause bytes answer = ((whole_limit < length bytes) × (answer ≡ status.Limit limit.Bytes))
    ⊎ ((f : CueFault) × IsFaulty bytes f × (answer ≡ form_status f))
    ⊎ ((fault : RuleFault) × BreaksRule bytes fault × (answer ≡ status.Rule fault))
    ⊎ ((cue : ℕ) × SpellGoodList bytes (λ list. IsFirstWithoutRoom list cue) × (answer ≡ status.NoRoom cue))

cause_of : (bytes : List ℕ) (answer : Status) → IsRefused bytes answer → Cause bytes answer
cause_of bytes (status.Limit limit.Bytes) long = inl (long, refl)
cause_of bytes (status.Limit limit.Frames) faulty = inr (inl (fault.Limit limit.Frames, faulty, refl))
cause_of bytes (status.Limit limit.Cues) faulty = inr (inl (fault.Limit limit.Cues, faulty, refl))
cause_of bytes (status.Malformed (Field rec field) why) faulty = inr (inl (fault.Malformed rec field why, faulty, refl))
cause_of bytes (status.Rule fault) breaks = inr (inr (inl (fault, breaks, refl)))
cause_of bytes (status.NoRoom cue) lacks = inr (inr (inr (cue, lacks, refl)))
cause_of bytes _ refused = absurd refused

-- a list has one fault, one broken rule, one first cue without a placement
one_form_fault : (bytes : List ℕ) (a b : CueFault) → IsFaulty bytes a → IsFaulty bytes b → a ≡ b
one_form_fault bytes a b first second =
    let one = first_fault_read (records_of bytes) a first.first in
    let two = first_fault_read (records_of bytes) b second.first in
    cc

one_rule_fault : (bytes : List ℕ) (a b : RuleFault) → BreaksRule bytes a → BreaksRule bytes b → a ≡ b
one_rule_fault bytes a b first second =
    let same = spelled_one bytes second.list first.list second.spelled first.spelled in
    one_fault first.list a b first.broken (subst (λ l. HasFault l b) same second.broken)

one_cue : (bytes : List ℕ) (a b : ℕ) → SpellGoodList bytes (λ list. IsFirstWithoutRoom list a) → SpellGoodList bytes (λ list. IsFirstWithoutRoom list b) → a ≡ b
one_cue bytes a b first second =
    let same = good_once bytes second.list first.list second.good first.good in
    first_without_room first.list a b first.holds (subst (λ l. IsFirstWithoutRoom l b) same second.holds)

-- two causes are one
same_status : (bytes : List ℕ) (one other : Status) → Cause bytes one → Cause bytes other → one ≡ other
same_status bytes one other (inl (long, is)) (inl (too_long, at)) = is ∙ sym at
same_status bytes one other (inl (long, is)) (inr (inl (f, faulty, at))) = absurd (let within = faulty.within in omega arith)
same_status bytes one other (inl (long, is)) (inr (inr (inl (fault, breaks, at)))) = absurd (let within = breaks.within in omega arith)
same_status bytes one other (inl (long, is)) (inr (inr (inr (cue, lacks, at)))) = absurd (let within = lacks.good.within in omega arith)
same_status bytes one other (inr (inl (f, faulty, is))) (inl (long, at)) = absurd (let within = faulty.within in omega arith)
same_status bytes one other (inr (inl (f, faulty, is))) (inr (inl (g, other_faulty, at))) =
    is ∙ ap form_status (one_form_fault bytes f g faulty other_faulty) ∙ sym at
same_status bytes one other (inr (inl (f, faulty, is))) (inr (inr (inl (fault, breaks, at)))) =
    absurd (spelled_faultless bytes breaks.list f breaks.spelled faulty)
same_status bytes one other (inr (inl (f, faulty, is))) (inr (inr (inr (cue, lacks, at)))) =
    absurd (spelled_faultless bytes lacks.list f lacks.good.spelled faulty)
same_status bytes one other (inr (inr (inl (fault, breaks, is)))) (inl (long, at)) = absurd (let within = breaks.within in omega arith)
same_status bytes one other (inr (inr (inl (fault, breaks, is)))) (inr (inl (f, faulty, at))) =
    absurd (spelled_faultless bytes breaks.list f breaks.spelled faulty)
same_status bytes one other (inr (inr (inl (fault, breaks, is)))) (inr (inr (inl (other_fault, other_breaks, at)))) =
    is ∙ ap status.Rule (one_rule_fault bytes fault other_fault breaks other_breaks) ∙ sym at
same_status bytes one other (inr (inr (inl (fault, breaks, is)))) (inr (inr (inr (cue, lacks, at)))) =
    absurd (spelled_unbroken bytes lacks.list fault lacks.good.spelled lacks.good.ruled breaks)
same_status bytes one other (inr (inr (inr (cue, lacks, is)))) (inl (long, at)) = absurd (let within = lacks.good.within in omega arith)
same_status bytes one other (inr (inr (inr (cue, lacks, is)))) (inr (inl (f, faulty, at))) =
    absurd (spelled_faultless bytes lacks.list f lacks.good.spelled faulty)
same_status bytes one other (inr (inr (inr (cue, lacks, is)))) (inr (inr (inl (fault, breaks, at)))) =
    absurd (spelled_unbroken bytes lacks.list fault lacks.good.spelled lacks.good.ruled breaks)
same_status bytes one other (inr (inr (inr (cue, lacks, is)))) (inr (inr (inr (more, other_lacks, at)))) =
    is ∙ ap status.NoRoom (one_cue bytes cue more lacks other_lacks) ∙ sym at

-- a list that is refused is refused with one status
pub refused_once : RefusalIsOne
refused_once bytes one other refused again = same_status bytes one other (cause_of bytes one refused) (cause_of bytes other again)

-- so it is where room isn't asked
pub list_refused_once : (bytes : List ℕ) (one other : Status) → IsRefusedList bytes one → IsRefusedList bytes other → one ≡ other
list_refused_once bytes one other refused again =
    refused_once bytes one other (refused_list bytes one refused) (refused_list bytes other again)

-- what isn't read as a list is refused with its fault
fault_refused : (bytes : List ℕ) (f : CueFault) → length bytes ≤ whole_limit → read_list bytes ≡ Err f → IsRefused bytes (form_status f)
fault_refused bytes (fault.Memory error) within is = absurd (no_want_of_memory bytes error is)
fault_refused bytes (fault.Limit which) within is =
    refused_list bytes (status.Limit which) (form_refused bytes (fault.Limit which) within is (answered_fault (records_of bytes) (fault.Limit which) is))
fault_refused bytes (fault.Malformed rec field why) within is =
    refused_list bytes (status.Malformed (Field rec field) why) (form_refused bytes (fault.Malformed rec field why) within is (answered_fault (records_of bytes) (fault.Malformed rec field why) is))

-- a list is accepted, or it is refused
abbrev Judged : List ℕ → Type 0
Judged bytes = ((list : Listing) × (placed : Placement) × IsAccepted bytes list placed) ⊎ ((answer : Status) × IsRefused bytes answer)

list_judged : (bytes : List ℕ) (list : Listing) → length bytes ≤ whole_limit → SpellsList (records_of bytes) list → Judged bytes
list_judged bytes list within spelled =
    elim (ruled_or_broken list) [
      | inl ruled ↦
          let good : IsGoodList bytes list = record { within = within; spelled = spelled; ruled = ruled } in
          elim (list_decided list spelled.formed ruled) [
            | inl there ↦ inl (list, there.0, record { good = good; placement = there.1 })
            | inr without ↦ inr (status.NoRoom without.0, record { list = list; good = good; holds = without.1 })
          ]
      | inr broken ↦ inr (status.Rule broken.0, record { list = list; within = within; spelled = spelled; broken = broken.1 })
    ]

read_judged : (bytes : List ℕ) (r : Result Listing CueFault) → length bytes ≤ whole_limit → read_list bytes ≡ r → Judged bytes
read_judged bytes (Ok list) within is =
    list_judged bytes list within (answered_list (records_of bytes) list is)
read_judged bytes (Err f) within is = inr (form_status f, fault_refused bytes f within is)

-- every list is accepted or refused
pub every_list_judged : EveryListIsJudged
every_list_judged bytes =
    elim (cases_lt whole_limit (length bytes)) [
      | inl long ↦ inr (status.Limit limit.Bytes, long)
      | inr within ↦ read_judged bytes (read_list bytes) within refl
    ]

-- so each command that reads a list makes one status of it
placed_not_refused : (bytes : List ℕ) (made : PlacedList) (answer : Status) → IsPlacedAs bytes made → IsRefused bytes answer → ⊥
placed_not_refused bytes made answer = accepted_not_refused bytes made.list made.placed answer

pub pairs_one : IsOne (λ aside. PairsVerdict)
pairs_one aside = made_one IsPlacedAs (λ made. lines_of (framing_of made)) IsSoundPairs IsRefused placed_not_refused refused_once

pub build_one : IsOne (λ aside. BuildVerdict)
build_one aside = made_one IsPlacedAs (λ made. words_of (framing_of made)) IsSoundWords IsRefused placed_not_refused refused_once

pub cues_one : IsOne (λ aside. CuesVerdict)
cues_one aside = made_one IsGoodList list_bytes IsReadAgain IsRefusedList good_not_refused list_refused_once
