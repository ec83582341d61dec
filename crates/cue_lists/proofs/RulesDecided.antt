-- Whether a list keeps the rules can be told: each of its cues in turn is judged against those before it.
use Rattle.std.proofs.Common.{◌≡◌, ◌∙◌, ◌⊎◌, List, [], ◌∷◌, ◌++◌, Option, Some, None, reverse, append_assoc, append-nil, sym, refl, inl, inr}
use Rattle.std.proofs.lemmas.List.{reverse-append, reverse-reverse}
use Rattle.cue_types.specs.Listing.{Listing}
use Rattle.cue_lists.specs.Rules.{HasFault, IsRuled}
use Rattle.cue_lists.specs.Rules.Tests.{AreFaultless, fault_of}
use Rattle.cue_types.specs.declared.cue.Cue.{Cue}
use Rattle.cue_lists.specs.declared.rules.RuleFault.{RuleFault}
use Rattle.cue_lists.proofs.RulesSaid.{faultless_ruled, faulty_has}

-- the newest of the cues so far is the first of those after the others
newest_behind : (earlier later : List Cue) (cue : Cue) → reverse (cue ∷ earlier) ++ later ≡ reverse earlier ++ cue ∷ later
newest_behind earlier later cue = rw (reverse-append (cue ∷ []) earlier, append_assoc) refl

-- whether the cues so far, the newest first, keep the rules
cues_decided : (list : Listing) (cues later : List Cue) → list.cues ≡ reverse cues ++ later
    → AreFaultless list cues ⊎ ((fault : RuleFault) × HasFault list fault)
cues_decided list [] later split = inl tt
cues_decided list (cue ∷ earlier) later split =
    elim (cues_decided list earlier (cue ∷ later) at_cue) [
      | inl kept ↦ at_fault kept (fault_of list earlier cue) refl
      | inr broken ↦ inr broken
    ]
  where
    at_cue : list.cues ≡ reverse earlier ++ cue ∷ later
    at_cue = split ∙ newest_behind earlier later cue

    at_fault : AreFaultless list earlier → (o : Option RuleFault) → fault_of list earlier cue ≡ o
        → AreFaultless list (cue ∷ earlier) ⊎ ((fault : RuleFault) × HasFault list fault)
    at_fault kept None is = inl (is, kept)
    at_fault kept (Some fault) is =
        inr (fault, faulty_has list fault (record { earlier = earlier; cue = cue; later = later; split = at_cue; kept = kept; broken = is }))

-- every list keeps the rules, or has a fault
pub ruled_or_broken : (list : Listing) → IsRuled list ⊎ ((fault : RuleFault) × HasFault list fault)
ruled_or_broken list =
    elim (cues_decided list (reverse list.cues) []
    (sym (append-nil (reverse (reverse list.cues)) ∙ reverse-reverse list.cues))) [
      | inl faultless ↦ inl (faultless_ruled list faultless)
      | inr broken ↦ inr broken
    ]
