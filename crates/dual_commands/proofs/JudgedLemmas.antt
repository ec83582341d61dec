-- Every first list is accepted or refused beside a second one that keeps the rules.
use Rattle.std.proofs.Common.{◌≡◌, ◌⊎◌, inl, inr, ℕ, List, [], ◌∷◌, Option, Some, None, option_map, ap, sym, refl, ◌∙◌, ◌==◌, true, arith}
use Rattle.std.specs.Prelude.{is_some}
use Rattle.std.specs.List.{find}
use Rattle.std.proofs.lemmas.Bool.{cases_eq}
use Rattle.std.proofs.lemmas.Bool.Decides.{nat_tests}
use Rattle.cc_base.specs.Rate.{rate_code, rate_of}
use Rattle.cc_base.specs.declared.rate.Rate.{Rate}
use Rattle.cdp_packets.proofs.PacketLemmas.{rate_of-code}
use Rattle.cc_base.specs.declared.why.Why.TheVariants as why
use Rattle.command_base.specs.declared.status.Place.TheVariants.{Field}
use Rattle.command_base.specs.declared.status.Status.{Status}
use Rattle.command_base.specs.declared.status.Status.TheVariants as status
use Rattle.cue_list_commands.specs.Accepted.{IsGoodList}
use Rattle.cue_list_commands.proofs.EveryLemmas.{good_or_refused}
use Rattle.cue_lists.specs.Listing.{IsFormed, Listing}
use Rattle.cue_lists.specs.Rules.{IsRuled}
use Rattle.cue_lists.specs.declared.list.Share.{Share}
use Rattle.dual_commands.specs.DualLists.{IsPlacedBeside, IsRefusedBeside, IsRefusedPair, PlacedLists}
use Rattle.dual_commands.specs.Judged.{EveryFirstListIsJudged}
use Rattle.dual_plans.specs.DualPlacement.{DualPlacement, IsDualPlaced}
use Rattle.dual_plans.specs.FieldPlaces.{GoTogether}
use Rattle.dual_plans.specs.OtherList.{AreAlike, IsJudged}
use Rattle.dual_plans.specs.Verdict.{IsVerdict, Lacking, LackingBeside, Placed, Verdict}
use Rattle.dual_plans.specs.declared.other_list.OtherField.{OtherField}
use Rattle.dual_plans.proofs.PairDecided.{each_judged}
use Rattle.dual_plans.specs.Clashes.{IsFieldClash, IsLeast}
use Rattle.dual_plans.specs.declared.clash.Clash.{Clash}
use Rattle.dual_plans.proofs.MeetingLemmas.{Decided, least_always}

-- rates are one or two
rate_decided : (a b : Rate) → Decided (a ≡ b)
rate_decided a b =
    elim (cases_eq (rate_code a) (rate_code b)) [
      | inl same ↦ inl (let e : Some a ≡ Some b = sym (rate_of-code a) ∙ ap rate_of same ∙ rate_of-code b in cc)
      | inr other ↦ inr (λ is. other (ap rate_code is))
    ]

-- a list has a share, or none
share_decided : (shares : List Share) → ((service : ℕ) → option_map (λ (share : Share). share.bytes) (find (λ (share : Share). share.service == service) shares) ≡ None)
    ⊎ ((service : ℕ) × (bytes : ℕ) × (option_map (λ (share : Share). share.bytes) (find (λ (share : Share). share.service == service) shares) ≡ Some bytes))
share_decided [] = inl (λ service. refl)
share_decided (share ∷ shares) =
    let test : (share.service == share.service) ≡ true = grind (arith, nat_tests) in
    inr (share.service, share.bytes, rw test refl)

-- the second list is as the first asks, or has a first field that isn't so
pub alike_decided : (one two : Listing) → AreAlike one two ⊎ ((at : OtherField) × IsJudged one two (Some at))
alike_decided one two = by_rate (rate_decided two.rate one.rate)
  where
    by_shares : two.rate ≡ one.rate → two.frames ≡ one.frames → AreAlike one two ⊎ ((at : OtherField) × IsJudged one two (Some at))
    by_shares rate frames =
        elim (share_decided two.shares) [
          | inl none ↦ inl (record { rate = rate; frames = frames; unshared = none })
          | inr some ↦ inr (
            record { rec = 2; field = 1 },
            inr (inr (refl, refl, rate, frames, (some.0, ap (λ o. is_some o) some.2))),
          )
        ]

    by_frames : two.rate ≡ one.rate → AreAlike one two ⊎ ((at : OtherField) × IsJudged one two (Some at))
    by_frames rate =
        elim (cases_eq two.frames one.frames) [
          | inl frames ↦ by_shares rate frames
          | inr other ↦ inr (record { rec = 1; field = 4 }, inr (inl (refl, refl, rate, other)))
        ]

    by_rate : Decided (two.rate ≡ one.rate) → AreAlike one two ⊎ ((at : OtherField) × IsJudged one two (Some at))
    by_rate (inl rate) = by_frames rate
    by_rate (inr other) = inr (record { rec = 1; field = 3 }, inl (refl, refl, other))

-- two lists that keep the rules are placed together, or refused with a status
abbrev pub PairJudged : Listing → Listing → Type 0
PairJudged one two = ((placed : DualPlacement) × GoTogether one two × IsDualPlaced one two placed) ⊎ ((answer : Status) × IsRefusedPair one two answer)

pub pair_judged : (one two : Listing) → IsFormed one → IsRuled one → IsFormed two → IsRuled two → PairJudged one two
pair_judged one two formed ruled second_formed second_ruled = by_alike (alike_decided one two)
  where
    by_verdict : GoTogether one two → (verdict : Verdict) → IsVerdict one two verdict → PairJudged one two
    by_verdict together (Placed placed) is = inl (placed, together, is)
    by_verdict together (Lacking cue) is = inr (status.NoRoom cue, (together, is))
    by_verdict together (LackingBeside cue) is = inr (status.NoRoomBeside cue, (together, is))

    apart : AreAlike one two → ((second first : ℕ) → IsFieldClash one two second first → ⊥) → PairJudged one two
    apart alike none =
        let together : GoTogether one two = record {
          formed = formed;
          ruled = ruled;
          second_formed = second_formed;
          second_ruled = second_ruled;
          alike = alike;
          apart = none;
        } in
        let judged = each_judged one two together in by_verdict together judged.0 judged.1

    by_clash : AreAlike one two → (clash : Option Clash) → IsLeast (IsFieldClash one two) clash → PairJudged one two
    by_clash alike (Some clash) least = inr (
      status.Rule (record { why = why.FieldClash; cue = clash.second; other = Some clash.first }),
      record { alike = alike; first = clash.first; least = least; fault_is = refl },
    )
    by_clash alike None none = apart alike none

    by_alike : AreAlike one two ⊎ ((at : OtherField) × IsJudged one two (Some at)) → PairJudged one two
    by_alike (inr at) = inr (status.Malformed (Field at.0.rec at.0.field) why.OtherList, at.1)
    by_alike (inl alike) = let least = least_always one two in by_clash alike least.0 least.1

pub every_first_judged : EveryFirstListIsJudged
every_first_judged second formed ruled bytes =
    elim (good_or_refused bytes) [
      | inr refused ↦ inr (refused.0, inl refused.1)
      | inl good ↦ by_pair good.0 good.1 (pair_judged good.0 second good.1.spelled.formed good.1.ruled formed ruled)
    ]
  where
    by_pair : (one : Listing) → IsGoodList bytes one → PairJudged one second
        → ((lists : PlacedLists) × IsPlacedBeside second bytes lists) ⊎ ((answer : Status) × IsRefusedBeside second bytes answer)
    by_pair one good (inl placed) = inl (
      record { one = one; two = second; placed = placed.0 },
      record { good = good; second_is = refl; together = placed.1; placement = placed.2 },
    )
    by_pair one good (inr refused) = inr (refused.0, inr (record { list = one; good = good; holds = refused.1 }))
