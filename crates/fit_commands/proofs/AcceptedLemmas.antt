-- A list that is accepted is fitted as it is.
use Rattle.std.proofs.Common.{◌≡◌, ◌∙◌, ◌++◌, ℕ, List, [], ◌∷◌, Option, refl, ap}
use Rattle.std.specs.Prelude.{flat_map, option_map, option_to_list}
use Rattle.cue_fit.proofs.FrontPlanLemmas.{kept_is_fitted}
use Rattle.cue_fit.specs.Fitted.{HasPlan}
use Rattle.cue_lists.proofs.InOrder.{same_share}
use Rattle.cue_lists.specs.Listing.{IsFormed, Listing}
use Rattle.cue_lists.specs.Printing.{in_order, record_bytes, share_list}
use Rattle.cue_lists.specs.Spelling.{list_records}
use Rattle.cue_lists.specs.declared.head.Version.TheVariants as version
use Rattle.cue_lists.specs.declared.list.Share.{Share}
use Rattle.fit_commands.specs.FitLaws.{AcceptedIsFitted}

-- shares that are in order stay so
same_shares : (list : Listing) → IsFormed list → (services : List ℕ) → flat_map (share_list (in_order list)) services ≡ flat_map (share_list list) services
same_shares list formed [] = refl
same_shares list formed (service ∷ services) =
    ap (λ (o : Option ℕ). option_to_list (option_map (λ bytes. record { service = service; bytes = bytes }) o) ++ flat_map (share_list (in_order list)) services)
    (same_share list formed service)
    ∙ ap (λ (shares : List Share). share_list list service ++ shares) (same_shares list formed services)

in_order_twice : (list : Listing) → IsFormed list → in_order (in_order list) ≡ in_order list
in_order_twice list formed =
    ap (λ (shares : List Share). record list { shares = shares }) (same_shares list formed (1 ∷ 2 ∷ 3 ∷ 4 ∷ 5 ∷ 6 ∷ []))

-- a list that is accepted is fitted as it is
pub accepted_fitted : AcceptedIsFitted
accepted_fitted late bytes list placed accepted =
    let formed : IsFormed list = accepted.good.spelled.formed in
    let plan : HasPlan list = record { ruled = accepted.good.ruled; placed = placed; placement = accepted.placement } in (
      record { list = list; good = accepted.good; holds = kept_is_fitted late list formed plan },
      ap (λ (l : Listing). record_bytes (list_records version.Two l)) (in_order_twice list formed),
    )
