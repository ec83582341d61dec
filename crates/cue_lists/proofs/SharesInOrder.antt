-- A list with its shares in ascending order of their services keeps the rules where the list does.
use Rattle.std.proofs.Common.{◌≡◌, ℕ, List, [], ◌∷◌, Option, sym, subst}
use Rattle.std.specs.Prelude.{IsSome}
use Rattle.cue_form.specs.Printing.{in_order}
use Rattle.cue_form.proofs.InOrder.{in_order_formed, same_share}
use Rattle.cue_types.specs.Channels.{cues_of_service}
use Rattle.cue_types.specs.Listing.{IsFormed, Listing, share_of}
use Rattle.cue_types.specs.declared.cue.Cue.{Cue}
use Rattle.cue_lists.specs.Rules.{IsRuled}
use Rattle.cue_lists.specs.Rules.Sentences.{AreInService, AreLanesRuled}
use Rattle.cue_lists.proofs.RulesSaid.{lanes_ruled, ruled_by_lanes}

-- a service with the same share keeps the rules
service_kept : (list : Listing) (service : ℕ) (cues : List Cue) → share_of (in_order list) service ≡ share_of list service
    → AreInService list service cues → AreInService (in_order list) service cues
service_kept list service [] same are = tt
service_kept list service (cue ∷ cues) same are = (
  record {
    loaded = are.0.loaded;
    hidden = are.0.hidden;
    delayed = are.0.delayed;
    apart = are.0.apart;
    shared = subst (λ (o : Option ℕ). IsSome o) (sym same) are.0.shared;
    ended = are.0.ended;
  },
  are.1,
  service_kept list service cues same are.2,
)

in_order_lanes : (list : Listing) → IsFormed list → AreLanesRuled list → AreLanesRuled (in_order list)
in_order_lanes list formed lanes = record {
  channels = lanes.channels;
  on_slots = lanes.on_slots;
  services = λ service. service_kept list service (cues_of_service service list.cues) (same_share list formed service) (lanes.services service);
}

pub in_order_ruled : (list : Listing) → IsFormed list → IsRuled list → IsRuled (in_order list)
in_order_ruled list formed ruled =
    ruled_by_lanes (in_order list) (in_order_formed list formed) (in_order_lanes list formed (lanes_ruled list ruled))
