-- A list that is written again is accepted again.
use Rattle.std.proofs.Common.{ℕ, Option, refl, subst, sym}
use Rattle.std.specs.Prelude.{unwrap_or}
use Rattle.cue_lists.specs.Listing.{IsFormed, Listing}
use Rattle.cue_lists.specs.declared.lane.Lane.{Lane}
use Rattle.cue_lists.specs.declared.lane.Lane.TheVariants.{Channel, Service}
use Rattle.frame_carrier.specs.Placing.{IsEarliest}
use Rattle.frame_carrier.specs.ServiceRoom.{caption_lane}
use Rattle.frame_carrier.specs.Planned.{IsLanePlaced, Placement, captions_in, chunks_in}
use Rattle.cue_lists.specs.Printing.{in_order}
use Rattle.cue_lists.specs.declared.head.Version.TheVariants as version
use Rattle.cue_lists.proofs.InOrder.{in_order_formed, same_share}
use Rattle.cue_lists.proofs.PrintedFacts.{records_of-bytes}
use Rattle.cue_lists.proofs.SharesInOrder.{in_order_ruled}
use Rattle.cue_list_commands.specs.Migration.{WrittenIsBuiltAlike}

-- the shares are the same, so the units of each lane stand where they stood
placed_in_order : (list : Listing) (placed : Placement) → IsFormed list → (on : Lane) → IsLanePlaced list on (placed on) → IsLanePlaced (in_order list) on (placed on)
placed_in_order list placed formed (Channel channel) is = is
placed_in_order list placed formed (Service service) is =
    subst (λ (share : Option ℕ). IsEarliest (caption_lane (unwrap_or share 0) (captions_in list service)) (chunks_in list service) (placed (Service service)))
    (sym (same_share list formed service)) is

pub written_is_built_alike : WrittenIsBuiltAlike
written_is_built_alike bytes list placed accepted within = record {
  accepted = record {
    good = record {
      within = within;
      spelled = record {
        version = version.Two;
        are = records_of-bytes version.Two (in_order list);
        formed = in_order_formed list accepted.good.spelled.formed;
        allowed = tt;
      };
      ruled = in_order_ruled list accepted.good.spelled.formed accepted.good.ruled;
    };
    placement = λ on. placed_in_order list placed accepted.good.spelled.formed on (accepted.placement on);
  };
  pairs = refl;
  build = refl;
}
