use Rattle.std.proofs.Common.{add-one, ap, ◌≡◌, ◌∙◌, subst, sym, ℕ, ◌+◌}
use Rattle.cc_base.specs.declared.rate.Rate.{Rate}
use Rattle.cue_list_commands.specs.Carrying.{IsAt, channel_packet, packet_count, packets_before}
use Rattle.cue_list_commands.specs.FrameTriplets.{frame_triplets}
use Rattle.cue_list_commands.specs.Carrier.{Carrier}
use Rattle.cue_list_commands.specs.Columns.{Columns}
use Rattle.cue_list_commands.specs.FrameBytes.{FrameBytes}
use Rattle.insert_commands.specs.Captions.{padded}
use Rattle.insert_commands.proofs.captions.Captions.next.Goals as goal

-- a carrier that has carried a frame of columns is at the next one
carried_next : (rate : Rate) (columns : Columns) (frame : ℕ) (carrier : Carrier) (bytes : FrameBytes) → bytes ≡ columns frame
    → IsAt rate (frame + 1) (packets_before columns frame + packet_count bytes.blocks.items) carrier → IsAt rate (frame + 1) (packets_before columns (frame + 1)) carrier
carried_next rate columns frame carrier bytes is at =
    subst (λ (n : ℕ). IsAt rate (frame + 1) (packets_before columns n) carrier) (sym (add-one frame))
    (subst (λ (b : FrameBytes). IsAt rate (frame + 1) (packets_before columns frame + packet_count b.blocks.items) carrier) is at)

pub returns-clause-gives : goal.returns-clause-gives
returns-clause-gives g c list had =
    let given = c.next_frame-bytes.ensures.gives list had in
    let frame : ℕ = c.args.frame in
    let before = packets_before (padded list) frame in (
      c.triplets.ensures.triplets list.rate frame before given.1.carrier
          ∙ ap (λ (b : FrameBytes). frame_triplets list.rate b (channel_packet before b.blocks.items)) given.0,
      record {
        rate_is = given.1.rate_is;
        next = given.1.next;
        carrier = carried_next list.rate (padded list) frame _ _ given.0 (c.triplets.ensures.next list.rate frame before given.1.carrier);
      },
    )
