use Rattle.std.proofs.Common.{◌∙◌, ℕ, List, ap, refl, subst, sym}
use Rattle.std.specs.Prelude.{IsSome, Option}
use Rattle.cc_base.specs.declared.rate.Rate.{Rate}
use Rattle.cc_data.specs.Triplets.{all_written}
use Rattle.cc_data.specs.declared.triplet.Triplet.{Triplet}
use Rattle.cue_list_commands.specs.Carrying.{channel_packet}
use Rattle.cue_list_commands.specs.FrameTriplets.{frame_triplets}
use Rattle.cue_list_commands.specs.FrameBytes.{FrameBytes}
use Rattle.caption_streams.proofs.BuilderLemmas.{carried_next, made_next}
use Rattle.caption_streams.proofs.building.Building.carry_cc_data.Goals as goal

pub returns-clause-next : goal.returns-clause-next
returns-clause-next c list placed frame is = record {
  some = subst (λ (ahead : Option FrameBytes). IsSome ahead) (sym c.in-Some.is) refl;
  bytes_are = c.write_all.ensures ∙ ap all_written (c.deref.ensures.0 ∙ made_next
      (λ (rate : Rate) (number count : ℕ) (bytes : FrameBytes). frame_triplets rate bytes (channel_packet count bytes.blocks.items))
      list placed frame c.args.self.now c.in-Some.frame c.triplets-triplets.result.items is c.in-Some.is c.triplets-triplets.ensures.triplets);
  at = carried_next list placed frame c.args.self.now c.in-Some.frame c.triplets-triplets.new.self is c.in-Some.is c.triplets-triplets.ensures.next;
}
