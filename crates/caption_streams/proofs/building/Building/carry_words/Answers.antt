use Rattle.std.proofs.Common.{ℕ, refl, subst, sym}
use Rattle.std.specs.Prelude.{IsSome, Option}
use Rattle.cc_base.specs.declared.rate.Rate.{Rate}
use Rattle.cue_list_commands.specs.Carrying.{channel_packet, frame_bytes}
use Rattle.cue_list_commands.specs.FrameBytes.{FrameBytes}
use Rattle.caption_streams.proofs.BuilderLemmas.{carried_next, made_next}
use Rattle.caption_streams.proofs.building.Building.carry_words.Goals as goal

pub returns-clause-next : goal.returns-clause-next
returns-clause-next c list placed frame is = record {
  some = subst (λ (ahead : Option FrameBytes). IsSome ahead) (sym c.in-Some.is) refl;
  bytes_are = made_next (λ (rate : Rate) (number count : ℕ) (bytes : FrameBytes). frame_bytes rate number bytes (channel_packet count bytes.blocks.items))
      list placed frame c.args.self.now c.in-Some.frame c.put_words.new.out.items is c.in-Some.is c.put_words.ensures.bytes;
  at = carried_next list placed frame c.args.self.now c.in-Some.frame c.put_words.new.self is c.in-Some.is c.put_words.ensures.next;
}
