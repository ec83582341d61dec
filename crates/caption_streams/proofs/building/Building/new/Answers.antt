use Rattle.std.proofs.Common.{subst}
use Rattle.cc_base.specs.declared.rate.Rate.{Rate}
use Rattle.cue_list_commands.specs.Carrying.{IsAt}
use Rattle.caption_streams.proofs.BuilderLemmas.{begun}
use Rattle.caption_streams.proofs.building.Building.new.Goals as goal

pub returns : goal.returns
returns c bytes is = record {
  list = is.made.list;
  placed = is.made.placed;
  accepted = is.accepted;
  is = begun is.made.list is.made.placed c.args.programme.frames c.next-ahead.new.self c.new.result c.next-ahead.result
      is.framing.gives is.framing.count_is c.next-ahead.ensures.left c.next-ahead.ensures.ends c.next-ahead.ensures.gives
      (subst (λ (rate : Rate). IsAt rate 0 0 c.new.result) is.framing.rate_is c.new.ensures);
}
