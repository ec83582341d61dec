use Rattle.std.proofs.Common.{◌+◌, ◌∙◌, Option, ap, arith, refl, sym}
use Rattle.line21_codes.specs.declared.pairs.Pair.{Pair}
use Rattle.cue_lists.specs.Cadences.{slot_frame}
use Rattle.xds_frames.specs.Packets.{free_at}
use Rattle.xds_frames.proofs.LoadsLemmas.{stands_later}
use Rattle.xds_frames.proofs.PacketsLemmas.{lays_at, lays_slot, passes_on}
use Rattle.xds_frames.proofs.packets.Packets.lay_on.Goals as goal

pub returns-in-Some : goal.returns-in-Some
returns-in-Some c = record {
  lays = λ laying frame. lays_at laying c.args.self.now _ c.args.bytes _ (λ is pairs.
      let laid = lays_slot laying c.args.self.now.frame c.args.self.now c.in-Some.pair c.pair.result c.pair.new.self.writer is (sym c.in-Some.is ∙ pairs)
      (λ n behind free own. c.pair.ensures.pair laying.cues (free_at laying) (slot_frame laying.cadence) laying.listed n is.loads_at behind free own) in (
        ap (λ (t : Option Pair). record { one = c.args.bytes.one; two = t; blocks = c.args.bytes.blocks }) laid.two,
        record {
          frame_is = c.pair.ensures.frame;
          loads_at = c.pair.ensures.loads laying.cues is.loads_at (c.args.self.now.frame + 1) (omega arith);
          writer_at = laid.writer_at;
        },
      )) frame;
  frame = c.pair.ensures.frame;
}

pub returns-in-None : goal.returns-in-None
returns-in-None c = record {
  lays = λ laying frame. lays_at laying c.args.self.now _ c.args.bytes _ (λ is pairs.
      let passed = passes_on laying c.args.self.now.frame c.args.self.now is (sym c.in-None.is ∙ pairs) in (
        ap (λ (t : Option Pair). record { one = c.args.bytes.one; two = t; blocks = c.args.bytes.blocks }) (c.in-None.is ∙ passed.two),
        record {
          frame_is = refl;
          loads_at = stands_later laying.cues c.args.self.now.frame (c.args.self.now.frame + 1) c.args.self.now.loads (omega arith) is.loads_at;
          writer_at = passed.writer_at;
        },
      )) frame;
  frame = refl;
}
