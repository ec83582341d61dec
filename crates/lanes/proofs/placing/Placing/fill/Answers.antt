use Rattle.std.proofs.Common.{◌≡◌, ◌∙◌, ◌+◌, ◌≤◌, ◌<◌, true, arith, get_or, le-leb, length, subst, sym, []}
use Rattle.std.specs.Bool.{OnTrue}
use Rattle.dtvcc_author.proofs.PackedLemmas.{bytes_before_next}
use Rattle.lanes.specs.ServicePlacing.{IsPlacing}
use Rattle.lanes.specs.ServiceRoom.{behind_taking}
use Rattle.lanes.proofs.FillLemmas.{before_within, filled, filled_next, filled_start, length_read}
use Rattle.lanes.proofs.placing.Placing.fill.Goals as goal

pub loop-index-init : goal.loop-index-init
loop-index-init c = record {
  from = omega arith;
  within = c.requires.within;
  most = omega arith;
  bytes = λ units are before. omega (arith, before);
  placed = λ share captions chunks units cue are fills is. filled_start share captions chunks c.args.self.now is;
}

pub loop-index-preserved : goal.loop-index-preserved
loop-index-preserved c =
    let index = c.loop-index.index in
    let size = c.loop-index.size in
    let old = c.args.self.now in
    let lengths = c.args.lengths.now in
    let low : index < length lengths = omega (arith, c.requires.few, c.loop-index-test.true) in
    let more : size + get_or lengths index 0 ≤ c.most-most.result = omega (arith, c.if-lengths-index.true, c.loop-index.invariant.most) in
    record {
      from = omega (arith, c.loop-index.invariant.from);
      within = omega (arith, c.loop-index-test.true);
      most = more;
      bytes = λ units are before.
          let read = length_read units lengths index are low in
          let next = bytes_before_next units index read.0 in
          omega (arith, c.loop-index.invariant.bytes units are before, next, read.1);
      placed = λ share captions chunks units cue are fills is.
          let read = length_read units lengths index are low in
          subst (λ n. IsPlacing share captions chunks (filled old (size + n) (index + 1))) (sym read.1)
          (filled_next share captions chunks cue units old c.args.end size index fills c.loop-index.invariant.from c.loop-index-test.true
          (c.most-most.ensures (size + length (get_or units index []))
          ∙ le-leb (size + length (get_or units index [])) c.most-most.result (subst (λ n. size + n ≤ c.most-most.result) read.1 more))
          (c.loop-index.invariant.placed share captions chunks units cue are fills is));
    }

pub overflow_add-self : goal.overflow_add-self
overflow_add-self c =
    let units = c.requires.room.0 in
    let bytes = c.loop-index.invariant.bytes units c.requires.room.1.0 c.requires.room.1.2 in
    let within = before_within units c.loop-index.index in
    omega (arith, bytes, within, c.requires.room.1.1, c.from.ensures)

pub returns-clause-placed : goal.returns-clause-placed
returns-clause-placed c share captions chunks units cue are fills is =
    let old = c.args.self.now in
    let size = c.loop-index.size in
    let has : c.take-taken.result ≡ true = c.take-taken.ensures.fits ∙ c.most-most.ensures size ∙ le-leb size c.most-most.result c.loop-index.invariant.most in
    let taken : c.take-taken.new.self ≡ behind_taking old.front size =
    subst (λ b. OnTrue b (c.take-taken.new.self ≡ behind_taking old.front size)) has c.take-taken.ensures.taken in
    subst
    (λ f. IsPlacing share captions chunks
    (record { batches = old.batches; last = record { frame = old.last.frame; units = c.loop-index.index; bytes = old.last.bytes + c.from.result }; front = f }))
    (sym taken)
    (subst
    (λ n. IsPlacing share captions chunks
    (record {
      batches = old.batches;
      last = record { frame = old.last.frame; units = c.loop-index.index; bytes = old.last.bytes + n };
      front = behind_taking old.front size;
    })) (sym c.from.ensures) (c.loop-index.invariant.placed share captions chunks units cue are fills is))
