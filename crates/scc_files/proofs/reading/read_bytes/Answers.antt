use Rattle.std.proofs.Common.{ℕ, List, ◌≡◌, ◌+◌, sym, ◌∙◌, ap, subst, arith, true, drop}
use Rattle.line21_codes.specs.declared.pairs.Pair.{Pair}
use Rattle.scc_files.specs.Gathering.{frames_with}
use Rattle.scc_files.specs.Reading.{frames_of, read_file, read_from}
use Rattle.scc_files.proofs.ReadLemmas.{frames_more, onto, read_ok}
use Rattle.scc_files.proofs.reading.read_bytes.Goals as goal

pub loop-at-preserved : goal.loop-at-preserved
loop-at-preserved c =
    let (given, stepped, pairs, frames) = c.in-Ok.ensures.gathers in
    record {
      within = c.in-Ok.ensures.within;
      next = omega (arith, c.in-Ok.ensures.next);
      frames = frames ∙ (ap (λ f. frames_with f given) c.loop-at.invariant.frames
          ∙ (sym (frames_more 0 c.loop-at.gathered.pairs given) ∙ ap frames_of (sym pairs)));
      due = subst (λ (z : List (ℕ × Pair)). read_file c.args.opening c.args.bytes.now ≡ onto z (read_from true (c.loop-at.at + 1) c.take.new.self.reader (drop (c.loop-at.at + 1) c.args.bytes.now)))
          (sym pairs)
          (read_ok (read_file c.args.opening c.args.bytes.now) c.loop-at.gathered.pairs c.loop-at.gathered.reader c.take.new.self.reader c.args.bytes.now c.loop-at.at _ c.loop-at-test.true
          c.loop-at.invariant.due given stepped);
    }
