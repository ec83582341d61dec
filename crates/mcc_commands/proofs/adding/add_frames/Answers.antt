use Rattle.std.proofs.Common.{◌∙◌, true, List, ℕ, sym, subst}
use Rattle.text_output.specs.Gathered.{held_of}
use Rattle.mcc_words.specs.Makers.{PutsNext}
use Rattle.mcc_commands.proofs.AddLemmas.{all_missing, missing_fails, one_missing}
use Rattle.mcc_commands.proofs.adding.add_frames.Goals as goal

pub loop-left-preserved : goal.loop-left-preserved
loop-left-preserved g c =
    let puts = subst (λ (b : List ℕ). PutsNext c.loop-left.left c.put_next.new.self true b) (sym c.deref.ensures.0) c.loop-left-test.ensures in
    record {
      none = c.clear.ensures;
      steady = c.in-Done.ensures.cause ∙ c.loop-left.invariant.steady;
      so = one_missing c.args.missing c.loop-left.left c.put_next.new.self _ _ _ _ _ _ c.deref.result.now c.loop-left.invariant.so puts c.in-Done.ensures.bytes;
    }

pub returns-in-Failed-clause-adds : goal.returns-in-Failed-clause-adds
returns-in-Failed-clause-adds g c words start way =
    let puts = subst (λ (b : List ℕ). PutsNext c.loop-left.left c.put_next.new.self true b) (sym c.deref.ensures.0) c.loop-left-test.ensures in
    missing_fails c.args.missing c.loop-left.left c.put_next.new.self _ _ _ start _ _ (held_of c.add.new.self) c.deref.result.now words c.loop-left.invariant.so puts c.in-Failed.ensures.bytes way

pub returns-clause-adds : goal.returns-clause-adds
returns-clause-adds g c words start way = all_missing c.args.missing c.loop-left.left _ _ start _ _ words c.loop-left.invariant.so c.loop-left-test.ensures.0 way
