use Rattle.std.proofs.Common.{Err, sym, ◌∙◌, subst}
use Rattle.cc_base.specs.declared.why.Why.{Why}
use Rattle.mcc_files.specs.Readers.{Finishes}
use Rattle.mcc_files.proofs.ReaderLemmas.{finishes_err, finishes_ok}
use Rattle.mcc_files.proofs.reader.MccReader.finish.Goals as goal

pub returns-in-Some : goal.returns-in-Some
returns-in-Some c before placed read = finishes_ok c.args.self.now c.in-Some.packet before placed read (sym c.in-Some.is ∙ c.ends.ensures)

pub returns-in-None : goal.returns-in-None
returns-in-None c before placed read =
    subst (λ (r : Why). Finishes before placed c.args.self.now (Err r)) (sym c.why.ensures)
    (finishes_err c.args.self.now before placed read (sym c.in-None.is ∙ c.ends.ensures))
