use Rattle.std.proofs.Common.{◌≡◌, ◌==◌, append_assoc, arith, false}
use Rattle.std.proofs.lemmas.Bool.Decides.{nat_tests}
use Rattle.std.proofs.lemmas.List.{append-nil}
use Rattle.text_output.proofs.PageLemmas.{written_same}
use Rattle.words_commands.proofs.concealing.write_lost.Goals as goal

pub returns : goal.returns
returns g c start faults before has =
    let some = c.if-missing-eq0.false in
    let other : (c.args.missing == 0) ≡ false = grind (arith, nat_tests) in
    rw other
    (written_same start faults _ _ _ (simp (append_assoc, append-nil))
    (c.write-3.ensures start faults _
    (c.write_long-2.ensures start faults _ (c.write-2.ensures start faults _ (c.write_long.ensures start faults _ (c.write.ensures start faults _ has))))))
