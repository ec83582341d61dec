use Rattle.std.proofs.Common.{arith, ap, sym, subst, ◌≡◌, ◌∙◌, ◌++◌, [], ◌∷◌, length-append}
use Rattle.std.proofs.lemmas.List.Elements.{All-append}
use Rattle.cc_base.specs.Steps.{front_from}
use Rattle.cc_base.specs.Syntax.{AllTaken, open_behind}
use Rattle.cc_base.proofs.StepLemmas.{front_from-append}
use Rattle.cc_base.proofs.SyntaxLemmas.{AllTaken-append}
use Rattle.anc_words.specs.Readers.{Keeps}
use Rattle.anc_words.specs.Reading.{anc_syntax, nothing_open, open_after}
use Rattle.anc_words.proofs.ByteLemmas.{IsByte, file_is_read}
use Rattle.anc_words.proofs.CaptionLemmas.{packet-are_bytes}
use Rattle.anc_words.proofs.WordsFileLemmas.{IsWordsFile-one}
use Rattle.anc_words.proofs.reader.WordReader.pass_over.Goals as goal

pub returns-clause-passed : goal.returns-clause-passed
returns-clause-passed c = λ before piece said led closed is long.
    let reads = file_is_read (said ∷ []) piece (IsWordsFile-one said piece is) in
    let front = front_from-append open_after nothing_open before piece in
    let same : open_behind anc_syntax (before ++ piece) ≡ open_behind anc_syntax before = front ∙ ap (λ f. front_from anc_syntax.after f piece) closed ∙ reads.leads ∙ sym closed in (
      All-append IsByte before piece led.0 (packet-are_bytes said piece is),
      record {
        all = AllTaken-append anc_syntax nothing_open before piece led.1.all (subst (λ f. AllTaken anc_syntax f piece) (sym closed) reads.taken);
        matches = subst (λ f. Keeps f c.args.self.now.fed.machine) (sym same) led.1.matches;
        counted = omega (arith, led.1.counted, c.size.ensures, long, length-append before piece);
        unrefused = led.1.unrefused;
      },
    )
