use Rattle.std.proofs.Common.{ap, sym, ◌∙◌}
use Rattle.cc_base.specs.Syntax.{open_behind}
use Rattle.anc_words.specs.Reading.{anc_syntax, Open}
use Rattle.anc_words.specs.Readers.{next_of}
use Rattle.anc_words.proofs.ByteLemmas.{file_is_read, what_is_read_is_file}
use Rattle.anc_words.proofs.NextLemmas.{nothing_open-is}
use Rattle.anc_words.proofs.reader.WordReader.finish.Goals as goal

pub returns-then-is_closed-clause-whole : goal.returns-then-is_closed-clause-whole
returns-then-is_closed-clause-whole c = λ bytes led _.
    let keeps = led.1.matches in
    let closed = c.is_closed.ensures.0 c.if-is_closed.true in
    what_is_read_is_file bytes led.0 led.1.all (nothing_open-is (open_behind anc_syntax bytes) (sym keeps.high ∙ closed.0) (sym keeps.next ∙ closed.1))

pub returns-clause-file : goal.returns-clause-file
returns-clause-file c = λ bytes packets led is.
    let keeps = led.1.matches in
    let nothing = (file_is_read packets bytes is).leads in
    sym c.if-is_closed.false
    ∙ c.is_closed.ensures.1 (keeps.high ∙ ap (λ (o : Open). o.high) nothing, keeps.next ∙ ap (λ (o : Open). next_of o.words) nothing)
