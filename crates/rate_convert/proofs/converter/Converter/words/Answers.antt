use Rattle.std.proofs.Common.{◌++◌, ◌∷◌, []}
use Rattle.rate_convert.proofs.ConverterLemmas.{none_stands, stands_behind}
use Rattle.rate_convert.proofs.converter.Converter.words.Goals as goal

pub returns : goal.returns
returns c = λ bytes earlier last had are.
    c.words.ensures earlier last
    (none_stands (earlier ++ last ∷ []) c.args.self.now.halver (stands_behind bytes (earlier ++ last ∷ []) c.args.self.now had are) c.requires.none)
