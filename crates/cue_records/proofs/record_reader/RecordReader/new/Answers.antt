use Rattle.std.proofs.Common.{refl, ◌∙◌, ap, ◌++◌, ◌∷◌, [], List, ℕ}
use Rattle.cue_records.specs.RecordEnds.{StaysOpen}
use Rattle.cue_records.proofs.ReaderLemmas.{cut_none}
use Rattle.cue_records.proofs.record_reader.RecordReader.new.Goals as goal

pub returns : goal.returns
unfolding StaysOpen
returns c = cut_none _ (record { held = c.in_ok-push.ensures.items ∙ ap (λ (xs : List ℕ). xs ++ 10 ∷ []) c.new-held.ensures.items; state = refl })
