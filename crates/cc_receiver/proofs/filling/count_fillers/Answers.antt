use Rattle.std.proofs.Common.{◌≡◌, length, take, ap, ◌∙◌, arith}
use Rattle.std.proofs.lemmas.Bool.Decides.{Decides-eqb}
use Rattle.std.proofs.lemmas.Slice.Eq.{slice_eq-Decides}
use Rattle.cc_data.specs.Triplets.{triplets_of}
use Rattle.cc_receiver.proofs.FillingLemmas.{filler_bytes, fillers_read}
use Rattle.cc_receiver.proofs.filling.count_fillers.Goals as goal

pub returns-then-eq-clause-fillers : goal.returns-then-eq-clause-fillers
returns-then-eq-clause-fillers c =
    let size = length c.args.bytes.now in
    let same : c.args.bytes.now ≡ take size (filler_bytes 81) =
    (slice_eq-Decides Decides-eqb _ _ _ c.eq.ensures).0 c.if-eq.true ∙ ap (take size) c.as_flattened-fillers.ensures.value in
    ap triplets_of same ∙ fillers_read 81 size (omega (arith, c.if-bytes-fillers.true, c.as_flattened-fillers.ensures.len))
