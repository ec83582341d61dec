use Rattle.std.proofs.Common.{[], ◌∷◌, refl}
use Rattle.cc_verifier.proofs.WindowCursorLemmas.{all_begin}
use Rattle.cc_verifier.proofs.window_cursors.WindowCursors.new.Goals as goal

pub pass-requires : goal.pass-requires
pass-requires c = all_begin c.args.cues.now (record { places = 0 ∷ 0 ∷ 0 ∷ 0 ∷ 0 ∷ 0 ∷ 0 ∷ 0 ∷ 0 ∷ 0 ∷ 0 ∷ 0 ∷ 0 ∷ 0 ∷ 0 ∷ 0 ∷ 0 ∷ 0 ∷ 0 ∷ 0 ∷ 0 ∷ 0 ∷ 0 ∷ 0 ∷ 0 ∷ 0 ∷ 0 ∷ 0 ∷ 0 ∷ 0 ∷ 0 ∷ 0 ∷ 0 ∷ 0 ∷ 0 ∷ 0 ∷ 0 ∷ 0 ∷ 0 ∷ 0 ∷ 0 ∷ 0 ∷ 0 ∷ 0 ∷ 0 ∷ 0 ∷ 0 ∷ 0 ∷ []; due = 0 }) refl
