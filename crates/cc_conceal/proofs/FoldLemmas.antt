-- The frames that are heard, as they come one after another.
use Rattle.std.proofs.Common.{◌≡◌, ◌∙◌, Bool, true, false, if◌then◌else◌, List, [], ◌∷◌, reverse, refl, sym, ap}
use Rattle.std.specs.Prelude.{fold}
use Rattle.std.proofs.lemmas.Grind.{fold-append}
use Rattle.std.proofs.lemmas.List.{reverse-append, reverse-reverse}
use Rattle.cdp_packets.specs.Packets.{Frame}
use Rattle.cc_conceal.specs.Concealed.{goes_on, heard_back, heard_of}

-- the frames since the last jump, newest first, when one more has come
abbrev pub heard_next : List Frame → Frame → List Frame
heard_next [] frame = frame ∷ []
heard_next (former ∷ earlier) frame = if goes_on former frame then frame ∷ former ∷ earlier else frame ∷ []

-- one frame in front of those that stand newest first
by_test : (b : Bool) (f : Frame) (rest : List Frame) → (if b then f ∷ rest else f ∷ []) ≡ f ∷ (if b then rest else [])
by_test true f rest = refl
by_test false f rest = refl

heard_front : (r : List Frame) (f : Frame) → heard_next (heard_back r) f ≡ heard_back (f ∷ r)
heard_front [] f = refl
heard_front (g ∷ []) f = by_test (goes_on g f) f (g ∷ [])
heard_front (g ∷ (h ∷ r)) f = by_test (goes_on g f) f (heard_back (g ∷ h ∷ r))

fold_back : (r : List Frame) → fold heard_next [] (reverse r) ≡ heard_back r
fold_back [] = refl
fold_back (f ∷ r) =
    ap (fold heard_next []) (reverse-append (f ∷ []) r)
    ∙ fold-append heard_next [] (reverse r) (f ∷ [])
    ∙ ap (λ (l : List Frame). heard_next l f) (fold_back r)
    ∙ heard_front r f

pub heard_folds : (frames : List Frame) → heard_of frames ≡ reverse (fold heard_next [] frames)
heard_folds frames = sym (ap reverse (ap (fold heard_next []) (sym (reverse-reverse frames)) ∙ fold_back (reverse frames)))
