-- The cues on a lane, a channel or a service: the former cue of each among them, and their order from the newest on.
use Rattle.std.proofs.Common.{◌≡◌, Bool, true, false, if◌then◌else◌, cond, List, [], ◌∷◌, ◌++◌, reverse, refl, sym, ap, ◌∙◌}
use Rattle.std.specs.Prelude.{Option, Some, None}
use Rattle.std.specs.List.{filter, find}
use Rattle.std.proofs.lemmas.List.{append-nil, reverse-append, reverse-reverse}
use Rattle.std.proofs.lemmas.List.Elements.{filter-append}
use Rattle.cue_lists.specs.Rules.Former.{former_cue}
use Rattle.cue_types.specs.Lane.{kind_lane, on_lane, same_lane}
use Rattle.cue_types.specs.declared.cue.Cue.{Cue}
use Rattle.cue_types.specs.declared.lane.Lane.{Lane}

-- the newest of the cues before, the newest first
abbrev pub newest : List Cue → Option Cue
newest [] = None
newest (cue ∷ earlier) = Some cue

-- the list with its newest cue at its end
pub reverse-cons : (cue : Cue) (earlier : List Cue) → reverse (cue ∷ earlier) ≡ reverse earlier ++ cue ∷ []
reverse-cons cue earlier = reverse-append (cue ∷ []) earlier

-- the cues on a lane
abbrev pub lane_cues : Lane → List Cue → List Cue
lane_cues lane cues = filter (λ cue. same_lane lane (kind_lane cue.kind)) cues

-- the nearest cue on a lane is the newest one on it
nearest_on : (lane : Lane) (earlier : List Cue) → find (on_lane lane) earlier ≡ newest (lane_cues lane earlier)
nearest_on lane [] = refl
nearest_on lane (cue ∷ earlier) = by_test (same_lane lane (kind_lane cue.kind)) (nearest_on lane earlier)
  where
    by_test : (b : Bool) → find (on_lane lane) earlier ≡ newest (lane_cues lane earlier)
        → (if b then Some cue else find (on_lane lane) earlier) ≡ newest (cond b (cue ∷ lane_cues lane earlier) (lane_cues lane earlier))
    by_test true rest = refl
    by_test false rest = rest

-- the former cue of a cue on a lane is the newest one on it
pub former_on_lane : (lane : Lane) (cue : Cue) (earlier : List Cue) → kind_lane cue.kind ≡ lane → former_cue cue earlier ≡ newest (lane_cues lane earlier)
former_on_lane lane cue earlier on = ap (λ (l : Lane). find (on_lane l) earlier) on ∙ nearest_on lane earlier

-- the cues on a lane in the reverse order
pub lane_reverse : (lane : Lane) (cues : List Cue) → lane_cues lane (reverse cues) ≡ reverse (lane_cues lane cues)
lane_reverse lane [] = refl
lane_reverse lane (cue ∷ cues) =
    ap (lane_cues lane) (reverse-cons cue cues)
    ∙ filter-append (λ (c : Cue). same_lane lane (kind_lane c.kind)) (reverse cues) (cue ∷ [])
    ∙ ap (λ (before : List Cue). before ++ lane_cues lane (cue ∷ [])) (lane_reverse lane cues)
    ∙ by_test (same_lane lane (kind_lane cue.kind))
  where
    by_test : (b : Bool) → reverse (lane_cues lane cues) ++ cond b (cue ∷ []) [] ≡ reverse (cond b (cue ∷ lane_cues lane cues) (lane_cues lane cues))
    by_test true = sym (reverse-cons cue (lane_cues lane cues))
    by_test false = append-nil (reverse (lane_cues lane cues))

-- the cues on a lane, taken from the newest on
pub lane_back : (lane : Lane) (cues : List Cue) → reverse (lane_cues lane (reverse cues)) ++ [] ≡ lane_cues lane cues
lane_back lane cues =
    append-nil (reverse (lane_cues lane (reverse cues)))
    ∙ ap reverse (lane_reverse lane cues)
    ∙ reverse-reverse (lane_cues lane cues)
