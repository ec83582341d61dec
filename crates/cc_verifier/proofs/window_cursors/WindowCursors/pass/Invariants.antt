use Rattle.std.proofs.Common.{◌≡◌, ◌<◌, ◌≤◌, ℕ, length}
use Rattle.cc_verifier.specs.WindowCursors.{cursor_place, id_at, service_at}
use Rattle.cc_verifier.specs.WindowPlaces.{HasPassed, StandsUntil}
use Rattle.cc_verifier.proofs.window_cursors.WindowCursors.pass.Given as goal

-- the windows of the first places stand at the frame, and the others have passed what they had
abbrev pub invariant-loop-place : goal.invariant-loop-place
invariant-loop-place l = record {
  long : length l.self.places ≡ 48;
  placed : (k : ℕ) → k < l.place → StandsUntil (service_at k) (id_at k) l.cues l.frame l.self.due (cursor_place l.self k);
  passed : (k : ℕ) → l.place ≤ k → k < 48 → HasPassed (service_at k) (id_at k) l.cues l.frame (cursor_place l.self k);
}
