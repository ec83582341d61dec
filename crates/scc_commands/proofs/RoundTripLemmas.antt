-- What is imported is exported again: the written form of the file's pairs.
use Rattle.std.proofs.Common.{◌≡◌, ◌≢◌, ◌∙◌, ◌+◌, ◌<◌, ◌≤◌, ◌++◌, ap, arith, refl, subst, suc, sym, zero, ℕ, Bool, [], ◌∷◌, false, true}
use Rattle.std.specs.Prelude.{nat_eq}
use Rattle.cc_base.specs.declared.rate.Rate.TheVariants as rate
use Rattle.frame_carrier.proofs.CarriedLemmas.{frames_carried}
use Rattle.frame_carrier.proofs.CarryingLemmas.{quiet_bytes, quiet_roomy}
use Rattle.frame_carrier.specs.Carrying.{column_packets}
use Rattle.line21_codes.specs.declared.channels.FieldNumber.TheVariants.{One}
use Rattle.line21_codes.specs.declared.pairs.Pair.{Pair}
use Rattle.line21_codes.specs.NullPairs.{null_pair}
use Rattle.scc_files.specs.Reading.{frames_of, frames_to}
use Rattle.scc_files.specs.SccFiles.{AreBytes, AreRising}
use Rattle.scc_files.proofs.PiecesLemmas.{text_written}
use Rattle.scc_files.specs.Pieces.{text_from}
use Rattle.scc_files.specs.Writing.{Standing, piece_of, stand_behind}
use Rattle.scc_files.specs.Written.{head_text, written_file}
use Rattle.time_codes.specs.Frames.{frame_number}
use Rattle.time_codes.specs.declared.time_code.TimeCode.{TimeCode}
use Rattle.scc_commands.specs.Export.{export_file, exported_from}
use Rattle.scc_commands.specs.Exporting.{first_standing}
use Rattle.scc_commands.proofs.WrittenLemmas.{at_number}
use Rattle.scc_commands.specs.Import.{PlacedPairs, import_columns, import_packets, pair_at}
use Rattle.scc_commands.proofs.ImportLemmas.{columns_bytes, none_before, other_number}

-- a pair a frame, of this many frames from one on
abbrev filled : PlacedPairs → ℕ → ℕ → PlacedPairs
filled pairs frame zero = []
filled pairs frame (suc n) = (frame, pair_at pairs frame) ∷ filled pairs (suc frame) n

-- pairs that are the same from a frame on fill frames alike
filled_alike : (pairs others : PlacedPairs) (frame n : ℕ) → ((other : ℕ) → frame ≤ other → pair_at pairs other ≡ pair_at others other)
    → filled pairs frame n ≡ filled others frame n
filled_alike pairs others frame zero alike = refl
filled_alike pairs others frame (suc n) alike =
    ap (λ (p : Pair). (frame, p) ∷ filled pairs (suc frame) n) (alike frame (omega arith))
    ∙ ap (λ l. (frame, pair_at others frame) ∷ l) (filled_alike pairs others (suc frame) n (λ other from. alike other (omega arith)))

-- frames of pairs that rise end no sooner than they begin
ends_behind : (pairs : PlacedPairs) (low from : ℕ) → AreRising low pairs → from ≤ low → from ≤ frames_to from pairs
ends_behind [] low from rising within = omega arith
ends_behind (placed ∷ pairs) low from (first, rising) within =
    let more = ends_behind pairs (placed.0 + 1) (placed.0 + 1) rising (omega arith) in omega arith

same_number : (m : ℕ) → nat_eq m m ≡ true
same_number m = grind arith

-- what is to be shown of the frames after one
abbrev SameBehind : ℕ → ℕ → PlacedPairs → Type 0
SameBehind n frame left = (w : Standing) → AreRising frame left → frames_to frame left ≡ frame + n → text_from w (filled left frame n) ≡ text_from w left

-- the first pair stands at the frame
pair_here : (n frame : ℕ) (placed : ℕ × Pair) (left : PlacedPairs) (w : Standing) → SameBehind n (suc frame) left → AreRising (placed.0 + 1) left
    → frames_to (placed.0 + 1) left ≡ frame + suc n → placed.0 ≡ frame
    → text_from w (filled (placed ∷ left) frame (suc n)) ≡ text_from w (placed ∷ left)
pair_here n frame placed left w same rising count at =
    let next : placed.0 + 1 ≡ suc frame = omega arith in
    let later : (other : ℕ) → suc frame ≤ other → pair_at (placed ∷ left) other ≡ pair_at left other =
    λ other after. rw (other_number placed.0 other (λ same. omega arith)) refl in
    let this : pair_at (placed ∷ left) frame ≡ placed.1 = rw (at, same_number frame) refl in
    let ends : frames_to (suc frame) left ≡ suc frame + n = sym (ap (λ f. frames_to f left) next) ∙ count ∙ omega arith in
    ap (λ (p : Pair). piece_of w frame p ++ text_from (stand_behind w frame p) (filled (placed ∷ left) (suc frame) n)) this
    ∙ ap (λ l. piece_of w frame placed.1 ++ text_from (stand_behind w frame placed.1) l) (filled_alike (placed ∷ left) left (suc frame) n later)
    ∙ ap (λ t. piece_of w frame placed.1 ++ t) (same (stand_behind w frame placed.1) (subst (λ f. AreRising f left) next rising) ends)
    ∙ ap (λ f. piece_of w f placed.1 ++ text_from (stand_behind w f placed.1) left) (sym at)

-- or after it
pair_later : (n frame : ℕ) (placed : ℕ × Pair) (left : PlacedPairs) (w : Standing) → SameBehind n (suc frame) (placed ∷ left) → frame ≤ placed.0 → AreRising (placed.0 + 1) left
    → frames_to (placed.0 + 1) left ≡ frame + suc n → placed.0 ≢ frame
    → text_from w (filled (placed ∷ left) frame (suc n)) ≡ text_from w (placed ∷ left)
pair_later n frame placed left w same from rising count other =
    let behind : frame < placed.0 = omega (arith, from, other) in
    let this : pair_at (placed ∷ left) frame ≡ null_pair = none_before (placed ∷ left) placed.0 frame (omega arith, rising) behind in
    ap (λ (p : Pair). piece_of w frame p ++ text_from (stand_behind w frame p) (filled (placed ∷ left) (suc frame) n)) this
    ∙ same w (omega arith, rising) (count ∙ omega arith)

pair_by : (n frame : ℕ) (placed : ℕ × Pair) (left : PlacedPairs) (w : Standing) → SameBehind n (suc frame) left → SameBehind n (suc frame) (placed ∷ left)
    → frame ≤ placed.0 → AreRising (placed.0 + 1) left → frames_to (placed.0 + 1) left ≡ frame + suc n → (test : Bool) → nat_eq placed.0 frame ≡ test
    → text_from w (filled (placed ∷ left) frame (suc n)) ≡ text_from w (placed ∷ left)
pair_by n frame placed left w here there from rising count true is = pair_here n frame placed left w here rising count (grind arith)
pair_by n frame placed left w here there from rising count false is = pair_later n frame placed left w there from rising count (grind arith)

-- null pairs between pairs say nothing
same_text : (n frame : ℕ) (left : PlacedPairs) → SameBehind n frame left
same_text zero frame [] w rising count = refl
same_text zero frame (placed ∷ left) w (from, rising) count =
    let more = ends_behind left (placed.0 + 1) (placed.0 + 1) rising (omega arith) in absurd (omega arith)
same_text (suc n) frame [] w rising count = absurd (omega arith)
same_text (suc n) frame (placed ∷ left) w (from, rising) count =
    pair_by n frame placed left w (same_text n (suc frame) left) (same_text n (suc frame) (placed ∷ left)) from rising count (nat_eq placed.0 frame) refl

-- the packets of an import carry a pair a frame
packets_filled : (pairs : PlacedPairs) (frame n : ℕ) → AreBytes pairs
    → exported_from frame (column_packets rate.F2997 (import_columns pairs) frame n) ≡ filled pairs frame n
packets_filled pairs frame zero are = refl
packets_filled pairs frame (suc n) are =
    let room = (frames_carried rate.F2997 (import_columns pairs) 0 (columns_bytes pairs are)
    (quiet_bytes (import_columns pairs) (λ frame. refl)) (quiet_roomy rate.F2997 (import_columns pairs) (λ frame. refl))).room frame in
    ap (λ l. at_number frame l ++ exported_from (suc frame) (column_packets rate.F2997 (import_columns pairs) (suc frame) n)) (room.pairs One)
    ∙ ap (λ l. (frame, pair_at pairs frame) ∷ l) (packets_filled pairs (suc frame) n are)

pub exported_again : (time : TimeCode) (pairs : PlacedPairs) → AreRising 0 pairs → AreBytes pairs
    → export_file time (import_packets pairs) ≡ written_file (frame_number time) time.drop_frame pairs
exported_again time pairs rising are =
    ap (written_file (frame_number time) time.drop_frame) (packets_filled pairs 0 (frames_of pairs) are)
    ∙ sym (text_written (frame_number time) time.drop_frame (filled pairs 0 (frames_of pairs)))
    ∙ ap (λ t. head_text ++ t) (same_text (frames_of pairs) 0 pairs (first_standing time) rising (omega arith))
    ∙ text_written (frame_number time) time.drop_frame pairs
