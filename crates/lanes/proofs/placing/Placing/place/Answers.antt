use Rattle.std.proofs.Common.{◌≡◌, ◌∙◌, ℕ, ◌+◌, List, ap, length, refl, subst, sym}
use Rattle.dtvcc_author.specs.Packed.{bytes_before}
use Rattle.dtvcc_author.proofs.PackedLemmas.{bytes_before_next}
use Rattle.lanes.specs.CueChunks.{chunk_in}
use Rattle.lanes.specs.ServiceRoom.{IsFirstBehind, IsFront, caption_lane}
use Rattle.lanes.specs.ServicePlacing.{batches_of}
use Rattle.lanes.specs.Batches.{batch_frames}
use Rattle.lanes.specs.Chunks.{ServiceChunk}
use Rattle.lanes.specs.declared.batch.Batch.{Batch}
use Rattle.lanes.proofs.PlacingSteps.{IsPlaced, placing_next, placing_none}
use Rattle.lanes.proofs.placing.Placing.place.Goals as goal

pub returns-in_default-clause-fault : goal.returns-in_default-clause-fault
returns-in_default-clause-fault c chunks of_cue order is =
    placing_none c.args.share c.args.captions.now chunks c.args.cue.now c.args.units.now c.args.self.now.last.units
    (batch_frames (batches_of c.args.self.now)) c.args.self.now.front order
    is.reaches of_cue
    (subst (λ u. (before : List (ServiceChunk × ℕ)) → IsFront c.args.share c.args.captions.now before c.args.self.now.front
    → IsFirstBehind before c.args.self.now.front.frame → (frame : ℕ)
    → caption_lane c.args.share c.args.captions.now before (chunk_in c.args.cue.now u) frame → ⊥) c.unit-unit.ensures.unit c.in_default.ensures.none)

pub returns-in-Ok-clause-placed : goal.returns-in-Ok-clause-placed
returns-in-Ok-clause-placed c chunks of_cue is =
    let share = c.args.share in
    let cs = c.args.captions.now in
    let old = c.args.self.now in
    let frame = c.in-Some.frame in
    let unit = c.unit-unit.result.now in
    let placed : IsPlaced share cs (chunk_in c.args.cue.now unit) old.front c.place.new.self frame =
    record { first = c.in-Some.ensures.some; front = c.in-Some.ensures.front; at = c.in-Some.ensures.at } in
    let kept : IsPlaced share cs (chunk_in c.args.cue.now unit) old.front c.hold.new.self.front frame =
    subst (λ f. IsPlaced share cs (chunk_in c.args.cue.now unit) old.front f frame) (sym c.in-Ok.ensures.front) placed in
    placing_next share cs chunks c.args.cue.now c.args.units.now old c.hold.new.self
    (record { frame = frame; units = old.last.units + 1; bytes = old.last.bytes + length unit }) is of_cue
    (subst (λ u. IsPlaced share cs (chunk_in c.args.cue.now u) old.front c.hold.new.self.front frame) c.unit-unit.ensures.unit kept) refl
    (ap (λ u. old.last.bytes + length u) c.unit-unit.ensures.unit) c.in-Ok.ensures.last c.in-Ok.ensures.grown c.in-Ok.ensures.more

pub returns-in-Ok-clause-bytes : goal.returns-in-Ok-clause-bytes
returns-in-Ok-clause-bytes c =
    let old = c.args.self.now.last in
    let units : c.hold.new.self.last.units ≡ old.units + 1 = ap (λ (s : Batch). s.units) c.in-Ok.ensures.last in
    let bytes : c.hold.new.self.last.bytes ≡ old.bytes + length c.unit-unit.result.now = ap (λ (s : Batch). s.bytes) c.in-Ok.ensures.last in
    bytes ∙ ap (λ n. n + length c.unit-unit.result.now) c.requires.bytes
    ∙ ap (λ u. bytes_before old.units c.args.units.now + length u) c.unit-unit.ensures.unit
    ∙ sym (bytes_before_next c.args.units.now old.units c.requires.within)
    ∙ ap (λ n. bytes_before n c.args.units.now) (sym units)
