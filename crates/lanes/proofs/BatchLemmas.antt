-- Batches of units: one more unit, in the frame of the last batch or in a later frame, and the units of a frame.
use Rattle.std.proofs.Common.{◌≡◌, ◌∙◌, ℕ, zero, suc, ◌+◌, ◌-◌, ◌<◌, ◌≤◌, List, [], ◌∷◌, ◌++◌, refl, sym, ap, arith, length, get_or, take, append_assoc, length-append}
use Rattle.std.specs.Prelude.{replicate}
use Rattle.std.specs.List.{flat_map}
use Rattle.std.proofs.lemmas.List.{append-nil, replicate_more, take_more}
use Rattle.std.proofs.lemmas.List.Concat.{flat_map-append}
use Rattle.lanes.specs.CueChunks.{chunk_bytes}
use Rattle.lanes.specs.ServiceBytes.{AreFramesFrom}
use Rattle.lanes.specs.Batches.{AreBatches, bytes_of_first, frames_from}
use Rattle.lanes.specs.Chunks.{ServiceChunk}
use Rattle.lanes.specs.declared.batch.Batch.{Batch}

-- the units up to the last of the batches
abbrev units_behind : ℕ → List Batch → ℕ
units_behind before [] = before
units_behind before (s ∷ ss) = units_behind s.units ss

behind_push : (before : ℕ) (ss : List Batch) (s : Batch) → units_behind before (ss ++ s ∷ []) ≡ s.units
behind_push before [] s = refl
behind_push before (x ∷ ss) s = behind_push x.units ss s

frames_push : (before : ℕ) (ss : List Batch) (s : Batch)
    → frames_from before (ss ++ s ∷ []) ≡ frames_from before ss ++ replicate (s.units - units_behind before ss) s.frame
frames_push before [] s = append-nil (replicate (s.units - before) s.frame)
frames_push before (x ∷ ss) s =
    ap (λ l. replicate (x.units - before) x.frame ++ l) (frames_push x.units ss s)
    ∙ sym (append_assoc (replicate (x.units - before) x.frame) (frames_from x.units ss) (replicate (s.units - units_behind x.units ss) s.frame))

-- what is known of the last batch
pub record IsLast (chunks : List ServiceChunk) (before : ℕ) (ss : List Batch) (s : Batch) : Type 0 where
  pub behind : units_behind before ss ≤ s.units
  pub bytes : s.bytes ≡ bytes_of_first s.units chunks

pub is_last : (chunks : List ServiceChunk) (frame before : ℕ) (ss : List Batch) (s : Batch) → AreBatches chunks frame before (ss ++ s ∷ []) → IsLast chunks before ss s
is_last chunks frame before [] s are = record { behind = are.1; bytes = are.3 }
is_last chunks frame before (x ∷ ss) s are =
    let rest = is_last chunks (x.frame + 1) x.units ss s are.4 in record { behind = rest.behind; bytes = rest.bytes }

-- one more unit in the frame of the last batch
pub frames_grow : (chunks : List ServiceChunk) (ss : List Batch) (s t : Batch) → AreBatches chunks 0 0 (ss ++ s ∷ []) → t.frame ≡ s.frame → t.units ≡ s.units + 1
    → frames_from 0 (ss ++ t ∷ []) ≡ frames_from 0 (ss ++ s ∷ []) ++ t.frame ∷ []
frames_grow chunks ss s t are same more =
    let last = is_last chunks 0 0 ss s are in
    let count : t.units - units_behind 0 ss ≡ (s.units - units_behind 0 ss) + 1 = omega (arith, last.behind, more) in
    frames_push 0 ss t
    ∙ ap (λ n. frames_from 0 ss ++ replicate n t.frame) count
    ∙ ap (λ l. frames_from 0 ss ++ l) (sym (replicate_more (s.units - units_behind 0 ss) t.frame))
    ∙ sym (append_assoc (frames_from 0 ss) (replicate (s.units - units_behind 0 ss) t.frame) (t.frame ∷ []))
    ∙ ap (λ f. (frames_from 0 ss ++ replicate (s.units - units_behind 0 ss) f) ++ t.frame ∷ []) same
    ∙ ap (λ l. l ++ t.frame ∷ []) (sym (frames_push 0 ss s))

pub batches_grow : (chunks : List ServiceChunk) (frame before : ℕ) (ss : List Batch) (s t : Batch) → AreBatches chunks frame before (ss ++ s ∷ [])
    → t.frame ≡ s.frame → s.units ≤ t.units → t.units ≤ length chunks → t.bytes ≡ bytes_of_first t.units chunks
    → AreBatches chunks frame before (ss ++ t ∷ [])
batches_grow chunks frame before [] s t are same more within bytes =
    (omega (arith, are.0, same), omega (arith, are.1, more), within, bytes, tt)
batches_grow chunks frame before (x ∷ ss) s t are same more within bytes =
    (are.0, are.1, are.2, are.3, batches_grow chunks (x.frame + 1) x.units ss s t are.4 same more within bytes)

-- one more unit in a later frame
pub frames_more : (ss : List Batch) (s t : Batch) → t.units ≡ s.units + 1
    → frames_from 0 ((ss ++ s ∷ []) ++ t ∷ []) ≡ frames_from 0 (ss ++ s ∷ []) ++ t.frame ∷ []
frames_more ss s t more =
    let one : t.units - units_behind 0 (ss ++ s ∷ []) ≡ 1 = omega (arith, behind_push 0 ss s, more) in
    frames_push 0 (ss ++ s ∷ []) t ∙ ap (λ n. frames_from 0 (ss ++ s ∷ []) ++ replicate n t.frame) one

pub batches_more : (chunks : List ServiceChunk) (frame before : ℕ) (ss : List Batch) (s t : Batch) → AreBatches chunks frame before (ss ++ s ∷ [])
    → s.frame < t.frame → s.units ≤ t.units → t.units ≤ length chunks → t.bytes ≡ bytes_of_first t.units chunks
    → AreBatches chunks frame before ((ss ++ s ∷ []) ++ t ∷ [])
batches_more chunks frame before [] s t are later more within bytes =
    (are.0, are.1, are.2, are.3, (omega (arith, later), more, within, bytes, tt))
batches_more chunks frame before (x ∷ ss) s t are later more within bytes =
    (are.0, are.1, are.2, are.3, batches_more chunks (x.frame + 1) x.units ss s t are.4 later more within bytes)

-- the bytes of one more unit
pub bytes_of_more : (chunks : List ServiceChunk) (count : ℕ) (d : ServiceChunk) → count < length chunks
    → bytes_of_first (count + 1) chunks ≡ bytes_of_first count chunks + length (chunk_bytes (get_or chunks count d))
bytes_of_more chunks count d within =
    ap (λ l. length (flat_map chunk_bytes l)) (take_more chunks count d within)
    ∙ ap length (flat_map-append chunk_bytes (take count chunks) (get_or chunks count d ∷ []))
    ∙ length-append (flat_map chunk_bytes (take count chunks)) (chunk_bytes (get_or chunks count d) ++ [])
    ∙ ap (λ l. bytes_of_first count chunks + length l) (append-nil (chunk_bytes (get_or chunks count d)))

-- the frames of batches ascend
rise_from : (from frame : ℕ) (fs : List ℕ) → from ≤ frame → AreFramesFrom frame fs → AreFramesFrom from fs
rise_from from frame [] low rise = tt
rise_from from frame (f ∷ fs) low rise = (omega (arith, low, rise.0), rise.1)

rise_repeated : (count from frame : ℕ) (fs : List ℕ) → from ≤ frame → AreFramesFrom frame fs → AreFramesFrom from (replicate count frame ++ fs)
rise_repeated zero from frame fs low rise = rise_from from frame fs low rise
rise_repeated (suc count) from frame fs low rise = (low, rise_repeated count frame frame fs (omega arith) rise)

pub frames_ascend : (chunks : List ServiceChunk) (frame before : ℕ) (ss : List Batch) → AreBatches chunks frame before ss → AreFramesFrom frame (frames_from before ss)
frames_ascend chunks frame before [] are = tt
frames_ascend chunks frame before (s ∷ ss) are =
    rise_repeated (s.units - before) frame s.frame (frames_from s.units ss) are.0
    (rise_from s.frame (s.frame + 1) (frames_from s.units ss) (omega arith) (frames_ascend chunks (s.frame + 1) s.units ss are.4))
