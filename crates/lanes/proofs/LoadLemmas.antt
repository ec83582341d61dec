-- The units of a frame: the cursor's next batch, where that is in the frame.
use Rattle.std.proofs.Common.{◌≡◌, ◌∙◌, ℕ, zero, suc, ◌+◌, ◌-◌, ◌<◌, ◌≤◌, ◌==◌, Bool, true, false, if◌then◌else◌, List, [], ◌∷◌, ◌++◌, refl, sym, ap, subst, arith, length, get_or, take, drop, append_assoc, length-append}
use Rattle.std.specs.Prelude.{replicate}
use Rattle.std.specs.List.{flat_map, zip}
use Rattle.std.proofs.Math.Seq.{take-add}
use Rattle.std.proofs.lemmas.Bool.{eq-eqb}
use Rattle.std.proofs.lemmas.Bool.Decides.{nat_tests}
use Rattle.std.proofs.lemmas.List.{append-nil, drop_all, drop_at, drop_more, drop-drop, length-drop, take_at, take-append-drop}
use Rattle.std.proofs.lemmas.List.Concat.{flat_map-append}
use Rattle.lanes.specs.CueChunks.{chunk_bytes}
use Rattle.lanes.specs.ServiceBytes.{AreFramesFrom, IsLoading, loads_at}
use Rattle.lanes.specs.Batches.{AreBatches, bytes_of_first, frames_from, batch_frames}
use Rattle.lanes.specs.Chunks.{ServiceChunk}
use Rattle.lanes.specs.declared.service_cursor.Cursor.{Cursor}
use Rattle.lanes.specs.declared.batch.Batch.{Batch}
use Rattle.lanes.proofs.BatchLemmas.{frames_ascend}

later_frame : (f frame : ℕ) → frame < f → (f == frame) ≡ false
later_frame f frame high = grind (arith, nat_tests)

-- units that follow the frame have none in it
loads_none : (us : List ServiceChunk) (fs : List ℕ) (frame : ℕ) → AreFramesFrom (frame + 1) fs → loads_at (zip us fs) frame ≡ []
loads_none [] fs frame from = refl
loads_none (u ∷ us) [] frame from = refl
loads_none (u ∷ us) (f ∷ fs) frame from =
    let other = later_frame f frame (omega (arith, from.0)) in
    rw other (loads_none us fs frame (later fs from.1))
  where
    later : (gs : List ℕ) → AreFramesFrom f gs → AreFramesFrom (frame + 1) gs
    later [] rest = tt
    later (g ∷ gs) rest = (omega (arith, from.0, rest.0), rest.1)

-- the units of a batch have all of their bytes in its frame, and none in another
loads_batch : (count f frame : ℕ) (us : List ServiceChunk) (gs : List ℕ) → count ≤ length us
    → loads_at (zip us (replicate count f ++ gs)) frame
    ≡ (if f == frame then flat_map chunk_bytes (take count us) else []) ++ loads_at (zip (drop count us) gs) frame
loads_batch zero f frame us gs few = at (f == frame)
  where
    at : (b : Bool) → loads_at (zip us gs) frame ≡ (if b then [] else []) ++ loads_at (zip us gs) frame
    at true = refl
    at false = refl
loads_batch (suc count) f frame [] gs few = absurd (omega arith)
loads_batch (suc count) f frame (u ∷ us) gs few =
    ap (λ l. (if f == frame then u.unit else []) ++ l) (loads_batch count f frame us gs (omega arith)) ∙ join (f == frame)
  where
    join : (b : Bool) → (if b then u.unit else []) ++ ((if b then flat_map chunk_bytes (take count us) else []) ++ loads_at (zip (drop count us) gs) frame)
        ≡ (if b then u.unit ++ flat_map chunk_bytes (take count us) else []) ++ loads_at (zip (drop count us) gs) frame
    join true = sym (append_assoc u.unit (flat_map chunk_bytes (take count us)) (loads_at (zip (drop count us) gs) frame))
    join false = refl

-- the bytes of the units from one place to another stand together
record IsPart (chunks : List ServiceChunk) (from to : ℕ) : Type 0 where
  pub order : bytes_of_first from chunks ≤ bytes_of_first to chunks
  pub within : bytes_of_first to chunks ≤ length (flat_map chunk_bytes chunks)
  pub bytes : take (bytes_of_first to chunks - bytes_of_first from chunks) (drop (bytes_of_first from chunks) (flat_map chunk_bytes chunks))
      ≡ flat_map chunk_bytes (take (to - from) (drop from chunks))

is_part : (chunks : List ServiceChunk) (from to : ℕ) → from ≤ to → IsPart chunks from to
is_part chunks from to low = record {
  order = omega (arith, longer);
  within = omega (arith, longer, ap length whole, length-append before (mine ++ behind), length-append mine behind);
  bytes = ap (λ n. take n (drop (length before) (flat_map chunk_bytes chunks))) size ∙ ap (take (length mine)) rest ∙ take_at mine behind (length mine) refl;
}
  where
    before : List ℕ
    before = flat_map chunk_bytes (take from chunks)

    mine : List ℕ
    mine = flat_map chunk_bytes (take (to - from) (drop from chunks))

    behind : List ℕ
    behind = flat_map chunk_bytes (drop (to - from) (drop from chunks))

    inner : flat_map chunk_bytes (drop from chunks)
        ≡ flat_map chunk_bytes (take (to - from) (drop from chunks)) ++ flat_map chunk_bytes (drop (to - from) (drop from chunks))
    inner = ap (flat_map chunk_bytes) (sym (take-append-drop (to - from) (drop from chunks)))
        ∙ flat_map-append chunk_bytes (take (to - from) (drop from chunks)) (drop (to - from) (drop from chunks))

    outer : flat_map chunk_bytes chunks ≡ flat_map chunk_bytes (take from chunks) ++ flat_map chunk_bytes (drop from chunks)
    outer = ap (flat_map chunk_bytes) (sym (take-append-drop from chunks)) ∙ flat_map-append chunk_bytes (take from chunks) (drop from chunks)

    whole : flat_map chunk_bytes chunks
        ≡ flat_map chunk_bytes (take from chunks)
        ++ (flat_map chunk_bytes (take (to - from) (drop from chunks)) ++ flat_map chunk_bytes (drop (to - from) (drop from chunks)))
    whole = outer ∙ ap (λ l. flat_map chunk_bytes (take from chunks) ++ l) inner

    upto : take to chunks ≡ take from chunks ++ take (to - from) (drop from chunks)
    upto = let sum : to ≡ from + (to - from) = omega (arith, low) in ap (λ n. take n chunks) sum ∙ take-add from (to - from) chunks

    longer : bytes_of_first to chunks ≡ bytes_of_first from chunks + length (flat_map chunk_bytes (take (to - from) (drop from chunks)))
    longer = ap (λ l. length (flat_map chunk_bytes l)) upto
        ∙ ap length (flat_map-append chunk_bytes (take from chunks) (take (to - from) (drop from chunks)))
        ∙ length-append (flat_map chunk_bytes (take from chunks)) (flat_map chunk_bytes (take (to - from) (drop from chunks)))

    size : bytes_of_first to chunks - bytes_of_first from chunks ≡ length (flat_map chunk_bytes (take (to - from) (drop from chunks)))
    size = omega (arith, longer)

    rest : drop (bytes_of_first from chunks) (flat_map chunk_bytes chunks)
        ≡ flat_map chunk_bytes (take (to - from) (drop from chunks)) ++ flat_map chunk_bytes (drop (to - from) (drop from chunks))
    rest = ap (drop (bytes_of_first from chunks)) whole
        ∙ drop_at (flat_map chunk_bytes (take from chunks))
        (flat_map chunk_bytes (take (to - from) (drop from chunks)) ++ flat_map chunk_bytes (drop (to - from) (drop from chunks))) (bytes_of_first from chunks) refl

-- the cursor's next batch is in its frame
pub record IsLoaded (chunks : List ServiceChunk) (batches : List Batch) (cursor : Cursor) (s : Batch) : Type 0 where
  pub order : cursor.start ≤ s.bytes
  pub within : s.bytes ≤ length (flat_map chunk_bytes chunks)
  pub bytes : take (s.bytes - cursor.start) (drop cursor.start (flat_map chunk_bytes chunks)) ≡ loads_at (zip chunks (batch_frames batches)) cursor.frame
  pub behind : IsLoading chunks batches (record cursor { frame = cursor.frame + 1; next = cursor.next + 1; start = s.bytes })

pub is_loaded : (chunks : List ServiceChunk) (batches : List Batch) (cursor : Cursor) (s : Batch) → IsLoading chunks batches cursor
    → cursor.next < length batches → s ≡ get_or batches cursor.next s → s.frame ≡ cursor.frame → IsLoaded chunks batches cursor s
is_loaded chunks batches cursor s is there read here = record {
  order = omega (arith, part.order, is.start, bytes_are);
  within = omega (arith, part.within, bytes_are);
  bytes =
      ap (λ n. take (n - cursor.start) (drop cursor.start (flat_map chunk_bytes chunks))) bytes_are
      ∙ ap (λ n. take (bytes_of_first s.units chunks - n) (drop n (flat_map chunk_bytes chunks))) is.start
      ∙ part.bytes ∙ sym loads;
  behind = record {
    passed = s.units;
    start = bytes_are;
    same = λ frame later. is.same frame (omega (arith, later)) ∙ split frame ∙ gone frame (omega (arith, later));
    ahead = subst (λ f. AreBatches chunks (f + 1) s.units rest) here ahead.4;
  };
}
  where
    rest : List Batch
    rest = drop (cursor.next + 1) batches

    next : drop cursor.next batches ≡ s ∷ drop (cursor.next + 1) batches
    next = drop_more batches cursor.next s there ∙ ap (λ d. d ∷ drop (cursor.next + 1) batches) (sym read)

    ahead : AreBatches chunks cursor.frame is.passed (s ∷ drop (cursor.next + 1) batches)
    ahead = subst (AreBatches chunks cursor.frame is.passed) next is.ahead

    part : IsPart chunks is.passed s.units
    part = is_part chunks is.passed s.units ahead.1

    bytes_are : s.bytes ≡ bytes_of_first s.units chunks
    bytes_are = ahead.3

    split : (frame : ℕ) → loads_at (zip (drop is.passed chunks) (frames_from is.passed (drop cursor.next batches))) frame
        ≡ (if s.frame == frame then flat_map chunk_bytes (take (s.units - is.passed) (drop is.passed chunks)) else [])
        ++ loads_at (zip (drop s.units chunks) (frames_from s.units (drop (cursor.next + 1) batches))) frame
    split frame =
        let sum : is.passed + (s.units - is.passed) ≡ s.units = omega (arith, ahead.1) in
        ap (λ l. loads_at (zip (drop is.passed chunks) (frames_from is.passed l)) frame) next
        ∙ loads_batch (s.units - is.passed) s.frame frame (drop is.passed chunks) (frames_from s.units (drop (cursor.next + 1) batches))
        (omega (arith, ahead.2, length-drop is.passed chunks))
        ∙ ap (λ l. (if s.frame == frame then flat_map chunk_bytes (take (s.units - is.passed) (drop is.passed chunks)) else [])
        ++ loads_at (zip l (frames_from s.units (drop (cursor.next + 1) batches))) frame)
        (drop-drop (s.units - is.passed) is.passed chunks ∙ ap (λ n. drop n chunks) sum)

    gone : (frame : ℕ) → cursor.frame < frame
        → (if s.frame == frame then flat_map chunk_bytes (take (s.units - is.passed) (drop is.passed chunks)) else [])
        ++ loads_at (zip (drop s.units chunks) (frames_from s.units (drop (cursor.next + 1) batches))) frame
        ≡ loads_at (zip (drop s.units chunks) (frames_from s.units (drop (cursor.next + 1) batches))) frame
    gone frame later = let other : (s.frame == frame) ≡ false = grind (arith, nat_tests) in rw other refl

    none : loads_at (zip (drop s.units chunks) (frames_from s.units (drop (cursor.next + 1) batches))) cursor.frame ≡ []
    none = loads_none (drop s.units chunks) (frames_from s.units (drop (cursor.next + 1) batches)) cursor.frame
        (frames_ascend chunks (cursor.frame + 1) s.units (drop (cursor.next + 1) batches)
        (subst (λ f. AreBatches chunks (f + 1) s.units (drop (cursor.next + 1) batches)) here ahead.4))

    loads : loads_at (zip chunks (batch_frames batches)) cursor.frame ≡ flat_map chunk_bytes (take (s.units - is.passed) (drop is.passed chunks))
    loads =
        let same : (s.frame == cursor.frame) ≡ true = eq-eqb s.frame cursor.frame here in
        is.same cursor.frame (omega arith) ∙ split cursor.frame
        ∙ rw (same, none) (append-nil (flat_map chunk_bytes (take (s.units - is.passed) (drop is.passed chunks))))

-- no batch is left, or the next one is in a later frame
pub record IsUnloaded (chunks : List ServiceChunk) (batches : List Batch) (cursor : Cursor) : Type 0 where
  pub none : loads_at (zip chunks (batch_frames batches)) cursor.frame ≡ []
  pub behind : IsLoading chunks batches (record cursor { frame = cursor.frame + 1 })

unloaded_by : (chunks : List ServiceChunk) (batches : List Batch) (cursor : Cursor) (is : IsLoading chunks batches cursor)
    → AreBatches chunks (cursor.frame + 1) is.passed (drop cursor.next batches) → IsUnloaded chunks batches cursor
unloaded_by chunks batches cursor is ahead = record {
  none = is.same cursor.frame (omega arith)
      ∙ loads_none (drop is.passed chunks) (frames_from is.passed (drop cursor.next batches)) cursor.frame
      (frames_ascend chunks (cursor.frame + 1) is.passed (drop cursor.next batches) ahead);
  behind = record {
    passed = is.passed;
    start = is.start;
    same = λ frame later. is.same frame (omega (arith, later));
    ahead = ahead;
  };
}

pub all_loaded : (chunks : List ServiceChunk) (batches : List Batch) (cursor : Cursor) → IsLoading chunks batches cursor → length batches ≤ cursor.next
    → IsUnloaded chunks batches cursor
all_loaded chunks batches cursor is end =
    unloaded_by chunks batches cursor is (subst (AreBatches chunks (cursor.frame + 1) is.passed) (sym (drop_all cursor.next batches end)) tt)

pub not_yet : (chunks : List ServiceChunk) (batches : List Batch) (cursor : Cursor) (s : Batch) → IsLoading chunks batches cursor
    → cursor.next < length batches → s ≡ get_or batches cursor.next s → (s.frame ≡ cursor.frame → ⊥) → IsUnloaded chunks batches cursor
not_yet chunks batches cursor s is there read other =
    let next : drop cursor.next batches ≡ s ∷ drop (cursor.next + 1) batches =
    drop_more batches cursor.next s there ∙ ap (λ d. d ∷ drop (cursor.next + 1) batches) (sym read) in
    let ahead : AreBatches chunks cursor.frame is.passed (s ∷ drop (cursor.next + 1) batches) =
    subst (AreBatches chunks cursor.frame is.passed) next is.ahead in
    unloaded_by chunks batches cursor is
    (subst (AreBatches chunks (cursor.frame + 1) is.passed) (sym next) (omega (arith, ahead.0, other), ahead.1, ahead.2, ahead.3, ahead.4))

-- the cursor at the beginning
pub loading_start : (chunks : List ServiceChunk) (batches : List Batch) (cursor : Cursor) → AreBatches chunks 0 0 batches → cursor.frame ≡ 0 → cursor.next ≡ 0
    → cursor.start ≡ 0 → IsLoading chunks batches cursor
loading_start chunks batches cursor are frame next start = record {
  passed = 0;
  start = start;
  same = λ other later. ap (λ n. loads_at (zip chunks (frames_from 0 (drop n batches))) other) (sym next);
  ahead = subst (λ n. AreBatches chunks n 0 (drop cursor.next batches)) (sym frame) (subst (λ n. AreBatches chunks 0 0 (drop n batches)) (sym next) are);
}
