-- The units of a service placed one by one: the batches of those that are placed.
use Rattle.std.proofs.Common.{◌≡◌, ◌∙◌, ℕ, ◌+◌, ◌<◌, ◌≤◌, List, [], ◌∷◌, ◌++◌, sym, ap, subst, arith, length, get_or, take, ⊎_elim}
use Rattle.std.proofs.lemmas.Bool.{cases_lt}
use Rattle.std.specs.List.{zip}
use Rattle.dtvcc_author.specs.declared.caption.Caption.{Caption}
use Rattle.lanes.specs.FirstFit.{IsFirst}
use Rattle.lanes.specs.LaneRoom.{AreInCueOrder, IsFirstCrowded}
use Rattle.lanes.specs.Placing.{IsEarliest}
use Rattle.lanes.specs.CueChunks.{chunk_in}
use Rattle.lanes.specs.ServiceChunks.{service_chunk_cue}
use Rattle.lanes.specs.ServicePlacing.{IsOfCue, IsPlacing, Reaches, batches_of}
use Rattle.lanes.specs.ServiceRoom.{IsFirstBehind, IsFront, caption_lane}
use Rattle.lanes.specs.Batches.{AreBatches, bytes_of_first, batch_frames}
use Rattle.lanes.specs.Chunks.{ServiceChunk}
use Rattle.lanes.specs.declared.cue_load.CueLoad.{CueLoad}
use Rattle.lanes.specs.declared.service_front.Front.{Front}
use Rattle.lanes.specs.declared.placing.Placing.{Placing}
use Rattle.lanes.specs.declared.batch.Batch.{Batch}
use Rattle.lanes.proofs.PlaceLemmas.{reaches_all, reaches_next, reaches_none}
use Rattle.lanes.proofs.BatchLemmas.{bytes_of_more, frames_grow, frames_more, is_last, batches_grow, batches_more}

-- what placing the next unit of a cue gave
pub record IsPlaced (share : ℕ) (cs : List Caption) (chunk : ServiceChunk) (old new : Front) (frame : ℕ) : Type 0 where
  pub first : (before : List (ServiceChunk × ℕ)) → IsFront share cs before old → IsFirstBehind before old.frame → IsFirst (caption_lane share cs before chunk) frame
  pub front : (before : List (ServiceChunk × ℕ)) → IsFront share cs before old → IsFront share cs (before ++ (chunk, frame) ∷ []) new
  pub at : new.frame ≡ frame

-- the units so far and one more
module _ (share : ℕ) (cs : List Caption) (us : List ServiceChunk) (cue : CueLoad) (units : List (List ℕ)) (ss : List Batch) (s t : Batch) (old new : Front)
    (reaches : Reaches share cs (take s.units us) (batch_frames (ss ++ s ∷ [])) old) (are : AreBatches us 0 0 (ss ++ s ∷ [])) (same : s.frame ≡ old.frame)
    (of_cue : IsOfCue cue units us s.units) (placed : IsPlaced share cs (chunk_in cue (get_or units s.units [])) old new t.frame)
    (more : t.units ≡ s.units + 1) (bytes : t.bytes ≡ s.bytes + length (get_or units s.units [])) where
  chunk : ServiceChunk
  chunk = chunk_in cue (get_or units s.units [])

  -- the unit's frame isn't before the frame of the units before it
  pub no_earlier : s.frame ≤ t.frame
  no_earlier =
      let before = zip (take s.units us) (batch_frames (ss ++ s ∷ [])) in
      let least = placed.first before reaches.front_is reaches.first in
      omega (arith, same, reaches.first t.frame least.holds.order)

  sized : t.bytes ≡ bytes_of_first t.units us
  sized =
      let d = chunk_in cue (get_or units s.units []) in
      let unit : length (get_or us s.units d).unit ≡ length (get_or units s.units []) = ap (λ (c : ServiceChunk). length c.unit) (of_cue.is d) in
      let last = is_last us 0 0 ss s are in
      bytes ∙ ap (λ n. n + length (get_or units s.units [])) last.bytes
      ∙ ap (λ n. bytes_of_first s.units us + n) (sym unit) ∙ sym (bytes_of_more us s.units d of_cue.within) ∙ ap (λ n. bytes_of_first n us) (sym more)

  reached : Reaches share cs (take (s.units + 1) us) (batch_frames (ss ++ s ∷ []) ++ t.frame ∷ []) new
  reached =
      let d = chunk_in cue (get_or units s.units []) in
      reaches_next share cs us s.units d (batch_frames (ss ++ s ∷ [])) old new t.frame of_cue.within reaches
      (subst (λ u. (before : List (ServiceChunk × ℕ)) → IsFront share cs before old → IsFirstBehind before old.frame → IsFirst (caption_lane share cs before u) t.frame)
      (sym (of_cue.is d)) placed.first)
      (subst (λ u. (before : List (ServiceChunk × ℕ)) → IsFront share cs before old → IsFront share cs (before ++ (u, t.frame) ∷ []) new) (sym (of_cue.is d)) placed.front)
      placed.at

  -- it stands in the frame of the last batch
  pub placing_grow : t.frame ≡ s.frame
      → Reaches share cs (take t.units us) (batch_frames (ss ++ t ∷ [])) new × AreBatches us 0 0 (ss ++ t ∷ []) × (t.frame ≡ new.frame)
  placing_grow here = (
    subst (λ n. Reaches share cs (take n us) (batch_frames (ss ++ t ∷ [])) new) (sym more)
        (subst (λ l. Reaches share cs (take (s.units + 1) us) l new) (sym (frames_grow us ss s t are here more)) reached),
    batches_grow us 0 0 ss s t are here (omega (arith, more)) (omega (arith, more, of_cue.within)) sized,
    sym placed.at,
  )

  -- or in a later one
  pub placing_more : s.frame < t.frame
      → Reaches share cs (take t.units us) (batch_frames ((ss ++ s ∷ []) ++ t ∷ [])) new × AreBatches us 0 0 ((ss ++ s ∷ []) ++ t ∷ []) × (t.frame ≡ new.frame)
  placing_more later = (
    subst (λ n. Reaches share cs (take n us) (batch_frames ((ss ++ s ∷ []) ++ t ∷ [])) new) (sym more)
        (subst (λ l. Reaches share cs (take (s.units + 1) us) l new) (sym (frames_more ss s t more)) reached),
    batches_more us 0 0 ss s t are later (omega (arith, more)) (omega (arith, more, of_cue.within)) sized,
    sym placed.at,
  )

-- where no frame is allowed for the next unit, its cue is the first without room
pub placing_none : (share : ℕ) (cs : List Caption) (us : List ServiceChunk) (cue : CueLoad) (units : List (List ℕ)) (index : ℕ) (frames : List ℕ) (old : Front)
    → AreInCueOrder service_chunk_cue us → Reaches share cs (take index us) frames old → IsOfCue cue units us index
    → ((before : List (ServiceChunk × ℕ)) → IsFront share cs before old → IsFirstBehind before old.frame → (frame : ℕ)
    → caption_lane share cs before (chunk_in cue (get_or units index [])) frame → ⊥)
    → IsFirstCrowded (caption_lane share cs) service_chunk_cue us cue.cue
placing_none share cs us cue units index frames old order reaches of_cue nowhere =
    let d = chunk_in cue (get_or units index []) in
    let named : (get_or us index d).cue ≡ cue.cue = ap service_chunk_cue (of_cue.is d) in
    subst (IsFirstCrowded (caption_lane share cs) service_chunk_cue us) named
    (reaches_none share cs us index d frames old order of_cue.within reaches
    (subst (λ u. (before : List (ServiceChunk × ℕ)) → IsFront share cs before old → IsFirstBehind before old.frame → (f : ℕ) → caption_lane share cs before u f → ⊥)
    (sym (of_cue.is d)) nowhere))

-- the next unit is placed, and its batch is the last one
pub placing_next : (share : ℕ) (cs : List Caption) (us : List ServiceChunk) (cue : CueLoad) (units : List (List ℕ)) (old new : Placing) (t : Batch)
    → IsPlacing share cs us old → IsOfCue cue units us old.last.units
    → IsPlaced share cs (chunk_in cue (get_or units old.last.units [])) old.front new.front t.frame → t.units ≡ old.last.units + 1
    → t.bytes ≡ old.last.bytes + length (get_or units old.last.units []) → new.last ≡ t
    → (t.frame ≡ old.last.frame → batches_of new ≡ old.batches.items ++ t ∷ [])
    → ((t.frame ≡ old.last.frame → ⊥) → batches_of new ≡ batches_of old ++ t ∷ [])
    → IsPlacing share cs us new
placing_next share cs us cue units old new t is of_cue placed more bytes last grown later =
    ⊎_elim
    (λ (i : old.last.frame < t.frame).
    let moved = placing_more share cs us cue units old.batches.items old.last t old.front new.front is.reaches is.batches is.frame of_cue placed more bytes i in
    made (batches_of old ++ t ∷ []) (later (λ e. omega arith)) moved)
    (λ (i : t.frame ≤ old.last.frame).
    let low = no_earlier share cs us cue units old.batches.items old.last t old.front new.front is.reaches is.batches is.frame of_cue placed more bytes in
    let same : t.frame ≡ old.last.frame = omega arith in
    let stayed = placing_grow share cs us cue units old.batches.items old.last t old.front new.front is.reaches is.batches is.frame of_cue placed more bytes same in
    made (old.batches.items ++ t ∷ []) (grown same) stayed)
    (cases_lt old.last.frame t.frame)
  where
    made : (ss : List Batch) → batches_of new ≡ ss
        → Reaches share cs (take t.units us) (batch_frames ss) new.front × AreBatches us 0 0 ss × (t.frame ≡ new.front.frame)
        → IsPlacing share cs us new
    made ss are known = record {
      reaches =
          subst (λ (s : Batch). Reaches share cs (take s.units us) (batch_frames (batches_of new)) new.front) (sym last)
          (subst (λ l. Reaches share cs (take t.units us) (batch_frames l) new.front) (sym are) known.0);
      batches = subst (AreBatches us 0 0) (sym are) known.1;
      frame = ap (λ (s : Batch). s.frame) last ∙ known.2;
    }

-- all units are placed
pub placing_all : (share : ℕ) (cs : List Caption) (us : List ServiceChunk) (placing : Placing) (ss : List Batch) → IsPlacing share cs us placing
    → length us ≤ placing.last.units → ss ≡ batches_of placing → IsEarliest (caption_lane share cs) us (batch_frames ss) × AreBatches us 0 0 ss
placing_all share cs us placing ss is end are = (
  subst (λ l. IsEarliest (caption_lane share cs) us (batch_frames l)) (sym are)
      (reaches_all share cs us placing.last.units (batch_frames (batches_of placing)) placing.front end is.reaches),
  subst (AreBatches us 0 0) (sym are) is.batches,
)
