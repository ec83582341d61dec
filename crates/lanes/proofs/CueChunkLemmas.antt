-- The units of a service, kept by their cues: one more cue, their bytes, and the units of each cue in turn.
use Rattle.std.proofs.Common.{◌≡◌, ◌∙◌, ℕ, ◌+◌, ◌-◌, ◌<◌, ◌≤◌, List, [], ◌∷◌, ◌++◌, refl, sym, ap, subst, arith, length, get_or, take, drop, append_assoc, length-append, map}
use Rattle.std.specs.List.{concat, flat_map}
use Rattle.std.proofs.lemmas.List.{append-nil, drop_all, drop_at, drop_more, drop-append-le, drop-drop, get_or-drop, get_or-map, get_or-take, get_or_append_left, get_or_default, length-drop, length-map, length-take-le, take_all, take-append-drop, take-append-le}
use Rattle.std.proofs.lemmas.List.Concat.{flat_map-append}
use Rattle.lanes.specs.CueChunks.{AreCounted, chunk_bytes, chunk_in, chunks_of}
use Rattle.lanes.specs.ServicePlacing.{AreOfCue, IsOfCue}
use Rattle.lanes.specs.Chunks.{ServiceChunk}
use Rattle.lanes.specs.declared.cue_load.CueLoad.{CueLoad}

-- one more cue has its units after the others' units
pub counted_push : (cues : List CueLoad) (cue : CueLoad) (units more : List (List ℕ)) → AreCounted cues units → cue.count ≡ length more
    → AreCounted (cues ++ cue ∷ []) (units ++ more)
counted_push [] cue units more counted count =
    subst (λ us. AreCounted (cue ∷ []) (us ++ more)) (sym counted) (omega (arith, count), drop_all cue.count more (omega (arith, count)))
counted_push (first ∷ cues) cue units more counted count =
    let whole = length-append units more in (
      omega (arith, whole, counted.0),
      subst (AreCounted (cues ++ cue ∷ [])) (sym (drop-append-le first.count units more counted.0))
          (counted_push cues cue (drop first.count units) more counted.1 count),
    )

pub chunks_push : (cues : List CueLoad) (cue : CueLoad) (units more : List (List ℕ)) → AreCounted cues units → cue.count ≡ length more
    → chunks_of (cues ++ cue ∷ []) (units ++ more) ≡ chunks_of cues units ++ map (chunk_in cue) more
chunks_push [] cue units more counted count =
    ap (λ us. chunks_of (cue ∷ []) (us ++ more)) counted
    ∙ append-nil (map (chunk_in cue) (take cue.count more))
    ∙ ap (map (chunk_in cue)) (take_all cue.count more (omega (arith, count)))
chunks_push (first ∷ cues) cue units more counted count =
    ap (λ l. map (chunk_in first) l ++ chunks_of (cues ++ cue ∷ []) (drop first.count (units ++ more))) (take-append-le first.count units more counted.0)
    ∙ ap (λ l. map (chunk_in first) (take first.count units) ++ chunks_of (cues ++ cue ∷ []) l) (drop-append-le first.count units more counted.0)
    ∙ ap (λ l. map (chunk_in first) (take first.count units) ++ l) (chunks_push cues cue (drop first.count units) more counted.1 count)
    ∙ sym (append_assoc (map (chunk_in first) (take first.count units)) (chunks_of cues (drop first.count units)) (map (chunk_in cue) more))

-- their bytes are the units' bytes
cue_bytes : (cue : CueLoad) (units : List (List ℕ)) → flat_map chunk_bytes (map (chunk_in cue) units) ≡ concat units
cue_bytes cue [] = refl
cue_bytes cue (unit ∷ units) = ap (λ l. unit ++ l) (cue_bytes cue units)

concat_append : (xs ys : List (List ℕ)) → concat (xs ++ ys) ≡ concat xs ++ concat ys
concat_append [] ys = refl
concat_append (x ∷ xs) ys = ap (λ l. x ++ l) (concat_append xs ys) ∙ sym (append_assoc x (concat xs) (concat ys))

pub chunks_bytes : (cues : List CueLoad) (units : List (List ℕ)) → AreCounted cues units → flat_map chunk_bytes (chunks_of cues units) ≡ concat units
chunks_bytes [] units counted = ap concat (sym counted)
chunks_bytes (cue ∷ cues) units counted =
    flat_map-append chunk_bytes (map (chunk_in cue) (take cue.count units)) (chunks_of cues (drop cue.count units))
    ∙ ap (λ l. l ++ flat_map chunk_bytes (chunks_of cues (drop cue.count units))) (cue_bytes cue (take cue.count units))
    ∙ ap (λ l. concat (take cue.count units) ++ l) (chunks_bytes cues (drop cue.count units) counted.1)
    ∙ sym (concat_append (take cue.count units) (drop cue.count units))
    ∙ ap concat (take-append-drop cue.count units)

-- the units after this many are the units of the cues after this many
pub record AreLeft (cues : List CueLoad) (units : List (List ℕ)) (chunks : List ServiceChunk) (index from : ℕ) : Type 0 where
  pub are : drop from chunks ≡ chunks_of (drop index cues) (drop from units)
  pub counted : AreCounted (drop index cues) (drop from units)

-- the next cue has the next units, and the cues after it have the rest
pub record TakesNext (cues : List CueLoad) (units : List (List ℕ)) (chunks : List ServiceChunk) (index from : ℕ) (cue : CueLoad) : Type 0 where
  pub within : from + cue.count ≤ length units
  pub of_it : AreOfCue cue units chunks from
  pub left : AreLeft cues units chunks (index + 1) (from + cue.count)

pub takes_next : (cues : List CueLoad) (units : List (List ℕ)) (chunks : List ServiceChunk) (index from : ℕ) (cue : CueLoad) → from ≤ length units
    → index < length cues → cue ≡ get_or cues index cue → AreLeft cues units chunks index from → TakesNext cues units chunks index from cue
takes_next cues units chunks index from cue low there is left = record {
  within = omega (arith, few, low, length-drop from units);
  of_it = λ at later before. of_cue (at - from) at (omega (arith, later)) (omega (arith, later, before));
  left = record {
    are = sym (drop-drop cue.count from chunks) ∙ ap (drop cue.count) parts ∙ drop_at mine rest cue.count size
        ∙ ap (chunks_of (drop (index + 1) cues)) (drop-drop cue.count from units);
    counted = subst (AreCounted (drop (index + 1) cues)) (drop-drop cue.count from units) counted.1;
  };
}
  where
    front : List (List ℕ)
    front = take cue.count (drop from units)

    mine : List ServiceChunk
    mine = map (chunk_in cue) (take cue.count (drop from units))

    rest : List ServiceChunk
    rest = chunks_of (drop (index + 1) cues) (drop cue.count (drop from units))

    next : drop index cues ≡ cue ∷ drop (index + 1) cues
    next = drop_more cues index cue there ∙ ap (λ d. d ∷ drop (index + 1) cues) (sym is)

    counted : AreCounted (cue ∷ drop (index + 1) cues) (drop from units)
    counted = subst (λ l. AreCounted l (drop from units)) next left.counted

    few : cue.count ≤ length (drop from units)
    few = counted.0

    parts : drop from chunks ≡ map (chunk_in cue) (take cue.count (drop from units)) ++ chunks_of (drop (index + 1) cues) (drop cue.count (drop from units))
    parts = left.are ∙ ap (λ l. chunks_of l (drop from units)) next

    size : length (map (chunk_in cue) (take cue.count (drop from units))) ≡ cue.count
    size = length-map (take cue.count (drop from units)) (chunk_in cue) ∙ length-take-le cue.count (drop from units) few

    of_cue : (j at : ℕ) → from + j ≡ at → j < cue.count → IsOfCue cue units chunks at
    of_cue j at sum low = record {
      within =
          omega (
            arith,
            length-drop from chunks,
            ap length parts,
            length-append (map (chunk_in cue) (take cue.count (drop from units))) (chunks_of (drop (index + 1) cues) (drop cue.count (drop from units))),
            size,
            sum,
            low,
          );
      is = λ d.
          ap (λ n. get_or chunks n d) (sym sum) ∙ sym (get_or-drop from chunks j d) ∙ ap (λ l. get_or l j d) parts
          ∙ get_or_append_left (map (chunk_in cue) (take cue.count (drop from units))) (chunks_of (drop (index + 1) cues) (drop cue.count (drop from units))) d j
          (omega (arith, size, low))
          ∙ get_or-map (chunk_in cue) (take cue.count (drop from units)) j [] d (omega (arith, length-take-le cue.count (drop from units) few, low))
          ∙ ap (chunk_in cue) (get_or-take cue.count (drop from units) j [] low ∙ get_or-drop from units j [] ∙ ap (λ n. get_or units n []) sum);
    }

-- after all cues no unit is left
pub none_left : (cues : List CueLoad) (units : List (List ℕ)) (chunks : List ServiceChunk) (index from : ℕ) → length cues ≤ index
    → AreLeft cues units chunks index from → length chunks ≤ from
none_left cues units chunks index from end left =
    let none : drop from chunks ≡ [] = left.are ∙ ap (λ l. chunks_of l (drop from units)) (drop_all index cues end) in
    omega (arith, length-drop from chunks, ap length none)

-- so does the cue that is read
pub takes_at : (cues : List CueLoad) (units : List (List ℕ)) (chunks : List ServiceChunk) (index from : ℕ) (d : CueLoad) → from ≤ length units
    → index < length cues → AreLeft cues units chunks index from → TakesNext cues units chunks index from (get_or cues index d)
takes_at cues units chunks index from d low there left =
    takes_next cues units chunks index from (get_or cues index d) low there (get_or_default cues index d (get_or cues index d) there) left
