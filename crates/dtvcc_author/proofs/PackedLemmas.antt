-- Units that are kept as the bytes of all and the length of each.
use Rattle.std.proofs.Common.{◌≡◌, ◌∙◌, ℕ, zero, suc, ◌+◌, ◌<◌, ◌≤◌, List, [], ◌∷◌, ◌++◌, refl, sym, ap, subst, arith, length, get_or, take, drop, append_assoc, length-append, map}
use Rattle.std.specs.Prelude.{All}
use Rattle.std.specs.List.{concat}
use Rattle.std.proofs.lemmas.List.{append-nil, drop_at, drop-drop, drop_more, get_or-map, length-map, map_push, take_at, take_more}
use Rattle.std.proofs.lemmas.List.Elements.{All-push}
use Rattle.dtvcc_author.specs.Packed.{ArePacked, bytes_before, divided}

-- units that are joined are divided as they were
divided_joined : (units : List (List ℕ)) → divided (map length units) (concat units) ≡ units
divided_joined [] = refl
divided_joined (unit ∷ units) =
    let first = take_at unit (concat units) (length unit) refl in
    let rest = drop_at unit (concat units) (length unit) refl in
    rw (first, rest) (ap (λ l. unit ∷ l) (divided_joined units))

pub concat_push : (units : List (List ℕ)) (unit : List ℕ) → concat (units ++ unit ∷ []) ≡ concat units ++ unit
concat_push [] unit = append-nil unit
concat_push (first ∷ units) unit = ap (λ l. first ++ l) (concat_push units unit) ∙ sym (append_assoc first (concat units) unit)

-- one more unit
pub divided_push : (sizes bytes unit : List ℕ) → ArePacked sizes bytes → divided (sizes ++ length unit ∷ []) (bytes ++ unit) ≡ divided sizes bytes ++ unit ∷ []
divided_push sizes bytes unit is =
    let units = divided sizes bytes in
    let sizes_are : map length (units ++ unit ∷ []) ≡ sizes ++ length unit ∷ [] = map_push length units unit ∙ ap (λ l. l ++ length unit ∷ []) is.lengths in
    let bytes_are : concat (units ++ unit ∷ []) ≡ bytes ++ unit = concat_push units unit ∙ ap (λ l. l ++ unit) is.whole in
    ap (λ l. divided l (bytes ++ unit)) (sym sizes_are)
    ∙ ap (divided (map length (units ++ unit ∷ []))) (sym bytes_are)
    ∙ divided_joined (units ++ unit ∷ [])

pub packed_push : (sizes bytes unit : List ℕ) → ArePacked sizes bytes → length unit ≤ 7 → ArePacked (sizes ++ length unit ∷ []) (bytes ++ unit)
packed_push sizes bytes unit is small =
    let units = divided sizes bytes in
    let are = divided_push sizes bytes unit is in
    record {
      lengths = ap (map length) are ∙ map_push length units unit ∙ ap (λ l. l ++ length unit ∷ []) is.lengths;
      whole = ap concat are ∙ concat_push units unit ∙ ap (λ l. l ++ unit) is.whole;
      small = All-push (λ (size : ℕ). size ≤ 7) sizes (length unit) is.small small;
    }

-- a unit follows those before it
pub unit_there : (units : List (List ℕ)) (index : ℕ) → index < length units
    → take (length (get_or units index [])) (drop (bytes_before index units) (concat units)) ≡ get_or units index []
unit_there [] index within = absurd (omega arith)
unit_there (unit ∷ units) zero within = take_at unit (concat units) (length unit) refl
unit_there (unit ∷ units) (suc index) within =
    let rest = drop_at unit (concat units) (length unit) refl in
    let both = drop-drop (bytes_before index units) (length unit) (unit ++ concat units) in
    let size = length-append unit (concat (take index units)) in
    let less : drop (length (unit ++ concat (take index units))) (unit ++ concat units) ≡ drop (bytes_before index units) (concat units) =
    ap (λ n. drop n (unit ++ concat units)) size ∙ sym both ∙ ap (drop (bytes_before index units)) rest in
    ap (take (length (get_or units index []))) less ∙ unit_there units index (omega arith)

-- the bytes of a unit are some of all
pub unit_within : (units : List (List ℕ)) (index : ℕ) → index < length units
    → bytes_before index units + length (get_or units index []) ≤ length (concat units)
unit_within [] index within = absurd (omega arith)
unit_within (unit ∷ units) zero within = let whole = length-append unit (concat units) in omega arith
unit_within (unit ∷ units) (suc index) within =
    let whole = length-append unit (concat units) in
    let front = length-append unit (concat (take index units)) in
    let rest = unit_within units index (omega arith) in
    omega arith

-- after a unit come as many bytes more
pub bytes_before_next : (units : List (List ℕ)) (index : ℕ) → index < length units
    → bytes_before (index + 1) units ≡ bytes_before index units + length (get_or units index [])
bytes_before_next units index within =
    let more = take_more units index [] within in
    ap (λ l. length (concat l)) more ∙ ap length (concat_push (take index units) (get_or units index [])) ∙ length-append (concat (take index units)) (get_or units index [])

-- a unit that is read is the one of its place
pub packed_unit : (sizes bytes : List ℕ) (units : List (List ℕ)) (index start size : ℕ) → ArePacked sizes bytes → divided sizes bytes ≡ units
    → index < length units → start ≡ bytes_before index units → size ≡ get_or sizes index size
    → (start + size ≤ length bytes) × (take size (drop start bytes) ≡ get_or units index [])
packed_unit sizes bytes units index start size packed are within before is = (
  (let fits = unit_within units index within in omega (arith, fits, before, same, ap length whole)),
  ap (λ n. take n (drop start bytes)) same
      ∙ ap (λ n. take (length (get_or units index [])) (drop n bytes)) before
      ∙ ap (λ l. take (length (get_or units index [])) (drop (bytes_before index units) l)) whole
      ∙ unit_there units index within,
)
  where
    whole : bytes ≡ concat units
    whole = sym packed.whole ∙ ap concat are

    same : size ≡ length (get_or units index [])
    same = is ∙ ap (λ l. get_or l index size) (sym packed.lengths ∙ ap (map length) are) ∙ get_or-map length units index [] size within

-- what is left of the bytes, from a unit on
pub record IsNext (units : List (List ℕ)) (rest : List ℕ) (index size : ℕ) : Type 0 where
  pub within : size ≤ length rest
  pub small : size ≤ 7
  pub unit : take size rest ≡ get_or units index []
  pub behind : drop size rest ≡ concat (drop (index + 1) units)

pub is_next : (units : List (List ℕ)) (sizes rest : List ℕ) (index size : ℕ) → sizes ≡ map length units → All (λ (size : ℕ). size ≤ 7) sizes
    → index < length sizes → size ≡ get_or sizes index 0 → rest ≡ concat (drop index units) → IsNext units rest index size
is_next units sizes rest index size are small within is left =
    let there : index < length units = omega (arith, ap length are, length-map units length) in
    let same : size ≡ length (get_or units index []) = is ∙ ap (λ l. get_or l index 0) are ∙ get_or-map length units index [] 0 there in
    let parts : rest ≡ get_or units index [] ++ concat (drop (index + 1) units) = left ∙ ap concat (drop_more units index [] there) in
    record {
      within = let whole = length-append (get_or units index []) (concat (drop (index + 1) units)) in omega (arith, whole, same, ap length parts);
      small = subst (λ n. n ≤ 7) (sym is) (small index 0 within);
      unit = ap (take size) parts ∙ take_at (get_or units index []) (concat (drop (index + 1) units)) size (sym same);
      behind = ap (drop size) parts ∙ drop_at (get_or units index []) (concat (drop (index + 1) units)) size (sym same);
    }
