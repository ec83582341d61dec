-- Sections after one another: where the first ends, and that bytes are cut into sections in one way.
use Rattle.std.proofs.Common.{◌≡◌, ℕ, ◌+◌, ◌<◌, ◌≤◌, ◌++◌, List, [], ◌∷◌, length, get_or, take, drop, All, refl, sym, ap, subst, ◌∙◌, append_assoc, append-nil, length-append, arith}
use Rattle.std.proofs.Math.Seq.{take-append_seam, drop-append_seam}
use Rattle.std.specs.List.{concat}
use Rattle.cc_data.specs.declared.triplet.Triplet.{Triplet}
use Rattle.cc_data.specs.Triplets.{all_written}
use Rattle.cc_data.proofs.TripletLemmas.{all_written-are, triplets_of-triplets, length-all_written}
use Rattle.cdp_packets.specs.Sections.{section_rest, IsSection, AreSections, IsSectionList}
use Rattle.cdp_packets.specs.PacketTriplets.{section_triplets}
use Rattle.cdp_packets.specs.Written.{cc_data_section}

-- two lists of one length that begin the same list are the same
pub record Split {A : Type 0} (xs ys front rest : List A) : Type 0 where
  pub heads : xs ≡ ys
  pub tails : front ≡ rest

pub split_same : {A : Type 0} (xs ys front rest : List A) → length xs ≡ length ys → xs ++ front ≡ ys ++ rest → Split xs ys front rest
split_same [] [] front rest long same = record { heads = refl; tails = same }
split_same [] (y ∷ ys) front rest long same = absurd (omega arith)
split_same (x ∷ xs) [] front rest long same = absurd (omega arith)
split_same (x ∷ xs) (y ∷ ys) front rest long same =
    let h = split_same xs ys front rest (omega arith) cc in
    record { heads = cc; tails = h.tails }

-- a section is as long as its first two bytes say
pub length-section : (bytes section rest : List ℕ) → IsSection section → bytes ≡ section ++ rest → 2 + section_rest (get_or bytes 0 0) (get_or bytes 1 0) ≡ length section
length-section bytes [] rest is same = absurd is
length-section bytes (_ ∷ []) rest is same = absurd is
length-section bytes (id ∷ second ∷ more) rest is same =
    let first = ap (λ bs. get_or bs 0 0) same in
    let next = ap (λ bs. get_or bs 1 0) same in
    let long : length more ≡ section_rest (get_or bytes 0 0) (get_or bytes 1 0) = cc (first, next, is.1) in
    omega (arith, long)

-- the first section of a list of sections, and the others
pub record First (bytes : List ℕ) : Type 0 where
  pub section : List ℕ
  pub rest : List ℕ
  pub is : IsSection section
  pub others : IsSectionList rest
  pub spelled : bytes ≡ section ++ rest

pub first_section : (bytes : List ℕ) → IsSectionList bytes → 0 < length bytes → First bytes
first_section bytes list some = first_of_cut list.cut list.are (sym list.joined)
  where
    first_of_cut : (cut : List (List ℕ)) → AreSections cut → bytes ≡ concat cut → First bytes
    first_of_cut [] are same = absurd (omega (arith, ap length same))
    first_of_cut (section ∷ sections) are same = record {
      section = section;
      rest = concat sections;
      is = are.0;
      others = record { cut = sections; are = are.1; joined = refl };
      spelled = same;
    }

-- a section has two bytes at least
pub two_bytes : (section : List ℕ) → IsSection section → 2 ≤ length section
two_bytes [] is = absurd is
two_bytes (_ ∷ []) is = absurd is
two_bytes (id ∷ second ∷ rest) is = omega arith

-- what `section_len` says of a length
pub record IsFirstLength (bytes : List ℕ) (long : ℕ) : Type 0 where
  pub within : long ≤ length bytes
  pub section : IsSection (take long bytes)
  pub rest : IsSectionList (drop long bytes)

pub first_length : (bytes : List ℕ) (long : ℕ) → IsSectionList bytes → 0 < length bytes → long ≡ 2 + section_rest (get_or bytes 0 0) (get_or bytes 1 0) → IsFirstLength bytes long
first_length bytes long list some same =
    let first = first_section bytes list some in
    let enough : long ≡ length first.section = same ∙ length-section bytes first.section first.rest first.is first.spelled in
    let front : take long bytes ≡ first.section = cc (enough, first.spelled, take-append_seam first.section first.rest) in
    let behind : drop long bytes ≡ first.rest = cc (enough, first.spelled, drop-append_seam first.section first.rest) in
    record {
      within = omega (arith, enough, ap length first.spelled, length-append first.section first.rest);
      section = subst IsSection (sym front) first.is;
      rest = subst IsSectionList (sym behind) first.others;
    }

-- bytes are cut into sections in one way
pub sections_cut_once : (ss ts : List (List ℕ)) → AreSections ss → AreSections ts → concat ss ≡ concat ts → ss ≡ ts
sections_cut_once [] [] these those same = refl
sections_cut_once [] ([] ∷ ts) these those same = absurd those.0
sections_cut_once [] ((_ ∷ []) ∷ ts) these those same = absurd those.0
sections_cut_once [] ((id ∷ second ∷ rest) ∷ ts) these those same = cc
sections_cut_once ([] ∷ ss) ts these those same = absurd these.0
sections_cut_once ((_ ∷ []) ∷ ss) ts these those same = absurd these.0
sections_cut_once ((id ∷ second ∷ rest) ∷ ss) [] these those same = cc
sections_cut_once ((id ∷ second ∷ rest) ∷ ss) ([] ∷ ts) these those same = absurd those.0
sections_cut_once ((id ∷ second ∷ rest) ∷ ss) ((_ ∷ []) ∷ ts) these those same = absurd those.0
sections_cut_once ((id ∷ second ∷ rest) ∷ ss) ((id' ∷ second' ∷ rest') ∷ ts) these those same =
    let long : length rest ≡ length rest' = cc (these.0.1, those.0.1, same) in
    let split = split_same rest rest' (concat ss) (concat ts) long cc in
    cc (split.heads, sections_cut_once ss ts these.1 those.1 split.tails)

-- no bytes are no sections
pub no_sections : IsSectionList []
no_sections = record { cut = []; are = tt; joined = refl }

-- one more section after a list of sections
pub are-push : (ss : List (List ℕ)) (s : List ℕ) → AreSections ss → IsSection s → AreSections (ss ++ s ∷ [])
are-push [] s are is = (is, tt)
are-push (t ∷ ss) s are is = (are.0, are-push ss s are.1 is)

pub concat-push : (ss : List (List ℕ)) (s : List ℕ) → concat (ss ++ s ∷ []) ≡ concat ss ++ s
concat-push [] s = append-nil s
concat-push (t ∷ ss) s = ap (λ xs. t ++ xs) (concat-push ss s) ∙ sym (append_assoc t (concat ss) s)

pub list-push : (front section : List ℕ) → IsSectionList front → IsSection section → IsSectionList (front ++ section)
list-push front section list is = record {
  cut = list.cut ++ section ∷ [];
  are = are-push list.cut section list.are is;
  joined = concat-push list.cut section ∙ ap (λ xs. xs ++ section) list.joined;
}

-- what is written for at most 31 triplets is a section
pub cc_data_section-is : (ts : List Triplet) → length ts ≤ 31 → IsSection (cc_data_section ts)
cc_data_section-is ts few = (refl, omega (arith, length-all_written ts))

-- and its triplets are these
pub cc_data_section-triplets : (ts : List Triplet) → All (λ t. t.kind < 4) ts → section_triplets (cc_data_section ts) ≡ ts
cc_data_section-triplets ts kinds = triplets_of-triplets ts (all_written ts) (all_written-are ts kinds)
