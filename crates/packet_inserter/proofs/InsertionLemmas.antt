-- The sections of a packet with a new one among them: where it stands, and how long they are.
use Rattle.std.proofs.Common.{◌≡◌, ℕ, ◌+◌, ◌*◌, ◌≤◌, ◌++◌, inl, inr, not, bit_or, Bool, true, false, List, [], ◌∷◌, length, take, drop, filter, All, refl, sym, ap, subst, ◌∙◌, append_assoc, append-nil, length-append, length-take, length-drop, if◌then◌else◌, arith}
use Rattle.std.proofs.Math.Seq.{take-append_seam, drop-append_seam}
use Rattle.std.proofs.lemmas.List.Elements.{All-head, All-tail, All-weaker, filter-append}
use Rattle.std.proofs.lemmas.List.Folds.{concat-append}
use Rattle.std.specs.List.{concat}
use Rattle.cc_data.specs.declared.triplet.Triplet.{Triplet}
use Rattle.cc_data.proofs.TripletLemmas.{length-all_written}
use Rattle.cdp_packets.specs.Packets.{Frame}
use Rattle.cdp_packets.specs.Sections.{AreSections, IsSection}
use Rattle.cdp_packets.specs.Written.{cc_data_section}
use Rattle.packet_inserter.specs.Insertion.{IsInserted, IsPlace, is_kept, is_time_code_section, packet_length}

-- sections that are all kept
filter-all : (sections : List (List ℕ)) → All (λ section. is_kept section ≡ true) sections → filter is_kept sections ≡ sections
filter-all [] all = refl
filter-all (section ∷ sections) all =
    ap (λ b. if b then section ∷ filter is_kept sections else filter is_kept sections) (All-head (λ s. is_kept s ≡ true) section sections all)
    ∙ ap (λ s. section ∷ s) (filter-all sections (All-tail (λ s. is_kept s ≡ true) section sections all))

-- a time code is kept
pub time_code-kept : (section : List ℕ) → is_time_code_section section ≡ true → is_kept section ≡ true
time_code-kept [] is = refl
time_code-kept (id ∷ rest) is = grind arith

-- the sections that are kept are those before the place and others after it
pub record AreSplit (cut before : List (List ℕ)) : Type 0 where
  pub behind : List (List ℕ)
  pub kept : filter is_kept cut ≡ before ++ behind

pub split_at_place : (cut before : List (List ℕ)) → IsPlace cut before → AreSplit cut before
split_at_place cut before (inl stand) = record {
  behind = filter is_kept stand.behind;
  kept = ap (filter is_kept) stand.cut ∙ filter-append is_kept before (stand.first ∷ stand.behind)
      ∙ ap (λ f. f ++ filter is_kept (stand.first ∷ stand.behind)) (filter-all before stand.none_before)
      ∙ ap (λ b. before ++ (if b then stand.first ∷ filter is_kept stand.behind else filter is_kept stand.behind)) (ap not stand.is_first);
}
split_at_place cut before (inr (inl stand)) = record {
  behind = stand.first ∷ stand.behind;
  kept = filter-all cut stand.none ∙ stand.cut;
}
split_at_place cut before (inr (inr are)) = record {
  behind = [];
  kept = filter-all cut (All-weaker (λ s. is_time_code_section s ≡ true) (λ s. is_kept s ≡ true) time_code-kept cut are.time_codes) ∙ sym are.all ∙ sym (append-nil before);
}

-- sections that are kept are sections, and so are the parts of a list of sections
section-are : (section : List ℕ) (kept : List (List ℕ)) (b : Bool) → IsSection section → AreSections kept
    → AreSections (if b then section ∷ kept else kept)
section-are section kept true is are = (is, are)
section-are section kept false is are = are

pub filter-are : (cut : List (List ℕ)) → AreSections cut → AreSections (filter is_kept cut)
filter-are [] are = tt
filter-are (section ∷ cut) are = section-are section (filter is_kept cut) (is_kept section) are.0 (filter-are cut are.1)

pub put_among-are : (before behind : List (List ℕ)) (section : List ℕ) → IsSection section → AreSections (before ++ behind)
    → AreSections (before ++ section ∷ behind)
put_among-are [] behind section is are = (is, are)
put_among-are (first ∷ before) behind section is are = (are.0, put_among-are before behind section is are.1)

-- the packet that is made of what is kept, in front of and after a place
pub record IsMade (triplets : List Triplet) (old : Frame) (kept : List ℕ) (place : ℕ) : Type 0 where
  pub new : Frame
  pub inserted : IsInserted triplets old new
  pub are : AreSections new.sections
  pub rate : new.rate ≡ old.rate
  pub flags : new.flags ≡ bit_or old.flags 0x42
  pub counter : new.counter ≡ old.counter
  pub sections : (take place kept ++ cc_data_section triplets) ++ drop place kept ≡ concat new.sections
  pub long : packet_length new ≡ length kept + (2 + 3 * length triplets) + 11
  pub within : place ≤ length kept

pub length-new : (triplets : List Triplet) → length (cc_data_section triplets) ≡ 2 + 3 * length triplets
length-new triplets = omega (arith, length-all_written triplets)

pub made : (triplets : List Triplet) (old : Frame) (before : List (List ℕ)) (kept : List ℕ) (place : ℕ)
    → IsSection (cc_data_section triplets) → AreSections old.sections → IsPlace old.sections before → place ≡ length (concat before)
    → kept ≡ concat (filter is_kept old.sections) → IsMade triplets old kept place
made triplets old before kept place section are is_place long kept_is =
    let split = split_at_place old.sections before is_place in
    let new_section = cc_data_section triplets in
    let parts : kept ≡ concat before ++ concat split.behind = kept_is ∙ ap concat split.kept ∙ concat-append before split.behind in
    let front : take place kept ≡ concat before =
    ap (λ n. take n kept) long ∙ ap (take (length (concat before))) parts ∙ take-append_seam (concat before) (concat split.behind) in
    let back : drop place kept ≡ concat split.behind =
    ap (λ n. drop n kept) long ∙ ap (drop (length (concat before))) parts ∙ drop-append_seam (concat before) (concat split.behind) in
    let whole : concat (before ++ new_section ∷ split.behind) ≡ concat before ++ (new_section ++ concat split.behind) = concat-append before (new_section ∷ split.behind) in
    let size : length kept ≡ length (concat before) + length (concat split.behind) = ap length parts ∙ length-append (concat before) (concat split.behind) in
    record {
      new = record { rate = old.rate; flags = bit_or old.flags 0x42; counter = old.counter; sections = before ++ new_section ∷ split.behind };
      inserted = record {
        rate = refl;
        flags = refl;
        counter = refl;
        sections = record { before = before; behind = split.behind; place = is_place; kept = split.kept; new_is = refl };
      };
      are = put_among-are before split.behind new_section section (subst AreSections split.kept (filter-are old.sections are));
      rate = refl;
      flags = refl;
      counter = refl;
      sections = ap (λ f. (f ++ new_section) ++ drop place kept) front ∙ ap (λ b. (concat before ++ new_section) ++ b) back
          ∙ append_assoc (concat before) new_section (concat split.behind) ∙ sym whole;
      long = omega (
        arith,
        ap length whole,
        length-append (concat before) (new_section ++ concat split.behind),
        length-append new_section (concat split.behind),
        length-new triplets,
        size,
      );
      within = omega (arith, size, long);
    }

-- the sections that are put one after another
pub put_behind : (kept slice new front section back a s b d : List ℕ) (place : ℕ) → slice ≡ kept → front ≡ take place slice → back ≡ drop place slice
    → new ≡ [] → a ≡ new ++ front → s ≡ a ++ section → b ≡ s ++ back → d ≡ b → d ≡ (take place kept ++ section) ++ drop place kept
put_behind kept slice new front section back a s b d place slice_is front_is back_is new_is a_is s_is b_is d_is =
    let a_front : a ≡ front = a_is ∙ ap (λ n. n ++ front) new_is in
    cc

-- this many bytes stand before the last piece
pub room_behind : (kept slice new front section back a s : List ℕ) (place n : ℕ) → slice ≡ kept → front ≡ take place slice → back ≡ drop place slice
    → new ≡ [] → a ≡ new ++ front → s ≡ a ++ section → place ≤ length kept → length kept + length section ≤ n → length s + length back ≤ n
room_behind kept slice new front section back a s place n slice_is front_is back_is new_is a_is s_is within fits =
    let a_front : a ≡ front = a_is ∙ ap (λ n. n ++ front) new_is in
    let taken : length front ≡ length (take place kept) = cc in
    let left : length back ≡ length (drop place kept) = cc in
    omega (arith, ap length s_is, length-append a section, ap length a_front, taken, left, length-take place kept, length-drop place kept)
