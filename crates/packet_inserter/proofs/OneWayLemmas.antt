-- Captions are replaced in one way, and the triplets are then the new ones.
use Rattle.std.proofs.Common.{◌≡◌, ℕ, ◌<◌, ◌==◌, ◌++◌, ◌⊎◌, inl, inr, not, Bool, true, false, List, [], ◌∷◌, get_or, All, refl, sym, ap, subst, ◌∙◌, append-nil}
use Rattle.std.proofs.lemmas.List.Elements.{All-head, All-tail, filter_passes}
use Rattle.std.specs.List.{flat_map}
use Rattle.cc_base.specs.declared.rate.Rate.{Rate}
use Rattle.cc_data.specs.declared.triplet.Triplet.{Triplet}
use Rattle.cdp_packets.specs.Packets.{Frame}
use Rattle.cdp_packets.specs.PacketTriplets.{packet_triplets, section_triplets}
use Rattle.cdp_packets.specs.Written.{cc_data_section}
use Rattle.cdp_packets.proofs.SectionLemmas.{cc_data_section-triplets}
use Rattle.packet_inserter.specs.Insertion.{AreTimeCodes, IsInserted, IsPlace, IsPutAmong, StandBeforeCaptions, StandBeforeOthers, is_kept, is_time_code_section}
use Rattle.packet_inserter.proofs.InsertionLemmas.{time_code-kept}

-- where lists begin with elements that pass a test, up to the first that doesn't, they begin alike
pub record SameFront (test : List ℕ → Bool) (xs ys : List (List ℕ)) : Type 0 where
  pub fronts : xs ≡ ys

passes-fails : (b : Bool) → b ≡ true → b ≡ false → ⊥
passes-fails b passes fails = cc (passes, fails)

pub same_front : (test : List ℕ → Bool) (xs ys front rest : List (List ℕ)) (x y : List ℕ) → All (λ s. test s ≡ true) xs → All (λ s. test s ≡ true) ys
    → test x ≡ false → test y ≡ false → xs ++ x ∷ front ≡ ys ++ y ∷ rest → SameFront test xs ys
same_front test [] [] front rest x y xs_pass ys_pass x_fails y_fails same = record { fronts = refl }
same_front test [] (z ∷ ys) front rest x y xs_pass ys_pass x_fails y_fails same =
    absurd (passes-fails (test z) (All-head (λ s. test s ≡ true) z ys ys_pass) (cc))
same_front test (z ∷ xs) [] front rest x y xs_pass ys_pass x_fails y_fails same =
    absurd (passes-fails (test z) (All-head (λ s. test s ≡ true) z xs xs_pass) (cc))
same_front test (z ∷ xs) (w ∷ ys) front rest x y xs_pass ys_pass x_fails y_fails same =
    let h = same_front test xs ys front rest x y (All-tail (λ s. test s ≡ true) z xs xs_pass) (All-tail (λ s. test s ≡ true) w ys ys_pass) x_fails y_fails (cc) in
    record { fronts = cc (h.fronts, same) }

-- one that fails is not among those that pass
not_all : (test : List ℕ → Bool) (xs front : List (List ℕ)) (x : List ℕ) → test x ≡ false → All (λ s. test s ≡ true) (xs ++ x ∷ front) → ⊥
not_all test [] front x fails all = passes-fails (test x) (All-head (λ s. test s ≡ true) x front all) fails
not_all test (y ∷ xs) front x fails all = not_all test xs front x fails (All-tail (λ s. test s ≡ true) y (xs ++ x ∷ front) all)

-- all the sections have no cc_data in the latter two places
none_in : (cut before : List (List ℕ)) → StandBeforeOthers cut before ⊎ AreTimeCodes cut before → All (λ s. is_kept s ≡ true) cut
none_in cut before (inl stand) = stand.none
none_in cut before (inr are) = λ k d below. time_code-kept (get_or cut k d) (are.time_codes k d below)

apart : (cut before other : List (List ℕ)) → StandBeforeCaptions cut before → StandBeforeOthers cut other ⊎ AreTimeCodes cut other → ⊥
apart cut before other stand others =
    not_all is_kept before stand.behind stand.first (ap not stand.is_first) (subst (All (λ s. is_kept s ≡ true)) stand.cut (none_in cut other others))

-- there is one place
pub one_place : (cut before other : List (List ℕ)) → IsPlace cut before → IsPlace cut other → before ≡ other
one_place cut before other (inl this) (inl that) =
    (same_front is_kept before other this.behind that.behind this.first that.first this.none_before that.none_before
    (ap not this.is_first) (ap not that.is_first) (sym this.cut ∙ that.cut)).fronts
one_place cut before other (inl this) (inr that) = absurd (apart cut before other this that)
one_place cut before other (inr this) (inl that) = absurd (apart cut other before that this)
one_place cut before other (inr (inl this)) (inr (inl that)) =
    (same_front is_time_code_section before other this.behind that.behind this.first that.first this.time_codes that.time_codes
    this.is_first that.is_first (sym this.cut ∙ that.cut)).fronts
one_place cut before other (inr (inl this)) (inr (inr that)) =
    absurd (not_all is_time_code_section before this.behind this.first this.is_first (subst (All (λ s. is_time_code_section s ≡ true)) this.cut that.time_codes))
one_place cut before other (inr (inr this)) (inr (inl that)) =
    absurd (not_all is_time_code_section other that.behind that.first that.is_first (subst (All (λ s. is_time_code_section s ≡ true)) that.cut this.time_codes))
one_place cut before other (inr (inr this)) (inr (inr that)) = this.all ∙ sym that.all

-- after one front stands one list
same_behind : (front behind other : List (List ℕ)) → front ++ behind ≡ front ++ other → behind ≡ other
same_behind [] behind other same = same
same_behind (section ∷ front) behind other same = same_behind front behind other (cc)

put_once : (section : List ℕ) (old new other : List (List ℕ)) → IsPutAmong section old new → IsPutAmong section old other → new ≡ other
put_once section old new other this that =
    let place = one_place old this.before that.before this.place that.place in
    let behind = same_behind that.before this.behind that.behind (ap (λ b. b ++ this.behind) (sym place) ∙ sym this.kept ∙ that.kept) in
    this.new_is ∙ ap (λ b. b ++ section ∷ this.behind) place ∙ ap (λ b. that.before ++ section ∷ b) behind ∙ sym that.new_is

-- a packet by its parts
abbrev packet_by : Rate → ℕ → ℕ → List (List ℕ) → Frame
packet_by rate flags counter sections = record { rate = rate; flags = flags; counter = counter; sections = sections }

pub inserted_once : (triplets : List Triplet) (old new other : Frame) → IsInserted triplets old new → IsInserted triplets old other → new ≡ other
inserted_once triplets old new other this that =
    ap (λ r. packet_by r new.flags new.counter new.sections) (this.rate ∙ sym that.rate)
    ∙ ap (λ f. packet_by other.rate f new.counter new.sections) (this.flags ∙ sym that.flags)
    ∙ ap (λ n. packet_by other.rate other.flags n new.sections) (this.counter ∙ sym that.counter)
    ∙ ap (packet_by other.rate other.flags other.counter) (put_once (cc_data_section triplets) old.sections new.sections other.sections this.sections that.sections)

-- sections that are kept have no triplets
kept-triplets : (section : List ℕ) → is_kept section ≡ true → section_triplets section ≡ []
kept-triplets [] kept = refl
kept-triplets (_ ∷ []) kept = refl
kept-triplets (id ∷ second ∷ rest) kept = by_test (id == 0x72) kept refl
  where
    by_test : (b : Bool) → not b ≡ true → (id == 0x72) ≡ b → section_triplets (id ∷ second ∷ rest) ≡ []
    by_test true kept is = cc
    by_test false kept is = rw is refl

all-kept-triplets : (sections : List (List ℕ)) → All (λ s. is_kept s ≡ true) sections → flat_map section_triplets sections ≡ []
all-kept-triplets [] all = refl
all-kept-triplets (section ∷ sections) all =
    ap (λ s. s ++ flat_map section_triplets sections) (kept-triplets section (All-head (λ s. is_kept s ≡ true) section sections all))
    ∙ all-kept-triplets sections (All-tail (λ s. is_kept s ≡ true) section sections all)

put-triplets : (before behind : List (List ℕ)) (section : List ℕ) → All (λ s. is_kept s ≡ true) (before ++ behind)
    → flat_map section_triplets (before ++ section ∷ behind) ≡ section_triplets section
put-triplets [] behind section all =
    ap (λ s. section_triplets section ++ s) (all-kept-triplets behind all) ∙ append-nil (section_triplets section)
put-triplets (first ∷ before) behind section all =
    ap (λ s. s ++ flat_map section_triplets (before ++ section ∷ behind)) (kept-triplets first (All-head (λ s. is_kept s ≡ true) first (before ++ behind) all))
    ∙ put-triplets before behind section (All-tail (λ s. is_kept s ≡ true) first (before ++ behind) all)

pub inserted-triplets : (triplets : List Triplet) (old new : Frame) → All (λ t. t.kind < 4) triplets → IsInserted triplets old new
    → packet_triplets new ≡ triplets
inserted-triplets triplets old new kinds this =
    ap (flat_map section_triplets) this.sections.new_is
    ∙ put-triplets this.sections.before this.sections.behind (cc_data_section triplets)
    (subst (All (λ s. is_kept s ≡ true)) this.sections.kept (filter_passes is_kept old.sections))
    ∙ cc_data_section-triplets triplets kinds
