-- A list of sections is walked section by section: the sections after are those that are left.
use Rattle.std.proofs.Common.{◌≡◌, ℕ, ◌+◌, ◌++◌, inl, inr, Bool, true, false, List, [], ◌∷◌, length, filter, All, refl, sym, ap, subst, ◌∙◌, append_assoc, append-nil, length-append, if◌then◌else◌, arith}
use Rattle.std.proofs.lemmas.List.Elements.{All-append, All-cons, All-nil, filter-append}
use Rattle.std.proofs.lemmas.List.Folds.{concat-append}
use Rattle.std.specs.List.{concat}
use Rattle.cdp_packets.specs.Sections.{AreSections, IsSection}
use Rattle.packet_inserter.specs.Insertion.{StandBeforeCaptions, is_captions, is_kept, is_time_code_section}
use Rattle.packet_inserter.specs.Walks.{StandsBehindTimeCodes}

-- the sections are those walked, and those left, whose bytes are the rest
pub record IsWalked (cut : List (List ℕ)) (rest : List ℕ) : Type 0 where
  pub done : List (List ℕ)
  pub left : List (List ℕ)
  pub cut_is : cut ≡ done ++ left
  pub are : AreSections left
  pub rest_is : concat left ≡ rest

-- nothing was walked
pub begin_walk : (cut : List (List ℕ)) (bytes : List ℕ) → AreSections cut → concat cut ≡ bytes → IsWalked cut bytes
begin_walk cut bytes are joined = record { done = []; left = cut; cut_is = refl; are = are; rest_is = joined }

-- two sections at the head of the same bytes are one
record SameHead (xs ys front rest : List ℕ) : Type 0 where
  pub heads : xs ≡ ys
  pub tails : front ≡ rest

same_split : (xs ys front rest : List ℕ) → length xs ≡ length ys → xs ++ front ≡ ys ++ rest → SameHead xs ys front rest
same_split [] [] front rest long same = record { heads = refl; tails = same }
same_split [] (y ∷ ys) front rest long same = absurd (omega arith)
same_split (x ∷ xs) [] front rest long same = absurd (omega arith)
same_split (x ∷ xs) (y ∷ ys) front rest long same =
    let h = same_split xs ys front rest (omega arith) cc in
    record { heads = cc; tails = h.tails }

same_head : (section other rest behind : List ℕ) → IsSection section → IsSection other → section ++ rest ≡ other ++ behind
    → SameHead section other rest behind
same_head [] other rest behind is are same = absurd is
same_head (_ ∷ []) other rest behind is are same = absurd is
same_head (id ∷ second ∷ more) [] rest behind is are same = absurd are
same_head (id ∷ second ∷ more) (_ ∷ []) rest behind is are same = absurd are
same_head (id ∷ second ∷ more) (id' ∷ second' ∷ more') rest behind is are same =
    let long : length more ≡ length more' = cc (is.1, are.1, same) in
    same_split (id ∷ second ∷ more) (id' ∷ second' ∷ more') rest behind (omega (arith, long)) same

-- the section that was split off is the first of those left
pub record IsNext (cut : List (List ℕ)) (done : List (List ℕ)) (left : List (List ℕ)) (section behind : List ℕ) : Type 0 where
  pub others : List (List ℕ)
  pub left_is : left ≡ section ∷ others
  pub are : AreSections others
  pub behind_is : concat others ≡ behind

pub next_walked : (cut : List (List ℕ)) (rest section behind : List ℕ) (walk : IsWalked cut rest) → IsSection section → rest ≡ section ++ behind
    → IsNext cut walk.done walk.left section behind
next_walked cut rest section behind walk is spelled = by_left walk.left walk.are (walk.rest_is ∙ spelled)
  where
    by_left : (left : List (List ℕ)) → AreSections left → concat left ≡ section ++ behind → IsNext cut walk.done left section behind
    by_left [] are same = absurd (none section is same)
      where
        none : (section : List ℕ) → IsSection section → [] ≡ section ++ behind → ⊥
        none [] is same = is
        none (_ ∷ []) is same = is
        none (_ ∷ _ ∷ _) is same = omega (arith, ap length same)
    by_left (first ∷ others) are same =
        let split = same_head first section (concat others) behind are.0 is same in
        record { others = others; left_is = ap (λ s. s ∷ others) split.heads; are = are.1; behind_is = split.tails }

-- where no section is split off, none is left
pub none_left : (cut : List (List ℕ)) (rest : List ℕ) (walk : IsWalked cut rest)
    → ((section behind : List ℕ) → IsSection section → rest ≡ section ++ behind → ⊥) → walk.left ≡ []
none_left cut rest walk none = by_left walk.left walk.are walk.rest_is
  where
    by_left : (left : List (List ℕ)) → AreSections left → concat left ≡ rest → left ≡ []
    by_left [] are same = refl
    by_left (first ∷ others) are same = absurd (none first (concat others) are.0 (sym same))

-- all sections walked pass a test, and this many are their bytes
pub record HavePassed (test : List ℕ → Bool) (cut : List (List ℕ)) (rest : List ℕ) (place : ℕ) : Type 0 where
  pub walk : IsWalked cut rest
  pub passed : All (λ section. test section ≡ true) walk.done
  pub long : place ≡ length (concat walk.done)

pub begin_passed : (test : List ℕ → Bool) (cut : List (List ℕ)) (bytes : List ℕ) → AreSections cut → concat cut ≡ bytes → HavePassed test cut bytes 0
unfolding begin_walk
begin_passed test cut bytes are joined = record {
  walk = begin_walk cut bytes are joined;
  passed = All-nil (λ section. test section ≡ true);
  long = refl;
}

-- one more after a list
concat-one : (done : List (List ℕ)) (section : List ℕ) → concat (done ++ section ∷ []) ≡ concat done ++ section
concat-one done section = concat-append done (section ∷ []) ∙ ap (λ s. concat done ++ s) (append-nil section)

length-one : (done : List (List ℕ)) (section : List ℕ) → length (concat (done ++ section ∷ [])) ≡ length (concat done) + length section
length-one done section = ap length (concat-one done section) ∙ length-append (concat done) section

-- a walk goes on after the next section
walk_on : (cut : List (List ℕ)) (rest section behind : List ℕ) (walk : IsWalked cut rest) → IsNext cut walk.done walk.left section behind → IsWalked cut behind
walk_on cut rest section behind walk next = record {
  done = walk.done ++ section ∷ [];
  left = next.others;
  cut_is = walk.cut_is ∙ ap (λ s. walk.done ++ s) next.left_is ∙ sym (append_assoc walk.done (section ∷ []) next.others);
  are = next.are;
  rest_is = next.behind_is;
}

pub next_passed : (test : List ℕ → Bool) (cut : List (List ℕ)) (rest section behind : List ℕ) (place : ℕ) → HavePassed test cut rest place
    → IsSection section → rest ≡ section ++ behind → test section ≡ true → HavePassed test cut behind (place + length section)
unfolding walk_on
next_passed test cut rest section behind place have is spelled passes =
    let next = next_walked cut rest section behind have.walk is spelled in
    record {
      walk = walk_on cut rest section behind have.walk next;
      passed = All-append (λ s. test s ≡ true) have.walk.done (section ∷ []) have.passed
          (All-cons (λ s. test s ≡ true) section [] passes (All-nil (λ s. test s ≡ true)));
      long = ap (λ n. n + length section) have.long ∙ sym (length-one have.walk.done section);
    }

-- the sections are those walked, and the next, and others
cut_at : (cut : List (List ℕ)) (rest section behind : List ℕ) (walk : IsWalked cut rest) (next : IsNext cut walk.done walk.left section behind)
    → cut ≡ walk.done ++ section ∷ next.others
cut_at cut rest section behind walk next = walk.cut_is ∙ ap (λ s. walk.done ++ s) next.left_is

-- where the next section is one of cc_data, the place is before it
pub place_of_captions : (cut : List (List ℕ)) (rest section behind : List ℕ) (place : ℕ) → HavePassed is_kept cut rest place
    → IsSection section → rest ≡ section ++ behind → is_captions section ≡ true
    → (before : List (List ℕ)) × StandBeforeCaptions cut before × (place ≡ length (concat before))
place_of_captions cut rest section behind place have is spelled found =
    let next = next_walked cut rest section behind have.walk is spelled in (
      have.walk.done,
      record {
        first = section;
        behind = next.others;
        cut = cut_at cut rest section behind have.walk next;
        is_first = found;
        none_before = have.passed;
      },
      have.long,
    )

-- where no section is left, all were walked
all_walked : (cut : List (List ℕ)) (rest : List ℕ) (walk : IsWalked cut rest)
    → ((section behind : List ℕ) → IsSection section → rest ≡ section ++ behind → ⊥) → cut ≡ walk.done
all_walked cut rest walk none = walk.cut_is ∙ ap (λ s. walk.done ++ s) (none_left cut rest walk none) ∙ append-nil walk.done

pub all_passed : (test : List ℕ → Bool) (cut : List (List ℕ)) (rest : List ℕ) (place : ℕ) → HavePassed test cut rest place
    → ((section behind : List ℕ) → IsSection section → rest ≡ section ++ behind → ⊥) → All (λ section. test section ≡ true) cut
all_passed test cut rest place have none =
    subst (All (λ section. test section ≡ true)) (sym (all_walked cut rest have.walk none)) have.passed

-- after the time codes stands another section, or none
pub behind_time_codes : (cut : List (List ℕ)) (rest section behind : List ℕ) (place : ℕ) → HavePassed is_time_code_section cut rest place
    → IsSection section → rest ≡ section ++ behind → is_time_code_section section ≡ false → StandsBehindTimeCodes cut place
behind_time_codes cut rest section behind place have is spelled other =
    let next = next_walked cut rest section behind have.walk is spelled in
    record {
      before = have.walk.done;
      behind = section ∷ next.others;
      cut = cut_at cut rest section behind have.walk next;
      time_codes = have.passed;
      ends = inr (section, next.others, refl, other);
      long = have.long;
    }

pub all_time_codes : (cut : List (List ℕ)) (rest : List ℕ) (place : ℕ) → HavePassed is_time_code_section cut rest place
    → ((section behind : List ℕ) → IsSection section → rest ≡ section ++ behind → ⊥) → StandsBehindTimeCodes cut place
all_time_codes cut rest place have none = record {
  before = have.walk.done;
  behind = [];
  cut = all_walked cut rest have.walk none ∙ sym (append-nil have.walk.done);
  time_codes = have.passed;
  ends = inl refl;
  long = have.long;
}

-- the sections walked that are kept, joined
pub record AreKept (cut : List (List ℕ)) (rest kept : List ℕ) : Type 0 where
  pub walk : IsWalked cut rest
  pub kept_is : kept ≡ concat (filter is_kept walk.done)

pub begin_kept : (cut : List (List ℕ)) (bytes : List ℕ) → AreSections cut → concat cut ≡ bytes → AreKept cut bytes []
unfolding begin_walk
begin_kept cut bytes are joined = record { walk = begin_walk cut bytes are joined; kept_is = refl }

-- one more section walked, by whether it is kept
filter-one : (done : List (List ℕ)) (section : List ℕ) (b : Bool) → is_kept section ≡ b
    → concat (filter is_kept (done ++ section ∷ [])) ≡ concat (filter is_kept done) ++ (if b then section else [])
filter-one done section true is =
    ap concat (filter-append is_kept done (section ∷ [])) ∙ concat-append (filter is_kept done) (filter is_kept (section ∷ []))
    ∙ ap (λ b. concat (filter is_kept done) ++ concat (if b then section ∷ [] else [])) is ∙ ap (λ s. concat (filter is_kept done) ++ s) (append-nil section)
filter-one done section false is =
    ap concat (filter-append is_kept done (section ∷ [])) ∙ concat-append (filter is_kept done) (filter is_kept (section ∷ []))
    ∙ ap (λ b. concat (filter is_kept done) ++ concat (if b then section ∷ [] else [])) is

pub next_kept : (cut : List (List ℕ)) (rest section behind kept : List ℕ) (b : Bool) → AreKept cut rest kept
    → IsSection section → rest ≡ section ++ behind → is_kept section ≡ b → AreKept cut behind (kept ++ (if b then section else []))
unfolding walk_on
next_kept cut rest section behind kept b have is spelled test =
    let next = next_walked cut rest section behind have.walk is spelled in
    record {
      walk = walk_on cut rest section behind have.walk next;
      kept_is = ap (λ k. k ++ (if b then section else [])) have.kept_is ∙ sym (filter-one have.walk.done section b test);
    }

pub all_kept : (cut : List (List ℕ)) (rest kept : List ℕ) → AreKept cut rest kept
    → ((section behind : List ℕ) → IsSection section → rest ≡ section ++ behind → ⊥) → kept ≡ concat (filter is_kept cut)
all_kept cut rest kept have none = have.kept_is ∙ ap (λ s. concat (filter is_kept s)) (sym (all_walked cut rest have.walk none))
