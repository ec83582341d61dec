-- The writer gives the pairs where they stand.
use Rattle.std.proofs.Common.{◌≡◌, ℕ, zero, suc, ◌+◌, ◌-◌, ◌<◌, ◌≤◌, nat_le, Bool, true, false, List, [], ◌∷◌, ◌++◌, length, Option, Some, None, refl, sym, ap, ◌∙◌, subst, arith, ⊎_elim, inl, inr, take, drop, length-append, length-drop}
use Rattle.std.specs.Prelude.{◌⊎◌, if◌then◌else◌}
use Rattle.std.proofs.lemmas.Bool.{cases_lt}
use Rattle.std.proofs.lemmas.List.{take-append-drop}
use Rattle.std.proofs.lemmas.Bool.Decides.{nat_tests}
use Rattle.line21_codes.specs.declared.codes.Code.{Code}
use Rattle.xds_packets.specs.PacketCodes.{continue_code, rest_codes, start_code}
use Rattle.xds_packets.specs.Sending.{Given, Listed, Unsent, begun_at, first_of, given_in, sent_on, unended, writing_at}
use Rattle.xds_packets.specs.Places.{AllStand, Follow, IsNext, IsStart, LacksRoom, OverWhereAllStand, PlacedCode, StandFrom, StandingIsGiven, StandsFrom, UnfinishedLacksRoom, given_at, given_from, placed_in}
use Rattle.xds_packets.proofs.SegmentLemmas.{nil_right}

-- in a slot that isn't free, and in one that is
taken_next : (b : Bool) (frame : ℕ) (s : Unsent) → b ≡ false → given_in b frame s ≡ record { next = record s { broken = true }; code = None }
taken_next b frame s is = ap (λ x. given_in x frame s) is

next_code : (b : Bool) (frame : ℕ) (s : Unsent) (code : Code) (rest : List Code) → b ≡ true → s.broken ≡ false → s.codes ≡ code ∷ rest → given_in b frame s ≡ record { next = record s { codes = rest }; code = Some code }
next_code b frame s code rest is whole at =
    ap (λ x. given_in x frame s) is ∙ ap (λ x. sent_on x frame s s.codes) whole ∙ ap (λ cs. sent_on false frame s cs) at

next_continue : (b : Bool) (frame : ℕ) (s : Unsent) (code : Code) (rest : List Code) → b ≡ true → s.broken ≡ true → s.codes ≡ code ∷ rest → given_in b frame s ≡ record { next = record s { broken = false }; code = Some s.cont }
next_continue b frame s code rest is broken at =
    ap (λ x. given_in x frame s) is ∙ ap (λ x. sent_on x frame s s.codes) broken ∙ ap (λ cs. sent_on true frame s cs) at

idle_next : (b : Bool) (frame : ℕ) (s : Unsent) (left : List Listed) → b ≡ true → s.codes ≡ [] → s.left ≡ left → given_in b frame s ≡ begun_at frame s left
idle_next b frame s left is none at = ap (λ x. given_in x frame s) is ∙ ap (λ cs. sent_on s.broken frame s cs) none ∙ by_broken s.broken ∙ ap (begun_at frame s) at
  where
    by_broken : (x : Bool) → sent_on x frame s [] ≡ begun_at frame s s.left
    by_broken true = refl
    by_broken false = refl

module _ (free : ℕ → Bool) (frame_of : ℕ → ℕ) (listed : List Listed) where
  abbrev w : ℕ → Unsent
  w n = writing_at free frame_of listed n

  abbrev t : ℕ → Option Code
  t n = given_at free frame_of listed n

  record Gives (from : ℕ) (placed : List PlacedCode) (end : ℕ) : Type 0 where
    count : ℕ
    sums : from + count ≡ end
    list_is : given_from (given_at free frame_of listed) from count ≡ placed

  one_given : (n : ℕ) (code : Code) (placed : List PlacedCode) (end : ℕ) → given_at free frame_of listed n ≡ Some code → Gives (suc n) placed end → Gives n (record { slot = n; code = code } ∷ placed) end
  one_given n code placed end is g = record {
    count = suc g.count;
    sums = let sums = g.sums in omega arith;
    list_is = ap (λ o. placed_in n o (given_from (given_at free frame_of listed) (suc n) g.count)) is ∙ ap (λ r. record { slot = n; code = code } ∷ r) g.list_is;
  }

  none_given : (n : ℕ) (placed : List PlacedCode) (end : ℕ) → given_at free frame_of listed n ≡ None → Gives (suc n) placed end → Gives n placed end
  none_given n placed end is g = record {
    count = suc g.count;
    sums = let sums = g.sums in omega arith;
    list_is = ap (λ o. placed_in n o (given_from (given_at free frame_of listed) (suc n) g.count)) is ∙ g.list_is;
  }

  skipped : (j from n : ℕ) (placed : List PlacedCode) (end : ℕ) → from + j ≡ n → ((m : ℕ) → from ≤ m → m < n → given_at free frame_of listed m ≡ None) → Gives n placed end → Gives from placed end
  skipped zero from n placed end is none g = let same : n ≡ from = omega arith in subst (λ m. Gives m placed end) same g
  skipped (suc j) from n placed end is none g =
      none_given from placed end (none from (omega arith) (omega arith)) (skipped j (suc from) n placed end (omega arith) (λ m low high. none m (omega (arith, low)) high) g)

  -- after slots that aren't free
  record Alike (s u : Unsent) : Type 0 where
    left : u.left ≡ s.left
    cont : u.cont ≡ s.cont
    codes : u.codes ≡ s.codes

  closed_one : (n : ℕ) → free n ≡ false → Alike (writing_at free frame_of listed n) (writing_at free frame_of listed (suc n)) × ((writing_at free frame_of listed (suc n)).broken ≡ true)
  closed_one n is =
      let e = taken_next (free n) (frame_of n) (writing_at free frame_of listed n) is in
      (record { left = ap (λ (g : Given). g.next.left) e; cont = ap (λ (g : Given). g.next.cont) e; codes = ap (λ (g : Given). g.next.codes) e }, ap (λ (g : Given). g.next.broken) e)

  closed_all : (j from n : ℕ) → from + j ≡ n → ((m : ℕ) → from ≤ m → m < n → free m ≡ false) → Alike (writing_at free frame_of listed from) (writing_at free frame_of listed n)
  closed_all zero from n is none = let same : from ≡ n = omega arith in subst (λ m. Alike (writing_at free frame_of listed from) (writing_at free frame_of listed m)) same (record { left = refl; cont = refl; codes = refl })
  closed_all (suc j) from n is none =
      let one = (closed_one from (none from (omega arith) (omega arith))).0 in
      let more = closed_all j (suc from) n (omega arith) (λ m low high. none m (omega (arith, low)) high) in
      record { left = more.left ∙ one.left; cont = more.cont ∙ one.cont; codes = more.codes ∙ one.codes }

  closed_broken : (from n : ℕ) → from < n → ((m : ℕ) → from ≤ m → m < n → free m ≡ false) → (writing_at free frame_of listed n).broken ≡ true
  closed_broken from zero below none = absurd (omega (arith, below))
  closed_broken from (suc n) below none = (closed_one n (none n (omega (arith, below)) (omega arith))).1

  taken_none : (m : ℕ) → free m ≡ false → given_at free frame_of listed m ≡ None
  taken_none m is = ap (λ (g : Given). g.code) (taken_next (free m) (frame_of m) (writing_at free frame_of listed m) is)

  -- the pairs of a packet after one of them
  record Ends (from : ℕ) (placed : List PlacedCode) (end : ℕ) (left : List Listed) : Type 0 where
    gives : Gives from placed end
    none_under : (writing_at free frame_of listed end).codes ≡ []
    left_is : (writing_at free frame_of listed end).left ≡ left

  follow_ends : (placed : List PlacedCode) (cont : Code) (at : ℕ) (codes : List Code) (end : ℕ) → Follow free cont at codes placed end
      → (writing_at free frame_of listed (suc at)).codes ≡ codes → (writing_at free frame_of listed (suc at)).cont ≡ cont → (writing_at free frame_of listed (suc at)).broken ≡ false
      → Ends (suc at) placed end (writing_at free frame_of listed (suc at)).left
  follow_ends [] cont at codes end follow is is_cont whole =
      let here : end ≡ suc at = follow.1 in
      subst (λ e. Ends (suc at) [] e (writing_at free frame_of listed (suc at)).left) (sym here)
      (record { gives = record { count = 0; sums = omega arith; list_is = refl }; none_under = is ∙ follow.0; left_is = refl })
  follow_ends (p ∷ placed) cont at codes end follow is is_cont whole =
      ⊎_elim
      (λ direct.
      let same : p.slot ≡ suc at = direct.0 in
      let e = next_code (free (suc at)) (frame_of (suc at)) (writing_at free frame_of listed (suc at)) p.code direct.1.0 (subst (λ m. free m ≡ true) same follow.0.is_free) whole (is ∙ direct.1.1.0) in
      let more = follow_ends placed cont (suc at) direct.1.0 end (subst (λ m. Follow free cont m direct.1.0 placed end) same direct.1.1.1)
      (ap (λ (g : Given). g.next.codes) e) (ap (λ (g : Given). g.next.cont) e ∙ is_cont) (ap (λ (g : Given). g.next.broken) e ∙ whole) in
      record {
        gives = subst (λ m. Gives (suc at) (record { slot = m; code = p.code } ∷ placed) end) (sym same) (one_given (suc at) p.code placed end (ap (λ (g : Given). g.code) e) more.gives);
        none_under = more.none_under;
        left_is = more.left_is ∙ ap (λ (g : Given). g.next.left) e;
      })
      (λ continued.
      let next = follow.0 in
      let behind = next.behind in
      let alike = closed_all (p.slot - suc at) (suc at) p.slot (omega (arith, behind)) next.none in
      let e = next_continue (free p.slot) (frame_of p.slot) (writing_at free frame_of listed p.slot) continued.1.1.0.0 continued.1.1.0.1.0 next.is_free (closed_broken (suc at) p.slot continued.0 next.none) (alike.codes ∙ is ∙ continued.1.1.0.1.1) in
      let more = follow_ends placed cont p.slot codes end continued.1.1.1
      (ap (λ (g : Given). g.next.codes) e ∙ alike.codes ∙ is) (ap (λ (g : Given). g.next.cont) e ∙ alike.cont ∙ is_cont) (ap (λ (g : Given). g.next.broken) e) in
      let code_is : Some (writing_at free frame_of listed p.slot).cont ≡ Some p.code = ap Some (alike.cont ∙ is_cont ∙ sym continued.1.0) in
      record {
        gives = skipped (p.slot - suc at) (suc at) p.slot (p ∷ placed) end (omega (arith, behind)) (λ m low high. taken_none m (next.none m low high))
            (one_given p.slot p.code placed end (ap (λ (g : Given). g.code) e ∙ code_is) more.gives);
        none_under = more.none_under;
        left_is = more.left_is ∙ ap (λ (g : Given). g.next.left) e ∙ alike.left;
      })
      follow.1

  -- slots before a packet's first pair
  record Waits (from n : ℕ) (left : List Listed) : Type 0 where
    none_under : (writing_at free frame_of listed n).codes ≡ []
    left_is : (writing_at free frame_of listed n).left ≡ left
    back : (placed : List PlacedCode) (end : ℕ) → Gives n placed end → Gives from placed end

  record Idles (n : ℕ) (left : List Listed) : Type 0 where
    none : given_at free frame_of listed n ≡ None
    none_under : (writing_at free frame_of listed (suc n)).codes ≡ []
    left_is : (writing_at free frame_of listed (suc n)).left ≡ left

  idles_by : (n : ℕ) (left : List Listed) → (next : Given) → given_in (free n) (frame_of n) (writing_at free frame_of listed n) ≡ next → next.code ≡ None → next.next.codes ≡ [] → next.next.left ≡ left → Idles n left
  idles_by n left next e none under at = record {
    none = ap (λ (g : Given). g.code) e ∙ none;
    none_under = ap (λ (g : Given). g.next.codes) e ∙ under;
    left_is = ap (λ (g : Given). g.next.left) e ∙ at;
  }

  not_begun : (frame : ℕ) (s : Unsent) (l : Listed) (ls : List Listed) → frame < l.from → begun_at frame s (l ∷ ls) ≡ record { next = s; code = None }
  not_begun frame s l ls early =
      let test : nat_le l.from frame ≡ false = grind (arith, nat_tests) in
      ap (λ b. if b then record { next = record { left = ls; cont = continue_code l.packet; codes = rest_codes l.packet l.packet.text; broken = false }; code = Some (start_code l.packet) } else record { next = s; code = None }) test

  begun : (frame : ℕ) (s : Unsent) (l : Listed) (ls : List Listed) → l.from ≤ frame
      → begun_at frame s (l ∷ ls) ≡ record { next = record { left = ls; cont = continue_code l.packet; codes = rest_codes l.packet l.packet.text; broken = false }; code = Some (start_code l.packet) }
  begun frame s l ls due =
      let test : nat_le l.from frame ≡ true = grind (arith, nat_tests) in
      ap (λ b. if b then record { next = record { left = ls; cont = continue_code l.packet; codes = rest_codes l.packet l.packet.text; broken = false }; code = Some (start_code l.packet) } else record { next = s; code = None }) test

  idle_one : (n : ℕ) (l : Listed) (ls : List Listed) → (writing_at free frame_of listed n).codes ≡ [] → (writing_at free frame_of listed n).left ≡ l ∷ ls → (free n ≡ true → frame_of n < l.from) → Idles n (l ∷ ls)
  idle_one n l ls none at early = by_free (free n) refl
    where
      by_free : (b : Bool) → free n ≡ b → Idles n (l ∷ ls)
      by_free false is = idles_by n (l ∷ ls) (record { next = record (writing_at free frame_of listed n) { broken = true }; code = None }) (taken_next (free n) (frame_of n) (writing_at free frame_of listed n) is) refl none at
      by_free true is = idles_by n (l ∷ ls) (record { next = writing_at free frame_of listed n; code = None })
          (idle_next (free n) (frame_of n) (writing_at free frame_of listed n) (l ∷ ls) is none at ∙ not_begun (frame_of n) (writing_at free frame_of listed n) l ls (early is)) refl none at

  waits : (j from n : ℕ) (l : Listed) (ls : List Listed) → from + j ≡ n → (writing_at free frame_of listed from).codes ≡ [] → (writing_at free frame_of listed from).left ≡ l ∷ ls
      → ((m : ℕ) → from ≤ m → m < n → free m ≡ true → frame_of m < l.from) → Waits from n (l ∷ ls)
  waits zero from n l ls is none at early =
      let same : from ≡ n = omega arith in
      subst (λ m. Waits from m (l ∷ ls)) same (record { none_under = none; left_is = at; back = λ placed end g. g })
  waits (suc j) from n l ls is none at early =
      let one = idle_one from l ls none at (early from (omega arith) (omega arith)) in
      let more = waits j (suc from) n l ls (omega arith) one.none_under one.left_is (λ m low high. early m (omega (arith, low)) high) in
      record { none_under = more.none_under; left_is = more.left_is; back = λ placed end g. none_given from placed end one.none (more.back placed end g) }

  stands_ends : (from : ℕ) (l : Listed) (ls : List Listed) (placed : List PlacedCode) (end : ℕ) → StandsFrom free frame_of from l placed end
      → (writing_at free frame_of listed from).codes ≡ [] → (writing_at free frame_of listed from).left ≡ l ∷ ls → Ends from placed end ls
  stands_ends from l ls placed end stands none at =
      let start = stands.start in
      let behind = start.behind in
      let w = waits (stands.at - from) from stands.at l ls (omega (arith, behind)) none at start.none in
      let e = idle_next (free stands.at) (frame_of stands.at) (writing_at free frame_of listed stands.at) (l ∷ ls) start.is_free w.none_under w.left_is
      ∙ begun (frame_of stands.at) (writing_at free frame_of listed stands.at) l ls start.due in
      let more = follow_ends stands.others (continue_code l.packet) stands.at (rest_codes l.packet l.packet.text) end stands.follow
      (ap (λ (g : Given). g.next.codes) e) (ap (λ (g : Given). g.next.cont) e) (ap (λ (g : Given). g.next.broken) e) in
      record {
        gives = subst (λ ps. Gives from ps end) (sym stands.placed_are)
            (w.back (record { slot = stands.at; code = start_code l.packet } ∷ stands.others) end (one_given stands.at (start_code l.packet) stands.others end (ap (λ (g : Given). g.code) e) more.gives));
        none_under = more.none_under;
        left_is = more.left_is ∙ ap (λ (g : Given). g.next.left) e;
      }

  placed_append : (n : ℕ) (o : Option Code) (xs ys : List PlacedCode) → placed_in n o (xs ++ ys) ≡ placed_in n o xs ++ ys
  placed_append n None xs ys = refl
  placed_append n (Some code) xs ys = refl

  given_append : (j from k total : ℕ) → total ≡ j + k → given_from (given_at free frame_of listed) from total ≡ given_from (given_at free frame_of listed) from j ++ given_from (given_at free frame_of listed) (from + j) k
  given_append zero from k total is =
      let same : from ≡ from + 0 = omega arith in
      let all : total ≡ k = omega (arith, is) in
      ap (λ n. given_from (given_at free frame_of listed) from n) all ∙ ap (λ m. given_from (given_at free frame_of listed) m k) same
  given_append (suc j) from k total is =
      let same : suc from + j ≡ from + suc j = omega arith in
      let all : total ≡ suc (j + k) = omega (arith, is) in
      ap (λ n. given_from (given_at free frame_of listed) from n) all
      ∙ ap (placed_in from (given_at free frame_of listed from)) (given_append j (suc from) k (j + k) refl ∙ ap (λ m. given_from (given_at free frame_of listed) (suc from) j ++ given_from (given_at free frame_of listed) m k) same)
      ∙ placed_append from (given_at free frame_of listed from) (given_from (given_at free frame_of listed) (suc from) j) (given_from (given_at free frame_of listed) (from + suc j) k)

  gives_append : (from behind end : ℕ) (first rest : List PlacedCode) → Gives from first behind → Gives behind rest end → Gives from (first ++ rest) end
  gives_append from behind end first rest one two =
      let a = one.sums in let b = two.sums in
      record {
        count = one.count + two.count;
        sums = omega arith;
        list_is = given_append one.count from two.count (one.count + two.count) refl
            ∙ ap (λ m. given_from (given_at free frame_of listed) from one.count ++ given_from (given_at free frame_of listed) m two.count) a
            ∙ ap (λ r. r ++ given_from (given_at free frame_of listed) behind two.count) one.list_is
            ∙ ap (λ r. first ++ r) two.list_is;
      }

  all_end : (ls more : List Listed) (from : ℕ) (placed : List PlacedCode) (end : ℕ) → StandFrom free frame_of from ls placed end
      → (writing_at free frame_of listed from).codes ≡ [] → (writing_at free frame_of listed from).left ≡ ls ++ more → Ends from placed end more
  all_end [] more from placed end stand none at =
      subst (λ ps. Ends from ps end more) (sym stand.0) (subst (λ e. Ends from [] e more) (sym stand.1)
      (record { gives = record { count = 0; sums = omega arith; list_is = refl }; none_under = none; left_is = at }))
  all_end (l ∷ ls) more from placed end (first, rest, (is, (behind, (stands, others)))) none at =
      let one = stands_ends from l (ls ++ more) first behind stands none at in
      let all = all_end ls more behind rest end others one.none_under one.left_is in
      subst (λ ps. Ends from ps end more) (sym is) (record { gives = gives_append from behind end first rest one.gives all.gives; none_under = all.none_under; left_is = all.left_is })

  -- the next free slot below one, or none
  find_next : (k from n : ℕ) → from + k ≡ n → ((m : ℕ) × (IsNext free from m × (m < n))) ⊎ ((m : ℕ) → from ≤ m → m < n → free m ≡ false)
  find_next zero from n is = inr (λ m low high. absurd (omega (arith, low, high, is)))
  find_next (suc k) from n is = by_free (free from) refl (find_next k (suc from) n (omega arith))
    where
      by_free : (b : Bool) → free from ≡ b → (((m : ℕ) × (IsNext free (suc from) m × (m < n))) ⊎ ((m : ℕ) → suc from ≤ m → m < n → free m ≡ false))
          → ((m : ℕ) × (IsNext free from m × (m < n))) ⊎ ((m : ℕ) → from ≤ m → m < n → free m ≡ false)
      by_free true at more = inl (from, (record { behind = omega arith; is_free = at; none = λ m low high. absurd (omega (arith, low, high)) }, omega (arith, is)))
      by_free false at (inl found) = inl (
        found.0,
        (
          record {
            behind = let b = found.1.0.behind in omega arith;
            is_free = found.1.0.is_free;
            none = λ m low high. ⊎_elim (λ (above : from < m). found.1.0.none m (omega (arith, above)) high) (λ (below : m ≤ from). let same : m ≡ from = omega (arith, low, below) in subst (λ i. free i ≡ false) (sym same) at) (cases_lt from m);
          },
          found.1.1,
        ),
      )
      by_free false at (inr none) = inr (λ m low high. ⊎_elim (λ (above : from < m). none m (omega (arith, above)) high) (λ (below : m ≤ from). let same : m ≡ from = omega (arith, low, below) in subst (λ i. free i ≡ false) (sym same) at) (cases_lt from m))

  find_start : (k from n frame : ℕ) → from + k ≡ n → ((m : ℕ) × (IsStart free frame_of from frame m × (m < n))) ⊎ ((m : ℕ) → from ≤ m → m < n → free m ≡ true → frame_of m < frame)
  find_start zero from n frame is = inr (λ m low high at. absurd (omega (arith, low, high, is)))
  find_start (suc k) from n frame is = by_free (free from) refl (cases_lt (frame_of from) frame) (find_start k (suc from) n frame (omega arith))
    where
      later : (free from ≡ true → frame_of from < frame) → (((m : ℕ) × (IsStart free frame_of (suc from) frame m × (m < n))) ⊎ ((m : ℕ) → suc from ≤ m → m < n → free m ≡ true → frame_of m < frame))
          → ((m : ℕ) × (IsStart free frame_of from frame m × (m < n))) ⊎ ((m : ℕ) → from ≤ m → m < n → free m ≡ true → frame_of m < frame)
      later here (inl found) = inl (
        found.0,
        (
          record {
            behind = let b = found.1.0.behind in omega arith;
            is_free = found.1.0.is_free;
            due = found.1.0.due;
            none = λ m low high at. ⊎_elim (λ (above : from < m). found.1.0.none m (omega (arith, above)) high at) (λ (below : m ≤ from). let same : from ≡ m = omega (arith, low, below) in subst (λ i. free i ≡ true → frame_of i < frame) same here at) (cases_lt from m);
          },
          found.1.1,
        ),
      )
      later here (inr none) = inr (λ m low high at. ⊎_elim (λ (above : from < m). none m (omega (arith, above)) high at) (λ (below : m ≤ from). let same : from ≡ m = omega (arith, low, below) in subst (λ i. free i ≡ true → frame_of i < frame) same here at) (cases_lt from m))

      by_free : (b : Bool) → free from ≡ b → (frame_of from < frame) ⊎ (frame ≤ frame_of from) → (((m : ℕ) × (IsStart free frame_of (suc from) frame m × (m < n))) ⊎ ((m : ℕ) → suc from ≤ m → m < n → free m ≡ true → frame_of m < frame))
          → ((m : ℕ) × (IsStart free frame_of from frame m × (m < n))) ⊎ ((m : ℕ) → from ≤ m → m < n → free m ≡ true → frame_of m < frame)
      by_free true at (inr due) more = inl (from, (record { behind = omega arith; is_free = at; due = due; none = λ m low high is_free. absurd (omega (arith, low, high)) }, omega (arith, is)))
      by_free true at (inl early) more = later (λ it. early) more
      by_free false at due more = later (λ it. let wrong : true ≡ false = sym it ∙ at in absurd (cc)) more

  -- more than these are left after this many slots
  abbrev Still : List Listed → ℕ → Type 0
  Still left n = length left < unended (writing_at free frame_of listed n).codes (writing_at free frame_of listed n).left

  still_under : (n : ℕ) (left : List Listed) (c : Code) (cs : List Code) → (writing_at free frame_of listed n).codes ≡ c ∷ cs → (writing_at free frame_of listed n).left ≡ left → Still left n
  still_under n left c cs is at = rw (is, at) (omega arith)

  still_waiting : (n : ℕ) (l : Listed) (ls : List Listed) → (writing_at free frame_of listed n).codes ≡ [] → (writing_at free frame_of listed n).left ≡ l ∷ ls → Still ls n
  still_waiting n l ls is at = rw (is, at) (omega arith)

  record Follows (cont : Code) (at : ℕ) (codes : List Code) (n : ℕ) : Type 0 where
    placed : List PlacedCode
    end : ℕ
    follow : Follow free cont at codes placed end
    within : end ≤ n

  follow_exists : (fuel : ℕ) (cont : Code) (at : ℕ) (codes : List Code) (left : List Listed) (n : ℕ) → n ≤ suc at + fuel → suc at ≤ n
      → (writing_at free frame_of listed (suc at)).codes ≡ codes → (writing_at free frame_of listed (suc at)).cont ≡ cont → (writing_at free frame_of listed (suc at)).broken ≡ false → (writing_at free frame_of listed (suc at)).left ≡ left
      → Follows cont at codes n ⊎ Still left n
  follow_exists fuel cont at [] left n most least is is_cont whole is_left = inl (record { placed = []; end = suc at; follow = (refl, refl); within = least })
  follow_exists zero cont at (c ∷ cs) left n most least is is_cont whole is_left =
      let same : suc at ≡ n = omega (arith, most, least) in
      inr (subst (λ m. Still left m) same (still_under (suc at) left c cs is is_left))
  follow_exists (suc fuel) cont at (c ∷ cs) left n most least is is_cont whole is_left =
      ⊎_elim
      (λ found.
      let m = found.0 in
      let next = found.1.0 in
      let behind = next.behind in
      let below = found.1.1 in
      ⊎_elim
      (λ (later : suc at < found.0).
      let alike = closed_all (found.0 - suc at) (suc at) found.0 (omega (arith, behind)) next.none in
      let e = next_continue (free found.0) (frame_of found.0) (writing_at free frame_of listed found.0) c cs next.is_free (closed_broken (suc at) found.0 later next.none) (alike.codes ∙ is) in
      ⊎_elim
      (λ (f : Follows cont found.0 (c ∷ cs) n). inl (record { placed = record { slot = found.0; code = cont } ∷ f.placed; end = f.end; follow = (next, inr (later, (refl, ((c, (cs, refl)), f.follow)))); within = f.within }))
      (λ (never : Still left n). inr never)
      (follow_exists fuel cont found.0 (c ∷ cs) left n (omega (arith, most, later)) (omega (arith, below))
      (ap (λ (g : Given). g.next.codes) e ∙ alike.codes ∙ is) (ap (λ (g : Given). g.next.cont) e ∙ alike.cont ∙ is_cont) (ap (λ (g : Given). g.next.broken) e) (ap (λ (g : Given). g.next.left) e ∙ alike.left ∙ is_left)))
      (λ (here : found.0 ≤ suc at).
      let same : found.0 ≡ suc at = omega (arith, behind, here) in
      let e = next_code (free (suc at)) (frame_of (suc at)) (writing_at free frame_of listed (suc at)) c cs (subst (λ i. free i ≡ true) same next.is_free) whole is in
      ⊎_elim
      (λ (f : Follows cont (suc at) cs n). inl (record {
        placed = record { slot = found.0; code = c } ∷ f.placed;
        end = f.end;
        follow = (next, inl (same, (cs, (refl, subst (λ i. Follow free cont i cs f.placed f.end) (sym same) f.follow))));
        within = f.within;
      }))
      (λ (never : Still left n). inr never)
      (follow_exists fuel cont (suc at) cs left n (omega (arith, most)) (omega (arith, below, here, same))
      (ap (λ (g : Given). g.next.codes) e) (ap (λ (g : Given). g.next.cont) e ∙ is_cont) (ap (λ (g : Given). g.next.broken) e ∙ whole) (ap (λ (g : Given). g.next.left) e ∙ is_left)))
      (cases_lt (suc at) found.0))
      (λ none.
      let alike = closed_all (n - suc at) (suc at) n (omega (arith, least)) none in
      inr (still_under n left c cs (alike.codes ∙ is) (alike.left ∙ is_left)))
      (find_next (n - suc at) (suc at) n (omega (arith, least)))

  record StandsIn (from : ℕ) (l : Listed) (n : ℕ) : Type 0 where
    placed : List PlacedCode
    end : ℕ
    stands : StandsFrom free frame_of from l placed end
    within : end ≤ n

  stands_exists : (from : ℕ) (l : Listed) (ls : List Listed) (n : ℕ) → from ≤ n → (writing_at free frame_of listed from).codes ≡ [] → (writing_at free frame_of listed from).left ≡ l ∷ ls → StandsIn from l n ⊎ Still ls n
  stands_exists from l ls n least none at =
      ⊎_elim
      (λ found.
      let start = found.1.0 in
      let behind = start.behind in
      let below = found.1.1 in
      let w = waits (found.0 - from) from found.0 l ls (omega (arith, behind)) none at start.none in
      let e = idle_next (free found.0) (frame_of found.0) (writing_at free frame_of listed found.0) (l ∷ ls) start.is_free w.none_under w.left_is
      ∙ begun (frame_of found.0) (writing_at free frame_of listed found.0) l ls start.due in
      ⊎_elim
      (λ (f : Follows (continue_code l.packet) found.0 (rest_codes l.packet l.packet.text) n). inl (record {
        placed = record { slot = found.0; code = start_code l.packet } ∷ f.placed;
        end = f.end;
        stands = record { at = found.0; start = start; others = f.placed; placed_are = refl; follow = f.follow };
        within = f.within;
      }))
      (λ (never : Still ls n). inr never)
      (follow_exists n (continue_code l.packet) found.0 (rest_codes l.packet l.packet.text) ls n (omega arith) (omega (arith, below))
      (ap (λ (g : Given). g.next.codes) e) (ap (λ (g : Given). g.next.cont) e) (ap (λ (g : Given). g.next.broken) e) (ap (λ (g : Given). g.next.left) e)))
      (λ early.
      let w = waits (n - from) from n l ls (omega (arith, least)) none at early in
      inr (still_waiting n l ls w.none_under w.left_is))
      (find_start (n - from) from n l.from (omega (arith, least)))

  record StandIn (from : ℕ) (ls : List Listed) (n : ℕ) : Type 0 where
    placed : List PlacedCode
    end : ℕ
    stand : StandFrom free frame_of from ls placed end
    within : end ≤ n

  all_exist : (ls more : List Listed) (from n : ℕ) → from ≤ n → (writing_at free frame_of listed from).codes ≡ [] → (writing_at free frame_of listed from).left ≡ ls ++ more → StandIn from ls n ⊎ Still more n
  all_exist [] more from n least none at = inl (record { placed = []; end = from; stand = (refl, refl); within = least })
  all_exist (l ∷ ls) more from n least none at =
      ⊎_elim
      (λ (s : StandsIn from l n).
      let one = stands_ends from l (ls ++ more) s.placed s.end s.stands none at in
      ⊎_elim
      (λ (f : StandIn s.end ls n). inl (record { placed = s.placed ++ f.placed; end = f.end; stand = (s.placed, f.placed, (refl, (s.end, (s.stands, f.stand)))); within = f.within }))
      (λ (never : Still more n). inr never)
      (all_exist ls more s.end n s.within one.none_under one.left_is))
      (λ (never : Still (ls ++ more) n). let sum : length (ls ++ more) ≡ length ls + length more = length-append ls more in inr (omega (arith, never, sum)))
      (stands_exists from l (ls ++ more) n least none at)

  over_next : (n : ℕ) → (writing_at free frame_of listed n).codes ≡ [] → (writing_at free frame_of listed n).left ≡ [] → ((writing_at free frame_of listed (suc n)).codes ≡ []) × ((writing_at free frame_of listed (suc n)).left ≡ [])
  over_next n none left = by_free (free n) refl
    where
      by_free : (b : Bool) → free n ≡ b → ((writing_at free frame_of listed (suc n)).codes ≡ []) × ((writing_at free frame_of listed (suc n)).left ≡ [])
      by_free false is = let e = taken_next (free n) (frame_of n) (writing_at free frame_of listed n) is in (ap (λ (g : Given). g.next.codes) e ∙ none, ap (λ (g : Given). g.next.left) e ∙ left)
      by_free true is = let e = idle_next (free n) (frame_of n) (writing_at free frame_of listed n) [] is none left in (ap (λ (g : Given). g.next.codes) e ∙ none, ap (λ (g : Given). g.next.left) e ∙ left)

  over_on : (k from n : ℕ) → from + k ≡ n → (writing_at free frame_of listed from).codes ≡ [] → (writing_at free frame_of listed from).left ≡ [] → ((writing_at free frame_of listed n).codes ≡ []) × ((writing_at free frame_of listed n).left ≡ [])
  over_on zero from n is none left = let same : from ≡ n = omega arith in subst (λ m. ((writing_at free frame_of listed m).codes ≡ []) × ((writing_at free frame_of listed m).left ≡ [])) same (none, left)
  over_on (suc k) from n is none left = let next = over_next from none left in over_on k (suc from) n (omega arith) next.0 next.1

  not_still : (n : ℕ) → (writing_at free frame_of listed n).codes ≡ [] → (writing_at free frame_of listed n).left ≡ [] → Still [] n → ⊥
  not_still n none left still = let zero_left : unended (writing_at free frame_of listed n).codes (writing_at free frame_of listed n).left ≡ 0 = rw (none, left) refl in omega (arith, still, zero_left)

  over_where : (n : ℕ) → (AllStand free frame_of listed n → ((writing_at free frame_of listed n).codes ≡ []) × ((writing_at free frame_of listed n).left ≡ []))
      × ((writing_at free frame_of listed n).codes ≡ [] → (writing_at free frame_of listed n).left ≡ [] → AllStand free frame_of listed n)
  over_where n = (
    (λ stand. let e = all_end listed [] 0 stand.placed stand.end stand.stand refl (sym (nil_right listed)) in let within = stand.within in over_on (n - stand.end) stand.end n (omega (arith, within)) e.none_under e.left_is),
    (λ none left. ⊎_elim (λ (s : StandIn 0 listed n). record { placed = s.placed; end = s.end; stand = s.stand; within = s.within }) (λ (never : Still [] n). absurd (not_still n none left never)) (all_exist listed [] 0 n (omega arith) refl (sym (nil_right listed)))),
  )

  -- there are never more that aren't ended than before
  few_unended : (codes : List Code) (left : List Listed) → unended codes left ≤ suc (length left)
  few_unended [] left = omega arith
  few_unended (c ∷ codes) left = omega arith

  fewer_begun : (frame : ℕ) (s : Unsent) (left : List Listed) → s.codes ≡ [] → s.left ≡ left → unended (begun_at frame s left).next.codes (begun_at frame s left).next.left ≤ length left
  fewer_begun frame s [] none at = rw (none, at) (omega arith)
  fewer_begun frame s (l ∷ left) none at = by_frame (nat_le l.from frame)
    where
      the : Bool → Given
      the b = if b then record { next = record { left = left; cont = continue_code l.packet; codes = rest_codes l.packet l.packet.text; broken = false }; code = Some (start_code l.packet) } else record { next = s; code = None }

      by_frame : (b : Bool) → unended (the b).next.codes (the b).next.left ≤ suc (length left)
      by_frame true = few_unended (rest_codes l.packet l.packet.text) left
      by_frame false = rw (none, at) (omega arith)

  fewer_on : (b : Bool) (frame : ℕ) (s : Unsent) (codes : List Code) → s.codes ≡ codes → unended (sent_on b frame s codes).next.codes (sent_on b frame s codes).next.left ≤ unended codes s.left
  fewer_on true frame s [] is = fewer_begun frame s s.left is refl
  fewer_on false frame s [] is = fewer_begun frame s s.left is refl
  fewer_on true frame s (c ∷ cs) is = rw is (omega arith)
  fewer_on false frame s (c ∷ cs) is = few_unended cs s.left

  fewer_next : (b : Bool) (frame : ℕ) (s : Unsent) → unended (given_in b frame s).next.codes (given_in b frame s).next.left ≤ unended s.codes s.left
  fewer_next true frame s = fewer_on s.broken frame s s.codes refl
  fewer_next false frame s = omega arith

  abbrev left_at : ℕ → ℕ
  left_at n = unended (writing_at free frame_of listed n).codes (writing_at free frame_of listed n).left

  fewer : (k from n : ℕ) → from + k ≡ n → left_at n ≤ left_at from
  fewer zero from n is = let same : from ≡ n = omega arith in subst (λ m. left_at m ≤ left_at from) same (omega arith)
  fewer (suc k) from n is =
      let one = fewer_next (free from) (frame_of from) (writing_at free frame_of listed from) in
      let more = fewer k (suc from) n (omega arith) in
      omega (arith, one, more)

  prefix_left : (k n : ℕ) → AllStand free frame_of (take k listed) n → left_at n ≤ length (drop k listed)
  prefix_left k n stand =
      let e = all_end (take k listed) (drop k listed) 0 stand.placed stand.end stand.stand refl (sym (take-append-drop k listed)) in
      let at_end : left_at stand.end ≡ length (drop k listed) = rw (e.none_under, e.left_is) refl in
      let within = stand.within in
      let later = fewer (n - stand.end) stand.end n (omega (arith, within)) in
      omega (arith, later, at_end)

  prefix_stands : (k n : ℕ) → left_at n ≤ length (drop k listed) → AllStand free frame_of (take k listed) n
  prefix_stands k n few = ⊎_elim (λ (s : StandIn 0 (take k listed) n). record { placed = s.placed; end = s.end; stand = s.stand; within = s.within })
      (λ (never : Still (drop k listed) n). absurd (omega (arith, few, never)))
      (all_exist (take k listed) (drop k listed) 0 n (omega arith) refl (sym (take-append-drop k listed)))

  lacks : (n count : ℕ) → left_at n ≡ count → LacksRoom free frame_of listed n (first_of (length listed) count)
  lacks n zero is =
      ⊎_elim (λ (s : StandIn 0 listed n). record { placed = s.placed; end = s.end; stand = s.stand; within = s.within })
      (λ (never : Still [] n). absurd (omega (arith, is, never)))
      (all_exist listed [] 0 n (omega arith) refl (sym (nil_right listed)))
  lacks n (suc count) is =
      let most : left_at n ≤ length listed = fewer n 0 n (omega arith) in
      let front : length (drop (length listed - count - 1) listed) ≡ length listed - (length listed - count - 1) = length-drop (length listed - count - 1) listed in
      let all : length (drop (length listed - count) listed) ≡ length listed - (length listed - count) = length-drop (length listed - count) listed in (
        prefix_stands (length listed - count - 1) n (omega (arith, is, most, front)),
        λ stand. let few = prefix_left (length listed - count) n stand in omega (arith, few, is, most, all),
      )

pub unfinished_lacks_room : UnfinishedLacksRoom
unfinished_lacks_room free frame_of listed n = lacks free frame_of listed n (unended (writing_at free frame_of listed n).codes (writing_at free frame_of listed n).left) refl

pub over_where_all_stand : OverWhereAllStand
over_where_all_stand free frame_of listed n = over_where free frame_of listed n

pub standing_is_given : StandingIsGiven
standing_is_given free frame_of listed placed end stand =
    let e = all_end free frame_of listed listed [] 0 placed end stand refl (sym (nil_right listed)) in
    let sums = e.gives.sums in
    let count : e.gives.count ≡ end = omega arith in
    record {
      given_are = subst (λ k. given_from (given_at free frame_of listed) 0 k ≡ placed) count e.gives.list_is;
      none_left = e.left_is;
      none_under = e.none_under;
    }
