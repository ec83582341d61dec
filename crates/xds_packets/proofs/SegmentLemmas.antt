-- What one pair more makes of the segments.
use Rattle.std.proofs.Common.{◌≡◌, ℕ, ◌+◌, ◌/◌, ◌%◌, nat_lt, Bool, true, false, List, [], ◌∷◌, ◌++◌, map, Option, Some, refl, sym, ap, ◌∙◌, append_assoc}
use Rattle.std.specs.Prelude.{⊤, if◌then◌else◌, not, ◌==◌, ◌&&◌, ◌||◌}
use Rattle.std.specs.List.{flat_map, list_any}
use Rattle.line21_codes.specs.declared.codes.Code.{Code}
use Rattle.line21_codes.specs.declared.codes.Code.TheVariants.{Null, Text, Xds, Control}
use Rattle.xds_packets.specs.Segments.{Segment, data_bytes, first_mark, is_mark, is_open, is_open_end, opened, segments, since_start, starts_class, stretch}

-- a segment with one pair more after it
abbrev pub grown : Code → Segment → Segment
grown code s = record s { bytes = s.bytes ++ (if is_open s then data_bytes code else []); end = if is_open s && is_mark code then Some code else s.end }

pub nil_right : {X : Type 0} (xs : List X) → xs ++ [] ≡ xs
nil_right [] = refl
nil_right (x ∷ xs) = ap (λ r. x ∷ r) (nil_right xs)

mark_bytes : (code : Code) → is_mark code ≡ true → data_bytes code ≡ []
mark_bytes Null is = cc
mark_bytes (Text first second) is = cc
mark_bytes (Xds first second) is = refl
mark_bytes (Control second control) is = refl

-- the bytes and the end of a stretch with one pair more
record Grows (codes : List Code) (x : Code) : Type 0 where
  bytes : flat_map data_bytes (stretch (codes ++ x ∷ [])) ≡ flat_map data_bytes (stretch codes) ++ (if is_open_end (first_mark codes) then data_bytes x else [])
  end : first_mark (codes ++ x ∷ []) ≡ (if is_open_end (first_mark codes) && is_mark x then Some x else first_mark codes)

grows : (codes : List Code) (x : Code) → Grows codes x
grows [] x = by_mark (is_mark x) refl
  where
    by_mark : (b : Bool) → is_mark x ≡ b → Grows [] x
    by_mark true is = record { bytes = rw is (sym (mark_bytes x is)); end = rw is refl }
    by_mark false is = record { bytes = rw is (nil_right (data_bytes x)); end = rw is refl }
grows (code ∷ codes) x = by_mark (is_mark code) refl (grows codes x)
  where
    by_mark : (b : Bool) → is_mark code ≡ b → Grows codes x → Grows (code ∷ codes) x
    by_mark true is more = record { bytes = rw is refl; end = rw is refl }
    by_mark false is more =
        record {
          bytes = rw is (ap (λ r. data_bytes code ++ r) more.bytes ∙ sym (append_assoc (data_bytes code) (flat_map data_bytes (stretch codes)) (if is_open_end (first_mark codes) then data_bytes x else [])));
          end = rw is more.end;
        }

opened_more : (code : Code) (codes : List Code) (x : Code) → opened code (codes ++ x ∷ []) ≡ map (grown x) (opened code codes)
opened_more Null codes x = refl
opened_more (Text first second) codes x = refl
opened_more (Control second control) codes x = refl
opened_more (Xds first second) codes x = by_first (nat_lt first 0x0F)
  where
    the_segment : List ℕ → Option Code → Segment
    the_segment bytes end = record { class = (first + 1) / 2; kind = second; is_start = first % 2 == 1; bytes = bytes; end = end }

    by_first : (b : Bool) → (if b then the_segment (flat_map data_bytes (stretch (codes ++ x ∷ []))) (first_mark (codes ++ x ∷ [])) ∷ [] else [])
        ≡ map (grown x) (if b then the_segment (flat_map data_bytes (stretch codes)) (first_mark codes) ∷ [] else [])
    by_first true =
        let more = grows codes x in
        ap (λ bytes. the_segment bytes (first_mark (codes ++ x ∷ [])) ∷ []) more.bytes
        ∙ ap (λ end. the_segment (flat_map data_bytes (stretch codes) ++ (if is_open_end (first_mark codes) then data_bytes x else [])) end ∷ []) more.end
    by_first false = refl

pub map_append : {X Y : Type 0} (f : X → Y) (xs ys : List X) → map f (xs ++ ys) ≡ map f xs ++ map f ys
map_append f [] ys = refl
map_append f (x ∷ xs) ys = ap (λ r. f x ∷ r) (map_append f xs ys)

pub segments_more : (codes : List Code) (x : Code) → segments (codes ++ x ∷ []) ≡ map (grown x) (segments codes) ++ opened x []
segments_more [] x = nil_right (opened x [])
segments_more (code ∷ codes) x =
    ap (λ r. r ++ segments (codes ++ x ∷ [])) (opened_more code codes x)
    ∙ ap (λ r. map (grown x) (opened code codes) ++ r) (segments_more codes x)
    ∙ sym (append_assoc (map (grown x) (opened code codes)) (map (grown x) (segments codes)) (opened x []))
    ∙ ap (λ r. r ++ opened x []) (sym (map_append (grown x) (opened code codes) (segments codes)))

-- only the last segment can be open
abbrev pub AreClosed : List Segment → Type 0
AreClosed [] = ⊤
AreClosed (s ∷ ss) = (is_open s ≡ true → ss ≡ []) × AreClosed ss

no_segments : (codes : List Code) → is_open_end (first_mark codes) ≡ true → segments codes ≡ []
no_segments [] is = refl
no_segments (Null ∷ codes) is = no_segments codes is
no_segments (Text first second ∷ codes) is = no_segments codes is
no_segments (Xds first second ∷ codes) is = cc
no_segments (Control second control ∷ codes) is = cc

closed_opened : (code : Code) (codes : List Code) → AreClosed (segments codes) → AreClosed (opened code codes ++ segments codes)
closed_opened Null codes are = are
closed_opened (Text first second) codes are = are
closed_opened (Control second control) codes are = are
closed_opened (Xds first second) codes are = by_first (nat_lt first 0x0F)
  where
    by_first : (b : Bool) → AreClosed ((if b then record { class = (first + 1) / 2; kind = second; is_start = first % 2 == 1; bytes = flat_map data_bytes (stretch codes); end = first_mark codes } ∷ [] else []) ++ segments codes)
    by_first true = (λ is. no_segments codes is, are)
    by_first false = are

pub are_closed : (codes : List Code) → AreClosed (segments codes)
are_closed [] = tt
are_closed (code ∷ codes) = closed_opened code codes (are_closed codes)

-- the last start of a class
pub any_map : (x : Code) (test : Segment → Bool) → ((s : Segment) → test (grown x s) ≡ test s) → (ss : List Segment) → list_any test (map (grown x) ss) ≡ list_any test ss
any_map x test same [] = refl
any_map x test same (s ∷ ss) = ap (λ b. b || list_any test (map (grown x) ss)) (same s) ∙ ap (λ b. test s || b) (any_map x test same ss)

pub since_map : (class : ℕ) (x : Code) (ss : List Segment) → since_start class (map (grown x) ss) ≡ map (grown x) (since_start class ss)
since_map class x [] = refl
since_map class x (s ∷ ss) =
    ap (λ b. if starts_class class s && not b then grown x s ∷ map (grown x) ss else since_start class (map (grown x) ss)) (any_map x (starts_class class) (λ t. refl) ss)
    ∙ ap (λ r. if starts_class class s && not (list_any (starts_class class) ss) then grown x s ∷ map (grown x) ss else r) (since_map class x ss)
    ∙ by_test (starts_class class s && not (list_any (starts_class class) ss))
  where
    by_test : (b : Bool) → (if b then grown x s ∷ map (grown x) ss else map (grown x) (since_start class ss)) ≡ map (grown x) (if b then s ∷ ss else since_start class ss)
    by_test true = refl
    by_test false = refl

abbrev pub glued : List Segment → Segment → List Segment
glued [] new = []
glued (s ∷ ss) new = s ∷ (ss ++ new ∷ [])

pub any_more : (test : Segment → Bool) (ss : List Segment) (new : Segment) → list_any test (ss ++ new ∷ []) ≡ (list_any test ss || test new)
any_more test [] new = by_test (test new)
  where
    by_test : (b : Bool) → (b || false) ≡ b
    by_test true = refl
    by_test false = refl
any_more test (s ∷ ss) new = by_test (test s) (any_more test ss new)
  where
    by_test : (b : Bool) → list_any test (ss ++ new ∷ []) ≡ (list_any test ss || test new) → (b || list_any test (ss ++ new ∷ [])) ≡ ((b || list_any test ss) || test new)
    by_test true more = refl
    by_test false more = more

pub since_new : (class : ℕ) (ss : List Segment) (new : Segment) → starts_class class new ≡ true → since_start class (ss ++ new ∷ []) ≡ new ∷ []
since_new class [] new is = rw is refl
since_new class (s ∷ ss) new is =
    ap (λ b. if starts_class class s && not b then s ∷ (ss ++ new ∷ []) else since_start class (ss ++ new ∷ [])) (any_more (starts_class class) ss new)
    ∙ ap (λ b. if starts_class class s && not (list_any (starts_class class) ss || b) then s ∷ (ss ++ new ∷ []) else since_start class (ss ++ new ∷ [])) is
    ∙ by_tests (starts_class class s) (list_any (starts_class class) ss) (since_new class ss new is)
  where
    by_tests : (b e : Bool) → since_start class (ss ++ new ∷ []) ≡ new ∷ [] → (if b && not (e || true) then s ∷ (ss ++ new ∷ []) else since_start class (ss ++ new ∷ [])) ≡ new ∷ []
    by_tests true true more = more
    by_tests true false more = more
    by_tests false e more = more

pub since_other : (class : ℕ) (ss : List Segment) (new : Segment) → starts_class class new ≡ false → since_start class (ss ++ new ∷ []) ≡ glued (since_start class ss) new
since_other class [] new is = rw is refl
since_other class (s ∷ ss) new is =
    ap (λ b. if starts_class class s && not b then s ∷ (ss ++ new ∷ []) else since_start class (ss ++ new ∷ [])) (any_more (starts_class class) ss new)
    ∙ ap (λ b. if starts_class class s && not (list_any (starts_class class) ss || b) then s ∷ (ss ++ new ∷ []) else since_start class (ss ++ new ∷ [])) is
    ∙ by_tests (starts_class class s) (list_any (starts_class class) ss) (since_other class ss new is)
  where
    by_tests : (b e : Bool) → since_start class (ss ++ new ∷ []) ≡ glued (since_start class ss) new → (if b && not (e || false) then s ∷ (ss ++ new ∷ []) else since_start class (ss ++ new ∷ [])) ≡ glued (if b && not e then s ∷ ss else since_start class ss) new
    by_tests true true more = more
    by_tests true false more = refl
    by_tests false e more = more
