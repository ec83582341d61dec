-- The times in which cues are loaded, looked up frame by frame.
use Rattle.std.proofs.Common.{◌≡◌, ◌∙◌, ℕ, suc, ◌+◌, ◌<◌, ◌≤◌, ◌&&◌, ◌||◌, nat_le, nat_lt, Bool, true, false, List, [], ◌∷◌, ◌++◌, length, drop, get_or, map, append-nil, refl, sym, ap, subst, arith}
use Rattle.std.specs.Prelude.{if◌then◌else◌}
use Rattle.std.proofs.lemmas.Bool.Decides.{nat_tests}
use Rattle.std.proofs.Math.Seq.{drop-cons}
use Rattle.std.proofs.lemmas.List.{drop_all}
use Rattle.cue_lists.specs.Channels.{cues_on, is_on}
use Rattle.cue_lists.specs.declared.cue.Cue.{Cue}
use Rattle.line21_codes.specs.declared.channels.Chan.TheVariants.{Cc3}
use Rattle.xds_frames.specs.FreeSlots.{is_loading}
use Rattle.xds_frames.specs.Loads.{AreInOrder, AreLoadedInOrder, StandsAt, is_within, span_of}
use Rattle.xds_frames.specs.declared.loads.Loads.{Loads}
use Rattle.xds_frames.specs.declared.span.Span.{Span}

-- the times of cues tell what the cues do
pub loading_spans : (cues : List Cue) (frame : ℕ) → is_loading Cc3 cues frame ≡ is_within (map span_of (cues_on Cc3 cues)) frame
loading_spans [] frame = refl
loading_spans (cue ∷ cues) frame = by_channel (is_on Cc3 cue.kind) (loading_spans cues frame)
  where
    by_channel : (b : Bool) → is_loading Cc3 cues frame ≡ is_within (map span_of (cues_on Cc3 cues)) frame
        → ((b && (nat_le cue.load frame && nat_lt frame cue.show)) || is_loading Cc3 cues frame) ≡ is_within (map span_of (if b then cue ∷ cues_on Cc3 cues else cues_on Cc3 cues)) frame
    by_channel true rest = ap (λ r. (nat_le cue.load frame && nat_lt frame cue.show) || r) rest
    by_channel false rest = rest

and_false : (b : Bool) → (b && false) ≡ false
and_false true = refl
and_false false = refl

-- a time that is over, and times that haven't come
over : (span : Span) (spans : List Span) (frame : ℕ) → span.show ≤ frame → is_within (span ∷ spans) frame ≡ is_within spans frame
over span spans frame low =
    let test : nat_lt frame span.show ≡ false = grind (arith, nat_tests) in
    rw (test, and_false (nat_le span.load frame)) refl

not_yet : (span : Span) (spans : List Span) (frame : ℕ) → AreInOrder (span ∷ spans) → frame < span.load → is_within (span ∷ spans) frame ≡ false
not_yet span [] frame order low =
    let test : nat_le span.load frame ≡ false = grind (arith, nat_tests) in rw test refl
not_yet span (next ∷ spans) frame order low =
    let test : nat_le span.load frame ≡ false = grind (arith, nat_tests) in
    rw test (not_yet next spans frame order.1 (omega (arith, order.0)))

-- a later frame
pub stands_later : (cues : List Cue) (frame later : ℕ) (loads : Loads) → frame ≤ later → StandsAt cues frame loads → StandsAt cues later loads
stands_later cues frame later loads high at = record { spans_are = at.spans_are; ordered = at.ordered; order = at.order; tells = λ other above. at.tells other (omega arith) }

-- all the times, before frame 0
pub stands_anew : (cues : List Cue) (loads : Loads) → map span_of (cues_on Cc3 cues) ≡ loads.spans.items → AreLoadedInOrder cues → loads.next ≡ 0 → StandsAt cues 0 loads
stands_anew cues loads spans ordered none =
    let all : map span_of (cues_on Cc3 cues) ≡ drop loads.next loads.spans.items = spans ∙ ap (λ n. drop n loads.spans.items) (sym none) in
    record {
      spans_are = spans;
      ordered = ordered;
      order = subst AreInOrder all ordered;
      tells = λ later high. loading_spans cues later ∙ ap (λ l. is_within l later) all;
    }

pub tells_next : (cues : List Cue) (frame : ℕ) (loads : Loads) (span : Span) (rest : List Span) → StandsAt cues frame loads → drop loads.next loads.spans.items ≡ span ∷ rest
    → frame < span.show → nat_le span.load frame ≡ is_loading Cc3 cues frame
tells_next cues frame loads span rest at split high = by_load (nat_le span.load frame) refl
  where
    below : nat_lt frame span.show ≡ true
    below = grind (arith, nat_tests)

    tells : is_loading Cc3 cues frame ≡ is_within (span ∷ rest) frame
    tells = at.tells frame (omega arith) ∙ ap (λ l. is_within l frame) split

    by_load : (b : Bool) → nat_le span.load frame ≡ b → nat_le span.load frame ≡ is_loading Cc3 cues frame
    by_load true test = test ∙ sym (tells ∙ rw (test, below) refl)
    by_load false test =
        let low : frame < span.load = grind (arith, nat_tests) in
        test ∙ sym (tells ∙ not_yet span rest frame (subst AreInOrder split at.order) low)

pub tells_at : (cues : List Cue) (frame : ℕ) (loads : Loads) (last span : Span) → StandsAt cues frame loads → loads.next < length loads.spans.items
    → last ≡ get_or loads.spans.items loads.next last → span ≡ get_or loads.spans.items loads.next last → frame < last.show → nat_le span.load frame ≡ is_loading Cc3 cues frame
tells_at cues frame loads last span at within is same high =
    let one : span ≡ last = cc in
    let split : drop loads.next loads.spans.items ≡ last ∷ drop (suc loads.next) loads.spans.items =
    drop-cons loads.spans.items loads.next last within ∙ ap (λ (s : Span). s ∷ drop (suc loads.next) loads.spans.items) (sym is) in
    ap (λ (s : Span). nat_le s.load frame) one ∙ tells_next cues frame loads last (drop (suc loads.next) loads.spans.items) at split high

-- all are gathered
pub gathered_all : (cues : List Cue) (spans : List Span) (index : ℕ) → map span_of (cues_on Cc3 cues) ≡ spans ++ map span_of (cues_on Cc3 (drop index cues)) → length cues ≤ index
    → map span_of (cues_on Cc3 cues) ≡ spans
gathered_all cues spans index is over = is ∙ ap (λ l. spans ++ map span_of (cues_on Cc3 l)) (drop_all index cues over) ∙ append-nil spans
