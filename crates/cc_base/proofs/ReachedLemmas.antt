-- A reader that was fed one piece and then another was fed both.
use Rattle.std.proofs.Common.{◌≡◌, ℕ, ◌++◌, List, [], Option, Some, None, refl, ap, sym, subst, ◌∙◌, append_assoc, append-nil}
use Rattle.cc_base.specs.declared.refusal.Refusal.{Refusal}
use Rattle.cc_base.specs.Feeding.{Judge, Verdict, Reading, Reached, read_first, reading}
use Rattle.cc_base.proofs.ReadingLemmas.{reading-append}

-- a reader that was fed nothing more
pub Reached-nothing : {I P R U : Type 0} (judge : Judge I P) (verdict : Verdict P) (place : List I → ℕ)
    (Leads : List I → R → Type 0) (refusal : R → Option Refusal) (Took : List P → U → Type 0)
    (before : List I) (above : List P) (reader : R) (up : U) → Leads before reader → Took above up
    → Reached judge verdict place Leads refusal Took before above [] reader up
Reached-nothing judge verdict place Leads refusal Took before above reader up leads took = record {
  took = subst (λ parts. Took parts up) (sym (append-nil above)) took;
  leads = λ _. subst (λ items. Leads items reader) (sym (append-nil before)) leads;
  kept = λ refused is. cc;
}

-- what one call of `feed` does, in the words of its contract
pub record Feeds {I P R U : Type 0} (judge : Judge I P) (verdict : Verdict P) (place : List I → ℕ)
    (Leads : List I → R → Type 0) (refusal : R → Option Refusal) (Took : List P → U → Type 0)
    (input : List I) (answer : Option Refusal) (old new : R) (up top : U) : Type 0 where
  pub answer_is : (before : List I) (above : List P) → Leads before old → Took above up → answer ≡ (reading judge verdict place before above input).refusal
  pub handed : (before : List I) (above : List P) → Leads before old → Took above up → Took (above ++ (reading judge verdict place before above input).parts) top
  pub leads : (before : List I) (above : List P) → Leads before old → Took above up → answer ≡ None → Leads (before ++ input) new
  pub kept : (refused : Refusal) → refusal old ≡ Some refused → (answer ≡ Some refused) × (new ≡ old) × (top ≡ up)
  pub told : refusal new ≡ answer

-- the answer and the layers after one more piece
pub record Goes {I P R U : Type 0} (judge : Judge I P) (verdict : Verdict P) (place : List I → ℕ)
    (Leads : List I → R → Type 0) (refusal : R → Option Refusal) (Took : List P → U → Type 0)
    (before : List I) (above : List P) (items : List I) (answer : Option Refusal) (new : R) (top : U) : Type 0 where
  pub answer_is : answer ≡ (reading judge verdict place before above items).refusal
  pub reached : Reached judge verdict place Leads refusal Took before above items new top

-- after items that weren't refused
Reached-goes : {I P R U : Type 0} (judge : Judge I P) (verdict : Verdict P) (place : List I → ℕ)
    (Leads : List I → R → Type 0) (refusal : R → Option Refusal) (Took : List P → U → Type 0)
    (before : List I) (above : List P) (first second : List I) (answer : Option Refusal) (old new : R) (up top : U)
    → Reached judge verdict place Leads refusal Took before above first old up
    → Feeds judge verdict place Leads refusal Took second answer old new up top
    → (reading judge verdict place before above first).refusal ≡ None
    → Goes judge verdict place Leads refusal Took before above (first ++ second) answer new top
Reached-goes judge verdict place Leads refusal Took before above first second answer old new up top r f none =
    let one = reading judge verdict place before above first in
    let more = reading judge verdict place (before ++ first) (above ++ one.parts) second in
    let whole : reading judge verdict place before above (first ++ second) ≡ read_first None one.parts more =
    reading-append judge verdict place before above first second ∙ ap (λ a. read_first a one.parts more) none in
    let led = r.leads none in
    let is = f.answer_is (before ++ first) (above ++ one.parts) led r.took ∙ sym (ap (λ (x : Reading _). x.refusal) whole) in record {
      answer_is = is;
      reached = record {
        took = subst (λ (x : Reading _). Took (above ++ x.parts) top) (sym whole)
            (subst (λ ps. Took ps top) (append_assoc above one.parts more.parts) (f.handed (before ++ first) (above ++ one.parts) led r.took));
        leads = λ ok. subst (λ items. Leads items new) (append_assoc before first second) (f.leads (before ++ first) (above ++ one.parts) led r.took (is ∙ ok));
        kept = λ refused at. f.told ∙ is ∙ at;
      };
    }

-- after a refusal
Reached-stays : {I P R U : Type 0} (judge : Judge I P) (verdict : Verdict P) (place : List I → ℕ)
    (Leads : List I → R → Type 0) (refusal : R → Option Refusal) (Took : List P → U → Type 0)
    (before : List I) (above : List P) (first second : List I) (answer : Option Refusal) (old new : R) (up top : U)
    → Reached judge verdict place Leads refusal Took before above first old up
    → Feeds judge verdict place Leads refusal Took second answer old new up top
    → (refused : Refusal) → (reading judge verdict place before above first).refusal ≡ Some refused
    → Goes judge verdict place Leads refusal Took before above (first ++ second) answer new top
Reached-stays judge verdict place Leads refusal Took before above first second answer old new up top r f refused some =
    let one = reading judge verdict place before above first in
    let more = reading judge verdict place (before ++ first) (above ++ one.parts) second in
    let whole : reading judge verdict place before above (first ++ second) ≡ record { parts = one.parts; refusal = Some refused } =
    reading-append judge verdict place before above first second ∙ ap (λ a. read_first a one.parts more) some in
    let stays = f.kept refused (r.kept refused some) in
    let is = stays.0 ∙ sym (ap (λ (x : Reading _). x.refusal) whole) in record {
      answer_is = is;
      reached = record {
        took = subst (λ (x : Reading _). Took (above ++ x.parts) top) (sym whole) (subst (λ u. Took (above ++ one.parts) u) (sym stays.2) r.took);
        leads = λ ok. absurd (let clash = stays.0 in let wrong = is ∙ ok in cc);
        kept = λ other at. f.told ∙ is ∙ at;
      };
    }

-- after one more piece
pub Reached-more : {I P R U : Type 0} (judge : Judge I P) (verdict : Verdict P) (place : List I → ℕ)
    (Leads : List I → R → Type 0) (refusal : R → Option Refusal) (Took : List P → U → Type 0)
    (before : List I) (above : List P) (first second : List I) (answer : Option Refusal) (old new : R) (up top : U)
    → Reached judge verdict place Leads refusal Took before above first old up
    → Feeds judge verdict place Leads refusal Took second answer old new up top
    → Goes judge verdict place Leads refusal Took before above (first ++ second) answer new top
Reached-more judge verdict place Leads refusal Took before above first second answer old new up top r f =
    let cases : (a : Option Refusal) → (reading judge verdict place before above first).refusal ≡ a
    → Goes judge verdict place Leads refusal Took before above (first ++ second) answer new top = elim [
      | None ↦ λ none. Reached-goes judge verdict place Leads refusal Took before above first second answer old new up top r f none
      | Some refused ↦ λ some. Reached-stays judge verdict place Leads refusal Took before above first second answer old new up top r f refused some
    ] in cases _ refl
