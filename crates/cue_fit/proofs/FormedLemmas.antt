-- The lists of cues so far are in their form.
use Rattle.std.proofs.Common.{ℕ, ◌<◌, ◌≤◌, ◌^◌, max, Bool, true, false, List, [], ◌∷◌, length, reverse, Some, arith}
use Rattle.std.specs.Prelude.{All, find, if◌then◌else◌}
use Rattle.std.specs.List.{AllByRecursion}
use Rattle.std.proofs.lemmas.List.{length-reverse}
use Rattle.std.proofs.lemmas.List.Elements.{All-from_recursion, recursion_from_All}
use Rattle.cue_lists.proofs.ChannelCues.{All-reverse}
use Rattle.cue_lists.proofs.InOrder.{in_order_formed}
use Rattle.cue_lists.specs.Cues.{IsCueFormed}
use Rattle.cue_lists.specs.Lane.{is_line21, kind_lane, on_lane}
use Rattle.cue_lists.specs.Listing.{IsFormed, Listing, most_cues}
use Rattle.cue_lists.specs.Printing.{in_order}
use Rattle.cue_lists.specs.Rules.Former.{former_cue}
use Rattle.cue_lists.specs.declared.cue.Cue.{Cue}
use Rattle.cue_lists.specs.declared.lane.Lane.{Lane}
use Rattle.cue_fit.specs.Fitted.{list_of}
use Rattle.cue_fit.specs.Shown.{hidden_in, load_after, takes_place, with_shown}
use Rattle.cue_fit.proofs.ShownLemmas.{formed_hidden, formed_shown}

-- a LOAD after the former cue
pub small_load : (on : Lane) (cue : Cue) (earlier : List Cue) → cue.load < 2 ^ 32 → AllByRecursion IsCueFormed earlier
    → load_after cue (find (on_lane on) earlier) < 2 ^ 32
small_load on cue [] low formed = low
small_load on cue (c ∷ cs) low formed = at (on_lane on c) (small_load on cue cs low formed.1)
  where
    most : (b : Bool) → (if b then max cue.load c.show else cue.load) < 2 ^ 32
    most true = let show = formed.0.show in omega arith
    most false = low

    at : (b : Bool) → load_after cue (find (on_lane on) cs) < 2 ^ 32 → load_after cue (if b then Some c else find (on_lane on) cs) < 2 ^ 32
    at true rest = most (is_line21 cue.kind)
    at false rest = rest

pub hidden_formed : (frame : ℕ) (on : Lane) (cues : List Cue) → frame < 2 ^ 32 → AllByRecursion IsCueFormed cues → AllByRecursion IsCueFormed (hidden_in frame on cues)
hidden_formed frame on [] small formed = tt
hidden_formed frame on (c ∷ cs) small formed = at (on_lane on c) (hidden_formed frame on cs small formed.1)
  where
    at : (b : Bool) → AllByRecursion IsCueFormed (hidden_in frame on cs)
        → AllByRecursion IsCueFormed (if b then record c { hide = Some frame } ∷ cs else c ∷ hidden_in frame on cs)
    at true rest = (formed_hidden c frame small formed.0, formed.1)
    at false rest = (formed.0, rest)

-- the cues so far with one more
pub with_shown_formed : (frame : ℕ) (cue : Cue) (earlier : List Cue) → frame < 2 ^ 32 → IsCueFormed cue → AllByRecursion IsCueFormed earlier
    → AllByRecursion IsCueFormed (with_shown frame cue earlier)
with_shown_formed frame cue earlier small formed all = (
  formed_shown cue (load_after cue (former_cue cue earlier)) frame (small_load (kind_lane cue.kind) cue earlier formed.load all) small formed,
  at (takes_place cue (former_cue cue earlier)),
)
  where
    at : (b : Bool) → AllByRecursion IsCueFormed (if b then hidden_in frame (kind_lane cue.kind) earlier else earlier)
    at true = hidden_formed frame (kind_lane cue.kind) earlier small all
    at false = all

-- and the list of them
pub list_of_formed : (list : Listing) (cues : List Cue) → IsFormed list → AllByRecursion IsCueFormed cues → length cues ≤ most_cues → IsFormed (list_of list cues)
list_of_formed list cues formed all few =
    let ordered : IsFormed (in_order list) = in_order_formed list formed in
    record {
      rate = ordered.rate;
      some = ordered.some;
      frames = ordered.frames;
      shares = ordered.shares;
      few = let count = length-reverse cues in omega (arith, count);
      cues = All-reverse IsCueFormed cues (All-from_recursion IsCueFormed cues all);
    }

-- a list with other cues in place of its own
pub with_cues_formed : (list : Listing) (cues : List Cue) → IsFormed list → All IsCueFormed cues → length cues ≤ most_cues
    → IsFormed (record (in_order list) { cues = cues })
with_cues_formed list cues formed all few =
    let ordered : IsFormed (in_order list) = in_order_formed list formed in
    record { rate = ordered.rate; some = ordered.some; frames = ordered.frames; shares = ordered.shares; few = few; cues = all }

-- in file order
pub added_formed : (frame : ℕ) (cue : Cue) (cues : List Cue) → frame < 2 ^ 32 → IsCueFormed cue → All IsCueFormed cues
    → All IsCueFormed (reverse (with_shown frame cue (reverse cues)))
added_formed frame cue cues small formed all =
    All-reverse IsCueFormed (with_shown frame cue (reverse cues))
    (All-from_recursion IsCueFormed (with_shown frame cue (reverse cues))
    (with_shown_formed frame cue (reverse cues) small formed (recursion_from_All IsCueFormed (reverse cues) (All-reverse IsCueFormed cues all))))
