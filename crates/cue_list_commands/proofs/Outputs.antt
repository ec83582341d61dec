-- What holds of the output of an accepted list.
use Rattle.std.proofs.Common.{◌≡◌, ◌∙◌, refl, subst, ℕ, List, Option, Some, None}
use Rattle.std.specs.Prelude.{IfSome}
use Rattle.cc_base.specs.Streams.{Puts}
use Rattle.line21_codes.specs.declared.channels.FieldNumber.TheVariants.{One, Two}
use Rattle.line21_codes.specs.declared.pairs.Pair.{Pair}
use Rattle.cc_base.specs.declared.streams.Put.{Put}
use Rattle.line21_codes.specs.declared.channels.Chan.TheVariants.{Cc1, Cc2, Cc3, Cc4}
use Rattle.cue_lists.specs.Listing.{IsFormed, Listing}
use Rattle.cue_lists.specs.Rules.{IsRuled}
use Rattle.cue_lists.specs.Printing.{in_order, list_bytes}
use Rattle.cue_lists.specs.Records.{records_of}
use Rattle.cue_lists.specs.Spelling.{list_records}
use Rattle.cue_lists.specs.declared.head.Version.TheVariants as version
use Rattle.cue_lists.specs.declared.lane.Lane.TheVariants.{Channel, Service}
use Rattle.frame_carrier.specs.Planned.{IsListPlaced, Placement, channel_pair, columns_of}
use Rattle.frame_carrier.proofs.ListDoublingLemmas.{columns_doubled}
use Rattle.frame_carrier.specs.Carried.{AreBytePairs, IsBytePair}
use Rattle.services_shown.specs.PlacedServices.{AreServicesPlaced}
use Rattle.services_shown.proofs.DelayLemmas.{delays_sent}
use Rattle.services_shown.proofs.SeenLemmas.{authored_windows_seen}
use Rattle.services_shown.proofs.CaptionedLemmas.{AreBytes, frame_bytes}
use Rattle.services_shown.proofs.SequenceLemmas.{authored_seen}
use Rattle.command_base.proofs.MadeLemmas.{PutsMade}
use Rattle.cue_list_commands.specs.ListVerdict.{IsReadAgain}
use Rattle.cue_list_commands.specs.Accepted.{IsGoodList}
use Rattle.cue_list_commands.specs.Output.{IsPlacedAs, IsSoundPairs, IsSoundWords, PlacedList, list_grids, list_told}
use Rattle.services_shown.specs.Showing.{ColumnsShow}
use Rattle.services_shown.specs.Sound.{IsSoundFrames}
use Rattle.services_shown.proofs.PlacedBlocksLemmas.{fit_blocks, shares_kept}
use Rattle.services_shown.proofs.SoundSeenLemmas.{columns_seen}
use Rattle.services_shown.proofs.SoundLemmas.{fit_sound}

-- the pairs of an accepted list show it, at every frame
pub show_columns : (list : Listing) (placed : Placement) → IsFormed list → IsRuled list → IsListPlaced list placed → (n : ℕ)
    → ColumnsShow (list_told list) (list_grids list) n (columns_of list placed)
show_columns list placed formed ruled is n frame below Cc1 told = (authored_seen list placed formed ruled is frame One).first told
show_columns list placed formed ruled is n frame below Cc2 told = (authored_seen list placed formed ruled is frame One).second
show_columns list placed formed ruled is n frame below Cc3 told = (authored_seen list placed formed ruled is frame Two).first told
show_columns list placed formed ruled is n frame below Cc4 told = (authored_seen list placed formed ruled is frame Two).second

-- what `pairs` puts of an accepted list is sound
pub sound_pairs : (bytes : List ℕ) (made : PlacedList) → IsPlacedAs bytes made → IsSoundPairs made
sound_pairs bytes made accepted = record {
  doubled = columns_doubled made.list made.placed accepted.good.spelled.formed accepted.good.ruled accepted.placement;
  shown = show_columns made.list made.placed accepted.good.spelled.formed accepted.good.ruled accepted.placement made.list.frames;
}

-- a pair that is of bytes, where there is one
of_bytes : (o : Option Pair) → IfSome o AreBytes → IfSome o IsBytePair
of_bytes None are = tt
of_bytes (Some pair) are = record { a = are.0; b = are.1 }

-- the pairs of a placed list are of bytes
pub byte_pairs : (list : Listing) (placed : Placement) → IsFormed list → AreBytePairs (columns_of list placed)
byte_pairs list placed formed One frame =
    of_bytes (channel_pair list Cc1 (placed (Channel Cc1)) frame) (frame_bytes list Cc1 (placed (Channel Cc1)) formed.cues frame)
byte_pairs list placed formed Two frame =
    of_bytes (channel_pair list Cc3 (placed (Channel Cc3)) frame) (frame_bytes list Cc3 (placed (Channel Cc3)) formed.cues frame)

-- what `build` puts of an accepted list is sound
pub sound_words : (bytes : List ℕ) (made : PlacedList) → IsPlacedAs bytes made → IsSoundWords made
sound_words bytes made accepted =
    let formed : IsFormed made.list = accepted.good.spelled.formed in
    let services : AreServicesPlaced made.list made.placed = λ service. accepted.placement (Service service) in
    let sound : IsSoundFrames made.list.rate made.list.frames (columns_of made.list made.placed) =
    fit_sound made.list.rate made.list.frames (columns_of made.list made.placed)
    (record { doubled = columns_doubled made.list made.placed formed accepted.good.ruled accepted.placement; pairs = byte_pairs made.list made.placed formed })
    (fit_blocks made.list made.placed formed accepted.good.ruled services) in
    record {
      frames = sound;
      shares = shares_kept made.list made.placed formed accepted.good.ruled services;
      shows = record {
        has_grids = λ frame below chan told. columns_seen made.list.rate made.list.frames (columns_of made.list made.placed) sound.carried frame below chan
            ∙ show_columns made.list made.placed formed accepted.good.ruled accepted.placement made.list.frames frame below chan told;
        has_windows = authored_windows_seen made.list made.placed formed accepted.good.ruled services;
      };
      delayed = delays_sent made.list made.placed formed accepted.good.ruled;
    }

-- a list was put as it is written, or a front of that
pub list_put : (answer : Put) (left old new : Option (List ℕ)) (list : Listing) (text piece : List ℕ) → IfSome left (λ bytes. IsGoodList bytes list)
    → text ≡ list_bytes list → records_of text ≡ list_records version.Two (in_order list) → piece ≡ text → Puts old new answer piece
    → IfSome left (λ bytes. PutsMade IsGoodList list_bytes IsReadAgain answer bytes old new)
list_put answer None old new list text piece good is again same puts = tt
list_put answer (Some bytes) old new list text piece good is again same puts = (
  list_bytes list,
  (list, good, refl, subst (λ (t : List ℕ). records_of t ≡ list_records version.Two (in_order list)) is again),
  subst (Puts old new answer) (same ∙ is) puts,
)
