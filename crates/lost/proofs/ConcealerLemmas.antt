-- What a concealing receiver's calls answer of frames that came.
use Rattle.std.proofs.Common.{◌∙◌, ◌++◌, ◌∷◌, ℕ, List, [], ap}
use Rattle.line21_codes.specs.declared.channels.FieldNumber.{FieldNumber}
use Rattle.line21_codes.specs.declared.channels.FieldNumber.TheVariants.{One, Two}
use Rattle.cdp_packets.specs.Packets.{Frame}
use Rattle.line21_screen.specs.Grid.{Grid}
use Rattle.cue_lists.specs.Listing.{IsFormed, Listing}
use Rattle.cue_lists.specs.Rules.{IsRuled}
use Rattle.frame_carrier.specs.Planned.{IsListPlaced, Placement, authored_channel}
use Rattle.cc_conceal.specs.Concealed.{concealed_field}
use Rattle.cc_conceal.specs.Concealers.{Conceals}
use Rattle.cc_conceal.specs.declared.concealer.Concealer.{Concealer}
use Rattle.lost.specs.Delivered.{AreDelivered, delivered_packets}
use Rattle.lost.specs.Recovered.{AreCellsAuthored, AreWindowsAuthored, ConcealerRecovers, IsServiceInStep, ShowsFieldAgain}
use Rattle.lost.proofs.FrameLossLemmas.{loss_recovered}
use Rattle.lost.proofs.WordsLemmas.{delivered_concealed}

cells_authored : (receiver : Concealer) (list : Listing) (in_field : FieldNumber) (came : List ℕ) (frame : ℕ) (frames : List Frame) → Conceals frames receiver
    → ShowsFieldAgain (concealed_field in_field frames) list (authored_channel in_field) came frame → AreCellsAuthored receiver list in_field came frame
cells_authored receiver list One came frame frames conceals shows = record {
  own = λ step settled row column cell answers. answers frames conceals ∙ ap (λ (g : Grid). g row column) (shows.first step settled);
  other = λ row column cell answers. answers frames conceals ∙ ap (λ (g : Grid). g row column) shows.second;
}
cells_authored receiver list Two came frame frames conceals shows = record {
  own = λ step settled row column cell answers. answers frames conceals ∙ ap (λ (g : Grid). g row column) (shows.first step settled);
  other = λ row column cell answers. answers frames conceals ∙ ap (λ (g : Grid). g row column) shows.second;
}

-- a receiver that conceals the packets of frames that came shows what is authored on each channel and in each service that is in step
pub concealer_shows : (list : Listing) (placed : Placement) → IsFormed list → IsRuled list → IsListPlaced list placed
    → (earlier : List ℕ) (frame : ℕ) → AreDelivered (earlier ++ frame ∷ [])
    → (receiver : Concealer) → Conceals (delivered_packets list placed (earlier ++ frame ∷ [])) receiver
    → ((in_field : FieldNumber) → AreCellsAuthored receiver list in_field (earlier ++ frame ∷ []) frame)
    × ((service : ℕ) → IsServiceInStep list service (earlier ++ frame ∷ []) frame → AreWindowsAuthored receiver list service frame)
concealer_shows list placed formed ruled is earlier frame delivered receiver conceals =
    let came : List ℕ = earlier ++ frame ∷ [] in
    let frames : List Frame = delivered_packets list placed came in
    let recovered = loss_recovered list placed formed ruled is earlier frame delivered in (
      λ in_field. cells_authored receiver list in_field came frame frames conceals (recovered.0 in_field),
      λ service step id small seen answers. answers frames conceals ∙ recovered.1 service id small step,
    )

pub concealer_recovered : ConcealerRecovers
concealer_recovered list placed formed ruled is earlier frame delivered receiver had =
    concealer_shows list placed formed ruled is earlier frame delivered receiver ((delivered_concealed list placed formed ruled is (earlier ++ frame ∷ [])).1 receiver had)
