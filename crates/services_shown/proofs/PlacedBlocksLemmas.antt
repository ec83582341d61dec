-- The service blocks of a placed cue list are fit, and each service gets at most its share.
use Rattle.std.proofs.Common.{◌≡◌, ◌∙◌, ◌++◌, ◌∷◌, ◌≤◌, ℕ, suc, List, Option, Some, None, length, map, ap, arith, refl, sym}
use Rattle.std.specs.Prelude.{unwrap_or}
use Rattle.line21_shown.specs.Listing.{IsFormed, Listing, share_of}
use Rattle.line21_shown.specs.Rules.{IsRuled}
use Rattle.line21_shown.specs.Lane.TheVariants.{Service}
use Rattle.dtvcc_screen.specs.Meaning.{Byte, Event, Tick}
use Rattle.frame_carrier.specs.Carrying.{column_packets}
use Rattle.frame_carrier.proofs.ServicesLemmas.{share_is}
use Rattle.frame_carrier.specs.Planned.{Placement, captions_in, chunks_in, columns_of, service_bytes, share_in}
use Rattle.frame_carrier.proofs.PlaceLemmas.{within_share}
use Rattle.services_shown.proofs.RoomLemmas.{blocks_bytes, blocks_within, frames_roomy, has_blocks, unshared_silent}
use Rattle.services_shown.proofs.LaneLemmas.{services_told}
use Rattle.services_shown.specs.PlacedServices.{AreServicesPlaced}
use Rattle.services_shown.proofs.BufferLemmas.{buffers_never_fill}
use Rattle.services_shown.specs.PlacedBlocks.{PlacedBlocksAreFit}
use Rattle.services_shown.specs.Shares.{AreSharesKept}
use Rattle.services_shown.specs.Sound.{HasFitBlocks}

module _ (list : Listing) (placed : Placement) (formed : IsFormed list) (ruled : IsRuled list) (all : AreServicesPlaced list placed) where
  -- what a service is sent in a frame is within its share; without one it is nothing
  sent_within : (service frame : ℕ) → length (service_bytes list service (placed (Service service)) frame) ≤ share_in list service
  sent_within service frame = at (share_of list service) refl
    where
      at : (o : Option ℕ) → share_of list service ≡ o → length (service_bytes list service (placed (Service service)) frame) ≤ share_in list service
      at None none =
          let nothing = ap length ((unshared_silent list formed ruled service none).bytes (placed (Service service)) frame) in
          omega (arith, nothing)
      at (Some share) some =
          let own = share_is list formed ruled service share some in
          let is : share_in list service ≡ share = ap (λ (o : Option ℕ). unwrap_or o 0) some in
          within_share (share_in list service) (captions_in list service) (chunks_in list service) (placed (Service service)) (omega (arith, own.2, is)) (all service).placed frame

  pub shares_kept : AreSharesKept list.rate (share_in list) list.frames (column_packets list.rate (columns_of list placed) 0 list.frames)
  shares_kept service frame below =
      let bytes = service_bytes list service (placed (Service service)) frame in
      let before = services_told list placed formed ruled all service frame (omega (arith, below)) in
      let now = services_told list placed formed ruled all service (suc frame) (omega (arith, below)) in
      record {
        bytes = bytes;
        events = now ∙ ap (λ (es : List Event). es ++ (Tick list.rate ∷ map Byte bytes)) (sym before);
        within = sent_within service frame;
      }

  pub fit_blocks : HasFitBlocks list.rate list.frames (columns_of list placed)
  fit_blocks = record {
    bytes = blocks_bytes list placed formed ruled all;
    within = blocks_within list placed formed ruled all;
    roomy = frames_roomy list placed formed ruled all;
    blocks = has_blocks list placed formed ruled all;
    fills = buffers_never_fill list placed formed ruled all;
  }

pub placed_fit : PlacedBlocksAreFit
placed_fit list placed formed ruled all = record { fit = fit_blocks list placed formed ruled all; shares = shares_kept list placed formed ruled all }
