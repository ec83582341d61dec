-- At no frame of words that show a list is anything found.
use Rattle.std.proofs.Common.{◌≡◌, ◌≢◌, ◌∙◌, ℕ, zero, suc, ◌+◌, ◌%◌, ◌<◌, Bool, true, false, Option, List, [], ◌∷◌, ◌++◌, All, length, take, ap, sym, subst, refl, arith, append_assoc, length-append}
use Rattle.std.proofs.lemmas.List.Elements.{All-head, All-tail}
use Rattle.cc_base.specs.Rate.{triplets_in_frame}
use Rattle.cc_base.specs.declared.rate.Rate.{Rate}
use Rattle.cc_receiver.specs.ReceivedServices.{fills_in, received_windows}
use Rattle.verify_commands.specs.Findings.{AreClean, IsClean, Jumps, Miscounts}
use Rattle.cdp_packets.specs.Packets.{Frame}
use Rattle.cdp_packets.specs.PacketTriplets.{packet_triplets}
use Rattle.cue_lists.proofs.ChannelCues.{same_channel_is}
use Rattle.cue_types.specs.Channels.{cues_on, is_on}
use Rattle.cue_types.specs.Cues.{IsCueFormed, IsOfKind}
use Rattle.cue_types.specs.Line21Cues.{IsAuthoredChannel}
use Rattle.cue_types.specs.Listing.{IsFormed, Listing}
use Rattle.cue_types.specs.declared.cue.Cue.{Cue}
use Rattle.cue_types.specs.declared.cue.Kind.{Kind}
use Rattle.cue_types.specs.declared.cue.Kind.TheVariants as kinds
use Rattle.cue_types.specs.declared.cue.Run.{Run}
use Rattle.cue_lists.specs.AuthoredGrid.{authored_grid, blank}
use Rattle.dtvcc_services.specs.Numbers.{IsService}
use Rattle.findings.specs.declared.finding.Kind45.TheVariants as kind
use Rattle.findings.specs.declared.finding.Which.TheVariants as which
use Rattle.cue_list_commands.specs.Carried.{AreCarried}
use Rattle.cue_list_commands.specs.Carrying.{channel_packet_of, column_packets, frame_packet}
use Rattle.cue_list_commands.specs.Columns.{Columns}
use Rattle.line21_codes.specs.declared.channels.FieldNumber.TheVariants.{One, Two}
use Rattle.line21_codes.specs.declared.channels.Chan.{Chan}
use Rattle.line21_codes.specs.declared.channels.Chan.TheVariants.{Cc1, Cc2, Cc3, Cc4}
use Rattle.line21_screen.specs.Grid.{Grid}
use Rattle.cue_list_commands.specs.Shown.{ShowsList}
use Rattle.verify_commands.specs.Differing.{ShowsOther, ShowsOtherWindow}
use Rattle.services_files.specs.Events.{service_events}
use Rattle.cue_list_commands.specs.Buffers.{BuffersNeverFill}
use Rattle.cue_list_commands.specs.SeenWindows.{ShowAuthoredWindows}
use Rattle.cue_list_commands.proofs.ToldLemmas.{packets_count}
use Rattle.dtvcc_screen.specs.Meaning.{start}
use Rattle.converted_lists.specs.Filling.{AllFill}
use Rattle.words_files.specs.Received.{received_at, received_grids}
use Rattle.words_laws.proofs.FilledLemmas.{none_filled}
use Rattle.words_laws.proofs.SeenLemmas.{front_is}

-- the packet after this many is its frame's packet
packet_at : (rate : Rate) (columns : Columns) (frame n : ℕ) (earlier : List Frame) (last : Frame) (later : List Frame) (number : ℕ)
    → column_packets rate columns frame n ≡ earlier ++ last ∷ later → number ≡ frame + length earlier
    → last ≡ frame_packet rate number (columns number) (channel_packet_of columns number)
packet_at rate columns frame zero [] last later number is at = cc
packet_at rate columns frame zero (former ∷ earlier) last later number is at = cc
packet_at rate columns frame (suc n) [] last later number is at =
    let own : frame_packet rate frame (columns frame) (channel_packet_of columns frame) ≡ last = cc in
    let same : frame ≡ number = omega (arith, at) in
    sym own ∙ ap (λ f. frame_packet rate f (columns f) (channel_packet_of columns f)) same
packet_at rate columns frame (suc n) (former ∷ earlier) last later number is at =
    let rest : column_packets rate columns (suc frame) n ≡ earlier ++ last ∷ later = cc in
    packet_at rate columns (suc frame) n earlier last later number rest (omega (arith, at))

-- a channel on which a cue is is an authored one
on_authored : (channel : Chan) (k : Kind) (hide : Option ℕ) (runs : List Run) → IsOfKind k hide runs → is_on channel k ≡ true → IsAuthoredChannel channel
on_authored channel (kinds.Pop own) hide runs formed on = subst IsAuthoredChannel (same_channel_is channel own on) formed.0
on_authored channel (kinds.Paint own) hide runs formed on = subst IsAuthoredChannel (same_channel_is channel own on) formed.0
on_authored channel (kinds.Roll own rows) hide runs formed on = subst IsAuthoredChannel (same_channel_is channel own on) formed.0
on_authored channel (kinds.Win window) hide runs formed on = cc

-- no cue is on another one
none_on : (channel : Chan) → (IsAuthoredChannel channel → ⊥) → (cues : List Cue) → All IsCueFormed cues → cues_on channel cues ≡ []
none_on channel other [] formed = refl
none_on channel other (cue ∷ cues) formed =
    let rest = none_on channel other cues (All-tail IsCueFormed cue cues formed) in
    let cases : (b : Bool) → is_on channel cue.kind ≡ b → is_on channel cue.kind ≡ false = elim [
      | true ↦ λ on. absurd (other (on_authored channel cue.kind cue.hide cue.runs (All-head IsCueFormed cue cues formed).kind on))
      | false ↦ λ off. off
    ] in
    rw (cases (is_on channel cue.kind) refl) rest

-- so nothing is authored there
nothing_authored : (channel : Chan) → (IsAuthoredChannel channel → ⊥) → (cues : List Cue) (frame : ℕ) → All IsCueFormed cues → authored_grid channel cues frame ≡ blank
nothing_authored channel other cues frame formed = rw (none_on channel other cues formed) refl

-- a counter goes on
counts_on : (n : ℕ) → (n + 1) % 65536 ≡ (n % 65536 + 1) % 65536
counts_on n = omega arith

module _ (list : Listing) (columns : Columns) (formed : IsFormed list) (carried : AreCarried list.rate columns list.frames)
    (fills : BuffersNeverFill (column_packets list.rate columns 0 list.frames))
    (shown : (frame : ℕ) → frame < list.frames
    → ShowsList list (λ in_field. received_at in_field (column_packets list.rate columns 0 list.frames) frame) frame)
    (windows : (frame : ℕ) → frame < list.frames → ShowAuthoredWindows list.cues (column_packets list.rate columns 0 list.frames) frame)
    (earlier : List Frame) (last : Frame) (later : List Frame) (split : column_packets list.rate columns 0 list.frames ≡ earlier ++ last ∷ later) where
  abbrev packets : List Frame
  packets = column_packets list.rate columns 0 list.frames

  abbrev own : Frame
  own = frame_packet list.rate (length earlier) (columns (length earlier)) (channel_packet_of columns (length earlier))

  last_is : last ≡ own
  last_is = packet_at list.rate columns 0 list.frames earlier last later (length earlier) split (omega arith)

  -- the frame is one of the list
  below : length earlier < list.frames
  below =
      let count = packets_count list.rate columns 0 list.frames in
      let size : length packets ≡ length earlier + length (last ∷ later) = ap length split ∙ length-append earlier (last ∷ later) in
      omega (arith, count, size)

  -- the frames up to it
  front : take (suc (length earlier)) packets ≡ earlier ++ last ∷ []
  front =
      let long : length (earlier ++ last ∷ []) ≡ length earlier + 1 = length-append earlier (last ∷ []) in
      front_is packets (earlier ++ last ∷ []) later (suc (length earlier)) (split ∙ sym (append_assoc earlier (last ∷ []) later)) (omega (arith, long))

  no_jump : (expected seen : ℕ) → Jumps earlier last expected seen → ⊥
  no_jump expected seen jump =
      let before = jump.before in
      let former = jump.former in
      let whole : packets ≡ before ++ former ∷ (last ∷ later) = split ∙ ap (λ fs. fs ++ last ∷ later) jump.came ∙ append_assoc before (former ∷ []) (last ∷ later) in
      let former_is = packet_at list.rate columns 0 list.frames before former (last ∷ later) (length before) whole (omega arith) in
      let long : length earlier ≡ length before + 1 = ap length jump.came ∙ length-append before (former ∷ []) in
      let counted : former.counter ≡ length before % 65536 = ap (λ (f : Frame). f.counter) former_is in
      let now : last.counter ≡ length earlier % 65536 = ap (λ (f : Frame). f.counter) last_is in
      jump.others (jump.seen_is ∙ now ∙ ap (λ n. n % 65536) long ∙ counts_on (length before) ∙ ap (λ n. (n + 1) % 65536) (sym counted) ∙ sym jump.expected_is)

  no_miscount : (expected seen : ℕ) → Miscounts last expected seen → ⊥
  no_miscount expected seen miscount =
      let number : length (packet_triplets last) ≡ triplets_in_frame last.rate =
      subst (λ (f : Frame). length (packet_triplets f) ≡ triplets_in_frame f.rate) (sym last_is) (carried.room (length earlier)).number in
      miscount.others (miscount.seen_is ∙ number ∙ sym miscount.expected_is)

  no_other_rate : (expected seen : Rate) → (expected ≡ list.rate) × (seen ≡ last.rate) × (seen ≢ expected) → ⊥
  no_other_rate expected seen differs = differs.2 (differs.1 ∙ ap (λ (f : Frame). f.rate) last_is ∙ sym differs.0)

  no_fill : (service : ℕ) → IsService service → fills_in earlier last service ≡ false
  no_fill service is =
      none_filled service earlier last later (subst (λ (fs : List Frame). AllFill 127 start (service_events service fs)) split (fills service is))

  -- each channel shows what is authored, where the frame is settled for it
  no_other_grid : (channel : Chan) → ShowsOther list.cues (length earlier) (received_grids (earlier ++ last ∷ [])) channel → ⊥
  no_other_grid Cc1 shows =
      let now = ap (λ (fs : List Frame). received_grids fs Cc1) (sym front) ∙ (shown (length earlier) below One).first shows.settled in
      shows.other.other (ap (λ (g : Grid). g shows.other.row shows.other.col) now)
  no_other_grid Cc2 shows =
      let now = ap (λ (fs : List Frame). received_grids fs Cc2) (sym front) ∙ (shown (length earlier) below One).second
      ∙ sym (nothing_authored Cc2 (λ a. a) list.cues (length earlier) formed.cues) in
      shows.other.other (ap (λ (g : Grid). g shows.other.row shows.other.col) now)
  no_other_grid Cc3 shows =
      let now = ap (λ (fs : List Frame). received_grids fs Cc3) (sym front) ∙ (shown (length earlier) below Two).first shows.settled in
      shows.other.other (ap (λ (g : Grid). g shows.other.row shows.other.col) now)
  no_other_grid Cc4 shows =
      let now = ap (λ (fs : List Frame). received_grids fs Cc4) (sym front) ∙ (shown (length earlier) below Two).second
      ∙ sym (nothing_authored Cc4 (λ a. a) list.cues (length earlier) formed.cues) in
      shows.other.other (ap (λ (g : Grid). g shows.other.row shows.other.col) now)

  -- and each service shows the authored windows
  no_other_window : (service : ℕ) → IsService service → ShowsOtherWindow list.cues (length earlier) (received_windows (earlier ++ last ∷ [])) service → ⊥
  no_other_window service is shows =
      shows.other (ap (λ (fs : List Frame). received_windows fs service shows.id) (sym front) ∙ windows (length earlier) below service shows.id is shows.id_to)

  pub clean_at : IsClean list earlier last
  clean_at (kind.CounterJump expected seen) found = no_jump expected seen found
  clean_at (kind.WrongCount expected seen) found = no_miscount expected seen found
  clean_at (kind.WrongRate expected seen) found = no_other_rate expected seen found
  clean_at (kind.BufferFull service) found = let full = found.1 in let not_full = no_fill service found.0 in cc
  clean_at (kind.GridDiffers (which.Chan channel)) found = no_other_grid channel found
  clean_at (kind.GridDiffers (which.Service service)) found = no_other_window service found.0 found.1
  clean_at (kind.TwoPairs seen) found = found
  clean_at kind.EightBits found = found

pub nothing_found : (list : Listing) (columns : Columns) → IsFormed list → AreCarried list.rate columns list.frames
    → BuffersNeverFill (column_packets list.rate columns 0 list.frames)
    → ((frame : ℕ) → frame < list.frames → ShowsList list (λ in_field. received_at in_field (column_packets list.rate columns 0 list.frames) frame) frame)
    → ((frame : ℕ) → frame < list.frames → ShowAuthoredWindows list.cues (column_packets list.rate columns 0 list.frames) frame)
    → AreClean list (column_packets list.rate columns 0 list.frames)
nothing_found list columns formed carried fills shown windows =
    λ earlier last later split. clean_at list columns formed carried fills shown windows earlier last later split
