-- One more frame is taken.
use Rattle.std.proofs.Common.{◌≡◌, ◌∙◌, ℕ, ◌+◌, ◌≤◌, Bool, true, false, if◌then◌else◌, List, [], ◌∷◌, ◌++◌, length, None, ap, refl, sym, subst, arith, add-one, length-append}
use Rattle.cc_base.specs.declared.rate.Rate.{Rate}
use Rattle.cc_receiver.specs.Receivers.{HasReceived, frame_count}
use Rattle.cc_receiver.specs.declared.receiver.Receiver.{Receiver}
use Rattle.cdp_packets.specs.Packets.{Frame}
use Rattle.cue_list_commands.specs.Carrying.{IsAt, channel_packet, column_bytes, column_packets, frame_bytes, packet_count, packets_before}
use Rattle.cue_list_commands.specs.Carrier.{Carrier}
use Rattle.cue_list_commands.specs.Columns.{Columns}
use Rattle.cue_list_commands.specs.FrameBytes.{FrameBytes}
use Rattle.grid_print.specs.GridTexts.{screens_differ}
use Rattle.grid_print.specs.Screens.{IsBehind, LookAlike, received_screens}
use Rattle.grid_print.specs.Shown.{last_shown}
use Rattle.grid_print.specs.declared.shown.Shown.{Shown}
use Rattle.grid_print.proofs.ScreenLemmas.{differ_alike}
use Rattle.line21_screen.specs.Grid.{empty_grid}
use Rattle.services_files.specs.Services.{services_say}
use Rattle.services_files.specs.CaptionChannel.{caption_channel}
use Rattle.services_files.proofs.ChannelFiles.{channel_caught}
use Rattle.words_files.specs.Catching.{refusal_of}
use Rattle.words_files.proofs.FramesOfLemmas.{file_frames}
use Rattle.words_commands.proofs.PrintingLemmas.{nothing_shown}
use Rattle.load_commands.specs.LoadOutput.{change_count}
use Rattle.load_commands.specs.Receiving.{AreWhole, HasReceivedColumns, MayTake}
use Rattle.load_commands.specs.declared.reception.Reception.{Reception}
use Rattle.load_commands.proofs.CountLemmas.{bytes_at, bytes_more, changes_more, packet_at, packets_more}

-- the words of the next frame
abbrev AreWords : FrameBytes → Carrier → List ℕ → Type 0
AreWords frame old words = (rate : Rate) (number count : ℕ) → IsAt rate number count old → words ≡ frame_bytes rate number frame (channel_packet count frame.blocks.items)

words_are : (rate : Rate) (columns : Columns) (count : ℕ) (frame : FrameBytes) (old : Carrier) (words : List ℕ) → IsAt rate count (packets_before columns count) old
    → frame ≡ columns count → AreWords frame old words → words ≡ bytes_at rate columns count
words_are rate columns count frame old words at is are =
    are rate count (packets_before columns count) at
    ∙ ap (λ (f : FrameBytes). frame_bytes rate count f (channel_packet (packets_before columns count) f.blocks.items)) is

-- a receiver that was fed a whole file is after its frames
pub behind_whole : (rate : Rate) (columns : Columns) (count : ℕ) (receiver : Receiver) → AreWhole rate columns count
    → HasReceived (column_bytes rate columns 0 count) receiver → IsBehind (column_packets rate columns 0 count) receiver
behind_whole rate columns count receiver whole received = record {
  bytes = column_bytes rate columns 0 count;
  received = received;
  frames_are = file_frames caption_channel (column_packets rate columns 0 count) (column_bytes rate columns 0 count)
      whole;
}

-- no word of a whole file is refused
pub whole_unrefused : (rate : Rate) (columns : Columns) (count : ℕ) → AreWhole rate columns count
    → refusal_of services_say (column_bytes rate columns 0 count) ≡ None
whole_unrefused rate columns count whole =
    (channel_caught (column_packets rate columns 0 count) (column_bytes rate columns 0 count)
    whole).1

-- the words of the next frame may be fed
pub may_take : (rate : Rate) (columns : Columns) (count : ℕ) (frame : FrameBytes) (reception : Reception) (words : List ℕ) → HasReceivedColumns rate columns count reception
    → frame ≡ columns count → AreWhole rate columns (count + 1) → count + 1 ≤ 1000000 → AreWords frame reception.carrier words → length words ≤ 524
    → MayTake reception.receiver words
may_take rate columns count frame reception words taken is whole within are few = record {
  before = column_bytes rate columns 0 count;
  received = taken.received;
  within = let counted = taken.counted in omega (arith, counted, within, few);
  unoffending =
      let same = words_are rate columns count frame reception.carrier words taken.carrier is are in
      subst (λ bytes. refusal_of services_say bytes ≡ None)
      (ap (column_bytes rate columns 0) (add-one count) ∙ bytes_more rate columns count ∙ ap (λ w. column_bytes rate columns 0 count ++ w) (sym same))
      (whole_unrefused rate columns (count + 1) whole);
}

module _ (rate : Rate) (columns : Columns) (count : ℕ) (frame : FrameBytes) (old : Reception) (carrier : Carrier) (receiver : Receiver) (shown : Shown)
    (words : List ℕ) (bytes changes : ℕ) (differs : Bool) (taken : HasReceivedColumns rate columns count old) (is : frame ≡ columns count)
    (whole : AreWhole rate columns (count + 1)) (are : AreWords frame old.carrier words)
    (moves : (rate : Rate) (number n : ℕ) → IsAt rate number n old.carrier → IsAt rate (number + 1) (n + packet_count frame.blocks.items) carrier)
    (fed : (before : List ℕ) → HasReceived before old.receiver → HasReceived (before ++ words) receiver)
    (counts : frame_count receiver ≤ frame_count old.receiver + length words)
    (told : (frames : List Frame) → IsBehind frames receiver → differs ≡ screens_differ (last_shown old.shown) (received_screens frames))
    (now : (frames : List Frame) → IsBehind frames receiver → LookAlike (last_shown shown) (received_screens frames))
    (few : length words ≤ 524) (bytes_are : bytes ≡ old.bytes + length words) (changes_are : changes ≡ old.changes + (if differs then 1 else 0)) where
  words_same : words ≡ bytes_at rate columns count
  words_same = words_are rate columns count frame old.carrier words taken.carrier is are

  -- the bytes with one more frame
  all_bytes : column_bytes rate columns 0 (count + 1) ≡ column_bytes rate columns 0 count ++ words
  all_bytes = ap (column_bytes rate columns 0) (add-one count) ∙ bytes_more rate columns count ∙ ap (λ w. column_bytes rate columns 0 count ++ w) (sym words_same)

  all_packets : column_packets rate columns 0 (count + 1) ≡ column_packets rate columns 0 count ++ packet_at rate columns count ∷ []
  all_packets = ap (column_packets rate columns 0) (add-one count) ∙ packets_more rate columns count

  received : HasReceived (column_bytes rate columns 0 (count + 1)) receiver
  received = subst (λ b. HasReceived b receiver) (sym all_bytes) (fed (column_bytes rate columns 0 count) taken.received)

  behind : IsBehind (column_packets rate columns 0 (count + 1)) receiver
  behind = behind_whole rate columns (count + 1) receiver whole received

  size : length (column_bytes rate columns 0 (count + 1)) ≡ length (column_bytes rate columns 0 count) + length words
  size = ap length all_bytes ∙ length-append (column_bytes rate columns 0 count) words

  differ_is : differs ≡ screens_differ (received_screens (column_packets rate columns 0 count)) (received_screens (column_packets rate columns 0 count ++ packet_at rate columns count ∷ []))
  differ_is =
      told (column_packets rate columns 0 (count + 1)) behind
      ∙ differ_alike (last_shown old.shown) (received_screens (column_packets rate columns 0 count)) (received_screens (column_packets rate columns 0 (count + 1))) taken.shown
      ∙ ap (λ p. screens_differ (received_screens (column_packets rate columns 0 count)) (received_screens p)) all_packets

  one_at_most : (b : Bool) → (if b then 1 else 0) ≤ 1
  one_at_most true = omega arith
  one_at_most false = omega arith

  counted_changes : changes ≡ change_count [] (column_packets rate columns 0 (count + 1))
  counted_changes =
      let before = taken.changes in
      changes_are ∙ ap (λ n. n + (if differs then 1 else 0)) before
      ∙ ap (λ (b : Bool). change_count [] (column_packets rate columns 0 count) + (if b then 1 else 0)) differ_is
      ∙ sym (changes_more (column_packets rate columns 0 count) (packet_at rate columns count))
      ∙ ap (change_count []) (sym all_packets)

  at_next : IsAt rate (count + 1) (packets_before columns (count + 1)) carrier
  at_next =
      subst (λ n. IsAt rate (count + 1) n carrier)
      (ap (λ (f : FrameBytes). packets_before columns count + packet_count f.blocks.items) is ∙ ap (packets_before columns) (sym (add-one count)))
      (moves rate count (packets_before columns count) taken.carrier)

  pub taken_more : HasReceivedColumns rate columns (count + 1) (record { carrier = carrier; receiver = receiver; shown = shown; bytes = bytes; changes = changes })
  taken_more = record {
    carrier = at_next;
    received = received;
    counted = let before = taken.counted in omega (arith, counts, before, few);
    shown = now (column_packets rate columns 0 (count + 1)) behind;
    bytes = let before = taken.bytes in omega (arith, size, before, bytes_are);
    most = let before = taken.most in omega (arith, size, before, few);
    changes = counted_changes;
    some = let before = taken.some in let one = one_at_most differs in omega (arith, changes_are, before, one);
  }

-- nothing was taken
pub new_taken : (rate : Rate) (columns : Columns) (carrier : Carrier) (receiver : Receiver) (shown : Shown) → IsAt rate 0 0 carrier → HasReceived [] receiver
    → (last_shown shown).grids ≡ (λ chan. empty_grid) → ((service id : ℕ) → (last_shown shown).windows service id ≡ None)
    → HasReceivedColumns rate columns 0 (record { carrier = carrier; receiver = receiver; shown = shown; bytes = 0; changes = 0 })
new_taken rate columns carrier receiver shown at received grids windows = record {
  carrier = at;
  received = received;
  counted = let none = received.counted in omega (arith, none);
  shown = nothing_shown (last_shown shown) grids windows;
  bytes = refl;
  most = omega arith;
  changes = refl;
  some = omega arith;
}
