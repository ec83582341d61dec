-- The words of a programme's frames on their way to a sink, gathered.
use Rattle.std.proofs.Common.{◌≡◌, ◌∙◌, ◌++◌, ◌+◌, ap, suc, sym, subst, ℕ, List, [], Option, add-one}
use Rattle.cc_base.specs.Streams.{Puts}
use Rattle.cc_base.specs.declared.rate.Rate.{Rate}
use Rattle.cc_base.specs.declared.streams.Put.{Put}
use Rattle.cc_base.specs.declared.streams.Put.TheVariants as put
use Rattle.frame_scheduler.specs.Columns.{Columns}
use Rattle.frame_scheduler.specs.declared.frames.FrameBytes.{FrameBytes}
use Rattle.frame_carrier.specs.Carrying.{IsAt, channel_packet, column_bytes, frame_bytes, packet_count, packets_before}
use Rattle.frame_carrier.specs.declared.carrier.Carrier.{Carrier}
use Rattle.text_output.specs.Gathered.{Flushes, Gathers}
use Rattle.frame_carrier.proofs.OnTheWay.{IsOnTheWay, piece_gathered, way_ended, way_failed}

-- the words of columns are on their way: after what is held these frames, of which this many are left, give the others, and the carrier is at the next one
pub record WordsOnTheWay {F : Type 0} (left : F → ℕ) (Gives : Columns → ℕ → F → Type 0) (rate : Rate) (columns : Columns) (old new : Option (List ℕ)) (held : List ℕ) (frames : F) (carrier : Carrier) (all : List ℕ) : Type 0 where
  pub frame : ℕ
  pub at_frame : IsAt rate frame (packets_before columns frame) carrier
  pub gives : Gives columns frame frames
  pub way : IsOnTheWay old new (held ++ column_bytes rate columns frame (left frames)) all

-- a frame's words are the first of those that are left
first_words : (rate : Rate) (columns : Columns) (frame old new : ℕ) (pairs : FrameBytes) (words : List ℕ) → new + 1 ≡ old
    → pairs ≡ columns frame → words ≡ frame_bytes rate frame pairs (channel_packet (packets_before columns frame) pairs.blocks.items)
    → column_bytes rate columns frame old ≡ words ++ column_bytes rate columns (frame + 1) new
first_words rate columns frame old new pairs words left pairs_are words_are =
    ap (column_bytes rate columns frame) (sym left ∙ add-one new)
    ∙ ap (λ (w : List ℕ). w ++ column_bytes rate columns (suc frame) new) (sym (words_are ∙ ap (λ p. frame_bytes rate frame p (channel_packet (packets_before columns frame) p.blocks.items)) pairs_are))
    ∙ ap (λ f. words ++ column_bytes rate columns f new) (sym (add-one frame))

-- the words of a frame more were put or are held, like the words of any frame after which others come
words_passed : {F : Type 0} (left : F → ℕ) (Gives : Columns → ℕ → F → Type 0) (rate : Rate) (columns : Columns) (a b c : Option (List ℕ)) (before after words all : List ℕ) (old new : F) (carrier next_carrier : Carrier) (pairs : FrameBytes)
    → WordsOnTheWay left Gives rate columns a b before old carrier all → left new + 1 ≡ left old
    → ((columns : Columns) (frame : ℕ) → Gives columns frame old → (pairs ≡ columns frame) × Gives columns (frame + 1) new)
    → ((rate : Rate) (frame count : ℕ) → IsAt rate frame count carrier → words ≡ frame_bytes rate frame pairs (channel_packet count pairs.blocks.items))
    → ((rate : Rate) (frame count : ℕ) → IsAt rate frame count carrier → IsAt rate (frame + 1) (count + packet_count pairs.blocks.items) next_carrier)
    → ((rest : List ℕ) → IsOnTheWay a b (before ++ (words ++ rest)) all → IsOnTheWay a c (after ++ rest) all)
    → WordsOnTheWay left Gives rate columns a c after new next_carrier all
words_passed left Gives rate columns a b c before after words all old new carrier next_carrier pairs on fewer gives carries moves passes =
    let (pairs_are, more) = gives columns on.frame on.gives in
    let first = first_words rate columns on.frame (left old) (left new) pairs words fewer pairs_are (carries rate on.frame (packets_before columns on.frame) on.at_frame) in
    record {
      frame = on.frame + 1;
      at_frame =
          let count : packets_before columns on.frame + packet_count pairs.blocks.items ≡ packets_before columns (on.frame + 1) =
          ap (λ p. packets_before columns on.frame + packet_count p.blocks.items) pairs_are ∙ ap (packets_before columns) (sym (add-one on.frame)) in
          subst (λ n. IsAt rate (on.frame + 1) n next_carrier) count (moves rate on.frame (packets_before columns on.frame) on.at_frame);
      gives = more;
      way = passes (column_bytes rate columns (on.frame + 1) (left new)) (subst (λ (l : List ℕ). IsOnTheWay a b (before ++ l) all) first on.way);
    }

-- they were gathered
pub words_gathered : {F : Type 0} (left : F → ℕ) (Gives : Columns → ℕ → F → Type 0) (rate : Rate) (columns : Columns) (a b c : Option (List ℕ)) (before after words all : List ℕ) (old new : F) (carrier next_carrier : Carrier) (pairs : FrameBytes)
    → WordsOnTheWay left Gives rate columns a b before old carrier all → left new + 1 ≡ left old
    → ((columns : Columns) (frame : ℕ) → Gives columns frame old → (pairs ≡ columns frame) × Gives columns (frame + 1) new)
    → ((rate : Rate) (frame count : ℕ) → IsAt rate frame count carrier → words ≡ frame_bytes rate frame pairs (channel_packet count pairs.blocks.items))
    → ((rate : Rate) (frame count : ℕ) → IsAt rate frame count carrier → IsAt rate (frame + 1) (count + packet_count pairs.blocks.items) next_carrier)
    → Gathers b c before after put.Done words → WordsOnTheWay left Gives rate columns a c after new next_carrier all
words_gathered left Gives rate columns a b c before after words all old new carrier next_carrier pairs on fewer gives carries moves gathers =
    words_passed left Gives rate columns a b c before after words all old new carrier next_carrier pairs on fewer gives carries moves
    (λ rest way. piece_gathered a b c before after words rest all way gathers)

-- a put of what is held failed
pub held_failed : {F : Type 0} (left : F → ℕ) (Gives : Columns → ℕ → F → Type 0) (rate : Rate) (columns : Columns) (a b c : Option (List ℕ)) (held all : List ℕ) (frames : F) (carrier : Carrier)
    → WordsOnTheWay left Gives rate columns a b held frames carrier all → Puts b c put.Failed held → Puts a c put.Failed all
held_failed left Gives rate columns a b c held all frames carrier on failed =
    way_failed a b c held (column_bytes rate columns on.frame (left frames)) all on.way failed

-- what is held is put, and no frame is left
pub words_ended : {F : Type 0} (left : F → ℕ) (Gives : Columns → ℕ → F → Type 0) (rate : Rate) (columns : Columns) (a b c : Option (List ℕ)) (r : Put) (held after all : List ℕ) (frames : F) (carrier : Carrier)
    → WordsOnTheWay left Gives rate columns a b held frames carrier all → left frames ≡ 0 → Flushes b c held after r → Puts a c r all
words_ended left Gives rate columns a b c r held after all frames carrier on none flushes =
    way_ended a b c r held after all (subst (λ n. IsOnTheWay a b (held ++ column_bytes rate columns on.frame n) all) none on.way) flushes
