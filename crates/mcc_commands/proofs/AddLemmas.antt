-- The words of a packet are added.
use Rattle.std.proofs.Common.{◌≡◌, ℕ, ◌+◌, ◌*◌, ◌<◌, true, false, List, [], ◌∷◌, ◌++◌, append_assoc, append-nil, length, length-append, Option, Some, IfSome, Ok, Err, refl, ap, sym, ◌∙◌, subst, arith}
use Rattle.anc_words.specs.Writing.{packet_bytes}
use Rattle.cc_base.proofs.Puts.{puts_stop}
use Rattle.cc_base.specs.Streams.{Puts}
use Rattle.cc_base.specs.declared.limit_of.LimitOf.{LimitOf}
use Rattle.cc_base.specs.declared.limit_of.LimitOf.TheVariants as limit
use Rattle.cc_base.specs.declared.streams.Put.TheVariants as put
use Rattle.mcc_files.specs.MccFiles.{TimedPackets}
use Rattle.mcc_files.specs.Payloads.{Payload}
use Rattle.mcc_files.specs.PayloadWords.{payload_words}
use Rattle.mcc_words.specs.Makers.{BeginsCaptions, HasMade, PutsNext, words_left}
use Rattle.mcc_words.specs.MccWords.{carries_captions}
use Rattle.mcc_words.specs.Missing.{words_without}
use Rattle.mcc_words.specs.Raised.{IsRaised}
use Rattle.mcc_words.specs.declared.maker.Before.{Before}
use Rattle.mcc_words.specs.declared.maker.MccWords.{MccWords}
use Rattle.mcc_words.specs.declared.missing.MissingFrames.{MissingFrames}
use Rattle.mcc_words.proofs.MakerLemmas.{captions_made, next_made, other_made}
use Rattle.text_output.specs.Gathered.{Gathers, IsGathered}
use Rattle.text_output.proofs.PageLemmas.{gathered_more}
use Rattle.mcc_commands.specs.Imported.{PassesWith, frames_put}
use Rattle.words_reading.specs.declared.judge.Stop.TheVariants as stopped
use Rattle.mcc_commands.specs.Importing.{AddsPacket, AreBegunWords, Counts, HasBegun, IsMade, PassesBy, frame_size}
use Rattle.mcc_commands.specs.declared.made.Made.{Made}
use Rattle.mcc_commands.proofs.ImportMadeLemmas.{captions_counted, frames_long, other_counted}
use Rattle.mcc_commands.proofs.ReadLemmas.{within_of}

-- a piece was added after words that are gathered
pub piece_gathered : (start now then : Option (List ℕ)) (held after piece words : List ℕ) → IsGathered start now held words → Gathers now then held after put.Done piece
    → IsGathered start then after (words ++ piece)
piece_gathered start now then held after piece words way next = gathered_more start now then put.Done held after piece words way next

pub piece_failed : (start now then : Option (List ℕ)) (held after piece words : List ℕ) → IsGathered start now held words → Gathers now then held after put.Failed piece
    → Puts start then put.Failed (words ++ piece)
piece_failed start now then held after piece words way failed = gathered_more start now then put.Failed held after piece words way (puts_stop now then held piece failed)

-- a limit is passed
pub passes_so : (old new : Made) (frames bytes all : ℕ) (which : LimitOf) (longer : List ℕ) → Counts old frames bytes new (Err which) → all ≡ old.frames + frames
    → length longer ≡ old.bytes + bytes → PassesWith which all longer
passes_so old new frames bytes all limit.Bytes longer counts frames_are bytes_are = omega (arith, counts, bytes_are)
passes_so old new frames bytes all limit.Frames longer counts frames_are bytes_are = (omega (arith, counts.0, frames_are), omega (arith, counts.1, bytes_are))
passes_so old new frames bytes all limit.Cues longer counts frames_are bytes_are = absurd counts
passes_so old new frames bytes all limit.Packet longer counts frames_are bytes_are = absurd counts
passes_so old new frames bytes all limit.Day longer counts frames_are bytes_are = absurd counts

-- another packet
other_frames : (placed : TimedPackets) (words : List ℕ) (old : Made) (frame : ℕ) (p : Payload) → IsMade placed words old → carries_captions p ≡ false
    → frames_put (placed ++ (frame, p) ∷ []) ≡ old.frames + 0
other_frames placed words old frame p made isnt = other_counted placed words old.words.before frame p made.has isnt ∙ ap (λ n. n + 0) (sym made.frames_are)

other_bytes : (placed : TimedPackets) (words bytes : List ℕ) (old : Made) → IsMade placed words old → length (words ++ bytes) ≡ old.bytes + length bytes
other_bytes placed words bytes old made = length-append words bytes ∙ ap (λ n. n + length bytes) (sym made.bytes_are)

pub other_passes : (placed : TimedPackets) (words bytes : List ℕ) (old new : Made) (frame : ℕ) (p : Payload) (which : LimitOf) (size : ℕ) → IsMade placed words old → carries_captions p ≡ false
    → bytes ≡ payload_words p → size ≡ length bytes → Counts old 0 size new (Err which) → PassesBy which placed (frame, p)
other_passes placed words bytes old new frame p which size made isnt are size_is counts =
    record {
      longer = words ++ bytes;
      are = record {
        after = old.words.before;
        are = subst (λ (b : List ℕ). HasMade (placed ++ (frame, p) ∷ []) (words ++ b) old.words) (sym are) (other_made placed words old.words frame p made.has isnt);
      };
      passes = passes_so old new 0 size (frames_put (placed ++ (frame, p) ∷ [])) which (words ++ bytes) counts (other_frames placed words old frame p made isnt)
          (other_bytes placed words bytes old made ∙ ap (λ n. old.bytes + n) (sym size_is));
    }

pub other_is_made : (placed : TimedPackets) (words bytes : List ℕ) (old new : Made) (frame : ℕ) (p : Payload) (size : ℕ) → IsMade placed words old → carries_captions p ≡ false
    → bytes ≡ payload_words p → size ≡ length bytes → Counts old 0 size new (Ok tt) → IsMade (placed ++ (frame, p) ∷ []) (words ++ bytes) new
other_is_made placed words bytes old new frame p size made isnt are size_is (frames, counted, same) = record {
  has = subst (λ (m : MccWords). HasMade (placed ++ (frame, p) ∷ []) (words ++ bytes) m) (sym same)
      (subst (λ (b : List ℕ). HasMade (placed ++ (frame, p) ∷ []) (words ++ b) old.words) (sym are) (other_made placed words old.words frame p made.has isnt));
  frames_are = frames ∙ sym (other_frames placed words old frame p made isnt);
  bytes_are = counted ∙ (ap (λ n. old.bytes + n) size_is ∙ sym (other_bytes placed words bytes old made));
}

-- missing frames
pub record MissingFront (missing now : MissingFrames) (start0 then : Option (List ℕ)) (held0 held : List ℕ) : Type 0 where
  pub front : List ℕ
  pub way : (start : Option (List ℕ)) (words : List ℕ) → IsGathered start start0 held0 words → IsGathered start then held (words ++ front)
  pub goes : words_left missing ≡ front ++ words_left now

pub none_missing : (missing : MissingFrames) (start0 : Option (List ℕ)) (held0 : List ℕ) → MissingFront missing missing start0 start0 held0 held0
none_missing missing start0 held0 = record {
  front = [];
  way = λ start words way. subst (λ (w : List ℕ). IsGathered start start0 held0 w) (sym (append-nil words)) way;
  goes = refl;
}

pub one_missing : (missing old new : MissingFrames) (start0 now then : Option (List ℕ)) (held0 held after bytes : List ℕ) → MissingFront missing old start0 now held0 held
    → PutsNext old new true bytes → Gathers now then held after put.Done bytes → MissingFront missing new start0 then held0 after
one_missing missing old new start0 now then held0 held after bytes so puts next = record {
  front = so.front ++ bytes;
  way = λ start words way. subst (λ (w : List ℕ). IsGathered start then after w) (append_assoc words so.front bytes)
      (piece_gathered start now then held after bytes (words ++ so.front) (so.way start words way) next);
  goes = so.goes ∙ (ap (λ (w : List ℕ). so.front ++ w) (next_made old new bytes puts) ∙ sym (append_assoc so.front bytes (words_left new)));
}

none_left : (now : MissingFrames) → now.left ≡ 0 → words_left now ≡ []
none_left now none = ap (λ (n : ℕ). words_without now.rate now.number n) none

pub all_missing : (missing now : MissingFrames) (start0 then start : Option (List ℕ)) (held0 held words : List ℕ) → MissingFront missing now start0 then held0 held → now.left ≡ 0
    → IsGathered start start0 held0 words → IsGathered start then held (words ++ words_left missing)
all_missing missing now start0 then start held0 held words so none way =
    let all : words_left missing ≡ so.front = so.goes ∙ (ap (λ (w : List ℕ). so.front ++ w) (none_left now none) ∙ append-nil so.front) in
    subst (λ (w : List ℕ). IsGathered start then held (words ++ w)) (sym all) (so.way start words way)

pub missing_fails : (missing old new : MissingFrames) (start0 now then start : Option (List ℕ)) (held0 held after bytes words : List ℕ) → MissingFront missing old start0 now held0 held
    → PutsNext old new true bytes → Gathers now then held after put.Failed bytes → IsGathered start start0 held0 words
    → Puts start then put.Failed (words ++ words_left missing)
missing_fails missing old new start0 now then start held0 held after bytes words so puts failed way =
    let rest = words_left new in
    let stopped = puts_stop start then ((words ++ so.front) ++ bytes) rest (piece_failed start now then held after bytes (words ++ so.front) (so.way start words way) failed) in
    let all : words_left missing ≡ so.front ++ (bytes ++ rest) = so.goes ∙ ap (λ (w : List ℕ). so.front ++ w) (next_made old new bytes puts) in
    subst (λ (w : List ℕ). Puts start then put.Failed w)
    (append_assoc (words ++ so.front) bytes rest ∙ (append_assoc words so.front (bytes ++ rest) ∙ ap (λ (w : List ℕ). words ++ w) (sym all))) stopped

pub left_falls : (old new : MissingFrames) (bytes : List ℕ) → PutsNext old new true bytes → new.left < old.left
left_falls old new bytes puts = omega (arith, puts.0)

-- a packet of captions
pub record Begun (placed : TimedPackets) (words : List ℕ) (old : Made) (maker : MccWords) (frame : ℕ) (user : List ℕ) (missing : MissingFrames) (bytes : List ℕ) : Type 0 where
  pub begins : BeginsCaptions old.words frame user maker missing
  pub now : Before
  pub now_is : maker.before ≡ Some now
  pub raised : List ℕ
  pub is_raised : IsRaised now.raised user raised
  pub are : bytes ≡ packet_bytes 0x61 0x01 raised

abbrev pub captions : List ℕ → Payload
captions user = record { did = 0x61; sdid = 0x01; user = user }

pub captions_are_made : (placed : TimedPackets) (words : List ℕ) (old : Made) (maker : MccWords) (frame : ℕ) (user : List ℕ) (missing : MissingFrames) (bytes : List ℕ)
    → IsMade placed words old → Begun placed words old maker frame user missing bytes
    → HasMade (placed ++ (frame, captions user) ∷ []) (words ++ (words_left missing ++ bytes)) maker
captions_are_made placed words old maker frame user missing bytes made b =
    subst (λ (w : List ℕ). HasMade (placed ++ (frame, captions user) ∷ []) (words ++ (words_left missing ++ w)) maker) (sym b.are)
    (captions_made placed words old.words maker frame (captions user) missing b.raised b.now made.has refl b.begins b.now_is b.is_raised)

captions_bytes : (words : List ℕ) (old : Made) (missing : MissingFrames) (bytes : List ℕ) (size : ℕ) → old.bytes ≡ length words
    → size ≡ missing.left * frame_size missing.rate + length bytes → length (words ++ (words_left missing ++ bytes)) ≡ old.bytes + size
captions_bytes words old missing bytes size so_far size_is =
    let frames = frames_long missing.left missing.rate missing.number in
    let all = length-append words (words_left missing ++ bytes) in
    let parts = length-append (words_left missing) bytes in
    omega (arith, frames, all, parts, so_far, size_is)

captions_frames : (placed : TimedPackets) (words : List ℕ) (old : Made) (maker : MccWords) (frame : ℕ) (user : List ℕ) (missing : MissingFrames) (bytes : List ℕ)
    → IsMade placed words old → Begun placed words old maker frame user missing bytes → frames_put (placed ++ (frame, captions user) ∷ []) ≡ old.frames + (missing.left + 1)
captions_frames placed words old maker frame user missing bytes made b =
    captions_counted placed words old.words.before frame (captions user) missing made.has b.begins.are refl ∙ ap (λ n. n + (missing.left + 1)) (sym made.frames_are)

pub captions_pass : (placed : TimedPackets) (words : List ℕ) (old mid new : Made) (frame : ℕ) (user : List ℕ) (missing : MissingFrames) (bytes : List ℕ) (which : LimitOf) (size : ℕ)
    → IsMade placed words old → Begun placed words old mid.words frame user missing bytes → mid.frames ≡ old.frames → mid.bytes ≡ old.bytes
    → size ≡ missing.left * frame_size missing.rate + length bytes → Counts mid (missing.left + 1) size new (Err which) → PassesBy which placed (frame, captions user)
captions_pass placed words old mid new frame user missing bytes which size made b frames_same bytes_same size_is counts =
    record {
      longer = words ++ (words_left missing ++ bytes);
      are = record { after = mid.words.before; are = captions_are_made placed words old mid.words frame user missing bytes made b };
      passes = passes_so mid new (missing.left + 1) size (frames_put (placed ++ (frame, captions user) ∷ [])) which (words ++ (words_left missing ++ bytes)) counts
          (captions_frames placed words old mid.words frame user missing bytes made b ∙ ap (λ n. n + (missing.left + 1)) (sym frames_same))
          (captions_bytes words old missing bytes size made.bytes_are size_is ∙ ap (λ n. n + size) (sym bytes_same));
    }

pub captions_counted_in : (placed : TimedPackets) (words : List ℕ) (old mid new : Made) (frame : ℕ) (user : List ℕ) (missing : MissingFrames) (bytes : List ℕ) (size : ℕ)
    → IsMade placed words old → Begun placed words old mid.words frame user missing bytes → mid.frames ≡ old.frames → mid.bytes ≡ old.bytes
    → size ≡ missing.left * frame_size missing.rate + length bytes → Counts mid (missing.left + 1) size new (Ok tt)
    → IsMade (placed ++ (frame, captions user) ∷ []) (words ++ (words_left missing ++ bytes)) new
captions_counted_in placed words old mid new frame user missing bytes size made b frames_same bytes_same size_is (frames, counted, same) = record {
  has = subst (λ (m : MccWords). HasMade (placed ++ (frame, captions user) ∷ []) (words ++ (words_left missing ++ bytes)) m) (sym same)
      (captions_are_made placed words old mid.words frame user missing bytes made b);
  frames_are = frames ∙ (ap (λ n. n + (missing.left + 1)) frames_same ∙ sym (captions_frames placed words old mid.words frame user missing bytes made b));
  bytes_are = counted ∙ (ap (λ n. n + size) bytes_same ∙ sym (captions_bytes words old missing bytes size made.bytes_are size_is));
}

-- what was begun, and these are its words
begun_at : (placed : TimedPackets) (words : List ℕ) (old : Made) (maker : MccWords) (frame : ℕ) (user : List ℕ) (missing : MissingFrames) (bytes : List ℕ) (now : Before)
    → BeginsCaptions old.words frame user maker missing → maker.before ≡ Some now → AreBegunWords maker user bytes → Begun placed words old maker frame user missing bytes
begun_at placed words old maker frame user missing bytes now begins is put =
    let put : IfSome (Some now) (λ (n : Before). (raised : List ℕ) × IsRaised n.raised user raised × (bytes ≡ packet_bytes 0x61 0x01 raised)) =
    subst (λ (b : Option Before). IfSome b (λ (n : Before). (raised : List ℕ) × IsRaised n.raised user raised × (bytes ≡ packet_bytes 0x61 0x01 raised))) is put in
    record { begins = begins; now = now; now_is = is; raised = put.0; is_raised = put.1; are = put.2 }

-- what was made before
abbrev pub made_before : MccWords → Made → Made
made_before before made = record made { words = before }

pub was_made : (placed : TimedPackets) (words : List ℕ) (frame : ℕ) (user : List ℕ) (missing : MissingFrames) (made : Made) (b : HasBegun placed words frame user missing made)
    → IsMade placed words (made_before b.before made)
was_made placed words frame user missing made b = record { has = b.has; frames_are = b.frames_are; bytes_are = b.bytes_are }

pub begun : (placed : TimedPackets) (words : List ℕ) (frame : ℕ) (user : List ℕ) (missing : MissingFrames) (made : Made) (bytes : List ℕ) (b : HasBegun placed words frame user missing made)
    → AreBegunWords made.words user bytes → Begun placed words (made_before b.before made) made.words frame user missing bytes
begun placed words frame user missing made bytes b put =
    begun_at placed words (made_before b.before made) made.words frame user missing bytes _ b.begins b.begins.after put

-- the words of the missing frames were added, and the packet's
pub captions_done : (placed : TimedPackets) (words : List ℕ) (old mid new : Made) (frame : ℕ) (user : List ℕ) (missing : MissingFrames) (bytes : List ℕ) (size : ℕ)
    (start now then : Option (List ℕ)) (held after : List ℕ) → IsMade placed words old → Begun placed words old mid.words frame user missing bytes → mid.frames ≡ old.frames
    → mid.bytes ≡ old.bytes → size ≡ missing.left * frame_size missing.rate + length bytes → Counts mid (missing.left + 1) size new (Ok tt)
    → IsGathered start now held (words ++ words_left missing) → Gathers now then held after put.Done bytes
    → AddsPacket placed words (frame, captions user) start then after new (Ok tt)
captions_done placed words old mid new frame user missing bytes size start now then held after made b frames_same bytes_same size_is counts way next = (
  words_left missing ++ bytes,
  captions_counted_in placed words old mid new frame user missing bytes size made b frames_same bytes_same size_is counts,
  subst (λ (w : List ℕ). IsGathered start then after w) (append_assoc words (words_left missing) bytes)
      (piece_gathered start now then held after bytes (words ++ words_left missing) way next),
)

pub captions_unwritten : (placed : TimedPackets) (words : List ℕ) (old mid new : Made) (frame : ℕ) (user : List ℕ) (missing : MissingFrames) (bytes : List ℕ) (size : ℕ)
    (start now then : Option (List ℕ)) (held after : List ℕ) → IsMade placed words old → Begun placed words old mid.words frame user missing bytes → mid.frames ≡ old.frames
    → mid.bytes ≡ old.bytes → size ≡ missing.left * frame_size missing.rate + length bytes → Counts mid (missing.left + 1) size new (Ok tt)
    → IsGathered start now held (words ++ words_left missing) → Gathers now then held after put.Failed bytes
    → AddsPacket placed words (frame, captions user) start then after new (Err stopped.WriteFault)
captions_unwritten placed words old mid new frame user missing bytes size start now then held after made b frames_same bytes_same size_is counts way failed = (
  words_left missing ++ bytes,
  within_of (placed ++ (frame, captions user) ∷ []) (words ++ (words_left missing ++ bytes)) new
      (captions_counted_in placed words old mid new frame user missing bytes size made b frames_same bytes_same size_is counts),
  subst (λ (w : List ℕ). Puts start then put.Failed w) (append_assoc words (words_left missing) bytes)
      (piece_failed start now then held after bytes (words ++ words_left missing) way failed),
)

-- a put of the missing frames' words failed
pub missing_unwritten : (placed : TimedPackets) (words : List ℕ) (old mid new : Made) (frame : ℕ) (user : List ℕ) (missing : MissingFrames) (bytes : List ℕ) (size : ℕ)
    (start then : Option (List ℕ)) (after : List ℕ) → IsMade placed words old → Begun placed words old mid.words frame user missing bytes → mid.frames ≡ old.frames
    → mid.bytes ≡ old.bytes → size ≡ missing.left * frame_size missing.rate + length bytes → Counts mid (missing.left + 1) size new (Ok tt)
    → Puts start then put.Failed (words ++ words_left missing) → AddsPacket placed words (frame, captions user) start then after new (Err stopped.WriteFault)
missing_unwritten placed words old mid new frame user missing bytes size start then after made b frames_same bytes_same size_is counts failed = (
  words_left missing ++ bytes,
  within_of (placed ++ (frame, captions user) ∷ []) (words ++ (words_left missing ++ bytes)) new
      (captions_counted_in placed words old mid new frame user missing bytes size made b frames_same bytes_same size_is counts),
  subst (λ (w : List ℕ). Puts start then put.Failed w) (append_assoc words (words_left missing) bytes) (puts_stop start then (words ++ words_left missing) bytes failed),
)

-- a limit is passed, where this many are missing
pub captions_pass_with : (placed : TimedPackets) (words : List ℕ) (old mid new : Made) (frame : ℕ) (user : List ℕ) (missing : MissingFrames) (bytes : List ℕ) (which : LimitOf) (size many : ℕ)
    → IsMade placed words old → Begun placed words old mid.words frame user missing bytes → mid.frames ≡ old.frames → mid.bytes ≡ old.bytes
    → size ≡ missing.left * frame_size missing.rate + length bytes → many ≡ missing.left → Counts mid (many + 1) size new (Err which) → PassesBy which placed (frame, captions user)
captions_pass_with placed words old mid new frame user missing bytes which size many made b frames_same bytes_same size_is same counts =
    captions_pass placed words old mid new frame user missing bytes which size made b frames_same bytes_same size_is
    (subst (λ (n : ℕ). Counts mid (n + 1) size new (Err which)) same counts)
