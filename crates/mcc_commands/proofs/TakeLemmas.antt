-- A byte of a file is taken.
use Rattle.std.proofs.Common.{◌≡◌, ℕ, ◌-◌, ◌<◌, ◌⊎◌, inl, inr, ◌==◌, not, Bool, true, false, All, List, [], ◌∷◌, ◌++◌, append_assoc, append-nil, length, length-append, Some, Ok, refl, ap, sym, ◌∙◌, subst, arith}
use Rattle.anc_words.specs.WordsFiles.{IsWordsFile}
use Rattle.anc_words.specs.Writing.{packet_of}
use Rattle.anc_words.proofs.PacketLemmas.{user_bytes-packet_of}
use Rattle.anc_words.proofs.WordsFileLemmas.{IsWordsFile-append, IsWordsFile-one}
use Rattle.cc_base.specs.declared.refusal.Refusal.{Refusal}
use Rattle.mcc_commands.specs.declared.hearing.Hearer.{Hearer}
use Rattle.cdp_packets.specs.Packets.{Frame, IsCdp}
use Rattle.mcc_files.specs.MccFiles.{IsMccFile, TimedPackets}
use Rattle.mcc_files.specs.Offences.{IsFirstOffence, MccByteOffends}
use Rattle.mcc_files.specs.Readers.{HasRead, HasWholeBytes, packet_in, state_of}
use Rattle.mcc_files.specs.Reading.{State, at_first, ends, ends_in, placed_with, run, take_byte}
use Rattle.mcc_files.specs.declared.phase.Phase.{Phase}
use Rattle.mcc_files.specs.declared.phase.Phase.TheVariants as phase
use Rattle.mcc_files.specs.declared.reader.MccReader.{MccReader}
use Rattle.mcc_files.proofs.FileReads.{ends_lf, file_run}
use Rattle.mcc_files.proofs.FrontLemmas.{all_more}
use Rattle.mcc_files.proofs.OriginLemmas.{ended_file, origin}
use Rattle.mcc_files.proofs.RunLemmas.{ok_one, run_front, run_on, went}
use Rattle.mcc_files.proofs.Unoffending.{unoffending}
use Rattle.mcc_files.specs.Payloads.{Payload, payload_bytes}
use Rattle.mcc_files.specs.PayloadWords.{payload_words}
use Rattle.mcc_files.proofs.WordLemmas.{payload_is_packet, user_of_bytes}
use Rattle.mcc_words.specs.Close.{words_as_they_came}
use Rattle.words_reading.proofs.PacketEndLemmas.{brings, file_under}
use Rattle.services_files.specs.CaptionChannel.{caption_channel}
use Rattle.words_files.specs.Offences.{IsFileUnder}
use Rattle.mcc_commands.specs.Imported.{AreEndedLines}
use Rattle.mcc_commands.specs.Importing.{AreFile, HasHeard, HasLines}
use Rattle.mcc_commands.specs.Offences.{IsMccCutShort, NoWordOffends}
use Rattle.mcc_commands.specs.Words.{is_open, open_part, state_words}
use Rattle.mcc_commands.proofs.StateLemmas.{Stepped, came_more, lf_open, stepped}
use Rattle.mcc_commands.proofs.ImportWordsLemmas.{whole_words}

-- what was read before a byte and with it
pub step_between : (bytes : List ℕ) (byte : ℕ) (s t : State) → run at_first bytes ≡ Ok s → run at_first (bytes ++ byte ∷ []) ≡ Ok t → take_byte s byte ≡ Ok t
step_between bytes byte s t was now =
    let rest : run s (byte ∷ []) ≡ Ok t = sym (run_on at_first bytes (byte ∷ []) s was) ∙ now in
    let w = went (take_byte s byte) (λ n. Ok n) t rest in
    w.stepped ∙ w.more

pub taken_step : (bytes : List ℕ) (byte : ℕ) (placed later : TimedPackets) (old new : MccReader) → HasRead bytes placed old → HasRead (bytes ++ byte ∷ []) later new
    → Stepped (state_of old placed) byte (state_of new later)
taken_step bytes byte placed later old new was now =
    stepped bytes (state_of old placed) (state_of new later) byte was (step_between bytes byte (state_of old placed) (state_of new later) was now)

-- the lines with a byte more
pub started_file : (bytes : List ℕ) (placed : TimedPackets) (reader : MccReader) → HasRead bytes placed reader → (state_of reader placed).phase ≡ phase.Start → IsMccFile placed bytes
started_file bytes placed reader read start =
    let s = state_of reader placed in
    ended_file bytes s false (origin bytes s read) (ap (λ (p : Phase). ends_in p s.payload.bytes) start)

pub lines_by : (bytes : List ℕ) (byte : ℕ) (placed later : TimedPackets) (new : MccReader) → HasRead (bytes ++ byte ∷ []) later new → HasLines bytes placed
    → ((byte ≡ 10) × ((state_of new later).phase ≡ phase.Start)) ⊎ (((byte == 10) ≡ false) × (later ≡ placed)) → HasLines (bytes ++ byte ∷ []) later
lines_by bytes byte placed later new now was (inl (ten, start)) = record {
  lines = bytes ++ byte ∷ [];
  rest = [];
  spelled = sym (append-nil (bytes ++ byte ∷ []));
  ended = inr ((bytes, ap (λ b. bytes ++ b ∷ []) ten), started_file (bytes ++ byte ∷ []) later new now start);
  open_line = refl;
}
lines_by bytes byte placed later new now was (inr (other, same)) = record {
  lines = was.lines;
  rest = was.rest ++ byte ∷ [];
  spelled = ap (λ b. b ++ byte ∷ []) was.spelled ∙ append_assoc was.lines was.rest (byte ∷ []);
  ended = subst (λ (p : TimedPackets). AreEndedLines p was.lines) (sym same) was.ended;
  open_line = all_more (λ b. not (b == 10)) was.rest byte was.open_line (ap not other);
}

pub taken_lines : (bytes : List ℕ) (byte : ℕ) (placed later : TimedPackets) (old new : MccReader) → HasRead bytes placed old → HasRead (bytes ++ byte ∷ []) later new → HasLines bytes placed
    → HasLines (bytes ++ byte ∷ []) later
taken_lines bytes byte placed later old new was now lines = lines_by bytes byte placed later new now lines (taken_step bytes byte placed later old new was now).line

-- no lines
pub no_lines : HasLines [] []
no_lines = record { lines = []; rest = []; spelled = refl; ended = inl (refl, refl); open_line = refl }

-- a packet more
pub record FileMore (placed : TimedPackets) (one : ℕ × Payload) : Type 0 where
  pub file : AreFile (placed ++ one ∷ [])
  pub captions : (one.1.did ≡ 0x61) × (one.1.sdid ≡ 0x01) → (frame : Frame) × IsCdp frame one.1.user

pub file_more : (placed : TimedPackets) (one : ℕ × Payload) (hearer : Hearer) → AreFile placed → All (λ byte. byte < 256) (payload_bytes one.1)
    → HasHeard (words_as_they_came (placed ++ one ∷ [])) hearer → FileMore placed one
file_more placed one hearer was are heard =
    let p = one.1 in
    let packet = packet_of p.did p.sdid p.user in
    let is = payload_is_packet p are in
    let spelled = came_more placed one in
    let whole = IsWordsFile-append was.under.file.packets (packet ∷ []) (words_as_they_came placed) (payload_words p) was.under.file.file (IsWordsFile-one packet (payload_words p) is) in
    let all = subst (λ (w : List ℕ). IsWordsFile (was.under.file.packets ++ packet ∷ []) w) (sym spelled) whole in
    let (frames, under) = file_under (was.under.file.packets ++ packet ∷ []) (words_as_they_came (placed ++ one ∷ [])) all heard.unoffending heard.received.bytes_are in
    let brought = brings packet was.frames frames (words_as_they_came placed) (payload_words p) was.under
    (subst (λ (w : List ℕ). IsFileUnder caption_channel frames w) spelled under) is in
    record {
      file = record { frames = frames; under = under };
      captions = λ captions. let (frame, cdp, only) = brought.caption_brings captions in (frame, subst (λ (u : List ℕ). IsCdp frame u) (user_bytes-packet_of p.did p.sdid p.user (user_of_bytes p are)) cdp);
    }

-- the words after a packet's line
pub started_words : (placed : TimedPackets) (reader : MccReader) → is_open (state_of reader placed).phase ≡ false → state_words (state_of reader placed) ≡ words_as_they_came placed
started_words placed reader closed =
    ap (λ (b : Bool). words_as_they_came placed ++ open_part b (state_of reader placed).payload.bytes) closed ∙ append-nil (words_as_they_came placed)

-- the bytes ended
more_placed : (placed : TimedPackets) (one : ℕ × Payload) → placed ++ one ∷ [] ≡ placed → ⊥
more_placed placed one same = omega (arith, ap length same, length-append placed (one ∷ []))

pub ends_of : (bytes : List ℕ) (placed all : TimedPackets) (reader : MccReader) → HasRead bytes placed reader → IsMccFile all bytes
    → (gives : Bool) × (ends (state_of reader placed) ≡ Some gives) × (placed_with (state_of reader placed) gives ≡ all)
ends_of bytes placed all reader read file =
    let f = file_run all bytes file in
    let same : f.to ≡ state_of reader placed = ok_one (run at_first bytes) f.to (state_of reader placed) f.is read in
    (f.gives, ap (λ (x : State). ends x) (sym same) ∙ f.may, ap (λ (x : State). placed_with x f.gives) (sym same) ∙ f.all)

ended_closed : (bytes : List ℕ) (placed : TimedPackets) (reader : MccReader) (gives : Bool) → ends (state_of reader placed) ≡ Some gives → placed_with (state_of reader placed) gives ≡ placed
    → is_open (state_of reader placed).phase ≡ false
ended_closed bytes placed reader true may all = absurd (more_placed placed _ all)
ended_closed bytes placed reader false may all =
    let s = state_of reader placed in lf_open s.phase s.payload.bytes false (ends_lf s.phase s.payload.bytes false may)

pub file_words : (bytes : List ℕ) (placed : TimedPackets) (reader : MccReader) → HasRead bytes placed reader → IsMccFile placed bytes
    → state_words (state_of reader placed) ≡ words_as_they_came placed
file_words bytes placed reader read file =
    let (gives, may, all) = ends_of bytes placed placed reader read file in
    started_words placed reader (ended_closed bytes placed reader gives may all)

ended_open : (placed : TimedPackets) (one : ℕ × Payload) (reader : MccReader) (gives : Bool) → ends (state_of reader placed) ≡ Some gives
    → placed_with (state_of reader placed) gives ≡ placed ++ one ∷ [] → is_open (state_of reader placed).phase ≡ true
ended_open placed one reader false may all = absurd (more_placed placed one (sym all))
ended_open placed one reader true may all =
    let s = state_of reader placed in lf_open s.phase s.payload.bytes true (ends_lf s.phase s.payload.bytes true may)

pub line_words : (bytes : List ℕ) (placed : TimedPackets) (reader : MccReader) → HasRead bytes placed reader → IsMccFile (placed ++ packet_in reader ∷ []) bytes → HasWholeBytes reader
    → state_words (state_of reader placed) ≡ words_as_they_came (placed ++ packet_in reader ∷ [])
line_words bytes placed reader read file whole =
    let s = state_of reader placed in
    let (gives, may, all) = ends_of bytes placed (placed ++ packet_in reader ∷ []) reader read file in
    let open_is = ended_open placed (packet_in reader) reader gives may all in
    ap (λ (b : Bool). words_as_they_came placed ++ open_part b s.payload.bytes) open_is
    ∙ (ap (λ (b : List ℕ). words_as_they_came placed ++ open_part true b) whole
    ∙ (ap (λ w. words_as_they_came placed ++ w) (whole_words (packet_in reader).1) ∙ sym (came_more placed (packet_in reader))))

-- what was read doesn't offend, so the bytes are cut short
front_reads : (bytes before rest : List ℕ) (s : State) → bytes ≡ before ++ rest → run at_first bytes ≡ Ok s → (to : State) × (run at_first before ≡ Ok to)
front_reads bytes before rest s spelled reads =
    let r = run_front at_first before rest s (subst (λ (b : List ℕ). run at_first b ≡ Ok s) spelled reads) in (r.to, r.is)

pub no_byte_offends : (bytes : List ℕ) (s : State) (refusal : Refusal) → run at_first bytes ≡ Ok s → MccByteOffends bytes refusal → ⊥
no_byte_offends bytes s refusal reads b =
    let (to, is) = front_reads bytes (b.before ++ b.byte ∷ []) b.rest s (b.spelled ∙ sym (append_assoc b.before (b.byte ∷ []) b.rest)) reads in
    b.offends (unoffending (b.before ++ b.byte ∷ []) to (origin (b.before ++ b.byte ∷ []) to is))

pub cut_short : (bytes : List ℕ) (s : State) (refusal : Refusal) → run at_first bytes ≡ Ok s → NoWordOffends bytes → IsFirstOffence bytes refusal → IsMccCutShort bytes refusal
cut_short bytes s refusal reads none (inl b) = absurd (no_byte_offends bytes s refusal reads b)
cut_short bytes s refusal reads none (inr e) = record { early = e; no_word = none }

-- a byte that is refused offends
pub byte_offends : (bytes : List ℕ) (byte : ℕ) (refusal : Refusal) (back : ℕ) → refusal.place ≡ length bytes - back → IsFirstOffence (bytes ++ byte ∷ []) refusal → MccByteOffends (bytes ++ byte ∷ []) refusal
byte_offends bytes byte refusal back place (inl b) = b
byte_offends bytes byte refusal back place (inr e) = let at = e.place_is in absurd (omega (arith, place, at, length-append bytes (byte ∷ [])))
