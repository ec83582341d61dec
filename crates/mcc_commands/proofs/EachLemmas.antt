-- Every input is an import, or has a first offence, or a limit is passed with a packet of it.
use Rattle.std.proofs.Common.{◌≡◌, ℕ, ◌+◌, ◌-◌, ◌⊎◌, inl, inr, Bool, true, false, List, [], ◌∷◌, ◌++◌, append_assoc, append-nil, length, Option, Some, None, Result, Ok, Err, refl, ap, sym, ◌∙◌, subst, arith}
use Rattle.std.proofs.lemmas.Bool.{cases_lt}
use Rattle.anc_words.proofs.PacketLemmas.{user_bytes-packet_of}
use Rattle.anc_words.specs.Writing.{packet_of}
use Rattle.cc_base.specs.declared.limit_of.LimitOf.{LimitOf}
use Rattle.cc_base.specs.declared.limit_of.LimitOf.TheVariants as limit
use Rattle.cc_base.specs.declared.refusal.Refusal.{Refusal}
use Rattle.words_reading.proofs.FedFrames.{nothing_is_file, nothing_offends}
use Rattle.cdp_packets.specs.Packets.{Frame, IsCdp}
use Rattle.mcc_files.proofs.OriginLemmas.{ended_file, lf_so, origin}
use Rattle.mcc_files.proofs.Origins.{InLine, OriginIn}
use Rattle.mcc_files.proofs.Refused.{first_offence, line_of, zero_more}
use Rattle.mcc_files.proofs.RunLemmas.{run_more, stops_read, stops_short}
use Rattle.mcc_files.specs.MccFiles.{IsMccFile, TimedPackets}
use Rattle.mcc_files.specs.Offences.{IsFirstOffence as IsFirstOffenceOfForm}
use Rattle.mcc_files.specs.Phases.{why_in}
use Rattle.mcc_files.specs.Readers.{back_in, item_in}
use Rattle.mcc_files.specs.Reading.{State, at_first, ends, ends_at_lf, ends_in, packet_of as packet_in, run, started, take_byte}
use Rattle.mcc_files.specs.declared.phase.Phase.{Phase}
use Rattle.mcc_files.specs.declared.phase.Phase.TheVariants as phase
use Rattle.mcc_files.proofs.WordLemmas.{payload_is_packet, user_of_bytes}
use Rattle.mcc_files.proofs.WrittenLemmas.{AreBytes}
use Rattle.mcc_files.specs.Payloads.{Payload, payload_bytes}
use Rattle.mcc_files.specs.PayloadWords.{payload_words}
use Rattle.mcc_files.specs.PayloadReading.{item_bytes}
use Rattle.mcc_files.specs.declared.payload_reader.Offence.{Offence}
use Rattle.mcc_words.specs.Close.{words_as_they_came}
use Rattle.mcc_words.specs.MccWords.{carries_captions}
use Rattle.mcc_words.proofs.CaptionTests.{are_captions}
use Rattle.mcc_words.proofs.FileLemmas.{GoForward, file_forward}
use Rattle.words_reading.proofs.PacketEndLemmas.{brings, file_under}
use Rattle.scc_files.specs.Offences.{EndsLine}
use Rattle.services_files.proofs.ChannelFiles.{refused_offence, unrefused_unoffending}
use Rattle.services_files.specs.CaptionChannel.{caption_channel}
use Rattle.services_files.specs.Services.{services_say}
use Rattle.words_files.specs.Catching.{refusal_of}
use Rattle.words_files.specs.Offences.{IsFileUnder, IsUnoffending}
use Rattle.words_reading.specs.Causes.{words_limit}
use Rattle.mcc_commands.proofs.JudgeLemmas.{ItemFacts, item_facts}
use Rattle.mcc_commands.proofs.ImportOffenceLemmas.{AtItems, no_word_first, no_word_more, word_offends, words_at}
use Rattle.mcc_commands.proofs.StateLemmas.{came_more, none_with, stepped}
use Rattle.mcc_commands.proofs.TakeLemmas.{byte_offends, cut_short}
use Rattle.mcc_commands.specs.Imported.{AreWithinImport, PassesAtPacket, frames_put, most_imported_frames}
use Rattle.mcc_commands.specs.Importing.{AreFile}
use Rattle.mcc_commands.specs.Offences.{ItemWordOffends, NoWordOffends}
use Rattle.mcc_commands.specs.Words.{is_open, open_part, open_words, state_words, words_with}
use Rattle.mcc_commands.proofs.ByteLemmas.{both_bytes, item_read_bytes, open_bytes, words_bytes}
use Rattle.mcc_commands.proofs.MakingLemmas.{words_with_one}
use Rattle.mcc_commands.proofs.ImportedOffenceLemmas.{file_state, offends_stays, word_stays}
use Rattle.mcc_commands.proofs.StandingLemmas.{came_file, packets_of}
use Rattle.mcc_commands.specs.EveryInput.{EveryInputIsOne, IsOneOfThese}

-- a packet's line ended: its words are within the limits with the earlier packets' words, or a limit is passed with it
pub data Done (front : List ℕ) (placed : TimedPackets) (one : ℕ × Payload) (words : List ℕ) : Type 0 where
  within : (longer : List ℕ) → AreFile (placed ++ one ∷ []) → AreWithinImport (placed ++ one ∷ []) longer → Done front placed one words
  passed : (which : LimitOf) → PassesAtPacket which front words → Done front placed one words

forward_last : (last : ℕ) (placed : TimedPackets) (one : ℕ × Payload) → GoForward last (placed ++ one ∷ []) → AreBytes (payload_bytes one.1)
forward_last last [] one forward = forward.1
forward_last last (first ∷ placed) one forward = forward_last first.0 placed one forward.2

file_now : (front : List ℕ) (all : TimedPackets) → IsMccFile all front → IsUnoffending caption_channel (words_as_they_came all) → AreFile all
file_now front all file fine =
    let whole = came_file 0 all (file_forward all front file) in
    let under = file_under (packets_of all) (words_as_they_came all) whole fine (words_bytes (words_as_they_came all) whole.words whole.spelled) in
    record { frames = under.0; under = under.1 }

frame_of : (front : List ℕ) (placed : TimedPackets) (one : ℕ × Payload) → IsMccFile (placed ++ one ∷ []) front → AreFile placed → AreFile (placed ++ one ∷ []) → carries_captions one.1 ≡ true
    → (frame : Frame) × IsCdp frame one.1.user
frame_of front placed one file was now captions =
    let p = one.1 in
    let are = forward_last 0 placed one (file_forward (placed ++ one ∷ []) front file) in
    let packet = packet_of p.did p.sdid p.user in
    let brought = brings packet was.frames now.frames (words_as_they_came placed) (payload_words p) was.under
    (subst (λ (w : List ℕ). IsFileUnder caption_channel now.frames w) (came_more placed one) now.under) (payload_is_packet p are) in
    let (frame, cdp, only) = brought.caption_brings (are_captions p captions) in
    (frame, subst (λ (u : List ℕ). IsCdp frame u) (user_bytes-packet_of p.did p.sdid p.user (user_of_bytes p are)) cdp)

line_done : (front : List ℕ) (placed : TimedPackets) (one : ℕ × Payload) (words : List ℕ) → IsMccFile (placed ++ one ∷ []) front → NoWordOffends front
    → IsUnoffending caption_channel (words_as_they_came (placed ++ one ∷ [])) → AreFile placed → AreWithinImport placed words → Done front placed one words
line_done front placed one words file none fine was less =
    let now = file_now front (placed ++ one ∷ []) file fine in
    let (longer, are) = words_with_one placed words one less.are (frame_of front placed one file was now) in
    elim (cases_lt words_limit (length longer)) [
      | inl long ↦
          passed limit.Bytes (record { placed = placed; last = one; file = file; no_word = none; within = less; longer = longer; are = are; passes = long })
      | inr short ↦ elim (cases_lt most_imported_frames (frames_put (placed ++ one ∷ []))) [
        | inl many ↦
            passed limit.Frames (record { placed = placed; last = one; file = file; no_word = none; within = less; longer = longer; are = are; passes = (many, short) })
        | inr few ↦ within longer now (record { are = are; frames = few; bytes = short })
      ]
    ]

-- nothing offends in what was read, and no limit was passed
pub record Goes (before : List ℕ) (s : State) : Type 0 where
  pub reads : run at_first before ≡ Ok s
  pub no_word : NoWordOffends before
  pub fine : IsUnoffending caption_channel (state_words s)
  pub file : AreFile s.placed
  pub words : List ℕ
  pub within : AreWithinImport s.placed words

nothing_read : Goes [] at_first
nothing_read = record {
  reads = refl;
  no_word = no_word_first;
  fine = nothing_offends;
  file = record { frames = []; under = nothing_is_file };
  words = [];
  within = record { are = record { after = None; are = (refl, refl) }; frames = omega arith; bytes = omega arith };
}

-- the words of an item that ends
item_word_bytes : (before : List ℕ) (s : State) (byte : ℕ) (g : Goes before s) → ItemFacts s (item_in s.phase s.payload byte) → AreBytes (words_with s (item_in s.phase s.payload byte))
item_word_bytes before s byte g facts =
    let item = item_in s.phase s.payload byte in
    let bytes = s.payload.bytes in
    let line : InLine before s = subst (λ (p : Phase). OriginIn p before s) facts.at (origin before s g.reads) in
    let f = line_of phase.Payload before s facts.at line in
    let same : item ≡ item_bytes s.payload byte = ap (λ (p : Phase). item_in p s.payload byte) facts.at in
    let read : AreBytes (bytes ++ item) = subst (λ (i : List ℕ). AreBytes (bytes ++ i)) (sym same) (item_read_bytes f.payload_text s.payload byte f.stands) in
    let came = g.file.under.file.file in
    let at : AtItems s s.placed bytes = record { open_is = ap is_open facts.at; bytes_are = refl; placed_are = refl } in
    subst AreBytes (sym (words_at s s.placed bytes item at))
    (both_bytes (words_as_they_came s.placed) (open_words (bytes ++ item)) (words_bytes (words_as_they_came s.placed) came.words came.spelled)
    (open_bytes (bytes ++ item) facts.join read))

abbrev Judged : List ℕ → State → ℕ → Type 0
Judged before s byte =
    IsUnoffending caption_channel (words_with s (item_in s.phase s.payload byte)) ⊎ ((refusal : Refusal) × ItemWordOffends (before ++ byte ∷ []) refusal)

judged_by : (before : List ℕ) (s : State) (byte : ℕ) (found : Option Refusal) → Goes before s → (item_in s.phase s.payload byte ≡ [] → ⊥)
    → refusal_of services_say (words_with s (item_in s.phase s.payload byte)) ≡ found → Judged before s byte
judged_by before s byte None g some is =
    let facts = item_facts before s byte g.reads some in
    inl (unrefused_unoffending (words_with s (item_in s.phase s.payload byte)) (item_word_bytes before s byte g facts) is)
judged_by before s byte (Some word) g some is =
    let facts = item_facts before s byte g.reads some in
    let offends = refused_offence (words_with s (item_in s.phase s.payload byte)) word (item_word_bytes before s byte g facts) is in
    inr (record { place = length before - back_in s.phase s.payload; why = word.why }, word_offends before s byte word g.reads facts.not_yet some g.fine offends)

judged : (before : List ℕ) (s : State) (byte : ℕ) (item : List ℕ) → item_in s.phase s.payload byte ≡ item → Goes before s → Judged before s byte
judged before s byte [] is g =
    inl (subst (λ (w : List ℕ). IsUnoffending caption_channel w) (sym (none_with s (item_in s.phase s.payload byte) is)) g.fine)
judged before s byte (first ∷ item) is g =
    judged_by before s byte (refusal_of services_say (words_with s (item_in s.phase s.payload byte))) g
    (λ none. let clash : first ∷ item ≡ [] = sym is ∙ none in absurd cc) refl

-- a byte more
pub data Next (front : List ℕ) (t : State) : Type 0 where
  goes : Goes front t → Next front t
  stops : (which : LimitOf) (words : List ℕ) → PassesAtPacket which front words → EndsLine front → Next front t

same_next : (front : List ℕ) (s t : State) (words : List ℕ) → t.placed ≡ s.placed → run at_first front ≡ Ok t → NoWordOffends front → IsUnoffending caption_channel (state_words t)
    → AreFile s.placed → AreWithinImport s.placed words → Next front t
same_next front s t words same reads none fine file less = goes (record {
  reads = reads;
  no_word = none;
  fine = fine;
  file = subst AreFile (sym same) file;
  words = words;
  within = subst (λ (p : TimedPackets). AreWithinImport p words) (sym same) less;
})

done_next : (front : List ℕ) (s t : State) (words : List ℕ) → t.placed ≡ s.placed ++ packet_in s ∷ [] → run at_first front ≡ Ok t → NoWordOffends front
    → IsUnoffending caption_channel (state_words t) → EndsLine front → Done front s.placed (packet_in s) words → Next front t
done_next front s t words more reads none fine ended (within longer file less) = goes (record {
  reads = reads;
  no_word = none;
  fine = fine;
  file = subst AreFile (sym more) file;
  words = longer;
  within = subst (λ (p : TimedPackets). AreWithinImport p longer) (sym more) less;
})
done_next front s t words more reads none fine ended (passed which p) = stops which words p ended

line_next : (before : List ℕ) (s t : State) (g : Goes before s) (gives : Bool) → started s gives ≡ t → run at_first (before ++ 10 ∷ []) ≡ Ok t → NoWordOffends (before ++ 10 ∷ [])
    → IsUnoffending caption_channel (state_words t) → t.phase ≡ phase.Start → Next (before ++ 10 ∷ []) t
line_next before s t g false same reads none fine start =
    same_next (before ++ 10 ∷ []) s t g.words (ap (λ (x : State). x.placed) (sym same)) reads none fine g.file g.within
line_next before s t g true same reads none fine start =
    let front = before ++ 10 ∷ [] in
    let more : t.placed ≡ s.placed ++ packet_in s ∷ [] = ap (λ (x : State). x.placed) (sym same) in
    let file = ended_file front t false (origin front t reads) (ap (λ (p : Phase). ends_in p t.payload.bytes) start) in
    let closed : state_words t ≡ words_as_they_came t.placed =
    ap (λ (b : Bool). words_as_they_came t.placed ++ open_part b t.payload.bytes) (ap is_open start) ∙ append-nil (words_as_they_came t.placed) in
    let came = subst (λ (w : List ℕ). IsUnoffending caption_channel w) (closed ∙ ap words_as_they_came more) fine in
    done_next front s t g.words more reads none fine (before, refl)
    (line_done front s.placed (packet_in s) g.words (subst (λ (p : TimedPackets). IsMccFile p front) more file) none came g.file g.within)

next : (before : List ℕ) (s t : State) (byte : ℕ) (g : Goes before s) → IsUnoffending caption_channel (words_with s (item_in s.phase s.payload byte)) → take_byte s byte ≡ Ok t
    → Next (before ++ byte ∷ []) t
next before s t byte g fine is =
    let step = stepped before s t byte g.reads is in
    let reads = run_more at_first before s byte t g.reads is in
    let none = no_word_more before s byte g.reads g.no_word fine in
    let now = subst (λ (w : List ℕ). IsUnoffending caption_channel w) (sym step.words) fine in
    elim step.line [
      | inr (other, same) ↦ same_next (before ++ byte ∷ []) s t g.words same reads none now g.file g.within
      | inl (ten, start) ↦
          let lf : take_byte s 10 ≡ Ok t = subst (λ (n : ℕ). take_byte s n ≡ Ok t) ten is in
          let (gives, found, same) = lf_so s t (ends_at_lf s.phase (ends s)) lf in
          subst (λ (n : ℕ). Next (before ++ n ∷ []) t) (sym ten)
          (line_next before s t g gives same (subst (λ (n : ℕ). run at_first (before ++ n ∷ []) ≡ Ok t) ten reads)
          (subst (λ (n : ℕ). NoWordOffends (before ++ n ∷ [])) ten none) now start)
    ]

-- a byte with which no file goes on
byte_refused : (before rest : List ℕ) (s : State) (byte : ℕ) (o : Offence) (g : Goes before s) → IsUnoffending caption_channel (words_with s (item_in s.phase s.payload byte))
    → take_byte s byte ≡ Err o → IsOneOfThese ((before ++ byte ∷ []) ++ rest)
byte_refused before rest s byte o g fine is =
    let front = before ++ byte ∷ [] in
    let refusal : Refusal = record { place = length before - o.back; why = o.why } in
    let first : IsFirstOffenceOfForm front refusal =
    subst (λ (n : ℕ). IsFirstOffenceOfForm front (record { place = n - o.back; why = o.why })) (zero_more (length before))
    (first_offence front (record { place = 0 + length before - o.back; why = o.why }) (stops_read 0 at_first s before byte [] o g.reads is)) in
    inr (inl (refusal, inl (offends_stays front rest refusal (inr (byte_offends before byte refusal o.back refl first, no_word_more before s byte g.reads g.no_word fine)))))

-- the bytes end
end_done : (before : List ℕ) (placed : TimedPackets) (one : ℕ × Payload) (words : List ℕ) → IsMccFile (placed ++ one ∷ []) before → Done before placed one words → IsOneOfThese before
end_done before placed one words file (within longer now less) =
    inl (longer, record { placed = placed ++ one ∷ []; file = file; frames = now.frames; words = now.under; within = less })
end_done before placed one words file (passed which p) =
    inr (inr (which, record { front = before; more = []; words = words; spelled = sym (append-nil before); ended = inr refl; passes = p }))

at_end : (before : List ℕ) (s : State) (may : Option Bool) → Goes before s → ends s ≡ may → IsOneOfThese before
at_end before s None g none =
    let refusal : Refusal = record { place = length before; why = why_in s.phase } in
    let first : IsFirstOffenceOfForm before refusal =
    subst (λ (n : ℕ). IsFirstOffenceOfForm before (record { place = n; why = why_in s.phase })) (zero_more (length before))
    (first_offence before (record { place = 0 + length before; why = why_in s.phase }) (stops_short 0 at_first s before g.reads none)) in
    inr (inl (refusal, inr (cut_short before s refusal g.reads g.no_word first)))
at_end before s (Some false) g may =
    inl (g.words, record { placed = s.placed; file = ended_file before s false (origin before s g.reads) may; frames = g.file.frames; words = g.file.under; within = g.within })
at_end before s (Some true) g may =
    let file = ended_file before s true (origin before s g.reads) may in
    let fine = subst (λ (w : List ℕ). IsUnoffending caption_channel w) (file_state before s true g.reads may) g.fine in
    end_done before s.placed (packet_in s) g.words file (line_done before s.placed (packet_in s) g.words file g.no_word fine g.file g.within)

-- bytes one by one
step_one : (before rest : List ℕ) (s : State) (byte : ℕ) (g : Goes before s) → IsUnoffending caption_channel (words_with s (item_in s.phase s.payload byte))
    → ((t : State) → Goes (before ++ byte ∷ []) t → IsOneOfThese ((before ++ byte ∷ []) ++ rest)) → (found : Result State Offence) → take_byte s byte ≡ found
    → IsOneOfThese ((before ++ byte ∷ []) ++ rest)
step_one before rest s byte g fine on (Err o) is = byte_refused before rest s byte o g fine is
step_one before rest s byte g fine on (Ok t) is = by_next (next before s t byte g fine is)
  where
    by_next : Next (before ++ byte ∷ []) t → IsOneOfThese ((before ++ byte ∷ []) ++ rest)
    by_next (goes more) = on t more
    by_next (stops which words p ended) =
        inr (inr (which, record { front = before ++ byte ∷ []; more = rest; words = words; spelled = refl; ended = inl ended; passes = p }))

one_by : (before rest : List ℕ) (s : State) (byte : ℕ) (g : Goes before s) → Judged before s byte
    → ((t : State) → Goes (before ++ byte ∷ []) t → IsOneOfThese ((before ++ byte ∷ []) ++ rest)) → IsOneOfThese ((before ++ byte ∷ []) ++ rest)
one_by before rest s byte g (inl fine) on = step_one before rest s byte g fine on (take_byte s byte) refl
one_by before rest s byte g (inr (refusal, w)) on = inr (inl (refusal, inl (inl (word_stays (before ++ byte ∷ []) rest refusal w))))

each_from : (rest before : List ℕ) (s : State) → Goes before s → IsOneOfThese (before ++ rest)
each_from [] before s g = subst IsOneOfThese (sym (append-nil before)) (at_end before s (ends s) g refl)
each_from (byte ∷ rest) before s g =
    subst IsOneOfThese (append_assoc before (byte ∷ []) rest)
    (one_by before rest s byte g (judged before s byte (item_in s.phase s.payload byte) refl g) (λ t more. each_from rest (before ++ byte ∷ []) t more))

pub every_input : EveryInputIsOne
every_input bytes = each_from bytes [] at_first nothing_read
