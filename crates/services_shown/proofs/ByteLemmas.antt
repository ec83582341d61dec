-- The service blocks of a list are bytes.
use Rattle.std.proofs.Common.{◌≡◌, ℕ, suc, ◌+◌, ◌*◌, ◌<◌, ◌≤◌, ◌==◌, Bool, true, false, if◌then◌else◌, List, [], ◌∷◌, ◌++◌, Option, Some, None, All, length, refl, sym, subst, arith, map}
use Rattle.std.specs.Prelude.{nat_lt}
use Rattle.std.specs.List.{cons_option, flat_map, list_any, zip}
use Rattle.std.proofs.lemmas.Bool.Decides.{nat_tests}
use Rattle.std.proofs.lemmas.List.Elements.{All-append, All-cons, All-head, All-nil, All-tail}
use Rattle.cc_base.specs.declared.rate.Rate.{Rate}
use Rattle.line21_shown.specs.Cues.{IsCueFormed, IsOfKind}
use Rattle.line21_shown.specs.Cue.{Cue}
use Rattle.line21_shown.specs.Kind.{Kind}
use Rattle.line21_shown.specs.Kind.TheVariants.{Pop, Paint, Roll, Win}
use Rattle.line21_shown.specs.WinCue.{WinCue}
use Rattle.dtvcc_codes.specs.declared.commands.Command.{Command}
use Rattle.dtvcc_codes.specs.declared.commands.Command.TheVariants.{Dlw, Dly, Dsw}
use Rattle.dtvcc_codes.specs.Spellable.{IsSpellable, is_skipped}
use Rattle.dtvcc_codes.specs.Writing.{bit, bytes_of_command}
use Rattle.dtvcc_codes.proofs.WrittenLemmas.{written_are_bytes}
use Rattle.dtvcc_author.specs.Captions.{caption_of, caption_with, service_captions, window_caption}
use Rattle.dtvcc_author.specs.CueUnits.{IsWritable, window_cue_units}
use Rattle.dtvcc_author.specs.WindowCommands.{commands_of}
use Rattle.dtvcc_author.specs.FrameEvents.{delay_commands, delayed_at, event_bytes, event_commands, is_delayed_at, is_hidden_at, is_shown_at, names, windows_byte, windows_command}
use Rattle.dtvcc_author.specs.declared.caption.Caption.{Caption}
use Rattle.dtvcc_author.proofs.WritableLemmas.{commands_writable}
use Rattle.frame_carrier.specs.ServiceBytes.{bytes_in, loads_at}
use Rattle.frame_carrier.specs.ServiceChunks.{chunk_of, chunks_with, service_chunks, service_chunks_from}
use Rattle.frame_carrier.specs.Chunks.{ServiceChunk}
use Rattle.frame_carrier.specs.Blocks.{service_block}

-- a byte
abbrev pub IsByte : ℕ → Type 0
IsByte byte = byte < 256

-- what is written of commands that have bytes is these
written_bytes : (commands : List Command) → All IsWritable commands → All IsByte (flat_map bytes_of_command commands)
written_bytes [] all = All-nil IsByte
written_bytes (command ∷ commands) all =
    All-append IsByte (bytes_of_command command) (flat_map bytes_of_command commands) (written_are_bytes command (All-head IsWritable command commands all).spellable)
    (written_bytes commands (All-tail IsWritable command commands all))

-- a byte of windows is one
bit_most : (on : Bool) (value : ℕ) → bit on value ≤ value
bit_most true value = omega arith
bit_most false value = omega arith

windows_are_byte : (named : ℕ → Bool) → windows_byte named < 256
windows_are_byte named =
    let a = bit_most (named 0) 1 in
    let b = bit_most (named 1) 2 in
    let c = bit_most (named 2) 4 in
    let d = bit_most (named 3) 8 in
    let e = bit_most (named 4) 16 in
    let f = bit_most (named 5) 32 in
    let g = bit_most (named 6) 64 in
    let h = bit_most (named 7) 128 in
    omega (arith, a, b, c, d, e, f, g, h)

one_command : (command : Command) → IsSpellable command → is_skipped command ≡ false → All IsWritable (command ∷ [])
one_command command is unskipped = All-cons IsWritable command [] (record { spellable = is; unskipped = unskipped }) (All-nil IsWritable)

dlw_writable : (test : Caption → Bool) (cs : List Caption) → All IsWritable (windows_command Dlw test cs)
dlw_writable test cs = at (list_any test cs)
  where
    at : (b : Bool) → All IsWritable (if b then Dlw (windows_byte (names test cs)) ∷ [] else [])
    at true = one_command (Dlw (windows_byte (names test cs))) (windows_are_byte (names test cs)) refl
    at false = All-nil IsWritable

dsw_writable : (test : Caption → Bool) (cs : List Caption) → All IsWritable (windows_command Dsw test cs)
dsw_writable test cs = at (list_any test cs)
  where
    at : (b : Bool) → All IsWritable (if b then Dsw (windows_byte (names test cs)) ∷ [] else [])
    at true = one_command (Dsw (windows_byte (names test cs))) (windows_are_byte (names test cs)) refl
    at false = All-nil IsWritable

-- a DELAY is a byte
abbrev pub IsShort : Caption → Type 0
IsShort c = c.tenths < 256

delay_writable : (frame : ℕ) (cs : List Caption) → All IsShort cs → All IsWritable (delay_commands (delayed_at frame cs))
delay_writable frame [] all = All-nil IsWritable
delay_writable frame (c ∷ cs) all = at (is_delayed_at frame c) (delay_writable frame cs (All-tail IsShort c cs all))
  where
    at : (b : Bool) → All IsWritable (delay_commands (delayed_at frame cs)) → All IsWritable (delay_commands (if b then Some c else delayed_at frame cs))
    at true rest =
        All-append IsWritable (Dly c.tenths ∷ []) (Dsw (windows_byte (λ id. c.id == id)) ∷ [])
        (one_command (Dly c.tenths) (All-head IsShort c cs all) refl)
        (one_command (Dsw (windows_byte (λ id. c.id == id))) (windows_are_byte (λ id. c.id == id)) refl)
    at false rest = rest

-- the events of a frame have bytes
pub events_writable : (frame : ℕ) (cs : List Caption) → All IsShort cs → All IsWritable (event_commands frame cs)
events_writable frame cs short =
    All-append IsWritable (windows_command Dlw (is_hidden_at frame) cs ++ windows_command Dsw (is_shown_at frame) cs) (delay_commands (delayed_at frame cs))
    (All-append IsWritable (windows_command Dlw (is_hidden_at frame) cs) (windows_command Dsw (is_shown_at frame) cs)
    (dlw_writable (is_hidden_at frame) cs) (dsw_writable (is_shown_at frame) cs))
    (delay_writable frame cs short)

events_are_bytes : (frame : ℕ) (cs : List Caption) → All IsShort cs → All IsByte (event_bytes frame cs)
events_are_bytes frame cs short = written_bytes (event_commands frame cs) (events_writable frame cs short)

-- the captions of formed cues
pub captions_short : (r : Rate) (service : ℕ) (cues : List Cue) → All IsCueFormed cues → All IsShort (service_captions r service cues)
captions_short r service [] formed = All-nil IsShort
captions_short r service (cue ∷ cues) formed =
    at cue.kind (All-head IsCueFormed cue cues formed).kind (captions_short r service cues (All-tail IsCueFormed cue cues formed))
  where
    more : (w : WinCue) (b : Bool) → w.delay < 256 → All IsShort (service_captions r service cues)
        → All IsShort (cons_option (if b then Some (window_caption r w cue) else None) (service_captions r service cues))
    more w true short rest = All-cons IsShort (window_caption r w cue) (service_captions r service cues) short rest
    more w false short rest = rest

    at : (k : Kind) → IsOfKind k cue.hide cue.runs → All IsShort (service_captions r service cues)
        → All IsShort (cons_option (caption_with r service k cue) (service_captions r service cues))
    at (Pop channel) is rest = rest
    at (Paint channel) is rest = rest
    at (Roll channel rows) is rest = rest
    at (Win w) is rest = more w (w.service == service) (omega (arith, is.0.delay)) rest

-- the units of formed cues are bytes
abbrev IsOfBytes : ServiceChunk → Type 0
IsOfBytes chunk = All IsByte chunk.unit

units_are_bytes : (number : ℕ) (c : Caption) (commands : List Command) → All IsWritable commands → All IsOfBytes (map (chunk_of number c) (map bytes_of_command commands))
units_are_bytes number c [] all = All-nil IsOfBytes
units_are_bytes number c (command ∷ commands) all =
    All-cons IsOfBytes (chunk_of number c (bytes_of_command command)) (map (chunk_of number c) (map bytes_of_command commands))
    (written_are_bytes command (All-head IsWritable command commands all).spellable)
    (units_are_bytes number c commands (All-tail IsWritable command commands all))

chunks_are_bytes : (r : Rate) (service number : ℕ) (cues : List Cue) → All IsCueFormed cues → All IsOfBytes (service_chunks_from r service number cues)
chunks_are_bytes r service number [] formed = All-nil IsOfBytes
chunks_are_bytes r service number (cue ∷ cues) formed =
    All-append IsOfBytes (chunks_with number (caption_of r service cue) (window_cue_units cue)) (service_chunks_from r service (suc number) cues)
    (own (caption_of r service cue))
    (chunks_are_bytes r service (suc number) cues (All-tail IsCueFormed cue cues formed))
  where
    own : (c : Option Caption) → All IsOfBytes (chunks_with number c (window_cue_units cue))
    own None = All-nil IsOfBytes
    own (Some c) = units_are_bytes number c (commands_of cue) (commands_writable cue (All-head IsCueFormed cue cues formed))

loads_are_bytes : (us : List ServiceChunk) (frames : List ℕ) (frame : ℕ) → All IsOfBytes us → All IsByte (loads_at (zip us frames) frame)
loads_are_bytes [] frames frame all = All-nil IsByte
loads_are_bytes (u ∷ us) [] frame all = All-nil IsByte
loads_are_bytes (u ∷ us) (f ∷ fs) frame all =
    All-append IsByte (if f == frame then u.unit else []) (loads_at (zip us fs) frame) (at (f == frame))
    (loads_are_bytes us fs frame (All-tail IsOfBytes u us all))
  where
    at : (b : Bool) → All IsByte (if b then u.unit else [])
    at true = All-head IsOfBytes u us all
    at false = All-nil IsByte

-- the bytes of a service are bytes
pub service_are_bytes : (r : Rate) (service : ℕ) (cues : List Cue) (frames : List ℕ) (frame : ℕ) → All IsCueFormed cues
    → All IsByte (bytes_in (service_captions r service cues) (zip (service_chunks r service cues) frames) frame)
service_are_bytes r service cues frames frame formed =
    All-append IsByte (event_bytes frame (service_captions r service cues)) (loads_at (zip (service_chunks r service cues) frames) frame)
    (events_are_bytes frame (service_captions r service cues) (captions_short r service cues formed))
    (loads_are_bytes (service_chunks r service cues) frames frame (chunks_are_bytes r service 1 cues formed))

-- so is a block of them
pub block_are_bytes : (service : ℕ) (bytes : List ℕ) → service ≤ 6 → length bytes ≤ 31 → All IsByte bytes → All IsByte (service_block service bytes)
block_are_bytes service [] small few all = All-nil IsByte
block_are_bytes service (byte ∷ bytes) small few all =
    let low : nat_lt service 7 ≡ true = grind (arith, nat_tests) in
    let is : service_block service (byte ∷ bytes) ≡ (32 * service + length (byte ∷ bytes)) ∷ byte ∷ bytes = rw low refl in
    subst (All IsByte) (sym is) (All-cons IsByte (32 * service + length (byte ∷ bytes)) (byte ∷ bytes) (omega (arith, small, few)) all)
