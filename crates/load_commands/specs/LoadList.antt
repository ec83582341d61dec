-- Believed: the program's answer stands on these definitions.
-- The list of a load: this many captions, in turn pop-on on CC1, in a window of service 1 after a delay of a second, and paint-on
-- on CC3, one every 90 frames at 29.97 frames a second.
use Rattle.std.specs.Prelude.{ℕ, zero, suc, ◌+◌, ◌*◌, ◌%◌, false, List, [], ◌∷◌, map, Some, None}
use Rattle.std.specs.List.{range_with_len}
use Rattle.cc_base.specs.declared.rate.Rate.TheVariants as rate
use Rattle.line21_codes.specs.declared.channels.Chan.TheVariants.{Cc1, Cc3}
use Rattle.line21_codes.specs.declared.styles.Colour.{Colour}
use Rattle.line21_codes.specs.declared.styles.Colour.TheVariants.{White, Yellow}
use Rattle.cue_types.specs.Listing.{Listing}
use Rattle.cue_types.specs.declared.cue.Cue.{Cue}
use Rattle.cue_types.specs.declared.cue.Kind.{Kind}
use Rattle.cue_types.specs.declared.cue.Kind.TheVariants.{Pop, Paint, Win}
use Rattle.cue_types.specs.declared.cue.Pen.TheVariants.{Line21, Dtv}
use Rattle.cue_types.specs.declared.cue.Run.{Run}
use Rattle.cue_types.specs.declared.cue.WinCue.{WinCue}

-- the most captions of a load
abbrev pub most_load : ℕ
most_load = 10000

-- the text of the caption of number k, counted from 0: 20 capital letters, the one at place j that of the number 7 k + 5 j, as A is that
-- of 0, of 26, and so on
abbrev pub load_text : ℕ → List ℕ
load_text k = map (λ j. 65 + (7 * k + 5 * j) % 26) (range_with_len 0 20)

-- a run of line 21 in a row, from a column on, in a colour
abbrev pub line21_run : ℕ → ℕ → Colour → List ℕ → Run
line21_run row col colour text = record {
  row = row;
  col = col;
  pen = Line21 (record { colour = colour; italic = false; underline = false });
  text = text;
  colors = None;
}

-- the window of caption k, after a delay of a second: two rows of 32 columns, under eight numbers one after another
abbrev pub load_window : ℕ → WinCue
load_window k = record {
  service = 1;
  id = k % 8;
  delay = 10;
  anchor = 0;
  av = 60;
  ah = 50;
  rows = 2;
  cols = 32;
  priority = 0;
  ws = 1;
  ps = 1;
  attr = None;
}

-- the kinds of captions take turns: how caption k is shown whose turn this is, and its one run, in a window a plain one at its head
abbrev pub load_shown : ℕ → ℕ → Kind × Run
load_shown k zero = (Pop Cc1, line21_run 14 4 White (load_text k))
load_shown k (suc zero) = (Win (load_window k), record { row = 0; col = 0; pen = Dtv false false; text = load_text k; colors = None })
load_shown k (suc (suc turn)) = (Paint Cc3, line21_run 15 8 Yellow (load_text k))

-- caption k: it is shown two seconds after its LOAD, for three
abbrev pub load_cue : ℕ → Cue
load_cue k = record {
  load = 90 * k;
  show = 90 * k + 60;
  hide = Some (90 * k + 150);
  kind = (load_shown k (k % 3)).0;
  runs = (load_shown k (k % 3)).1 ∷ [];
}

-- the list of this many captions
abbrev pub load_list : ℕ → Listing
load_list count = record {
  rate = rate.F2997;
  frames = 90 * count + 120;
  shares = record { service = 1; bytes = 31 } ∷ [];
  cues = map load_cue (range_with_len 0 count);
}
