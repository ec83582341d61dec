-- Believed: the library's answers stand on these definitions.
-- What a report tells of a status.
use Rattle.std.specs.Prelude.{ℕ, List, ◌++◌, Option, Some, None, codes, drop, length, replicate, take}
use Rattle.cc_base.specs.Rate.{rate_code}
use Rattle.cc_base.specs.Why.{reason_number}
use Rattle.cc_base.specs.declared.limit_of.LimitOf.{LimitOf}
use Rattle.cc_base.specs.declared.limit_of.LimitOf.TheVariants as limit
use Rattle.cc_base.specs.declared.why.Why.{Why}
use Rattle.ccsuite_cli.specs.StatusLine.{status_line}
use Rattle.command_base.specs.StatusCode.{status_code}
use Rattle.command_base.specs.declared.status.Place.{Place}
use Rattle.command_base.specs.declared.status.Place.TheVariants.{Byte, Field}
use Rattle.command_base.specs.declared.status.Status.{Status}
use Rattle.command_base.specs.declared.status.Status.TheVariants as status
use Rattle.findings.specs.Findings.{finding_why}
use Rattle.findings.specs.declared.finding.Finding.{Finding}
use Rattle.findings.specs.declared.finding.Kind45.{Kind45}
use Rattle.findings.specs.declared.finding.Kind45.TheVariants as kind
use Rattle.findings.specs.declared.finding.Which.{Which}
use Rattle.findings.specs.declared.finding.Which.TheVariants as which
use Rattle.findings.specs.declared.misfit.Misfit.{Misfit}
use Rattle.findings.specs.declared.misfit.MisfitKind.{MisfitKind}
use Rattle.findings.specs.declared.misfit.MisfitKind.TheVariants as misfit
use Rattle.line21_codes.specs.declared.channels.Chan.{Chan}
use Rattle.line21_codes.specs.declared.channels.Chan.TheVariants as chan
use Rattle.reported_runs.specs.declared.report.Report.{Report}

abbrev pub limit_number : LimitOf → ℕ
limit_number limit.Bytes = 1
limit_number limit.Frames = 2
limit_number limit.Cues = 3
limit_number limit.Packet = 4
limit_number limit.Day = 5

abbrev pub chan_number : Chan → ℕ
chan_number chan.Cc1 = 1
chan_number chan.Cc2 = 2
chan_number chan.Cc3 = 3
chan_number chan.Cc4 = 4

-- the line of a status, as the program writes it; of an argument that is out of range, and of too little room, a line of its own
abbrev pub line_of : Status → List ℕ
line_of status.Usage = codes "argument out of range\n"
line_of status.WriteFault = codes "too little room\n"
line_of answer = status_line answer

-- a text in so much room, and zeros after it
abbrev pub padded : ℕ → List ℕ → List ℕ
padded room text = text ++ drop (length text) (replicate room 0)

unfoldable pub text_of : Status → List ℕ
text_of answer = padded 160 (take 159 (line_of answer))

-- a status's code and its line, and no number that it carries
abbrev pub blank : Status → ℕ → Report
blank answer count =
    record {
      status = status_code answer;
      why = 0;
      limit = 0;
      misfit = 0;
      rec = 0;
      field = 0;
      cue = 0;
      other = 0;
      packet = 0;
      frame = 0;
      channel = 0;
      service = 0;
      expected = 0;
      seen = 0;
      place = 0;
      written = count;
      wanted = 0;
      reserved = replicate 7 0;
      text = text_of answer;
    }

abbrev pub with_place : Place → Why → Report → Report
with_place (Byte byte) reason r = record r { why = reason_number reason; place = byte }
with_place (Field number field) reason r = record r { why = reason_number reason; rec = number; field = field }

abbrev pub number_or_none : Option ℕ → ℕ
number_or_none None = 0
number_or_none (Some n) = n

-- what is wanted, and what there is in its place
abbrev pub with_seen : ℕ → ℕ → Report → Report
with_seen wanted found r = record r { expected = wanted; seen = found }

-- the channel or the service that shows something else
abbrev pub with_which : Which → Report → Report
with_which (which.Chan chan) r = record r { channel = chan_number chan }
with_which (which.Service number) r = record r { service = number }

abbrev pub with_kind : Kind45 → Report → Report
with_kind (kind.CounterJump wanted found) r = with_seen wanted found r
with_kind (kind.WrongCount wanted found) r = with_seen wanted found r
with_kind (kind.WrongRate wanted found) r = with_seen (rate_code wanted) (rate_code found) r
with_kind (kind.BufferFull number) r = record r { service = number }
with_kind (kind.GridDiffers which) r = with_which which r
with_kind (kind.TwoPairs found) r = with_seen 1 found r
with_kind kind.EightBits r = r

abbrev pub with_finding : Finding → Report → Report
with_finding finding r = with_kind finding.kind (record r { frame = finding.frame; why = reason_number (finding_why finding.kind) })

-- the number of a misfit, and what was seen
abbrev pub with_misfit_kind : MisfitKind → Report → Report
with_misfit_kind (misfit.Rate code) r = record r { misfit = 1; seen = code }
with_misfit_kind (misfit.Count found) r = record r { misfit = 2; seen = found }
with_misfit_kind (misfit.One found) r = record r { misfit = 3; seen = found }
with_misfit_kind (misfit.Two found) r = record r { misfit = 4; seen = found }
with_misfit_kind (misfit.Many found) r = record r { misfit = 5; seen = found }
with_misfit_kind (misfit.Changed which) r = with_which which (record r { misfit = 6 })

abbrev pub with_misfit : Misfit → Report → Report
with_misfit found r = with_misfit_kind found.kind (record r { frame = found.frame })

-- the report of a status, where this many bytes stand in the output
abbrev pub report_of : Status → ℕ → Report
report_of (status.Limit which) count = record (blank (status.Limit which) count) { limit = limit_number which }
report_of (status.Malformed place reason) count = with_place place reason (blank (status.Malformed place reason) count)
report_of (status.Rule fault) count =
    record (blank (status.Rule fault) count) { why = reason_number fault.why; cue = fault.cue; other = number_or_none fault.other }
report_of (status.NoRoom number) count = record (blank (status.NoRoom number) count) { cue = number }
report_of (status.Differs finding) count = with_finding finding (blank (status.Differs finding) count)
report_of (status.Short frames) count = record (blank (status.Short frames) count) { frame = frames }
report_of (status.NoRoomBeside number) count = record (blank (status.NoRoomBeside number) count) { cue = number }
report_of (status.NoXdsRoom number) count = record (blank (status.NoXdsRoom number) count) { packet = number }
report_of (status.Misfit found) count = with_misfit found (blank (status.Misfit found) count)
report_of answer count = blank answer count

-- the report of a run that wrote more bytes than there is room for, with which the output is full
abbrev pub report_of_room : ℕ → ℕ → Report
report_of_room bytes count = record (report_of status.WriteFault count) { wanted = bytes }
