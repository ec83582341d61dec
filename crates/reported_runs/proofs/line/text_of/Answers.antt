use Rattle.std.proofs.Common.{◌∙◌, ◌≤◌, ap, length, subst, sym, ℕ, List, []}
use Rattle.std.specs.Prelude.{Some}
use Rattle.cc_base.specs.Streams.{Puts}
use Rattle.reported_runs.specs.Reports.{line_of, padded, text_of}
use Rattle.reported_runs.proofs.LineLemmas.{front}
use Rattle.reported_runs.proofs.line.text_of.Goals as goal

pub returns : goal.returns
unfolding text_of
returns c =
    let line = c.put_line.new.out in
    let few : length line.bytes.items ≤ 159 = subst (λ (l : List ℕ). length l ≤ 159) c.as_slice.ensures.value c.as_slice.ensures.fits in
    let puts : Puts (Some []) (Some line.bytes.items) c.put_line.result (line_of c.args.status) =
    subst (λ (l : List ℕ). Puts (Some l) (Some line.bytes.items) c.put_line.result (line_of c.args.status)) c.new.ensures c.put_line.ensures.bytes in
    c.padded.ensures ∙ ap (padded 160) (c.as_slice.ensures.value
    ∙ sym (front (line_of c.args.status) line.bytes.items line.faults c.put_line.result puts c.put_line.ensures.cause line.full few))
