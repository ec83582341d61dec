use Rattle.std.proofs.Common.{◌≡◌, Err, ap, ◌∙◌, rules}
use Rattle.csv.specs.Records.{fields_of}
use Rattle.cue_form.specs.Begun.{Begun}
use Rattle.cue_form.specs.Judgements.{room_at}
use Rattle.cue_form.specs.Reading.{share_record_of}
use Rattle.cue_form.proofs.Goodness.{refused_part}
use Rattle.cue_form.proofs.draft.Draft.add_share.Goals as goal

pub returns-in_err-share : goal.returns-in_err-share
returns-in_err-share c =
    let shares : c.deref.result.now ≡ c.args.self.now.shares = c.deref.ensures.value ∙ ap (λ (b : Begun). b.shares) c.self.view_is in
    let given : Err c.in_err-share.field-0.0 ≡ share_record_of (room_at c.args.self.now.head) c.args.self.now.shares (fields_of c.args.row.now) =
    rw (← c.room.ensures.room, ← shares) c.in_err-share.ensures in
    let answer : c.from_residual.result ≡ Err c.in_err-share.field-0.0 = search rules in
    rw answer (refused_part (share_record_of (room_at c.args.self.now.head) c.args.self.now.shares (fields_of c.args.row.now)) _ c.in_err-share.field-0.0 given)
