use Rattle.std.proofs.Common.{◌∙◌, ◌+◌, ◌*◌, ℕ, ap, length, refl}
use Rattle.text_output.specs.Gathered.{held_of}
use Rattle.mcc_commands.specs.declared.made.Made.{Made}
use Rattle.mcc_commands.proofs.AddLemmas.{begun, captions_done, captions_pass_with, captions_unwritten, made_before, missing_unwritten, was_made}
use Rattle.mcc_commands.proofs.made.Made.add_words.Goals as goal

pub returns-in-Err-clause-adds : goal.returns-in-Err-clause-adds
returns-in-Err-clause-adds g c placed words start frame user has are way =
    let missing = c.args.missing in
    let bytes = c.args.packet.now in
    let many = c.from-many.ensures in
    let size = ap (λ (n : ℕ). n * c.frame_size.result + length bytes) many ∙ ap (λ (f : ℕ). missing.left * f + length bytes) c.frame_size.ensures.is in
    let old : Made = made_before has.before c.args.self.now in
    let made = was_made placed words frame user missing c.args.self.now has in
    let b = begun placed words frame user missing c.args.self.now bytes has are in (
      captions_pass_with placed words old c.args.self.now c.count.new.self frame user missing bytes c.in-Err.which (c.from-many.result * c.frame_size.result + length bytes) c.from-many.result made b
          refl refl size many c.in-Err.ensures,
      way,
    )

pub returns-in-Failed-clause-adds : goal.returns-in-Failed-clause-adds
returns-in-Failed-clause-adds g c placed words start frame user has are way =
    let missing = c.args.missing in
    let bytes = c.args.packet.now in
    let many = c.from-many.ensures in
    let size = ap (λ (n : ℕ). n * c.frame_size.result + length bytes) many ∙ ap (λ (f : ℕ). missing.left * f + length bytes) c.frame_size.ensures.is in
    let old : Made = made_before has.before c.args.self.now in
    let made = was_made placed words frame user missing c.args.self.now has in
    let b = begun placed words frame user missing c.args.self.now bytes has are in
    let counts = c.in_default.ensures in
    missing_unwritten placed words old c.args.self.now c.count.new.self frame user missing bytes (c.from-many.result * c.frame_size.result + length bytes) start _ (held_of c.add_missing.new.text) made b
    refl refl size (counts.0 ∙ ap (λ (n : ℕ). c.args.self.now.frames + (n + 1)) many, counts.1, counts.2) (c.in-Failed.ensures.adds words start way)

pub returns-in-Done-add-clause-adds : goal.returns-in-Done-add-clause-adds
returns-in-Done-add-clause-adds g c placed words start frame user has are way =
    let missing = c.args.missing in
    let bytes = c.args.packet.now in
    let many = c.from-many.ensures in
    let size = ap (λ (n : ℕ). n * c.frame_size.result + length bytes) many ∙ ap (λ (f : ℕ). missing.left * f + length bytes) c.frame_size.ensures.is in
    let old : Made = made_before has.before c.args.self.now in
    let made = was_made placed words frame user missing c.args.self.now has in
    let b = begun placed words frame user missing c.args.self.now bytes has are in
    let counts = c.in_default.ensures in
    captions_done placed words old c.args.self.now c.count.new.self frame user missing bytes (c.from-many.result * c.frame_size.result + length bytes) start _ _ _ (held_of c.add.new.self) made b refl refl
    size (counts.0 ∙ ap (λ (n : ℕ). c.args.self.now.frames + (n + 1)) many, counts.1, counts.2) (c.in-Done.ensures.adds words start way) c.in-Done-add.ensures.bytes

pub returns-in-Failed-add-clause-adds : goal.returns-in-Failed-add-clause-adds
returns-in-Failed-add-clause-adds g c placed words start frame user has are way =
    let missing = c.args.missing in
    let bytes = c.args.packet.now in
    let many = c.from-many.ensures in
    let size = ap (λ (n : ℕ). n * c.frame_size.result + length bytes) many ∙ ap (λ (f : ℕ). missing.left * f + length bytes) c.frame_size.ensures.is in
    let old : Made = made_before has.before c.args.self.now in
    let made = was_made placed words frame user missing c.args.self.now has in
    let b = begun placed words frame user missing c.args.self.now bytes has are in
    let counts = c.in_default.ensures in
    captions_unwritten placed words old c.args.self.now c.count.new.self frame user missing bytes (c.from-many.result * c.frame_size.result + length bytes) start _ _ (held_of c.add_missing.new.text)
    (held_of c.add.new.self) made b refl refl size (counts.0 ∙ ap (λ (n : ℕ). c.args.self.now.frames + (n + 1)) many, counts.1, counts.2) (c.in-Done.ensures.adds words start way)
    c.in-Failed-add.ensures.bytes
