use Rattle.std.proofs.Common.{◌≡◌, subst, sym, Some, None}
use Rattle.std.specs.Prelude.{slice_get}
use Rattle.scc_commands.specs.Export.{pairs_of}
use Rattle.scc_commands.proofs.FrameLemmas.{frame_past, frame_silent, frame_unwritten, frame_written}
use Rattle.scc_commands.proofs.WrittenLemmas.{first_pair, no_pair}
use Rattle.scc_commands.proofs.exporting.ExportingPerFrame.frame.Goals as goal

pub returns-in_default-first-clause-makes : goal.returns-in_default-first-clause-makes
returns-in_default-first-clause-makes g c time start bytes frames last stands way had are number =
    let pairs = c.pairs_one.ensures bytes frames last had are in
    let none : slice_get (pairs_of last) 0 ≡ None = sym (subst (λ l. None ≡ slice_get l 0) pairs c.in_default-first.ensures.value) in
    frame_silent time start _ _ frames last c.args.self.now (c.in_default.ensures bytes frames last had are) (no_pair last none) stands way

pub returns-in_default-piece-clause-makes : goal.returns-in_default-piece-clause-makes
returns-in_default-piece-clause-makes g c time start bytes frames last stands way had are number =
    let pairs = c.pairs_one.ensures bytes frames last had are in
    let no_finding = c.in_default.ensures bytes frames last had are in
    let first : slice_get (pairs_of last) 0 ≡ Some c.in-Some-first.pair.now = sym (subst (λ l. Some c.in-Some-first.pair.now ≡ slice_get l 0) pairs c.in-Some-first.ensures.value) in (
      frame_past time frames last c.args.self.now (record { writer = c.piece.new.self }) c.in-Some-first.pair.now c.args.number no_finding
          (first_pair last c.in-Some-first.pair.now no_finding first) stands number c.in_default-piece.ensures,
      way,
    )

pub returns-in-Done-clause-makes : goal.returns-in-Done-clause-makes
returns-in-Done-clause-makes g c time start bytes frames last stands way had are number =
    let pairs = c.pairs_one.ensures bytes frames last had are in
    let no_finding = c.in_default.ensures bytes frames last had are in
    let first : slice_get (pairs_of last) 0 ≡ Some c.in-Some-first.pair.now = sym (subst (λ l. Some c.in-Some-first.pair.now ≡ slice_get l 0) pairs c.in-Some-first.ensures.value) in
    frame_written time start _ _ _ _ frames last c.args.self.now (record { writer = c.piece.new.self }) c.in-Some-first.pair.now c.args.number c.in-Some-piece.piece.items no_finding
    (first_pair last c.in-Some-first.pair.now no_finding first) stands number c.in-Some-piece.ensures way (rw c.deref.ensures.0 at c.in-Done.ensures.bytes)

pub returns-in-Failed-clause-makes : goal.returns-in-Failed-clause-makes
returns-in-Failed-clause-makes g c time start bytes frames last stands way had are number =
    let pairs = c.pairs_one.ensures bytes frames last had are in
    let no_finding = c.in_default.ensures bytes frames last had are in
    let first : slice_get (pairs_of last) 0 ≡ Some c.in-Some-first.pair.now = sym (subst (λ l. Some c.in-Some-first.pair.now ≡ slice_get l 0) pairs c.in-Some-first.ensures.value) in
    frame_unwritten time start _ _ _ frames last c.args.self.now (record { writer = c.piece.new.self }) c.in-Some-first.pair.now c.args.number c.in-Some-piece.piece.items no_finding
    (first_pair last c.in-Some-first.pair.now no_finding first) stands number c.in-Some-piece.ensures way c.in-Failed.ensures.bytes
