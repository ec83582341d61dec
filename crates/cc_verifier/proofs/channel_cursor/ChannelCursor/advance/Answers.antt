use Rattle.std.proofs.Common.{◌≡◌, ◌+◌, ◌≤◌, ◌∙◌, arith, sym, subst}
use Rattle.cue_lists.specs.AuthoredGrid.{shown_of_newest}
use Rattle.cc_verifier.specs.ChannelCursors.{StandsAtFrame}
use Rattle.cc_verifier.specs.ChannelNewest.{newest}
use Rattle.cc_verifier.specs.declared.channel_cursor.ChannelCursor.{ChannelCursor}
use Rattle.cc_verifier.proofs.ChannelCursorLemmas.{come_later}
use Rattle.cc_verifier.proofs.ChannelLineLemmas.{authored_is}
use Rattle.cc_verifier.proofs.channel_cursor.ChannelCursor.advance.Goals as goal

pub pass-requires : goal.pass-requires
pass-requires c =
    let former = c.requires.stands.0 in
    let next : c.args.frame ≡ former + 1 = c.requires.stands.1 in
    let stands : StandsAtFrame c.args.cues.now former c.args.self.now = c.requires.stands.2 in
    let le : former ≤ c.args.frame = omega arith in
    record {
      within = stands.passed.within;
      last = stands.passed.last;
      come = come_later former c.args.frame _ le stands.passed.come;
    }

pub returns-else-next-self-clause-same : goal.returns-else-next-self-clause-same
returns-else-next-self-clause-same c former is unhidden =
    let was = c.requires.stands.0 in
    let next : c.args.frame ≡ was + 1 = c.requires.stands.1 in
    let same_former : was ≡ former = omega arith in
    let stood : StandsAtFrame c.args.cues.now former c.args.self.now = subst (λ f. StandsAtFrame c.args.cues.now f c.args.self.now) same_former c.requires.stands.2 in
    let same = c.pass.ensures.same (sym c.if-next-self.false) in
    let stands : StandsAtFrame c.args.cues.now c.args.frame c.args.self.now = subst (StandsAtFrame c.args.cues.now c.args.frame) same c.pass.ensures.stands in
    authored_is c.args.cues.now c.args.frame c.args.self.now c.requires.timed stands
    ∙ subst (λ (x : ChannelCursor). shown_of_newest c.args.frame (newest x.channel c.args.cues.now x.next) ≡ shown_of_newest former (newest x.channel c.args.cues.now x.next))
    same (c.hides_at.ensures unhidden former is)
    ∙ sym (authored_is c.args.cues.now former c.args.self.now c.requires.timed stood)
