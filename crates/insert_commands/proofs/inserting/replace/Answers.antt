use Rattle.std.proofs.Common.{ℕ, ◌+◌, ◌≤◌, length, ap, sym, subst, ◌∙◌}
use Rattle.anc_words.specs.Writing.{packet_bytes}
use Rattle.cc_base.specs.Rate.{rate_code}
use Rattle.findings.specs.declared.finding.Finding.{Finding}
use Rattle.findings.specs.declared.finding.Kind45.TheVariants as kind
use Rattle.packet_inserter.specs.Insertion.{IsInserted}
use Rattle.insert_commands.specs.Captions.{captions_of}
use Rattle.insert_commands.specs.ListCaptions.{GivesCaptions}
use Rattle.insert_commands.proofs.StepLemmas.{same_rate}
use Rattle.insert_commands.proofs.inserting.replace.Goals as goal

pub returns-then-code : goal.returns-then-code
returns-then-code c list bytes earlier last had are sections number gives =
    let expected = c.rate-expected.ensures list (length earlier) gives in
    let seen = c.rate-seen.ensures bytes earlier last had are in (
      λ same. c.if-code.true (c.code.ensures ∙ ap rate_code (seen ∙ same ∙ sym expected) ∙ sym c.code-2.ensures),
      ap (λ (n : ℕ). let f : Finding = record { frame = n; kind = kind.WrongRate c.rate-expected.result c.rate-seen.result } in f) number
          ∙ ap (λ e. let f : Finding = record { frame = length earlier; kind = kind.WrongRate e c.rate-seen.result } in f) expected
          ∙ ap (λ s. let f : Finding = record { frame = length earlier; kind = kind.WrongRate list.rate s } in f) seen,
    )

pub insert-requires-clause-list : goal.insert-requires-clause-list
insert-requires-clause-list c =
    let at = c.requires.frame in
    record { cut = at.last.sections; are = at.sections; joined = sym (c.sections.ensures at.bytes at.earlier at.last at.received at.frames_are) }

pub insert-requires-clause-short : goal.insert-requires-clause-short
insert-requires-clause-short c =
    let at = c.requires.frame in
    subst (λ s. length s ≤ 244) (sym (c.sections.ensures at.bytes at.earlier at.last at.received at.frames_are)) at.short

pub returns-in-Err : goal.returns-in-Err
returns-in-Err c list bytes earlier last had are sections number gives =
    let expected = c.rate-expected.ensures list (length earlier) gives in
    let seen = c.rate-seen.ensures bytes earlier last had are in
    let rate = same_rate c.rate-seen.result c.rate-expected.result (sym c.code.ensures ∙ c.if-code.false ∙ c.code-2.ensures) in
    let (_, (new, inserted, long)) =
    c.in-Err.ensures.limit last
    (record { rate = seen; flags = c.flags.ensures bytes earlier last had are; counter = c.counter.ensures bytes earlier last had are; sections = c.sections.ensures bytes earlier last had are })
    sections in
    let triplets = c.deref.ensures.0 ∙ (c.next-triplets.ensures.gives list (subst (λ n. GivesCaptions list n c.args.captions.now) (sym number) gives)).0 ∙ ap (captions_of list) number in
    (sym seen ∙ rate ∙ expected, (new, subst (λ t. IsInserted t last new) triplets inserted, long))

pub returns : goal.returns
returns c list bytes earlier last had are sections number gives =
    let expected = c.rate-expected.ensures list (length earlier) gives in
    let seen = c.rate-seen.ensures bytes earlier last had are in
    let rate = same_rate c.rate-seen.result c.rate-expected.result (sym c.code.ensures ∙ c.if-code.false ∙ c.code-2.ensures) in
    let (new, inserted, new_are, fits, written) =
    c.in-Ok.ensures.inserted last
    (record { rate = seen; flags = c.flags.ensures bytes earlier last had are; counter = c.counter.ensures bytes earlier last had are; sections = c.sections.ensures bytes earlier last had are })
    sections in
    let given = c.next-triplets.ensures.gives list (subst (λ n. GivesCaptions list n c.args.captions.now) (sym number) gives) in
    let triplets = c.deref.ensures.0 ∙ given.0 ∙ ap (captions_of list) number in (
      sym seen ∙ rate ∙ expected,
      subst (λ n. GivesCaptions list (n + 1) c.next-triplets.new.self) number given.1,
      (new, subst (λ t. IsInserted t last new) triplets inserted, fits, c.write_packet.ensures.bytes ∙ ap (packet_bytes 0x61 0x01) (c.deref-2.ensures.0 ∙ written)),
    )
