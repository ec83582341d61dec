use Rattle.std.proofs.Common.{◌∙◌, ◌++◌, ◌∷◌, [], arith}
use Rattle.cc_base.specs.declared.rate.Rate.TheVariants.{F5994}
use Rattle.services_files.specs.CarriedChannel.{file_triplets}
use Rattle.rate_convert.proofs.ServedLemmas.{first_heard, neither, served_more, untouched}
use Rattle.rate_convert.proofs.halves.Halves.serve.Goals as goal

pub returns-clause-served : goal.returns-clause-served
returns-clause-served c = λ frames one two next.
    let few = next.few in
    let counted = c.frame.ensures.frames (omega (arith, few)) in
    served_more (frames ++ one ∷ []) two F5994 c.args.self.now.second c.frame.new.self c.frame-2.new.self next.rate_two next.second_are
    c.frame-2.ensures.served (omega (arith, few, counted)) next.heard
    (served_more frames one F5994 c.args.self.now.first c.args.served.now c.frame.new.self next.rate_one next.first_are c.frame.ensures.served (omega (arith, few))
    (first_heard frames c.args.served.now c.args.self.now.first c.args.self.now.second one two next) next.took)

pub returns-clause-same : goal.returns-clause-same
returns-clause-same c = λ frames one two next none service id is.
    let few = next.few in
    let counted = c.frame.ensures.frames (omega (arith, few)) in
    let first = served_more frames one F5994 c.args.self.now.first c.args.served.now c.frame.new.self next.rate_one next.first_are c.frame.ensures.served (omega (arith, few))
    (first_heard frames c.args.served.now c.args.self.now.first c.args.self.now.second one two next) next.took in
    let second = served_more (frames ++ one ∷ []) two F5994 c.args.self.now.second c.frame.new.self c.frame-2.new.self next.rate_two next.second_are
    c.frame-2.ensures.served (omega (arith, few, counted)) next.heard first in
    let w = neither c.is_touched-first.result c.is_touched-second.result none in
    untouched (frames ++ one ∷ []) two c.frame-2.new.self second
    (c.is_touched-second.ensures (file_triplets ((frames ++ one ∷ []) ++ two ∷ [])) second.earlier second.last second.has w.1) service id is
    ∙ untouched frames one c.frame.new.self first (c.is_touched-first.ensures (file_triplets (frames ++ one ∷ [])) first.earlier first.last first.has w.0) service id is

pub returns-clause-ticks : goal.returns-clause-ticks
returns-clause-ticks c = λ few.
    let one = c.frame.ensures.frames (omega (arith, few)) in
    let two = c.frame-2.ensures.frames (omega (arith, few, one)) in
    omega (arith, one, two)
