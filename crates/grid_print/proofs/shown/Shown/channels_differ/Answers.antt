use Rattle.std.proofs.Common.{◌∙◌, ap}
use Rattle.line21_codes.specs.declared.channels.Chan.TheVariants.{Cc1, Cc2, Cc3, Cc4}
use Rattle.line21_screen.specs.Differences.{grid_differs}
use Rattle.line21_screen.specs.Objects.{grid_in}
use Rattle.grid_print.proofs.shown.Shown.channels_differ.Goals as goal

pub returns : goal.returns
returns g c Cc1 = record {
  differs = c.differs-one.ensures.told ∙ ap (grid_differs (grid_in c.args.self.now.cc1)) c.displayed.ensures;
  same = λ no. c.differs-one.ensures.same no ∙ c.displayed.ensures;
}
returns g c Cc2 = record {
  differs = c.differs-two.ensures.told ∙ ap (grid_differs (grid_in c.args.self.now.cc2)) c.displayed-2.ensures;
  same = λ no. c.differs-two.ensures.same no ∙ c.displayed-2.ensures;
}
returns g c Cc3 = record {
  differs = c.differs-three.ensures.told ∙ ap (grid_differs (grid_in c.args.self.now.cc3)) c.displayed-3.ensures;
  same = λ no. c.differs-three.ensures.same no ∙ c.displayed-3.ensures;
}
returns g c Cc4 = record {
  differs = c.differs-four.ensures.told ∙ ap (grid_differs (grid_in c.args.self.now.cc4)) c.displayed-4.ensures;
  same = λ no. c.differs-four.ensures.same no ∙ c.displayed-4.ensures;
}
