-- Believed: the program's answer stands on these definitions.
-- The layers above distribution packets (CTA-708-E, sections 5 and 6): they take frames that carry a caption channel. Of other frames they
-- refuse a header of a service block that passes its packet, and nothing before it.
use Rattle.std.specs.Prelude.{◌≡◌}
use Rattle.cc_base.specs.declared.why.Why.TheVariants as why
use Rattle.services_files.specs.Overruns.{HaveOverrun}
use Rattle.services_files.specs.CarriedChannel.{CarryChannel, file_triplets}
use Rattle.words_files.specs.Layers.{Layers}

abbrev pub caption_channel : Layers
caption_channel = record {
  Take = CarryChannel;
  Refuse = λ frames reason. (reason ≡ why.Overrun) × HaveOverrun (file_triplets frames);
}
