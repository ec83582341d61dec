use Rattle.std.proofs.Common.{◌≡◌, vec_len}
use Rattle.dtvcc_services.proofs.LeadsLemmas.{AreClean}
use Rattle.dtvcc_services.proofs.services.Services.new.Given as goal

abbrev pub invariant-loop-place : goal.invariant-loop-place
invariant-loop-place l = record {
  are : AreClean l.members.items;
  count : vec_len l.members ≡ l._place;
}
