use Rattle.std.proofs.Common.{◌∙◌, ◌++◌, ap, sym, map, length}
use Rattle.std.specs.Prelude.{option_to_list, slice_get}
use Rattle.std.proofs.lemmas.List.{append-nil}
use Rattle.dvr_fabric.proofs.HostLemmas.{nothing_got}
use Rattle.dvr_fabric.proofs.TellsLemmas.{made_by}
use Rattle.dvr_fabric.proofs.run.DvrRun.add_made.Goals as goal

pub returns-in-None-clause-made : goal.returns-in-None-clause-made
returns-in-None-clause-made c =
    sym (ap (λ o. c.args.self.now.made ++ map (made_by c.args.at) (option_to_list o)) (ap (λ es. slice_get es (length c.args.self.now.made)) (sym c.as_slice.ensures) ∙ ap (slice_get c.as_slice.result.now) (sym c.len-place.ensures) ∙ nothing_got c.as_slice.result.now c.len-place.result c.get.result (sym c.copied-made.ensures ∙ c.in-None.is) c.get.ensures.lookup.3) ∙ append-nil c.args.self.now.made)
