use Rattle.std.proofs.Common.{◌∙◌, ◌<◌, arith, false, sym}
use Rattle.std.proofs.lemmas.List.{length-replicate}
use Rattle.api_ipam.proofs.LeastLemmas.{new_mark}
use Rattle.api_ipam.proofs.macs.count_held.Goals as goal

pub returns-clause-held : goal.returns-clause-held
returns-clause-held c = λ k less.
    let long = length-replicate 1024 false in
    let below : k < 1024 = omega (arith, less, c.count_marked.ensures.within, c.mark_ports.ensures.length, long) in
    sym (new_mark 1024 k _ _ below (c.mark_ports.ensures.marked k (omega (arith, below, long)))) ∙ c.count_marked.ensures.marked k less

pub returns-clause-free : goal.returns-clause-free
returns-clause-free c = λ below.
    let long = length-replicate 1024 false in
    let k = c.count_marked.result in
    sym (new_mark 1024 k _ _ below (c.mark_ports.ensures.marked k (omega (arith, below, long)))) ∙ c.count_marked.ensures.stops
