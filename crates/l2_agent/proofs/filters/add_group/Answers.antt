use Rattle.std.proofs.Common.{◌∙◌, ◌++◌, ap, map, sym}
use Rattle.std.proofs.lemmas.List.{append-nil}
use Rattle.plane_types.specs.TableRows.{filter_of}
use Rattle.l2_agent.proofs.RuledLemmas.{rows_of_rules}
use Rattle.l2_agent.proofs.filters.add_group.Goals as goal

pub returns-in-None : goal.returns-in-None
returns-in-None c =
    let filters = c.args.filters.now in
    let port = c.args.port.now in
    sym (append-nil filters) ∙ ap (λ xs. filters ++ xs) (ap (map (filter_of port)) c.in-None.ensures ∙ rows_of_rules port c.args.group.now c.args.ruled.now.rules)
