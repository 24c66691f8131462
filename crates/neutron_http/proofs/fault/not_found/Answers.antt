use Rattle.std.proofs.Common.{◌∙◌, ◌++◌, [], ap₂, codes}
use Rattle.neutron_http.proofs.MessageLemmas.{around_two}
use Rattle.neutron_http.proofs.fault.not_found.Goals as goal

pub returns : goal.returns
returns c = c.from_string.ensures ∙ c.in_ok-format.ensures.ok
    ∙ ap₂ (λ k t. k ++ (codes " " ++ (t ++ codes " could not be found."))) c.as_str-kind.ensures c.as_str-text.ensures
    ∙ around_two [] c.args.kind.now (codes " ") c.args.text.now (codes " could not be found.")
