use Rattle.std.proofs.Common.{◌∙◌, ◌++◌, ap, ap₂, codes}
use Rattle.drill_gen.specs.Stream.{request}
use Rattle.drill_gen.proofs.stream.network_requests.Goals as goal

pub returns : goal.returns
returns c =
    let second = c.as_slice.ensures.value ∙ c.in_ok-second.ensures ∙ ap (request (codes "/v2.0/subnets")) (c.as_str.ensures.value ∙ c.in_ok-subnet.ensures) in
    c.in_ok-extend_from_slice.ensures.items ∙ ap₂ (λ a b. a ++ b) c.in_ok-bytes.ensures second
