use Rattle.std.proofs.Common.{◌∙◌, ◌++◌, ap, ap₂, codes}
use Rattle.drill_gen.proofs.bodies.frame_body.Goals as goal

pub returns : goal.returns
returns c =
    let mac = c.as_str.ensures ∙ c.in_ok-mac.ensures in
    let address = c.as_str-2.ensures ∙ c.in_ok-address.ensures in
    let id = c.as_str-3.ensures ∙ c.in_ok-id.ensures in
    let one = c.in_ok-push_str.ensures.bytes ∙ ap (λ s. s ++ codes ",\"src\":\"") c.in_ok-body.ensures in
    let two = c.in_ok-push_str-2.ensures.bytes ∙ ap₂ (λ a b. a ++ b) one mac in
    let three = c.in_ok-push_str-3.ensures.bytes ∙ ap (λ s. s ++ codes "\",\"to\":\"") two in
    let four = c.in_ok-push_str-4.ensures.bytes ∙ ap₂ (λ a b. a ++ b) three address in
    let five = c.in_ok-push_str-5.ensures.bytes ∙ ap (λ s. s ++ codes "\",\"ttl\":64},\"port\":\"") four in
    let six = c.in_ok-push_str-6.ensures.bytes ∙ ap₂ (λ a b. a ++ b) five id in
    c.in_ok-push_str-7.ensures.bytes ∙ ap (λ s. s ++ codes "\"}}") six
