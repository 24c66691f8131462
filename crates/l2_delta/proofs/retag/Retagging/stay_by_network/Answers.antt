use Rattle.std.proofs.Common.{rules, ◌≡◌, ◌∙◌, option_copied, sym}
use Rattle.std.proofs.Math.Path.{transport}
use Rattle.api_types.proofs.ListLemmas.{false_true}
use Rattle.api_types.specs.RowsWith.{network_with}
use Rattle.l2_delta.specs.TagsStay.{IsAsUp}
use Rattle.l2_delta.proofs.retag.Retagging.stay_by_network.Goals as goal

pub returns-then-not-has_tag : goal.returns-then-not-has_tag
returns-then-not-has_tag c = λ not.
    let r = c.args.self.now in
    let w = c.in-Some.old.now in
    let was : option_copied c.get-before.result ≡ network_with r.before.now w.id = search rules in
    let is : option_copied c.get-after.result ≡ network_with r.after.now w.id = search rules in
    rw c.in-Some.is (record {
      tagged = λ has. false_true _ (sym c.if-not-has_tag.true ∙ c.has_tag.ensures.1 has);
      up = transport (λ j. IsAsUp (was j) (is j)) (c.is_as_up.ensures.0 c.if-is_as_up.true);
    })

pub returns-else-not-has_tag : goal.returns-else-not-has_tag
returns-else-not-has_tag c = λ carries.
    let r = c.args.self.now in
    let w = c.in-Some.old.now in
    let was : option_copied c.get-before.result ≡ network_with r.before.now w.id = search rules in
    let is : option_copied c.get-after.result ≡ network_with r.after.now w.id = search rules in
    rw c.in-Some.is (record {
      tagged = λ has. c.carries_on.ensures.0 carries;
      up = transport (λ j. IsAsUp (was j) (is j)) (c.is_as_up.ensures.0 c.if-is_as_up.true);
    })
