use Rattle.std.proofs.Common.{◌∙◌, sym, ap, nat_eq}
use Rattle.serde_json.proofs.Views.{members_len-members_view}
use Rattle.neutron_json.specs.Bodies.{is_single}
use Rattle.neutron_json.proofs.frame.is_single.Goals as goal

pub returns-in-Some : goal.returns-in-Some
returns-in-Some c =
    ap (λ n. nat_eq n 1) (c.len.ensures.len ∙ sym (members_len-members_view c.in-Some.object.now.entries)) ∙ ap is_single c.in-Some.ensures
