use Rattle.std.proofs.Common.{◌∙◌, sym, ap, nat_eq}
use Rattle.serde_json.proofs.Views.{members_len-members_view}
use Rattle.json_values.specs.Grammars.{is_empty}
use Rattle.json_values.proofs.object.is_empty_object.Goals as goal

pub returns-in-Some : goal.returns-in-Some
returns-in-Some c =
    ap (λ n. nat_eq n 0) (c.len.ensures.len ∙ sym (members_len-members_view c.in-Some.object.now.entries)) ∙ ap is_empty c.in-Some.ensures
