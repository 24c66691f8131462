use Rattle.std.proofs.Common.{◌≡◌, ◌∙◌, Some, ap, subst, sym}
use Rattle.std.specs.Prelude.{option_copied, option_map}
use Rattle.std.specs.HashMap.{get}
use Rattle.std.proofs.Math.Path.{transport}
use Rattle.api_types.specs.Table.{ident_eq}
use Rattle.api_types.specs.declared.group.RuleRow.{RuleRow}
use Rattle.l2_delta.specs.Covers.{Covers, Looked}
use Rattle.l2_delta.proofs.ruled.Ruled.numbers_of.Goals as goal

pub returns-in_ok-from_slice-in-Some : goal.returns-in_ok-from_slice-in-Some
returns-in_ok-from_slice-in-Some c =
    let group = c.args.group in
    let rules = c.self.inside.rules.now in
    let there : get ident_eq c.self.inside.by_group group ≡ Some c.in-Some.numbers.now = sym c.get.ensures.value ∙ ap option_copied c.in-Some.is in
    let covers = subst (λ o. Looked rules group (option_map (λ v. v.items) o)) there (c.self.invariant group) in
    transport (λ j. Covers (λ (r : RuleRow). ident_eq r.group group) (c.self.view_is j) (sym (c.in_ok-from_slice-in-Some.ensures.items ∙ c.as_slice.ensures.value) j)) covers
