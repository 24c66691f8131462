use Rattle.std.proofs.Common.{◌∙◌, ap, sym, [], Option, not}
use Rattle.std.specs.List.{filter_map}
use Rattle.net_addr.specs.declared.address.Addr.{Addr}
use Rattle.api_types.specs.Given.{value_or}
use Rattle.api_types.specs.Lists.{is_empty}
use Rattle.api_types.specs.declared.form.FixedAsked.{FixedAsked}
use Rattle.api_policy.proofs.EmptyLemmas.{some_kept}
use Rattle.api_policy.proofs.reserved.names_address.Goals as goal

pub returns-in-Is : goal.returns-in-Is
returns-in-Is c =
    let address : FixedAsked → Option Addr = λ item. item.address in
    c.is_address_named.ensures ∙ (some_kept address c.as_slice.result.now
    ∙ (ap (λ items. not (is_empty (filter_map address items))) c.as_slice.ensures
    ∙ ap (λ fixed. not (is_empty (filter_map address (value_or [] fixed)))) (sym c.in-Is.is)))
