use Rattle.std.proofs.Common.{◌≡◌, ◌∙◌, Bool, true, false, ap, sym}
use Rattle.std.specs.Prelude.{◌&&◌}
use Rattle.std.specs.List.{list_all}
use Rattle.api_types.specs.RowLists.{RowLists}
use Rattle.api_types.specs.Consistent.Hosts.{is_host_in}
use Rattle.api_ml2.specs.Carrying.{carries}
use Rattle.api_consistency.specs.Keys.{names_stand, are_in_form, are_ports_sound}
use Rattle.api_consistency.proofs.find.are_rows_sound.Goals as goal

abbrev on_hosts : RowLists → Bool
on_hosts rows = list_all (λ p. list_all (is_host_in rows.subnets p) p.fixed) rows.ports

pub returns-then-are_hosts : goal.returns-then-are_hosts
returns-then-are_hosts c =
    let rows = c.args.known.now in
    let named : names_stand rows ≡ true = sym c.are_named.ensures ∙ c.if-are_named.true in
    let formed : are_in_form rows ≡ true = ap are_in_form (sym c.rows-rows.ensures) ∙ (sym c.are_in_form.ensures ∙ c.if-are_in_form.true) in
    let hosted : on_hosts rows ≡ true = ap on_hosts (sym c.rows-rows.ensures) ∙ (sym c.are_hosts.ensures ∙ c.if-are_hosts.true) in
    c.are_ports_sound.ensures ∙ sym (λ j. named j && (formed j && (hosted j && are_ports_sound (carries c.args.hosts.now) rows)))

pub returns-else-are_hosts : goal.returns-else-are_hosts
returns-else-are_hosts c =
    let rows = c.args.known.now in
    let named : names_stand rows ≡ true = sym c.are_named.ensures ∙ c.if-are_named.true in
    let formed : are_in_form rows ≡ true = ap are_in_form (sym c.rows-rows.ensures) ∙ (sym c.are_in_form.ensures ∙ c.if-are_in_form.true) in
    let unhosted : on_hosts rows ≡ false = ap on_hosts (sym c.rows-rows.ensures) ∙ (sym c.are_hosts.ensures ∙ c.if-are_hosts.false) in
    c.if-are_hosts.false ∙ sym (λ j. named j && (formed j && (unhosted j && are_ports_sound (carries c.args.hosts.now) rows)))
