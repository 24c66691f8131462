use Rattle.std.proofs.Common.{◌≡◌, ◌∙◌, ◌++◌, List, ap, map}
use Rattle.api_types.specs.declared.port.PortRow.{PortRow}
use Rattle.std.proofs.lemmas.Result.{IfOk-weaker}
use Rattle.l2_delta.proofs.SetGroups.{numbers_named, touched}
use Rattle.l2_delta.proofs.named_sets.touched_numbers.Goals as goal

pub returns-clause-touched : goal.returns-clause-touched
returns-clause-touched c =
    let groups = c.args.groups.now in
    let were : List PortRow = map (λ p. p.now) c.args.were.now in
    let are : List PortRow = map (λ p. p.now) c.args.are.now in
    let named = c.named.result.now in
    let first : c.add_named-2.new.numbers.items ≡ (named ++ numbers_named groups.rows were) ++ numbers_named groups.rows are =
    c.in_ok-add_named-2.ensures
    ∙ ap (λ l. l ++ numbers_named groups.rows are)
    (c.in_ok-add_named.ensures ∙ ap (λ l. l ++ numbers_named groups.rows were) (c.in_ok-add_numbers.ensures ∙ ap (λ l. l ++ named) c.new-numbers.ensures.items)) in
    IfOk-weaker c.descending.result _ _
    (λ v same.
    touched groups named c.named.ensures were are c.args.remotes.now c.put_edits.new.remotes c.add_named-2.new.numbers.items c.put_edits.new.numbers.items v.items first
    c.in_ok-put_edits.ensures.fewer c.in_ok-put_edits.ensures.alike same)
    c.descending.ensures.same
