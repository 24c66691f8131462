-- A floating address that names no touched router has the row that it had.
use Rattle.std.proofs.Common.{◌≡◌, ◌∙◌, ℕ, List, Bool, Option, Some, None, find, refl, ap, sym, subst}
use Rattle.std.specs.Prelude.{if◌then◌else◌}
use Rattle.api_types.specs.Ident.{Ident}
use Rattle.api_types.specs.RowLists.{RowLists}
use Rattle.api_types.specs.RowsWith.{router_with}
use Rattle.api_types.specs.Table.{ident_eq}
use Rattle.api_types.specs.declared.change.Item.{Item}
use Rattle.api_types.specs.declared.floating.FloatingRow.{FloatingRow}
use Rattle.api_types.specs.declared.floating.Target.{Target}
use Rattle.api_types.specs.declared.port.PortRow.{PortRow}
use Rattle.api_types.specs.declared.router.RouterRow.{RouterRow}
use Rattle.api_types.proofs.NameLemmas.{ident_same}
use Rattle.plane_types.specs.Numbered.{numbered_after, with_numbers}
use Rattle.plane_types.specs.TableRows.{float_row_by, is_hosted}
use Rattle.plane_types.proofs.NumberedLemmas.{after_rises, numbered_rises}
use Rattle.plane_laws.proofs.Facts.{AtMostOne}
use Rattle.plane_laws.proofs.FactsHold.{frame-facts}
use Rattle.table_edits.specs.NumbersSeen.{Renumbered, at_after, at_before}
use Rattle.kept_rows.proofs.FoundLemmas.{same_found}
use Rattle.l3_delta.proofs.TouchedLemmas.{Ports, routers_before, routers_now}

module _ (before after : RowLists) (items : List Item) (ports : Renumbered PortRow)
    (routers : Renumbered RouterRow) (s : Ports before after items ports routers) where
  -- the router with an id is the same before and after, if whatever has the id stays
  router_stays : (i : Ident)
      → ((j : ℕ) (r : RouterRow) → at_before routers j ≡ Some r → r.id ≡ i → at_before routers j ≡ at_after routers j)
      → ((j : ℕ) (r : RouterRow) → at_after routers j ≡ Some r → r.id ≡ i → at_before routers j ≡ at_after routers j)
      → router_with before i ≡ router_with after i
  router_stays i stay was =
      let test : RouterRow → Bool = λ r. ident_eq i r.id in
      ap (find test) (sym (routers_before before after items ports routers s))
      ∙ same_found test test (with_numbers 0 routers.rows) (numbered_after routers.rows routers.items)
      (numbered_rises 0 routers.rows) (after_rises routers.rows routers.items)
      (λ j r at is. (sym (stay j r at (sym (ident_same i r.id is))) ∙ at, is))
      (λ j r at is. (was j r at (sym (ident_same i r.id is)) ∙ at, is))
      (subst (AtMostOne test) (sym (routers_before before after items ports routers s)) ((frame-facts before s.leads_on.consistent).router_ids i))
      (subst (AtMostOne test) (sym (routers_now before after items ports routers s)) ((frame-facts after s.leads_on.stays_consistent).router_ids i))
      ∙ ap (find test) (routers_now before after items ports routers s)

  -- and so is the row of a floating address that names it
  pub float_stays : (host : List ℕ) (f : FloatingRow)
      → ((t : Target) (j : ℕ) (r : RouterRow) → f.target ≡ Some t → at_before routers j ≡ Some r → r.id ≡ t.router → at_before routers j ≡ at_after routers j)
      → ((t : Target) (j : ℕ) (r : RouterRow) → f.target ≡ Some t → at_after routers j ≡ Some r → r.id ≡ t.router → at_before routers j ≡ at_after routers j)
      → float_row_by before host f f.target ≡ float_row_by after host f f.target
  float_stays host f stay was = go f.target refl
    where
      go : (o : Option Target) → f.target ≡ o → float_row_by before host f o ≡ float_row_by after host f o
      go None e = refl
      go (Some t) e =
          ap (λ (o : Option RouterRow). if is_hosted host o then Some (record { id = f.id; router = t.router; floating = f.address; fixed = t.fixed }) else None)
          (router_stays t.router (λ j r at is. stay t j r e at is) (λ j r at is. was t j r e at is))
