-- What accepted calls say of what they looked for, and which rows their edits make.
use Rattle.std.proofs.Common.{◌≡◌, ◌≤◌, ◌∙◌, ℕ, List, Bool, true, false, Option, Some, None, slice_get, slice_set, refl, ap, sym, arith}
use Rattle.std.specs.Prelude.{option_and_then, option_map, not, count_by, ◌&&◌, ◌||◌}
use Rattle.api_types.specs.Ident.{Ident}
use Rattle.api_types.specs.RowLists.{RowLists}
use Rattle.api_types.specs.Table.{ident_eq}
use Rattle.api_types.specs.Consistent.{IsConsistent}
use Rattle.api_types.specs.declared.port.PortRow.{PortRow}
use Rattle.api_types.specs.declared.router.RouterRow.{RouterRow}
use Rattle.api_types.specs.declared.floating.FloatingRow.{FloatingRow}
use Rattle.api_types.proofs.ListLemmas.{none_some, some_equal}
use Rattle.api_types.proofs.NameLemmas.{ident_itself}
use Rattle.api_types.specs.WithRows.{put_in}
use Rattle.call_parts.proofs.EditLaws.{put_once}

-- options

pub unmapped : {X Y : Type 0} (f : X → Y) (o : Option X) → option_map f o ≡ None → o ≡ None
unmapped f None h = refl
unmapped f (Some x) h = none_some (f x) _ (sym h)

pub mapped : {X Y : Type 0} (f : X → Y) (o : Option X) (y : Y) → option_map f o ≡ Some y → (x : X) × (o ≡ Some x) × (f x ≡ y)
mapped f None y h = none_some y _ h
mapped f (Some x) y h = (x, refl, some_equal (f x) y h)

pub thence : {X Y : Type 0} (f : X → Option Y) (o : Option X) (y : Y) → option_and_then f o ≡ Some y → (x : X) × (o ≡ Some x) × (f x ≡ Some y)
thence f None y h = none_some y _ h
thence f (Some x) y h = (x, refl, h)

-- what is refused of what is there
pub refused_at : {X Y : Type 0} (f : X → Option Y) (o : Option X) (x : X) → o ≡ Some x → option_and_then f o ≡ None → f x ≡ None
refused_at f o x is h = sym (ap (option_and_then f) is) ∙ h

-- a test that fails under a negation, or with one
pub not_none : (b : Bool) → not b ≡ false → b ≡ true
not_none true h = refl
not_none false h = sym h

-- who may name another project is an administrator, where nothing else asks for one
pub none_for_other : (a b admin : Bool) → (a || b) && not admin ≡ false → not admin && b ≡ false
none_for_other a b true h = refl
none_for_other true true false h = h
none_for_other false true false h = h
none_for_other a false false h = refl

-- rows that are put in by their ids

module _ {R : Type 0} (id_of : R → Ident) where
  pub put_at : (rows : List R) (k : ℕ) (old new : R) → slice_get rows k ≡ Some old → id_of new ≡ id_of old → count_by (λ r. ident_eq (id_of new) (id_of r)) rows ≤ 1 → put_in id_of new rows ≡ slice_set rows k new
  put_at rows k old new at same once = put_once (λ r. ident_eq (id_of new) (id_of r)) rows k old new at (ap (ident_eq (id_of new)) (sym same) ∙ ident_itself (id_of new)) once

module _ (rows : RowLists) (c : IsConsistent rows) where
  pub port_put : (k : ℕ) (old new : PortRow) → slice_get rows.ports k ≡ Some old → new.id ≡ old.id → put_in (λ r. r.id) new rows.ports ≡ slice_set rows.ports k new
  port_put k old new at same = put_at (λ (r : PortRow). r.id) rows.ports k old new at same (omega (arith, c.numbered.ids new.id))

  pub router_put : (k : ℕ) (old new : RouterRow) → slice_get rows.routers k ≡ Some old → new.id ≡ old.id → put_in (λ r. r.id) new rows.routers ≡ slice_set rows.routers k new
  router_put k old new at same = put_at (λ (r : RouterRow). r.id) rows.routers k old new at same (omega (arith, c.numbered.ids new.id))

  pub floating_put : (k : ℕ) (old new : FloatingRow) → slice_get rows.floatings k ≡ Some old → new.id ≡ old.id → put_in (λ r. r.id) new rows.floatings ≡ slice_set rows.floatings k new
  floating_put k old new at same = put_at (λ (r : FloatingRow). r.id) rows.floatings k old new at same (omega (arith, c.numbered.ids new.id))
