-- The numbers of a router's ports, before a change and after it.
use Rattle.std.proofs.Common.{◌≡◌, ◌∙◌, ℕ, zero, suc, ◌+◌, ◌<◌, List, [], ◌∷◌, Bool, Bor, true, false, Option, Some, None, drop, find, get_or, length, map, slice_get, refl, ap, sym, subst, arith}
use Rattle.std.specs.Prelude.{IsSomeAnd, if◌then◌else◌, nat_lt}
use Rattle.std.specs.List.{filter}
use Rattle.api_types.specs.Ident.{Ident}
use Rattle.api_types.specs.Parts.{port_of, router_of}
use Rattle.api_types.specs.RowLists.{RowLists}
use Rattle.api_types.specs.RouterRows.{is_leg_of}
use Rattle.api_types.specs.Table.{HaveOwnIds, place_of, row_of}
use Rattle.api_types.specs.declared.change.Item.{Item}
use Rattle.api_types.specs.declared.kind.Kind.TheVariants.{Port, Router}
use Rattle.api_types.specs.declared.port.PortRow.{PortRow}
use Rattle.api_types.specs.declared.router.RouterRow.{RouterRow}
use Rattle.api_types.proofs.ListLemmas.{none_some, some_equal}
use Rattle.api_types.proofs.NameLemmas.{ident_itself}
use Rattle.plane_types.specs.Keyed.{AllAfter, Rises, are_one, row_at}
use Rattle.plane_types.specs.Numbered.{numbered_after, rows_after, with_numbers}
use Rattle.plane_types.specs.NumberedRows.{row_items}
use Rattle.plane_types.proofs.KeyedLemmas.{one_itself}
use Rattle.plane_types.proofs.NumberedLemmas.{after_plain, after_rises, number_order, numbered_rises, plain}
use Rattle.plane_laws.proofs.Facts.{AtMostOne, has_id}
use Rattle.plane_laws.proofs.FactsHold.{frame-facts}
use Rattle.table_edits.specs.NumbersSeen.{Renumbered, at_after}
use Rattle.table_edits.specs.Rewires.{LeadsOn}
use Rattle.table_edits.proofs.NumberPlaces.{own_place}
use Rattle.kept_rows.proofs.FoundLemmas.{found_at, later, place_of_number}
use Rattle.kept_rows.proofs.NumberLists.{one_number}
use Rattle.l3_delta.specs.WayKeys.{StandIn, numbered_when, ports_when, rows_when}
use Rattle.l3_delta.specs.declared.when.When.{When}
use Rattle.l3_delta.specs.declared.when.When.TheVariants.{After, Before}
use Rattle.l3_delta.proofs.TouchedLemmas.{Ports, plain_after, plain_before}

-- ---- each row at its number

-- the row that passes has one number
one_place : {R : Type 0} (test : R → Bool) (xs : List (ℕ × R)) → AtMostOne test (plain xs)
    → (k m : ℕ) (r : R) → row_at nat_lt k xs ≡ Some r → row_at nat_lt m xs ≡ Some r
    → test r ≡ true → k ≡ m
one_place test [] once k m r at there passes = none_some r _ at
one_place {R} test (x ∷ xs) once k m r at there passes =
    go (are_one nat_lt k x.0) (are_one nat_lt m x.0) refl refl at there
    (λ h g. one_place test xs once.1 k m r h g passes)
  where
    apart : (n : ℕ) → Some x.1 ≡ Some r → row_at nat_lt n xs ≡ Some r → k ≡ m
    apart n is h =
        none_some r _
        (sym (once.0 (ap test (some_equal x.1 r is) ∙ passes))
        ∙ found_at test xs once.1 n r h passes)

    go : (b c : Bool) → are_one nat_lt k x.0 ≡ b → are_one nat_lt m x.0 ≡ c
        → (if b then Some x.1 else row_at nat_lt k xs) ≡ Some r
        → (if c then Some x.1 else row_at nat_lt m xs) ≡ Some r
        → (row_at nat_lt k xs ≡ Some r → row_at nat_lt m xs ≡ Some r → k ≡ m) → k ≡ m
    go true true e f h g rest = one_number k x.0 e ∙ sym (one_number m x.0 f)
    go true false e f h g rest = apart m h g
    go false true e f h g rest = apart k g h
    go false false e f h g rest = rest h g

-- rows that ascend stand each at its number
stand_later : (x : ℕ × PortRow) (xs ys : List (ℕ × PortRow)) → AllAfter nat_lt x.0 xs
    → StandIn xs ys → StandIn (x ∷ xs) ys
stand_later x xs [] up all = tt
stand_later x xs (y ∷ ys) up all =
    (later x xs y.0 y.1 up all.0, stand_later x xs ys up all.1)

stand_all : (xs : List (ℕ × PortRow)) → Rises nat_lt xs → StandIn xs xs
stand_all [] up = tt
stand_all (x ∷ xs) up = (
  ap (λ b. if b then Some x.1 else row_at nat_lt x.0 xs) (one_itself nat_lt number_order x.0),
  stand_later x xs xs up.0 (stand_all xs up.1),
)

stand_some : (test : ℕ × PortRow → Bool) (ports xs : List (ℕ × PortRow)) → StandIn ports xs
    → StandIn ports (filter test xs)
stand_some test ports [] all = tt
stand_some test ports (x ∷ xs) all = go (test x) (stand_some test ports xs all.1)
  where
    go : (b : Bool) → StandIn ports (filter test xs)
        → StandIn ports (if b then x ∷ filter test xs else filter test xs)
    go true rest = (all.0, rest)
    go false rest = rest

-- what stands at a place of them
pub stands_at : (ports xs : List (ℕ × PortRow)) (i : ℕ) (x : ℕ × PortRow) → StandIn ports xs
    → slice_get xs i ≡ Some x → row_at nat_lt x.0 ports ≡ Some x.1
stands_at ports [] i x all at = none_some x _ at
stands_at ports (y ∷ xs) zero x all at =
    subst (λ (z : ℕ × PortRow). row_at nat_lt z.0 ports ≡ Some z.1) (some_equal y x at) all.0
stands_at ports (y ∷ xs) (suc i) x all at = stands_at ports xs i x all.1 at

-- the port at a place of a list, with its number
pub record AtPlace (xs : List (ℕ × PortRow)) (i : ℕ) (p : PortRow) : Type 0 where
  pub x : ℕ × PortRow
  pub is : x.1 ≡ p
  pub at : slice_get xs i ≡ Some x
  pub left : drop i xs ≡ x ∷ drop (i + 1) xs

pub at_place : (xs : List (ℕ × PortRow)) (legs : List (Bor PortRow)) (i : ℕ) (p : Bor PortRow)
    → i < length legs → p ≡ get_or legs i p
    → map (λ (x : ℕ × PortRow). x.1) xs ≡ map (λ p. p.now) legs → AtPlace xs i p.now
at_place [] [] i p less at same = absurd (omega (arith, less))
at_place [] (q ∷ legs) i p less at same = none_some q.now _ (ap (λ ps. slice_get ps 0) same)
at_place (x ∷ xs) [] i p less at same = absurd (omega (arith, less))
at_place (x ∷ xs) (q ∷ legs) zero p less at same = record {
  x = x;
  is = some_equal x.1 q.now (ap (λ ps. slice_get ps 0) same) ∙ ap (λ b. b.now) (sym at);
  at = refl;
  left = refl;
}
at_place (x ∷ xs) (q ∷ legs) (suc i) p less at same =
    let rest = at_place xs legs i p (omega (arith, less)) at (ap (drop 1) same) in
    let next : suc i + 1 ≡ suc (i + 1) = omega arith in
    record {
      x = rest.x;
      is = rest.is;
      at = rest.at;
      left = rest.left ∙ ap (λ n. rest.x ∷ drop n (x ∷ xs)) (sym next);
    }

-- ---- what code finds of a port's number

module _ (before after : RowLists) (items : List Item) (ports : Renumbered PortRow)
    (leads_on : LeadsOn before items after)
    (numbered : ports ≡ record { rows = before.ports; items = row_items Port port_of items }) where
  abbrev routers : Renumbered RouterRow
  routers = record { rows = before.routers; items = row_items Router router_of items }

  s : Ports before after items ports routers
  s = record { leads_on = leads_on; numbered = numbered; routed = refl }

  once_after : (i : Ident) → AtMostOne (has_id i) (plain (numbered_after ports.rows ports.items))
  once_after i =
      subst (AtMostOne (has_id i)) (sym (plain_after before after items ports routers s))
      ((frame-facts after leads_on.stays_consistent).port_ids i)

  pub number_before : HaveOwnIds (λ (p : PortRow). p.id) ports.rows → (p : PortRow) (k : ℕ)
      → row_at nat_lt k (with_numbers 0 ports.rows) ≡ Some p
      → place_of (λ (p : PortRow). p.id) p.id ports.rows ≡ Some k
  number_before own p k at =
      own_place (λ (p : PortRow). p.id) ports.rows k p own
      (sym (place_of_number ports.rows k) ∙ at)

  pub number_now : (p : PortRow) (k : ℕ)
      → row_at nat_lt k (numbered_after ports.rows ports.items) ≡ Some p → (o : Option ℕ)
      → ((r : PortRow)
      → row_of (λ (p : PortRow). p.id) p.id (rows_after ports.rows ports.items) ≡ Some r
      → IsSomeAnd o (λ m. at_after ports m ≡ Some r))
      → o ≡ Some k
  number_now p k at o tells =
      go o (tells p
      (ap (find (has_id p.id)) (sym (after_plain ports.rows ports.items))
      ∙ found_at (has_id p.id) (numbered_after ports.rows ports.items) (once_after p.id) k p at
      (ident_itself p.id)))
    where
      go : (o : Option ℕ) → IsSomeAnd o (λ m. at_after ports m ≡ Some p) → o ≡ Some k
      go None h = absurd h
      go (Some m) h =
          ap Some
          (one_place (has_id p.id) (numbered_after ports.rows ports.items) (once_after p.id) m k
          p h at (ident_itself p.id))

  -- ---- a router's ports with their numbers

  ports_are : (when : When) → (numbered_when when before items).ports ≡ ports_when when ports
  ports_are Before = ap (λ (n : Renumbered PortRow). with_numbers 0 n.rows) (sym numbered)
  ports_are After = ap (λ (n : Renumbered PortRow). numbered_after n.rows n.items) (sym numbered)

  pub rows_are : (when : When)
      → rows_when when before after ≡ (numbered_when when before items).rows
  rows_are Before = refl
  rows_are After = leads_on.leads

  ports_rise : (when : When) → Rises nat_lt (ports_when when ports)
  ports_rise Before = numbered_rises 0 ports.rows
  ports_rise After = after_rises ports.rows ports.items

  pub plain_when : (when : When)
      → map (λ (x : ℕ × PortRow). x.1) (numbered_when when before items).ports
      ≡ (numbered_when when before items).rows.ports
  plain_when Before =
      ap plain (ports_are Before) ∙ plain_before before after items ports routers s
  plain_when After =
      ap plain (ports_are After) ∙ plain_after before after items ports routers s
      ∙ ap (λ (rows : RowLists). rows.ports) leads_on.leads

  pub rises_when : (when : When) → Rises nat_lt (numbered_when when before items).ports
  rises_when when = subst (Rises nat_lt) (sym (ports_are when)) (ports_rise when)

  pub legs_stand : (when : When) (r : RouterRow)
      → StandIn (ports_when when ports)
      (filter
      (λ (x : ℕ × PortRow). is_leg_of (numbered_when when before items).rows r x.1)
      (numbered_when when before items).ports)
  legs_stand when r =
      subst (λ ps. StandIn (ports_when when ports)
      (filter
      (λ (x : ℕ × PortRow). is_leg_of (numbered_when when before items).rows r x.1) ps))
      (sym (ports_are when))
      (stand_some
      (λ (x : ℕ × PortRow). is_leg_of (numbered_when when before items).rows r x.1)
      (ports_when when ports) (ports_when when ports)
      (stand_all (ports_when when ports) (ports_rise when)))
