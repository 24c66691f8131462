-- What stands at numbers of routers that a change doesn't touch: no touched port is of such a router,
-- and none with an address in a touched subnet.
use Rattle.std.proofs.Common.{◌≡◌, ◌∙◌, ℕ, zero, suc, ◌+◌, List, [], ◌∷◌, Bool, true, false, Option, Some, None, cond, slice_get, refl, ap, sym, subst, arith}
use Rattle.std.specs.Prelude.{◌||◌, find, if◌then◌else◌, nat_lt, option_and_then}
use Rattle.std.specs.List.{cons_option, filter_map}
use Rattle.api_types.specs.Consistent.{IsConsistent}
use Rattle.api_types.specs.Holders.{router_of}
use Rattle.api_types.specs.Ident.{Ident}
use Rattle.api_types.specs.Owners.{device_is, is_port_of, is_router_port}
use Rattle.api_types.specs.RouterRows.{is_leg_of, legs_of}
use Rattle.api_types.specs.Live.{is_live}
use Rattle.api_types.specs.RowLists.{RowLists}
use Rattle.api_types.specs.Table.{HaveOwnIds, ident_eq, place_of}
use Rattle.api_types.specs.Parts.{router_of as router_part}
use Rattle.api_types.specs.declared.change.Item.{Item}
use Rattle.api_types.specs.declared.kind.Kind.TheVariants.{Router}
use Rattle.api_types.specs.declared.port.Fixed.{Fixed}
use Rattle.api_types.specs.declared.port.PortRow.{PortRow}
use Rattle.api_types.specs.declared.router.RouterRow.{RouterRow}
use Rattle.api_types.proofs.ListLemmas.{and_both, at-any, at_filter, false_true, none_some, or_true, some_equal}
use Rattle.api_types.proofs.NameLemmas.{ident_itself}
use Rattle.row_laws.proofs.PlaceLemmas.{one_device, router_drawable}
use Rattle.plane_types.specs.Keyed.{are_one, row_at}
use Rattle.plane_types.specs.Numbered.{numbered_after, rows_after, with_numbers}
use Rattle.plane_types.specs.NumberedRows.{row_items}
use Rattle.plane_types.proofs.NumberedLemmas.{after_plain, plain}
use Rattle.table_edits.specs.EditsAt.{among}
use Rattle.table_edits.specs.NumbersSeen.{Renumbered, at_after, at_before}
use Rattle.table_edits.specs.Rewires.{LeadsOn}
use Rattle.table_edits.proofs.KindsAfter.{routers_after}
use Rattle.table_edits.proofs.NumberPlaces.{own_place}
use Rattle.table_edits.proofs.NumberSteps.{place_row}
use Rattle.touched_rows.specs.TouchedNumbers.{holds_in_any, is_router, names_any, router_in, router_number, routers_by}
use Rattle.touched_rows.proofs.AmongLemmas.{among_here, among_kept, among_later, any_among}

-- before a change the number of a row is its place
pub at_place : {R : Type 0} (rows : List R) (k : ℕ) → row_at nat_lt k (with_numbers 0 rows) ≡ slice_get rows k
at_place rows k =
    let start : k ≡ 0 + k = omega arith in ap (λ m. row_at nat_lt m (with_numbers 0 rows)) start ∙ place_row 0 rows k

-- what has a number is one of the rows
has_place : {R : Type 0} (xs : List (ℕ × R)) (k : ℕ) (r : R) → row_at nat_lt k xs ≡ Some r → (i : ℕ) × (slice_get (plain xs) i ≡ Some r)
has_place [] k r at = none_some r _ at
has_place {R} (x ∷ xs) k r at = go (are_one nat_lt k x.0) at (λ h. has_place xs k r h)
  where
    go : (b : Bool) → (if b then Some x.1 else row_at nat_lt k xs) ≡ Some r → (row_at nat_lt k xs ≡ Some r → (i : ℕ) × (slice_get (plain xs) i ≡ Some r)) → (i : ℕ) × (slice_get (plain (x ∷ xs)) i ≡ Some r)
    go true h rest = (0, h)
    go false h rest = let later = rest h in (suc later.0, later.1)

module _ {X : Type 0} (test : X → Bool) where
  -- the first that passes
  record IsFound (xs : List X) : Type 0 where
    pub row : X
    pub is : find test xs ≡ Some row
    pub passes : test row ≡ true
    pub place : ℕ
    pub at : slice_get xs place ≡ Some row

  found_first : (xs : List X) (i : ℕ) (x : X) → slice_get xs i ≡ Some x → test x ≡ true → IsFound xs
  found_first [] i x at h = none_some x _ at
  found_first (y ∷ xs) i x at h = go (test y) refl i at (λ j there. found_first xs j x there h)
    where
      go : (b : Bool) → test y ≡ b → (i : ℕ) → slice_get (y ∷ xs) i ≡ Some x → ((j : ℕ) → slice_get xs j ≡ Some x → IsFound xs) → IsFound (y ∷ xs)
      go true e i at rest = record { row = y; is = ap (λ b. cond b (Some y) (find test xs)) e; passes = e; place = 0; at = refl }
      go false e zero at rest = false_true _ (sym e ∙ ap test (some_equal y x at) ∙ h)
      go false e (suc i) at rest =
          let r = rest i at in record { row = r.row; is = ap (λ b. cond b (Some y) (find test xs)) e ∙ r.is; passes = r.passes; place = suc r.place; at = r.at }

-- the number of the router that a port names, by rows in which that router stands
number_is : (rows : RowLists) → IsConsistent rows → (routers : List RouterRow) → HaveOwnIds (λ (r : RouterRow). r.id) routers
    → (p : PortRow) (i k : ℕ) (r : RouterRow) → slice_get rows.routers i ≡ Some r → slice_get routers k ≡ Some r → is_router_port p.owner ≡ true → device_is p.device r.id ≡ true
    → router_number rows routers p ≡ Some k
number_is rows c routers own p i k r at numbered port is =
    let f = found_first (λ (q : RouterRow). device_is p.device q.id) rows.routers i r at is in
    let same : f.row.id ≡ r.id = one_device p.device f.row.id r.id (router_drawable rows c f.place f.row f.at) (router_drawable rows c i r at) f.passes is in
    ap (λ b. if b then option_and_then (λ (q : RouterRow). place_of (λ (q : RouterRow). q.id) q.id routers) (router_of rows p) else None) port
    ∙ ap (option_and_then (λ (q : RouterRow). place_of (λ (q : RouterRow). q.id) q.id routers)) f.is
    ∙ ap (λ j. place_of (λ (q : RouterRow). q.id) j routers) same
    ∙ own_place (λ (q : RouterRow). q.id) routers k r own numbered

-- rows before a change and after it, and its routers by their numbers
pub record Turns (before after : RowLists) (routers : Renumbered RouterRow) : Type 0 where
  pub consistent : IsConsistent before
  pub stays_consistent : IsConsistent after
  pub own_ids : HaveOwnIds (λ (r : RouterRow). r.id) routers.rows
  pub begins : before.routers ≡ routers.rows
  pub ends : after.routers ≡ rows_after routers.rows routers.items

pub turns : (before after : RowLists) (items : List Item) → LeadsOn before items after → (routers : Renumbered RouterRow) → routers ≡ record { rows = before.routers; items = row_items Router router_part items }
    → HaveOwnIds (λ (r : RouterRow). r.id) routers.rows → Turns before after routers
turns before after items leads_on routers is own = record {
  consistent = leads_on.consistent;
  stays_consistent = leads_on.stays_consistent;
  own_ids = own;
  begins = ap (λ (n : Renumbered RouterRow). n.rows) (sym is);
  ends = ap (λ (rows : RowLists). rows.routers) leads_on.leads ∙ routers_after before items ∙ ap (λ (n : Renumbered RouterRow). rows_after n.rows n.items) (sym is);
}

module _ (before after : RowLists) (routers : Renumbered RouterRow) (t : Turns before after routers) where
  at_row : (k : ℕ) (r : RouterRow) → at_before routers k ≡ Some r → slice_get routers.rows k ≡ Some r
  at_row k r at = sym (at_place routers.rows k) ∙ at

  in_rows : (k : ℕ) (r : RouterRow) → at_before routers k ≡ Some r → slice_get before.routers k ≡ Some r
  in_rows k r at = ap (λ rs. slice_get rs k) t.begins ∙ at_row k r at

  module _ (ports : Renumbered PortRow) (j k : ℕ) (r : RouterRow) (p : PortRow) (at : at_before routers k ≡ Some r) (port : is_router_port p.owner ≡ true) (is : device_is p.device r.id ≡ true) where
    -- of a port before the change
    pub number_before : at_before ports j ≡ Some p → among nat_lt k (routers_by before after routers.rows ports j) ≡ true
    number_before there =
        let number : router_number before routers.rows p ≡ Some k = number_is before t.consistent routers.rows t.own_ids p k k r (in_rows k r at) (at_row k r at) port is in
        let first : option_and_then (router_number before routers.rows) (slice_get ports.rows j) ≡ Some k =
        ap (option_and_then (router_number before routers.rows)) (sym (at_place ports.rows j) ∙ there) ∙ number in
        ap (λ o. among nat_lt k (cons_option o (cons_option (option_and_then (router_number after routers.rows) (at_after ports j)) []))) first
        ∙ among_here k (cons_option (option_and_then (router_number after routers.rows) (at_after ports j)) [])

    -- of a port after it
    pub number_after : at_after routers k ≡ Some r → at_after ports j ≡ Some p → among nat_lt k (routers_by before after routers.rows ports j) ≡ true
    number_after stays there =
        let place = has_place (numbered_after routers.rows routers.items) k r stays in
        let stands : slice_get after.routers place.0 ≡ Some r = ap (λ rs. slice_get rs place.0) (t.ends ∙ sym (after_plain routers.rows routers.items)) ∙ place.1 in
        let number : router_number after routers.rows p ≡ Some k = number_is after t.stays_consistent routers.rows t.own_ids p place.0 k r stands (at_row k r at) port is in
        let second : option_and_then (router_number after routers.rows) (at_after ports j) ≡ Some k = ap (option_and_then (router_number after routers.rows)) there ∙ number in
        among_later k (option_and_then (router_number before routers.rows) (slice_get ports.rows j)) (cons_option (option_and_then (router_number after routers.rows) (at_after ports j)) [])
        (ap (λ o. among nat_lt k (cons_option o [])) second ∙ among_here k [])

  -- of a live port with an address in one of some subnets
  pub number_in : (subnets : Ident → Bool) (k : ℕ) (r : RouterRow) → at_before routers k ≡ Some r
      → (l : ℕ) (p : PortRow) → slice_get (legs_of before r) l ≡ Some p → (m : ℕ) (f : Fixed) → slice_get p.fixed m ≡ Some f → subnets f.subnet ≡ true
      → among nat_lt k (filter_map (router_in subnets before routers.rows) before.ports) ≡ true
  unfolding legs_of
  number_in subnets k r at l p leg m f fixed there =
      let place = at_filter (is_leg_of before r) before.ports l p leg in
      let live = and_both (is_port_of r p) (is_live before p) place.2 in
      let its = and_both (is_router_port p.owner) (device_is p.device r.id) live.0 in
      let number : router_number before routers.rows p ≡ Some k = number_is before t.consistent routers.rows t.own_ids p k k r (in_rows k r at) (at_row k r at) its.0 its.1 in
      let holds : holds_in_any subnets p ≡ true = at-any (λ (f : Fixed). subnets f.subnet) p.fixed m f fixed there in
      among_kept (router_in subnets before routers.rows) k before.ports place.0 p place.1
      (ap (λ b. if b then router_number before routers.rows p else None) holds ∙ number)

-- ---- the ids of routers with some numbers

is_its : (i : Ident) (o : Option RouterRow) (r : RouterRow) → o ≡ Some r → r.id ≡ i → is_router i o ≡ true
is_its i o r there is = ap (is_router i) there ∙ subst (λ j. ident_eq j r.id ≡ true) is (ident_itself r.id)

module _ (routers : Renumbered RouterRow) (numbers : List ℕ) (k : ℕ) (r : RouterRow) (i : Ident) (there : among nat_lt k numbers ≡ true) (is : r.id ≡ i) where
  pub named_before : at_before routers k ≡ Some r → names_any routers numbers i ≡ true
  named_before at =
      let its = is_its i (slice_get routers.rows k) r (sym (at_place routers.rows k) ∙ at) is in
      any_among (λ m. is_router i (slice_get routers.rows m) || is_router i (at_after routers m)) numbers k there (ap (λ b. b || is_router i (at_after routers k)) its)

  pub named_after : at_after routers k ≡ Some r → names_any routers numbers i ≡ true
  named_after at =
      any_among (λ m. is_router i (slice_get routers.rows m) || is_router i (at_after routers m)) numbers k there
      (ap (λ b. is_router i (slice_get routers.rows k) || b) (is_its i (at_after routers k) r at is) ∙ or_true (is_router i (slice_get routers.rows k)))
