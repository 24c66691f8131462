-- Numbers of rows are told item by item.
use Rattle.std.proofs.Common.{◌≡◌, ◌∙◌, ℕ, suc, ◌+◌, List, [], ◌∷◌, ◌++◌, length, slice_get, Option, Some, None, Bool, true, false, cond, refl, sym, ap, subst, arith}
use Rattle.std.specs.Prelude.{◌==◌, ◌||◌, IsSomeAnd, if◌then◌else◌, nat_lt, option_and_then, option_map, unwrap_or}
use Rattle.std.specs.List.{list_any}
use Rattle.api_types.specs.Edits.{FitsAt}
use Rattle.api_types.specs.Ident.{Ident}
use Rattle.api_types.specs.Table.{HaveOwnIds, ident_eq, place_of, row_of}
use Rattle.api_types.specs.declared.change.Item.{Item}
use Rattle.api_types.specs.declared.kind.Kind.{Kind}
use Rattle.api_types.specs.declared.kind.Row.{Row}
use Rattle.api_types.proofs.NameLemmas.{ident_itself}
use Rattle.plane_types.specs.Keyed.{row_at}
use Rattle.plane_types.specs.Numbered.{RowItem, numbered_after, with_item, with_items, with_numbers}
use Rattle.plane_types.specs.NumberedRows.{is_kind, row_item, row_items}
use Rattle.plane_types.proofs.NumberedLemmas.{after_plain, numbered_below, numbered_rises, plain, plain_item, plain_numbered}
use Rattle.table_edits.specs.NumbersSeen.{TellsOf}
use Rattle.table_edits.specs.NumbersTold.{FitRows, Renumbers, first_some, item_number, left_by, number_by}
use Rattle.table_edits.specs.Places.{HaveKeys}
use Rattle.table_edits.proofs.NumberPlaces.{own_place}
use Rattle.table_edits.proofs.NumberSteps.{IsCounted, IsNumberedBy, counted_item, entry_at, id_found, number_for, numbered_at}

or_none : (a b : Bool) → a || b ≡ false → (a ≡ false) × (b ≡ false)
or_none true b h = cc
or_none false b h = (refl, h)

none_pushed : (k : ℕ) (named : List ℕ) (m : ℕ) → list_any (λ n. n == k) (named ++ m ∷ []) ≡ false → (list_any (λ n. n == k) named ≡ false) × ((m == k) ≡ false)
none_pushed k [] m h = (refl, (or_none (m == k) false h).0)
none_pushed k (n ∷ ns) m h =
    let first = or_none (n == k) (list_any (λ n. n == k) (ns ++ m ∷ [])) h in
    let rest = none_pushed k ns m first.1 in
    (ap (λ b. b || list_any (λ n. n == k) ns) first.0 ∙ rest.0, rest.1)

-- a number for an id, and none any more
module _ {R : Type 0} (id_of : R → Ident) (rows : List R) (made later : Ident → Option ℕ) (i : Ident) where
  pub made_put : (next : ℕ) → ((q : Ident) → later q ≡ cond (ident_eq i q) (Some next) (made q))
      → (number_by id_of rows later i ≡ Some next) × ((j : Ident) → ident_eq i j ≡ false → number_by id_of rows later j ≡ number_by id_of rows made j)
  made_put next tells = (
    ap (λ o. first_some o (place_of id_of i rows)) (tells i ∙ ap (λ b. cond b (Some next) (made i)) (ident_itself i)),
    λ j apart. ap (λ o. first_some o (place_of id_of j rows)) (tells j ∙ ap (λ b. cond b (Some next) (made j)) apart),
  )

  pub made_gone : ((q : Ident) → later q ≡ cond (ident_eq i q) None (made q)) → (j : Ident) → ident_eq i j ≡ false → number_by id_of rows later j ≡ number_by id_of rows made j
  made_gone tells j apart = ap (λ o. first_some o (place_of id_of j rows)) (tells j ∙ ap (λ b. cond b None (made j)) apart)

module _ {R : Type 0} (number : R → Option ℕ) where
  numbers_from : (n : ℕ) (rows : List R) → ((k : ℕ) (r : R) → slice_get rows k ≡ Some r → number r ≡ Some (n + k)) → HaveKeys number (with_numbers n rows)
  numbers_from n [] says = tt
  numbers_from n (r ∷ rows) says = (
    says 0 r refl ∙ ap Some (omega arith),
    numbers_from (suc n) rows (λ k x at. let next : n + suc k ≡ suc n + k = omega arith in says (suc k) x at ∙ ap Some next),
  )

module _ {R : Type 0} (id_of : R → Ident) (part : Row → Option R) (items : List Item) (rows : List R) (all : List (RowItem R)) where
  -- what the last item of a number leaves there
  abbrev left_at : (ℕ → Option ℕ) → ℕ → Option (Option R)
  left_at last k = option_map (λ place. option_and_then (left_by part) (slice_get items place)) (last k)

  -- the rows so far, and what is told of them
  pub record SoFar (rest : List (RowItem R)) (next : ℕ) (last : ℕ → Option ℕ) (made : Ident → Option ℕ) (named : List ℕ) : Type 0 where
    pub xs : List (ℕ × R)
    pub counted : IsCounted id_of (with_numbers 0 rows) xs next (left_at last) (number_by id_of rows made)
    pub fits : FitRows id_of (plain xs) rest
    pub leads : with_items xs next rest ≡ numbered_after rows all
    pub names : (k : ℕ) → list_any (λ m. m == k) named ≡ false → last k ≡ None

  pub begun : HaveOwnIds id_of rows → FitRows id_of rows all → (last : ℕ → Option ℕ) (made : Ident → Option ℕ) → ((k : ℕ) → last k ≡ None) → ((i : Ident) → made i ≡ None) → (named : List ℕ) → SoFar all (length rows) last made named
  begun own fits last made no_last none_made named = record {
    xs = with_numbers 0 rows;
    counted = record {
      rises = numbered_rises 0 rows;
      low = numbered_below 0 (length rows) rows (omega arith);
      own = subst (HaveOwnIds id_of) (sym (plain_numbered 0 rows)) own;
      ids = numbers_from (λ r. number_by id_of rows made (id_of r)) 0 rows (λ k r at. placed (id_of r) (none_made (id_of r)) ∙ own_place id_of rows k r own at ∙ ap Some (omega arith));
      stay = λ k h. refl;
      told = λ k o h. absurd_none k o h;
    };
    fits = subst (λ l. FitRows id_of l all) (sym (plain_numbered 0 rows)) fits;
    leads = refl;
    names = λ k h. no_last k;
  }
    where
      placed : (i : Ident) → made i ≡ None → number_by id_of rows made i ≡ place_of id_of i rows
      placed i e = go (made i) e
        where
          go : (o : Option ℕ) → o ≡ None → first_some o (place_of id_of i rows) ≡ place_of id_of i rows
          go None e = refl
          go (Some n) e = cc

      absurd_none : (k : ℕ) (o : Option R) → left_at last k ≡ Some o → row_at nat_lt k (with_numbers 0 rows) ≡ o
      absurd_none k o h = let none : None ≡ Some o = sym (ap (option_map (λ place. option_and_then (left_by part) (slice_get items place))) (no_last k)) ∙ h in cc

  -- an item's row has the number that its id or the next one gives
  number_found : (xs : List (ℕ × R)) (next place : ℕ) (old new : Option R) (number : Ident → Option ℕ) → FitsAt id_of (plain xs) place old new → IsNumberedBy id_of number xs
      → number_for id_of number next old ≡ Some (item_number id_of number next old)
  number_found xs next place None new number fits ids = refl
  number_found xs next place (Some r) None number fits ids =
      let x = entry_at id_of xs place r fits in
      let is : number (id_of r) ≡ Some x.0 = numbered_at id_of number xs place x.0 r ids x.1 in
      is ∙ ap Some (sym (ap (λ o. unwrap_or o next) is))
  number_found xs next place (Some r) (Some row) number fits ids =
      let x = entry_at id_of xs place r fits.0 in
      let is : number (id_of r) ≡ Some x.0 = numbered_at id_of number xs place x.0 r ids x.1 in
      is ∙ ap Some (sym (ap (λ o. unwrap_or o next) is))

  pub step : (i : RowItem R) (rest : List (RowItem R)) (next : ℕ) (last now : ℕ → Option ℕ) (made after : Ident → Option ℕ) (named later : List ℕ) (place : ℕ) → SoFar (i ∷ rest) next last made named
      → option_and_then (left_by part) (slice_get items place) ≡ i.new
      → ((k : ℕ) → now k ≡ (if item_number id_of (number_by id_of rows made) next i.old == k then Some place else last k))
      → Renumbers id_of (number_by id_of rows made) (number_by id_of rows after) next i.old i.new
      → later ≡ named ++ item_number id_of (number_by id_of rows made) next i.old ∷ []
      → SoFar rest (suc next) now after later
  step i rest next last now made after named later place s leaves nows re pushed = record {
    xs = with_item s.xs next i.place i.old i.new;
    counted = counted_item id_of (with_numbers 0 rows) s.xs next (left_at last) (number_by id_of rows made) s.counted i.place i.old i.new s.fits.0 m
        (number_found s.xs next i.place i.old i.new (number_by id_of rows made) s.fits.0 s.counted.ids)
        (left_at now) left_now (number_by id_of rows after) re;
    fits = subst (λ l. FitRows id_of l rest) (sym (plain_item s.xs next i.place i.old i.new)) s.fits.1;
    leads = s.leads;
    names = λ k none.
        let apart = none_pushed k named m (subst (λ l. list_any (λ n. n == k) l ≡ false) pushed none) in
        nows k ∙ ap (λ b. if b then Some place else last k) apart.1 ∙ s.names k apart.0;
  }
    where
      m : ℕ
      m = item_number id_of (number_by id_of rows made) next i.old

      left_now : (k : ℕ) → left_at now k ≡ (if m == k then Some i.new else left_at last k)
      left_now k = ap (option_map (λ p. option_and_then (left_by part) (slice_get items p))) (nows k) ∙ go (m == k)
        where
          go : (b : Bool) → option_map (λ p. option_and_then (left_by part) (slice_get items p)) (if b then Some place else last k) ≡ (if b then Some i.new else left_at last k)
          go true = ap Some leaves
          go false = refl

  pub told : (next : ℕ) (last : ℕ → Option ℕ) (made : Ident → Option ℕ) (named : List ℕ) → SoFar [] next last made named → TellsOf id_of part items (record { rows = rows; items = all }) last made named
  told next last made named s = record {
    stays = λ k none.
        sym (s.counted.stay k (ap (option_map (λ place. option_and_then (left_by part) (slice_get items place))) none)) ∙ ap (row_at nat_lt k) s.leads;
    puts = λ k place is.
        sym (s.counted.told k (option_and_then (left_by part) (slice_get items place)) (ap (option_map (λ place. option_and_then (left_by part) (slice_get items place))) is)) ∙ ap (row_at nat_lt k) s.leads;
    finds = λ i r there.
        let here : row_of id_of i (plain s.xs) ≡ Some r = ap (row_of id_of i) (ap plain s.leads ∙ after_plain rows all) ∙ there in
        let f = id_found id_of s.xs (number_by id_of rows made) s.counted.rises s.counted.ids i r here in
        subst (λ o. IsSomeAnd o (λ k. row_at nat_lt k (numbered_after rows all) ≡ Some r)) (sym f.1) (ap (row_at nat_lt f.0) (sym s.leads) ∙ f.2);
    names = s.names;
  }

-- ---- items of a kind

module _ {R : Type 0} (kind : Kind) (part : Row → Option R) where
  pub items_of : (item : Item) (items : List Item) → is_kind kind item.kind ≡ true → row_items kind part (item ∷ items) ≡ row_item kind part item ∷ row_items kind part items
  items_of item items e = ap (λ b. if b then row_item kind part item ∷ row_items kind part items else row_items kind part items) e

  pub items_of_others : (item : Item) (items : List Item) → is_kind kind item.kind ≡ false → row_items kind part (item ∷ items) ≡ row_items kind part items
  items_of_others item items e = ap (λ b. if b then row_item kind part item ∷ row_items kind part items else row_items kind part items) e
