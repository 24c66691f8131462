-- What a tenant is told of the router or the floating address that a service's port names: only one row has an id with that text, and
-- it is told where it is the tenant's own.
use Rattle.std.proofs.Common.{◌≡◌, ℕ, ◌<◌, ◌≤◌, zero, suc, List, [], ◌∷◌, Bool, true, false, cond, Option, Some, None, length, slice_get, refl, ap, sym, ◌∙◌, arith, map}
use Rattle.std.proofs.lemmas.Bool.Decides.{nat_tests}
use Rattle.std.proofs.lemmas.Option.{slice_get_within}
use Rattle.std.specs.Prelude.{◌&&◌, ◌==◌, count_by, filter, find, nat_le, option_map, if◌then◌else◌}
use Rattle.std.specs.Option.{option_or}
use Rattle.api_policy.specs.Seen.{own_rows}
use Rattle.api_policy.specs.Uses.{named_by_device, named_floating, named_router, told_user}
use Rattle.api_policy.specs.Visibility.{is_own}
use Rattle.apart_laws.specs.Footing.{blank_router, footing}
use Rattle.call_parts.specs.State.{State}
use Rattle.api_types.specs.Consistent.{IsConsistent}
use Rattle.api_types.specs.Consistent.Numbered.{AreNumbered, is_drawn}
use Rattle.api_types.specs.Ident.{Ident, IsDrawable, ident_text}
use Rattle.api_types.specs.Lists.{Each}
use Rattle.api_types.specs.Owners.{device_is}
use Rattle.api_types.specs.RowLists.{RowLists}
use Rattle.api_types.specs.Table.{ident_eq}
use Rattle.api_types.specs.declared.call.Caller.{Caller}
use Rattle.api_types.specs.declared.floating.FloatingRow.{FloatingRow}
use Rattle.api_types.specs.declared.kind.Kind.TheVariants.{Floating, Router}
use Rattle.api_types.specs.declared.project.ProjectRow.{ProjectRow}
use Rattle.api_types.specs.declared.router.RouterRow.{RouterRow}
use Rattle.net_settings.specs.Settings.{SettingsParts}
use Rattle.api_types.proofs.IdTexts.{one-text}
use Rattle.api_types.proofs.ListLemmas.{and_both, any-at, at-any, at_filter, false_true, none-counted, none_some, one_row, some_equal}
use Rattle.api_types.proofs.NameLemmas.{by_test, bytes_same, ident_itself}
use Rattle.apart_laws.proofs.ListLemmas.{find-map, find_here}
use Rattle.apart_laws.proofs.ApartLemmas.{stands_there}
use Rattle.apart_laws.proofs.OwnAlike.{floatings_alike, map-then, routers_alike}

-- an id that a project drew has a text of its own
drawable : (rows : RowLists) → AreNumbered rows → (i : Ident) → is_drawn rows.projects i ≡ true → IsDrawable i
drawable rows c i drawn =
    let there = any-at (λ (p : ProjectRow). (p.ordinal == i.ordinal) && (nat_le 1 i.count && nat_le i.count p.count)) rows.projects drawn in
    of there.0 there.1 there.2 there.3
  where
    equal : (a b : ℕ) → a == b ≡ true → a ≡ b
    equal a b h = grind (arith, nat_tests)

    at_most : (a b : ℕ) → nat_le a b ≡ true → a ≤ b
    at_most a b h = grind (arith, nat_tests)

    of : (k : ℕ) (p : ProjectRow) → slice_get rows.projects k ≡ Some p → (p.ordinal == i.ordinal) && (nat_le 1 i.count && nat_le i.count p.count) ≡ true → IsDrawable i
    of k p at h =
        let both = and_both (p.ordinal == i.ordinal) (nat_le 1 i.count && nat_le i.count p.count) h in
        let counts = and_both (nat_le 1 i.count) (nat_le i.count p.count) both.1 in
        let place = c.projects.ordered k p at in
        let ordinal : p.ordinal ≡ i.ordinal = equal p.ordinal i.ordinal both.0 in
        let within : k < length rows.projects = slice_get_within rows.projects k p at in
        let last : i.count ≤ p.count = at_most i.count p.count counts.1 in
        let first : 1 ≤ i.count = at_most 1 i.count counts.0 in
        record {
          first_ordinal = omega (arith, ordinal, place.0);
          last_ordinal = omega (arith, ordinal, place.0, within, c.projects.few);
          first_count = first;
          last_count = omega (arith, last, place.1);
        }

one_device : (rows : RowLists) → AreNumbered rows → (device : List ℕ) (i j : Ident) → is_drawn rows.projects i ≡ true → is_drawn rows.projects j ≡ true → device_is device i ≡ true → device_is device j ≡ true → i ≡ j
unfolding device_is
one_device rows c device i j drawn drawn' is is' = one-text i j (drawable rows c i drawn) (drawable rows c j drawn') (sym (bytes_same device (ident_text i) is) ∙ bytes_same device (ident_text j) is')

-- a search among rows that are kept

find_kept : {R : Type 0} (keep test : R → Bool) (xs : List R) (x : R) → find test xs ≡ Some x → keep x ≡ true → find test (filter keep xs) ≡ Some x
find_kept keep test [] x h kept = none_some x _ h
find_kept keep test (a ∷ xs) x h kept = by (test a) refl (keep a) refl h (λ g. find_kept keep test xs x g kept)
  where
    by : (b : Bool) → test a ≡ b → (k : Bool) → keep a ≡ k → cond b (Some a) (find test xs) ≡ Some x → (find test xs ≡ Some x → find test (filter keep xs) ≡ Some x)
        → find test (cond k (a ∷ filter keep xs) (filter keep xs)) ≡ Some x
    by true e true f h rest = ap (λ b. cond b (Some a) (find test (filter keep xs))) e ∙ h
    by true e false f h rest = false_true _ (sym f ∙ (ap keep (some_equal a x h) ∙ kept))
    by false e true f h rest = ap (λ b. cond b (Some a) (find test (filter keep xs))) e ∙ rest h
    by false e false f h rest = rest h

find_none : {R : Type 0} (test : R → Bool) (xs : List R) → Each (λ x. test x ≡ true → false ≡ true) xs → find test xs ≡ None
find_none test [] e = refl
find_none test (x ∷ xs) e = by (test x) refl (find_none test xs (λ k y at. e (suc k) y at))
  where
    by : (b : Bool) → test x ≡ b → find test xs ≡ None → cond b (Some x) (find test xs) ≡ None
    by true is h = false_true _ (e 0 x refl is)
    by false is h = h

none_each : {R : Type 0} (test : R → Bool) (xs : List R) → find test xs ≡ None → Each (λ x. test x ≡ true → false ≡ true) xs
none_each test [] h k x at is = none_some x _ at
none_each test (a ∷ xs) h k x at is = by (test a) refl h k at (λ g l at_l. none_each test xs g l x at_l is)
  where
    by : (b : Bool) → test a ≡ b → cond b (Some a) (find test xs) ≡ None → (k : ℕ) → slice_get (a ∷ xs) k ≡ Some x
        → (find test xs ≡ None → (l : ℕ) → slice_get xs l ≡ Some x → false ≡ true) → false ≡ true
    by true e h k at rest = none_some a _ (sym h)
    by false e h zero at rest = sym e ∙ (ap test (some_equal a x at) ∙ is)
    by false e h (suc k) at rest = rest h k at

module _ (rows : RowLists) (caller : Caller) (c : IsConsistent rows) (device : List ℕ) where
  abbrev pub own_routers : List RouterRow
  own_routers = own_rows (λ (r : RouterRow). r.project) caller rows.routers

  abbrev pub own_floatings : List FloatingRow
  own_floatings = own_rows (λ (f : FloatingRow). f.project) caller rows.floatings

  abbrev is_router : RouterRow → Bool
  is_router r = device_is device r.id

  abbrev is_floating : FloatingRow → Bool
  is_floating f = device_is device f.id

  -- no two routers, no two floating addresses, and none of each have the text
  one_router : (k l : ℕ) (r q : RouterRow) → slice_get rows.routers k ≡ Some r → slice_get rows.routers l ≡ Some q → device_is device r.id ≡ true → device_is device q.id ≡ true → r ≡ q
  one_router k l r q at_r at_q is is' =
      let ids = one_device rows c.numbered device r.id q.id (c.numbered.drawn.routers k r at_r) (c.numbered.drawn.routers l q at_q) is is' in
      one_row (λ (x : RouterRow). ident_eq r.id x.id) rows.routers (omega (arith, c.numbered.ids r.id)) k l r q at_r at_q (ident_itself r.id) (ap (ident_eq r.id) (sym ids) ∙ ident_itself r.id)

  one_floating : (k l : ℕ) (f g : FloatingRow) → slice_get rows.floatings k ≡ Some f → slice_get rows.floatings l ≡ Some g → device_is device f.id ≡ true → device_is device g.id ≡ true → f ≡ g
  one_floating k l f g at_f at_g is is' =
      let ids = one_device rows c.numbered device f.id g.id (c.numbered.drawn.floatings k f at_f) (c.numbered.drawn.floatings l g at_g) is is' in
      one_row (λ (x : FloatingRow). ident_eq f.id x.id) rows.floatings (omega (arith, c.numbered.ids f.id)) k l f g at_f at_g (ident_itself f.id) (ap (ident_eq f.id) (sym ids) ∙ ident_itself f.id)

  not_both : (k l : ℕ) (r : RouterRow) (f : FloatingRow) → slice_get rows.routers k ≡ Some r → slice_get rows.floatings l ≡ Some f → device_is device r.id ≡ true → device_is device f.id ≡ true → false ≡ true
  not_both k l r f at_r at_f is is' =
      let ids = one_device rows c.numbered device r.id f.id (c.numbered.drawn.routers k r at_r) (c.numbered.drawn.floatings l f at_f) is is' in
      let first : 1 ≤ count_by (λ (x : RouterRow). ident_eq r.id x.id) rows.routers = counted-at (λ (x : RouterRow). ident_eq r.id x.id) rows.routers k r at_r (ident_itself r.id) in
      let second : 1 ≤ count_by (λ (x : FloatingRow). ident_eq r.id x.id) rows.floatings = counted-at (λ (x : FloatingRow). ident_eq r.id x.id) rows.floatings l f at_f (ap (ident_eq r.id) (sym ids) ∙ ident_itself r.id) in
      absurd (omega (arith, first, second, c.numbered.ids r.id))
    where
      counted-at : {R : Type 0} (test : R → Bool) (xs : List R) (i : ℕ) (x : R) → slice_get xs i ≡ Some x → test x ≡ true → 1 ≤ count_by test xs
      counted-at test xs i x at passes = by_count (count_by test xs) refl
        where
          by_count : (n : ℕ) → count_by test xs ≡ n → 1 ≤ n
          by_count zero e = false_true _ (sym (none-counted test xs e) ∙ at-any test xs i x at passes)
          by_count (suc n) e = omega arith

  -- what is told is the caller's own router or floating address with the text
  pub device_told : told_user rows caller (named_by_device rows device) ≡ option_or (named_router own_routers device) (named_floating own_floatings device)
  device_told = by_router (find is_router rows.routers) refl
    where
      own_none : Each (λ (f : FloatingRow). is_floating f ≡ true → false ≡ true) own_floatings → find is_router own_routers ≡ None → option_or (named_router own_routers device) (named_floating own_floatings device) ≡ None
      own_none floatings routers = λ j. option_or (option_map (λ (r : RouterRow). (Router, r.id)) (routers j)) (option_map (λ (f : FloatingRow). (Floating, f.id)) (find_none is_floating own_floatings floatings j))

      by_floating : (o : Option FloatingRow) → find is_floating rows.floatings ≡ o → find is_router own_routers ≡ None
          → told_user rows caller (option_map (λ (f : FloatingRow). (Floating, f.id)) o) ≡ option_or (named_router own_routers device) (named_floating own_floatings device)
      by_floating None found routers = sym (own_none (λ k f at is. let here = at_filter (λ (g : FloatingRow). is_own caller g.project) rows.floatings k f at in none_each is_floating rows.floatings found here.0 f here.1 is) routers)
      by_floating (Some f) found routers =
          let here = find_here is_floating rows.floatings f found in
          let sees = stands_there (λ (g : FloatingRow). g.id) (λ (g : FloatingRow). is_own caller g.project) rows.floatings (λ i. omega (arith, c.numbered.ids i)) here.0 f here.1 in
          by_test (is_own caller f.project) (told_user rows caller (Some (Floating, f.id)) ≡ option_or (named_router own_routers device) (named_floating own_floatings device))
          (λ own. ap (λ (b : Bool). if b then Some (Floating, f.id) else None) (sees ∙ own)
          ∙ (λ j. option_or (option_map (λ (r : RouterRow). (Router, r.id)) (sym routers j)) (option_map (λ (g : FloatingRow). (Floating, g.id)) (sym (find_kept (λ (g : FloatingRow). is_own caller g.project) is_floating rows.floatings f found own) j))))
          (λ other. ap (λ (b : Bool). if b then Some (Floating, f.id) else None) (sees ∙ other)
          ∙ sym (own_none (λ k g at is. let there = at_filter (λ (g : FloatingRow). is_own caller g.project) rows.floatings k g at in
          sym other ∙ (ap (λ (x : FloatingRow). is_own caller x.project) (one_floating here.0 there.0 f g here.1 there.1 here.2 is) ∙ there.2)) routers))

      by_router : (o : Option RouterRow) → find is_router rows.routers ≡ o
          → told_user rows caller (option_or (option_map (λ (r : RouterRow). (Router, r.id)) o) (named_floating rows.floatings device)) ≡ option_or (named_router own_routers device) (named_floating own_floatings device)
      by_router None found = by_floating (find is_floating rows.floatings) refl
          (find_none is_router own_routers (λ k r at is. let here = at_filter (λ (q : RouterRow). is_own caller q.project) rows.routers k r at in none_each is_router rows.routers found here.0 r here.1 is))
      by_router (Some r) found =
          let here = find_here is_router rows.routers r found in
          let sees = stands_there (λ (q : RouterRow). q.id) (λ (q : RouterRow). is_own caller q.project) rows.routers (λ i. omega (arith, c.numbered.ids i)) here.0 r here.1 in
          by_test (is_own caller r.project) (told_user rows caller (Some (Router, r.id)) ≡ option_or (named_router own_routers device) (named_floating own_floatings device))
          (λ own. ap (λ (b : Bool). if b then Some (Router, r.id) else None) (sees ∙ own)
          ∙ (λ j. option_or (option_map (λ (q : RouterRow). (Router, q.id)) (sym (find_kept (λ (q : RouterRow). is_own caller q.project) is_router rows.routers r found own) j)) (named_floating own_floatings device)))
          (λ other. ap (λ (b : Bool). if b then Some (Router, r.id) else None) (sees ∙ other)
          ∙ sym (own_none
          (λ k f at is. let there = at_filter (λ (g : FloatingRow). is_own caller g.project) rows.floatings k f at in not_both here.0 there.0 r f here.1 there.1 here.2 is)
          (find_none is_router own_routers (λ k q at is. let there = at_filter (λ (x : RouterRow). is_own caller x.project) rows.routers k q at in
          sym other ∙ (ap (λ (x : RouterRow). is_own caller x.project) (one_router here.0 there.0 r q here.1 there.1 here.2 is) ∙ there.2)))))

module _ (settings : SettingsParts) (caller : Caller) (tenant : caller.admin ≡ false) (s t : State) (c : IsConsistent s.rows) (d : IsConsistent t.rows) (same : footing settings s caller ≡ footing settings t caller) where
  pub device_alike : (device : List ℕ) → told_user s.rows caller (named_by_device s.rows device) ≡ told_user t.rows caller (named_by_device t.rows device)
  device_alike device = device_told s.rows caller c device
      ∙ ((λ j. option_or (routers j) (named_floating (floatings_alike settings caller tenant s t same j) device))
      ∙ sym (device_told t.rows caller d device))
    where
      blank_named : (rs : List RouterRow) → named_router rs device ≡ named_router (map blank_router rs) device
      blank_named rs = sym (ap (option_map (λ (r : RouterRow). (Router, r.id))) (find-map (λ (r : RouterRow). device_is device r.id) blank_router rs)
          ∙ map-then blank_router (λ (r : RouterRow). (Router, r.id)) (find (λ (r : RouterRow). device_is device r.id) rs))

      routers : named_router (own_rows (λ (r : RouterRow). r.project) caller s.rows.routers) device ≡ named_router (own_rows (λ (r : RouterRow). r.project) caller t.rows.routers) device
      routers = blank_named (own_rows (λ (r : RouterRow). r.project) caller s.rows.routers)
          ∙ (ap (λ rs. named_router rs device) (routers_alike settings caller tenant s t same) ∙ sym (blank_named (own_rows (λ (r : RouterRow). r.project) caller t.rows.routers)))
