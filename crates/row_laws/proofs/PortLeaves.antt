-- One port goes: what the others still serve, and which ports no floating address needs.
use Rattle.std.proofs.Common.{◌≡◌, ◌∙◌, ◌+◌, ◌≤◌, ℕ, Bool, true, false, cond, Option, None, Some, slice_get, remove, refl, ap, sym, subst, arith}
use Rattle.std.specs.Prelude.{◌&&◌, not, count_by, filter}
use Rattle.std.specs.List.{list_any}
use Rattle.std.specs.Str.{bytes_eq}
use Rattle.api_types.specs.Ident.{Ident}
use Rattle.api_types.specs.Table.{ident_eq}
use Rattle.api_types.specs.RowLists.{RowLists}
use Rattle.api_types.specs.Lists.{Each, if_some, is_some_so, is_empty}
use Rattle.api_types.specs.Owners.{is_floating}
use Rattle.api_types.specs.Consistent.{IsConsistent}
use Rattle.api_types.specs.Consistent.Named.{is_own_port}
use Rattle.api_types.specs.Consistent.Carried.{is_unbound}
use Rattle.api_types.specs.Consistent.Services.{holds_just, is_port_for}
use Rattle.api_types.specs.Consistent.Floating.{is_target_port, leads_to}
use Rattle.api_types.specs.declared.port.PortRow.{PortRow}
use Rattle.api_types.specs.declared.floating.FloatingRow.{FloatingRow}
use Rattle.api_types.specs.declared.floating.Target.{Target}
use Rattle.api_types.proofs.ListLemmas.{and_both, any-at, any-filter, any-none, false_true, one_row, remove-filter, sum-filter, sum-remove}
use Rattle.api_types.proofs.NameLemmas.{bytes_same, by_test, ident_itself, ident_same, ident_sym, not_false}
use Rattle.row_laws.proofs.PlaceLemmas.{has_name}

pub if_some-at : {X : Type 0} (test : X → Bool) (o : Option X) (x : X) → o ≡ Some x → if_some test o ≡ true → test x ≡ true
if_some-at test o x is h = sym (ap (if_some test) is) ∙ h

pub is_some_so-none : {X : Type 0} (test : X → Bool) (o : Option X) → ((x : X) → o ≡ Some x → test x ≡ false) → is_some_so test o ≡ false
is_some_so-none test None h = refl
is_some_so-none test (Some x) h = h x refl

pub none_is_some_so : {X : Type 0} (test : X → Bool) (o : Option X) (x : X) → o ≡ Some x → is_some_so test o ≡ false → test x ≡ false
none_is_some_so test o x is h = sym (ap (is_some_so test) is) ∙ h

-- ids that differ do so either way round
pub other_way : (i j : Ident) → ident_eq i j ≡ false → ident_eq j i ≡ false
other_way i j h = by_test (ident_eq j i) (ident_eq j i ≡ false) (λ same. false_true _ (sym h ∙ ident_sym j i same)) (λ other. other)

module _ (rows : RowLists) (c : IsConsistent rows) (place : ℕ) (p : PortRow) (at : slice_get rows.ports place ≡ Some p) where
  abbrev pub keep : PortRow → Bool
  keep q = not (ident_eq p.id q.id)

  once : count_by (λ q. ident_eq p.id q.id) rows.ports ≤ 1
  once = omega (arith, c.numbered.ids p.id)

  -- a port with its id is the one that goes
  pub is_it : (k : ℕ) (q : PortRow) → slice_get rows.ports k ≡ Some q → ident_eq p.id q.id ≡ true → q ≡ p
  is_it k q at_q h = one_row (λ s. ident_eq p.id s.id) rows.ports once k place q p at_q at h (ident_itself p.id)

  pub each_gone : (P : PortRow → Type 0) → P p → Each (λ q. keep q ≡ false → P q) rows.ports
  each_gone P h k q at_q gone = subst P (sym (is_it k q at_q (not_false (ident_eq p.id q.id) gone))) h

  -- a test that the port doesn't pass sees no difference, and one that it passes is passed once less
  pub any_same : (test : PortRow → Bool) → test p ≡ false → list_any test (filter keep rows.ports) ≡ list_any test rows.ports
  any_same test fails = any-filter keep test rows.ports (each_gone (λ q. test q ≡ false) fails)

  pub count_same : (test : PortRow → Bool) → test p ≡ false → count_by test (filter keep rows.ports) ≡ count_by test rows.ports
  count_same test fails = sum-filter keep (λ q. cond {A = ℕ} (test q) 1 0) rows.ports (each_gone (λ q. cond {A = ℕ} (test q) 1 0 ≡ 0) (ap (λ (b : Bool). cond {A = ℕ} b 1 0) fails))

  pub count_less : (test : PortRow → Bool) → test p ≡ true → count_by test (filter keep rows.ports) + 1 ≡ count_by test rows.ports
  count_less test h =
      let one : cond {A = ℕ} (test p) 1 0 ≡ 1 = ap (λ (b : Bool). cond {A = ℕ} b 1 0) h in
      let taken = sum-remove (λ q. cond {A = ℕ} (test q) 1 0) rows.ports place p at in
      let same : count_by test (remove rows.ports place) ≡ count_by test (filter keep rows.ports) = ap (count_by test) (remove-filter (λ q. ident_eq p.id q.id) rows.ports place p at (ident_itself p.id) once) in
      omega (arith, one, taken, same)

  -- a port of no project is no floating address's target
  other_target : is_empty p.project ≡ true → (k : ℕ) (f : FloatingRow) → slice_get rows.floatings k ≡ Some f → (t : Target) → f.target ≡ Some t → ident_eq p.id t.port ≡ false
  other_target empty k f at_f t is = by_test (ident_eq p.id t.port) (ident_eq p.id t.port ≡ false)
      (λ same.
      let leads = if_some-at (leads_to rows.ports rows.routers f) f.target t is (c.floatings.targets k f at_f) in
      let found = any-at (λ q. ident_eq t.port q.id && is_target_port rows.ports f t q) rows.ports (and_both _ _ leads).0 in
      let q : PortRow = found.1 in
      let both = and_both (ident_eq t.port q.id) (is_target_port rows.ports f t q) found.3 in
      let it : q ≡ p = is_it found.0 q found.2 (subst (λ i. ident_eq i q.id ≡ true) (sym (ident_same p.id t.port same)) both.0) in
      let project : p.project ≡ f.project = ap (λ s. s.project) (sym it) ∙ bytes_same q.project f.project (and_both (bytes_eq q.project f.project) _ both.1).0 in
      false_true _ (sym (has_name rows.projects c.numbered.projects f.project (c.named.projects.of_floatings k f at_f)) ∙ (ap is_empty (sym project) ∙ empty)))
      (λ fails. fails)

  pub no_target : is_empty p.project ≡ true → list_any (λ f. is_some_so (λ (t : Target). ident_eq p.id t.port) f.target) rows.floatings ≡ false
  no_target empty = any-none (λ f. is_some_so (λ (t : Target). ident_eq p.id t.port) f.target) rows.floatings
      (λ k f at_f. is_some_so-none (λ (t : Target). ident_eq p.id t.port) f.target (other_target empty k f at_f))

  -- a port without the owner of such is no floating address's own port
  pub no_own : is_floating p.owner ≡ false → is_own_port rows.floatings p.id ≡ false
  no_own other = any-none (λ f. ident_eq p.id f.own_port) rows.floatings (λ k f at_f. by_test (ident_eq p.id f.own_port) (ident_eq p.id f.own_port ≡ false)
      (λ same.
      let found = any-at (λ q. ident_eq f.own_port q.id && is_port_for f q) rows.ports (c.services.of_floatings.there k f at_f) in
      let q : PortRow = found.1 in
      let both = and_both (ident_eq f.own_port q.id) (is_port_for f q) found.3 in
      let it : q ≡ p = is_it found.0 q found.2 (subst (λ i. ident_eq i q.id ≡ true) (sym (ident_same p.id f.own_port same)) both.0) in
      let bound = and_both (ident_eq f.network q.network && is_floating q.owner && holds_just f.address q.fixed) (is_unbound q.vif) both.1 in
      let holds = and_both (ident_eq f.network q.network && is_floating q.owner) (holds_just f.address q.fixed) bound.0 in
      let owner = and_both (ident_eq f.network q.network) (is_floating q.owner) holds.0 in
      false_true _ (sym other ∙ (ap (λ s. is_floating s.owner) (sym it) ∙ owner.1)))
      (λ fails. fails))
