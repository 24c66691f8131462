-- Floating addresses whose target goes are disassociated one by one: rows stay consistent, and no one leads there any more.
use Rattle.std.proofs.Common.{Bool, List, Some, [], ap, arith, cond, false, map, refl, slice_get, subst, suc, zero, sym, true, ℕ, ◌∙◌, ◌∷◌, ◌≡◌}
use Rattle.std.specs.Prelude.{filter, if◌then◌else◌}
use Rattle.api_types.specs.Consistent.{IsConsistent}
use Rattle.api_types.specs.Consistent.Floating.{stands_for}
use Rattle.api_types.specs.Ident.{Ident}
use Rattle.api_types.specs.Lists.{Each, is_some_so}
use Rattle.api_types.specs.RowLists.{RowLists}
use Rattle.api_types.specs.Table.{ident_eq}
use Rattle.api_types.specs.declared.floating.FloatingRow.{FloatingRow}
use Rattle.api_types.specs.declared.floating.Target.{Target}
use Rattle.api_types.specs.declared.kind.Row.TheVariants.{Floating}
use Rattle.api_types.specs.declared.port.Fixed.{Fixed}
use Rattle.row_laws.specs.Replaced.{IsRedirected, IsReplacedFloating}
use Rattle.row_laws.proofs.FloatingReplaced.{floating_replaced}
use Rattle.api_types.proofs.ListLemmas.{at_filter, false_true, none_some, one_row, some_equal, sum-set}
use Rattle.api_types.proofs.NameLemmas.{and_fails, by_test, ident_itself}
use Rattle.kept_laws.proofs.EditedRows.{filter_has, get_map, map_get, put_at}
use Rattle.call_parts.specs.Edits.{Edit, Put, made}
use Rattle.api_types.specs.WithRows.{put_in}
use Rattle.call_parts.specs.Leaving.{disassociated, disassociations, loses_target}

-- the rows after floating addresses were disassociated
pub record AreDisassociated (rows : RowLists) (edits : List Edit) (lost : Target → Bool) : Type 0 where
  pub floatings : List FloatingRow
  pub is : made rows edits ≡ record rows { floatings = floatings }
  pub consistent : IsConsistent (record rows { floatings = floatings })
  pub none : Each (λ (f : FloatingRow). is_some_so lost f.target ≡ false) floatings

-- a floating address that leads nowhere
led_nowhere : (rows : RowLists) (k : ℕ) (old f : FloatingRow) → slice_get rows.floatings k ≡ Some old → IsConsistent rows → IsRedirected rows k (disassociated f)
led_nowhere rows k old f at c = record {
  leads = refl;
  once = λ network port x.
      let moved = sum-set (λ (g : FloatingRow). cond {A = ℕ} (stands_for network port x g) 1 0) rows.floatings k old (disassociated f) at in
      let zero : cond {A = ℕ} (stands_for network port x (disassociated f)) 1 0 ≡ 0 = ap (λ (b : Bool). cond {A = ℕ} b 1 0) (and_fails (ident_eq network f.network) false refl) in
      omega (arith, moved, zero, c.floatings.once network port x);
}

-- each one to be disassociated differs from one that is there in its target and description alone
abbrev Stand : List FloatingRow → List FloatingRow → Type 0
Stand floatings fs = (j : ℕ) (f : FloatingRow) → slice_get fs j ≡ Some f → (k : ℕ) × (g : FloatingRow) × (slice_get floatings k ≡ Some g) × IsReplacedFloating g (disassociated f)

-- those that lead there are to be disassociated
abbrev Covered : List FloatingRow → List FloatingRow → (Target → Bool) → Type 0
Covered floatings fs lost = (k : ℕ) (f : FloatingRow) → slice_get floatings k ≡ Some f → is_some_so lost f.target ≡ true → (j : ℕ) × (slice_get fs j ≡ Some f)

-- of two that came of one row, one takes the place of the other
joined : (g f h : FloatingRow) → IsReplacedFloating g f → IsReplacedFloating g h → IsReplacedFloating f h
joined g f h a b = record {
  id = b.id ∙ sym a.id;
  project = b.project ∙ sym a.project;
  network = b.network ∙ sym a.network;
  own_port = b.own_port ∙ sym a.own_port;
  address = b.address ∙ sym a.address;
}

abbrev puts : List FloatingRow → List Edit
puts fs = map (λ (f : FloatingRow). Put (Floating (disassociated f))) fs

pub all_disassociated : (rows : RowLists) (fs : List FloatingRow) (lost : Target → Bool) → IsConsistent rows → Stand rows.floatings fs → Covered rows.floatings fs lost
    → AreDisassociated rows (puts fs) lost
all_disassociated rows [] lost c stand covered = record {
  floatings = rows.floatings;
  is = refl;
  consistent = c;
  none = λ k f at. by_test (is_some_so lost f.target) (is_some_so lost f.target ≡ false) (λ leads. none_some f _ (covered k f at leads).1) (λ fails. fails);
}
all_disassociated rows (f ∷ fs) lost c stand covered =
    let r = stand 0 f refl in
    let g : FloatingRow = r.1 in
    let same = put_at (λ (q : FloatingRow). q.id) rows.floatings r.0 g (disassociated f) r.2 r.3.id (λ i. omega (arith, c.numbered.ids i)) in
    let next : RowLists = record rows { floatings = put_in (λ (q : FloatingRow). q.id) (disassociated f) rows.floatings } in
    let kept : IsConsistent next = subst (λ floatings. IsConsistent (record rows { floatings = floatings })) (sym same)
    (floating_replaced rows r.0 g (disassociated f) r.2 r.3 (led_nowhere rows r.0 g f r.2 c) c) in
    let rest = all_disassociated next fs lost kept (standing r.0 g r.2 r.3) covering in
    record { floatings = rest.floatings; is = rest.is; consistent = rest.consistent; none = rest.none }
  where
    put : FloatingRow → FloatingRow
    put q = if ident_eq f.id q.id then disassociated f else q

    standing : (k : ℕ) (g : FloatingRow) → slice_get rows.floatings k ≡ Some g → IsReplacedFloating g (disassociated f) → Stand (map put rows.floatings) fs
    standing k g at as_f j h at_h =
        let r = stand (suc j) h at_h in
        let e : FloatingRow = r.1 in
        let there = get_map put rows.floatings r.0 e r.2 in
        by_test (ident_eq f.id e.id) ((k : ℕ) × (g : FloatingRow) × (slice_get (map put rows.floatings) k ≡ Some g) × IsReplacedFloating g (disassociated h))
        (λ is.
        let one = one_row (λ (q : FloatingRow). ident_eq f.id q.id) rows.floatings (omega (arith, c.numbered.ids f.id)) k r.0 g e at r.2 (ap (ident_eq f.id) (sym as_f.id) ∙ ident_itself f.id) is in
        (r.0, disassociated f, there ∙ ap (λ b. Some (if b then disassociated f else e)) is, joined g (disassociated f) (disassociated h) as_f (subst (λ q. IsReplacedFloating q (disassociated h)) (sym one) r.3)))
        (λ other. (r.0, e, there ∙ ap (λ b. Some (if b then disassociated f else e)) other, r.3))

    covering : Covered (map put rows.floatings) fs lost
    covering k h at leads =
        let r = map_get put rows.floatings k h at in
        let e : FloatingRow = r.0 in
        by_test (ident_eq f.id e.id) ((j : ℕ) × (slice_get fs j ≡ Some h))
        (λ is.
        let was : disassociated f ≡ h = sym (ap (λ b. if b then disassociated f else e) is) ∙ r.2 in
        false_true _ (ap (λ (q : FloatingRow). is_some_so lost q.target) was ∙ leads))
        (λ other.
        let was : e ≡ h = sym (ap (λ b. if b then disassociated f else e) other) ∙ r.2 in
        by_place e h was other (covered k e r.1 (ap (λ (q : FloatingRow). is_some_so lost q.target) was ∙ leads)))
      where
        by_place : (e h : FloatingRow) → e ≡ h → ident_eq f.id e.id ≡ false → (j : ℕ) × (slice_get (f ∷ fs) j ≡ Some e) → (j : ℕ) × (slice_get fs j ≡ Some h)
        by_place e h was other r = later e h was other r.0 r.1
          where
            later : (e h : FloatingRow) → e ≡ h → ident_eq f.id e.id ≡ false → (j : ℕ) → slice_get (f ∷ fs) j ≡ Some e → (j : ℕ) × (slice_get fs j ≡ Some h)
            later e h was other zero at_e = false_true _ (sym other ∙ (ap (λ (q : FloatingRow). ident_eq f.id q.id) (sym (some_equal f e at_e)) ∙ ident_itself f.id))
            later e h was other (suc j) at_e = (j, at_e ∙ ap Some was)

-- all whose target is lost
pub disassociations_keep : (rows : RowLists) (i : Ident) (kept : List Fixed) → IsConsistent rows → AreDisassociated rows (disassociations rows.floatings i kept) (loses_target i kept)
disassociations_keep rows i kept c = all_disassociated rows (filter (λ (f : FloatingRow). is_some_so (loses_target i kept) f.target) rows.floatings) (loses_target i kept) c
    (λ j f at.
    let r = at_filter (λ (f : FloatingRow). is_some_so (loses_target i kept) f.target) rows.floatings j f at in
    (r.0, f, r.1, record { id = refl; project = refl; network = refl; own_port = refl; address = refl }))
    (λ k f at leads. filter_has (λ (f : FloatingRow). is_some_so (loses_target i kept) f.target) rows.floatings k f at leads)
