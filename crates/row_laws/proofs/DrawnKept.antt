-- Ids that are drawn for a project, which is registered first where it is new, keep rows consistent and are new.
use Rattle.std.proofs.Common.{◌≡◌, ℕ, ◌+◌, ◌-◌, ◌<◌, ◌≤◌, ◌^◌, suc, List, [], ◌∷◌, Bool, true, false, cond, Option, Some, None, length, slice_get, refl, ap, sym, ◌∙◌, arith, subst}
use Rattle.std.specs.Prelude.{◌||◌, not, nat_lt, position, if◌then◌else◌}
use Rattle.std.specs.List.{list_any, position_or_len}
use Rattle.std.proofs.lemmas.Bool.Decides.{nat_tests}
use Rattle.api_types.specs.Lists.{is_empty}
use Rattle.api_types.specs.RowLists.{RowLists}
use Rattle.api_types.specs.Registration.{ident, is_named, with_project, with_count, Drawing, drawn_id, draw_for, draw_at, draw_of}
use Rattle.api_types.specs.Consistent.{IsConsistent}
use Rattle.api_types.specs.Consistent.Named.{is_registered}
use Rattle.api_types.specs.Consistent.Carried.{AreCarried}
use Rattle.api_types.specs.declared.project.ProjectRow.{ProjectRow}
use Rattle.api_types.specs.declared.network.Segment.{Segment}
use Rattle.row_laws.specs.Drawn.{IsDrawing, AreNew}
use Rattle.api_types.proofs.ListLemmas.{some_equal, none_some}
use Rattle.api_types.proofs.NameLemmas.{bytes_same}
use Rattle.api_types.proofs.IdLemmas.{undrawn_absent}
use Rattle.row_laws.proofs.TimesLemmas.{absent}
use Rattle.row_laws.proofs.CountRaised.{count_raised, undrawn_above, drawn_up_to, named_still}
use Rattle.row_laws.proofs.ProjectRegistered as registered

-- the row at the first place that passes passes
place_passes : {R : Type 0} (test : R → Bool) (xs : List R) (x : R) → slice_get xs (position_or_len test xs) ≡ Some x → test x ≡ true
place_passes test [] x at = none_some x _ at
place_passes test (a ∷ xs) x at = by (test a) refl at (λ g. place_passes test xs x g)
  where
    by : (b : Bool) → test a ≡ b → slice_get (a ∷ xs) (cond (not b) (1 + position_or_len test xs) 0) ≡ Some x → (slice_get xs (position_or_len test xs) ≡ Some x → test x ≡ true) → test x ≡ true
    by true e at rest = ap test (sym (some_equal a x at)) ∙ e
    by false e at rest = let step : 1 + position_or_len test xs ≡ suc (position_or_len test xs) = omega arith in rest (ap (slice_get (a ∷ xs)) (sym step) ∙ at)

-- where no place passes, no row does
no_place : {R : Type 0} (test : R → Bool) (xs : List R) → length xs ≤ position_or_len test xs → list_any test xs ≡ false
no_place test [] h = refl
no_place test (a ∷ xs) h = by (test a) refl h (λ g. no_place test xs g)
  where
    by : (b : Bool) → test a ≡ b → length (a ∷ xs) ≤ cond (not b) (1 + position_or_len test xs) 0 → (length xs ≤ position_or_len test xs → list_any test xs ≡ false) → b || list_any test xs ≡ false
    by true e h rest = absurd (omega (arith, h))
    by false e h rest = rest (omega (arith, h))

-- by what `position` finds
pub by_position : {R : Type 0} (test : R → Bool) (xs : List R) (P : Option ℕ → Type 0) → (list_any test xs ≡ false → P None)
    → ((k : ℕ) → ((x : R) → slice_get xs k ≡ Some x → test x ≡ true) → P (Some k)) → P (position test xs)
by_position test xs P none some = by (nat_lt (position_or_len test xs) (length xs)) refl
  where
    above : (a b : ℕ) → nat_lt a b ≡ false → b ≤ a
    above a b h = grind (arith, nat_tests)

    by : (b : Bool) → nat_lt (position_or_len test xs) (length xs) ≡ b → P (cond b (Some (position_or_len test xs)) None)
    by true e = some (position_or_len test xs) (place_passes test xs)
    by false e = none (no_place test xs (above (position_or_len test xs) (length xs) e))

taken : {X : Type 0} (b : Bool) (x y : X) → (if b then Some x else None) ≡ Some y → (b ≡ true) × (x ≡ y)
taken true x y h = (refl, some_equal x y h)
taken false x y h = none_some y _ h

below : (a b : ℕ) → nat_lt a b ≡ true → a < b
below a b h = grind (arith, nat_tests)

-- for a project that is there
known_drawing : (rows : RowLists) (name : List ℕ) (place many : ℕ) (p : ProjectRow) → IsConsistent rows → slice_get rows.projects place ≡ Some p → is_named name p ≡ true
    → p.count + many < 2 ^ 62 → IsDrawing rows name many (record { rows = with_count rows place p (p.count + many); ordinal = p.ordinal; first = p.count + 1 })
known_drawing rows name place many p c at named room = record {
  consistent = count_raised rows place p (p.count + many) at (omega arith) room c;
  fresh = λ k within. undrawn_absent rows (ident p.ordinal (p.count + 1 + k)) c.numbered.drawn (undrawn_above rows place p (p.count + many) at (p.count + 1 + k) (omega arith) c.numbered.projects.ordered);
  drawn = λ k within. drawn_up_to rows place p (p.count + many) at (p.count + 1 + k) (omega arith) (omega (arith, within));
  project = ap (is_registered (with_count rows place p (p.count + many)).projects) (sym (bytes_same p.name name named)) ∙ named_still rows place p (p.count + many) at;
  networks = refl;
  subnets = refl;
  ports = refl;
  routers = refl;
  floatings = refl;
  policies = refl;
}

-- for a new one
new_drawing : (rows : RowLists) (name : List ℕ) (many : ℕ) → IsConsistent rows → not (is_empty name) ≡ true → length rows.projects + 1 < 2 ^ 32 → is_registered rows.projects name ≡ false → 5 + many < 2 ^ 62
    → IsDrawing rows name many (record { rows = with_project rows name (length rows.projects + 1) (5 + many); ordinal = length rows.projects + 1; first = 6 })
new_drawing rows name many c has_name fewer unknown room = record {
  consistent = registered.project_registered rows name (5 + many) (omega arith) room has_name fewer unknown c;
  fresh = λ k within. registered.free_above rows name (5 + many) (6 + k) (omega arith) c.numbered;
  drawn = λ k within. registered.drawn_up_to rows.projects (record { name = name; ordinal = length rows.projects + 1; count = 5 + many }) refl (6 + k) (omega arith) (omega (arith, within));
  project = registered.now_known rows.projects (record { name = name; ordinal = length rows.projects + 1; count = 5 + many }) refl;
  networks = refl;
  subnets = refl;
  ports = refl;
  routers = refl;
  floatings = refl;
  policies = refl;
}

pub draws : (rows : RowLists) (name : List ℕ) (many : ℕ) (d : Drawing) → IsConsistent rows → not (is_empty name) ≡ true → 5 + many < 2 ^ 62 → draw_of rows name many ≡ Some d → IsDrawing rows name many d
draws rows name many d c has_name room = by_position (is_named name) rows.projects (λ o. draw_at rows name many o ≡ Some d → IsDrawing rows name many d)
    (λ unknown h. let t = taken (nat_lt (length rows.projects) (2 ^ 32 - 1)) (record { rows = with_project rows name (length rows.projects + 1) (5 + many); ordinal = length rows.projects + 1; first = 6 }) d h in
    let less : length rows.projects < 2 ^ 32 - 1 = below (length rows.projects) (2 ^ 32 - 1) t.0 in
    subst (IsDrawing rows name many) t.1 (new_drawing rows name many c has_name (omega (arith, less)) unknown room))
    (λ place named. at_place place (slice_get rows.projects place) refl named)
  where
    at_place : (place : ℕ) (o : Option ProjectRow) → slice_get rows.projects place ≡ o → ((p : ProjectRow) → slice_get rows.projects place ≡ Some p → is_named name p ≡ true)
        → draw_for rows place many o ≡ Some d → IsDrawing rows name many d
    at_place place None at named h = none_some d _ h
    at_place place (Some p) at named h =
        let t = taken (nat_lt (p.count + many) (2 ^ 62)) (record { rows = with_count rows place p (p.count + many); ordinal = p.ordinal; first = p.count + 1 }) d h in
        subst (IsDrawing rows name many) t.1 (known_drawing rows name place many p c at (named p at) (below (p.count + many) (2 ^ 62) t.0))

pub drawn_new : (rows : RowLists) (name : List ℕ) (many : ℕ) (d : Drawing) → IsDrawing rows name many d → AreNew many d
drawn_new rows name many d is k within = absent d.rows (drawn_id d k) (is.fresh k within)

-- what the settings let the hosts carry
pub drawing_carried : (carries : List ℕ → Segment → Bool) (rows : RowLists) (name : List ℕ) (many : ℕ) (d : Drawing) → IsDrawing rows name many d
    → AreCarried carries rows.networks rows.ports → AreCarried carries d.rows.networks d.rows.ports
drawing_carried carries rows name many d is c =
    subst (λ networks. AreCarried carries networks d.rows.ports) (sym is.networks) (subst (λ ports. AreCarried carries rows.networks ports) (sym is.ports) c)
