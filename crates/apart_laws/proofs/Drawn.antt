-- Ids that are drawn leave what others own as it is.
use Rattle.api_types.proofs.ListLemmas.{none_some, some_equal}
use Rattle.api_types.proofs.NameLemmas.{bytes_itself}
use Rattle.api_types.specs.Consistent.{IsConsistent}
use Rattle.api_types.specs.Lists.{is_empty}
use Rattle.api_types.specs.Registration.{Drawing, default_group, default_rule, default_rules, draw_at, draw_for, draw_of, is_named, with_count, with_project}
use Rattle.api_types.specs.RowLists.{RowLists}
use Rattle.api_types.specs.declared.group.Direction.TheVariants.{Egress, Ingress}
use Rattle.api_types.specs.declared.group.Ethertype.TheVariants.{Ipv4, Ipv6}
use Rattle.api_types.specs.declared.group.GroupRow.{GroupRow}
use Rattle.api_types.specs.declared.group.RuleRow.{RuleRow}
use Rattle.api_types.specs.declared.project.ProjectRow.{ProjectRow}
use Rattle.call_parts.proofs.DrawnLemmas.{drawn_is}
use Rattle.call_parts.specs.State.{State, drawing_at}
use Rattle.apart_laws.proofs.Filtered.{left_off, one_pushed, others_pushed, others_set}
use Rattle.apart_laws.proofs.Steps.{Spares, others}
use Rattle.row_laws.proofs.DrawnKept.{by_position, drawn_new, draws}
use Rattle.row_laws.specs.Drawn.{AreNew}
use Rattle.std.proofs.Common.{Bool, List, None, Option, Some, [], ap, false, if◌then◌else◌, length, not, refl, slice_get, subst, true, ℕ, ◌+◌, ◌-◌, ◌<◌, ◌^◌, ◌∙◌, ◌∷◌, ◌≡◌}
use Rattle.std.specs.Prelude.{nat_lt}
use Rattle.std.specs.Str.{bytes_eq}

-- the lists that a drawing doesn't touch
pub record LeavesRest (old new : RowLists) : Type 0 where
  pub networks : new.networks ≡ old.networks
  pub subnets : new.subnets ≡ old.subnets
  pub ports : new.ports ≡ old.ports
  pub routers : new.routers ≡ old.routers
  pub floatings : new.floatings ≡ old.floatings
  pub policies : new.policies ≡ old.policies

pub record DrawsSparing (project : List ℕ) (old new : RowLists) : Type 0 where
  pub spares : Spares project old new
  pub rest : LeavesRest old new

taken : {X : Type 0} (b : Bool) (x y : X) → (if b then Some x else None) ≡ Some y → x ≡ y
taken true x y h = some_equal x y h
taken false x y h = none_some y _ h

registered : (rows : RowLists) (name : List ℕ) (ordinal count : ℕ) → DrawsSparing name rows (with_project rows name ordinal count)
registered rows name ordinal count =
    let own : not (bytes_eq name name) ≡ false = ap not (bytes_itself name) in
    let first : ProjectRow = record { name = name; ordinal = ordinal; count = count } in
    let kept : RuleRow → Bool = others (λ (r : RuleRow). r.project) name in
    let two : RuleRow = default_rule name ordinal 2 Egress Ipv4 in
    let three : RuleRow = default_rule name ordinal 3 Egress Ipv6 in
    let four : RuleRow = default_rule name ordinal 4 Ingress Ipv4 in
    let five : RuleRow = default_rule name ordinal 5 Ingress Ipv6 in
    record {
      spares = record {
        projects = one_pushed (others (λ (r : ProjectRow). r.name) name) rows.projects first own;
        networks = refl;
        subnets = refl;
        groups = one_pushed (others (λ (r : GroupRow). r.project) name) rows.groups (default_group name ordinal) own;
        rules = others_pushed kept rows.rules (default_rules name ordinal)
            (left_off kept two (three ∷ four ∷ five ∷ []) own ∙ (left_off kept three (four ∷ five ∷ []) own ∙ (left_off kept four (five ∷ []) own ∙ left_off kept five [] own)));
        routers = refl;
        policies = refl;
        floatings = refl;
        ports = refl;
      };
      rest = record { networks = refl; subnets = refl; ports = refl; routers = refl; floatings = refl; policies = refl };
    }

drawn_spares : (rows : RowLists) (name : List ℕ) (many : ℕ) (d : Drawing) → draw_of rows name many ≡ Some d → DrawsSparing name rows d.rows
drawn_spares rows name many d = by_position (is_named name) rows.projects (λ o. draw_at rows name many o ≡ Some d → DrawsSparing name rows d.rows)
    (λ unknown h. subst (λ (e : Drawing). DrawsSparing name rows e.rows)
    (taken (nat_lt (length rows.projects) (2 ^ 32 - 1)) (record { rows = with_project rows name (length rows.projects + 1) (5 + many); ordinal = length rows.projects + 1; first = 6 }) d h)
    (registered rows name (length rows.projects + 1) (5 + many)))
    (λ place named. at_place place (slice_get rows.projects place) refl named)
  where
    at_place : (place : ℕ) (o : Option ProjectRow) → slice_get rows.projects place ≡ o → ((p : ProjectRow) → slice_get rows.projects place ≡ Some p → is_named name p ≡ true)
        → draw_for rows place many o ≡ Some d → DrawsSparing name rows d.rows
    at_place place None at named h = none_some d _ h
    at_place place (Some p) at named h =
        let own : not (bytes_eq p.name name) ≡ false = ap not (named p at) in
        subst (λ (e : Drawing). DrawsSparing name rows e.rows)
        (taken (nat_lt (p.count + many) (2 ^ 62)) (record { rows = with_count rows place p (p.count + many); ordinal = p.ordinal; first = p.count + 1 }) d h)
        (record {
          spares = record {
            projects = others_set (others (λ (r : ProjectRow). r.name) name) rows.projects place p (record p { count = p.count + many }) at own own;
            networks = refl;
            subnets = refl;
            groups = refl;
            rules = refl;
            routers = refl;
            policies = refl;
            floatings = refl;
            ports = refl;
          };
          rest = record { networks = refl; subnets = refl; ports = refl; routers = refl; floatings = refl; policies = refl };
        })

-- for a name that is the project's
pub draws_sparing : (state : State) (project name : List ℕ) (many : ℕ) (d : Drawing) → name ≡ project → drawing_at state name many ≡ Some d → DrawsSparing project state.rows d.rows
draws_sparing state project name many d same drawn = subst (λ p. DrawsSparing p state.rows d.rows) same (drawn_spares state.rows name many d (drawn_is state name many d drawn))

-- the ids that were drawn are no port's and no router's
pub drawn_fresh : (state : State) (project name : List ℕ) (many : ℕ) (d : Drawing) → IsConsistent state.rows → not (is_empty project) ≡ true → name ≡ project → 5 + many < 2 ^ 62 → drawing_at state name many ≡ Some d → AreNew many d
drawn_fresh state project name many d c named same room drawn =
    drawn_new state.rows name many d (draws state.rows name many d c (ap (λ p. not (is_empty p)) same ∙ named) room (drawn_is state name many d drawn))
