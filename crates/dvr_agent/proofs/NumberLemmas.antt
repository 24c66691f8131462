-- The numbers of near networks, port by port.
use Rattle.std.proofs.Common.{◌≡◌, ◌∙◌, ℕ, Bool, true, false, List, [], ◌∷◌, None, Some, Option, ap, cond, refl, sym}
use Rattle.std.specs.List.{list_any}
use Rattle.std.specs.Prelude.{◌&&◌, ◌||◌, if◌then◌else◌, is_some, not}
use Rattle.api_types.proofs.NameLemmas.{ident_same}
use Rattle.api_types.proofs.TableLemmas.{ident_eq-sym}
use Rattle.api_types.specs.Ident.{Ident}
use Rattle.api_types.specs.Live.{is_live, segment}
use Rattle.api_types.specs.Owners.{is_interface}
use Rattle.api_types.specs.RowLists.{RowLists}
use Rattle.api_types.specs.Table.{ident_eq}
use Rattle.api_types.specs.declared.port.PortRow.{PortRow}
use Rattle.dvr_agent.specs.Near.{near_number, number_with}
use Rattle.dvr_types.specs.Copies.{is_live_interface, vxlan_number}

-- the number after these ports
abbrev pub with_ports : RowLists → Ident → Option ℕ → List PortRow → Option ℕ
with_ports rows n x [] = x
with_ports rows n x (p ∷ ps) = with_ports rows n (number_with rows p n x) ps

module _ (rows : RowLists) (n : Ident) where
  abbrev own : Bool → Option ℕ
  own b = cond b (vxlan_number (segment rows n)) None

  abbrev old : PortRow → Bool → Bool → Bool → Option ℕ → Option ℕ
  old p i l e x = elim (if not i || not l then None else vxlan_number (segment rows p.network)) [ None ↦ x | Some k ↦ if e then Some k else x ]

  one : (p : PortRow) (b : Bool) → number_with rows p n (own b) ≡ own (b || is_live_interface rows n p)
  one p b = ap (λ e. old p (is_interface p.owner) (is_live rows p) e (own b)) (ident_eq-sym p.network n) ∙ go (is_interface p.owner) (is_live rows p) (ident_eq n p.network) refl b
    where
      same : (i : Ident) → n ≡ i → (c : Bool) → (o : Option ℕ) → vxlan_number (segment rows i) ≡ o → elim o [ None ↦ own c | Some k ↦ Some k ] ≡ own true
      same i is true None e = refl
      same i is false None e = sym (ap (λ j. vxlan_number (segment rows j)) is ∙ e)
      same i is c (Some k) e = sym (ap (λ j. vxlan_number (segment rows j)) is ∙ e)

      other : (o : Option ℕ) (c : Bool) → elim o [ None ↦ own c | Some k ↦ own c ] ≡ own c
      other None c = refl
      other (Some k) c = refl

      or_false : (c : Bool) → own c ≡ own (c || false)
      or_false true = refl
      or_false false = refl

      or_true : (c : Bool) → own true ≡ own (c || true)
      or_true true = refl
      or_true false = refl

      go : (i l e : Bool) → ident_eq n p.network ≡ e → (c : Bool) → old p i l e (own c) ≡ own (c || (e && i && l))
      go true true true k c = same p.network (ident_same n p.network k) c (vxlan_number (segment rows p.network)) refl ∙ or_true c
      go true true false k c = other (vxlan_number (segment rows p.network)) c ∙ or_false c
      go true false true k c = or_false c
      go true false false k c = or_false c
      go false true true k c = or_false c
      go false true false k c = or_false c
      go false false true k c = or_false c
      go false false false k c = or_false c

  all : (b : Bool) (ps : List PortRow) → with_ports rows n (own b) ps ≡ own (b || list_any (is_live_interface rows n) ps)
  all true [] = refl
  all false [] = refl
  all b (p ∷ ps) = ap (λ x. with_ports rows n x ps) (one p b) ∙ all (b || is_live_interface rows n p) ps ∙ ap own (assoc b (is_live_interface rows n p) (list_any (is_live_interface rows n) ps))
    where
      assoc : (x y z : Bool) → ((x || y) || z) ≡ (x || (y || z))
      assoc true y z = refl
      assoc false y z = refl

  -- after all ports
  pub numbers-near : with_ports rows n None rows.ports ≡ near_number rows n
  numbers-near = all false rows.ports ∙ go (vxlan_number (segment rows n)) (list_any (is_live_interface rows n) rows.ports)
    where
      go : (o : Option ℕ) (b : Bool) → cond b o None ≡ (if is_some o && b then o else None)
      go None true = refl
      go None false = refl
      go (Some k) true = refl
      go (Some k) false = refl
