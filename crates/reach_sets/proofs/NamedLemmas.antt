-- Ports that a table names are rows.
use Rattle.std.proofs.Common.{◌≡◌, true, Option, Some, None, refl, ap, sym, ◌∙◌, subst}
use Rattle.std.specs.Prelude.{is_some, option_map, option_and_then, if◌then◌else◌}
use Rattle.net_addr.specs.Addresses.{same_version}
use Rattle.net_addr.specs.declared.address.Addr.{Addr}
use Rattle.api_types.proofs.NameLemmas.{ident_same}
use Rattle.api_types.specs.Ident.{Ident}
use Rattle.api_types.specs.RowLists.{RowLists}
use Rattle.api_types.specs.RowsWith.{port_with}
use Rattle.api_types.specs.Table.{ident_eq}
use Rattle.api_types.specs.declared.port.PortRow.{PortRow}
use Rattle.plane_types.specs.Ends.{Ends, ends_of}
use Rattle.reach_laws.proofs.Lists.{find-passes}
use Rattle.reach_sets.specs.Named.{both_named, ends_if_same, ends_named, named, with_ends}
use Rattle.reach_sets.specs.TwoPorts.{AreRows, TwoPorts, ports_with_ends}
use Rattle.wanted_files.specs.declared.wanted.WantedReach.{WantedReach}

pub found-again : (rows : RowLists) (i : Ident) (p : PortRow) → port_with rows i ≡ Some p → port_with rows p.id ≡ Some p
found-again rows i p h =
    let same : i ≡ p.id = ident_same i p.id (find-passes (λ (r : PortRow). ident_eq i r.id) rows.ports p h) in
    ap (port_with rows) (sym same) ∙ h

pub named-rows : (rows : RowLists) (w : WantedReach) (x : TwoPorts) → named rows w ≡ Some x → AreRows rows x
named-rows rows w x h = first (port_with rows w.from) refl h
  where
    third : (p q : PortRow) → port_with rows w.from ≡ Some p → port_with rows w.to ≡ Some q → (o : Option Ends) → option_map (with_ends p q) o ≡ Some x → AreRows rows x
    third p q there too None e = cc
    third p q there too (Some ends) e =
        let same : with_ends p q ends ≡ x = cc in
        subst (AreRows rows) same (record { from = found-again rows w.from p there; to = found-again rows w.to q too })

    second : (p : PortRow) → port_with rows w.from ≡ Some p → (o : Option PortRow) → port_with rows w.to ≡ o → option_and_then (both_named w p) o ≡ Some x → AreRows rows x
    second p there None too e = cc
    second p there (Some q) too e = third p q there too (ends_named p q w) e

    first : (o : Option PortRow) → port_with rows w.from ≡ o → option_and_then (λ (p : PortRow). option_and_then (both_named w p) (port_with rows w.to)) o ≡ Some x → AreRows rows x
    first None there e = cc
    first (Some p) there e = second p there (port_with rows w.to) refl e

pub pair-rows : (rows : RowLists) (i j : Ident) (o : Option Ends) (x : TwoPorts) → ports_with_ends (port_with rows i) (port_with rows j) o ≡ Some x → AreRows rows x
pair-rows rows i j o x h = first (port_with rows i) refl h
  where
    third : (p q : PortRow) → port_with rows i ≡ Some p → port_with rows j ≡ Some q → (e : Option Ends) → option_map (with_ends p q) e ≡ Some x → AreRows rows x
    third p q there too None e = cc
    third p q there too (Some ends) e =
        let same : with_ends p q ends ≡ x = cc in
        subst (AreRows rows) same (record { from = found-again rows i p there; to = found-again rows j q too })

    second : (p : PortRow) → port_with rows i ≡ Some p → (q : Option PortRow) → port_with rows j ≡ q → option_and_then (λ (q : PortRow). option_map (with_ends p q) o) q ≡ Some x → AreRows rows x
    second p there None too e = cc
    second p there (Some q) too e = third p q there too o e

    first : (p : Option PortRow) → port_with rows i ≡ p → ports_with_ends p (port_with rows j) o ≡ Some x → AreRows rows x
    first None there e = cc
    first (Some p) there e = second p there (port_with rows j) refl e

pub pair-is : (rows : RowLists) (i j : Ident) (a b : Addr) (p q : PortRow) → port_with rows i ≡ Some p → port_with rows j ≡ Some q → same_version a b ≡ true → ports_with_ends (port_with rows i) (port_with rows j) (ends_if_same a b) ≡ Some (with_ends p q (ends_of a b))
pair-is rows i j a b p q there too same =
    ap (λ (o : Option PortRow). ports_with_ends o (port_with rows j) (ends_if_same a b)) there ∙ ap (λ (o : Option PortRow). ports_with_ends (Some p) o (ends_if_same a b)) too
    ∙ ap (λ t. ports_with_ends (Some p) (Some q) (if t then Some (ends_of a b) else None)) same

-- two ports that are there, and addresses of one version, are a pair
pub pair-there : (rows : RowLists) (i j : Ident) (a b : Addr) → is_some (port_with rows i) ≡ true → is_some (port_with rows j) ≡ true → same_version a b ≡ true → ports_with_ends (port_with rows i) (port_with rows j) (ends_if_same a b) ≡ None → ⊥
pair-there rows i j a b there too same none = first (port_with rows i) refl there
  where
    second : (p : PortRow) → port_with rows i ≡ Some p → (o : Option PortRow) → port_with rows j ≡ o → is_some o ≡ true → ⊥
    second p e None f h = cc
    second p e (Some q) f h = let bad : None ≡ Some (with_ends p q (ends_of a b)) = sym none ∙ pair-is rows i j a b p q e f same in cc

    first : (o : Option PortRow) → port_with rows i ≡ o → is_some o ≡ true → ⊥
    first None e h = cc
    first (Some p) e h = second p e (port_with rows j) refl too
