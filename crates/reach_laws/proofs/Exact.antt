-- What an audit evaluates is exact: one number of a piece, from one source other than it.
use Rattle.std.proofs.Common.{◌≡◌, ℕ, zero, suc, ◌≤◌, List, [], ◌∷◌, Bool, true, false, Some, refl, ap, sym, ◌∙◌, arith}
use Rattle.std.specs.Prelude.{◌||◌, ◌==◌, if◌then◌else◌}
use Rattle.std.proofs.lemmas.Bool.Decides.{nat_tests}
use Rattle.net_addr.specs.declared.address.Addr.{Addr}
use Rattle.api_types.specs.RowLists.{RowLists}
use Rattle.api_types.specs.RowsWith.{port_with}
use Rattle.api_types.proofs.ListLemmas.{or_true}
use Rattle.api_types.specs.Consistent.{IsConsistent}
use Rattle.api_types.specs.Ident.{Ident}
use Rattle.api_types.specs.Members.{names_group}
use Rattle.api_types.specs.Table.{ident_eq}
use Rattle.api_types.specs.declared.group.Direction.TheVariants.{Egress, Ingress}
use Rattle.api_types.specs.declared.group.RuleRow.{RuleRow}
use Rattle.api_types.specs.declared.port.PortRow.{PortRow}
use Rattle.plane_types.specs.Filter.{has_type}
use Rattle.plane_types.specs.declared.frame.KeyKind.TheVariants.{EchoAsk as AskKey, Tcp as TcpKey, Udp as UdpKey}
use Rattle.plane_types.specs.declared.frame.KeyPart.TheVariants.{EchoAsk, Proto, Tcp, Udp}
use Rattle.reach_laws.proofs.Follow.{OwnGateways}
use Rattle.reach_laws.proofs.Gateways.{own-gateways, same-port}
use Rattle.reach_laws.proofs.OtherEvents.{others}
use Rattle.reach_laws.proofs.RowsFound.{IsRow, found-at}
use Rattle.reach_laws.proofs.Reached.{carries, echo-rules, other-rules, tcp-rules, udp-rules}
use Rattle.reach_laws.specs.Decides.{Decides}
use Rattle.reach_laws.specs.Numbers.{part_by}
use Rattle.reach_laws.specs.Pieces.{AreAlike, AreNamedAlike, AreOnePiece}
use Rattle.reach_laws.specs.Reach.{Reaches, comes}
use Rattle.reach_laws.specs.declared.kind.ReachKind.{ReachKind}
use Rattle.reach_laws.specs.declared.kind.ReachKind.TheVariants.{Tcp as TcpReach, Udp as UdpReach, Echo as EchoReach, Other as OtherReach}

-- some source other than the number
abbrev source_for : ℕ → ℕ
source_for d = if d == 0 then 1 else 0

source-apart : (d : ℕ) → (source_for d == d) ≡ false
source-apart zero = refl
source-apart (suc d) = grind (arith, nat_tests)

turned : (r d : ℕ) → (r == d) ≡ false → (d == r) ≡ false
turned r d h = grind (arith, nat_tests)

source-fits : (d : ℕ) → source_for d ≤ 65535
source-fits d = go (d == 0)
  where
    go : (b : Bool) → (if b then 1 else 0) ≤ 65535
    go true = omega arith
    go false = omega arith

alike-back : (p q : PortRow) (d e : ℕ) (rules : List RuleRow) → AreAlike p q d e rules → AreAlike p q e d rules
alike-back p q d e [] h = tt
alike-back p q d e (r ∷ rules) h = ((λ named. sym (h.0 named)), alike-back p q d e rules h.1)

named-back : (p q : PortRow) (n m : ℕ) (rules : List RuleRow) → AreNamedAlike p q n m rules → AreNamedAlike p q m n rules
named-back p q n m [] h = tt
named-back p q n m (r ∷ rules) h = ((λ named. sym (h.0 named)), named-back p q n m rules h.1)

module _ (rows : RowLists) (c : IsConsistent rows) (p q : PortRow) (there : port_with rows p.id ≡ Some p) (there_too : port_with rows q.id ≡ Some q) (a b : Addr) where
  good : OwnGateways rows
  good = own-gateways rows c

  -- a group that a port names is one that p or q names
  of_p : (i : Ident) → names_group i p.groups ≡ true → (names_group i p.groups || names_group i q.groups) ≡ true
  of_p i named = ap (λ y. y || names_group i q.groups) named

  of_q : (x : PortRow) → IsRow rows x → ident_eq q.id x.id ≡ true → (i : Ident) → names_group i x.groups ≡ true → (names_group i p.groups || names_group i q.groups) ≡ true
  of_q x row same i named =
      let is = same-port rows c q x (found-at (λ (y : PortRow). ident_eq q.id y.id) rows.ports q there_too) row same in
      ap (λ y. names_group i p.groups || y) (ap (λ (y : PortRow). names_group i y.groups) (sym is) ∙ named) ∙ or_true (names_group i p.groups)

  module _ (r d e : ℕ) (apart : (r == d) ≡ false) (alike : AreAlike p q d e rows.rules) where
    tcp-to : (s : ℕ) → comes rows p a q b (Tcp r d) ≡ true → comes rows p a q b (Tcp s e) ≡ true
    tcp-to s h = carries rows good p q there (Tcp r d) TcpKey r d (λ ends. refl) apart (turned r d apart) (Tcp s e)
        (λ ends k. sym (tcp-rules rows p q p of_p ends r d s e Egress alike) ∙ k)
        (λ x ends row same k. sym (tcp-rules rows p q x (of_q x row same) ends r d s e Ingress alike) ∙ k) a b h

    udp-to : (s : ℕ) → comes rows p a q b (Udp r d) ≡ true → comes rows p a q b (Udp s e) ≡ true
    udp-to s h = carries rows good p q there (Udp r d) UdpKey r d (λ ends. refl) apart (turned r d apart) (Udp s e)
        (λ ends k. sym (udp-rules rows p q p of_p ends r d s e Egress alike) ∙ k)
        (λ x ends row same k. sym (udp-rules rows p q x (of_q x row same) ends r d s e Ingress alike) ∙ k) a b h

  echo-to : (r s : ℕ) → comes rows p a q b (EchoAsk r) ≡ true → comes rows p a q b (EchoAsk s) ≡ true
  echo-to r s h = carries rows good p q there (EchoAsk r) AskKey r 0 (λ ends. refl) refl refl (EchoAsk s)
      (λ ends k. sym (echo-rules rows p ends r s Egress) ∙ k) (λ x ends row same k. sym (echo-rules rows x ends r s Ingress) ∙ k) a b h

  other-to : (n m : ℕ) → (has_type n ≡ has_type m) × AreNamedAlike p q n m rows.rules → comes rows p a q b (Proto n) ≡ true → comes rows p a q b (Proto m) ≡ true
  other-to n m alike h = others rows good p q there a b n m (λ ends. sym (other-rules rows p q p of_p ends n m Egress alike)) (λ x dir ends row same. sym (other-rules rows p q x (of_q x row same) ends n m dir alike)) ∙ h

  -- any source other than the number decides
  pub decides : (kind : ReachKind) (s d e : ℕ) → (s == d) ≡ false → AreOnePiece rows p q kind d e → Decides (comes rows p a q b (part_by kind s d)) (Reaches rows p a q b kind e)
  decides TcpReach s d e apart alike =
      ((λ h t fits. tcp-to s d e apart alike t h), (λ all. tcp-to (source_for e) e d (source-apart e) (alike-back p q d e rows.rules alike) s (all (source_for e) (source-fits e))))
  decides UdpReach s d e apart alike =
      ((λ h t fits. udp-to s d e apart alike t h), (λ all. udp-to (source_for e) e d (source-apart e) (alike-back p q d e rows.rules alike) s (all (source_for e) (source-fits e))))
  decides EchoReach s d e apart alike = ((λ h t fits. echo-to s t h), (λ all. echo-to 1 s (all 1 (omega arith))))
  decides OtherReach s d e apart alike = ((λ h t fits. other-to d e alike h), (λ all. other-to e d (sym alike.0, named-back p q d e rows.rules alike.1) (all 0 (omega arith))))
