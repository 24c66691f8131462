-- The filter rows of a tap allow what the rules of its port's groups allow.
use Rattle.std.proofs.Common.{◌≡◌, ℕ, List, [], ◌∷◌, ◌++◌, map, Bool, true, false, Option, Some, None, refl, ap, sym, ◌∙◌}
use Rattle.std.specs.Prelude.{find, flat_map, ◌&&◌, ◌||◌, ◌==◌, if◌then◌else◌}
use Rattle.std.specs.List.{filter_map, cons_option, list_any}
use Rattle.std.proofs.lemmas.Bool.{and_parts, and_from, eqb-true, or_right}
use Rattle.std.proofs.lemmas.List.Folds.{list_any-append}
use Rattle.api_types.proofs.NameLemmas.{ident_same, ident_itself}
use Rattle.plane_laws.proofs.ListLemmas.{find-only, any-at, list_any-flat_map, list_any-same, list_any-same_each, list_any-map, list_any-found}
use Rattle.net_addr.proofs.AddrLemmas.{addr_same, one_address}
use Rattle.net_addr.specs.Addresses.{addr_eq}
use Rattle.net_addr.specs.Ordered.{whole_prefix}
use Rattle.net_addr.specs.declared.address.Addr.{Addr}
use Rattle.net_addr.specs.Prefixes.{Prefix, contains}
use Rattle.api_types.specs.Consistent.Groups.{is_direction, is_ethertype, prefix_eq}
use Rattle.api_types.specs.Ident.{Ident}
use Rattle.api_types.specs.Lists.{stands}
use Rattle.api_types.specs.RowLists.{RowLists}
use Rattle.api_types.specs.Table.{ident_eq}
use Rattle.api_types.specs.declared.group.Direction.{Direction}
use Rattle.api_types.specs.declared.group.GroupRow.{GroupRow}
use Rattle.api_types.specs.declared.group.RuleRow.{RuleRow}
use Rattle.api_types.specs.declared.port.Fixed.{Fixed}
use Rattle.api_types.specs.declared.port.Pair.{Pair}
use Rattle.api_types.specs.declared.port.PortRow.{PortRow}
use Rattle.api_types.specs.Ascending.{ascending, put_in, prefix_before}
use Rattle.plane_types.specs.Ends.{ethertype_of}
use Rattle.plane_types.specs.Filter.{far_fits, far_of, in_range, parts_fit, rule_matches, rules_allow, same_or_none}
use Rattle.api_types.specs.Members.{gives_member, in_pairs, is_member, names_group, members, once, prefixes_of}
use Rattle.api_types.specs.Holders.{holds}
use Rattle.plane_types.specs.Keys.{protocol_of}
use Rattle.plane_types.specs.TableRows.{filter_by, filter_of, filter_rows, filters_of, filters_of_group, is_tap, names_remote, set_rows, set_rows_of}
use Rattle.plane_types.specs.TableStep.{in_set, row_fits, tables_allow}
use Rattle.plane_types.specs.declared.frame.Key.{Key}
use Rattle.plane_types.specs.declared.table.FilterRow.{FilterRow}
use Rattle.plane_types.specs.declared.table.SetRow.{SetRow}
use Rattle.plane_types.specs.declared.lists.TableLists.{TableLists}
use Rattle.plane_laws.proofs.Facts.{AllOf, FrameFacts, HostFacts, RemoteStands, has_id}

-- words on tests
and_false : (b : Bool) → (b && false) ≡ false
and_false true = refl
and_false false = refl

any-const : {X : Type 0} (E : X → Bool) (c : Bool) (xs : List X) → list_any (λ x. E x && c) xs ≡ (list_any E xs && c)
any-const E c [] = refl
any-const {X} E c (x ∷ xs) = ap (λ b. (E x && c) || b) (any-const E c xs) ∙ go (E x) (list_any E xs) c
  where
    go : (a b c : Bool) → ((a && c) || (b && c)) ≡ ((a || b) && c)
    go true true true = refl
    go true true false = refl
    go true false true = refl
    go true false false = refl
    go false b c = refl

pub any-const_left : {X : Type 0} (E : X → Bool) (c : Bool) (xs : List X) → list_any (λ x. c && E x) xs ≡ (c && list_any E xs)
any-const_left E true [] = refl
any-const_left E false [] = refl
any-const_left {X} E c (x ∷ xs) = ap (λ b. (c && E x) || b) (any-const_left E c xs) ∙ go c (E x) (list_any E xs)
  where
    go : (c a b : Bool) → ((c && a) || (c && b)) ≡ (c && (a || b))
    go true a b = refl
    go false a b = refl

any-or : {X : Type 0} (E F : X → Bool) (xs : List X) → list_any (λ x. E x || F x) xs ≡ (list_any E xs || list_any F xs)
any-or E F [] = refl
any-or {X} E F (x ∷ xs) = ap (λ b. (E x || F x) || b) (any-or E F xs) ∙ go (E x) (F x) (list_any E xs) (list_any F xs)
  where
    go : (a b c d : Bool) → ((a || b) || (c || d)) ≡ ((a || c) || (b || d))
    go true b c d = refl
    go false true true d = refl
    go false true false d = refl
    go false false c d = refl

any-none : {X : Type 0} (xs : List X) → list_any (λ (x : X). false) xs ≡ false
any-none [] = refl
any-none (x ∷ xs) = any-none xs

abbrev of_some : {Y : Type 0} → (Y → Bool) → Option Y → Bool
of_some T None = false
of_some T (Some y) = T y

any-filter_map : {X Y : Type 0} (T : Y → Bool) (f : X → Option Y) (xs : List X) → list_any T (filter_map f xs) ≡ list_any (λ x. of_some T (f x)) xs
any-filter_map T f [] = refl
any-filter_map {X} {Y} T f (x ∷ xs) = go (f x) (any-filter_map T f xs)
  where
    go : (o : Option Y) → list_any T (filter_map f xs) ≡ list_any (λ x. of_some T (f x)) xs → list_any T (cons_option o (filter_map f xs)) ≡ (of_some T o || list_any (λ x. of_some T (f x)) xs)
    go None rest = rest
    go (Some y) rest = ap (λ b. T y || b) rest

each-member : {X : Type 0} (Q P : X → Type 0) (xs : List X) → AllOf Q xs → ((x : X) → Q x → ((T : X → Bool) → T x ≡ true → list_any T xs ≡ true) → P x) → AllOf P xs
each-member Q P [] all more = tt
each-member Q P (x ∷ xs) all more = (
  more x all.0 (λ T e. ap (λ b. b || list_any T xs) e),
  each-member Q P xs all.1 (λ y q mem. more y q (λ T e. or_right (T x) (list_any T xs) (mem T e))),
)

-- sets
any-put_in : {X : Type 0} (before : X → X → Bool) (T : X → Bool) (x : X) (ys : List X) → list_any T (put_in before x ys) ≡ (T x || list_any T ys)
unfolding put_in
any-put_in before T x [] = refl
any-put_in {X} before T x (y ∷ ys) = go (before y x) (any-put_in before T x ys)
  where
    turn : (a b c : Bool) → (a || (b || c)) ≡ (b || (a || c))
    turn true true c = refl
    turn true false c = refl
    turn false b c = refl

    go : (b : Bool) → list_any T (put_in before x ys) ≡ (T x || list_any T ys) → list_any T (if b then y ∷ put_in before x ys else (x ∷ y ∷ ys)) ≡ (T x || (T y || list_any T ys))
    go true rest = ap (λ b. T y || b) rest ∙ turn (T y) (T x) (list_any T ys)
    go false rest = refl

any-ascending : {X : Type 0} (before : X → X → Bool) (T : X → Bool) (xs : List X) → list_any T (ascending before xs) ≡ list_any T xs
unfolding ascending
any-ascending before T [] = refl
any-ascending before T (x ∷ xs) = any-put_in before T x (ascending before xs) ∙ ap (λ b. T x || b) (any-ascending before T xs)

prefix_same : (a b : Prefix) → prefix_eq a b ≡ true → a ≡ b
prefix_same a b h =
    let p = and_parts (addr_eq a.base b.base) (a.len == b.len) h in
    ap (λ x. record { base = x; len = a.len }) (addr_same a.base b.base p.0) ∙ ap (λ x. record { base = b.base; len = x }) (eqb-true a.len b.len p.1)

any-once : (T : Prefix → Bool) (ps : List Prefix) → list_any T (once ps) ≡ list_any T ps
unfolding once
any-once T [] = refl
any-once T (p ∷ ps) = go (list_any (prefix_eq p) ps) refl (T p) refl (any-once T ps)
  where
    carry : (qs : List Prefix) → list_any (prefix_eq p) qs ≡ true → T p ≡ true → list_any T qs ≡ true
    carry [] h e = h
    carry (q ∷ qs) h e = by (prefix_eq p q) refl h (carry qs)
      where
        by : (b : Bool) → prefix_eq p q ≡ b → (b || list_any (prefix_eq p) qs) ≡ true → (list_any (prefix_eq p) qs ≡ true → T p ≡ true → list_any T qs ≡ true) → (T q || list_any T qs) ≡ true
        by true f h rest = ap (λ b. b || list_any T qs) (ap T (sym (prefix_same p q f)) ∙ e)
        by false f h rest = or_right (T q) (list_any T qs) (rest h e)

    go : (b : Bool) → list_any (prefix_eq p) ps ≡ b → (c : Bool) → T p ≡ c → list_any T (once ps) ≡ list_any T ps → list_any T (if b then once ps else (p ∷ once ps)) ≡ (T p || list_any T ps)
    go true h true e rest = rest ∙ carry ps h e ∙ sym (ap (λ b. b || list_any T ps) e)
    go true h false e rest = rest ∙ sym (ap (λ b. b || list_any T ps) e)
    go false h c e rest = ap (λ b. T p || b) rest

module _ (rows : RowLists) (x : Addr) where
  member-port : (g : Ident) (p : PortRow) → list_any (λ (y : Prefix). contains y x) (prefixes_of g p) ≡ gives_member g x p
  member-port g p = go (names_group g p.groups)
    where
      go : (b : Bool) → list_any (λ (y : Prefix). contains y x) (if b then map (λ (f : Fixed). whole_prefix f.address) p.fixed ++ map (λ (z : Pair). z.prefix) p.pairs else []) ≡ (b && (holds p x || in_pairs p.pairs x))
      go false = refl
      go true =
          list_any-append (λ (y : Prefix). contains y x) (map (λ (f : Fixed). whole_prefix f.address) p.fixed) (map (λ (z : Pair). z.prefix) p.pairs)
          ∙ ap (λ b. b || list_any (λ (y : Prefix). contains y x) (map (λ (z : Pair). z.prefix) p.pairs)) (list_any-map (λ (y : Prefix). contains y x) (λ (f : Fixed). whole_prefix f.address) p.fixed ∙ list_any-same (λ (f : Fixed). contains (whole_prefix f.address) x) (λ (f : Fixed). addr_eq f.address x) p.fixed (λ f. one_address f.address x))
          ∙ ap (λ b. holds p x || b) (list_any-map (λ (y : Prefix). contains y x) (λ (z : Pair). z.prefix) p.pairs)

  members-is : (g : Ident) → list_any (λ (y : Prefix). contains y x) (members rows g) ≡ is_member rows g x
  unfolding members is_member
  members-is g =
      any-ascending prefix_before (λ (y : Prefix). contains y x) (once (flat_map (prefixes_of g) rows.ports))
      ∙ any-once (λ (y : Prefix). contains y x) (flat_map (prefixes_of g) rows.ports)
      ∙ list_any-flat_map (λ (y : Prefix). contains y x) (prefixes_of g) rows.ports
      ∙ list_any-same (λ p. list_any (λ (y : Prefix). contains y x) (prefixes_of g p)) (gives_member g x) rows.ports (member-port g)

  set-located : (t : TableLists) (g : Ident) → t.sets ≡ set_rows rows t.filters → list_any (λ (r : FilterRow). names_remote g r.remote_group) t.filters ≡ true → list_any (λ (z : GroupRow). ident_eq g z.id) rows.groups ≡ true → in_set t g x ≡ is_member rows g x
  unfolding set_rows
  set-located t g real named there =
      ap (list_any (λ (s : SetRow). ident_eq g s.group && contains s.prefix x)) real
      ∙ list_any-flat_map (λ (s : SetRow). ident_eq g s.group && contains s.prefix x) (set_rows_of rows t.filters) rows.groups
      ∙ list_any-same (λ z. list_any (λ (s : SetRow). ident_eq g s.group && contains s.prefix x) (set_rows_of rows t.filters z)) (λ (z : GroupRow). ident_eq g z.id && is_member rows g x) rows.groups (λ z. of_group z (list_any (λ (r : FilterRow). names_remote z.id r.remote_group) t.filters) refl (ident_eq g z.id) refl)
      ∙ any-const (λ (z : GroupRow). ident_eq g z.id) (is_member rows g x) rows.groups
      ∙ ap (λ b. b && is_member rows g x) there
    where
      of_members : (z : GroupRow) → list_any (λ (s : SetRow). ident_eq g s.group && contains s.prefix x) (map (λ (p : Prefix). record { group = z.id; prefix = p }) (members rows z.id)) ≡ (ident_eq g z.id && is_member rows z.id x)
      of_members z = list_any-map (λ (s : SetRow). ident_eq g s.group && contains s.prefix x) (λ (p : Prefix). record { group = z.id; prefix = p }) (members rows z.id) ∙ any-const_left (λ (y : Prefix). contains y x) (ident_eq g z.id) (members rows z.id) ∙ ap (λ b. ident_eq g z.id && b) (members-is z.id)

      of_group : (z : GroupRow) (b : Bool) → list_any (λ (r : FilterRow). names_remote z.id r.remote_group) t.filters ≡ b → (c : Bool) → ident_eq g z.id ≡ c → list_any (λ (s : SetRow). ident_eq g s.group && contains s.prefix x) (if b then map (λ (p : Prefix). record { group = z.id; prefix = p }) (members rows z.id) else []) ≡ (ident_eq g z.id && is_member rows g x)
      of_group z true e true f = of_members z ∙ ap (λ i. ident_eq g z.id && is_member rows i x) (sym (ident_same g z.id f))
      of_group z true e false f = of_members z ∙ ap (λ b. b && is_member rows z.id x) f ∙ sym (ap (λ b. b && is_member rows g x) f)
      of_group z false e false f = sym (ap (λ b. b && is_member rows g x) f)
      of_group z false e true f =
          let bad : true ≡ false = sym named ∙ ap (λ i. list_any (λ (r : FilterRow). names_remote i r.remote_group) t.filters) (ident_same g z.id f) ∙ e in
          cc

-- what some filter row of a port passes, some rule of its groups gives
module _ (rows : RowLists) (good : FrameFacts rows) (host : List ℕ) (T : FilterRow → Bool) (p : PortRow) where
  abbrev given : RuleRow → Bool
  given r = names_group r.group p.groups && T (filter_of p r)

  of-group : (g : GroupRow) → list_any T (filters_of_group rows p g) ≡ (names_group g.id p.groups && list_any (λ r. ident_eq r.group g.id && T (filter_of p r)) rows.rules)
  of-group g = go (names_group g.id p.groups)
    where
      by : (r : RuleRow) (b : Bool) → of_some T (if b then Some (filter_of p r) else None) ≡ (b && T (filter_of p r))
      by r true = refl
      by r false = refl

      go : (b : Bool) → list_any T (if b then filter_map (filter_by p g) rows.rules else []) ≡ (b && list_any (λ r. ident_eq r.group g.id && T (filter_of p r)) rows.rules)
      go false = refl
      go true = any-filter_map T (filter_by p g) rows.rules ∙ list_any-same (λ r. of_some T (filter_by p g r)) (λ r. ident_eq r.group g.id && T (filter_of p r)) rows.rules (λ r. by r (ident_eq r.group g.id))

  -- one rule over all groups
  of-rule : (r : RuleRow) → list_any (λ (g : GroupRow). ident_eq r.group g.id) rows.groups ≡ true → list_any (λ (g : GroupRow). names_group g.id p.groups && (ident_eq r.group g.id && T (filter_of p r))) rows.groups ≡ given r
  of-rule r there =
      list_any-same (λ (g : GroupRow). names_group g.id p.groups && (ident_eq r.group g.id && T (filter_of p r))) (λ (g : GroupRow). ident_eq r.group g.id && given r) rows.groups (λ g. by g (ident_eq r.group g.id) refl)
      ∙ any-const (λ (g : GroupRow). ident_eq r.group g.id) (given r) rows.groups
      ∙ ap (λ b. b && given r) there
    where
      by : (g : GroupRow) (b : Bool) → ident_eq r.group g.id ≡ b → (names_group g.id p.groups && (b && T (filter_of p r))) ≡ (b && (names_group r.group p.groups && T (filter_of p r)))
      by g true e = ap (λ x. names_group x p.groups && T (filter_of p r)) (sym (ident_same r.group g.id e))
      by g false e = and_false (names_group g.id p.groups)

  swapped : (rs : List RuleRow) → AllOf (λ (r : RuleRow). list_any (λ (g : GroupRow). ident_eq r.group g.id) rows.groups ≡ true) rs → list_any (λ (g : GroupRow). names_group g.id p.groups && list_any (λ r. ident_eq r.group g.id && T (filter_of p r)) rs) rows.groups ≡ list_any given rs
  swapped [] h = list_any-same (λ (g : GroupRow). names_group g.id p.groups && false) (λ g. false) rows.groups (λ g. and_false (names_group g.id p.groups)) ∙ any-none rows.groups
  swapped (r ∷ rs) h =
      list_any-same (λ (g : GroupRow). names_group g.id p.groups && ((ident_eq r.group g.id && T (filter_of p r)) || list_any (λ r. ident_eq r.group g.id && T (filter_of p r)) rs))
      (λ (g : GroupRow). (names_group g.id p.groups && (ident_eq r.group g.id && T (filter_of p r))) || (names_group g.id p.groups && list_any (λ r. ident_eq r.group g.id && T (filter_of p r)) rs)) rows.groups
      (λ g. spread (names_group g.id p.groups) (ident_eq r.group g.id && T (filter_of p r)) (list_any (λ r. ident_eq r.group g.id && T (filter_of p r)) rs))
      ∙ any-or (λ (g : GroupRow). names_group g.id p.groups && (ident_eq r.group g.id && T (filter_of p r))) (λ (g : GroupRow). names_group g.id p.groups && list_any (λ r. ident_eq r.group g.id && T (filter_of p r)) rs) rows.groups
      ∙ ap (λ b. b || list_any (λ (g : GroupRow). names_group g.id p.groups && list_any (λ r. ident_eq r.group g.id && T (filter_of p r)) rs) rows.groups) (of-rule r h.0)
      ∙ ap (λ b. given r || b) (swapped rs h.1)
    where
      spread : (a b c : Bool) → (a && (b || c)) ≡ ((a && b) || (a && c))
      spread true b c = refl
      spread false b c = refl

  pub filters-is : list_any T (filters_of rows host p) ≡ ((is_tap rows host p && p.secured) && list_any given rows.rules)
  filters-is = go (is_tap rows host p && p.secured)
    where
      go : (b : Bool) → list_any T (if b then flat_map (filters_of_group rows p) rows.groups else []) ≡ (b && list_any given rows.rules)
      go false = refl
      go true =
          list_any-flat_map T (filters_of_group rows p) rows.groups
          ∙ list_any-same (λ g. list_any T (filters_of_group rows p g)) (λ (g : GroupRow). names_group g.id p.groups && list_any (λ r. ident_eq r.group g.id && T (filter_of p r)) rows.rules) rows.groups of-group
          ∙ swapped rows.rules good.groups_stand

module _ (rows : RowLists) (good : FrameFacts rows) (host : List ℕ) (t : TableLists) (real : HostFacts rows host t) (test : PortRow → Bool) (p : PortRow) (found : find test rows.ports ≡ Some p) (tap : is_tap rows host p ≡ true) (secured : p.secured ≡ true) where
  by_id : find (has_id p.id) rows.ports ≡ Some p
  by_id = find-only test (has_id p.id) rows.ports p (good.port_ids p.id) found (ident_itself p.id)

  both : (is_tap rows host p && p.secured) ≡ true
  both = and_from (is_tap rows host p) p.secured tap secured

  -- a remote group of a rule of the tap is named
  named : (g : Ident) (r : RuleRow) → ((T : RuleRow → Bool) → T r ≡ true → list_any T rows.rules ≡ true) → names_group r.group p.groups ≡ true → r.remote_group ≡ Some g → list_any (λ (x : FilterRow). names_remote g x.remote_group) t.filters ≡ true
  unfolding filter_rows
  named g r mem names remote =
      ap (list_any (λ (x : FilterRow). names_remote g x.remote_group)) real.filters
      ∙ list_any-flat_map (λ (x : FilterRow). names_remote g x.remote_group) (filters_of rows host) rows.ports
      ∙ list_any-found test (λ q. list_any (λ (x : FilterRow). names_remote g x.remote_group) (filters_of rows host q)) rows.ports p found
      (filters-is rows good host (λ (x : FilterRow). names_remote g x.remote_group) p ∙ ap (λ b. b && list_any (λ (x : RuleRow). names_group x.group p.groups && names_remote g x.remote_group) rows.rules) both
      ∙ mem (λ (x : RuleRow). names_group x.group p.groups && names_remote g x.remote_group) (and_from (names_group r.group p.groups) (names_remote g r.remote_group) names (ap (names_remote g) remote ∙ ident_itself g)))

  module _ (direction : Direction) (key : Key) where
    fits : (r : RuleRow) → RemoteStands rows r.remote_group → ((T : RuleRow → Bool) → T r ≡ true → list_any T rows.rules ≡ true) → (names_group r.group p.groups && (ident_eq p.id p.id && row_fits t direction key (filter_of p r))) ≡ (names_group r.group p.groups && rule_matches rows direction key r)
    unfolding rule_matches
    fits r stands mem = go (names_group r.group p.groups) refl
      where
        far : names_group r.group p.groups ≡ true → (o : Option Prefix) (g : Option Ident) → r.remote_group ≡ g → RemoteStands rows g → far_fits (in_set t) o g (far_of direction key) ≡ far_fits (is_member rows) o g (far_of direction key)
        far names None None e s = refl
        far names (Some x) None e s = refl
        far names None (Some g) e s = set-located rows (far_of direction key) t g real.sets (named g r mem names e) s
        far names (Some x) (Some g) e s = ap (λ b. contains x (far_of direction key) || b) (set-located rows (far_of direction key) t g real.sets (named g r mem names e) s)

        go : (a : Bool) → names_group r.group p.groups ≡ a → (a && (ident_eq p.id p.id && row_fits t direction key (filter_of p r))) ≡ (a && parts_fit (is_member rows) r.direction r.ethertype r.protocol r.low r.high r.remote_prefix r.remote_group direction key)
        go false e = refl
        go true e =
            ap (λ b. b && row_fits t direction key (filter_of p r)) (ident_itself p.id)
            ∙ ap (λ b. (is_direction r.direction direction && is_ethertype r.ethertype (ethertype_of key.ends) && same_or_none r.protocol (protocol_of key.ends key.kind) && in_range r.low r.high key.ends key.kind key.dport) && b) (far e r.remote_prefix r.remote_group refl stands)

    pub allows-located : tables_allow t p.id direction key ≡ rules_allow rows p direction key
    unfolding tables_allow filter_rows rules_allow
    allows-located =
        ap (list_any T) real.filters
        ∙ list_any-flat_map T (filters_of rows host) rows.ports
        ∙ any-at (has_id p.id) (λ q. list_any T (filters_of rows host q)) rows.ports p (good.port_ids p.id) by_id other
        ∙ filters-is rows good host T p
        ∙ ap (λ b. b && list_any (λ (r : RuleRow). names_group r.group p.groups && (ident_eq p.id p.id && row_fits t direction key (filter_of p r))) rows.rules) both
        ∙ list_any-same_each (λ (r : RuleRow). names_group r.group p.groups && (ident_eq p.id p.id && row_fits t direction key (filter_of p r))) (λ (r : RuleRow). names_group r.group p.groups && rule_matches rows direction key r) rows.rules
        (each-member (λ (r : RuleRow). RemoteStands rows r.remote_group) (λ (r : RuleRow). (names_group r.group p.groups && (ident_eq p.id p.id && row_fits t direction key (filter_of p r))) ≡ (names_group r.group p.groups && rule_matches rows direction key r)) rows.rules good.remotes_stand fits)
      where
        T : FilterRow → Bool
        T r = ident_eq p.id r.port && row_fits t direction key r

        other : (q : PortRow) → has_id p.id q ≡ false → list_any (λ (r : FilterRow). ident_eq p.id r.port && row_fits t direction key r) (filters_of rows host q) ≡ false
        other q e =
            filters-is rows good host (λ (r : FilterRow). ident_eq p.id r.port && row_fits t direction key r) q
            ∙ ap (λ b. (is_tap rows host q && q.secured) && b) (list_any-same (λ (r : RuleRow). names_group r.group q.groups && (ident_eq p.id q.id && row_fits t direction key (filter_of q r))) (λ (r : RuleRow). false) rows.rules (λ r. ap (λ b. names_group r.group q.groups && (b && row_fits t direction key (filter_of q r))) e ∙ and_false (names_group r.group q.groups)) ∙ any-none rows.rules)
            ∙ and_false (is_tap rows host q && q.secured)
