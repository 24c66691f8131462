-- Rows of a kind that go one by one: what passes a test goes.
use Rattle.std.proofs.Common.{Bool, List, Some, ap, cond, map, not, refl, slice_get, sym, suc, ◌∙◌, ◌∷◌, ◌≡◌, ◌≤◌, [], ℕ}
use Rattle.kept_laws.proofs.EditLemmas.{all_gone, all_gone-filter}
use Rattle.api_types.proofs.ListLemmas.{any-at, at_filter, at-any, false_true, one_row}
use Rattle.api_types.proofs.NameLemmas.{by_test, ident_itself, ident_sym}
use Rattle.kept_laws.proofs.EditedRows.{filter_has, get_map, map_get}
use Rattle.call_parts.specs.Edits.{dropped, made}
use Rattle.api_types.specs.WithRows.{gone_from}
use Rattle.api_types.specs.Ident.{Ident}
use Rattle.api_types.specs.Lists.{Each, times}
use Rattle.api_types.specs.RowLists.{RowLists}
use Rattle.api_types.specs.Table.{ident_eq}
use Rattle.api_types.specs.declared.group.RuleRow.{RuleRow}
use Rattle.api_types.specs.declared.kind.Kind.TheVariants.{Policy as PolicyKind, Port as PortKind, Rule as RuleKind}
use Rattle.api_types.specs.declared.policy.PolicyRow.{PolicyRow}
use Rattle.api_types.specs.declared.port.PortRow.{PortRow}
use Rattle.std.specs.List.{list_any}
use Rattle.std.specs.Prelude.{filter}

-- tests that agree on the rows keep the same of them
pub agree_filter : {X : Type 0} (p q : X → Bool) (xs : List X) → Each (λ x. p x ≡ q x) xs → filter p xs ≡ filter q xs
agree_filter p q [] e = refl
agree_filter p q (x ∷ xs) e = λ j. cond (e 0 x refl j) (x ∷ agree_filter p q xs (λ k y at. e (suc k) y at) j) (agree_filter p q xs (λ k y at. e (suc k) y at) j)

module _ {R : Type 0} (id_of : R → Ident) (test : R → Bool) (xs : List R) (once : (i : Ident) → times id_of i xs ≤ 1) where
  abbrev going : List Ident
  going = map id_of (filter test xs)

  -- an id is among those that go where its row passes the test
  goes : (k : ℕ) (x : R) → slice_get xs k ≡ Some x → list_any (λ i. ident_eq i (id_of x)) going ≡ test x
  goes k x at = by_test (test x) (list_any (λ i. ident_eq i (id_of x)) going ≡ test x)
      (λ passes.
      let has = filter_has test xs k x at passes in
      at-any (λ i. ident_eq i (id_of x)) going has.0 (id_of x) (get_map id_of (filter test xs) has.0 x has.1) (ident_itself (id_of x)) ∙ sym passes)
      (λ fails. by_test (list_any (λ i. ident_eq i (id_of x)) going) (list_any (λ i. ident_eq i (id_of x)) going ≡ test x)
      (λ found.
      let named = any-at (λ i. ident_eq i (id_of x)) going found in
      let row = map_get id_of (filter test xs) named.0 named.1 named.2 in
      let here = at_filter test xs named.0 row.0 row.1 in
      let same = one_row (λ y. ident_eq (id_of x) (id_of y)) xs (once (id_of x)) here.0 k row.0 x here.1 at (ident_sym (id_of row.0) (id_of x) (ap (λ i. ident_eq i (id_of x)) row.2 ∙ named.3)) (ident_itself (id_of x)) in
      false_true _ (sym fails ∙ (ap test (sym same) ∙ here.2)))
      (λ none. none ∙ sym fails))

  pub all_dropped : all_gone id_of going xs ≡ filter (λ x. not (test x)) xs
  all_dropped = all_gone-filter id_of going xs ∙ agree_filter (λ x. not (list_any (λ i. ident_eq i (id_of x)) going)) (λ x. not (test x)) xs (λ k x at. ap not (goes k x at))

pub ports_dropped : (rows : RowLists) (ps : List PortRow)
    → made rows (dropped PortKind (λ p. p.id) ps) ≡ record rows { ports = all_gone (λ p. p.id) (map (λ (p : PortRow). p.id) ps) rows.ports }
ports_dropped rows [] = refl
ports_dropped rows (p ∷ ps) = ports_dropped (record rows { ports = gone_from (λ (q : PortRow). q.id) p.id rows.ports }) ps

pub policies_dropped : (rows : RowLists) (ls : List PolicyRow)
    → made rows (dropped PolicyKind (λ l. l.id) ls) ≡ record rows { policies = all_gone (λ l. l.id) (map (λ (l : PolicyRow). l.id) ls) rows.policies }
policies_dropped rows [] = refl
policies_dropped rows (l ∷ ls) = policies_dropped (record rows { policies = gone_from (λ (q : PolicyRow). q.id) l.id rows.policies }) ls

pub rules_dropped : (rows : RowLists) (rs : List RuleRow)
    → made rows (dropped RuleKind (λ r. r.id) rs) ≡ record rows { rules = all_gone (λ r. r.id) (map (λ (r : RuleRow). r.id) rs) rows.rules }
rules_dropped rows [] = refl
rules_dropped rows (r ∷ rs) = rules_dropped (record rows { rules = gone_from (λ (q : RuleRow). q.id) r.id rows.rules }) rs
