-- What is looked up among the tags of a host.
use Rattle.std.proofs.Common.{◌≡◌, ◌∙◌, ℕ, ◌+◌, ◌≤◌, List, [], ◌∷◌, Bool, true, false, cond, Option, Some, None, length, refl, ap, sym, arith}
use Rattle.std.specs.Prelude.{count_by, ◌==◌, find, option_map, is_none}
use Rattle.std.specs.List.{filter_map, cons_option, AllByRecursion, IsDistinct}
use Rattle.std.proofs.lemmas.Bool.{eqb-true, eq-eqb}
use Rattle.api_types.specs.Ident.{Ident}
use Rattle.api_types.specs.Table.{ident_eq}
use Rattle.api_types.proofs.NameLemmas.{ident_same, ident_itself}
use Rattle.plane_types.specs.TableRows.{tag_of}
use Rattle.plane_types.specs.declared.table.TagRow.{TagRow}
use Rattle.plane_types.proofs.NumberLemmas.{count-cons, one_if}

abbrev pub has_tag : ℕ → TagRow → Bool
has_tag tag t = t.tag == tag

abbrev pub found : Ident → TagRow → List TagRow → Bool → Option ℕ
found n t ts b = option_map (λ (t : TagRow). t.tag) (cond b (Some t) (find (λ (t : TagRow). ident_eq n t.network) ts))

-- what is found stands there
stands-there : (ts : List TagRow) (n : Ident) (tag : ℕ) → tag_of ts n ≡ Some tag → 1 ≤ count_by (has_tag tag) ts
stands-there [] n tag h = cc
stands-there (t ∷ ts) n tag h = go (ident_eq n t.network) h (stands-there ts n tag)
  where
    go : (b : Bool) → found n t ts b ≡ Some tag → (tag_of ts n ≡ Some tag → 1 ≤ count_by (has_tag tag) ts) → 1 ≤ count_by (has_tag tag) (t ∷ ts)
    go true e rest =
        let same : t.tag ≡ tag = cc in
        let one : one_if (has_tag tag t) ≡ 1 = ap one_if (eq-eqb t.tag tag same) in
        omega (arith, count-cons (has_tag tag) t ts, one)
    go false e rest = omega (arith, count-cons (has_tag tag) t ts, rest e)

-- where tags differ, two networks with one tag are one
pub one-network : (ts : List TagRow) (n m : Ident) (tag : ℕ) → count_by (has_tag tag) ts ≤ 1 → tag_of ts n ≡ Some tag → tag_of ts m ≡ Some tag → n ≡ m
one-network [] n m tag once e f = cc
one-network (t ∷ ts) n m tag once e f = go (ident_eq n t.network) (ident_eq m t.network) refl refl e f (one-network ts n m tag)
  where
    twice : t.tag ≡ tag → (k : Ident) → tag_of ts k ≡ Some tag → n ≡ m
    twice same k there =
        let one : one_if (has_tag tag t) ≡ 1 = ap one_if (eq-eqb t.tag tag same) in
        absurd (omega (arith, count-cons (has_tag tag) t ts, one, stands-there ts k tag there, once))

    go : (b c : Bool) → ident_eq n t.network ≡ b → ident_eq m t.network ≡ c → found n t ts b ≡ Some tag → found m t ts c ≡ Some tag → (count_by (has_tag tag) ts ≤ 1 → tag_of ts n ≡ Some tag → tag_of ts m ≡ Some tag → n ≡ m) → n ≡ m
    go true true i j e f rest = ident_same n t.network i ∙ sym (ident_same m t.network j)
    go true false i j e f rest = let same : t.tag ≡ tag = cc in twice same m f
    go false true i j e f rest = let same : t.tag ≡ tag = cc in twice same n e
    go false false i j e f rest = rest (omega (arith, count-cons (has_tag tag) t ts, once)) e f

-- so another network hasn't the tag
not-again : (ts : List TagRow) (n : Ident) (tag : ℕ) → count_by (has_tag tag) ts ≤ 1 → tag_of ts n ≡ Some tag → (ms : List Ident) → AllByRecursion (λ m. ident_eq n m ≡ false) ms → count_by (λ k. k == tag) (filter_map (tag_of ts) ms) ≡ 0
not-again ts n tag once e [] others = refl
not-again ts n tag once e (m ∷ ms) others = go (tag_of ts m) refl (not-again ts n tag once e ms others.1)
  where
    go : (o : Option ℕ) → tag_of ts m ≡ o → count_by (λ k. k == tag) (filter_map (tag_of ts) ms) ≡ 0 → count_by (λ k. k == tag) (cons_option o (filter_map (tag_of ts) ms)) ≡ 0
    go None f rest = rest
    go (Some other) f rest = by (other == tag) refl
      where
        by : (b : Bool) → (other == tag) ≡ b → count_by (λ k. k == tag) (other ∷ filter_map (tag_of ts) ms) ≡ 0
        by true g =
            let same : n ≡ m = one-network ts n m tag once e (f ∙ ap Some (eqb-true other tag g)) in
            let is : ident_eq n m ≡ true = ap (ident_eq n) (sym same) ∙ ident_itself n in
            let isnt : ident_eq n m ≡ false = others.0 in
            cc
        by false g =
            let one : one_if (other == tag) ≡ 0 = ap one_if g in
            omega (arith, count-cons (λ k. k == tag) other (filter_map (tag_of ts) ms), rest, one)

-- different networks keep different tags
pub kept-once : (ts : List TagRow) (tag : ℕ) → count_by (has_tag tag) ts ≤ 1 → (ns : List Ident) → IsDistinct ident_eq ns → count_by (λ k. k == tag) (filter_map (tag_of ts) ns) ≤ 1
unfolding IsDistinct
kept-once ts tag once [] apart = omega arith
kept-once ts tag once (n ∷ ns) apart = go (tag_of ts n) refl (kept-once ts tag once ns apart.1)
  where
    go : (o : Option ℕ) → tag_of ts n ≡ o → count_by (λ k. k == tag) (filter_map (tag_of ts) ns) ≤ 1 → count_by (λ k. k == tag) (cons_option o (filter_map (tag_of ts) ns)) ≤ 1
    go None e rest = rest
    go (Some own) e rest = by (own == tag) refl
      where
        by : (b : Bool) → (own == tag) ≡ b → count_by (λ k. k == tag) (own ∷ filter_map (tag_of ts) ns) ≤ 1
        by true g =
            let none = not-again ts n tag once (e ∙ ap Some (eqb-true own tag g)) ns apart.0 in
            let one : one_if (own == tag) ≡ 1 = ap one_if g in
            omega (arith, count-cons (λ k. k == tag) own (filter_map (tag_of ts) ns), none, one)
        by false g =
            let one : one_if (own == tag) ≡ 0 = ap one_if g in
            omega (arith, count-cons (λ k. k == tag) own (filter_map (tag_of ts) ns), rest, one)

-- each network had a tag or none
pub kept-or-new : (ts : List TagRow) (ns : List Ident) → count_by (λ n. is_none (tag_of ts n)) ns + length (filter_map (tag_of ts) ns) ≡ length ns
kept-or-new ts [] = refl
kept-or-new ts (n ∷ ns) = go (tag_of ts n) refl (kept-or-new ts ns)
  where
    go : (o : Option ℕ) → tag_of ts n ≡ o → count_by (λ n. is_none (tag_of ts n)) ns + length (filter_map (tag_of ts) ns) ≡ length ns → count_by (λ n. is_none (tag_of ts n)) (n ∷ ns) + length (cons_option o (filter_map (tag_of ts) ns)) ≡ length (n ∷ ns)
    go None e rest =
        let one : one_if (is_none (tag_of ts n)) ≡ 1 = ap (λ o. one_if (is_none o)) e in
        omega (arith, count-cons (λ n. is_none (tag_of ts n)) n ns, rest, one)
    go (Some own) e rest =
        let one : one_if (is_none (tag_of ts n)) ≡ 0 = ap (λ o. one_if (is_none o)) e in
        omega (arith, count-cons (λ n. is_none (tag_of ts n)) n ns, rest, one)
