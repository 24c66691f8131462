-- The tag of a network is the same before and after where no tag of it differs.
use Rattle.std.proofs.Common.{◌≡◌, ◌∙◌, ℕ, List, [], ◌∷◌, Bool, true, false, Option, Some, None, cond, refl, ap, sym, subst, arith}
use Rattle.std.specs.Prelude.{◌&&◌, find, nat_eq, option_map}
use Rattle.std.specs.List.{list_any}
use Rattle.std.specs.Option.{option_eq}
use Rattle.std.proofs.lemmas.Bool.Decides.{nat_tests}
use Rattle.api_types.specs.Ident.{Ident}
use Rattle.api_types.specs.Table.{ident_eq}
use Rattle.api_types.proofs.ListLemmas.{false_true, none_some, or_none}
use Rattle.api_types.proofs.NameLemmas.{by_test, ident_same, not_false}
use Rattle.plane_types.specs.TableRows.{tag_of}
use Rattle.plane_types.specs.declared.table.TagRow.{TagRow}
use Rattle.touched_rows.specs.Retagged.{is_retagged}

same_options : (a b : Option ℕ) → option_eq nat_eq a b ≡ true → a ≡ b
same_options None None h = refl
same_options (Some a) (Some b) h = let same : a ≡ b = grind (arith, nat_tests, h) in ap Some same
same_options None (Some b) h = false_true _ h
same_options (Some a) None h = false_true _ h

and_first : (a b : Bool) → a ≡ true → a && b ≡ false → b ≡ false
and_first a b is h = sym (ap (λ c. c && b) is) ∙ h

module _ (old new : List TagRow) (n : Ident) where
  at_network : (t : TagRow) → ident_eq n t.network ≡ true → is_retagged old new n t ≡ false → tag_of old n ≡ tag_of new n
  at_network t is stays =
      let same : n ≡ t.network = ident_same n t.network is in
      let told : option_eq nat_eq (tag_of old t.network) (tag_of new t.network) ≡ true =
      not_false (option_eq nat_eq (tag_of old t.network) (tag_of new t.network)) (and_first (ident_eq n t.network) _ is stays) in
      subst (λ i. tag_of old i ≡ tag_of new i) (sym same) (same_options (tag_of old t.network) (tag_of new t.network) told)

  where_found : (tags : List TagRow) (t : TagRow) → find (λ (t : TagRow). ident_eq n t.network) tags ≡ Some t → list_any (is_retagged old new n) tags ≡ false → tag_of old n ≡ tag_of new n
  where_found [] t found none = none_some t _ found
  where_found (x ∷ tags) t found none =
      let both = or_none (is_retagged old new n x) (list_any (is_retagged old new n) tags) none in
      by_test (ident_eq n x.network) (tag_of old n ≡ tag_of new n) (λ is. at_network x is both.0)
      (λ off. where_found tags t (sym (ap (λ b. cond b (Some x) (find (λ (t : TagRow). ident_eq n t.network) tags)) off) ∙ found) both.1)

  pub tag_stays : list_any (is_retagged old new n) old ≡ false → list_any (is_retagged old new n) new ≡ false → tag_of old n ≡ tag_of new n
  tag_stays none_old none_new = go (find (λ (t : TagRow). ident_eq n t.network) old) refl (find (λ (t : TagRow). ident_eq n t.network) new) refl
    where
      go : (o : Option TagRow) → find (λ (t : TagRow). ident_eq n t.network) old ≡ o → (p : Option TagRow) → find (λ (t : TagRow). ident_eq n t.network) new ≡ p → tag_of old n ≡ tag_of new n
      go (Some t) e p f = where_found old t e none_old
      go None e (Some t) f = where_found new t f none_new
      go None e None f = ap (option_map (λ (t : TagRow). t.tag)) (e ∙ sym f)
