-- Edits at the keys that touched sources gave and give lead from a map to the map after a change,
-- and are few.
use Rattle.std.proofs.Common.{inl, inr, ◌≡◌, ◌∙◌, List, [], ◌∷◌, ◌++◌, map, Option, Bool, true, false, refl, sym, ap, subst}
use Rattle.std.specs.Prelude.{◌||◌}
use Rattle.plane_types.specs.Keyed.{IsTotal, Rises, are_one, row_at, with_keys}
use Rattle.plane_types.specs.Edits.{edit_at}
use Rattle.plane_types.specs.declared.delta.Edit.{Edit}
use Rattle.plane_types.proofs.KeyedLemmas.{one_itself}
use Rattle.plane_types.proofs.KeyedTablesLemmas.{unkeyed, with_keys-rows}
use Rattle.api_types.proofs.ListLemmas.{or_none, or_true}
use Rattle.table_edits.specs.EditsAt.{AreEditsAt, KeysDescend, among}
use Rattle.table_edits.specs.Rewires.{Rewires}
use Rattle.table_edits.proofs.KeyedLaw.{keyed_lead}

module _ {K : Type 0} (before : K → K → Bool) where
  pub among_append : (q : K) (xs ys : List K) → among before q (xs ++ ys) ≡ among before q xs || among before q ys
  among_append q [] ys = refl
  among_append q (x ∷ xs) ys = ap (λ b. are_one before q x || b) (among_append q xs ys) ∙ or_joined (are_one before q x) (among before q xs) (among before q ys)
    where
      or_joined : (a b c : Bool) → a || (b || c) ≡ (a || b) || c
      or_joined true b c = refl
      or_joined false b c = refl

module _ {K R : Type 0} (before : K → K → Bool) (order : IsTotal before) where
  -- the edits at keys at which two functions agree
  edits_alike : (xs : List (K × R)) (f g : K → Option R) (ks : List K) (es : List (Edit R)) → ((q : K) → among before q ks ≡ true → f q ≡ g q) → AreEditsAt before xs f ks es → AreEditsAt before xs g ks es
  edits_alike xs f g [] es same are = are
  edits_alike xs f g (k ∷ ks) es same are = go (same k here) (λ rest h. edits_alike xs f g ks rest later h) are
    where
      here : among before k (k ∷ ks) ≡ true
      here = ap (λ b. b || among before k ks) (one_itself before order k)

      later : (q : K) → among before q ks ≡ true → f q ≡ g q
      later q there = same q (ap (λ b. are_one before q k || b) there ∙ or_true (are_one before q k))

      go : f k ≡ g k → ((rest : List (Edit R)) → AreEditsAt before xs f ks rest → AreEditsAt before xs g ks rest) → AreEditsAt before xs f (k ∷ ks) es → AreEditsAt before xs g (k ∷ ks) es
      go e next (inl h) = inl (h.0 ∙ e, next es h.1)
      go e next (inr h) = inr ((λ x. h.0 (x ∙ sym e)), (h.1.0, h.1.1 ∙ ap (λ o. edit_at before xs (k, o) ∷ h.1.0) e, next h.1.0 h.1.2))

module _ {K R : Type 0} (before : K → K → Bool) (order : IsTotal before) (key_of : R → K) where
  abbrev found : K → List R → Option R
  found q rows = row_at before q (with_keys key_of rows)

  pub own_lead : (rows given now : List R) (keys ks : List K) (es : List (Edit R)) → Rises before (with_keys key_of rows) → Rises before (with_keys key_of now) → KeysDescend before ks
      → ((q : K) → among before q ks ≡ among before q (keys ++ map key_of given)) → AreEditsAt before (with_keys key_of rows) (λ q. found q given) ks es
      → ((q : K) → among before q keys ≡ false → among before q (map key_of given) ≡ false → found q rows ≡ found q now)
      → ((q : K) → among before q keys || among before q (map key_of given) ≡ true → found q given ≡ found q now)
      → Rewires before (with_keys key_of rows) (with_keys key_of now) rows now es
  own_lead rows given now keys ks es up up_now down same are away there =
      subst (λ rs. Rewires before (with_keys key_of rows) (with_keys key_of now) rs now es) (with_keys-rows key_of rows)
      (subst (λ rs. Rewires before (with_keys key_of rows) (with_keys key_of now) (unkeyed (with_keys key_of rows)) rs es) (with_keys-rows key_of now)
      (keyed_lead before order (with_keys key_of rows) (with_keys key_of now) up up_now ks es down
      (edits_alike before order (with_keys key_of rows) (λ q. found q given) (λ q. found q now) ks es (λ q h. there q (sym (joined q) ∙ h)) are)
      (λ q h. let both = or_none (among before q keys) (among before q (map key_of given)) (sym (joined q) ∙ h) in away q both.0 both.1)))
    where
      joined : (q : K) → among before q ks ≡ among before q keys || among before q (map key_of given)
      joined q = same q ∙ among_append before q keys (map key_of given)
