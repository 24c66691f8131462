-- A map whose rows come from rows of two kinds: at the keys of the rows that a change touches it is
-- as these now give, and at all others as before.
use Rattle.std.proofs.Common.{◌≡◌, ◌∙◌, ℕ, List, ◌++◌, map, false, true, ap, refl, Bool, [], ◌∷◌, Option, Some, None}
use Rattle.std.specs.Prelude.{◌||◌, flat_map, nat_lt}
use Rattle.std.specs.List.{cons_option, filter_map}
use Rattle.std.proofs.Math.Path.{transport}
use Rattle.api_types.specs.Ascending.{ascending}
use Rattle.plane_types.specs.Keyed.{IsTotal, Rises, row_at, with_keys}
use Rattle.plane_types.proofs.KeyedTablesLemmas.{unkeyed}
use Rattle.plane_types.proofs.MapLemmas.{by_key}
use Rattle.table_edits.specs.EditsAt.{KeysDescend, among}
use Rattle.l2_delta.proofs.NumberedSources.{GiveOwn, Source, all_sources, at_numbers, changed, numbers, of_number, of_source, some_numbers, sources, sources_give}
use Rattle.l2_delta.proofs.SourceLaw.{AreChanged, away_alike, rises, there_alike}

-- what an option gives, as a list
abbrev pub as_list : {R : Type 0} → Option R → List R
as_list o = cons_option o []

pub given_options : {X R : Type 0} (gives : X → Option R) (xs : List X) → flat_map (λ x. as_list (gives x)) xs ≡ filter_map gives xs
given_options gives [] = refl
given_options {X} {R} gives (x ∷ xs) = go (gives x) (given_options gives xs)
  where
    go : (o : Option R) → flat_map (λ x. as_list (gives x)) xs ≡ filter_map gives xs → as_list o ++ flat_map (λ x. as_list (gives x)) xs ≡ cons_option o (filter_map gives xs)
    go None rest = rest
    go (Some r) rest = ap (λ l. r ∷ l) rest

module _ {K R : Type 0} (before : K → K → Bool) (key : R → K) where
  -- rows that ascend, before a change and after it, of which the given ones are those at touched
  -- keys, with the keys that these had
  pub record IsMapChange (had : List K) (rows given now : List R) : Type 0 where
    pub rises : Rises before (with_keys key rows)
    pub given_rise : Rises before (with_keys key given)
    pub now_rise : Rises before (with_keys key now)
    pub away : (q : K) → among before q had ≡ false → among before q (map key given) ≡ false → row_at before q (with_keys key rows) ≡ row_at before q (with_keys key now)
    pub there : (q : K) → (among before q had || among before q (map key given)) ≡ true → row_at before q (with_keys key given) ≡ row_at before q (with_keys key now)

-- what rows of two kinds give
abbrev pub both_give : {X Y R : Type 0} → (X → List R) → (Y → List R) → List X → List Y → List R
both_give first second xs ys = flat_map first xs ++ flat_map second ys

module _ {X Y K R : Type 0} (before : K → K → Bool) (order : IsTotal before) (key : R → K) where
  pub map_changes : (first first_now : X → List R) (second second_now : Y → List R) (xs xs_now : List (ℕ × X)) (ys ys_now : List (ℕ × Y)) (ks js : List ℕ)
      → Rises nat_lt xs → Rises nat_lt xs_now → Rises nat_lt ys → Rises nat_lt ys_now → KeysDescend nat_lt ks → KeysDescend nat_lt js
      → GiveOwn before order key first second xs ys → GiveOwn before order key first_now second_now xs_now ys_now
      → ((k : ℕ) → among nat_lt k ks ≡ false → of_number first xs k ≡ of_number first_now xs_now k)
      → ((j : ℕ) → among nat_lt j js ≡ false → of_number second ys j ≡ of_number second_now ys_now j)
      → IsMapChange before key (map key (both_give first second (at_numbers xs ks) (at_numbers ys js)))
      (ascending (by_key before order key) (both_give first second (unkeyed xs) (unkeyed ys)))
      (ascending (by_key before order key) (both_give first_now second_now (at_numbers xs_now ks) (at_numbers ys_now js)))
      (ascending (by_key before order key) (both_give first_now second_now (unkeyed xs_now) (unkeyed ys_now)))
  map_changes first first_now second second_now xs xs_now ys ys_now ks js up up_now rise rise_now down descend own own_now first_stays second_stays =
      transport (λ j. IsMapChange before key (map key (had j)) (ascending (by_key before order key) (was j)) (ascending (by_key before order key) (gives j)) (ascending (by_key before order key) (is j))) facts
    where
      are : AreChanged Source before order key (of_source first second xs ys) (of_source first_now second_now xs_now ys_now) (sources (numbers xs) (numbers ys)) (sources (numbers xs_now) (numbers ys_now)) (sources ks js)
      are = changed before order key first first_now second second_now xs xs_now ys ys_now ks js up up_now rise rise_now down descend own own_now first_stays second_stays

      facts : IsMapChange before key (map key (flat_map (of_source first second xs ys) (sources ks js))) (ascending (by_key before order key) (flat_map (of_source first second xs ys) (sources (numbers xs) (numbers ys))))
          (ascending (by_key before order key) (flat_map (of_source first_now second_now xs_now ys_now) (sources ks js))) (ascending (by_key before order key) (flat_map (of_source first_now second_now xs_now ys_now) (sources (numbers xs_now) (numbers ys_now))))
      facts = record {
        rises = rises Source before order key (of_source first second xs ys) are.own_before (sources (numbers xs) (numbers ys)) are.once_before;
        given_rise = rises Source before order key (of_source first_now second_now xs_now ys_now) are.own_after (sources ks js) are.once_touched;
        now_rise = rises Source before order key (of_source first_now second_now xs_now ys_now) are.own_after (sources (numbers xs_now) (numbers ys_now)) are.once_after;
        away = away_alike Source before order key (of_source first second xs ys) (of_source first_now second_now xs_now ys_now) (sources (numbers xs) (numbers ys)) (sources (numbers xs_now) (numbers ys_now)) (sources ks js) are (map key (flat_map (of_source first second xs ys) (sources ks js))) (λ q. refl);
        there = there_alike Source before order key (of_source first second xs ys) (of_source first_now second_now xs_now ys_now) (sources (numbers xs) (numbers ys)) (sources (numbers xs_now) (numbers ys_now)) (sources ks js) are (map key (flat_map (of_source first second xs ys) (sources ks js))) (λ q. refl);
      }

      had : flat_map (of_source first second xs ys) (sources ks js) ≡ both_give first second (at_numbers xs ks) (at_numbers ys js)
      had = sources_give first second xs ys ks js ∙ (λ j. some_numbers first xs ks j ++ some_numbers second ys js j)

      gives : flat_map (of_source first_now second_now xs_now ys_now) (sources ks js) ≡ both_give first_now second_now (at_numbers xs_now ks) (at_numbers ys_now js)
      gives = sources_give first_now second_now xs_now ys_now ks js ∙ (λ j. some_numbers first_now xs_now ks j ++ some_numbers second_now ys_now js j)

      was : flat_map (of_source first second xs ys) (sources (numbers xs) (numbers ys)) ≡ both_give first second (unkeyed xs) (unkeyed ys)
      was = all_sources first second xs ys up rise

      is : flat_map (of_source first_now second_now xs_now ys_now) (sources (numbers xs_now) (numbers ys_now)) ≡ both_give first_now second_now (unkeyed xs_now) (unkeyed ys_now)
      is = all_sources first_now second_now xs_now ys_now up_now rise_now
