-- What edits of a list leave of the parts before a run and after it.
use Rattle.std.proofs.Common.{◌≡◌, ◌∙◌, ◌⊎◌, inl, inr, ℕ, zero, suc, ◌+◌, ◌-◌, ◌≤◌, ◌<◌, List, [], ◌∷◌, ◌++◌, Bool, true, false, true≢false, cond, length, take, drop, refl, sym, ap, subst, arith}
use Rattle.std.specs.Prelude.{◌^◌, Option, Some, None, insert, max, min, remove, slice_set, if◌then◌else◌}
use Rattle.std.specs.List.{filter}
use Rattle.std.proofs.lemmas.Bool.{cases_lt}
use Rattle.std.proofs.lemmas.List.{append-nil, drop-drop, drop_all, length_push, take-append-drop}
use Rattle.std.proofs.lemmas.List.Elements.{filter-append}
use Rattle.std.proofs.lemmas.List.Edits.{length-insert}
use Rattle.std.proofs.Math.Nat.{le-max_left, le-max_right, min-le_left, min-le_right}
use Rattle.plane_types.specs.Runs.{IsOneMore, IsRun, IsRunOf, run_with}
use Rattle.plane_types.specs.declared.run.Run.{Run}

module _ {X : Type 0} (test : X → Bool) where
  abbrev None_in : List X → Type 0
  None_in xs = filter test xs ≡ []

  abbrev is_empty : List X → Bool
  is_empty [] = true
  is_empty (x ∷ xs) = false

  -- the first fails, and none of the rest passes
  parts : (x : X) (xs : List X) → None_in (x ∷ xs) → (test x ≡ false) × None_in xs
  parts x xs h = go (test x) refl h
    where
      go : (b : Bool) → test x ≡ b → cond b (x ∷ filter test xs) (filter test xs) ≡ []
          → (test x ≡ false) × None_in xs
      go true e k = absurd (true≢false (sym (ap is_empty k)))
      go false e k = (e, k)

  joined : (x : X) (xs : List X) → test x ≡ false → None_in xs → None_in (x ∷ xs)
  joined x xs e h = ap (λ b. cond b (x ∷ filter test xs) (filter test xs)) e ∙ h

  -- fewer before, fewer after
  none_shorter : (xs : List X) (n m : ℕ) → m ≤ n → None_in (take n xs) → None_in (take m xs)
  none_shorter [] zero zero le h = h
  none_shorter [] zero (suc m) le h = refl
  none_shorter [] (suc n) zero le h = refl
  none_shorter [] (suc n) (suc m) le h = refl
  none_shorter (x ∷ xs) n zero le h = refl
  none_shorter (x ∷ xs) zero (suc m) le h = absurd (omega (arith, le))
  none_shorter (x ∷ xs) (suc n) (suc m) le h = let p = parts x (take n xs) h in
      joined x (take m xs) p.0 (none_shorter xs n m (omega (arith, le)) p.1)

  none_later : (xs : List X) (n m : ℕ) → n ≤ m → None_in (drop n xs) → None_in (drop m xs)
  none_later [] zero zero le h = h
  none_later [] zero (suc m) le h = refl
  none_later [] (suc n) zero le h = refl
  none_later [] (suc n) (suc m) le h = refl
  none_later (x ∷ xs) zero zero le h = h
  none_later (x ∷ xs) zero (suc m) le h = none_later xs zero m (omega arith) (parts x xs h).1
  none_later (x ∷ xs) (suc n) zero le h = absurd (omega (arith, le))
  none_later (x ∷ xs) (suc n) (suc m) le h = none_later xs n m (omega (arith, le)) h

  none_all : (xs : List X) (n : ℕ) → None_in xs → None_in (take n xs)
  none_all [] zero h = h
  none_all [] (suc n) h = h
  none_all (x ∷ xs) zero h = refl
  none_all (x ∷ xs) (suc n) h = let p = parts x xs h in
      joined x (take n xs) p.0 (none_all xs n p.1)

  -- the elements between two places are all that pass
  all_in_run : (xs : List X) (start end : ℕ) → start ≤ end → None_in (take start xs)
      → None_in (drop end xs) → filter test (take (end - start) (drop start xs)) ≡ filter test xs
  all_in_run xs start end order before after =
      let n = end - start in
      let ys = drop start xs in
      let there : start + n ≡ end = omega (arith, order) in
      let whole : filter test xs ≡ filter test (take start xs) ++ filter test ys =
      ap (filter test) (sym (take-append-drop start xs))
      ∙ filter-append test (take start xs) ys in
      let front : filter test (take start xs) ++ filter test ys ≡ filter test ys =
      ap (λ zs. zs ++ filter test ys) before in
      let parts : filter test ys ≡ filter test (take n ys) ++ filter test (drop n ys) =
      ap (filter test) (sym (take-append-drop n ys))
      ∙ filter-append test (take n ys) (drop n ys) in
      let back : filter test (drop n ys) ≡ [] =
      ap (filter test) (drop-drop n start xs ∙ ap (λ k. drop k xs) there) ∙ after in
      sym (whole ∙ front ∙ parts ∙ ap (λ zs. filter test (take n ys) ++ zs) back
      ∙ append-nil (filter test (take n ys)))

  -- ---- one taken out

  out_front : (xs : List X) (n place : ℕ) → None_in (take n xs)
      → None_in (take (n - 1) (remove xs place))
  out_front [] n zero h = none_all [] (n - 1) refl
  out_front [] n (suc place) h = none_all [] (n - 1) refl
  out_front (x ∷ xs) zero place h = refl
  out_front (x ∷ xs) (suc n) zero h =
      subst (λ m. None_in (take m xs)) (omega arith) (parts x (take n xs) h).1
  out_front (x ∷ xs) (suc zero) (suc place) h = refl
  out_front (x ∷ xs) (suc (suc n)) (suc place) h =
      let p = parts x (take (suc n) xs) h in
      let less : suc (suc n) - 1 ≡ suc n = omega arith in
      let inner : suc n - 1 ≡ n = omega arith in
      subst (λ m. None_in (take m (x ∷ remove xs place))) (sym less)
      (joined x (take n (remove xs place)) p.0
      (subst (λ m. None_in (take m (remove xs place))) inner
      (out_front xs (suc n) place p.1)))

  out_after : (xs : List X) (n place : ℕ) → None_in (drop n xs)
      → None_in (drop n (remove xs place))
  out_after [] zero zero h = h
  out_after [] zero (suc place) h = h
  out_after [] (suc n) zero h = h
  out_after [] (suc n) (suc place) h = h
  out_after (x ∷ xs) zero zero h = (parts x xs h).1
  out_after (x ∷ xs) zero (suc place) h = let p = parts x xs h in
      joined x (remove xs place) p.0 (out_after xs zero place p.1)
  out_after (x ∷ xs) (suc n) zero h = none_later xs n (suc n) (omega arith) h
  out_after (x ∷ xs) (suc n) (suc place) h = out_after xs n place h

  -- ---- one put in that fails

  in_front : (xs : List X) (n place : ℕ) (y : X) → test y ≡ false → None_in (take n xs)
      → None_in (take n (insert xs place y))
  in_front xs zero place y e h = refl
  in_front [] (suc n) zero y e h = joined y (take n []) e (none_all [] n refl)
  in_front [] (suc n) (suc place) y e h = joined y (take n []) e (none_all [] n refl)
  in_front (x ∷ xs) (suc n) zero y e h =
      joined y (take n (x ∷ xs)) e (none_shorter (x ∷ xs) (suc n) n (omega arith) h)
  in_front (x ∷ xs) (suc n) (suc place) y e h = let p = parts x (take n xs) h in
      joined x (take n (insert xs place y)) p.0 (in_front xs n place y e p.1)

  pub in_all : (xs : List X) (place : ℕ) (y : X) → test y ≡ false → None_in xs
      → None_in (insert xs place y)
  in_all [] zero y e h = joined y [] e refl
  in_all [] (suc place) y e h = joined y [] e refl
  in_all (x ∷ xs) zero y e h = joined y (x ∷ xs) e h
  in_all (x ∷ xs) (suc place) y e h = let p = parts x xs h in
      joined x (insert xs place y) p.0 (in_all xs place y e p.1)

  in_after : (xs : List X) (n place : ℕ) (y : X) → test y ≡ false → None_in (drop n xs)
      → None_in (drop (suc n) (insert xs place y))
  in_after [] n zero y e h = none_later [] zero n (omega arith) refl
  in_after [] n (suc place) y e h = none_later [] zero n (omega arith) refl
  in_after (x ∷ xs) n zero y e h = h
  in_after (x ∷ xs) zero (suc place) y e h = in_all xs place y e (parts x xs h).1
  in_after (x ∷ xs) (suc n) (suc place) y e h = in_after xs n place y e h

  pub out_all : (xs : List X) (place : ℕ) → None_in xs → None_in (remove xs place)
  out_all xs place h = out_after xs zero place h

  -- ---- one put in that may pass: before it and after it nothing is new

  put_front : (xs : List X) (n place : ℕ) (y : X) → n ≤ place → place ≤ length xs
      → None_in (take n xs) → None_in (take n (insert xs place y))
  put_front xs zero place y le within h = refl
  put_front [] (suc n) zero y le within h = absurd (omega (arith, le))
  put_front [] (suc n) (suc place) y le within h = absurd (omega (arith, within))
  put_front (x ∷ xs) (suc n) zero y le within h = absurd (omega (arith, le))
  put_front (x ∷ xs) (suc n) (suc place) y le within h =
      let p = parts x (take n xs) h in
      joined x (take n (insert xs place y)) p.0 (put_front xs n place y (omega (arith, le))
      (omega (arith, within)) p.1)

  put_after : (xs : List X) (n place : ℕ) (y : X) → place ≤ n → place ≤ length xs
      → None_in (drop n xs) → None_in (drop (suc n) (insert xs place y))
  put_after [] n zero y le within h = none_later [] zero n (omega arith) refl
  put_after [] n (suc place) y le within h = absurd (omega (arith, within))
  put_after (x ∷ xs) n zero y le within h = h
  put_after (x ∷ xs) zero (suc place) y le within h = absurd (omega (arith, le))
  put_after (x ∷ xs) (suc n) (suc place) y le within h =
      put_after xs n place y (omega (arith, le)) (omega (arith, within)) h

  -- ---- one in the place of another

  set_front : (xs : List X) (n place : ℕ) (y : X) → test y ≡ false → None_in (take n xs)
      → None_in (take n (slice_set xs place y))
  set_front xs zero place y e h = refl
  set_front [] (suc n) place y e h = refl
  set_front (x ∷ xs) (suc n) zero y e h = joined y (take n xs) e (parts x (take n xs) h).1
  set_front (x ∷ xs) (suc n) (suc place) y e h = let p = parts x (take n xs) h in
      joined x (take n (slice_set xs place y)) p.0 (set_front xs n place y e p.1)

  pub set_all : (xs : List X) (place : ℕ) (y : X) → test y ≡ false → None_in xs
      → None_in (slice_set xs place y)
  set_all [] place y e h = refl
  set_all (x ∷ xs) zero y e h = joined y xs e (parts x xs h).1
  set_all (x ∷ xs) (suc place) y e h = let p = parts x xs h in
      joined x (slice_set xs place y) p.0 (set_all xs place y e p.1)

  set_after : (xs : List X) (n place : ℕ) (y : X) → test y ≡ false → None_in (drop n xs)
      → None_in (drop n (slice_set xs place y))
  set_after xs zero place y e h = set_all xs place y e h
  set_after [] (suc n) place y e h = refl
  set_after (x ∷ xs) (suc n) zero y e h = h
  set_after (x ∷ xs) (suc n) (suc place) y e h = set_after xs n place y e h

  new_front : (xs : List X) (n place : ℕ) (y : X) → n ≤ place → None_in (take n xs)
      → None_in (take n (slice_set xs place y))
  new_front xs zero place y le h = refl
  new_front [] (suc n) place y le h = refl
  new_front (x ∷ xs) (suc n) zero y le h = absurd (omega (arith, le))
  new_front (x ∷ xs) (suc n) (suc place) y le h = let p = parts x (take n xs) h in
      joined x (take n (slice_set xs place y)) p.0
      (new_front xs n place y (omega (arith, le)) p.1)

  new_after : (xs : List X) (n place : ℕ) (y : X) → place < n → None_in (drop n xs)
      → None_in (drop n (slice_set xs place y))
  new_after xs zero place y le h = absurd (omega (arith, le))
  new_after [] (suc n) place y le h = refl
  new_after (x ∷ xs) (suc n) zero y le h = h
  new_after (x ∷ xs) (suc n) (suc place) y le h = new_after xs n place y (omega (arith, le)) h

  none_past : (xs : List X) (n : ℕ) → length xs ≤ n → None_in (drop n xs)
  none_past xs n le = ap (filter test) (drop_all n xs le)

  -- ---- runs

  one_up : (a b : ℕ) → IsOneMore a b → b + 1 < 2 ^ 64 → a + 1 ≤ b
  one_up a b more small = by (cases_lt (a + 1) (2 ^ 64))
    where
      by : ((a + 1 < 2 ^ 64) ⊎ (2 ^ 64 ≤ a + 1)) → a + 1 ≤ b
      by (inl low) = more (a + 1) (omega arith) low
      by (inr high) =
          let most : 2 ^ 64 - 1 ≤ b = more (2 ^ 64 - 1) (omega (arith, high)) (omega arith) in
          absurd (omega (arith, most, small))

  pub run_out : (xs : List X) (place wide lost lost' : ℕ) (o : Option Run) → IsOneMore lost lost'
      → IsRunOf test xs wide lost o → IsRunOf test (remove xs place) wide lost' o
  run_out xs place wide lost lost' None more h = out_all xs place h
  run_out xs place wide lost lost' (Some r) more h = record {
    order = h.order;
    low = h.low;
    before = none_shorter (remove xs place) ((r.start - lost) - 1) (r.start - lost')
        (by (cases_lt (lost + 1) r.start)) (out_front xs (r.start - lost) place h.before);
    after = out_after xs (r.end + wide) place h.after;
  }
    where
      by : ((lost + 1 < r.start) ⊎ (r.start ≤ lost + 1)) → r.start - lost' ≤ (r.start - lost) - 1
      by (inl less) = let up : lost + 1 ≤ lost' =
          more (lost + 1) (omega arith) (omega (arith, less, h.low)) in omega (arith, up)
      by (inr all) = let up : r.start ≤ lost' = more r.start all (omega (arith, h.low)) in
          omega (arith, up)

  -- after the end of a run with one more put in
  further : (xs : List X) (n end wide wide' : ℕ) → IsOneMore wide wide' → length xs < 2 ^ 64
      → n ≤ suc (end + wide) → None_in (drop n xs) → None_in (drop (end + wide') xs)
  further xs n end wide wide' more fits le h = by (cases_lt (end + wide') (length xs))
    where
      by : ((end + wide' < length xs) ⊎ (length xs ≤ end + wide'))
          → None_in (drop (end + wide') xs)
      by (inl low) =
          let up : wide + 1 ≤ wide' = one_up wide wide' more (omega (arith, low, fits)) in
          none_later xs n (end + wide') (omega (arith, up, le)) h
      by (inr past) = none_past xs (end + wide') past

  pub run_beside : (xs : List X) (place wide wide' lost : ℕ) (y : X) (o : Option Run)
      → test y ≡ false → IsOneMore wide wide' → length (insert xs place y) < 2 ^ 64
      → IsRunOf test xs wide lost o
      → IsRunOf test (insert xs place y) wide' lost o
  run_beside xs place wide wide' lost y None e more fits h = in_all xs place y e h
  run_beside xs place wide wide' lost y (Some r) e more fits h = record {
    order = h.order;
    low = h.low;
    before = in_front xs (r.start - lost) place y e h.before;
    after = further (insert xs place y) (suc (r.end + wide)) r.end wide wide' more fits
        (omega arith) (in_after xs (r.end + wide) place y e h.after);
  }

  pub run_reached : (xs : List X) (place wide wide' lost : ℕ) (y : X) (o : Option Run)
      → place ≤ length xs → place < 2 ^ 64 → IsOneMore wide wide'
      → length (insert xs place y) < 2 ^ 64 → IsRunOf test xs wide lost o
      → IsRun test (insert xs place y) wide' lost (run_with place o)
  run_reached xs place wide wide' lost y None within small more fits h = record {
    order = omega arith;
    low = omega (arith, small);
    before = put_front xs (place - lost) place y (omega arith) within
        (none_all xs (place - lost) h);
    after = further (insert xs place y) (suc ((place + 1) + wide)) (place + 1) wide wide' more
        fits (omega arith)
        (put_after xs ((place + 1) + wide) place y (omega arith) within
        (none_later xs zero ((place + 1) + wide) (omega arith) h));
  }
  run_reached xs place wide wide' lost y (Some r) within small more fits h =
      let start : ℕ = min r.start place in
      let end : ℕ = max r.end (place + 1) in
      let from_left : start ≤ r.start = min-le_left r.start place in
      let from_right : start ≤ place = min-le_right r.start place in
      let after_left : r.end ≤ end = le-max_left r.end (place + 1) in
      let after_right : place + 1 ≤ end = le-max_right r.end (place + 1) in
      record {
        order = omega (arith, from_left, after_left, h.order);
        low = omega (arith, from_left, h.low);
        before = put_front xs (start - lost) place y (omega (arith, from_right)) within
            (none_shorter xs (r.start - lost) (start - lost) (omega (arith, from_left)) h.before);
        after = further (insert xs place y) (suc (end + wide)) end wide wide' more fits
            (omega arith)
            (put_after xs (end + wide) place y (omega (arith, after_right)) within
            (none_later xs (r.end + wide) (end + wide) (omega (arith, after_left)) h.after));
      }

  pub run_kept : (xs : List X) (place wide lost : ℕ) (y : X) (o : Option Run) → test y ≡ false
      → IsRunOf test xs wide lost o → IsRunOf test (slice_set xs place y) wide lost o
  run_kept xs place wide lost y None e h = set_all xs place y e h
  run_kept xs place wide lost y (Some r) e h = record {
    order = h.order;
    low = h.low;
    before = set_front xs (r.start - lost) place y e h.before;
    after = set_after xs (r.end + wide) place y e h.after;
  }

  pub run_replaced : (xs : List X) (place wide lost : ℕ) (y : X) (o : Option Run) → place < 2 ^ 64
      → IsRunOf test xs wide lost o
      → IsRun test (slice_set xs place y) wide lost (run_with place o)
  run_replaced xs place wide lost y None small h = record {
    order = omega arith;
    low = omega (arith, small);
    before = new_front xs (place - lost) place y (omega arith) (none_all xs (place - lost) h);
    after = new_after xs ((place + 1) + wide) place y (omega arith)
        (none_later xs zero ((place + 1) + wide) (omega arith) h);
  }
  run_replaced xs place wide lost y (Some r) small h =
      let start : ℕ = min r.start place in
      let end : ℕ = max r.end (place + 1) in
      let from_left : start ≤ r.start = min-le_left r.start place in
      let from_right : start ≤ place = min-le_right r.start place in
      let after_left : r.end ≤ end = le-max_left r.end (place + 1) in
      let after_right : place + 1 ≤ end = le-max_right r.end (place + 1) in
      record {
        order = omega (arith, from_left, after_left, h.order);
        low = omega (arith, from_left, h.low);
        before = new_front xs (start - lost) place y (omega (arith, from_right))
            (none_shorter xs (r.start - lost) (start - lost) (omega (arith, from_left)) h.before);
        after = new_after xs (end + wide) place y (omega (arith, after_right))
            (none_later xs (r.end + wide) (end + wide) (omega (arith, after_left)) h.after);
      }

  -- ---- reading a run: the part from its start to its end, both cut to the list, has all that
  -- pass

  pub near_all : (xs : List X) (wide lost start end : ℕ) (r : Run) → IsRun test xs wide lost r
      → start ≤ r.start - lost → start ≤ end → end ≤ length xs
      → ((n : ℕ) → n ≤ length xs → n ≤ r.end + wide → n ≤ end)
      → filter test (take (end - start) (drop start xs)) ≡ filter test xs
  near_all xs wide lost start end r h low order within reaches =
      all_in_run xs start end order (none_shorter xs (r.start - lost) start low h.before)
      (by (cases_lt (r.end + wide) (length xs)))
    where
      by : ((r.end + wide < length xs) ⊎ (length xs ≤ r.end + wide)) → None_in (drop end xs)
      by (inl less) =
          none_later xs (r.end + wide) end (reaches (r.end + wide) (omega (arith, less))
          (omega arith)) h.after
      by (inr all) = none_past xs end (reaches (length xs) (omega arith) all)

  -- an edit at a place of a row that may be at the key
  pub put_run : (xs : List X) (place wide wide' lost : ℕ) (y : X) (o o' : Option Run)
      → place ≤ length xs → IsOneMore wide wide' → length (insert xs place y) < 2 ^ 64
      → IsRunOf test xs wide lost o
      → o' ≡ (if test y then Some (run_with place o) else o)
      → IsRunOf test (insert xs place y) wide' lost o'
  put_run xs place wide wide' lost y o o' within more fits h is =
      subst (IsRunOf test (insert xs place y) wide' lost) (sym is) (go (test y) refl)
    where
      go : (b : Bool) → test y ≡ b
          → IsRunOf test (insert xs place y) wide' lost (if b then Some (run_with place o) else o)
      go true e = run_reached xs place wide wide' lost y o within
          (let longer : length (insert xs place y) ≡ length xs + 1 =
          length-insert xs place y within in omega (arith, within, longer, fits)) more fits h
      go false e = run_beside xs place wide wide' lost y o e more fits h

  pub set_run : (xs : List X) (place wide lost : ℕ) (y : X) (o o' : Option Run) → place < 2 ^ 64
      → IsRunOf test xs wide lost o
      → o' ≡ (if test y then Some (run_with place o) else o)
      → IsRunOf test (slice_set xs place y) wide lost o'
  set_run xs place wide lost y o o' small h is =
      subst (IsRunOf test (slice_set xs place y) wide lost) (sym is) (go (test y) refl)
    where
      go : (b : Bool) → test y ≡ b
          → IsRunOf test (slice_set xs place y) wide lost (if b then Some (run_with place o)
          else o)
      go true e = run_replaced xs place wide lost y o small h
      go false e = run_kept xs place wide lost y o e h

  -- ---- one more row at the end, as runs are made

  push_front : (xs : List X) (n : ℕ) (y : X) → test y ≡ false → None_in (take n xs)
      → None_in (take n (xs ++ y ∷ []))
  push_front xs zero y e h = refl
  push_front [] (suc n) y e h = joined y (take n []) e (none_all [] n refl)
  push_front (x ∷ xs) (suc n) y e h = let p = parts x (take n xs) h in
      joined x (take n (xs ++ y ∷ [])) p.0 (push_front xs n y e p.1)

  push_after : (xs : List X) (n : ℕ) (y : X) → test y ≡ false → None_in (drop n xs)
      → None_in (drop n (xs ++ y ∷ []))
  push_after [] zero y e h = joined y [] e refl
  push_after [] (suc n) y e h = none_later [] zero n (omega arith) refl
  push_after (x ∷ xs) zero y e h = let p = parts x xs h in
      joined x (xs ++ y ∷ []) p.0 (push_after xs zero y e p.1)
  push_after (x ∷ xs) (suc n) y e h = push_after xs n y e h

  own_front : (xs : List X) (n : ℕ) (y : X) → n ≤ length xs → None_in (take n xs)
      → None_in (take n (xs ++ y ∷ []))
  own_front xs zero y le h = refl
  own_front [] (suc n) y le h = absurd (omega (arith, le))
  own_front (x ∷ xs) (suc n) y le h = let p = parts x (take n xs) h in
      joined x (take n (xs ++ y ∷ [])) p.0 (own_front xs n y (omega (arith, le)) p.1)

  -- the runs as they are, with a row at the end
  pub push_run : (xs : List X) (place wide lost : ℕ) (y : X) (o o' : Option Run)
      → length xs ≡ place → place < 2 ^ 64 → IsRunOf test xs wide lost o
      → o' ≡ (if test y then Some (run_with place o) else o)
      → IsRunOf test (xs ++ y ∷ []) wide lost o'
  push_run xs place wide lost y o o' at small h is =
      subst (IsRunOf test (xs ++ y ∷ []) wide lost) (sym is) (go (test y) refl o h)
    where
      past : (n : ℕ) → place + 1 ≤ n → None_in (drop n (xs ++ y ∷ []))
      past n le = let longer : length (xs ++ y ∷ []) ≡ length xs + 1 = length_push xs y in
          none_past (xs ++ y ∷ []) n (omega (arith, longer, at, le))

      go : (b : Bool) → test y ≡ b → (o : Option Run) → IsRunOf test xs wide lost o
          → IsRunOf test (xs ++ y ∷ []) wide lost (if b then Some (run_with place o) else o)
      go false e None h = push_after xs zero y e h
      go false e (Some r) h = record {
        order = h.order;
        low = h.low;
        before = push_front xs (r.start - lost) y e h.before;
        after = push_after xs (r.end + wide) y e h.after;
      }
      go true e None h = record {
        order = omega arith;
        low = small;
        before = own_front xs (place - lost) y (omega (arith, at)) (none_all xs (place - lost) h);
        after = past ((place + 1) + wide) (omega arith);
      }
      go true e (Some r) h =
          let from_left : min r.start place ≤ r.start = min-le_left r.start place in
          let from_right : min r.start place ≤ place = min-le_right r.start place in
          let after_left : r.end ≤ max r.end (place + 1) = le-max_left r.end (place + 1) in
          let after_right : place + 1 ≤ max r.end (place + 1) = le-max_right r.end (place + 1) in
          record {
            order = omega (arith, from_left, after_left, h.order);
            low = omega (arith, from_left, h.low);
            before = own_front xs (min r.start place - lost) y (omega (arith, from_right, at))
                (none_shorter xs (r.start - lost) (min r.start place - lost) (omega (
                  arith,
                  from_left,
                )) h.before);
            after = past (max r.end (place + 1) + wide) (omega (arith, after_right));
          }

-- ---- places past the end

pub insert_last : {X : Type 0} (xs : List X) (place : ℕ) (y : X) → length xs ≤ place
    → insert xs place y ≡ xs ++ y ∷ []
insert_last [] zero y h = refl
insert_last [] (suc place) y h = refl
insert_last (x ∷ xs) zero y h = absurd (omega (arith, h))
insert_last (x ∷ xs) (suc place) y h = ap (λ l. x ∷ l) (insert_last xs place y (omega (arith, h)))

pub remove_past : {X : Type 0} (xs : List X) (place : ℕ) → length xs ≤ place
    → xs ≡ remove xs place
remove_past [] zero h = refl
remove_past [] (suc place) h = refl
remove_past (x ∷ xs) zero h = absurd (omega (arith, h))
remove_past (x ∷ xs) (suc place) h = ap (λ l. x ∷ l) (remove_past xs place (omega (arith, h)))

-- another row in the place of one: that is taken out, and then the other is put in
pub set_is : {X : Type 0} (xs : List X) (place : ℕ) (y : X) → place < length xs
    → slice_set xs place y ≡ insert (remove xs place) place y
set_is [] place y h = absurd (omega (arith, h))
set_is (x ∷ xs) zero y h = refl
set_is (x ∷ xs) (suc place) y h = ap (λ l. x ∷ l) (set_is xs place y (omega (arith, h)))

pub put_past : {X : Type 0} (xs : List X) (place : ℕ) (y : X) → length xs ≤ place
    → insert xs place y ≡ insert (remove xs place) place y
put_past xs place y h = ap (λ l. insert l place y) (remove_past xs place h)
