-- Edits at some keys lead from one list to another, are made at places of the first, and touch no
-- row that stands in both.
use Rattle.std.proofs.Common.{◌≡◌, ◌∙◌, ℕ, zero, suc, ◌+◌, ◌≤◌, List, [], ◌∷◌, ◌++◌, map, length, Option, Some, None, Bool, true, false, true≢false, refl, sym, ap, arith}
use Rattle.std.specs.Prelude.{◌||◌, ⊤, if◌then◌else◌, is_some}
use Rattle.plane_types.specs.Keyed.{IsTotal, are_one, AllAfter, Rises, row_at, below, cons_at, put_at, put_all, names_key, Say, AllBefore, Descends, Others, AreApart, Enumerates}
use Rattle.plane_types.specs.Edits.{with_edits, edit_at, edits_of, one_if, all_writes}
use Rattle.plane_types.specs.declared.delta.Edit.{Edit}
use Rattle.plane_types.proofs.KeyedLemmas.{three_ways, one_both, apart_first, apart_second, none_after, after_chain, same_entries, rises_put, at_put_here, at_put_apart, rows_of, put_is_edit}

either_same : {X : Type 0} (b : Bool) (x : X) → (if b then x else x) ≡ x
either_same true x = refl
either_same false x = refl

module _ {K R : Type 0} (before : K → K → Bool) (order : IsTotal before) where
  -- ---- edits are puts

  pub rises_all : (os : List (K × Option R)) (xs : List (K × R)) → Rises before xs
      → Rises before (put_all before os xs)
  rises_all [] xs h = h
  rises_all (o ∷ os) xs h =
      rises_all os (put_at before o.0 o.1 xs) (rises_put before order o.0 o.1 xs h)

  pub edits_are_puts : (os : List (K × Option R)) (xs : List (K × R)) → Rises before xs
      → with_edits (rows_of before order xs) (edits_of before os xs)
      ≡ rows_of before order (put_all before os xs)
  edits_are_puts [] xs h = refl
  edits_are_puts (o ∷ os) xs h =
      ap (λ rows. with_edits rows (edits_of before os (put_at before o.0 o.1 xs)))
      (put_is_edit before order o.0 o.1 xs h)
      ∙ edits_are_puts os (put_at before o.0 o.1 xs) (rises_put before order o.0 o.1 xs h)

  -- what is found after them
  pub at_put_all : (f : K → Option R) (os : List (K × Option R)) (xs : List (K × R)) (q : K)
      → Rises before xs → Say before f os
      → row_at before q (put_all before os xs)
      ≡ (if names_key before q os then f q else row_at before q xs)
  at_put_all f [] xs q up say = refl
  at_put_all f (o ∷ os) xs q up say =
      let ys : List (K × R) = put_at before o.0 o.1 xs in
      let rest : row_at before q (put_all before os ys)
      ≡ (if names_key before q os then f q else row_at before q ys) =
      at_put_all f os ys q (rises_put before order o.0 o.1 xs up) say.1 in
      let apart : are_one before q o.0 ≡ false
      → row_at before q (put_all before os ys)
      ≡ (if are_one before q o.0 || names_key before q os then f q else row_at before q xs) =
      λ e.
      rest ∙ (ap (λ r. if names_key before q os then f q
      else r) (at_put_apart before order q o.0 o.1 xs e)
      ∙ ap (λ b. if b || names_key before q os then f q else row_at before q xs) (sym e)) in
      three_ways before order q o.0 (row_at before q (put_all before os ys)
      ≡ (if are_one before q o.0 || names_key before q os then f q else row_at before q xs))
      (λ e. apart (apart_first before order q o.0 e))
      (λ e. apart (apart_second before order q o.0 e))
      (λ e g.
      let key : q ≡ o.0 = order.same q o.0 e g in
      let here : row_at before q ys ≡ f q =
      ap (λ k. row_at before k ys) key
      ∙ (at_put_here before order o.0 o.1 xs up ∙ (say.0 ∙ ap f (sym key))) in
      rest ∙ (ap (λ r. if names_key before q os then f q else r) here
      ∙ (either_same (names_key before q os) (f q)
      ∙ ap (λ b. if b || names_key before q os then f q else row_at before q xs)
      (sym (one_both before order q o.0 e g)))))

  -- puts at keys outside of which two partial functions agree lead from the rows of one to the
  -- rows of the other
  pub leads : (f g : K → Option R) (xs ys : List R) (old : Enumerates before f xs)
      → Enumerates before g ys
      → (os : List (K × Option R)) → Say before g os → ((q : K) → names_key before q os ≡ false
      → f q ≡ g q)
      → with_edits xs (edits_of before os old.entries) ≡ ys
  leads f g xs ys old new os say agree =
      let es : List (K × R) = old.entries in
      let zs : List (K × R) = put_all before os es in
      let each : (q : K) → row_at before q zs ≡ row_at before q new.entries =
      λ q. at_put_all g os es q old.rises say
      ∙ (chosen q (names_key before q os) refl ∙ sym (new.at_is q)) in
      let same : zs ≡ new.entries =
      same_entries before order zs new.entries (rises_all os es old.rises) new.rises each in
      ap (λ rows. with_edits rows (edits_of before os es)) (sym old.rows_are)
      ∙ (edits_are_puts os es old.rises ∙ (ap (rows_of before order) same ∙ new.rows_are))
    where
      chosen : (q : K) (b : Bool) → names_key before q os ≡ b
          → (if b then g q else row_at before q old.entries) ≡ g q
      chosen q true e = refl
      chosen q false e = old.at_is q ∙ agree q e

  -- ---- from the greatest key to the least, each place is one of the first list

  none_below : (q a : K) (xs : List (K × R)) → before q a ≡ true → AllAfter before a xs
      → below before q xs ≡ 0
  none_below q a [] e h = refl
  none_below q a (x ∷ xs) e h =
      ap (λ b. if b then suc (below before q xs)
      else zero) (order.one_way q x.0 (order.chain q a x.0 e h.0))

  below_cons : (q k : K) (o : Option R) (xs : List (K × R)) → before q k ≡ true
      → below before q xs ≡ 0 → below before q (cons_at before k o xs) ≡ 0
  below_cons q k None xs e h = h
  below_cons q k (Some r) xs e h =
      ap (λ b. if b then suc (below before q xs) else zero) (order.one_way q k e)

  below_put : (q k : K) (o : Option R) (xs : List (K × R)) → before q k ≡ true → Rises before xs
      → below before q (put_at before k o xs) ≡ below before q xs
  below_put q k o [] e up = below_cons q k o [] e refl
  below_put q k o (x ∷ xs) e up =
      three_ways before order x.0 k (below before q (put_at before k o (x ∷ xs))
      ≡ below before q (x ∷ xs))
      (λ f.
      ap (λ b. below before q (if b then x ∷ put_at before k o xs
      else (if before k x.0 then cons_at before k o (x ∷ xs) else cons_at before k o xs))) f
      ∙ ap (λ n. if before x.0 q then suc n else zero) (below_put q k o xs e up.1))
      (λ f.
      let zero_here : below before q (x ∷ xs) ≡ 0 =
      ap (λ b. if b then suc (below before q xs)
      else zero) (order.one_way q x.0 (order.chain q k x.0 e f)) in
      ap (λ b. below before q (if b then x ∷ put_at before k o xs
      else (if before k x.0 then cons_at before k o (x ∷ xs) else cons_at before k o xs)))
      (order.one_way k x.0 f)
      ∙ (ap (λ b. below before q (if b then cons_at before k o (x ∷ xs)
      else cons_at before k o xs)) f
      ∙ (below_cons q k o (x ∷ xs) e zero_here ∙ sym zero_here)))
      (λ f g.
      let key : x.0 ≡ k = order.same x.0 k f g in
      let first : before q x.0 ≡ true = ap (before q) key ∙ e in
      let zero_here : below before q (x ∷ xs) ≡ 0 =
      ap (λ b. if b then suc (below before q xs) else zero) (order.one_way q x.0 first) in
      ap (λ b. below before q (if b then x ∷ put_at before k o xs
      else (if before k x.0 then cons_at before k o (x ∷ xs) else cons_at before k o xs))) f
      ∙ (ap (λ b. below before q (if b then cons_at before k o (x ∷ xs)
      else cons_at before k o xs)) g
      ∙ (below_cons q k o xs e (none_below q x.0 xs first up.0) ∙ sym zero_here)))

  edits_below : (k : K) (o : Option R) (os : List (K × Option R)) (xs : List (K × R))
      → Rises before xs → AllBefore before k os
      → map (edit_at before (put_at before k o xs)) os ≡ map (edit_at before xs) os
  edits_below k o [] xs up h = refl
  edits_below k o (p ∷ ps) xs up h =
      let place : below before p.0 (put_at before k o xs) ≡ below before p.0 xs =
      below_put p.0 k o xs h.0 up in
      let found : row_at before p.0 (put_at before k o xs) ≡ row_at before p.0 xs =
      at_put_apart before order p.0 k o xs (apart_first before order p.0 k h.0) in
      let first : Edit R = record { place = 0; out = false; put = None } in
      (λ j. record {
        place = place j;
        out = is_some (found j);
        put = p.1;
      } ∷ edits_below k o ps xs up h.1 j)

  pub edits_from_back : (os : List (K × Option R)) (xs : List (K × R)) → Rises before xs
      → Descends before os → edits_of before os xs ≡ map (edit_at before xs) os
  edits_from_back [] xs up h = refl
  edits_from_back (o ∷ os) xs up h =
      ap (λ es. edit_at before xs o ∷ es) (edits_from_back os (put_at before o.0 o.1 xs)
      (rises_put before order o.0 o.1 xs up) h.1 ∙ edits_below o.0 o.1 os xs up h.0)

  -- so they lead there, each found in the first list alone
  pub leads_from_back : (f g : K → Option R) (xs ys : List R) (old : Enumerates before f xs)
      → Enumerates before g ys
      → (os : List (K × Option R)) → Descends before os → Say before g os
      → ((q : K) → names_key before q os ≡ false → f q ≡ g q)
      → with_edits xs (map (edit_at before old.entries) os) ≡ ys
  leads_from_back f g xs ys old new os down say agree =
      ap (with_edits xs) (sym (edits_from_back os old.entries old.rises down))
      ∙ leads f g xs ys old new os say agree

  -- ---- how many rows are written

  -- how many of them have a row
  abbrev pub held : List (K × R) → List K → ℕ
  held xs [] = 0
  held xs (k ∷ ks) = one_if (is_some (row_at before k xs)) + held xs ks

  gone_fewer : (k : K) (xs : List (K × R)) → Rises before xs → is_some (row_at before k xs) ≡ true
      → length (put_at before k None xs) + 1 ≡ length xs
  gone_fewer k [] up h = absurd (true≢false (sym h))
  gone_fewer k (x ∷ xs) up h =
      three_ways before order x.0 k (length (put_at before k None (x ∷ xs)) + 1 ≡ length (x ∷ xs))
      (λ f.
      let there : is_some (row_at before k xs) ≡ true =
      ap (λ b. is_some (if b then Some x.1 else row_at before k xs))
      (sym (apart_second before order k x.0 f)) ∙ h in
      let one_less : length (put_at before k None xs) + 1 ≡ length xs =
      gone_fewer k xs up.1 there in
      let computed : length (put_at before k None (x ∷ xs))
      ≡ suc (length (put_at before k None xs)) =
      ap (λ b. length (if b then x ∷ put_at before k None xs
      else (if before k x.0 then x ∷ xs else xs))) f in
      omega (arith, one_less, computed))
      (λ f. absurd (true≢false (sym h
      ∙ ap is_some (none_after before order k (x ∷ xs) (
        f,
        after_chain before order k x.0 xs f up.0,
      )))))
      (λ f g.
      let computed : length (put_at before k None (x ∷ xs)) ≡ length xs =
      ap (λ b. length (if b then x ∷ put_at before k None xs
      else (if before k x.0 then x ∷ xs else xs))) f
      ∙ ap (λ b. length (if b then x ∷ xs else xs)) g in
      omega (arith, computed))

  held_apart : (k : K) (xs : List (K × R)) (ks : List K) → Others before k ks
      → held (put_at before k None xs) ks ≡ held xs ks
  held_apart k xs [] h = refl
  held_apart k xs (q ∷ qs) h =
      (λ j. one_if (is_some (at_put_apart before order q k None xs h.0 j))
      + held_apart k xs qs h.1 j)

  -- no more of them than there are rows
  pub held_bound : (ks : List K) (xs : List (K × R)) → Rises before xs → AreApart before ks
      → held xs ks ≤ length xs
  held_bound [] xs up h = omega arith
  held_bound (k ∷ ks) xs up h =
      go (is_some (row_at before k xs)) refl (held_bound ks xs up h.1)
      (held_bound ks (put_at before k None xs) (rises_put before order k None xs up) h.1)
    where
      go : (b : Bool) → is_some (row_at before k xs) ≡ b → held xs ks ≤ length xs
          → held (put_at before k None xs) ks ≤ length (put_at before k None xs)
          → held xs (k ∷ ks) ≤ length xs
      go false e all less = let computed : one_if (is_some (row_at before k xs)) ≡ 0 =
          ap one_if e in omega (arith, all, computed)
      go true e all less =
          let computed : one_if (is_some (row_at before k xs)) ≡ 1 = ap one_if e in
          let fewer : length (put_at before k None xs) + 1 ≡ length xs = gone_fewer k xs up e in
          let same : held (put_at before k None xs) ks ≡ held xs ks = held_apart k xs ks h.0 in
          omega (arith, less, computed, fewer, same)

  abbrev pub keys_of : List (K × Option R) → List K
  keys_of os = map (λ (o : K × Option R). o.0) os

  held-append : (xs : List (K × R)) (ks qs : List K) → held xs (ks ++ qs) ≡ held xs ks + held xs qs
  held-append xs [] qs = omega arith
  held-append xs (k ∷ ks) qs = let rest : held xs (ks ++ qs) ≡ held xs ks + held xs qs =
      held-append xs ks qs in omega (arith, rest)

  -- all of these have one
  abbrev pub AllHeld : List (K × R) → List K → Type 0
  AllHeld xs [] = ⊤
  AllHeld xs (k ∷ ks) = (is_some (row_at before k xs) ≡ true) × AllHeld xs ks

  held_all : (xs : List (K × R)) (ks : List K) → AllHeld xs ks → held xs ks ≡ length ks
  held_all xs [] h = refl
  held_all xs (k ∷ ks) h =
      let rest : held xs ks ≡ length ks = held_all xs ks h.1 in
      let computed : one_if (is_some (row_at before k xs)) ≡ 1 = ap one_if h.0 in
      omega (arith, rest, computed)

  writes_are : (os : List (K × Option R)) (xs zs : List (K × R))
      → ((k : K) → row_at before k zs ≡ row_at before k zs)
      → Say before (λ k. row_at before k zs) os
      → all_writes (map (edit_at before xs) os) ≡ held xs (keys_of os) + held zs (keys_of os)
  writes_are [] xs zs u say = refl
  writes_are (o ∷ os) xs zs u say =
      let rest : all_writes (map (edit_at before xs) os)
      ≡ held xs (keys_of os) + held zs (keys_of os) = writes_are os xs zs u say.1 in
      let put : one_if (is_some o.1) ≡ one_if (is_some (row_at before o.0 zs)) =
      ap (λ w. one_if (is_some w)) say.0 in
      omega (arith, rest, put)

  -- of keys at which both have a row and which aren't among the edits' keys there are no more
  -- than the rest
  pub writes_bound : (os : List (K × Option R)) (xs zs : List (K × R)) (both : List K)
      → Rises before xs → Rises before zs → Say before (λ k. row_at before k zs) os
      → AreApart before (keys_of os ++ both) → AllHeld xs both → AllHeld zs both
      → all_writes (map (edit_at before xs) os) + (length both + length both)
      ≤ length xs + length zs
  writes_bound os xs zs both up_x up_z say apart in_x in_z =
      let sum : all_writes (map (edit_at before xs) os)
      ≡ held xs (keys_of os) + held zs (keys_of os) = writes_are os xs zs (λ k. refl) say in
      let old : held xs (keys_of os ++ both) ≤ length xs =
      held_bound (keys_of os ++ both) xs up_x apart in
      let new : held zs (keys_of os ++ both) ≤ length zs =
      held_bound (keys_of os ++ both) zs up_z apart in
      let old_sum : held xs (keys_of os ++ both) ≡ held xs (keys_of os) + held xs both =
      held-append xs (keys_of os) both in
      let new_sum : held zs (keys_of os ++ both) ≡ held zs (keys_of os) + held zs both =
      held-append zs (keys_of os) both in
      let old_both : held xs both ≡ length both = held_all xs both in_x in
      let new_both : held zs both ≡ length both = held_all zs both in_z in
      omega (arith, sum, old, new, old_sum, new_sum, old_both, new_both)
