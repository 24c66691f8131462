-- A page to which rows are added bit by bit is one to which all are added at once.
use Rattle.std.proofs.Common.{◌≡◌, ℕ, zero, suc, ◌+◌, ◌-◌, ◌*◌, ◌≤◌, ◌<◌, true, false, Bool, List, [], ◌∷◌, ◌++◌, length, take, drop, map, take_all, refl, ap, sym, ◌∙◌, arith}
use Rattle.std.specs.Prelude.{◌||◌, ◌==◌, nat_lt, nat_le, not, min}
use Rattle.std.proofs.lemmas.Bool.Decides.{nat_tests}
use Rattle.std.proofs.lemmas.List.{append_assoc, drop-map, length-append, length-drop, length-map, length-take, take-map}
use Rattle.api_types.specs.declared.page.PageRow.{PageRow}
use Rattle.wire_types.specs.Pages.{is_last_page, is_page, page, page_size}
use Rattle.wire_types.specs.PagesMade.{with_rows}
use Rattle.wire_types.specs.declared.pages.Making.{Making}

module _ {X : Type 0} where
  -- what two lists have after a number of members, and before it
  drop_both : (n : ℕ) (xs ys : List X) → drop n (xs ++ ys) ≡ drop n xs ++ drop (n - length xs) ys
  drop_both zero xs ys = let none : 0 ≡ 0 - length xs = omega arith in ap (λ k. xs ++ drop k ys) none
  drop_both (suc n) [] ys = let same : suc n ≡ suc n - 0 = omega arith in ap (λ k. drop k ys) same
  drop_both (suc n) (x ∷ xs) ys = let same : n - length xs ≡ suc n - suc (length xs) = omega arith in drop_both n xs ys ∙ ap (λ k. drop n xs ++ drop k ys) same

  take_both : (n : ℕ) (xs ys : List X) → take n (xs ++ ys) ≡ take n xs ++ take (n - length xs) ys
  take_both zero xs ys = let none : 0 ≡ 0 - length xs = omega arith in ap (λ k. take k ys) none
  take_both (suc n) [] ys = let same : suc n ≡ suc n - 0 = omega arith in ap (λ k. take k ys) same
  take_both (suc n) (x ∷ xs) ys = let same : n - length xs ≡ suc n - suc (length xs) = omega arith in ap (λ zs. x ∷ zs) (take_both n xs ys) ∙ ap (λ k. x ∷ (take n xs ++ take k ys)) same

  drop_least : (n : ℕ) (xs : List X) → drop (min n (length xs)) xs ≡ drop n xs
  drop_least zero xs = let none : min 0 (length xs) ≡ 0 = omega arith in ap (λ k. drop k xs) none
  drop_least (suc n) [] = let none : min (suc n) 0 ≡ 0 = omega arith in ap (λ k. drop k []) none
  drop_least (suc n) (x ∷ xs) = let more : min (suc n) (suc (length xs)) ≡ suc (min n (length xs)) = omega arith in ap (λ k. drop k (x ∷ xs)) more ∙ drop_least n xs

  take_least : (n : ℕ) (xs : List X) → take (min (length xs) n) xs ≡ take n xs
  take_least zero xs = let none : min (length xs) 0 ≡ 0 = omega arith in ap (λ k. take k xs) none
  take_least (suc n) [] = let none : min 0 (suc n) ≡ 0 = omega arith in ap (λ k. take k []) none
  take_least (suc n) (x ∷ xs) = let more : min (suc (length xs)) (suc n) ≡ suc (min (length xs) n) = omega arith in ap (λ k. take k (x ∷ xs)) more ∙ ap (λ zs. x ∷ zs) (take_least n xs)

  -- the members from the least of a number and the length on
  rest_is : (n s : ℕ) (xs : List X) → s ≡ min n (length xs) → take (length xs - s) (drop s xs) ≡ drop n xs
  rest_is n s xs e =
      take_all (length xs - s) (drop s xs) (let d = length-drop s xs in grind (arith, d))
      ∙ ap (λ k. drop k xs) e ∙ drop_least n xs

-- the room that is left once some rows are taken
room_after : (r u : ℕ) → page_size - (r + min (page_size - r) u) ≡ page_size - r - u
room_after r u = omega arith

module _ (p : Making) (xs ys : List PageRow) where
  abbrev room : ℕ
  room = page_size - length p.rows

  abbrev first : List PageRow
  first = drop p.before xs

  abbrev second : List PageRow
  second = drop (p.before - length xs) ys

  room_left : page_size - length (p.rows ++ take room first) ≡ room - length first
  room_left = ap (λ n. page_size - n) (length-append p.rows (take room first) ∙ ap (λ n. length p.rows + n) (length-take room first)) ∙ room_after (length p.rows) (length first)

  before_more : p.before - length xs - length ys ≡ p.before - length (xs ++ ys)
  before_more = let n = length-append xs ys in grind (arith, n)

  rows_more : (p.rows ++ take room first) ++ take (page_size - length (p.rows ++ take room first)) second ≡ p.rows ++ take room (drop p.before (xs ++ ys))
  rows_more =
      ap (λ n. (p.rows ++ take room first) ++ take n second) room_left
      ∙ append_assoc p.rows (take room first) (take (room - length first) second)
      ∙ ap (λ zs. p.rows ++ zs) (sym (take_both room first second))
      ∙ ap (λ zs. p.rows ++ take room zs) (sym (drop_both p.before xs ys))

  more_tests : (b : Bool) (n u v : ℕ) → ((b || nat_lt n u) || nat_lt (n - u) v) ≡ (b || nat_lt n (u + v))
  more_tests true n u v = refl
  more_tests false n u v = grind (arith, nat_tests)

  more_more : ((p.more || nat_lt room (length first)) || nat_lt (page_size - length (p.rows ++ take room first)) (length second)) ≡ (p.more || nat_lt room (length (drop p.before (xs ++ ys))))
  more_more =
      ap (λ n. (p.more || nat_lt room (length first)) || nat_lt n (length second)) room_left
      ∙ more_tests p.more room (length first) (length second)
      ∙ ap (λ n. p.more || nat_lt room n) (sym (length-append first second))
      ∙ ap (λ zs. p.more || nat_lt room (length zs)) (sym (drop_both p.before xs ys))

  pub with_more : with_rows (with_rows p xs) ys ≡ with_rows p (xs ++ ys)
  with_more = λ j. record { before = before_more j; rows = rows_more j; more = more_more j }

module _ {R : Type 0} (f : R → PageRow) (p : Making) (xs : List R) (s k : ℕ) (start : s ≡ min p.before (length xs)) where
  abbrev rest : List R
  rest = take (length xs - s) (drop s xs)

  rest_maps : map f rest ≡ drop p.before (map f xs)
  rest_maps = ap (map f) (rest_is p.before s xs start) ∙ sym (drop-map f p.before xs)

  rest_long : length rest ≡ length (drop p.before (map f xs))
  rest_long = sym (length-map rest f) ∙ ap length rest_maps

  module _ (count : k ≡ min (length rest) (page_size - length p.rows)) where
    before_made : p.before - s ≡ p.before - length (map f xs)
    before_made = let n = length-map xs f in grind (arith, n, start)

    rows_made : p.rows ++ map f (take k rest) ≡ p.rows ++ take (page_size - length p.rows) (drop p.before (map f xs))
    rows_made = ap (λ n. p.rows ++ map f (take n rest)) count ∙ ap (λ zs. p.rows ++ map f zs) (take_least (page_size - length p.rows) rest) ∙ ap (λ zs. p.rows ++ zs) (sym (take-map f (page_size - length p.rows) rest) ∙ ap (take (page_size - length p.rows)) rest_maps)

    fits_tests : (n m : ℕ) → nat_lt (min n m) n ≡ nat_lt m n
    fits_tests n m = grind (arith, nat_tests)

    more_made : nat_lt k (length rest) ≡ nat_lt (page_size - length p.rows) (length (drop p.before (map f xs)))
    more_made = ap (λ n. nat_lt n (length rest)) count ∙ fits_tests (length rest) (page_size - length p.rows) ∙ ap (nat_lt (page_size - length p.rows)) rest_long

    pub made : (page : List PageRow) (more : Bool) → page ≡ p.rows ++ map f (take k rest) → more ≡ (p.more || nat_lt k (length rest)) → record { before = p.before - s; rows = page; more = more } ≡ with_rows p (map f xs)
    made page more rows_is more_is = λ j. record { before = before_made j; rows = (rows_is ∙ rows_made) j; more = (more_is ∙ ap (λ b. p.more || b) more_made) j }

-- nine kinds one after the other are all at once
pub nine_more : (p : Making) (a b c d e f g h i : List PageRow)
    → with_rows (with_rows (with_rows (with_rows (with_rows (with_rows (with_rows (with_rows (with_rows p a) b) c) d) e) f) g) h) i
    ≡ with_rows p (a ++ (b ++ (c ++ (d ++ (e ++ (f ++ (g ++ (h ++ i))))))))
nine_more p a b c d e f g h i =
    let one = with_rows p a in
    let two = with_rows one b in
    let three = with_rows two c in
    let four = with_rows three d in
    let five = with_rows four e in
    let six = with_rows five f in
    let seven = with_rows six g in
    with_more seven h i ∙ with_more six g (h ++ i) ∙ with_more five f (g ++ (h ++ i)) ∙ with_more four e (f ++ (g ++ (h ++ i))) ∙ with_more three d (e ++ (f ++ (g ++ (h ++ i))))
    ∙ with_more two c (d ++ (e ++ (f ++ (g ++ (h ++ i))))) ∙ with_more one b (c ++ (d ++ (e ++ (f ++ (g ++ (h ++ i)))))) ∙ with_more p a (b ++ (c ++ (d ++ (e ++ (f ++ (g ++ (h ++ i)))))))
