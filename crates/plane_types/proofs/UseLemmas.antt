-- Valid translations, and the ports that they leave.
use Rattle.std.proofs.Common.{◌≡◌, ◌∙◌, ◌++◌, ◌<◌, ◌+◌, ◌-◌, ℕ, zero, suc, List, [], ◌∷◌, Bool, true, false, refl, ap, arith}
use Rattle.std.specs.Prelude.{◌&&◌, ◌==◌, Some, None, find, if◌then◌else◌}
use Rattle.std.specs.List.{cons_option, filter_map}
use Rattle.api_types.specs.Ident.{Ident}
use Rattle.api_types.specs.Table.{ident_eq}
use Rattle.plane_types.specs.Parts.{use_if}
use Rattle.plane_types.specs.Packets.{Packet}
use Rattle.plane_types.specs.Routing.{Use, answers, is_taken, least_untaken, uses_at}
use Rattle.plane_types.specs.declared.entry.Entry.{Entry}
use Rattle.plane_types.specs.declared.entry.Entry.TheVariants.{Flow, Snat}
use Rattle.plane_types.specs.declared.frame.Key.{Key}

-- without an outer address nothing is answered
pub none_answers : (p : Packet) (uses : List Use) → find (answers None p) uses ≡ None
none_answers p [] = refl
none_answers p (u ∷ uses) = none_answers p uses

-- the valid ones among entries that were there and those that are fresh
pub uses_of_both : (r : Ident) (outer : ℕ) (xs ys : List Entry) → uses_at r outer (xs ++ ys) ≡ filter_map (use_if r outer) xs ++ filter_map (use_if r outer) ys
uses_of_both r outer [] [] = refl
uses_of_both r outer [] (Flow p d k ∷ ys) = uses_of_both r outer [] ys
uses_of_both r outer [] (Snat s k o p ∷ ys) = go (ident_eq r s && (outer == o)) (uses_of_both r outer [] ys)
  where
    go : (b : Bool) → uses_at r outer ys ≡ filter_map (use_if r outer) ys → (if b then record { key = k; port = p } ∷ uses_at r outer ys else uses_at r outer ys) ≡ cons_option (if b then Some (record { key = k; port = p }) else None) (filter_map (use_if r outer) ys)
    go true rest = ap (λ us. record { key = k; port = p } ∷ us) rest
    go false rest = rest
uses_of_both r outer (Flow p d k ∷ xs) ys = uses_of_both r outer xs ys
uses_of_both r outer (Snat s k o p ∷ xs) ys = go (ident_eq r s && (outer == o)) (uses_of_both r outer xs ys)
  where
    go : (b : Bool) → uses_at r outer (xs ++ ys) ≡ filter_map (use_if r outer) xs ++ filter_map (use_if r outer) ys → (if b then record { key = k; port = p } ∷ uses_at r outer (xs ++ ys) else uses_at r outer (xs ++ ys)) ≡ cons_option (if b then Some (record { key = k; port = p }) else None) (filter_map (use_if r outer) xs) ++ filter_map (use_if r outer) ys
    go true rest = ap (λ us. record { key = k; port = p } ∷ us) rest
    go false rest = rest

-- one port more, or none left
pub untaken_more : (uses : List Use) (k : Key) (many first : ℕ) → least_untaken uses k (suc many) first ≡ (if is_taken uses k first then least_untaken uses k many (first + 1) else Some first)
unfolding least_untaken
untaken_more uses k many first = refl

pub untaken_none : (uses : List Use) (k : Key) (first : ℕ) → least_untaken uses k zero first ≡ None
unfolding least_untaken
untaken_none uses k first = refl

-- the same at a place of a search from the first of `many`
pub untaken_found : (uses : List Use) (k : Key) (many place first : ℕ) → place < many → is_taken uses k (first + place) ≡ false → least_untaken uses k (many - place) (first + place) ≡ Some (first + place)
untaken_found uses k many place first below free =
    let left : many - place ≡ suc (many - (place + 1)) = omega arith in
    ap (λ n. least_untaken uses k n (first + place)) left ∙ untaken_more uses k (many - (place + 1)) (first + place)
    ∙ ap (λ b. if b then least_untaken uses k (many - (place + 1)) (first + place + 1) else Some (first + place)) free

pub untaken_past : (uses : List Use) (k : Key) (many place first : ℕ) → place < many → is_taken uses k (first + place) ≡ true → least_untaken uses k (many - place) (first + place) ≡ least_untaken uses k (many - (place + 1)) (first + (place + 1))
untaken_past uses k many place first below taken =
    let left : many - place ≡ suc (many - (place + 1)) = omega arith in
    let next : first + place + 1 ≡ first + (place + 1) = omega arith in
    ap (λ n. least_untaken uses k n (first + place)) left ∙ untaken_more uses k (many - (place + 1)) (first + place)
    ∙ ap (λ b. if b then least_untaken uses k (many - (place + 1)) (first + place + 1) else Some (first + place)) taken
    ∙ ap (λ n. least_untaken uses k (many - (place + 1)) n) next
