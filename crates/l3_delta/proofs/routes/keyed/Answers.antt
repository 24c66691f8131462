use Rattle.std.proofs.Common.{◌≡◌, ◌∙◌, ◌+◌, ◌++◌, ◌≤◌, ℕ, List, [], ◌∷◌, append_assoc, ap, arith, drop, length, map, sym}
use Rattle.std.proofs.lemmas.List.{append-nil, drop_all, length-map, map-append}
use Rattle.plane_types.specs.TableRows.{route_row}
use Rattle.plane_rows.specs.Ways.{way_of}
use Rattle.l3_delta.proofs.RouteRows.{next_row}
use Rattle.l3_delta.proofs.routes.keyed.Goals as goal

-- one more row
one_more : {A B : Type 0} (f : A → B) (rows now : List A) (x : A) (left rest : List B)
    → now ≡ rows ++ x ∷ [] → left ≡ f x ∷ rest → map f now ++ rest ≡ map f rows ++ left
one_more f rows now x left rest is next =
    ap (λ l. map f l ++ rest) is
    ∙ ap (λ l. l ++ rest) (map-append f rows (x ∷ []))
    ∙ append_assoc (map f rows) (f x ∷ []) rest
    ∙ ap (λ l. map f rows ++ l) (sym next)

pub loop-place-preserved : goal.loop-place-preserved
loop-place-preserved c = λ xs first second.
    let i = c.loop-place.place in
    one_more _ c.loop-place.rows.items c.push.new.self.items _ (drop i xs) (drop (i + 1) xs) c.in_ok-push.ensures.items
    (next_row xs c.args.keys.now c.args.ways.now (λ w. route_row c.args.router (way_of w)) i c.index-keys-place.result c.index-ways-place.result c.loop-place-test.true first second c.index-keys-place.is c.index-ways-place.is
    ∙ ap (λ r. (c.index-keys-place.result, r) ∷ drop (i + 1) xs) (sym c.route_of.ensures))
    ∙ c.loop-place.invariant xs first second

-- where none is left, those so far are all
ends : {A B : Type 0} (f : A → B) (rows : List A) (place : ℕ) (xs : List B) → length xs ≤ place → map f rows ++ drop place xs ≡ xs → map f rows ≡ xs
ends f rows place xs over is = sym (append-nil (map f rows)) ∙ ap (λ l. map f rows ++ l) (sym (drop_all place xs over)) ∙ is

pub returns : goal.returns
returns c = λ xs first second.
    let many : length xs ≡ length c.args.keys.now = sym (length-map xs _) ∙ ap length first in
    ends _ c.loop-place.rows.items c.loop-place.place xs (omega (arith, many, c.loop-place-test.false)) (c.loop-place.invariant xs first second)
