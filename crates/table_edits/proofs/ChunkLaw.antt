-- Edits of the chunks of touched sources lead from a table to the one after a change, and are few.
use Rattle.std.proofs.Common.{inl, inr, ◌≡◌, ◌∙◌, ℕ, zero, suc, ◌+◌, ◌≤◌, ◌<◌, ◌^◌, List, [], ◌∷◌, ◌++◌, length, map, Option, Some, None, Bool, true, false, true≢false, refl, sym, ap, subst, arith}
use Rattle.std.specs.Prelude.{All, ◌||◌, ⊤, if◌then◌else◌, is_some, nat_lt, option_and_then, option_map}
use Rattle.std.proofs.lemmas.Bool.Decides.{nat_tests}
use Rattle.std.proofs.lemmas.List.Elements.{All-cons}
use Rattle.plane_types.specs.Edits.{edit_at}
use Rattle.plane_types.specs.Keyed.{IsTotal, Rises, are_one, below, chunks, pair_order, row_at}
use Rattle.plane_types.specs.Numbered.{RowItem, numbered_after, rows_after, with_numbers}
use Rattle.plane_types.specs.declared.delta.Edit.{Edit}
use Rattle.plane_types.proofs.KeyedLemmas.{apart_first, apart_second, never, three_ways}
use Rattle.plane_types.proofs.KeyedTablesLemmas.{unkeyed}
use Rattle.plane_types.proofs.NumberedLemmas.{after_plain, after_rises, number_order, numbered_rises, plain_numbered}
use Rattle.plane_types.proofs.PairLemmas.{alike, at_flat, flat_rises, flat_rows, pair_first, pair_one, pair_total}
use Rattle.table_edits.specs.ChunksSeen.{AreChunkEdits, IsMoreBy, chunk_at, chunk_rows, chunk_start, moved_edit}
use Rattle.table_edits.specs.EditsAt.{AreEditsAt, KeysBefore, KeysDescend, among}
use Rattle.table_edits.specs.NumbersSeen.{Renumbered, at_after, at_before}
use Rattle.table_edits.specs.Rewires.{Rewires}
use Rattle.table_edits.proofs.ChunkPlaces.{below_chunk}
use Rattle.table_edits.proofs.KeyedLaw.{keyed_lead}
use Rattle.table_edits.proofs.NumberSteps.{place_row}
use Rattle.table_edits.proofs.OwnKeyLaw.{among_append}

module _ {X J R : Type 0} (second : J → J → Bool) (order : IsTotal second) (came comes : X → List (J × R)) (rows : List X) (items : List (RowItem X)) where
  abbrev pub pairs : ℕ × J → ℕ × J → Bool
  pairs = pair_order nat_lt second

  abbrev total : IsTotal pairs
  total = pair_total nat_lt second number_order order

  abbrev seen : Renumbered X
  seen = record { rows = rows; items = items }

  abbrev pub old_table : List ((ℕ × J) × R)
  old_table = chunks came (with_numbers 0 rows)

  abbrev pub new_table : List ((ℕ × J) × R)
  new_table = chunks comes (numbered_after rows items)

  abbrev pub old_chunk : ℕ → List (J × R)
  old_chunk k = chunk_at came (at_before seen k)

  abbrev pub new_chunk : ℕ → List (J × R)
  new_chunk k = chunk_at comes (at_after seen k)

  -- the row at a key is one of its chunk
  at_chunk : (chunk : X → List (J × R)) (j : J) (o : Option X) → option_and_then (λ x. row_at second j (chunk x)) o ≡ row_at second j (chunk_at chunk o)
  at_chunk chunk j None = refl
  at_chunk chunk j (Some x) = refl

  old_at : (k : ℕ) (j : J) → row_at pairs (k, j) old_table ≡ row_at second j (old_chunk k)
  old_at k j = at_flat nat_lt second number_order order came (k, j) (with_numbers 0 rows) (numbered_rises 0 rows) ∙ at_chunk came j (at_before seen k)

  new_at : (k : ℕ) (j : J) → row_at pairs (k, j) new_table ≡ row_at second j (new_chunk k)
  new_at k j = at_flat nat_lt second number_order order comes (k, j) (numbered_after rows items) (after_rises rows items) ∙ at_chunk comes j (at_after seen k)

  place_at : (k : ℕ) (j : J) → below pairs (k, j) old_table ≡ chunk_start came rows k + below second j (old_chunk k)
  place_at k j =
      let start : 0 + k ≡ k = omega arith in
      below_chunk second order came k j rows
      ∙ ap (λ o. chunk_start came rows k + below second j (chunk_at came o)) (sym (place_row 0 rows k) ∙ ap (λ m. row_at nat_lt m (with_numbers 0 rows)) start)

  -- edits of a chunk are edits of the table
  abbrev keys_at : ℕ → List J → List (ℕ × J)
  keys_at k js = map (λ (j : J). (k, j)) js

  moved : (k : ℕ) (js : List J) (es : List (Edit R)) → AreEditsAt second (old_chunk k) (λ j. row_at second j (new_chunk k)) js es
      → AreEditsAt pairs old_table (λ q. row_at pairs q new_table) (keys_at k js) (map (moved_edit (chunk_start came rows k)) es)
  moved k [] es are = ap (map (moved_edit (chunk_start came rows k))) are
  moved k (j ∷ js) es (inl h) = inl (old_at k j ∙ h.0 ∙ sym (new_at k j), moved k js es h.1)
  moved k (j ∷ js) es (inr h) = inr (
    (λ e. h.0 (sym (old_at k j) ∙ e ∙ new_at k j)),
    (
      map (moved_edit (chunk_start came rows k)) h.1.0,
      ap (map (moved_edit (chunk_start came rows k))) h.1.1 ∙ ap (λ e. e ∷ map (moved_edit (chunk_start came rows k)) h.1.0) edit,
      moved k js h.1.0 h.1.2,
    ),
  )
    where
      edit : moved_edit (chunk_start came rows k) (edit_at second (old_chunk k) (j, row_at second j (new_chunk k))) ≡ edit_at pairs old_table ((k, j), row_at pairs (k, j) new_table)
      edit = λ i. record {
        place = sym (place_at k j) i;
        out = is_some (sym (old_at k j) i);
        put = sym (new_at k j) i;
      }

  -- ---- keys of chunks from the last source to the first

  among_at : (q : ℕ × J) (k : ℕ) (js : List J) → q.0 ≡ k → among pairs q (keys_at k js) ≡ among second q.1 js
  among_at q k [] e = refl
  among_at q k (j ∷ js) e = (λ i. alike nat_lt second number_order order q (k, j) (same k j e).0 (same k j e).1 i || among_at q k js e i)
    where
      same : (k : ℕ) (j : J) → q.0 ≡ k → (nat_lt q.0 k ≡ false) × (nat_lt k q.0 ≡ false)
      same k j e = (grind (arith, nat_tests, e), grind (arith, nat_tests, e))

  abbrev AllBelow : ℕ → List (ℕ × J) → Type 0
  AllBelow n [] = ⊤
  AllBelow n (q ∷ qs) = (nat_lt q.0 n ≡ true) × AllBelow n qs

  below_append : (n : ℕ) (xs ys : List (ℕ × J)) → AllBelow n xs → AllBelow n ys → AllBelow n (xs ++ ys)
  below_append n [] ys h k = k
  below_append n (x ∷ xs) ys h k = (h.0, below_append n xs ys h.1 k)

  at_below : (n k : ℕ) (js : List J) → nat_lt k n ≡ true → AllBelow n (keys_at k js)
  at_below n k [] less = tt
  at_below n k (j ∷ js) less = (less, at_below n k js less)

  before_below : (k : ℕ) (j : J) (qs : List (ℕ × J)) → AllBelow k qs → KeysBefore pairs (k, j) qs
  before_below k j [] h = tt
  before_below k j (q ∷ qs) h = (pair_first nat_lt second number_order order q (k, j) h.0, before_below k j qs h.1)

  before_chunk : (k : ℕ) (j : J) (js : List J) (qs : List (ℕ × J)) → KeysBefore second j js → AllBelow k qs → KeysBefore pairs (k, j) (keys_at k js ++ qs)
  before_chunk k j [] qs h low = before_below k j qs low
  before_chunk k j (i ∷ js) qs h low = (pair_one nat_lt second number_order order (k, i) (k, j) (never nat_lt number_order k) (never nat_lt number_order k) ∙ h.0, before_chunk k j js qs h.1 low)

  descends_chunk : (k : ℕ) (js : List J) (qs : List (ℕ × J)) → KeysDescend second js → AllBelow k qs → KeysDescend pairs qs → KeysDescend pairs (keys_at k js ++ qs)
  descends_chunk k [] qs h low down = down
  descends_chunk k (j ∷ js) qs h low down = (before_chunk k j js qs h.0 low, descends_chunk k js qs h.1 low down)

  edits_append : (ks ls : List (ℕ × J)) (es fs : List (Edit R)) → AreEditsAt pairs old_table (λ q. row_at pairs q new_table) ks es → AreEditsAt pairs old_table (λ q. row_at pairs q new_table) ls fs
      → AreEditsAt pairs old_table (λ q. row_at pairs q new_table) (ks ++ ls) (es ++ fs)
  edits_append [] ls es fs are more = subst (λ l. AreEditsAt pairs old_table (λ q. row_at pairs q new_table) ls (l ++ fs)) (sym are) more
  edits_append (k ∷ ks) ls es fs (inl h) more = inl (h.0, edits_append ks ls es fs h.1 more)
  edits_append (k ∷ ks) ls es fs (inr h) more = inr (h.0, (h.1.0 ++ fs, ap (λ l. l ++ fs) h.1.1, edits_append ks ls h.1.0 fs h.1.2 more))

  -- the edits of the chunks of these sources, one after the other
  abbrev pub AreOfChunks : List ℕ → List (Edit R) → Type 0
  AreOfChunks [] es = es ≡ []
  AreOfChunks (k ∷ ks) es =
      (found : List (Edit R)) × (rest : List (Edit R)) × AreChunkEdits second (old_chunk k) (new_chunk k) found
      × (es ≡ map (moved_edit (chunk_start came rows k)) found ++ rest) × AreOfChunks ks rest

  record OfTable (touched : List ℕ) (es : List (Edit R)) : Type 0 where
    keys : List (ℕ × J)
    down : KeysDescend pairs keys
    are : AreEditsAt pairs old_table (λ q. row_at pairs q new_table) keys es
    others : (q : ℕ × J) → among pairs q keys ≡ false → among nat_lt q.0 touched ≡ true → row_at pairs q old_table ≡ row_at pairs q new_table
    within : (n : ℕ) → KeysBefore nat_lt n touched → AllBelow n keys

  or_none : (a b : Bool) → a || b ≡ false → (a ≡ false) × (b ≡ false)
  or_none true b h = cc
  or_none false b h = (refl, h)

  among_none : (q : ℕ × J) (xs ys : List (ℕ × J)) → among pairs q (xs ++ ys) ≡ false → (among pairs q xs ≡ false) × (among pairs q ys ≡ false)
  among_none q [] ys h = (refl, h)
  among_none q (x ∷ xs) ys h =
      let first = or_none (are_one pairs q x) (among pairs q (xs ++ ys)) h in
      let rest = among_none q xs ys first.1 in
      (ap (λ b. b || among pairs q xs) first.0 ∙ rest.0, rest.1)

  of_table : (touched : List ℕ) (es : List (Edit R)) → KeysDescend nat_lt touched → AreOfChunks touched es → OfTable touched es
  of_table [] es down are = record {
    keys = [];
    down = tt;
    are = are;
    others = λ q away there. absurd (true≢false (sym there));
    within = λ n h. tt;
  }
  of_table (k ∷ ks) es down are =
      let t = of_table ks are.1 down.1 are.4 in
      let c = are.2 in
      record {
        keys = keys_at k c.keys ++ t.keys;
        down = descends_chunk k c.keys t.keys c.down (t.within k down.0) t.down;
        are = subst (AreEditsAt pairs old_table (λ q. row_at pairs q new_table) (keys_at k c.keys ++ t.keys)) (sym are.3)
            (edits_append (keys_at k c.keys) t.keys (map (moved_edit (chunk_start came rows k)) are.0) are.1 (moved k c.keys are.0 c.are) t.are);
        others = λ q away there.
            let apart = among_none q (keys_at k c.keys) t.keys away in
            three_ways nat_lt number_order q.0 k (row_at pairs q old_table ≡ row_at pairs q new_table)
            (λ e. t.others q apart.1 (sym (ap (λ b. b || among nat_lt q.0 ks) (apart_first nat_lt number_order q.0 k e)) ∙ there))
            (λ e. t.others q apart.1 (sym (ap (λ b. b || among nat_lt q.0 ks) (apart_second nat_lt number_order q.0 k e)) ∙ there))
            (λ e f.
            let one : q.0 ≡ k = number_order.same q.0 k e f in
            old_at q.0 q.1 ∙ ap (λ n. row_at second q.1 (old_chunk n)) one
            ∙ c.others q.1 (sym (among_at q k c.keys one) ∙ apart.0)
            ∙ ap (λ n. row_at second q.1 (new_chunk n)) (sym one) ∙ sym (new_at q.0 q.1));
        within = λ n h. below_append n (keys_at k c.keys) t.keys (at_below n k c.keys h.0) (t.within n h.1);
      }

  -- ---- so they lead from the one table to the other

  module _ (rise : (x : X) → Rises second (came x)) (rise_after : (x : X) → Rises second (comes x)) where
    chunk_same : (j : J) (o p : Option X) → option_map came o ≡ option_map comes p → row_at second j (chunk_at came o) ≡ row_at second j (chunk_at comes p)
    chunk_same j None None e = refl
    chunk_same j None (Some y) e = cc
    chunk_same j (Some x) None e = cc
    chunk_same j (Some x) (Some y) e = ap (λ o. row_at second j (from_some o)) e
      where
        from_some : Option (List (J × R)) → List (J × R)
        from_some None = []
        from_some (Some c) = c

    pub chunks_lead : (table : List R) (touched : List ℕ) (es : List (Edit R)) → table ≡ chunk_rows came rows → KeysDescend nat_lt touched → AreOfChunks touched es
        → ((k : ℕ) → among nat_lt k touched ≡ false → option_map came (at_before seen k) ≡ option_map comes (at_after seen k))
        → Rewires pairs old_table new_table table (chunk_rows comes (rows_after rows items)) es
    chunks_lead table touched es is down are untouched =
        let t = of_table touched es down are in
        let old_rows : unkeyed old_table ≡ chunk_rows came rows = flat_rows nat_lt second number_order order came (with_numbers 0 rows) ∙ ap (chunk_rows came) (plain_numbered 0 rows) in
        let new_rows : unkeyed new_table ≡ chunk_rows comes (rows_after rows items) = flat_rows nat_lt second number_order order comes (numbered_after rows items) ∙ ap (chunk_rows comes) (after_plain rows items) in
        subst (λ l. Rewires pairs old_table new_table l (chunk_rows comes (rows_after rows items)) es) (old_rows ∙ sym is)
        (subst (λ l. Rewires pairs old_table new_table (unkeyed old_table) l es) new_rows
        (keyed_lead pairs total old_table new_table
        (flat_rises nat_lt second number_order order came rise (with_numbers 0 rows) (numbered_rises 0 rows))
        (flat_rises nat_lt second number_order order comes rise_after (numbered_after rows items) (after_rises rows items))
        t.keys es t.down t.are
        (λ q away. stays q (t.others q away) (among nat_lt q.0 touched) refl)))
      where
        stays : (q : ℕ × J) → (among nat_lt q.0 touched ≡ true → row_at pairs q old_table ≡ row_at pairs q new_table) → (b : Bool) → among nat_lt q.0 touched ≡ b → row_at pairs q old_table ≡ row_at pairs q new_table
        stays q there true e = there e
        stays q there false e = old_at q.0 q.1 ∙ chunk_same q.1 (at_before seen q.0) (at_after seen q.0) (untouched q.0 e) ∙ sym (new_at q.0 q.1)

  -- ---- the loop that finds them

  push : (es : List (Edit R)) (found rest : List (Edit R)) → (es ++ found) ++ rest ≡ es ++ (found ++ rest)
  push [] found rest = refl
  push (x ∷ es) found rest = ap (λ l. x ∷ l) (push es found rest)

  append_none : (es : List (Edit R)) → es ++ [] ≡ es
  append_none [] = refl
  append_none (x ∷ es) = ap (λ l. x ∷ l) (append_none es)

  -- the edits so far before any of the sources that are left
  abbrev pub ChunksSoFar : List ℕ → List ℕ → List (Edit R) → Type 0
  ChunksSoFar all left es = (rest : List (Edit R)) → AreOfChunks left rest → AreOfChunks all (es ++ rest)

  pub chunk_step : (all left : List ℕ) (k : ℕ) (es now : List (Edit R)) → ChunksSoFar all (k ∷ left) es → IsMoreBy second (old_chunk k) (new_chunk k) (chunk_start came rows k) es now → ChunksSoFar all left now
  chunk_step all left k es now so_far more rest h =
      subst (AreOfChunks all) (sym (ap (λ l. l ++ rest) more.added ∙ push es (map (moved_edit (chunk_start came rows k)) more.found) rest))
      (so_far (map (moved_edit (chunk_start came rows k)) more.found ++ rest) (more.found, rest, more.are, refl, h))

  pub chunks_done : (all : List ℕ) (es : List (Edit R)) → ChunksSoFar all [] es → AreOfChunks all es
  chunks_done all es so_far = subst (AreOfChunks all) (append_none es) (so_far [] refl)

-- at keys that neither has, a chunk is as it is to be
or_false : (a b : Bool) → a || b ≡ false → (a ≡ false) × (b ≡ false)
or_false true b h = cc
or_false false b h = (refl, h)

module _ {J R : Type 0} (second : J → J → Bool) where
  absent : (q : J) (xs : List (J × R)) → among second q (map (λ (x : J × R). x.0) xs) ≡ false → row_at second q xs ≡ None
  absent q [] h = refl
  absent q (x ∷ xs) h =
      let both = or_false (are_one second q x.0) (among second q (map (λ (y : J × R). y.0) xs)) h in
      ap (λ b. if b then Some x.1 else row_at second q xs) both.0 ∙ absent q xs both.1

  pub none_at_others : (q : J) (old new : List (J × R)) → among second q (map (λ (x : J × R). x.0) old ++ map (λ (x : J × R). x.0) new) ≡ false → row_at second q old ≡ row_at second q new
  none_at_others q old new h =
      let both = or_false (among second q (map (λ (x : J × R). x.0) old)) (among second q (map (λ (x : J × R). x.0) new)) (sym (among_append second q (map (λ (x : J × R). x.0) old) (map (λ (x : J × R). x.0) new)) ∙ h) in
      absent q old both.0 ∙ sym (absent q new both.1)

-- what is made of no items is none, and so is what no items are made of
pub none_made : {X Y : Type 0} (f : X → Y) (xs : List X) (ys : List Y) → map f xs ≡ ys → length xs ≡ 0 → ys ≡ []
none_made f [] ys made none = sym made
none_made f (x ∷ xs) ys made none = absurd (omega (arith, none))

pub none_mapped : {X Y : Type 0} (f : X → Y) (xs : List X) (ys : List Y) → ys ≡ map f xs → length ys ≡ 0 → xs ≡ []
none_mapped f [] ys made none = refl
none_mapped f (x ∷ xs) [] made none = absurd (omega (arith, ap length made))
none_mapped f (x ∷ xs) (y ∷ ys) made none = absurd (omega (arith, none))

pub keys_only : {W J R : Type 0} (key : W → J) (row : W → R) (ws : List W) → map key ws ≡ map (λ (x : J × R). x.0) (map (λ (w : W). (key w, row w)) ws)
keys_only key row [] = refl
keys_only key row (w ∷ ws) = ap (λ l. key w ∷ l) (keys_only key row ws)

-- an edit of a chunk is within it
module _ {J R : Type 0} (second : J → J → Bool) (xs : List (J × R)) (after : J → Option R) (start most : ℕ) (fits : start + length (map (λ (x : J × R). x.0) xs) ≤ most) (small : most < 2 ^ 64) where
  below_most : (q : J) (ys : List (J × R)) → below second q ys ≤ length (map (λ (x : J × R). x.0) ys)
  below_most q [] = omega arith
  below_most q (y ∷ ys) = go (second y.0 q) (below_most q ys)
    where
      go : (b : Bool) → below second q ys ≤ length (map (λ (x : J × R). x.0) ys) → (if b then suc (below second q ys) else zero) ≤ suc (length (map (λ (x : J × R). x.0) ys))
      go true rest = omega (arith, rest)
      go false rest = omega arith

  abbrev IsWithin : Edit R → Type 0
  IsWithin e = start + e.place < 2 ^ 64

  pub edits_within : (js : List J) (es : List (Edit R)) → AreEditsAt second xs after js es → All IsWithin es
  edits_within [] es are = subst (All IsWithin) (sym are) (λ k d less. absurd (omega (arith, less)))
  edits_within (j ∷ js) es (inl h) = edits_within js es h.1
  edits_within (j ∷ js) es (inr h) =
      let low = below_most j xs in
      subst (All IsWithin) (sym h.1.1) (All-cons IsWithin (edit_at second xs (j, after j)) h.1.0 (omega (arith, low, fits, small)) (edits_within js h.1.0 h.1.2))

pub one_added : {A : Type 0} (xs : List A) (x : A) (ys : List A) → (xs ++ x ∷ []) ++ ys ≡ xs ++ x ∷ ys
one_added [] x ys = refl
one_added (y ∷ xs) x ys = ap (λ l. y ∷ l) (one_added xs x ys)
