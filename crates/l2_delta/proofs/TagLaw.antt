-- The tags, and what comes inward, by networks: each network's row is what is found of it, and an
-- untouched network's rows stay.
use Rattle.std.proofs.Common.{◌≡◌, ◌∙◌, ℕ, List, [], ◌∷◌, map, Option, Some, None, Bool, true, false, true≢false, cond, refl, sym, ap, subst}
use Rattle.std.specs.Prelude.{◌==◌, ◌||◌, find, option_and_then, option_map}
use Rattle.std.specs.List.{cons_option, filter, filter_map, list_any}
use Rattle.std.proofs.lemmas.Bool.{eq-eqb}
use Rattle.api_types.proofs.NameLemmas.{ident_itself, ident_same}
use Rattle.api_types.specs.Consistent.{IsConsistent}
use Rattle.api_types.specs.Ident.{Ident}
use Rattle.api_types.specs.Live.{segment}
use Rattle.api_types.specs.RowLists.{RowLists}
use Rattle.api_types.specs.Table.{ident_eq}
use Rattle.api_types.specs.Wires.{wire_of}
use Rattle.api_types.specs.declared.network.NetworkRow.{NetworkRow}
use Rattle.plane_laws.proofs.Counted.{all-of, once-counted}
use Rattle.plane_laws.proofs.Facts.{AtMostOne}
use Rattle.plane_laws.proofs.FactsHold.{frame-facts}
use Rattle.plane_laws.proofs.ListLemmas.{find-each, find-only, find-passes}
use Rattle.plane_types.specs.KeyedTables.{tag_row_of}
use Rattle.plane_types.specs.NewTags.{new_tags, tag_row}
use Rattle.plane_types.specs.Realises.{RealisesTags, TagStands}
use Rattle.plane_types.specs.TableRows.{carrier_of, inward_row, inward_rows, is_tagged, tag_of}
use Rattle.plane_types.specs.declared.table.Carrier.{Carrier}
use Rattle.plane_types.specs.declared.table.InwardRow.{InwardRow}
use Rattle.plane_types.specs.declared.table.TagRow.{TagRow}
use Rattle.plane_types.proofs.RealisedTags.{are_tags}
use Rattle.plane_types.proofs.RetaggedLaw.{tags_stand}
use Rattle.table_edits.specs.Untouched.{StaysAlike}

-- ---- a row for each network that has a tag

module _ (i : Ident) where
  unfound : (ts : List TagRow) → list_any (ident_eq i) (map (λ (t : TagRow). t.network) ts) ≡ false → find (λ (t : TagRow). ident_eq i t.network) ts ≡ None
  unfound [] h = refl
  unfound (t ∷ ts) h = go (ident_eq i t.network) h (unfound ts)
    where
      go : (b : Bool) → b || list_any (ident_eq i) (map (λ (t : TagRow). t.network) ts) ≡ false → (list_any (ident_eq i) (map (λ (t : TagRow). t.network) ts) ≡ false → find (λ (t : TagRow). ident_eq i t.network) ts ≡ None)
          → cond b (Some t) (find (λ (t : TagRow). ident_eq i t.network) ts) ≡ None
      go true h rest = absurd (true≢false h)
      go false h rest = rest h

  unlisted : (test : NetworkRow → Bool) (ns : List NetworkRow) → find (λ (n : NetworkRow). ident_eq i n.id) ns ≡ None → list_any (ident_eq i) (map (λ (n : NetworkRow). n.id) (filter test ns)) ≡ false
  unlisted test [] h = refl
  unlisted test (n ∷ ns) h = go (ident_eq i n.id) refl h (unlisted test ns)
    where
      go : (b : Bool) → ident_eq i n.id ≡ b → cond b (Some n) (find (λ (n : NetworkRow). ident_eq i n.id) ns) ≡ None → (find (λ (n : NetworkRow). ident_eq i n.id) ns ≡ None → list_any (ident_eq i) (map (λ (n : NetworkRow). n.id) (filter test ns)) ≡ false)
          → list_any (ident_eq i) (map (λ (n : NetworkRow). n.id) (cond (test n) (n ∷ filter test ns) (filter test ns))) ≡ false
      go true e h rest = let bad : Some n ≡ None = h in cc
      go false e h rest = by (test n)
        where
          by : (c : Bool) → list_any (ident_eq i) (map (λ (n : NetworkRow). n.id) (cond c (n ∷ filter test ns) (filter test ns))) ≡ false
          by true = ap (λ b. b || list_any (ident_eq i) (map (λ (n : NetworkRow). n.id) (filter test ns))) e ∙ rest h
          by false = rest h

-- the row of one network is found for no other
others_found : (n : NetworkRow) (t : TagRow) (ts : List TagRow) → t.network ≡ n.id → (ns : List NetworkRow) → find (λ (m : NetworkRow). ident_eq n.id m.id) ns ≡ None → filter_map (tag_row_of (t ∷ ts)) ns ≡ filter_map (tag_row_of ts) ns
others_found n t ts its [] h = refl
others_found n t ts its (m ∷ ns) h = go (ident_eq n.id m.id) refl h (others_found n t ts its ns)
  where
    off : (b : Bool) → ident_eq m.id t.network ≡ b → ident_eq n.id m.id ≡ false → b ≡ false
    off false e k = refl
    off true e k = absurd (true≢false (sym (subst (λ i. ident_eq n.id i ≡ true) (sym (ident_same m.id t.network e ∙ its)) (ident_itself n.id)) ∙ k))

    go : (b : Bool) → ident_eq n.id m.id ≡ b → cond b (Some m) (find (λ (m : NetworkRow). ident_eq n.id m.id) ns) ≡ None → (find (λ (m : NetworkRow). ident_eq n.id m.id) ns ≡ None → filter_map (tag_row_of (t ∷ ts)) ns ≡ filter_map (tag_row_of ts) ns)
        → cons_option (cond (ident_eq m.id t.network) (Some t) (tag_row_of ts m)) (filter_map (tag_row_of (t ∷ ts)) ns) ≡ cons_option (tag_row_of ts m) (filter_map (tag_row_of ts) ns)
    go true e h rest = let bad : Some m ≡ None = h in cc
    go false e h rest = λ j. cons_option (cond (off (ident_eq m.id t.network) refl e j) (Some t) (tag_row_of ts m)) (rest h j)

found_in_turn : (test : NetworkRow → Bool) (ns : List NetworkRow) (ts : List TagRow) → ((i : Ident) → AtMostOne (λ (n : NetworkRow). ident_eq i n.id) ns) → map (λ (t : TagRow). t.network) ts ≡ map (λ (n : NetworkRow). n.id) (filter test ns) → filter_map (tag_row_of ts) ns ≡ ts
found_in_turn test [] [] one h = refl
found_in_turn test [] (t ∷ ts) one h = let bad : t.network ∷ map (λ (t : TagRow). t.network) ts ≡ [] = h in cc
found_in_turn test (n ∷ ns) ts one h = go (test n) ts h (λ us k. found_in_turn test ns us (λ i. (one i).1) k)
  where
    alone : find (λ (m : NetworkRow). ident_eq n.id m.id) ns ≡ None
    alone = (one n.id).0 (ident_itself n.id)

    go : (b : Bool) (ts : List TagRow) → map (λ (t : TagRow). t.network) ts ≡ map (λ (n : NetworkRow). n.id) (cond b (n ∷ filter test ns) (filter test ns))
        → ((us : List TagRow) → map (λ (t : TagRow). t.network) us ≡ map (λ (n : NetworkRow). n.id) (filter test ns) → filter_map (tag_row_of us) ns ≡ us)
        → filter_map (tag_row_of ts) (n ∷ ns) ≡ ts
    go true [] h rest = let bad : [] ≡ n.id ∷ map (λ (n : NetworkRow). n.id) (filter test ns) = h in cc
    go true (t ∷ ts) h rest =
        let lists : t.network ∷ map (λ (t : TagRow). t.network) ts ≡ n.id ∷ map (λ (n : NetworkRow). n.id) (filter test ns) = h in
        let its : t.network ≡ n.id = cc in
        let others : map (λ (t : TagRow). t.network) ts ≡ map (λ (n : NetworkRow). n.id) (filter test ns) = cc in
        let here : ident_eq n.id t.network ≡ true = subst (λ i. ident_eq n.id i ≡ true) (sym its) (ident_itself n.id) in
        (λ j. cons_option (cond (here j) (Some t) (tag_row_of ts n)) (others_found n t ts its ns alone j)) ∙ ap (λ l. t ∷ l) (rest ts others)
    go false ts h rest =
        let none : tag_row_of ts n ≡ None = unfound n.id ts (ap (list_any (ident_eq n.id)) h ∙ unlisted n.id test ns alone) in
        ap (λ o. cons_option o (filter_map (tag_row_of ts) ns)) none ∙ rest ts h

composed : {X Y Z : Type 0} (f : X → Option Y) (g : Y → Option Z) (xs : List X) → filter_map g (filter_map f xs) ≡ filter_map (λ x. option_and_then g (f x)) xs
composed f g [] = refl
composed {X} {Y} {Z} f g (x ∷ xs) = go (f x) (composed f g xs)
  where
    go : (o : Option Y) → filter_map g (filter_map f xs) ≡ filter_map (λ x. option_and_then g (f x)) xs → filter_map g (cons_option o (filter_map f xs)) ≡ cons_option (option_and_then g o) (filter_map (λ x. option_and_then g (f x)) xs)
    go None rest = rest
    go (Some y) rest = ap (cons_option (g y)) rest

pub its_network : (tags : List TagRow) (w : NetworkRow) (t : TagRow) → tag_row_of tags w ≡ Some t → w.id ≡ t.network
its_network tags w t e = ident_same w.id t.network (find-passes (λ (t : TagRow). ident_eq w.id t.network) tags t e)

pub realised_after : (rows now : RowLists) (host : List ℕ) (tags new : List TagRow) → RealisesTags rows host tags → IsConsistent now → new ≡ new_tags now host tags → RealisesTags now host new
realised_after rows now host tags new real good given = subst (RealisesTags now host) (sym given) (tags_stand now host tags (are_tags rows host tags real) good)

module _ (rows : RowLists) (host : List ℕ) (tags : List TagRow) (good : IsConsistent rows) (real : RealisesTags rows host tags) where
  pub tags_found : filter_map (tag_row_of tags) rows.networks ≡ tags
  tags_found = found_in_turn (is_tagged rows host) rows.networks tags (frame-facts rows good).network_ids real.networks

  abbrev pub inward_of : NetworkRow → Option InwardRow
  inward_of w = option_and_then (inward_row rows) (tag_row_of tags w)

  pub inward_found : filter_map (λ w. option_and_then (inward_row rows) (tag_row_of tags w)) rows.networks ≡ inward_rows rows tags
  unfolding inward_rows
  inward_found = sym (composed (tag_row_of tags) (inward_row rows) rows.networks) ∙ ap (filter_map (inward_row rows)) tags_found

  -- a network's row is made of its tag and its wire
  pub tag_is_made : (w : NetworkRow) → option_map (tag_row rows w.id) (tag_of tags w.id) ≡ tag_row_of tags w
  tag_is_made w = go (tag_row_of tags w) refl
    where
      go : (o : Option TagRow) → tag_row_of tags w ≡ o → option_map (tag_row rows w.id) (option_map (λ (t : TagRow). t.tag) o) ≡ o
      go None e = refl
      go (Some t) e =
          let stands : TagStands rows t = find-each (TagStands rows) (λ (t : TagRow). ident_eq w.id t.network) tags t (all-of (TagStands rows) tags real.stand) e in
          let its : w.id ≡ t.network = its_network tags w t e in
          ap (λ i. Some (tag_row rows i t.tag)) its ∙ ap (λ x. Some (record { network = t.network; tag = t.tag; wire = x })) (sym stands.wire)

  pub inward_is_made : (w : NetworkRow) → option_and_then (λ tag. inward_row rows (record { network = w.id; tag = tag; wire = None })) (tag_of tags w.id) ≡ option_and_then (inward_row rows) (tag_row_of tags w)
  inward_is_made w = go (tag_row_of tags w) refl
    where
      go : (o : Option TagRow) → tag_row_of tags w ≡ o → option_and_then (λ tag. inward_row rows (record { network = w.id; tag = tag; wire = None })) (option_map (λ (t : TagRow). t.tag) o) ≡ option_and_then (inward_row rows) o
      go None e = refl
      go (Some t) e = ap (λ i. option_map (λ (c : Carrier). record { carrier = c; tag = t.tag }) (carrier_of (segment rows i))) (its_network tags w t e)

  -- a tag leads back to its network
  pub inward_source : (w : NetworkRow) (r : InwardRow) → option_and_then (inward_row rows) (tag_row_of tags w) ≡ Some r → option_map (λ (x : TagRow). x.network) (find (λ (x : TagRow). x.tag == r.tag) tags) ≡ Some w.id
  inward_source w r h = go (tag_row_of tags w) refl h
    where
      by : (t : TagRow) (o : Option Carrier) → option_map (λ (c : Carrier). record { carrier = c; tag = t.tag }) o ≡ Some r → t.tag ≡ r.tag
      by t None h = let bad : None ≡ Some r = h in cc
      by t (Some c) h = let same : record { carrier = c; tag = t.tag } ≡ r = cc in ap (λ (x : InwardRow). x.tag) same

      go : (o : Option TagRow) → tag_row_of tags w ≡ o → option_and_then (inward_row rows) o ≡ Some r → option_map (λ (x : TagRow). x.network) (find (λ (x : TagRow). x.tag == r.tag) tags) ≡ Some w.id
      go None e h = let bad : None ≡ Some r = h in cc
      go (Some t) e h =
          let tag : t.tag ≡ r.tag = by t (carrier_of (segment rows t.network)) h in
          let found : find (λ (x : TagRow). x.tag == r.tag) tags ≡ Some t =
          find-only (λ (t : TagRow). ident_eq w.id t.network) (λ (x : TagRow). x.tag == r.tag) tags t (once-counted (λ (x : TagRow). x.tag == r.tag) tags (real.differ r.tag)) e (eq-eqb t.tag r.tag tag) in
          ap (option_map (λ (x : TagRow). x.network)) found ∙ ap Some (sym (its_network tags w t e))

module _ (rows now : RowLists) (host : List ℕ) (old new : List TagRow) (good : IsConsistent rows) (good_now : IsConsistent now) (had : RealisesTags rows host old) (has : RealisesTags now host new) where
  -- an untouched network's rows stay
  pub tag_stays : (w : NetworkRow) → StaysAlike rows now old new w.id → tag_row_of old w ≡ option_map (tag_row now w.id) (tag_of new w.id)
  tag_stays w same = sym (tag_is_made rows host old good had w) ∙ (λ j. option_map (λ tag. record { network = w.id; tag = tag; wire = wire_of (same.on j) }) (same.tag j))

  pub inward_stays : (w : NetworkRow) → StaysAlike rows now old new w.id → option_and_then (inward_row rows) (tag_row_of old w) ≡ option_and_then (λ tag. inward_row now (record { network = w.id; tag = tag; wire = None })) (tag_of new w.id)
  inward_stays w same = sym (inward_is_made rows host old good had w) ∙ (λ j. option_and_then (λ tag. option_map (λ (c : Carrier). record { carrier = c; tag = tag }) (carrier_of (same.on j))) (same.tag j))
