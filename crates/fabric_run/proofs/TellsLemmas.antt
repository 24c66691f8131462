-- What a look-up adds to a run is told as the definition tells it.
use Rattle.std.proofs.Common.{◌≡◌, ◌∙◌, ℕ, suc, ◌≤◌, List, [], ◌∷◌, ◌++◌, length, map, Option, Some, refl, ap, sym, arith}
use Rattle.std.specs.Prelude.{option_to_list, slice_get}
use Rattle.std.proofs.lemmas.List.{length-append, map-append}
use Rattle.api_types.specs.Ident.{Ident}
use Rattle.plane_laws.proofs.Facts.{AtMostOne}
use Rattle.plane_types.specs.Fabric.{Run as TheRun, after_step, place_trail, step_path}
use Rattle.plane_types.specs.Hosts.{Host, is_named}
use Rattle.plane_types.specs.Places.{Place}
use Rattle.plane_types.specs.TableStep.{Stepped}
use Rattle.plane_types.specs.Verdicts.{index_among, made_entries, trail_items}
use Rattle.plane_types.specs.declared.entry.Entry.{Entry}
use Rattle.plane_types.specs.declared.verdict.Made.{Made}
use Rattle.fabric_run.specs.Views.{Tells}
use Rattle.fabric_run.specs.declared.run.Run.{Run}
use Rattle.fabric_run.proofs.FleetLemmas.{place_of}

-- an entry that the host at a place made
abbrev pub made_by : ℕ → Entry → Made
made_by at e = record { entry = e; host = Some at }

pub told_long : (hosts : List Host) (es : List Entry) (names : List (List ℕ)) → length (made_entries hosts es names) ≡ length es
told_long hosts [] names = refl
told_long hosts (e ∷ es) [] = ap suc (told_long hosts es [])
told_long hosts (e ∷ es) (name ∷ names) = ap suc (told_long hosts es names)

module _ (hosts : List Host) (name : List ℕ) (at : ℕ) (placed : index_among name hosts ≡ Some at) where
  told_new : (made : List Entry) → made_entries hosts made (map (λ (e : Entry). name) made) ≡ map (made_by at) made
  told_new [] = refl
  told_new (e ∷ made) = ap (λ (o : Option ℕ). record { entry = e; host = o } ∷ made_entries hosts made (map (λ (x : Entry). name) made)) placed ∙ ap (λ rest. made_by at e ∷ rest) (told_new made)

  told_on : (es made : List Entry) (ms : List (List ℕ)) → length ms ≡ length es → made_entries hosts (es ++ made) (ms ++ map (λ (e : Entry). name) made) ≡ made_entries hosts es ms ++ map (made_by at) made
  told_on [] made [] long = told_new made
  told_on [] made (m ∷ ms) long = absurd (omega (arith, long))
  told_on (e ∷ es) made [] long = absurd (omega (arith, long))
  told_on (e ∷ es) made (m ∷ ms) long = ap (λ rest. record { entry = e; host = index_among m hosts } ∷ rest) (told_on es made ms (omega (arith, long)))

-- at most one entry is made, and it is the next
made_next : (xs made : List Entry) → length made ≤ 1 → option_to_list (slice_get (xs ++ made) (length xs)) ≡ made
made_next [] [] one = refl
made_next [] (e ∷ []) one = refl
made_next [] (e ∷ f ∷ es) one = absurd (omega (arith, one))
made_next (x ∷ xs) made one = made_next xs made one

told_tags : (name : List ℕ) (tags : List ℕ) → trail_items (map (λ (t : ℕ). (name, t)) tags) ≡ map (λ (t : ℕ). record { host = name; tag = t }) tags
told_tags name [] = refl
told_tags name (t ∷ tags) = ap (λ rest. record { host = name; tag = t } ∷ rest) (told_tags name tags)

pub tells_after : (hosts : List Host) → ((name : List ℕ) → AtMostOne (is_named name) hosts) → (old new : Run) (r : TheRun) (h : Host) (place : Place) (s : Stepped) (at : ℕ) (ids : List Ident) (tags : List ℕ) (items : List Entry)
    → slice_get hosts at ≡ Some h → Tells hosts old r → length s.made ≤ 1
    → ids ≡ step_path h place s.step → new.path ≡ old.path ++ ids
    → items ≡ old.fresh.items ++ s.made → new.fresh.items ≡ items
    → new.made ≡ old.made ++ map (made_by at) (option_to_list (slice_get items (length old.made)))
    → map (λ (t : ℕ). (h.name, t)) tags ≡ place_trail h place → new.trail ≡ old.trail ++ map (λ (t : ℕ). record { host = h.name; tag = t }) tags
    → Tells hosts new (after_step h place s r)
tells_after hosts names old new r h place s at ids tags items here tells one ids_are path items_are fresh made tags_are trail = record {
  path = path ∙ ap (λ ids0. ids0 ++ ids) tells.path ∙ ap (λ ids1. r.path ++ ids1) ids_are;
  fresh = fresh ∙ items_are ∙ ap (λ es. es ++ s.made) tells.fresh;
  made = made ∙ ap (λ ms. ms ++ map (made_by at) (option_to_list (slice_get items (length old.made)))) tells.made ∙ ap (λ es. made_entries hosts r.fresh r.makers ++ map (made_by at) es) next ∙ sym (told_on hosts h.name at (place_of hosts names at h here) r.fresh s.made r.makers tells.makers);
  makers = omega (arith, length-append r.makers (map (λ (e : Entry). h.name) s.made), length-append r.fresh s.made, tells.makers, same_long s.made);
  trail = trail ∙ ap (λ ts. ts ++ map (λ (t : ℕ). record { host = h.name; tag = t }) tags) tells.trail ∙ ap (λ ts. trail_items r.trail ++ ts) (sym (told_tags h.name tags) ∙ ap trail_items tags_are) ∙ sym (map-append (λ (x : List ℕ × ℕ). record { host = x.0; tag = x.1 }) r.trail (place_trail h place));
}
  where
    same_long : (es : List Entry) → length (map (λ (e : Entry). h.name) es) ≡ length es
    same_long [] = refl
    same_long (e ∷ es) = ap suc (same_long es)

    long : length old.made ≡ length old.fresh.items
    long = ap length tells.made ∙ told_long hosts r.fresh r.makers ∙ sym (ap length tells.fresh)

    next : option_to_list (slice_get items (length old.made)) ≡ s.made
    next = ap (λ es. option_to_list (slice_get es (length old.made))) items_are ∙ ap (λ n. option_to_list (slice_get (old.fresh.items ++ s.made) n)) long ∙ made_next old.fresh.items s.made one
