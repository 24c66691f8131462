-- What a step adds to a run is told as the definition tells it.
use Rattle.std.proofs.Common.{◌≡◌, ◌∙◌, ℕ, suc, ◌≤◌, List, [], ◌∷◌, ◌++◌, length, map, Option, Some, refl, ap, sym, arith}
use Rattle.std.specs.Prelude.{if◌then◌else◌, option_to_list, slice_get}
use Rattle.std.proofs.lemmas.List.{append-nil, length-append}
use Rattle.api_types.proofs.NameLemmas.{bytes_itself}
use Rattle.api_types.specs.Ident.{Ident}
use Rattle.dvr_fabric.proofs.HostLemmas.{place_of}
use Rattle.dvr_fabric.specs.Positions.{Adds, Tells, run_with}
use Rattle.dvr_fabric.specs.declared.run.DvrRun.{DvrRun as TheirRun}
use Rattle.dvr_types.specs.DvrFabric.{DvrFate, DvrHost, DvrRun, is_dvr_named, name_elsewhere, run_at, with_passed}
use Rattle.dvr_types.specs.DvrVerdicts.{plain_hosts, verdict_of_dvr}
use Rattle.dvr_types.specs.declared.verdict.DvrVerdict.{DvrVerdict}
use Rattle.plane_laws.proofs.Facts.{AtMostOne}
use Rattle.plane_types.specs.Fabric.{after_step, step_path}
use Rattle.plane_types.specs.Hosts.{Host}
use Rattle.plane_types.specs.Places.{Place}
use Rattle.plane_types.specs.TableStep.{Stepped}
use Rattle.plane_types.specs.Verdicts.{index_among, made_entries}
use Rattle.plane_types.specs.declared.entry.Entry.{Entry}
use Rattle.plane_types.specs.declared.verdict.Made.{Made}
use Rattle.plane_types.specs.declared.verdict.Outcome.{Outcome}

-- an entry that the host at a place made
abbrev pub made_by : ℕ → Entry → Made
made_by at e = record { entry = e; host = Some at }

pub told_long : (hosts : List Host) (es : List Entry) (names : List (List ℕ)) → length (made_entries hosts es names) ≡ length es
told_long hosts [] names = refl
told_long hosts (e ∷ es) [] = ap suc (told_long hosts es [])
told_long hosts (e ∷ es) (name ∷ names) = ap suc (told_long hosts es names)

module _ (hosts : List Host) (name : List ℕ) (at : ℕ) (placed : index_among name hosts ≡ Some at) where
  told_new : (made : List Entry) → made_entries hosts made (map (λ (e : Entry). name) made) ≡ map (made_by at) made
  told_new [] = refl
  told_new (e ∷ made) = ap (λ (o : Option ℕ). record { entry = e; host = o } ∷ made_entries hosts made (map (λ (x : Entry). name) made)) placed ∙ ap (λ rest. made_by at e ∷ rest) (told_new made)

  told_on : (es made : List Entry) (ms : List (List ℕ)) → length ms ≡ length es → made_entries hosts (es ++ made) (ms ++ map (λ (e : Entry). name) made) ≡ made_entries hosts es ms ++ map (made_by at) made
  told_on [] made [] long = told_new made
  told_on [] made (m ∷ ms) long = absurd (omega (arith, long))
  told_on (e ∷ es) made [] long = absurd (omega (arith, long))
  told_on (e ∷ es) made (m ∷ ms) long = ap (λ rest. record { entry = e; host = index_among m hosts } ∷ rest) (told_on es made ms (omega (arith, long)))

-- at most one entry is made, and it is the next
made_next : (xs made : List Entry) → length made ≤ 1 → option_to_list (slice_get (xs ++ made) (length xs)) ≡ made
made_next [] [] one = refl
made_next [] (e ∷ []) one = refl
made_next [] (e ∷ f ∷ es) one = absurd (omega (arith, one))
made_next (x ∷ xs) made one = made_next xs made one

-- after a step that was noted, at the next host
pub tells_noted : (hosts : List DvrHost) → ((name : List ℕ) → AtMostOne (is_dvr_named name) hosts) → (old new : TheirRun) (r next : DvrRun) (d x : DvrHost) (at : ℕ) (ids : List Ident) (items : List Entry)
    → slice_get hosts at ≡ Some d → Tells hosts old r → Adds d ids items r next
    → new.path ≡ old.path ++ ids → new.fresh.items ≡ items
    → new.made ≡ old.made ++ map (made_by at) (option_to_list (slice_get items (length old.made)))
    → new.hosts ≡ old.hosts ++ name_elsewhere d.host.name x.host.name
    → Tells hosts new (run_at d x next)
tells_noted hosts names old new r next d x at ids items here tells adds path fresh made passed = record {
  path = path ∙ ap (λ ids0. ids0 ++ ids) tells.path ∙ sym adds.path;
  fresh = fresh ∙ adds.told;
  made = made ∙ ap (λ ms. ms ++ map (made_by at) (option_to_list (slice_get items (length old.made)))) tells.made ∙ ap (λ es. made_entries (plain_hosts hosts) r.run.fresh r.run.makers ++ map (made_by at) es) last
      ∙ sym (told_on (plain_hosts hosts) d.host.name at (place_of hosts names at d here) r.run.fresh adds.made r.run.makers tells.makers)
      ∙ (λ j. made_entries (plain_hosts hosts) (sym adds.fresh j) (sym adds.makers j));
  makers = omega (arith, ap length adds.makers, ap length adds.fresh, length-append r.run.makers (map (λ (e : Entry). d.host.name) adds.made), length-append r.run.fresh adds.made, tells.makers, same_long adds.made);
  passed = passed ∙ ap (λ xs. xs ++ name_elsewhere d.host.name x.host.name) (tells.passed ∙ sym adds.hosts);
}
  where
    same_long : (es : List Entry) → length (map (λ (e : Entry). d.host.name) es) ≡ length es
    same_long [] = refl
    same_long (e ∷ es) = ap suc (same_long es)

    long : length old.made ≡ length r.run.fresh
    long = ap length tells.made ∙ told_long (plain_hosts hosts) r.run.fresh r.run.makers

    last : option_to_list (slice_get items (length old.made)) ≡ adds.made
    last = ap (λ es. option_to_list (slice_get es (length old.made))) (adds.told ∙ adds.fresh) ∙ ap (λ n. option_to_list (slice_get (r.run.fresh ++ adds.made) n)) long ∙ made_next r.run.fresh adds.made adds.few

-- what steps add: a look-up in tables what it makes, a copy and a tunnel no entry
pub adds_made : (d : DvrHost) (place : Place) (s : Stepped) (r : DvrRun) (ids : List Ident) (new : List Entry) → length s.made ≤ 1 → ids ≡ step_path d.host place s.step → new ≡ r.run.fresh ++ s.made
    → Adds d ids new r (record { run = after_step d.host place s r.run; hosts = r.hosts })
adds_made d place s r ids new few ids_are told = record {
  made = s.made;
  few = few;
  path = ap (λ xs. r.run.path ++ xs) (sym ids_are);
  fresh = refl;
  makers = refl;
  hosts = refl;
  told = told;
}

pub adds_passed : (d : DvrHost) (r : DvrRun) (ids passed : List Ident) (new : List Entry) → ids ≡ passed → new ≡ r.run.fresh → Adds d ids new r (with_passed r passed)
adds_passed d r ids passed new ids_are told = record {
  made = [];
  few = omega arith;
  path = ap (λ xs. r.run.path ++ xs) (sym ids_are);
  fresh = sym (append-nil r.run.fresh);
  makers = sym (append-nil r.run.makers);
  hosts = refl;
  told = told;
}

pub adds_nothing : (d : DvrHost) (r : DvrRun) (ids : List Ident) (new : List Entry) → ids ≡ [] → new ≡ r.run.fresh → Adds d ids new r r
adds_nothing d r ids new none told = record {
  made = [];
  few = omega arith;
  path = sym (ap (λ xs. r.run.path ++ xs) none ∙ append-nil r.run.path);
  fresh = sym (append-nil r.run.fresh);
  makers = sym (append-nil r.run.makers);
  hosts = refl;
  told = told;
}

-- at the same host
pub run_stays : (d : DvrHost) (r : DvrRun) → run_at d d r ≡ r
run_stays d r = ap (λ xs. record { run = r.run; hosts = xs }) (ap (λ b. r.hosts ++ (if b then [] else d.host.name ∷ [])) (bytes_itself d.host.name) ∙ append-nil r.hosts)

pub stays_with : (d : DvrHost) (r : DvrRun) (o : Option DvrHost) → o ≡ Some d → run_with d r o ≡ r
stays_with d r o here = ap (run_with d r) here ∙ run_stays d r

-- a verdict that is told
abbrev pub verdict_by : Outcome → List Ident → List Made → List (List ℕ) → DvrVerdict
verdict_by o path fresh hosts = record { verdict = record { outcome = o; path = path; fresh = fresh; trail = [] }; hosts = hosts }

pub told-verdict : (hosts : List DvrHost) (o : Outcome) (run : TheirRun) (f : DvrFate) → o ≡ f.outcome → Tells hosts run f.run → verdict_by o run.path run.made run.hosts ≡ verdict_of_dvr hosts f
told-verdict hosts o run f ended told = λ j. verdict_by (ended j) (told.path j) (told.made j) (told.passed j)
