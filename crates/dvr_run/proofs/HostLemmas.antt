-- Hosts of the settings: what they begin with, and their names.
use Rattle.std.proofs.Common.{List, Some, [], ap, arith, drop, length, refl, subst, suc, sym, take, zero, ℕ, ◌++◌, ◌+◌, ◌∙◌, ◌∷◌, ◌≡◌, ◌≤◌, append_assoc, cond}
use Rattle.std.specs.Prelude.{count_by, slice_get, slice_set}
use Rattle.std.specs.List.{IsDistinct, filter_map}
use Rattle.std.specs.Str.{bytes_eq}
use Rattle.std.proofs.lemmas.List.Sums.{sum_by-cons}
use Rattle.std.proofs.lemmas.Option.{none-some, same_Some}
use Rattle.dvr_run.specs.Answers.{names_of}
use Rattle.dvr_run.specs.Hosts.{first_host, first_hosts, items_of, kept_from}
use Rattle.dvr_types.specs.Copies.{copies_for}
use Rattle.dvr_types.specs.DvrFabric.{DvrHost, is_dvr_named}
use Rattle.dvr_types.specs.DvrHosts.{dvr_host, dvr_hosts}
use Rattle.dvr_types.specs.DvrVerdicts.{names_of_hosts, plain_hosts}
use Rattle.dvr_types.specs.declared.tables.DvrTables.{DvrTables}
use Rattle.api_types.specs.RowLists.{RowLists}
use Rattle.net_settings.specs.declared.settings.Host.{Host}
use Rattle.plane_types.specs.Hosts.{is_named}
use Rattle.plane_types.specs.Spare.{WithSpare}
use Rattle.plane_types.specs.TablesOfRows.{tables_of_rows}
use Rattle.plane_types.specs.Verdicts.{made_at}
use Rattle.plane_types.specs.declared.entry.Entry.{Entry}
use Rattle.plane_types.specs.declared.verdict.Made.{Made}
use Rattle.world_laws.proofs.HostNames.{one_of}

-- ---- names

pub names-counted : (name : List ℕ) (hosts : List DvrHost) → count_by (is_dvr_named name) hosts ≡ count_by (bytes_eq name) (names_of_hosts hosts)
names-counted name [] = refl
names-counted name (d ∷ hosts) =
    sum_by-cons (λ (x : DvrHost). cond {A = ℕ} (is_dvr_named name x) 1 0) d hosts
    ∙ ap (λ n. cond {A = ℕ} (bytes_eq name d.host.name) 1 0 + n) (names-counted name hosts)
    ∙ sym (sum_by-cons (λ (x : List ℕ). cond {A = ℕ} (bytes_eq name x) 1 0) d.host.name (names_of_hosts hosts))

pub plain-counted : (name : List ℕ) (hosts : List DvrHost) → count_by (is_named name) (plain_hosts hosts) ≡ count_by (is_dvr_named name) hosts
plain-counted name [] = refl
plain-counted name (d ∷ hosts) =
    sum_by-cons (λ x. cond {A = ℕ} (is_named name x) 1 0) d.host (plain_hosts hosts)
    ∙ ap (λ n. cond {A = ℕ} (is_dvr_named name d) 1 0 + n) (plain-counted name hosts)
    ∙ sym (sum_by-cons (λ (x : DvrHost). cond {A = ℕ} (is_dvr_named name x) 1 0) d hosts)

pub first-names : (rows : RowLists) (hosts : List Host) → names_of_hosts (first_hosts rows hosts) ≡ names_of hosts
first-names rows [] = refl
first-names rows (h ∷ hosts) = ap (λ l. h.name ∷ l) (first-names rows hosts)

pub first-once : (rows : RowLists) (hosts : List Host) → IsDistinct bytes_eq (names_of hosts) → (name : List ℕ) → count_by (is_dvr_named name) (first_hosts rows hosts) ≤ 1
first-once rows hosts differ name =
    subst (λ n. n ≤ 1) (sym (names-counted name (first_hosts rows hosts) ∙ ap (count_by (bytes_eq name)) (first-names rows hosts))) (one_of name (names_of hosts) differ)

-- the names don't hang on the entries
names-by : (ts : List DvrTables) (es news : List (WithSpare Entry)) → length ts ≡ length es → length news ≡ length es → names_of_hosts (dvr_hosts ts news) ≡ names_of_hosts (dvr_hosts ts es)
names-by [] es news same still = refl
names-by (t ∷ ts) [] news same still = absurd (omega (arith, same))
names-by (t ∷ ts) (e ∷ es) [] same still = absurd (omega (arith, still))
names-by (t ∷ ts) (e ∷ es) (n ∷ news) same still = ap (λ l. t.host ∷ l) (names-by ts es news (omega (arith, same)) (omega (arith, still)))

pub still-once : (ts : List DvrTables) (es news : List (WithSpare Entry)) → length ts ≡ length es → length news ≡ length es → ((name : List ℕ) → count_by (is_dvr_named name) (dvr_hosts ts es) ≤ 1) → (name : List ℕ) → count_by (is_dvr_named name) (dvr_hosts ts news) ≤ 1
still-once ts es news same still once name =
    subst (λ n. n ≤ 1) (names-counted name (dvr_hosts ts es) ∙ ap (count_by (bytes_eq name)) (sym (names-by ts es news same still)) ∙ sym (names-counted name (dvr_hosts ts news))) (once name)

-- ---- one more host

pub host-more : (ts : List DvrTables) (es : List (WithSpare Entry)) (t : DvrTables) (e : WithSpare Entry) → length ts ≡ length es → dvr_hosts (ts ++ t ∷ []) (es ++ e ∷ []) ≡ dvr_hosts ts es ++ dvr_host t e ∷ []
host-more [] [] t e same = refl
host-more [] (x ∷ es) t e same = absurd (omega (arith, same))
host-more (x ∷ ts) [] t e same = absurd (omega (arith, same))
host-more (x ∷ ts) (y ∷ es) t e same = ap (λ l. dvr_host x y ∷ l) (host-more ts es t e (omega (arith, same)))

-- it holds the rows, and has no entries
pub first-more : (rows : RowLists) (ts : List DvrTables) (es : List (WithSpare Entry)) (t : DvrTables) (e : WithSpare Entry) (name : List ℕ) (rest all : List DvrHost)
    → length ts ≡ length es → t.host ≡ name → t.base.lists ≡ tables_of_rows rows name [] → t.copies ≡ copies_for rows name → e.items ≡ []
    → dvr_hosts ts es ++ first_host rows name ∷ rest ≡ all → dvr_hosts (ts ++ t ∷ []) (es ++ e ∷ []) ++ rest ≡ all
first-more rows ts es t e name rest all same named base copied none so =
    ap (λ l. l ++ rest) (host-more ts es t e same) ∙ append_assoc (dvr_hosts ts es) (dvr_host t e ∷ []) rest
    ∙ (λ j. dvr_hosts ts es ++ record { host = record { name = named j; tables = base j; entries = none j }; copies = copied j } ∷ rest)
    ∙ so

-- ---- entries, host by host

-- hosts stay sound with other entries
pub still-sound : (ts : List DvrTables) (es news all : List (WithSpare Entry)) → all ≡ news → length news ≡ length es
    → (length ts ≡ length es) × ((name : List ℕ) → count_by (is_dvr_named name) (dvr_hosts ts es) ≤ 1) → (length ts ≡ length all) × ((name : List ℕ) → count_by (is_dvr_named name) (dvr_hosts ts all) ≤ 1)
still-sound ts es news all is still so =
    subst (λ (l : List (WithSpare Entry)). (length ts ≡ length l) × ((name : List ℕ) → count_by (is_dvr_named name) (dvr_hosts ts l) ≤ 1)) (sym is) (so.0 ∙ sym still, still-once ts es news so.0 still so.1)

-- one more host keeps what it made: those so far, and those that are left
pub kept-more : (place : ℕ) (fresh : List Made) (old new : WithSpare Entry) → new.items ≡ old.items ++ filter_map (made_at place) fresh → (es : List (WithSpare Entry)) (at : ℕ) → slice_get es at ≡ Some old
    → items_of (take (suc at) (slice_set es at new)) ++ kept_from (suc place) (items_of (drop (suc at) (slice_set es at new))) fresh ≡ items_of (take at es) ++ kept_from place (items_of (drop at es)) fresh
kept-more place fresh old new made [] at there = absurd (none-some old there)
kept-more place fresh old new made (e ∷ es) zero there =
    ap (λ l. l ∷ kept_from (suc place) (items_of es) fresh) (made ∙ ap (λ (x : WithSpare Entry). x.items ++ filter_map (made_at place) fresh) (sym (same_Some e old there)))
kept-more place fresh old new made (e ∷ es) (suc at) there = ap (λ l. e.items ∷ l) (kept-more place fresh old new made es at there)

pub set-length : (es : List (WithSpare Entry)) (at : ℕ) (new : WithSpare Entry) → length (slice_set es at new) ≡ length es
set-length [] at new = refl
set-length (e ∷ es) zero new = refl
set-length (e ∷ es) (suc at) new = ap suc (set-length es at new)
