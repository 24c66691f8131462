-- A change of rows of all kinds, of which one kind has a single item: that item, and the others.
use Rattle.std.proofs.Common.{◌≡◌, ◌∙◌, ℕ, suc, ◌+◌, ◌<◌, Bool, true, false, List, [], ◌∷◌, All, ap, arith, get_or, length, refl, subst, sym, take}
use Rattle.std.proofs.Math.Seq.{take-suc}
use Rattle.std.proofs.lemmas.List.Elements.{filter_passes}
use Rattle.std.specs.Prelude.{◌↔◌, if◌then◌else◌}
use Rattle.api_types.specs.Edits.{list_after, FitsTable}
use Rattle.api_types.specs.Parts.{project_of, network_of, subnet_of, port_of, group_of, rule_of, router_of, floating_of, policy_of}
use Rattle.api_types.specs.RowLists.{RowLists}
use Rattle.api_types.specs.Rows.{project_id, after, after_item, after_of_kind, Fits, FitsItem, FitsOfKind}
use Rattle.api_types.specs.TableItems.{of_kind, same_kind, with_kind}
use Rattle.api_types.specs.declared.change.Item.{Item}
use Rattle.api_types.specs.declared.kind.Kind.{Kind}
use Rattle.api_types.proofs.ChangeLemmas.{after-push}
use Rattle.api_types.specs.declared.kind.Kind.TheVariants.{Project, Network, Subnet, Port, Group, Rule, Router, Floating, Policy}

-- a choice, before and after
chosen : {X Y : Type 0} (f : X → Y) (c : Bool) (x y : X) → (if c then f x else f y) ≡ f (if c then x else y)
chosen f true x y = refl
chosen f false x y = refl

unlike : {X : Type 0} (c : Bool) → c ≡ false → (x y z : X) → (if c then x else z) ≡ (if c then y else z)
unlike true h x y z = cc
unlike false h x y z = refl

like : {X : Type 0} (f : X → X) (c : Bool) → c ≡ true → (x z : X) → (if c then f x else z) ≡ f (if c then x else z)
like f true h x z = refl
like f false h x z = cc

alike : {X : Type 0} (c : Bool) (x : X) → (if c then x else x) ≡ x
alike true x = refl
alike false x = refl

again : {X : Type 0} (c : Bool) (x y : X) → (if c then x else (if c then y else x)) ≡ x
again true x y = refl
again false x y = refl

chosen_fits : {R X : Type 0} (P : X → Type 0) (f : R → X) (c b : Bool) → c ≡ b → (x y : R) → P (if c then f x else f y) ↔ P (f (if b then x else y))
chosen_fits P f c b h x y =
    let same = ap (λ d. if d then f x else f y) h ∙ chosen f b x y in
    (subst P same, subst P (sym same))

-- rows with their own rows of a kind
pub with_own : (k : Kind) (rows : RowLists) → with_kind k rows rows ≡ rows
with_own k rows = λ j. record {
  projects = alike (same_kind k Project) rows.projects j;
  networks = alike (same_kind k Network) rows.networks j;
  subnets = alike (same_kind k Subnet) rows.subnets j;
  ports = alike (same_kind k Port) rows.ports j;
  groups = alike (same_kind k Group) rows.groups j;
  rules = alike (same_kind k Rule) rows.rules j;
  routers = alike (same_kind k Router) rows.routers j;
  floatings = alike (same_kind k Floating) rows.floatings j;
  policies = alike (same_kind k Policy) rows.policies j;
}

-- and with them back, once they had others
pub with_back : (k : Kind) (rows other : RowLists) → with_kind k (with_kind k rows other) rows ≡ rows
with_back k rows other = λ j. record {
  projects = again (same_kind k Project) rows.projects other.projects j;
  networks = again (same_kind k Network) rows.networks other.networks j;
  subnets = again (same_kind k Subnet) rows.subnets other.subnets j;
  ports = again (same_kind k Port) rows.ports other.ports j;
  groups = again (same_kind k Group) rows.groups other.groups j;
  rules = again (same_kind k Rule) rows.rules other.rules j;
  routers = again (same_kind k Router) rows.routers other.routers j;
  floatings = again (same_kind k Floating) rows.floatings other.floatings j;
  policies = again (same_kind k Policy) rows.policies other.policies j;
}

-- rows of a kind are taken from other rows before an item or after it
pub taken_before : (k m : Kind) (rows other : RowLists) (item : Item) → with_kind k (after_of_kind m rows item) (after_of_kind m other item) ≡ after_of_kind m (with_kind k rows other) item
taken_before k Project rows other item = ap (λ xs. record (with_kind k rows other) { projects = xs }) (chosen (λ xs. list_after project_of xs item) (same_kind k Project) other.projects rows.projects)
taken_before k Network rows other item = ap (λ xs. record (with_kind k rows other) { networks = xs }) (chosen (λ xs. list_after network_of xs item) (same_kind k Network) other.networks rows.networks)
taken_before k Subnet rows other item = ap (λ xs. record (with_kind k rows other) { subnets = xs }) (chosen (λ xs. list_after subnet_of xs item) (same_kind k Subnet) other.subnets rows.subnets)
taken_before k Port rows other item = ap (λ xs. record (with_kind k rows other) { ports = xs }) (chosen (λ xs. list_after port_of xs item) (same_kind k Port) other.ports rows.ports)
taken_before k Group rows other item = ap (λ xs. record (with_kind k rows other) { groups = xs }) (chosen (λ xs. list_after group_of xs item) (same_kind k Group) other.groups rows.groups)
taken_before k Rule rows other item = ap (λ xs. record (with_kind k rows other) { rules = xs }) (chosen (λ xs. list_after rule_of xs item) (same_kind k Rule) other.rules rows.rules)
taken_before k Router rows other item = ap (λ xs. record (with_kind k rows other) { routers = xs }) (chosen (λ xs. list_after router_of xs item) (same_kind k Router) other.routers rows.routers)
taken_before k Floating rows other item = ap (λ xs. record (with_kind k rows other) { floatings = xs }) (chosen (λ xs. list_after floating_of xs item) (same_kind k Floating) other.floatings rows.floatings)
taken_before k Policy rows other item = ap (λ xs. record (with_kind k rows other) { policies = xs }) (chosen (λ xs. list_after policy_of xs item) (same_kind k Policy) other.policies rows.policies)

-- the rows of a kind from rows after an item of another kind
pub taken_past : (k m : Kind) → same_kind k m ≡ false → (rows other : RowLists) (item : Item) → with_kind k rows (after_of_kind m other item) ≡ with_kind k rows other
taken_past k Project h rows other item = ap (λ xs. record (with_kind k rows other) { projects = xs }) (unlike (same_kind k Project) h (list_after project_of other.projects item) other.projects rows.projects)
taken_past k Network h rows other item = ap (λ xs. record (with_kind k rows other) { networks = xs }) (unlike (same_kind k Network) h (list_after network_of other.networks item) other.networks rows.networks)
taken_past k Subnet h rows other item = ap (λ xs. record (with_kind k rows other) { subnets = xs }) (unlike (same_kind k Subnet) h (list_after subnet_of other.subnets item) other.subnets rows.subnets)
taken_past k Port h rows other item = ap (λ xs. record (with_kind k rows other) { ports = xs }) (unlike (same_kind k Port) h (list_after port_of other.ports item) other.ports rows.ports)
taken_past k Group h rows other item = ap (λ xs. record (with_kind k rows other) { groups = xs }) (unlike (same_kind k Group) h (list_after group_of other.groups item) other.groups rows.groups)
taken_past k Rule h rows other item = ap (λ xs. record (with_kind k rows other) { rules = xs }) (unlike (same_kind k Rule) h (list_after rule_of other.rules item) other.rules rows.rules)
taken_past k Router h rows other item = ap (λ xs. record (with_kind k rows other) { routers = xs }) (unlike (same_kind k Router) h (list_after router_of other.routers item) other.routers rows.routers)
taken_past k Floating h rows other item = ap (λ xs. record (with_kind k rows other) { floatings = xs }) (unlike (same_kind k Floating) h (list_after floating_of other.floatings item) other.floatings rows.floatings)
taken_past k Policy h rows other item = ap (λ xs. record (with_kind k rows other) { policies = xs }) (unlike (same_kind k Policy) h (list_after policy_of other.policies item) other.policies rows.policies)

-- and after an item of the kind
pub taken_own : (k m : Kind) → same_kind k m ≡ true → (rows other : RowLists) (item : Item) → with_kind k rows (after_of_kind m other item) ≡ after_of_kind m (with_kind k rows other) item
taken_own k Project h rows other item = ap (λ xs. record (with_kind k rows other) { projects = xs }) (like (λ xs. list_after project_of xs item) (same_kind k Project) h other.projects rows.projects)
taken_own k Network h rows other item = ap (λ xs. record (with_kind k rows other) { networks = xs }) (like (λ xs. list_after network_of xs item) (same_kind k Network) h other.networks rows.networks)
taken_own k Subnet h rows other item = ap (λ xs. record (with_kind k rows other) { subnets = xs }) (like (λ xs. list_after subnet_of xs item) (same_kind k Subnet) h other.subnets rows.subnets)
taken_own k Port h rows other item = ap (λ xs. record (with_kind k rows other) { ports = xs }) (like (λ xs. list_after port_of xs item) (same_kind k Port) h other.ports rows.ports)
taken_own k Group h rows other item = ap (λ xs. record (with_kind k rows other) { groups = xs }) (like (λ xs. list_after group_of xs item) (same_kind k Group) h other.groups rows.groups)
taken_own k Rule h rows other item = ap (λ xs. record (with_kind k rows other) { rules = xs }) (like (λ xs. list_after rule_of xs item) (same_kind k Rule) h other.rules rows.rules)
taken_own k Router h rows other item = ap (λ xs. record (with_kind k rows other) { routers = xs }) (like (λ xs. list_after router_of xs item) (same_kind k Router) h other.routers rows.routers)
taken_own k Floating h rows other item = ap (λ xs. record (with_kind k rows other) { floatings = xs }) (like (λ xs. list_after floating_of xs item) (same_kind k Floating) h other.floatings rows.floatings)
taken_own k Policy h rows other item = ap (λ xs. record (with_kind k rows other) { policies = xs }) (like (λ xs. list_after policy_of xs item) (same_kind k Policy) h other.policies rows.policies)

-- an item fits them as it fits the rows from which those of its kind are
pub fits_chosen : (k m : Kind) (rows other : RowLists) (item : Item) (b : Bool) → same_kind k m ≡ b → FitsOfKind m (with_kind k rows other) item ↔ FitsOfKind m (if b then other else rows) item
fits_chosen k Project rows other item b h = chosen_fits (λ xs. FitsTable project_of project_id xs item) (λ (r : RowLists). r.projects) (same_kind k Project) b h other rows
fits_chosen k Network rows other item b h = chosen_fits (λ xs. FitsTable network_of (λ r. r.id) xs item) (λ (r : RowLists). r.networks) (same_kind k Network) b h other rows
fits_chosen k Subnet rows other item b h = chosen_fits (λ xs. FitsTable subnet_of (λ r. r.id) xs item) (λ (r : RowLists). r.subnets) (same_kind k Subnet) b h other rows
fits_chosen k Port rows other item b h = chosen_fits (λ xs. FitsTable port_of (λ r. r.id) xs item) (λ (r : RowLists). r.ports) (same_kind k Port) b h other rows
fits_chosen k Group rows other item b h = chosen_fits (λ xs. FitsTable group_of (λ r. r.id) xs item) (λ (r : RowLists). r.groups) (same_kind k Group) b h other rows
fits_chosen k Rule rows other item b h = chosen_fits (λ xs. FitsTable rule_of (λ r. r.id) xs item) (λ (r : RowLists). r.rules) (same_kind k Rule) b h other rows
fits_chosen k Router rows other item b h = chosen_fits (λ xs. FitsTable router_of (λ r. r.id) xs item) (λ (r : RowLists). r.routers) (same_kind k Router) b h other rows
fits_chosen k Floating rows other item b h = chosen_fits (λ xs. FitsTable floating_of (λ r. r.id) xs item) (λ (r : RowLists). r.floatings) (same_kind k Floating) b h other rows
fits_chosen k Policy rows other item b h = chosen_fits (λ xs. FitsTable policy_of (λ r. r.id) xs item) (λ (r : RowLists). r.policies) (same_kind k Policy) b h other rows

-- the rows of a kind after items: they go by the items of the kind alone
pub of_one_kind : (k : Kind) (rows other : RowLists) (items : List Item) → with_kind k rows (after other items) ≡ after (with_kind k rows other) (of_kind k items)
of_one_kind k rows other [] = refl
of_one_kind k rows other (x ∷ items) = of_one_kind k rows (after_item other x) items ∙ by (same_kind k x.kind) refl
  where
    by : (b : Bool) → same_kind k x.kind ≡ b → after (with_kind k rows (after_item other x)) (of_kind k items) ≡ after (with_kind k rows other) (if b then x ∷ of_kind k items else of_kind k items)
    by true h = ap (λ r. after r (of_kind k items)) (taken_own k x.kind h rows other x)
    by false h = ap (λ r. after r (of_kind k items)) (taken_past k x.kind h rows other x)

fits_one_kind : (k : Kind) (rows other : RowLists) (items : List Item) → Fits other items → Fits (with_kind k rows other) (of_kind k items)
fits_one_kind k rows other [] fits = tt
fits_one_kind k rows other (x ∷ items) fits = by (same_kind k x.kind) refl (fits_one_kind k rows (after_item other x) items fits.1)
  where
    by : (b : Bool) → same_kind k x.kind ≡ b → Fits (with_kind k rows (after_item other x)) (of_kind k items) → Fits (with_kind k rows other) (if b then x ∷ of_kind k items else of_kind k items)
    by true h rest = ((fits_chosen k x.kind rows other x true h).1 fits.0, subst (λ r. Fits r (of_kind k items)) (taken_own k x.kind h rows other x) rest)
    by false h rest = subst (λ r. Fits r (of_kind k items)) (taken_past k x.kind h rows other x) rest

-- the single item of a kind fits the rows before all items
pub alone_fits : (k : Kind) (rows : RowLists) (items : List Item) (item : Item) → of_kind k items ≡ item ∷ [] → Fits rows items → FitsItem rows item
alone_fits k rows items item alone fits = (subst (Fits rows) alone (subst (λ r. Fits r (of_kind k items)) (with_own k rows) (fits_one_kind k rows rows items fits))).0

-- what the single item of a kind leaves of it, beside the rows of the other kinds after all items
pub alone_after : (k : Kind) (rows others : RowLists) (items : List Item) (item : Item) → of_kind k items ≡ item ∷ [] → with_kind k others (after rows items) ≡ after rows items
    → with_kind k others (after_item rows item) ≡ after rows items
alone_after k rows others items item alone agree =
    let is : same_kind k item.kind ≡ true = subst (All (λ (x : Item). same_kind k x.kind ≡ true)) alone (filter_passes (λ (x : Item). same_kind k x.kind) items) 0 item (omega arith) in
    of_one_kind k others rows (item ∷ [])
    ∙ ap (λ b. after (with_kind k others rows) (if b then item ∷ [] else [])) is
    ∙ ap (after (with_kind k others rows)) (sym alone)
    ∙ sym (of_one_kind k others rows items) ∙ agree

-- one more item
pub after_next : (rows : RowLists) (items : List Item) (i : ℕ) (x : Item) → i < length items → x ≡ get_or items i x → after rows (take (i + 1) items) ≡ after_item (after rows (take i items)) x
after_next rows items i x within is =
    let next : i + 1 ≡ suc i = omega arith in
    ap (λ n. after rows (take n items)) next
    ∙ ap (after rows) (take-suc items i x within) ∙ after-push rows (take i items) (get_or items i x)
    ∙ ap (after_item (after rows (take i items))) (sym is)

-- the other kinds after one more item
pub agree_next : (k : Kind) (others rows : RowLists) (item : Item) → with_kind k others rows ≡ rows
    → with_kind k (if same_kind k item.kind then others else after_item others item) (after_item rows item) ≡ after_item rows item
agree_next k others rows item agree = by (same_kind k item.kind) refl
  where
    by : (b : Bool) → same_kind k item.kind ≡ b → with_kind k (if b then others else after_item others item) (after_item rows item) ≡ after_item rows item
    by true h = taken_own k item.kind h others rows item ∙ ap (λ r. after_item r item) agree
    by false h = taken_before k item.kind others rows item ∙ ap (λ r. after_item r item) agree

pub fits_others : (k : Kind) (others rows : RowLists) (item : Item) → with_kind k others rows ≡ rows → FitsItem rows item → same_kind k item.kind ≡ false → FitsItem others item
fits_others k others rows item agree fits h = (fits_chosen k item.kind others rows item false h).0 (subst (λ r. FitsItem r item) (sym agree) fits)
