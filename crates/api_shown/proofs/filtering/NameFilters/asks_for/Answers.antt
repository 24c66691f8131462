use Rattle.std.proofs.Common.{◌≡◌, ◌∙◌, ◌⊎◌, inl, inr, ap, sym, false, map, rules, Vec, Global}
use Rattle.std.specs.Fmt.{decimal}
use Rattle.std.specs.HashSet.{contains_text}
use Rattle.net_addr.specs.declared.text.Text.{Text}
use Rattle.api_types.specs.Printed.{branches_of, items, member_of, null, number, object, tree_of, trees_of}
use Rattle.api_types.specs.declared.answer.Printed.{Printed, fold_out-Printed}
use Rattle.api_types.specs.declared.answer.Printed.TheVariants.{Null, Items, Object}
use Rattle.api_types.specs.declared.answer.Printed.TheViews.{the_lemmas}
use Rattle.api_shown.specs.Asked.{AskedName, asks_for}
use Rattle.api_shown.proofs.AskedLemmas.{none_fits}
use Rattle.api_shown.proofs.filtering.NameFilters.asks_for.Goals as goal

pub returns-in_ok-text-in-Number : goal.returns-in_ok-text-in-Number
returns-in_ok-text-in-Number c =
    let tree : tree_of c.args.printed.now ≡ number c.in-Number.number = search (rules, the_lemmas, fold_out-Printed) in
    c.contains.ensures
    ∙ ap (contains_text c.self.inside.texts) (c.as_str.ensures.value ∙ c.in_ok-text-in-Number.ensures.ok)
    ∙ c.self.invariant.texts (decimal c.in-Number.number)
    ∙ (λ j. asks_for (c.self.view_is j) (sym tree j))

-- no text and no truth value is asked for by none
not_asked : (a : AskedName) (p : Printed) → (p ≡ Null) ⊎ (((x : Vec Printed Global) × (p ≡ Items x)) ⊎ ((x : Vec (Text × Printed) Global) × (p ≡ Object x))) → false ≡ asks_for a (tree_of p)
not_asked a p (inl is) =
    let tree : tree_of p ≡ null = search (rules, the_lemmas, fold_out-Printed, is) in
    none_fits a.name a.filters ∙ ap (asks_for a) (sym tree)
not_asked a p (inr (inl is)) =
    let tree : tree_of p ≡ items (trees_of (map tree_of is.0.items)) = search (rules, the_lemmas, fold_out-Printed, is.1) in
    none_fits a.name a.filters ∙ ap (asks_for a) (sym tree)
not_asked a p (inr (inr is)) =
    let tree : tree_of p ≡ object (branches_of (map member_of is.0.items)) = search (rules, the_lemmas, fold_out-Printed, is.1) in
    none_fits a.name a.filters ∙ ap (asks_for a) (sym tree)

pub returns-in-Null : goal.returns-in-Null
returns-in-Null c = not_asked c.args.self.now c.args.printed.now c.in-Null.is

pub returns-in-Null-2 : goal.returns-in-Null-2
returns-in-Null-2 c = not_asked c.args.self.now c.args.printed.now c.in-Null.is

pub returns-in-Null-3 : goal.returns-in-Null-3
returns-in-Null-3 c = not_asked c.args.self.now c.args.printed.now c.in-Null.is
