use Rattle.std.proofs.Common.{◌≡◌, ◌∙◌, ◌||◌, Bool, true, false, sym, ap, map, List, ℕ}
use Rattle.std.proofs.lemmas.List.Folds.{list_any-append}
use Rattle.std.specs.Str.{bytes_eq}
use Rattle.api_types.specs.declared.kind.Kind.{Kind}
use Rattle.neutron_http.specs.Filters.{is_filter, is_among, common_filters, own_filters}
use Rattle.neutron_http.proofs.query.filters_rows.Goals as goal

parts : (kind : Kind) (name : List ℕ) → is_filter kind name ≡ (is_among common_filters name || is_among (own_filters kind) name)
unfolding is_filter
parts kind name = list_any-append (λ n. bytes_eq n name) common_filters (own_filters kind)

yes : (r a b : Bool) → r ≡ a → r ≡ true → r ≡ (a || b)
yes r true b is e = is
yes r false b is e = absurd (cc)

no_then : (r a b s : Bool) → r ≡ a → r ≡ false → s ≡ b → s ≡ (a || b)
no_then r true b s is e other = absurd (cc)
no_then r false b s is e other = other

pub returns-then-is_among : goal.returns-then-is_among
returns-then-is_among c =
    yes c.is_among.result (is_among common_filters c.args.name.now) (is_among (own_filters c.args.kind) c.args.name.now) c.is_among.ensures c.if-is_among.true ∙ sym (parts c.args.kind c.args.name.now)

pub returns-else-is_among : goal.returns-else-is_among
returns-else-is_among c =
    no_then c.is_among.result (is_among common_filters c.args.name.now) (is_among (own_filters c.args.kind) c.args.name.now) c.is_among-else-is_among.result c.is_among.ensures c.if-is_among.false
    (c.is_among-else-is_among.ensures ∙ ap (λ names. is_among names c.args.name.now) c.own_filters.ensures) ∙ sym (parts c.args.kind c.args.name.now)
