use Rattle.std.proofs.Common.{◌≡◌, ◌∙◌, ◌++◌, List, ℕ, None, Option, Some, ap, false, slice_get, sym}
use Rattle.std.specs.Prelude.{nat_lt}
use Rattle.std.specs.HashSet.{contains}
use Rattle.std.proofs.lemmas.Result.{IfOk-weaker}
use Rattle.api_types.specs.Table.{ident_eq}
use Rattle.api_types.specs.declared.floating.Target.{Target}
use Rattle.api_types.proofs.ListLemmas.{false_true}
use Rattle.api_types.proofs.NameLemmas.{by_test}
use Rattle.table_edits.specs.EditsAt.{among}
use Rattle.touched_rows.specs.TouchedNumbers.{is_by, numbers_from}
use Rattle.touched_rows.proofs.AmongLemmas.{among_any, among_neither, not_among}
use Rattle.touched_rows.proofs.RouterLemmas.{at_place, named_after, named_before}
use Rattle.touched_rows.proofs.floatings.touched_floatings.Goals as goal

pub returns-clause-named : goal.returns-clause-named
returns-clause-named c =
    let named = c.named.result.now in
    let by = numbers_from (is_by (contains ident_eq c.in_ok-ids.ids)) 0 c.rows.result.now in
    let all : c.add_floatings_by.new.numbers.items ≡ named ++ by = c.in_ok-add_floatings_by.ensures ∙ ap (λ (ns : List ℕ). ns ++ by) c.in_ok-numbers.ensures.items in
    IfOk-weaker c.descending.result _ _ (λ ks same k away.
    let neither = among_neither k named by (ap (among nat_lt k) (sym all) ∙ sym (same k) ∙ away) in
    c.named.ensures k (sym (among_any k named) ∙ neither.0)) c.descending.ensures.same

pub returns-clause-routers_before : goal.returns-clause-routers_before
returns-clause-routers_before c =
    let named = c.named.result.now in
    let by = numbers_from (is_by (contains ident_eq c.in_ok-ids.ids)) 0 c.rows.result.now in
    let all : c.add_floatings_by.new.numbers.items ≡ named ++ by = c.in_ok-add_floatings_by.ensures ∙ ap (λ (ns : List ℕ). ns ++ by) c.in_ok-numbers.ensures.items in
    IfOk-weaker c.descending.result _ _ (λ ks same k j f t r away at target stands is.
    let neither = among_neither k named by (ap (among nat_lt k) (sym all) ∙ sym (same k) ∙ away) in
    let fails = not_among (is_by (contains ident_eq c.in_ok-ids.ids)) c.rows.result.now k f (ap (λ rs. slice_get rs k) c.rows.ensures.rows ∙ sym (at_place c.args.floatings.now.rows k) ∙ at) neither.1 in
    let absent : contains ident_eq c.in_ok-ids.ids t.router ≡ false = sym (ap (λ (o : Option Target). elim o [ None ↦ false | Some t ↦ contains ident_eq c.in_ok-ids.ids t.router ]) target) ∙ fails in
    by_test (among nat_lt j c.args.touched.now) (among nat_lt j c.args.touched.now ≡ false)
    (λ there. false_true _ (sym absent ∙ c.in_ok-ids.ensures t.router ∙ named_before c.args.routers.now c.args.touched.now j r t.router there is stands))
    (λ away. away)) c.descending.ensures.same

pub returns-clause-routers_after : goal.returns-clause-routers_after
returns-clause-routers_after c =
    let named = c.named.result.now in
    let by = numbers_from (is_by (contains ident_eq c.in_ok-ids.ids)) 0 c.rows.result.now in
    let all : c.add_floatings_by.new.numbers.items ≡ named ++ by = c.in_ok-add_floatings_by.ensures ∙ ap (λ (ns : List ℕ). ns ++ by) c.in_ok-numbers.ensures.items in
    IfOk-weaker c.descending.result _ _ (λ ks same k j f t r away at target stands is.
    let neither = among_neither k named by (ap (among nat_lt k) (sym all) ∙ sym (same k) ∙ away) in
    let fails = not_among (is_by (contains ident_eq c.in_ok-ids.ids)) c.rows.result.now k f (ap (λ rs. slice_get rs k) c.rows.ensures.rows ∙ sym (at_place c.args.floatings.now.rows k) ∙ at) neither.1 in
    let absent : contains ident_eq c.in_ok-ids.ids t.router ≡ false = sym (ap (λ (o : Option Target). elim o [ None ↦ false | Some t ↦ contains ident_eq c.in_ok-ids.ids t.router ]) target) ∙ fails in
    by_test (among nat_lt j c.args.touched.now) (among nat_lt j c.args.touched.now ≡ false)
    (λ there. false_true _ (sym absent ∙ c.in_ok-ids.ensures t.router ∙ named_after c.args.routers.now c.args.touched.now j r t.router there is stands))
    (λ away. away)) c.descending.ensures.same
