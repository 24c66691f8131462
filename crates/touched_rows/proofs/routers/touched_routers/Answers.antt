use Rattle.std.proofs.Common.{◌≡◌, ◌∙◌, ◌++◌, ℕ, List, ap, false, flat_map, sym}
use Rattle.std.specs.Prelude.{nat_lt}
use Rattle.std.specs.HashSet.{contains}
use Rattle.std.specs.List.{filter_map}
use Rattle.std.proofs.lemmas.Result.{IfOk-weaker}
use Rattle.api_types.specs.Table.{ident_eq}
use Rattle.api_types.proofs.ListLemmas.{false_true}
use Rattle.api_types.proofs.NameLemmas.{by_test}
use Rattle.table_edits.specs.EditsAt.{among}
use Rattle.touched_rows.specs.TouchedNumbers.{router_in, routers_by}
use Rattle.touched_rows.proofs.AmongLemmas.{among_any, among_flat, among_none}
use Rattle.touched_rows.proofs.RouterLemmas.{Turns, number_after, number_before, number_in, turns}
use Rattle.touched_rows.proofs.routers.touched_routers.Goals as goal

pub touched_subnets-requires : goal.touched_subnets-requires
touched_subnets-requires c = c.args.change.now.leads_on

pub add_routers_in-requires : goal.add_routers_in-requires
add_routers_in-requires c = c.args.change.now.leads_on.consistent

pub returns-clause-named : goal.returns-clause-named
returns-clause-named c =
    let named = c.named.result.now in
    let change = c.args.change.now in
    let routers = c.args.routers.now in
    let by = flat_map (routers_by change.before.now change.after.now routers.rows change.ports) c.args.ports.now in
    let within = filter_map (router_in (contains ident_eq c.in_ok-subnets.subnets) change.before.now routers.rows) change.before.now.ports in
    let touched = c.add_routers_in.new.touched.items in
    let all : touched ≡ (named ++ by) ++ within =
    c.in_ok-add_routers_in.ensures ∙ ap (λ (ks : List ℕ). ks ++ within) (c.in_ok-add_routers_by.ensures ∙ ap (λ (ks : List ℕ). ks ++ by) c.in_ok-touched.ensures.items) in
    IfOk-weaker c.descending.result _ _ (λ ks same k away.
    c.named.ensures k (sym (among_any k named) ∙ (among_none k touched named by within all (sym (same k) ∙ away)).0)) c.descending.ensures.same

pub returns-clause-ports_before : goal.returns-clause-ports_before
returns-clause-ports_before c =
    let named = c.named.result.now in
    let change = c.args.change.now in
    let routers = c.args.routers.now in
    let ports = c.args.ports.now in
    let numbers = routers_by change.before.now change.after.now routers.rows change.ports in
    let by = flat_map numbers ports in
    let within = filter_map (router_in (contains ident_eq c.in_ok-subnets.subnets) change.before.now routers.rows) change.before.now.ports in
    let touched = c.add_routers_in.new.touched.items in
    let all : touched ≡ (named ++ by) ++ within =
    c.in_ok-add_routers_in.ensures ∙ ap (λ (ks : List ℕ). ks ++ within) (c.in_ok-add_routers_by.ensures ∙ ap (λ (ks : List ℕ). ks ++ by) c.in_ok-touched.ensures.items) in
    let turning : Turns change.before.now change.after.now routers = turns change.before.now change.after.now change.items.now change.leads_on routers c.requires c.rows-own_ids.ensures.own_ids in
    IfOk-weaker c.descending.result _ _ (λ ks same k j r p away at stands port is.
    by_test (among nat_lt j ports) (among nat_lt j ports ≡ false)
    (λ there. false_true _ (sym (among_none k touched named by within all (sym (same k) ∙ away)).1
    ∙ among_flat numbers ports j k there (number_before change.before.now change.after.now routers turning change.ports j k r p at port is stands)))
    (λ away. away)) c.descending.ensures.same

pub returns-clause-ports_after : goal.returns-clause-ports_after
returns-clause-ports_after c =
    let named = c.named.result.now in
    let change = c.args.change.now in
    let routers = c.args.routers.now in
    let ports = c.args.ports.now in
    let numbers = routers_by change.before.now change.after.now routers.rows change.ports in
    let by = flat_map numbers ports in
    let within = filter_map (router_in (contains ident_eq c.in_ok-subnets.subnets) change.before.now routers.rows) change.before.now.ports in
    let touched = c.add_routers_in.new.touched.items in
    let all : touched ≡ (named ++ by) ++ within =
    c.in_ok-add_routers_in.ensures ∙ ap (λ (ks : List ℕ). ks ++ within) (c.in_ok-add_routers_by.ensures ∙ ap (λ (ks : List ℕ). ks ++ by) c.in_ok-touched.ensures.items) in
    let turning : Turns change.before.now change.after.now routers = turns change.before.now change.after.now change.items.now change.leads_on routers c.requires c.rows-own_ids.ensures.own_ids in
    IfOk-weaker c.descending.result _ _ (λ ks same k j r p away at stands port is.
    let apart = among_none k touched named by within all (sym (same k) ∙ away) in
    let stays = c.named.ensures k (sym (among_any k named) ∙ apart.0) in
    by_test (among nat_lt j ports) (among nat_lt j ports ≡ false)
    (λ there. false_true _ (sym apart.1 ∙ among_flat numbers ports j k there (number_after change.before.now change.after.now routers turning change.ports j k r p (stays ∙ at) port is at stands)))
    (λ away. away)) c.descending.ensures.same

pub returns-clause-subnets : goal.returns-clause-subnets
returns-clause-subnets c =
    let named = c.named.result.now in
    let change = c.args.change.now in
    let routers = c.args.routers.now in
    let by = flat_map (routers_by change.before.now change.after.now routers.rows change.ports) c.args.ports.now in
    let subnets = contains ident_eq c.in_ok-subnets.subnets in
    let within = filter_map (router_in subnets change.before.now routers.rows) change.before.now.ports in
    let touched = c.add_routers_in.new.touched.items in
    let all : touched ≡ (named ++ by) ++ within =
    c.in_ok-add_routers_in.ensures ∙ ap (λ (ks : List ℕ). ks ++ within) (c.in_ok-add_routers_by.ensures ∙ ap (λ (ks : List ℕ). ks ++ by) c.in_ok-touched.ensures.items) in
    let turning : Turns change.before.now change.after.now routers = turns change.before.now change.after.now change.items.now change.leads_on routers c.requires c.rows-own_ids.ensures.own_ids in
    IfOk-weaker c.descending.result _ _ (λ ks same k r away at l p leg m f fixed.
    c.in_ok-subnets.ensures f.subnet (by_test (subnets f.subnet) (subnets f.subnet ≡ false)
    (λ there. false_true _ (sym (among_none k touched named by within all (sym (same k) ∙ away)).2
    ∙ number_in change.before.now change.after.now routers turning subnets k r at l p leg m f fixed there))
    (λ away. away))) c.descending.ensures.same
