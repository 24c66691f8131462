use Rattle.std.proofs.Common.{List, [], ap, append-nil, arith, drop, length, length-append, subst, sym, ◌+◌, ◌++◌, ◌∙◌, ◌∷◌, ◌≡◌, ◌≤◌}
use Rattle.std.specs.Prelude.{count_by}
use Rattle.std.proofs.lemmas.List.{drop_all, drop_more}
use Rattle.dvr_run.proofs.HostLemmas.{first-more, first-once}
use Rattle.dvr_run.specs.Hosts.{first_host, first_hosts}
use Rattle.dvr_types.specs.DvrFabric.{DvrHost, is_dvr_named}
use Rattle.dvr_types.specs.DvrHosts.{dvr_hosts}
use Rattle.net_settings.specs.declared.settings.Host.{Host}
use Rattle.dvr_run.proofs.hosts.Hosts.of.Goals as goal

pub loop-host-preserved : goal.loop-host-preserved
loop-host-preserved c =
    let rows = c.args.rows.now in
    let hosts = c.args.hosts.now in
    let i = c.loop-host.host-index in
    let ts = c.loop-host.tables.items in
    let es = c.loop-host.entries.items in
    let host = c.host-item.result in
    let left = drop (i + 1) hosts in
    let step : drop i hosts ≡ host ∷ left = drop_more hosts i host c.loop-host-test.true ∙ ap (λ (h : Host). h ∷ left) (sym c.host-item.is) in
    let so : dvr_hosts ts es ++ first_host rows host.name ∷ first_hosts rows left ≡ first_hosts rows hosts = ap (λ (l : List Host). dvr_hosts ts es ++ first_hosts rows l) (sym step) ∙ c.loop-host.invariant.1 in
    let new = c.in_ok-wire_host in
    let both : dvr_hosts c.push.new.self.items c.push-in-loop-host.new.self.items ≡ dvr_hosts (ts ++ new.field-0 ∷ []) (es ++ c.new.result ∷ []) = λ j. dvr_hosts (c.in_ok-push.ensures.items j) (c.in_ok-push-2.ensures.items j) in (
      omega (arith, c.loop-host.invariant.0, ap length c.in_ok-push.ensures.items, ap length c.in_ok-push-2.ensures.items, length-append ts (new.field-0 ∷ []), length-append es (c.new.result ∷ [])),
      ap (λ (l : List DvrHost). l ++ first_hosts rows left) both
          ∙ first-more rows ts es new.field-0 c.new.result host.name (first_hosts rows left) (first_hosts rows hosts) c.loop-host.invariant.0 new.ensures.host new.ensures.base new.ensures.copies c.new.ensures so,
    )

pub invariant_of-result : goal.invariant_of-result
invariant_of-result c =
    let rows = c.args.rows.now in
    let hosts = c.args.hosts.now in
    let all = dvr_hosts c.loop-host.tables.items c.loop-host.entries.items in
    let whole : all ≡ first_hosts rows hosts = sym (append-nil all) ∙ ap (λ (l : List Host). all ++ first_hosts rows l) (sym (drop_all c.loop-host.host-index hosts (omega (arith, c.loop-host-test.false, c.loop-host.auto.host-index-end)))) ∙ c.loop-host.invariant.1 in
    (c.loop-host.invariant.0, λ name. subst (λ (hs : List DvrHost). count_by (is_dvr_named name) hs ≤ 1) (sym whole) (first-once rows hosts c.requires.names name))
