use Rattle.std.proofs.Common.{List, ap, drop, length, subst, sym, take, ◌++◌, ◌∙◌, ◌≡◌, ◌≤◌}
use Rattle.std.specs.Prelude.{count_by}
use Rattle.std.proofs.lemmas.List.{with_items_is}
use Rattle.dvr_run.proofs.HostLemmas.{plain-counted, still-sound}
use Rattle.dvr_run.proofs.KeptHosts.{kept-hosts}
use Rattle.dvr_run.specs.Hosts.{items_of, kept_from}
use Rattle.dvr_types.specs.DvrFabric.{DvrHost, dvr_fate, is_dvr_named}
use Rattle.dvr_types.specs.DvrHosts.{dvr_hosts}
use Rattle.dvr_types.specs.DvrVerdicts.{dvr_hosts_after, dvr_verdict, plain_hosts}
use Rattle.dvr_types.specs.declared.verdict.DvrVerdict.{DvrVerdict}
use Rattle.plane_types.specs.Verdicts.{made_entries}
use Rattle.dvr_run.proofs.hosts.Hosts.send.Goals as goal

pub dvr_send-requires-clause-names : goal.dvr_send-requires-clause-names
dvr_send-requires-clause-names c = λ name.
    subst (λ (hs : List DvrHost). count_by (is_dvr_named name) hs ≤ 1) (λ j. dvr_hosts (sym c.as_slice.ensures.value j) (sym c.as_slice-2.ensures.value j)) (c.self.invariant.1 name)

pub invariant_of-self : goal.invariant_of-self
invariant_of-self c =
    let v = c.self.inside.entries in
    let news = c.keep_all.new.entries in
    still-sound c.self.inside.tables.items v.items news (take v.len (news ++ drop (length news) v.items)) (with_items_is v news (c.keep_all.ensures.length ∙ c.as_mut_slice.ensures.len)) (c.keep_all.ensures.length ∙ ap length c.as_mut_slice.ensures.value) c.self.invariant

pub invariant_of-self-2 : goal.invariant_of-self-2
invariant_of-self-2 c =
    let v = c.self.inside.entries in
    let news = c.keep_all.new.entries in
    still-sound c.self.inside.tables.items v.items news (take v.len (news ++ drop (length news) v.items)) (with_items_is v news (c.keep_all.ensures.length ∙ c.as_mut_slice.ensures.len)) (c.keep_all.ensures.length ∙ ap length c.as_mut_slice.ensures.value) c.self.invariant

pub returns-clause-kept : goal.returns-clause-kept
returns-clause-kept c =
    let v = c.self.inside.entries in
    let news = c.keep_all.new.entries in
    let ts = c.self.inside.tables.items in
    let hosts = dvr_hosts ts v.items in
    let event = c.args.event.now in
    let run = (dvr_fate hosts event).run in
    let at : dvr_hosts c.as_slice.result.now c.as_slice-2.result.now ≡ hosts = (λ j. dvr_hosts (c.as_slice.ensures.value j) (c.as_slice-2.ensures.value j)) in
    let made : c.as_slice-3.result.now ≡ made_entries (plain_hosts hosts) run.run.fresh run.run.makers =
    c.as_slice-3.ensures ∙ ap (λ (w : DvrVerdict). w.verdict.fresh) c.in_ok-verdict.ensures.verdict ∙ ap (λ (hs : List DvrHost). (dvr_verdict hs event).verdict.fresh) at in
    let kept : items_of news ≡ kept_from 0 (items_of v.items) (made_entries (plain_hosts hosts) run.run.fresh run.run.makers) =
    c.in_ok-keep_all.ensures.kept ∙ (λ j. kept_from 0 (items_of (c.as_mut_slice.ensures.value j)) (made j)) in
    ap (dvr_hosts ts) (with_items_is v news (c.keep_all.ensures.length ∙ c.as_mut_slice.ensures.len))
    ∙ kept-hosts run ts v.items news (λ name. subst (λ n. n ≤ 1) (sym (plain-counted name hosts)) (c.self.invariant.1 name)) c.self.invariant.0 kept
    ∙ ap (λ hs. dvr_hosts_after hs event) c.self.view_is
