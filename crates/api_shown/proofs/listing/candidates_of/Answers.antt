use Rattle.std.proofs.Common.{◌∙◌, ap, sym, subst, map}
use Rattle.std.specs.Prelude.{◌≡◌, ◌&&◌, IfSome, None}
use Rattle.api_types.specs.Lists.{Each}
use Rattle.api_types.specs.Table.{ident_eq}
use Rattle.api_types.proofs.NameLemmas.{and_fails}
use Rattle.api_policy.specs.Filtered.{meets as meets_all}
use Rattle.api_policy.specs.Listed.{behind_marker as rows_behind_marker, listed_of as rows_listed_of}
use Rattle.api_policy.specs.Shown.{shown_as}
use Rattle.api_shown.specs.Keys.{FitsId, IsOnlyId}
use Rattle.api_shown.proofs.NarrowLemmas.{narrowed}
use Rattle.api_shown.proofs.listing.candidates_of.Goals as goal

pub returns-in_default : goal.returns-in_default
returns-in_default g c = λ rows caller kind admin seen.
    ap (rows_listed_of seen (g.R.Shows.members_of rows caller) kind admin c.args.query.now)
    (c.behind_marker.ensures ∙ (λ j. rows_behind_marker g.R.Keyed.id_of (c.as_query.ensures j).marker (c.rows.ensures.rows j)))

pub returns : goal.returns
returns g c = λ rows caller kind admin seen.
    let query = c.args.query.now in
    let table = c.args.table.now in
    let id_of = g.R.Keyed.id_of in
    let members = g.R.Shows.members_of rows caller in
    let asked = c.in-Some.id in
    let only = subst (λ o. IfSome o (IsOnlyId (λ admin members. meets_all admin query.filters members))) c.in-Some.is c.find_lone_id.ensures.only in
    let unmarked : query.marker ≡ None = subst (λ o. IfSome o (λ _. query.marker ≡ None)) c.in-Some.is c.find_lone_id.ensures.marker in
    let fits = subst (Each (λ r. FitsId (id_of r))) c.rows-2.ensures.rows c.see_ids.ensures in
    ap (rows_listed_of seen members kind admin query) c.row_with.ensures
    ∙ ap (map (λ r. shown_as kind admin query.fields (members r)))
    (narrowed (λ r. ident_eq asked (id_of r)) (λ r. seen r && meets_all admin query.filters (members r)) table
    (λ k r at other. and_fails (seen r) (meets_all admin query.filters (members r)) (only (id_of r) (fits k r at) other admin (members r) (g.met.R.HasKeys.own_id rows caller r))))
    ∙ ap (λ m. rows_listed_of seen members kind admin query (rows_behind_marker id_of m table)) (sym unmarked)
