-- Policies as they would stand: a policy goes, or gets another target, or those that permit an
-- action on a network to all go.
use Rattle.api_policy.specs.Networks.{permits_all}
use Rattle.api_policy.specs.declared.standing.Standing.{Standing}
use Rattle.api_policy.specs.declared.standing.Standing.TheVariants.{Aimed, Closed, Without}
use Rattle.api_types.specs.Ident.{Ident}
use Rattle.api_types.specs.Table.{ident_eq}
use Rattle.api_types.specs.declared.policy.Action.TheVariants.{External, Shared}
use Rattle.api_types.specs.declared.policy.PolicyRow.{PolicyRow}
use Rattle.std.specs.Prelude.{Bool, List, filter, if◌then◌else◌, map, not, ◌&&◌, ◌||◌}
use Rattle.net_addr.specs.Words.{Text}

abbrev pub without : Ident → List PolicyRow → List PolicyRow
without i policies = filter (λ (q : PolicyRow). not (ident_eq i q.id)) policies

abbrev pub aimed : PolicyRow → Text → PolicyRow
aimed l target = record l { target = target }

abbrev pub with_aimed : PolicyRow → Text → List PolicyRow → List PolicyRow
with_aimed l target policies =
    map (λ (q : PolicyRow). if ident_eq l.id q.id then aimed l target else q) policies

abbrev pub is_closed : Ident → Bool → Bool → PolicyRow → Bool
is_closed network shared external q =
    (shared && permits_all network Shared q) || (external && permits_all network External q)

abbrev pub without_closed : Ident → Bool → Bool → List PolicyRow → List PolicyRow
without_closed network shared external policies =
    filter (λ (q : PolicyRow). not (is_closed network shared external q)) policies

abbrev pub standing_by : Standing → List PolicyRow → List PolicyRow
standing_by (Without policy) policies = without policy policies
standing_by (Aimed policy target) policies = with_aimed policy.now target.now policies
standing_by (Closed network shared external) policies =
    without_closed network shared external policies
