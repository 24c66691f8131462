-- Rows as one list, and cut into pages.
use Rattle.std.proofs.Common.{◌≡◌, ℕ, suc, ◌+◌, ◌*◌, ◌≤◌, true, List, [], ◌∷◌, ◌++◌, length, take, refl, ap, sym, ◌∙◌, take-add, take_all, arith}
use Rattle.std.proofs.lemmas.Bool.Decides.{nat_tests}
use Rattle.api_types.specs.RowLists.{RowLists}
use Rattle.api_types.specs.Rows.{no_rows}
use Rattle.api_types.specs.declared.page.PageRow.{PageRow}
use Rattle.api_types.specs.declared.kind.Row.TheVariants.{Project, Network, Subnet, Port, Group, Rule, Router, Floating, Policy}
use Rattle.api_types.specs.declared.project.ProjectRow.{ProjectRow}
use Rattle.api_types.specs.declared.network.NetworkRow.{NetworkRow}
use Rattle.api_types.specs.declared.subnet.SubnetRow.{SubnetRow}
use Rattle.api_types.specs.declared.port.PortRow.{PortRow}
use Rattle.api_types.specs.declared.group.GroupRow.{GroupRow}
use Rattle.api_types.specs.declared.group.RuleRow.{RuleRow}
use Rattle.api_types.specs.declared.router.RouterRow.{RouterRow}
use Rattle.api_types.specs.declared.floating.FloatingRow.{FloatingRow}
use Rattle.api_types.specs.declared.policy.PolicyRow.{PolicyRow}
use Rattle.wire_types.specs.Pages.{all_rows, is_last_page, page, page_rows, page_size, put_before, rows_from}

-- rows of one kind before rows among which there is none of it
projects_front : (xs : List ProjectRow) (rest : List PageRow) (r : RowLists) → rows_from rest ≡ r → r.projects ≡ [] → rows_from (page_rows Project xs ++ rest) ≡ record r { projects = xs }
unfolding rows_from
projects_front [] rest r e none = e ∙ (λ j. record r { projects = none j })
projects_front (x ∷ xs) rest r e none = ap (put_before (Project x)) (projects_front xs rest r e none)

networks_front : (xs : List NetworkRow) (rest : List PageRow) (r : RowLists) → rows_from rest ≡ r → r.networks ≡ [] → rows_from (page_rows Network xs ++ rest) ≡ record r { networks = xs }
unfolding rows_from
networks_front [] rest r e none = e ∙ (λ j. record r { networks = none j })
networks_front (x ∷ xs) rest r e none = ap (put_before (Network x)) (networks_front xs rest r e none)

subnets_front : (xs : List SubnetRow) (rest : List PageRow) (r : RowLists) → rows_from rest ≡ r → r.subnets ≡ [] → rows_from (page_rows Subnet xs ++ rest) ≡ record r { subnets = xs }
unfolding rows_from
subnets_front [] rest r e none = e ∙ (λ j. record r { subnets = none j })
subnets_front (x ∷ xs) rest r e none = ap (put_before (Subnet x)) (subnets_front xs rest r e none)

ports_front : (xs : List PortRow) (rest : List PageRow) (r : RowLists) → rows_from rest ≡ r → r.ports ≡ [] → rows_from (page_rows Port xs ++ rest) ≡ record r { ports = xs }
unfolding rows_from
ports_front [] rest r e none = e ∙ (λ j. record r { ports = none j })
ports_front (x ∷ xs) rest r e none = ap (put_before (Port x)) (ports_front xs rest r e none)

groups_front : (xs : List GroupRow) (rest : List PageRow) (r : RowLists) → rows_from rest ≡ r → r.groups ≡ [] → rows_from (page_rows Group xs ++ rest) ≡ record r { groups = xs }
unfolding rows_from
groups_front [] rest r e none = e ∙ (λ j. record r { groups = none j })
groups_front (x ∷ xs) rest r e none = ap (put_before (Group x)) (groups_front xs rest r e none)

rules_front : (xs : List RuleRow) (rest : List PageRow) (r : RowLists) → rows_from rest ≡ r → r.rules ≡ [] → rows_from (page_rows Rule xs ++ rest) ≡ record r { rules = xs }
unfolding rows_from
rules_front [] rest r e none = e ∙ (λ j. record r { rules = none j })
rules_front (x ∷ xs) rest r e none = ap (put_before (Rule x)) (rules_front xs rest r e none)

routers_front : (xs : List RouterRow) (rest : List PageRow) (r : RowLists) → rows_from rest ≡ r → r.routers ≡ [] → rows_from (page_rows Router xs ++ rest) ≡ record r { routers = xs }
unfolding rows_from
routers_front [] rest r e none = e ∙ (λ j. record r { routers = none j })
routers_front (x ∷ xs) rest r e none = ap (put_before (Router x)) (routers_front xs rest r e none)

floatings_front : (xs : List FloatingRow) (rest : List PageRow) (r : RowLists) → rows_from rest ≡ r → r.floatings ≡ [] → rows_from (page_rows Floating xs ++ rest) ≡ record r { floatings = xs }
unfolding rows_from
floatings_front [] rest r e none = e ∙ (λ j. record r { floatings = none j })
floatings_front (x ∷ xs) rest r e none = ap (put_before (Floating x)) (floatings_front xs rest r e none)

policies_alone : (xs : List PolicyRow) → rows_from (page_rows Policy xs) ≡ record no_rows { policies = xs }
unfolding rows_from
policies_alone [] = refl
policies_alone (x ∷ xs) = ap (put_before (Policy x)) (policies_alone xs)

-- the list has the rows
pub rows_back : (rows : RowLists) → rows_from (all_rows rows) ≡ rows
rows_back rows = one
  where
    nine : rows_from (page_rows Policy rows.policies) ≡ record no_rows { policies = rows.policies }
    nine = policies_alone rows.policies

    eight : rows_from (page_rows Floating rows.floatings ++ page_rows Policy rows.policies) ≡ record no_rows { floatings = rows.floatings; policies = rows.policies }
    eight = floatings_front rows.floatings (page_rows Policy rows.policies) (record no_rows { policies = rows.policies }) nine refl

    seven : rows_from (page_rows Router rows.routers ++ (page_rows Floating rows.floatings ++ page_rows Policy rows.policies)) ≡ record no_rows { routers = rows.routers; floatings = rows.floatings; policies = rows.policies }
    seven = routers_front rows.routers (page_rows Floating rows.floatings ++ page_rows Policy rows.policies) (record no_rows { floatings = rows.floatings; policies = rows.policies }) eight refl

    six : rows_from (page_rows Rule rows.rules ++ (page_rows Router rows.routers ++ (page_rows Floating rows.floatings ++ page_rows Policy rows.policies))) ≡ record no_rows { rules = rows.rules; routers = rows.routers; floatings = rows.floatings; policies = rows.policies }
    six = rules_front rows.rules (page_rows Router rows.routers ++ (page_rows Floating rows.floatings ++ page_rows Policy rows.policies)) (record no_rows { routers = rows.routers; floatings = rows.floatings; policies = rows.policies }) seven refl

    five : rows_from (page_rows Group rows.groups ++ (page_rows Rule rows.rules ++ (page_rows Router rows.routers ++ (page_rows Floating rows.floatings ++ page_rows Policy rows.policies))))
        ≡ record no_rows { groups = rows.groups; rules = rows.rules; routers = rows.routers; floatings = rows.floatings; policies = rows.policies }
    five = groups_front rows.groups (page_rows Rule rows.rules ++ (page_rows Router rows.routers ++ (page_rows Floating rows.floatings ++ page_rows Policy rows.policies)))
        (record no_rows { rules = rows.rules; routers = rows.routers; floatings = rows.floatings; policies = rows.policies }) six refl

    four : rows_from (page_rows Port rows.ports ++ (page_rows Group rows.groups ++ (page_rows Rule rows.rules ++ (page_rows Router rows.routers ++ (page_rows Floating rows.floatings ++ page_rows Policy rows.policies)))))
        ≡ record no_rows { ports = rows.ports; groups = rows.groups; rules = rows.rules; routers = rows.routers; floatings = rows.floatings; policies = rows.policies }
    four = ports_front rows.ports (page_rows Group rows.groups ++ (page_rows Rule rows.rules ++ (page_rows Router rows.routers ++ (page_rows Floating rows.floatings ++ page_rows Policy rows.policies))))
        (record no_rows { groups = rows.groups; rules = rows.rules; routers = rows.routers; floatings = rows.floatings; policies = rows.policies }) five refl

    after_networks : List PageRow
    after_networks = page_rows Subnet rows.subnets ++ (page_rows Port rows.ports ++ (page_rows Group rows.groups ++ (page_rows Rule rows.rules ++ (page_rows Router rows.routers ++ (page_rows Floating rows.floatings ++ page_rows Policy rows.policies)))))

    three : rows_from after_networks ≡ record no_rows { subnets = rows.subnets; ports = rows.ports; groups = rows.groups; rules = rows.rules; routers = rows.routers; floatings = rows.floatings; policies = rows.policies }
    three = subnets_front rows.subnets (page_rows Port rows.ports ++ (page_rows Group rows.groups ++ (page_rows Rule rows.rules ++ (page_rows Router rows.routers ++ (page_rows Floating rows.floatings ++ page_rows Policy rows.policies)))))
        (record no_rows { ports = rows.ports; groups = rows.groups; rules = rows.rules; routers = rows.routers; floatings = rows.floatings; policies = rows.policies }) four refl

    two : rows_from (page_rows Network rows.networks ++ after_networks)
        ≡ record no_rows { networks = rows.networks; subnets = rows.subnets; ports = rows.ports; groups = rows.groups; rules = rows.rules; routers = rows.routers; floatings = rows.floatings; policies = rows.policies }
    two = networks_front rows.networks after_networks
        (record no_rows { subnets = rows.subnets; ports = rows.ports; groups = rows.groups; rules = rows.rules; routers = rows.routers; floatings = rows.floatings; policies = rows.policies }) three refl

    one : rows_from (all_rows rows) ≡ rows
    one = projects_front rows.projects (page_rows Network rows.networks ++ after_networks)
        (record no_rows { networks = rows.networks; subnets = rows.subnets; ports = rows.ports; groups = rows.groups; rules = rows.rules; routers = rows.routers; floatings = rows.floatings; policies = rows.policies }) two refl

-- the pages before a number, and this page
pub page_next : (number : ℕ) (rows : List PageRow) → take (page_size * number) rows ++ page number rows ≡ take (page_size * suc number) rows
page_next number rows = let many : page_size * suc number ≡ page_size * number + page_size = omega arith in sym (ap (λ n. take n rows) many ∙ take-add (page_size * number) page_size rows)

-- after the last page nothing is left
pub page_last : (number : ℕ) (rows : List PageRow) → is_last_page number rows ≡ true → take (page_size * number) rows ++ page number rows ≡ rows
page_last number rows last =
    let most : length rows ≤ page_size * suc number = grind (arith, nat_tests, last) in
    page_next number rows ∙ take_all (page_size * suc number) rows most
