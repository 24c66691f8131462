-- Edits one after the other, and ids that no policy has.
use Rattle.std.proofs.Common.{◌≡◌, ◌∙◌, ℕ, ◌+◌, Bool, true, false, not, List, [], ◌∷◌, ◌++◌, Option, Some, None, map, filter, ap, sym, subst, arith}
use Rattle.api_types.specs.HeldAddresses.{ports_on, subnets_on}
use Rattle.api_types.specs.Ident.{Ident}
use Rattle.api_types.specs.Registration.{Drawing, ident}
use Rattle.api_types.specs.RowLists.{RowLists}
use Rattle.api_types.specs.Table.{ident_eq, row_of}
use Rattle.api_policy.specs.Uses.{open_policy}
use Rattle.api_types.specs.declared.form.Given.{Given}
use Rattle.api_types.specs.declared.form.NetworkForm.{NetworkForm}
use Rattle.api_types.specs.declared.kind.Kind.TheVariants.{Network as NetworkKind, Policy as PolicyKind, Port as PortKind, Subnet as SubnetKind}
use Rattle.api_types.specs.declared.kind.Row.TheVariants.{Network}
use Rattle.api_types.specs.declared.network.NetworkRow.{NetworkRow}
use Rattle.api_types.specs.declared.policy.Action.TheVariants.{External, Shared}
use Rattle.api_types.specs.declared.policy.Action.{Action}
use Rattle.api_types.specs.declared.policy.PolicyRow.{PolicyRow}
use Rattle.api_types.specs.declared.port.PortRow.{PortRow}
use Rattle.api_types.specs.declared.subnet.SubnetRow.{SubnetRow}
use Rattle.call_parts.specs.Edits.{Add, Drop, dropped, edited, made}
use Rattle.api_types.specs.WithRows.{with_put}
use Rattle.plan_networks.specs.NetworkCalls.{changed_network, closing, is_cleared, is_opened, network_edits, network_gone, new_open_policy, one_if, opening, openings, opens, reopening}
use Rattle.call_parts.proofs.EditLemmas.{dropped_ids, made-append}
use Rattle.call_parts.proofs.AbsentLemmas.{absent_filtered, absent_pushed, later_id}

module _ (rows : RowLists) (i : Ident) (subnets ports policies : List Ident) (one two three : RowLists) where
  pub gone_by_steps : subnets ≡ map (λ (s : SubnetRow). s.id) (subnets_on rows.subnets i) → ports ≡ map (λ (p : PortRow). p.id) (ports_on rows.ports i)
      → policies ≡ map (λ (l : PolicyRow). l.id) (filter (λ (l : PolicyRow). ident_eq i l.object) rows.policies)
      → one ≡ made rows (map (λ k. Drop SubnetKind k) subnets) → two ≡ made one (map (λ k. Drop PortKind k) ports) → three ≡ made two (map (λ k. Drop PolicyKind k) policies)
      → edited three (Drop NetworkKind i) ≡ made rows (network_gone rows i)
  gone_by_steps are_subnets are_ports are_policies first second third =
      let a = dropped SubnetKind (λ (s : SubnetRow). s.id) (subnets_on rows.subnets i) in
      let b = dropped PortKind (λ (p : PortRow). p.id) (ports_on rows.ports i) in
      let c = dropped PolicyKind (λ (l : PolicyRow). l.id) (filter (λ (l : PolicyRow). ident_eq i l.object) rows.policies) in
      let is_a : map (λ k. Drop SubnetKind k) subnets ≡ a = ap (map (λ k. Drop SubnetKind k)) are_subnets ∙ sym (dropped_ids SubnetKind (λ (s : SubnetRow). s.id) (subnets_on rows.subnets i)) in
      let is_b : map (λ k. Drop PortKind k) ports ≡ b = ap (map (λ k. Drop PortKind k)) are_ports ∙ sym (dropped_ids PortKind (λ (p : PortRow). p.id) (ports_on rows.ports i)) in
      let is_c : map (λ k. Drop PolicyKind k) policies ≡ c = ap (map (λ k. Drop PolicyKind k)) are_policies ∙ sym (dropped_ids PolicyKind (λ (l : PolicyRow). l.id) (filter (λ (l : PolicyRow). ident_eq i l.object) rows.policies)) in
      let to_one : one ≡ made rows a = first ∙ ap (made rows) is_a in
      let to_two : two ≡ made rows (a ++ b) = second ∙ (λ j. made (to_one j) (is_b j)) ∙ sym (made-append rows a b) in
      let to_three : three ≡ made rows (a ++ b ++ c) = third ∙ (λ j. made (to_two j) (is_c j)) ∙ sym (made-append rows (a ++ b) c) in
      ap (λ r. edited r (Drop NetworkKind i)) to_three ∙ sym (made-append rows (a ++ b ++ c) (Drop NetworkKind i ∷ []))

-- no policy has the id behind that of a policy that is made
pub absent_opened : (rows : RowLists) (n : NetworkRow) (action : Action) (ordinal first : ℕ) (opens : Bool)
    → row_of (λ (l : PolicyRow). l.id) (ident ordinal (first + one_if opens)) rows.policies ≡ None
    → row_of (λ (l : PolicyRow). l.id) (ident ordinal (first + one_if opens)) (made rows (opening n action (ident ordinal first) opens)).policies ≡ None
absent_opened rows n action ordinal first false none = none
absent_opened rows n action ordinal first true none =
    absent_pushed (λ (l : PolicyRow). l.id) (ident ordinal (first + 1)) rows.policies (new_open_policy n action (ident ordinal first)) none (later_id ordinal (first + 1) first (omega arith))

pub absent_closed : (rows : RowLists) (i : Ident) (old : Option PolicyRow) (cleared : Bool) → row_of (λ (l : PolicyRow). l.id) i rows.policies ≡ None
    → row_of (λ (l : PolicyRow). l.id) i (made rows (closing old cleared)).policies ≡ None
absent_closed rows i None cleared none = none
absent_closed rows i (Some l) false none = none
absent_closed rows i (Some l) true none = absent_filtered (λ (l : PolicyRow). l.id) i (λ (q : PolicyRow). not (ident_eq l.id q.id)) rows.policies none

pub absent_reopened : (rows : RowLists) (n : NetworkRow) (policies : List PolicyRow) (action : Action) (asked : Given Bool) (ordinal first : ℕ)
    → row_of (λ (l : PolicyRow). l.id) (ident ordinal (first + one_if (is_opened asked (open_policy policies n.id action)))) rows.policies ≡ None
    → row_of (λ (l : PolicyRow). l.id) (ident ordinal (first + one_if (is_opened asked (open_policy policies n.id action)))) (made rows (reopening n policies action asked (ident ordinal first))).policies ≡ None
absent_reopened rows n policies action asked ordinal first none =
    let opens = is_opened asked (open_policy policies n.id action) in
    let i : Ident = ident ordinal (first + one_if opens) in
    let old = open_policy policies n.id action in
    subst (λ (r : RowLists). row_of (λ (l : PolicyRow). l.id) i r.policies ≡ None) (sym (made-append rows (opening n action (ident ordinal first) opens) (closing old (is_cleared asked))))
    (absent_closed (made rows (opening n action (ident ordinal first) opens)) i old (is_cleared asked) (absent_opened rows n action ordinal first opens none))

-- the policies of a new network have the ids behind its own
pub added_with_policies : (rows : RowLists) (n made_network : NetworkRow) (d : Drawing) (shared external : Bool) → n ≡ made_network
    → made rows (Add (Network made_network) ∷ opening made_network Shared (ident d.ordinal (d.first + 1)) shared ++ opening made_network External (ident d.ordinal (d.first + 1 + one_if shared)) external)
    ≡ made rows (Add (Network n) ∷ openings n d 1 shared external)
added_with_policies rows n made_network d shared external is =
    let second : d.first + 1 + one_if shared ≡ d.first + (1 + one_if shared) = omega arith in
    λ j. made rows (Add (Network (sym is j)) ∷ opening (sym is j) Shared (ident d.ordinal (d.first + 1)) shared ++ opening (sym is j) External (ident d.ordinal (second j)) external)

-- the network is set first, and then its policies are opened and closed
pub changed_with_policies : (rows : RowLists) (form : NetworkForm) (n changed : NetworkRow) (d : Drawing) (one two : RowLists) → changed ≡ changed_network form n
    → one ≡ with_put d.rows (Network changed)
    → two ≡ made one (reopening n rows.policies Shared form.shared (ident d.ordinal d.first)
    ++ reopening n rows.policies External form.router_external (ident d.ordinal (d.first + opens rows n Shared form.shared)))
    → two ≡ made d.rows (network_edits rows form n d)
changed_with_policies rows form n changed d one two is first second =
    let start : d.first ≡ d.first + 0 = omega arith in
    let put : one ≡ with_put d.rows (Network (changed_network form n)) = first ∙ ap (λ r. with_put d.rows (Network r)) is in
    second ∙ (λ j. made (put j) (reopening n rows.policies Shared form.shared (ident d.ordinal (start j))
    ++ reopening n rows.policies External form.router_external (ident d.ordinal (d.first + opens rows n Shared form.shared))))
