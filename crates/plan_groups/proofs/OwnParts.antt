-- No refusal of a rule's parts is that of a failed store.
use Rattle.std.proofs.Common.{◌≡◌, ◌∷◌, true, arith, refl, []}
use Rattle.api_secgroup.specs.RuleParts.{bad_part, is_bad_max, is_bad_min, is_bad_protocol, is_bad_remote}
use Rattle.api_types.specs.Given.{value_of, value_or}
use Rattle.api_types.specs.Refusing.{when}
use Rattle.api_types.specs.declared.form.RuleForm.{RuleForm}
use Rattle.api_types.specs.declared.group.Ethertype.TheVariants.{Ipv4}
use Rattle.api_types.specs.declared.refusal.Refusal.TheVariants.{Invalid}
use Rattle.kept_laws.proofs.Own.{own_first, owns}
use Rattle.std.specs.Prelude.{codes, is_some, ◌&&◌}

-- RuleParts

pub own_bad_part : (form : RuleForm) → owns (bad_part form) ≡ true
own_bad_part form =
    own_first (when (is_bad_max (value_of form.protocol) (value_of form.port_range_min) (value_of form.port_range_max)) (Invalid (codes "port_range_max"))) (when (is_bad_min (value_of form.protocol) (value_of form.port_range_min) (value_of form.port_range_max)) (Invalid (codes "port_range_min")) ∷ when (is_bad_protocol (value_of form.protocol) (value_or Ipv4 form.ethertype)) (Invalid (codes "protocol")) ∷ when (is_some (value_of form.remote_group_id) && is_some (value_of form.remote_ip_prefix)) (Invalid (codes "remote_group_id")) ∷ when (is_bad_remote (value_of form.remote_ip_prefix) (value_or Ipv4 form.ethertype)) (Invalid (codes "remote_ip_prefix")) ∷ []) (grind arith)
    (own_first (when (is_bad_min (value_of form.protocol) (value_of form.port_range_min) (value_of form.port_range_max)) (Invalid (codes "port_range_min"))) (when (is_bad_protocol (value_of form.protocol) (value_or Ipv4 form.ethertype)) (Invalid (codes "protocol")) ∷ when (is_some (value_of form.remote_group_id) && is_some (value_of form.remote_ip_prefix)) (Invalid (codes "remote_group_id")) ∷ when (is_bad_remote (value_of form.remote_ip_prefix) (value_or Ipv4 form.ethertype)) (Invalid (codes "remote_ip_prefix")) ∷ []) (grind arith)
    (own_first (when (is_bad_protocol (value_of form.protocol) (value_or Ipv4 form.ethertype)) (Invalid (codes "protocol"))) (when (is_some (value_of form.remote_group_id) && is_some (value_of form.remote_ip_prefix)) (Invalid (codes "remote_group_id")) ∷ when (is_bad_remote (value_of form.remote_ip_prefix) (value_or Ipv4 form.ethertype)) (Invalid (codes "remote_ip_prefix")) ∷ []) (grind arith)
    (own_first (when (is_some (value_of form.remote_group_id) && is_some (value_of form.remote_ip_prefix)) (Invalid (codes "remote_group_id"))) (when (is_bad_remote (value_of form.remote_ip_prefix) (value_or Ipv4 form.ethertype)) (Invalid (codes "remote_ip_prefix")) ∷ []) (grind arith)
    (own_first (when (is_bad_remote (value_of form.remote_ip_prefix) (value_or Ipv4 form.ethertype)) (Invalid (codes "remote_ip_prefix"))) ([]) (grind arith)
    (refl)))))
