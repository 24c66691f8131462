-- The rules of a network's attributes that speak of rows, in the order in which they are tried.
-- Each is looked at where the rows of which it speaks are there and seen, and names its attribute.
use Rattle.api_ml2.specs.Segments.{is_wired}
use Rattle.api_types.specs.Given.{value_of, value_or}
use Rattle.api_types.specs.Refusing.{when}
use Rattle.api_types.specs.declared.form.NetworkForm.{NetworkForm}
use Rattle.api_types.specs.declared.refusal.Refusal.TheVariants.{Invalid}
use Rattle.api_types.specs.declared.refusal.Refusal.{Refusal}
use Rattle.net_settings.specs.Settings.{SettingsParts}
use Rattle.net_settings.specs.declared.settings.Host.{Host}
use Rattle.std.specs.List.{list_any}
use Rattle.std.specs.Prelude.{Bool, Option, [], bytes_eq, codes, not, ◌&&◌}
use Rattle.net_addr.specs.Words.{Text}

-- some host is wired to the physical network
abbrev pub is_on_hosts : SettingsParts → Text → Bool
is_on_hosts settings physical =
    list_any (λ (h : Host). list_any (bytes_eq physical) h.physical) settings.hosts

-- `provider:physical_network`
abbrev pub is_bare_wire : SettingsParts → NetworkForm → Bool
is_bare_wire settings form =
    is_wired (value_of form.provider_network_type)
    && not (is_on_hosts settings (value_or [] form.provider_physical_network))

abbrev pub bad_wire : SettingsParts → NetworkForm → Option Refusal
bad_wire settings form =
    when (is_bare_wire settings form) (Invalid (codes "provider:physical_network"))
