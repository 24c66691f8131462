-- Edits of calls on subnets, one after the other.
use Rattle.std.proofs.Common.{◌≡◌, ◌∙◌, ℕ, Bool, true, false, not, [], ◌++◌, refl, sym}
use Rattle.std.specs.Prelude.{◌&&◌}
use Rattle.api_types.specs.Ident.{Ident}
use Rattle.api_types.specs.RowLists.{RowLists}
use Rattle.api_types.specs.declared.kind.Row.TheVariants.{Subnet}
use Rattle.api_types.specs.declared.network.NetworkRow.{NetworkRow}
use Rattle.api_types.specs.declared.port.Fixed.{Fixed}
use Rattle.api_types.specs.declared.subnet.SubnetRow.{SubnetRow}
use Rattle.call_parts.specs.Edits.{made}
use Rattle.api_types.specs.WithRows.{with_put}
use Rattle.net_settings.specs.Settings.{SettingsParts}
use Rattle.plan_subnets.specs.DhcpUpkeep.{begin_serving, end_serving}
use Rattle.plan_subnets.specs.SubnetCalls.{subnet_edits}
use Rattle.call_parts.proofs.EditLemmas.{made-append}

-- a subnet doesn't begin and end to be leased at once, so what ends looks at the rows before
pub changed_with_port : (settings : SettingsParts) (rows : RowLists) (n : NetworkRow) (old new : SubnetRow) (i : Ident) (mac : ℕ) (f : Fixed) (one two three : RowLists)
    → one ≡ with_put rows (Subnet new)
    → two ≡ made one (begin_serving settings one n (new.dhcp && not old.dhcp) i mac f)
    → three ≡ made two (end_serving two n.id (old.dhcp && not new.dhcp) old.id)
    → three ≡ made rows (subnet_edits settings rows n old new i mac f)
changed_with_port settings rows n old new i mac f one two three put begun ended =
    ended ∙ ((λ j. made (middle j) (end_serving (middle j) n.id (old.dhcp && not new.dhcp) old.id)) ∙ by new.dhcp old.dhcp)
  where
    first : RowLists
    first = with_put rows (Subnet new)

    middle : two ≡ made first (begin_serving settings first n (new.dhcp && not old.dhcp) i mac f)
    middle = begun ∙ (λ j. made (put j) (begin_serving settings (put j) n (new.dhcp && not old.dhcp) i mac f))

    by : (b o : Bool) → made (made first (begin_serving settings first n (b && not o) i mac f)) (end_serving (made first (begin_serving settings first n (b && not o) i mac f)) n.id (o && not b) old.id)
        ≡ made first (begin_serving settings rows n (b && not o) i mac f ++ end_serving rows n.id (o && not b) old.id)
    by true true = refl
    by false false = refl
    by false true = refl
    by true false = sym (made-append first (begin_serving settings rows n true i mac f) [])
