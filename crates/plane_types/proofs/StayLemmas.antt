-- Tags stay where the same networks have one and their wires are the same; and the rows of a kind
-- after a change, item by item.
use Rattle.std.proofs.Common.{◌≡◌, ◌∙◌, ℕ, List, [], ◌∷◌, map, Some, refl, sym, ap}
use Rattle.std.specs.Prelude.{⊤, if◌then◌else◌}
use Rattle.api_types.specs.Live.{segment}
use Rattle.api_types.specs.Parts.{port_of}
use Rattle.api_types.specs.RowLists.{RowLists}
use Rattle.api_types.specs.Rows.{after, after_of_kind, after_item}
use Rattle.api_types.specs.Wires.{wire_of}
use Rattle.api_types.specs.declared.change.Item.{Item}
use Rattle.api_types.specs.declared.kind.Kind.{Kind}
use Rattle.api_types.specs.declared.kind.Kind.TheVariants.{Project, Network, Subnet, Port, Group, Rule, Router, Floating, Policy}
use Rattle.plane_types.specs.NewTags.{free_tags, in_turn, kept_tags, next_tag, new_tags, tagged_networks, with_tag}
use Rattle.plane_types.specs.TableRows.{tag_of}
use Rattle.plane_types.specs.declared.table.TagRow.{TagRow}
use Rattle.plane_types.specs.Numbered.{rows_after}
use Rattle.plane_types.specs.NumberedRows.{is_kind, row_item, row_items}

-- each of these is found by its network, and has the wire that its network has
abbrev pub AllStand : RowLists → List TagRow → List TagRow → Type 0
AllStand rows old [] = ⊤
AllStand rows old (t ∷ ts) =
    (tag_of old t.network ≡ Some t.tag) × (t.wire ≡ wire_of (segment rows t.network))
    × AllStand rows old ts

turn_stays : (rows : RowLists) (old : List TagRow) (free : List ℕ) (ts : List TagRow)
    → AllStand rows old ts → in_turn rows old free (map (λ (t : TagRow). t.network) ts) ≡ ts
unfolding in_turn
turn_stays rows old free [] h = refl
turn_stays rows old free (t ∷ ts) h =
    ap (λ o. with_tag rows t.network free (λ left.
    in_turn rows old left (map (λ (t : TagRow). t.network) ts)) (next_tag o free)) h.0
    ∙ (λ j. record {
      network = t.network;
      tag = t.tag;
      wire = sym h.1 j;
    } ∷ turn_stays rows old free ts h.2 j)

pub tags_stay : (rows : RowLists) (host : List ℕ) (old : List TagRow)
    → tagged_networks rows host ≡ map (λ (t : TagRow). t.network) old → AllStand rows old old
    → new_tags rows host old ≡ old
unfolding new_tags
tags_stay rows host old same h =
    ap (in_turn rows old (free_tags (kept_tags old (tagged_networks rows host)))) same
    ∙ turn_stays rows old (free_tags (kept_tags old (tagged_networks rows host))) old h

-- ---- the ports after a change

pub ports_after : (rows : RowLists) (items : List Item)
    → (after rows items).ports ≡ rows_after rows.ports (row_items Port port_of items)
ports_after rows [] = refl
ports_after rows (item ∷ items) = ports_after (after_item rows item) items ∙ go item.kind
  where
    go : (k : Kind) → rows_after (after_of_kind k rows item).ports (row_items Port port_of items)
        ≡ rows_after rows.ports
        ((if is_kind Port k then row_item Port port_of item ∷ row_items Port port_of items
        else row_items Port port_of items))
    go Port = refl
    go Project = refl
    go Network = refl
    go Subnet = refl
    go Group = refl
    go Rule = refl
    go Router = refl
    go Floating = refl
    go Policy = refl
