use Rattle.std.proofs.Common.{◌≡◌, ◌∙◌, ◌++◌, ◌∷◌, List, [], Bor, Global, None, Option, Some, Vec, ap, cond, map}
use Rattle.std.specs.Prelude.{if◌then◌else◌, string_bytes}
use Rattle.std.specs.HashMap.{get_by_text}
use Rattle.std.specs.Str.{bytes_eq}
use Rattle.std.proofs.lemmas.List.{map-append}
use Rattle.std.proofs.lemmas.Map.Text.{hash_map_updates_text}
use Rattle.api_types.specs.declared.port.PortRow.{PortRow}
use Rattle.plane_rows.proofs.LookLemmas.{put_last}
use Rattle.plane_rows.proofs.legs.add_port.Goals as goal

abbrev listed : Option (Vec (Bor PortRow) Global) → List PortRow
listed o = elim o [ None ↦ [] | Some v ↦ map (λ p. p.now) v.items ]

pub returns : goal.returns
returns c = λ t.
    let port = c.args.port.now in
    let text : string_bytes c.in_ok-device.device ≡ port.device = c.in_ok-device.ensures.ok ∙ c.as_str.ensures in
    let ports : listed (Some c.push.new.self) ≡ listed (get_by_text c.args.by_device.now port.device) ++ port ∷ [] =
    ap (map (λ p. p.now)) c.in_ok-push.ensures.items
    ∙ map-append (λ p. p.now) c.take_ports-ports.result.items (c.args.port ∷ [])
    ∙ ap (λ ps. ps ++ port ∷ []) (c.take_ports-ports.ensures.listed ∙ ap (λ d. listed (get_by_text c.args.by_device.now d)) c.as_str-2.ensures) in
    ap listed (hash_map_updates_text (string_bytes c.in_ok-device.device) c.take_ports-ports.new.by_device c.insert.new.self (Some c.push.new.self) c.in_ok-insert.ensures.updates t)
    ∙ (λ j. listed (cond (bytes_eq (text j) t) (Some c.push.new.self) ((c.take_ports-ports.ensures.rest t ∙ ap (λ d. if bytes_eq d t then None else get_by_text c.args.by_device.now t) c.as_str-2.ensures) j)))
    ∙ put_last listed (get_by_text c.args.by_device.now) port.device t c.push.new.self port ports
