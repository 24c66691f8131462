-- What becomes of a frame, as it is printed.
use Rattle.std.specs.Prelude.{[], ◌∷◌, map, codes}
use Rattle.net_addr.specs.Words.{Text}
use Rattle.net_addr.specs.Spelling.{addr_text, mac_text}
use Rattle.api_types.specs.Printed.{Tree, null, number, word}
use Rattle.api_types.specs.declared.subnet.Hop.{Hop}
use Rattle.plane_types.specs.declared.ask.Heard.{Heard}
use Rattle.plane_types.specs.declared.ask.Heard.TheVariants.{Applied, Old, Gap, Asleep}
use Rattle.plane_types.specs.declared.verdict.AskAnswer.{AskAnswer}
use Rattle.plane_types.specs.declared.verdict.AskAnswer.TheVariants.{Arp, Lease as Leased}
use Rattle.plane_types.specs.declared.verdict.DropCause.{DropCause}
use Rattle.plane_types.specs.declared.verdict.DropCause.TheVariants.{Dead, Unsupported, Spoof, Egress, Ingress, Unknown, NoHolder, NoLease, RouterDown, Expired, NoRoute, TranslationFull}
use Rattle.api_types.specs.declared.lease.Lease.{Lease}
use Rattle.plane_types.specs.declared.verdict.Outcome.{Outcome}
use Rattle.plane_types.specs.declared.verdict.Outcome.TheVariants.{Delivered, Answered, Absorbed, Out, Dropped}
use Rattle.plane_types.specs.declared.verdict.Toward.{Toward}
use Rattle.plane_types.specs.declared.verdict.Toward.TheVariants.{Mac, Address, Dhcp}
use Rattle.plane_types.specs.declared.verdict.Made.{Made}
use Rattle.plane_types.specs.declared.verdict.TrailItem.{TrailItem}
use Rattle.plane_types.specs.declared.verdict.Verdict.{Verdict}
use Rattle.json_trees.specs.Printed.{fields, list, or_null}
use Rattle.json_replies.specs.Frames.{frame_tree, entry_tree}
use Rattle.json_trees.specs.Words.{id_tree, address_tree, mac_tree, prefix_tree}

abbrev pub hop_tree : Hop → Tree
hop_tree hop =
    fields ((codes "destination", prefix_tree hop.destination)
    ∷ (codes "nexthop", address_tree hop.next) ∷ [])

abbrev pub lease_tree : Lease → Tree
lease_tree lease = fields (
    (codes "address", address_tree lease.address)
    ∷ (codes "gateway", or_null address_tree lease.gateway)
    ∷ (codes "host_routes", list (map hop_tree lease.host_routes))
    ∷ (codes "length", number lease.length)
    ∷ (codes "name_servers", list (map address_tree lease.name_servers)) ∷ [])

abbrev pub ask_answer_tree : AskAnswer → Tree
ask_answer_tree (Arp address mac) = fields (
    (codes "address", address_tree address) ∷ (codes "kind", word (codes "Answered"))
    ∷ (codes "mac", mac_tree mac) ∷ [])
ask_answer_tree (Leased lease) =
    fields ((codes "kind", word (codes "Answered")) ∷ (codes "lease", lease_tree lease) ∷ [])

abbrev pub cause_word : DropCause → Text
cause_word Dead = codes "Dead"
cause_word Unsupported = codes "Unsupported"
cause_word Spoof = codes "Spoof"
cause_word Egress = codes "Egress"
cause_word Ingress = codes "Ingress"
cause_word Unknown = codes "Unknown"
cause_word NoHolder = codes "NoHolder"
cause_word NoLease = codes "NoLease"
cause_word RouterDown = codes "RouterDown"
cause_word Expired = codes "Expired"
cause_word NoRoute = codes "NoRoute"
cause_word TranslationFull = codes "TranslationFull"

abbrev pub toward_text : Toward → Text
toward_text (Mac mac) = mac_text mac
toward_text (Address address) = addr_text address
toward_text Dhcp = codes "dhcp"

abbrev pub outcome_tree : Outcome → Tree
outcome_tree (Delivered port frame) = fields (
    (codes "frame", frame_tree frame) ∷ (codes "kind", word (codes "Delivered"))
    ∷ (codes "port", id_tree port) ∷ [])
outcome_tree (Answered answer) = ask_answer_tree answer
outcome_tree (Absorbed router) =
    fields ((codes "kind", word (codes "Absorbed")) ∷ (codes "router", id_tree router) ∷ [])
outcome_tree (Out network toward frame) = fields (
    (codes "frame", frame_tree frame) ∷ (codes "kind", word (codes "Out"))
    ∷ (codes "network", id_tree network)
    ∷ (codes "toward", word (toward_text toward)) ∷ [])
outcome_tree (Dropped cause) =
    fields ((codes "cause", word (cause_word cause)) ∷ (codes "kind", word (codes "Dropped")) ∷ [])

abbrev pub made_tree : Made → Tree
made_tree made = entry_tree made.entry

abbrev pub trail_tree : TrailItem → Tree
trail_tree item = fields ((codes "host", word item.host) ∷ (codes "tag", number item.tag) ∷ [])

abbrev pub verdict_tree : Verdict → Tree
verdict_tree verdict = fields (
    (codes "fresh", list (map made_tree verdict.fresh))
    ∷ (codes "outcome", outcome_tree verdict.outcome)
    ∷ (codes "path", list (map id_tree verdict.path))
    ∷ (codes "trail", list (map trail_tree verdict.trail)) ∷ [])

-- what a host makes of a change
abbrev pub heard_tree : Heard → Tree
heard_tree (Applied held) =
    fields ((codes "heard", word (codes "Applied")) ∷ (codes "held", number held) ∷ [])
heard_tree (Old held) =
    fields ((codes "heard", word (codes "Old")) ∷ (codes "held", number held) ∷ [])
heard_tree (Gap held) =
    fields ((codes "heard", word (codes "Gap")) ∷ (codes "held", number held) ∷ [])
heard_tree Asleep = fields ((codes "heard", word (codes "Asleep")) ∷ (codes "held", null) ∷ [])
