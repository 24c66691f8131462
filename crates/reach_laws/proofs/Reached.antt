-- The pieces of an audit decide: one source other than the number, and one number of a piece, stand for all.
use Rattle.std.proofs.Common.{◌≡◌, ℕ, suc, List, [], ◌∷◌, Bool, true, false, not, Option, Some, None, refl, ap, sym, ◌∙◌}
use Rattle.std.specs.Prelude.{option_map, ◌&&◌, ◌||◌, ◌==◌, if◌then◌else◌}
use Rattle.std.specs.List.{list_any}
use Rattle.net_addr.specs.declared.address.Addr.{Addr}
use Rattle.api_types.specs.Consistent.Groups.{is_direction, is_ethertype}
use Rattle.api_types.specs.Holders.{port_at}
use Rattle.api_types.specs.Ident.{Ident}
use Rattle.api_types.specs.Live.{joined_with, segment}
use Rattle.api_types.specs.Members.{is_member, names_group}
use Rattle.api_types.specs.RowLists.{RowLists}
use Rattle.api_types.specs.RowsWith.{port_with}
use Rattle.api_types.specs.Table.{ident_eq}
use Rattle.api_types.specs.Wires.{wire_of}
use Rattle.api_types.specs.declared.group.Direction.{Direction}
use Rattle.api_types.specs.declared.group.Direction.TheVariants.{Egress, Ingress}
use Rattle.api_types.specs.declared.group.RuleRow.{RuleRow}
use Rattle.api_types.specs.declared.port.PortRow.{PortRow}
use Rattle.api_types.specs.declared.wire.Wire.{Wire}
use Rattle.plane_types.specs.Ends.{Ends, ends_of, ethertype_of}
use Rattle.plane_types.specs.Filter.{at_least, at_most, far_fits, far_of, has_type, is_none_of, rule_matches, rules_allow, same_or_none}
use Rattle.plane_types.specs.Guard.{passes_guard}
use Rattle.plane_types.specs.Keys.{answer_kind, key_of_part, kind_eq}
use Rattle.plane_types.specs.Meaning.{Trace, drop_fate, from_port, from_sender, port_fate, may_begin, none_so_far, out_or, rows_fate, sent_on, sent_out, sent_to, with_fresh}
use Rattle.plane_types.specs.Packets.{ip_frame, is_for_many, packet}
use Rattle.plane_types.specs.Passage.{Passage, passage}
use Rattle.plane_types.specs.declared.event.Event.TheVariants.{FromPort}
use Rattle.plane_types.specs.declared.frame.Frame.{Frame}
use Rattle.plane_types.specs.declared.frame.Frame.TheVariants.{Ip}
use Rattle.plane_types.specs.declared.frame.KeyKind.{KeyKind}
use Rattle.plane_types.specs.declared.frame.KeyPart.{KeyPart}
use Rattle.plane_types.specs.declared.frame.KeyPart.TheVariants.{EchoAsk, Proto, Tcp, Udp}
use Rattle.plane_types.specs.declared.verdict.DropCause.{DropCause}
use Rattle.plane_types.specs.declared.verdict.DropCause.TheVariants.{Dead, Egress as EgressFilter, Spoof, Unknown, Unsupported}
use Rattle.plane_types.specs.declared.verdict.Toward.{Toward}
use Rattle.plane_types.specs.declared.verdict.Toward.TheVariants.{Mac as TowardMac}
use Rattle.reach_laws.proofs.Comes.{Passed, come, passed-by, passes-if}
use Rattle.reach_laws.proofs.Follow.{OwnGateways}
use Rattle.reach_laws.proofs.RowsFound.{IsRow, port-row}
use Rattle.reach_laws.specs.Pieces.{AreAlike, AreNamedAlike, NamesAlike, TellsNot, is_within}
use Rattle.reach_laws.specs.FirstEvent.{first_mac, first_packet}
use Rattle.reach_laws.specs.Reach.{comes, event_comes, is_delivered}

module _ (rows : RowLists) (good : OwnGateways rows) (p q : PortRow) (there : port_with rows p.id ≡ Some p)
    (part : KeyPart) (kind : KeyKind) (s d : ℕ) (is : (ends : Ends) → key_of_part part ends ≡ record { kind = kind; ends = ends; sport = s; dport = d })
    (apart : (kind_eq kind (answer_kind kind) && (s == d)) ≡ false) (unasked : (kind_eq (answer_kind kind) kind && (d == s)) ≡ false)
    (other : KeyPart)
    (out_alike : (ends : Ends) → rules_allow rows p Egress (key_of_part part ends) ≡ true → rules_allow rows p Egress (key_of_part other ends) ≡ true)
    (in_alike : (x : PortRow) (ends : Ends) → IsRow rows x → ident_eq q.id x.id ≡ true → rules_allow rows x Ingress (key_of_part part ends) ≡ true → rules_allow rows x Ingress (key_of_part other ends) ≡ true) where
  wire : (n : Ident) (toward : Toward) (frame : Frame) (c : DropCause) (o : Option Wire) → is_delivered q.id (out_or o n toward frame c) ≡ false
  wire n toward frame c None = refl
  wire n toward frame c (Some w) = refl

  -- behind its own filter
  carried : (mac : ℕ) (e : Ends) (path : List Ident) (y1 y2 : Passage) → Passed p (key_of_part part e) y1 → Passed p (key_of_part other e) y2
      → is_delivered q.id (sent_out rows (port_fate rows [] (suc 64)) p (packet p.mac mac e 64 part) (record { path = path; fresh = [] }) y1).outcome ≡ true
      → is_delivered q.id (sent_out rows (port_fate rows [] (suc 64)) p (packet p.mac mac e 64 other) (record { path = path; fresh = [] }) y2).outcome ≡ true
  carried mac e path y1 y2 a b h =
      ap (λ y. is_delivered q.id (sent_out rows (port_fate rows [] (suc 64)) p (packet p.mac mac e 64 other) (record { path = path; fresh = [] }) y).outcome) b.is
      ∙ go (joined_with rows p.host (port_at rows p.network mac)) refl (sym (ap (λ y. is_delivered q.id (sent_out rows (port_fate rows [] (suc 64)) p (packet p.mac mac e 64 part) (record { path = path; fresh = [] }) y).outcome) a.is) ∙ h)
    where
      go : (o : Option PortRow) → joined_with rows p.host (port_at rows p.network mac) ≡ o → is_delivered q.id (sent_to rows (port_fate rows [] (suc 64)) p.network (packet p.mac mac e 64 part) (record { path = path; fresh = a.made }) o).outcome ≡ true
          → is_delivered q.id (sent_to rows (port_fate rows [] (suc 64)) p.network (packet p.mac mac e 64 other) (record { path = path; fresh = b.made }) o).outcome ≡ true
      go None f k = let bad : false ≡ true = sym (wire p.network (TowardMac mac) (ip_frame (packet p.mac mac e 64 part)) Unknown (wire_of (segment rows p.network))) ∙ k in cc
      go (Some z) f k = come rows good q.id part kind s d is apart unasked other in_alike (suc 64) z (port-row rows p.network mac p.host z f) (packet p.mac mac e 64 part) (record { path = path; fresh = a.made }) (record { path = path; fresh = b.made }) e (key_of_part other e) refl a.flows b.flows k

  both : (e : Ends) → (not p.secured || rules_allow rows p Egress (key_of_part part e)) ≡ true → (not p.secured || rules_allow rows p Egress (key_of_part other e)) ≡ true
  both e h = go p.secured (rules_allow rows p Egress (key_of_part part e)) refl h
    where
      go : (b c : Bool) → rules_allow rows p Egress (key_of_part part e) ≡ c → (not b || c) ≡ true → (not b || rules_allow rows p Egress (key_of_part other e)) ≡ true
      go false c f h = refl
      go true true f h = out_alike e f
      go true false f h = cc

  passing : (mac : ℕ) (e : Ends) (path : List Ident) (y : Passage) → is_delivered q.id (sent_out rows (port_fate rows [] (suc 64)) p (packet p.mac mac e 64 part) (record { path = path; fresh = [] }) y).outcome ≡ true → y.passes ≡ true
  passing mac e path y h = by y.passes refl h
    where
      by : (c : Bool) → y.passes ≡ c → is_delivered q.id (if c then sent_on rows (port_fate rows [] (suc 64)) p.network p.host (packet p.mac mac e 64 part) (with_fresh (record { path = path; fresh = [] }) y.made) else drop_fate (record { path = path; fresh = [] }) EgressFilter).outcome ≡ true → y.passes ≡ true
      by true f h = f
      by false f h = cc

  leaves : (mac : ℕ) (e : Ends) (path : List Ident) → is_delivered q.id (sent_out rows (port_fate rows [] (suc 64)) p (packet p.mac mac e 64 part) (record { path = path; fresh = [] }) (passage p.secured (rules_allow rows p) [] p.id Egress (key_of_part part e))).outcome ≡ true
      → is_delivered q.id (sent_out rows (port_fate rows [] (suc 64)) p (packet p.mac mac e 64 other) (record { path = path; fresh = [] }) (passage p.secured (rules_allow rows p) [] p.id Egress (key_of_part other e))).outcome ≡ true
  leaves mac e path h =
      let ok = passes-if p (rules_allow rows p) (key_of_part part e) (passing mac e path (passage p.secured (rules_allow rows p) [] p.id Egress (key_of_part part e)) h) in
      carried mac e path (passage p.secured (rules_allow rows p) [] p.id Egress (key_of_part part e)) (passage p.secured (rules_allow rows p) [] p.id Egress (key_of_part other e))
      (passed-by p (rules_allow rows p) (key_of_part part e) p.secured (rules_allow rows p Egress (key_of_part part e)) refl refl ok)
      (passed-by p (rules_allow rows p) (key_of_part other e) p.secured (rules_allow rows p Egress (key_of_part other e)) refl refl (both e ok)) h

  sends : (mac : ℕ) (e : Ends) → is_delivered q.id (rows_fate rows [] (FromPort p.id (Ip p.mac mac e 64 part))).outcome ≡ true → is_delivered q.id (rows_fate rows [] (FromPort p.id (Ip p.mac mac e 64 other))).outcome ≡ true
  unfolding rows_fate
  sends mac e h =
      ap (λ o. is_delivered q.id (from_port rows [] (suc 64) (Ip p.mac mac e 64 other) o).outcome) there
      ∙ begin (may_begin rows p) (is_for_many mac) (passes_guard p (Ip p.mac mac e 64 part)) (sym (ap (λ o. is_delivered q.id (from_port rows [] (suc 64) (Ip p.mac mac e 64 part) o).outcome) there) ∙ h)
    where
      t : Trace
      t = record { path = p.network ∷ []; fresh = [] }

      begin : (b u g : Bool) → is_delivered q.id (if b then (if u then drop_fate t Unsupported else if not g then drop_fate t Spoof else from_sender rows [] (suc 64) p t (Ip p.mac mac e 64 part)) else drop_fate none_so_far Dead).outcome ≡ true
          → is_delivered q.id (if b then (if u then drop_fate t Unsupported else if not g then drop_fate t Spoof else from_sender rows [] (suc 64) p t (Ip p.mac mac e 64 other)) else drop_fate none_so_far Dead).outcome ≡ true
      begin false u g h = cc
      begin true true g h = cc
      begin true false false h = cc
      begin true false true h = leaves mac e (p.network ∷ []) h

  -- a first packet that comes has every other come that rules let pass as they do it
  pub carries : (a b : Addr) → comes rows p a q b part ≡ true → comes rows p a q b other ≡ true
  carries a b h = go (first_mac rows p a q) h
    where
      go : (o : Option ℕ) → event_comes rows q.id (option_map (λ (mac : ℕ). FromPort p.id (ip_frame (first_packet p a b part mac))) o) ≡ true → event_comes rows q.id (option_map (λ (mac : ℕ). FromPort p.id (ip_frame (first_packet p a b other mac))) o) ≡ true
      go None h = cc
      go (Some mac) h = sends mac (ends_of a b) h

-- rules and numbers
any-same : (f g : RuleRow → Bool) (p q : PortRow) (rs : List RuleRow) (d e : ℕ) → ((r : RuleRow) → TellsNot p q d e r → f r ≡ g r) → AreAlike p q d e rs → list_any f rs ≡ list_any g rs
any-same f g p q [] d e k h = refl
any-same f g p q (r ∷ rs) d e k h = ap (λ b. b || list_any f rs) (k r h.0) ∙ ap (λ b. g r || b) (any-same f g p q rs d e k h.1)

-- a rule of a group that isn't the port's isn't asked
unnamed : (b c d : Bool) → (b ≡ true → c ≡ d) → (b && c) ≡ (b && d)
unnamed true c d h = h refl
unnamed false c d h = refl

module _ (rows : RowLists) (p q x : PortRow) (of : (i : Ident) → names_group i x.groups ≡ true → (names_group i p.groups || names_group i q.groups) ≡ true) (ends : Ends) (s d t e : ℕ) where
  pub tcp-rules : (dir : Direction) → AreAlike p q d e rows.rules → rules_allow rows x dir (key_of_part (Tcp s d) ends) ≡ rules_allow rows x dir (key_of_part (Tcp t e) ends)
  unfolding rules_allow rule_matches
  tcp-rules dir h = any-same (λ r. names_group r.group x.groups && rule_matches rows dir (key_of_part (Tcp s d) ends) r) (λ r. names_group r.group x.groups && rule_matches rows dir (key_of_part (Tcp t e) ends) r) p q rows.rules d e
      (λ r k. unnamed (names_group r.group x.groups) (rule_matches rows dir (key_of_part (Tcp s d) ends) r) (rule_matches rows dir (key_of_part (Tcp t e) ends) r)
      (λ named. ap (λ b. is_direction r.direction dir && is_ethertype r.ethertype (ethertype_of ends) && same_or_none r.protocol 6 && b && far_fits (is_member rows) r.remote_prefix r.remote_group (far_of dir (key_of_part (Tcp s d) ends))) (k (of r.group named)) ∙ same r dir)) h
    where
      same : (r : RuleRow) (dd : Direction) → (is_direction r.direction dd && is_ethertype r.ethertype (ethertype_of ends) && same_or_none r.protocol 6 && is_within r.low r.high e && far_fits (is_member rows) r.remote_prefix r.remote_group (far_of dd (key_of_part (Tcp s d) ends)))
          ≡ (is_direction r.direction dd && is_ethertype r.ethertype (ethertype_of ends) && same_or_none r.protocol 6 && is_within r.low r.high e && far_fits (is_member rows) r.remote_prefix r.remote_group (far_of dd (key_of_part (Tcp t e) ends)))
      same r Ingress = refl
      same r Egress = refl

  pub udp-rules : (dir : Direction) → AreAlike p q d e rows.rules → rules_allow rows x dir (key_of_part (Udp s d) ends) ≡ rules_allow rows x dir (key_of_part (Udp t e) ends)
  unfolding rules_allow rule_matches
  udp-rules dir h = any-same (λ r. names_group r.group x.groups && rule_matches rows dir (key_of_part (Udp s d) ends) r) (λ r. names_group r.group x.groups && rule_matches rows dir (key_of_part (Udp t e) ends) r) p q rows.rules d e
      (λ r k. unnamed (names_group r.group x.groups) (rule_matches rows dir (key_of_part (Udp s d) ends) r) (rule_matches rows dir (key_of_part (Udp t e) ends) r)
      (λ named. ap (λ b. is_direction r.direction dir && is_ethertype r.ethertype (ethertype_of ends) && same_or_none r.protocol 17 && b && far_fits (is_member rows) r.remote_prefix r.remote_group (far_of dir (key_of_part (Udp s d) ends))) (k (of r.group named)) ∙ same r dir)) h
    where
      same : (r : RuleRow) (dd : Direction) → (is_direction r.direction dd && is_ethertype r.ethertype (ethertype_of ends) && same_or_none r.protocol 17 && is_within r.low r.high e && far_fits (is_member rows) r.remote_prefix r.remote_group (far_of dd (key_of_part (Udp s d) ends)))
          ≡ (is_direction r.direction dd && is_ethertype r.ethertype (ethertype_of ends) && same_or_none r.protocol 17 && is_within r.low r.high e && far_fits (is_member rows) r.remote_prefix r.remote_group (far_of dd (key_of_part (Udp t e) ends)))
      same r Ingress = refl
      same r Egress = refl

module _ (rows : RowLists) (x : PortRow) (ends : Ends) (s t : ℕ) where
  pub echo-rules : (dir : Direction) → rules_allow rows x dir (key_of_part (EchoAsk s) ends) ≡ rules_allow rows x dir (key_of_part (EchoAsk t) ends)
  unfolding rules_allow rule_matches
  echo-rules Ingress = refl
  echo-rules Egress = refl

named-same : (f g : RuleRow → Bool) (p q : PortRow) (rs : List RuleRow) (n m : ℕ) → ((r : RuleRow) → NamesAlike p q n m r → f r ≡ g r) → AreNamedAlike p q n m rs → list_any f rs ≡ list_any g rs
named-same f g p q [] n m k h = refl
named-same f g p q (r ∷ rs) n m k h = ap (λ b. b || list_any f rs) (k r h.0) ∙ ap (λ b. g r || b) (named-same f g p q rs n m k h.1)

module _ (rows : RowLists) (p q x : PortRow) (of : (i : Ident) → names_group i x.groups ≡ true → (names_group i p.groups || names_group i q.groups) ≡ true) (ends : Ends) (n m : ℕ) where
  pub other-rules : (dir : Direction) → (has_type n ≡ has_type m) × AreNamedAlike p q n m rows.rules → rules_allow rows x dir (key_of_part (Proto n) ends) ≡ rules_allow rows x dir (key_of_part (Proto m) ends)
  unfolding rules_allow rule_matches
  other-rules dir h = named-same (λ r. names_group r.group x.groups && rule_matches rows dir (key_of_part (Proto n) ends) r) (λ r. names_group r.group x.groups && rule_matches rows dir (key_of_part (Proto m) ends) r) p q rows.rules n m
      (λ r k. unnamed (names_group r.group x.groups) (rule_matches rows dir (key_of_part (Proto n) ends) r) (rule_matches rows dir (key_of_part (Proto m) ends) r)
      (λ named.
      ap (λ b. is_direction r.direction dir && is_ethertype r.ethertype (ethertype_of ends) && b && (if has_type n then is_none_of r.low && is_none_of r.high else at_least r.low 0 && at_most r.high 0) && far_fits (is_member rows) r.remote_prefix r.remote_group (far_of dir (key_of_part (Proto n) ends))) (k (of r.group named))
      ∙ ap (λ b. is_direction r.direction dir && is_ethertype r.ethertype (ethertype_of ends) && same_or_none r.protocol m && (if b then is_none_of r.low && is_none_of r.high else at_least r.low 0 && at_most r.high 0) && far_fits (is_member rows) r.remote_prefix r.remote_group (far_of dir (key_of_part (Proto n) ends))) h.0
      ∙ same r dir)) h.1
    where
      same : (r : RuleRow) (dd : Direction) → (is_direction r.direction dd && is_ethertype r.ethertype (ethertype_of ends) && same_or_none r.protocol m && (if has_type m then is_none_of r.low && is_none_of r.high else at_least r.low 0 && at_most r.high 0) && far_fits (is_member rows) r.remote_prefix r.remote_group (far_of dd (key_of_part (Proto n) ends)))
          ≡ (is_direction r.direction dd && is_ethertype r.ethertype (ethertype_of ends) && same_or_none r.protocol m && (if has_type m then is_none_of r.low && is_none_of r.high else at_least r.low 0 && at_most r.high 0) && far_fits (is_member rows) r.remote_prefix r.remote_group (far_of dd (key_of_part (Proto m) ends)))
      same r Ingress = refl
      same r Egress = refl
