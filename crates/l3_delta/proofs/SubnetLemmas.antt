-- In which subnet an address lies.
use Rattle.std.proofs.Common.{◌≡◌, ◌∙◌, List, [], ◌∷◌, Bool, true, false, Option, Some, None, cond, find, map, refl, ap, sym}
use Rattle.std.specs.Prelude.{◌&&◌, is_some}
use Rattle.std.specs.List.{AllByRecursion, IsDistinct, list_any}
use Rattle.net_addr.specs.Prefixes.{contains}
use Rattle.net_addr.specs.declared.address.Addr.{Addr}
use Rattle.api_types.specs.Ident.{Ident}
use Rattle.api_types.specs.RouterRows.{holds_next}
use Rattle.api_types.specs.RowLists.{RowLists}
use Rattle.api_types.specs.RowsWith.{subnet_with}
use Rattle.api_types.specs.Table.{HaveOwnIds, ident_eq}
use Rattle.api_types.specs.declared.port.Fixed.{Fixed}
use Rattle.api_types.specs.declared.subnet.SubnetRow.{SubnetRow}
use Rattle.api_types.proofs.ListLemmas.{and_both, any-weaker}
use Rattle.api_types.proofs.NameLemmas.{fails_by, ident_same}
use Rattle.plane_laws.proofs.Facts.{AtMostOne}
use Rattle.plane_laws.proofs.ListLemmas.{any-at, find-passes, find-some}

-- whether the subnet that is found contains the address
abbrev pub contains_in : Addr → Option SubnetRow → Bool
contains_in x None = false
contains_in x (Some s) = contains s.prefix x

abbrev pub subnet_id : SubnetRow → Ident
subnet_id s = s.id

abbrev has_id : Ident → SubnetRow → Bool
has_id i s = ident_eq i s.id

-- an address lies in that of a held one if the subnet that is found contains it
pub next_held : (rows : RowLists) → ((i : Ident) → AtMostOne (has_id i) rows.subnets) → (x : Addr)
    (f : Fixed) → holds_next rows x f ≡ contains_in x (subnet_with rows f.subnet)
next_held rows once x f = go (subnet_with rows f.subnet) refl
  where
    lies : SubnetRow → Bool
    lies s = ident_eq f.subnet s.id && contains s.prefix x

    go : (o : Option SubnetRow) → subnet_with rows f.subnet ≡ o
        → list_any lies rows.subnets ≡ contains_in x o
    go None e =
        fails_by (list_any lies rows.subnets) (list_any (has_id f.subnet) rows.subnets)
        (any-weaker lies (has_id f.subnet) rows.subnets
        (λ s h. (and_both (ident_eq f.subnet s.id) (contains s.prefix x) h).0))
        (sym (find-some (has_id f.subnet) rows.subnets) ∙ ap is_some e)
    go (Some s) e =
        any-at (has_id f.subnet) lies rows.subnets s (once f.subnet) e
        (λ t off. ap (λ b. b && contains t.prefix x) off)
        ∙ ap (λ b. b && contains s.prefix x) (find-passes (has_id f.subnet) rows.subnets s e)

-- if each subnet has an id of its own, one has the id at most
none_found : (i : Ident) (s : SubnetRow) (ss : List SubnetRow)
    → AllByRecursion (λ y. ident_eq s.id y ≡ false) (map subnet_id ss) → ident_eq i s.id ≡ true
    → find (has_id i) ss ≡ None
none_found i s [] apart same = refl
none_found i s (y ∷ ss) apart same =
    ap (λ b. cond b (Some y) (find (has_id i) ss))
    (ap (λ k. ident_eq k y.id) (ident_same i s.id same) ∙ apart.0)
    ∙ none_found i s ss apart.1 same

once_by_ids : (ss : List SubnetRow) → HaveOwnIds subnet_id ss → (i : Ident)
    → AtMostOne (has_id i) ss
unfolding IsDistinct
once_by_ids [] own i = tt
once_by_ids (s ∷ ss) own i =
    ((λ same. none_found i s ss own.0 same), once_by_ids ss own.1 i)

pub held_next : (rows : RowLists) → HaveOwnIds subnet_id rows.subnets → (x : Addr) (f : Fixed)
    → holds_next rows x f ≡ contains_in x (subnet_with rows f.subnet)
held_next rows own x f = next_held rows (once_by_ids rows.subnets own) x f
