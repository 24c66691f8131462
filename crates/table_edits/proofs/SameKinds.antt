-- Kinds of rows that pass as one are one.
use Rattle.std.proofs.Common.{◌≡◌, Bool, true, false, refl, sym, subst}
use Rattle.api_types.specs.declared.kind.Kind.{Kind}
use Rattle.api_types.specs.declared.kind.Kind.TheVariants.{Project, Network, Subnet, Port, Group, Rule, Router, Floating, Policy}
use Rattle.plane_types.specs.NumberedRows.{is_kind}

pub one_kind : (a b : Kind) → is_kind a b ≡ true → a ≡ b
one_kind Project Project e = refl
one_kind Project Network e = cc
one_kind Project Subnet e = cc
one_kind Project Port e = cc
one_kind Project Group e = cc
one_kind Project Rule e = cc
one_kind Project Router e = cc
one_kind Project Floating e = cc
one_kind Project Policy e = cc
one_kind Network Project e = cc
one_kind Network Network e = refl
one_kind Network Subnet e = cc
one_kind Network Port e = cc
one_kind Network Group e = cc
one_kind Network Rule e = cc
one_kind Network Router e = cc
one_kind Network Floating e = cc
one_kind Network Policy e = cc
one_kind Subnet Project e = cc
one_kind Subnet Network e = cc
one_kind Subnet Subnet e = refl
one_kind Subnet Port e = cc
one_kind Subnet Group e = cc
one_kind Subnet Rule e = cc
one_kind Subnet Router e = cc
one_kind Subnet Floating e = cc
one_kind Subnet Policy e = cc
one_kind Port Project e = cc
one_kind Port Network e = cc
one_kind Port Subnet e = cc
one_kind Port Port e = refl
one_kind Port Group e = cc
one_kind Port Rule e = cc
one_kind Port Router e = cc
one_kind Port Floating e = cc
one_kind Port Policy e = cc
one_kind Group Project e = cc
one_kind Group Network e = cc
one_kind Group Subnet e = cc
one_kind Group Port e = cc
one_kind Group Group e = refl
one_kind Group Rule e = cc
one_kind Group Router e = cc
one_kind Group Floating e = cc
one_kind Group Policy e = cc
one_kind Rule Project e = cc
one_kind Rule Network e = cc
one_kind Rule Subnet e = cc
one_kind Rule Port e = cc
one_kind Rule Group e = cc
one_kind Rule Rule e = refl
one_kind Rule Router e = cc
one_kind Rule Floating e = cc
one_kind Rule Policy e = cc
one_kind Router Project e = cc
one_kind Router Network e = cc
one_kind Router Subnet e = cc
one_kind Router Port e = cc
one_kind Router Group e = cc
one_kind Router Rule e = cc
one_kind Router Router e = refl
one_kind Router Floating e = cc
one_kind Router Policy e = cc
one_kind Floating Project e = cc
one_kind Floating Network e = cc
one_kind Floating Subnet e = cc
one_kind Floating Port e = cc
one_kind Floating Group e = cc
one_kind Floating Rule e = cc
one_kind Floating Router e = cc
one_kind Floating Floating e = refl
one_kind Floating Policy e = cc
one_kind Policy Project e = cc
one_kind Policy Network e = cc
one_kind Policy Subnet e = cc
one_kind Policy Port e = cc
one_kind Policy Group e = cc
one_kind Policy Rule e = cc
one_kind Policy Router e = cc
one_kind Policy Floating e = cc
one_kind Policy Policy e = refl

pub kind_itself : (k : Kind) → is_kind k k ≡ true
kind_itself Project = refl
kind_itself Network = refl
kind_itself Subnet = refl
kind_itself Port = refl
kind_itself Group = refl
kind_itself Rule = refl
kind_itself Router = refl
kind_itself Floating = refl
kind_itself Policy = refl

pub same_kind : (kind k : Kind) → k ≡ kind → is_kind kind k ≡ true
same_kind kind k e = subst (λ x. is_kind x k ≡ true) e (kind_itself k)

pub other_kind : (kind k : Kind) → (k ≡ kind → ⊥) → is_kind kind k ≡ false
other_kind kind k apart = go (is_kind kind k) (one_kind kind k)
  where
    go : (b : Bool) → (b ≡ true → kind ≡ k) → b ≡ false
    go true same = absurd (apart (sym (same refl)))
    go false same = refl
