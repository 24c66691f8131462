-- When no table or no judgement is left, no line is.
use Rattle.std.proofs.Common.{◌≡◌, ℕ, List, [], ◌∷◌, ◌++◌, ◌⊎◌, inl, inr, refl, ap, sym, ◌∙◌}
use Rattle.std.proofs.lemmas.List.{append-nil}
use Rattle.reach_audit.specs.AuditLines.{lines_of}
use Rattle.reach_sets.specs.declared.judgement.Judgement.{Judgement}
use Rattle.wanted_files.specs.declared.wanted.WantedReach.{WantedReach}

none-left : (wanted : List WantedReach) (judged : List Judgement) → (wanted ≡ []) ⊎ (judged ≡ []) → lines_of wanted judged ≡ []
none-left [] judged h = refl
none-left (w ∷ wanted) [] h = refl
none-left (w ∷ wanted) (j ∷ judged) (inl e) = cc
none-left (w ∷ wanted) (j ∷ judged) (inr e) = cc

pub lines-done : (lines all : List ℕ) (wanted : List WantedReach) (judged : List Judgement) → (wanted ≡ []) ⊎ (judged ≡ []) → lines ++ lines_of wanted judged ≡ all → lines ≡ all
lines-done lines all wanted judged left so_far = sym (append-nil lines) ∙ ap (λ r. lines ++ r) (sym (none-left wanted judged left)) ∙ so_far
