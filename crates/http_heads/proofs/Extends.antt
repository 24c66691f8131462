-- What is decided stays decided, whatever bytes follow.
use Rattle.std.proofs.Common.{ℕ, ◌≤◌, inl, inr, List, ◌++◌, length, sym, ap, subst, ◌∙◌, arith, append_assoc, length-append}
use Rattle.std.proofs.lemmas.List.{take-append-le, get_or_append_left}
use Rattle.httparse.specs.Grammar.{print_request}
use Rattle.http_heads.specs.Heads.{Judgement, Judges, IsOpen, IsJudged, Decides, Asked, Takes}

pub IsJudged-append : (input more : List ℕ) (n : ℕ) → IsJudged input n → IsJudged (input ++ more) n
IsJudged-append input more n j = record {
  fits = omega (arith, length-append input more, j.fits);
  short = j.short;
  ends = elim j.ends [ inl whole ↦ inl whole | inr line ↦ inr (line.0, line.1, get_or_append_left input more 0 line.0 (omega (arith, line.1, j.fits)) ∙ line.2) ];
}

pub IsJudged-front : (input more : List ℕ) (n : ℕ) → n ≤ length input → IsJudged (input ++ more) n → IsJudged input n
IsJudged-front input more n fits j = record {
  fits = fits;
  short = j.short;
  ends = elim j.ends [ inl whole ↦ inl whole | inr line ↦ inr (line.0, line.1, sym (get_or_append_left input more 0 line.0 (omega (arith, line.1, fits))) ∙ line.2) ];
}

pub Decides-append : (input more : List ℕ) (j : Judgement) → Decides input j → Decides (input ++ more) j
Decides-append input more j d = record {
  at = d.at;
  judged = IsJudged-append input more d.at d.judged;
  says = subst (λ p. Judges p j) (sym (take-append-le d.at input more d.judged.fits)) d.says;
  first = λ k lt judged. subst IsOpen (sym (take-append-le k input more (omega (arith, lt, d.judged.fits)))) (d.first k lt (IsJudged-front input more k (omega (arith, lt, d.judged.fits)) judged));
}

pub Takes-append : (bytes rest more : List ℕ) (asked : Asked) → Takes bytes asked rest → Takes (bytes ++ more) asked (rest ++ more)
Takes-append bytes rest more asked t = record {
  decides = Decides-append bytes more _ t.decides;
  body = t.body;
  parts = ap (λ l. l ++ more) t.parts ∙ append_assoc (print_request asked.head) (asked.body ++ rest) more ∙ ap (λ l. print_request asked.head ++ l) (append_assoc asked.body rest more);
}
