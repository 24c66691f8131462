use Rattle.std.proofs.Common.{◌∙◌, ap, subst, sym}
use Rattle.std.specs.Prelude.{IsUtf8}
use Rattle.std.proofs.lemmas.Str.{IsUtf8-string_bytes}
use Rattle.json_trees.proofs.PrintedLemmas.{written}
use Rattle.wire_text.proofs.text.write_text.Goals as goal

pub returns-clause-text : goal.returns-clause-text
returns-clause-text g c =
    c.from_vec.ensures ∙ ap (λ v. v.items) c.into_bytes.ensures.value
    ∙ written (g.T.ToJson.tree c.args.value.now) _ _ c.in_ok-to_json.ensures c.in_ok-text.ensures.text

pub returns-clause-utf8 : goal.returns-clause-utf8
returns-clause-utf8 g c = subst IsUtf8 (sym (c.from_vec.ensures ∙ ap (λ v. v.items) c.into_bytes.ensures.value)) (IsUtf8-string_bytes c.in_ok-text.text)
