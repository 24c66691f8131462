-- What a verdict is printed as doesn't hang on who made its entries.
use Rattle.std.proofs.Common.{List, [], ap, map, refl, ℕ, ◌∙◌, ◌∷◌, ◌≡◌}
use Rattle.std.specs.Prelude.{codes}
use Rattle.api_types.specs.Printed.{Tree, word}
use Rattle.dvr_run.specs.Lines.{with_feed}
use Rattle.dvr_run.specs.Turns.{reply_of}
use Rattle.dvr_types.specs.DvrFabric.{DvrFate, DvrHost, dvr_fate}
use Rattle.dvr_types.specs.DvrVerdicts.{dvr_meant, dvr_verdict, plain_hosts}
use Rattle.dvr_types.specs.declared.verdict.DvrVerdict.{DvrVerdict}
use Rattle.json_replies.specs.Bodies.{handled_tree}
use Rattle.json_replies.specs.Frames.{entry_tree}
use Rattle.json_trees.specs.Words.{id_tree}
use Rattle.json_trees.specs.Printed.{fields, list, tree_data}
use Rattle.json_replies.specs.Verdicts.{made_tree, outcome_tree}
use Rattle.plane_types.specs.Hosts.{Host}
use Rattle.plane_types.specs.Verdicts.{made_entries, of_nobody, verdict_of_fate}
use Rattle.plane_types.specs.declared.entry.Entry.{Entry}
use Rattle.plane_types.specs.declared.event.Event.{Event}
use Rattle.serde_json.specs.Written.{compact_text}

made-printed : (hosts : List Host) (es : List Entry) (names : List (List ℕ)) → map made_tree (made_entries hosts es names) ≡ map made_tree (map of_nobody es)
made-printed hosts [] names = refl
made-printed hosts (e ∷ es) [] = ap (λ ts. entry_tree e ∷ ts) (made-printed hosts es [])
made-printed hosts (e ∷ es) (name ∷ names) = ap (λ ts. entry_tree e ∷ ts) (made-printed hosts es names)

abbrev tree_with : DvrFate → List Tree → Tree
tree_with f fresh = fields (
    (codes "hosts", list (map word f.run.hosts))
    ∷ (
      codes "verdict",
      fields (
          (codes "fresh", list fresh) ∷ (codes "outcome", outcome_tree f.outcome) ∷ (codes "path", list (map id_tree f.run.run.path)) ∷ (codes "trail", list []) ∷ []),
    )
    ∷ [])

pub told-printed : (hosts : List DvrHost) (event : Event)
    → handled_tree (dvr_verdict hosts event).hosts (dvr_verdict hosts event).verdict
    ≡ handled_tree (dvr_meant (dvr_fate hosts event)).hosts (verdict_of_fate (dvr_meant (dvr_fate hosts event)).fate)
told-printed hosts event = let f = dvr_fate hosts event in ap (tree_with f) (made-printed (plain_hosts hosts) f.run.run.fresh f.run.run.makers)

-- the line of a verdict
pub line-printed : (hosts : List DvrHost) (event : Event) (v : DvrVerdict) (text line : List ℕ) → v ≡ dvr_verdict hosts event → text ≡ compact_text (tree_data (handled_tree v.hosts v.verdict)) → line ≡ with_feed text → line ≡ reply_of hosts event
line-printed hosts event v text line is printed made =
    made ∙ ap with_feed (printed ∙ ap (λ (w : DvrVerdict). compact_text (tree_data (handled_tree w.hosts w.verdict))) is ∙ ap (λ t. compact_text (tree_data t)) (told-printed hosts event))
