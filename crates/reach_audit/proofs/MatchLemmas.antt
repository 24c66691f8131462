-- What a parse by `clap` says of the words.
use Rattle.std.proofs.Common.{◌≡◌, ◌≢◌, ◌∙◌, ◌&&◌, List, [], ◌∷◌, Bool, true, false, Result, Ok, Err, Some, None, not, codes, map, refl, sym, ap, subst}
use Rattle.std.specs.Prelude.{if◌then◌else◌}
use Rattle.std.specs.List.{list_any}
use Rattle.std.specs.Str.{bytes_eq}
use Rattle.std.specs.Borrow.{Bor}
use Rattle.clap.specs.Walk.{Text}
use Rattle.clap.specs.Simple.{App, matches_of}
use Rattle.clap.specs.Faults.{fault_of}
use Rattle.clap.specs.Kinds.{Kinds}
use Rattle.clap.specs.declared.parser.matches.ArgMatches.{ArgMatches}
use Rattle.clap.proofs.WalkLemmas.{list_any-map}
use Rattle.command_lines.specs.Lines.{AreMatches, AreMatchesOf, has_dashes, has_none, rows_read}
use Rattle.command_lines.specs.declared.line.Refusal.{Refusal}

-- the left part of a test that passed
pub left_of : (a b : Bool) → (a && b) ≡ true → a ≡ true
left_of true b e = refl
left_of false b e = e

-- the test on words behind references
pub dashes_are : (words : List (Bor Text)) (b : Bool) → b ≡ list_any (λ w. bytes_eq w.now (codes "--")) words → b ≡ has_dashes (map (λ s. s.now) words)
dashes_are words b e = e ∙ list_any-map (λ w. bytes_eq w (codes "--")) (λ (s : Bor Text). s.now) words

-- words with `--` aren't read
pub dashes_refused : (app : App) (words : List Text) → true ≡ has_dashes words → rows_read app words ≡ None
dashes_refused app words e = ap (λ b. if not b && has_none (fault_of app words) then Some (matches_of app words) else None) (sym e)

some_fault : (kinds : Kinds) → kinds ≢ [] → has_none kinds ≡ false
some_fault [] h = absurd (h refl)
some_fault (k ∷ ks) h = refl

-- words without `--` are read by a command as `clap` reads them
pub read_by : (app told : App) (words : List Text) (result : Result ArgMatches Refusal) → app ≡ told → false ≡ has_dashes words → AreMatches app words result → AreMatchesOf told words result
read_by app told words result e dashes found = go result (subst (λ a. AreMatches a words result) e found)
  where
    open_is : rows_read told words ≡ (if has_none (fault_of told words) then Some (matches_of told words) else None)
    open_is = ap (λ b. if not b && has_none (fault_of told words) then Some (matches_of told words) else None) (sym dashes)

    go : (r : Result ArgMatches Refusal) → AreMatches told words r → AreMatchesOf told words r
    go (Ok m) h = open_is ∙ ap (λ ks. if has_none ks then Some (matches_of told words) else None) h.0 ∙ ap Some (sym h.1)
    go (Err refusal) h = λ wrong. open_is ∙ ap (λ b. if b then Some (matches_of told words) else None) (some_fault (fault_of told words) (h wrong))
