-- Asks of a desk, in order.
use Rattle.std.proofs.Common.{◌≡◌, ◌∙◌, ◌++◌, List, [], Option, None, Some, ap, refl, sym}
use Rattle.std.proofs.lemmas.List.{append-nil, append_assoc}
use Rattle.keeper_core.specs.declared.ask.DeskAsk.{DeskAsk}
use Rattle.openings.specs.Openings.{AsksFirst, with_asks}

pub none_after : (o : Option (List DeskAsk)) → o ≡ with_asks [] o
none_after None = refl
none_after (Some asks) = ap Some (sym (append-nil asks))

pub after_both : (first second : List DeskAsk) (o : Option (List DeskAsk)) → with_asks second (with_asks first o) ≡ with_asks (first ++ second) o
after_both first second None = refl
after_both first second (Some asks) = ap Some (append_assoc asks first second)

-- all asks are made, or none
pub all_asked : (all : List DeskAsk) (old new : Option (List DeskAsk)) → new ≡ with_asks all old → AsksFirst all old new
all_asked all old new e = record { made = all; rest = []; parts = sym (append-nil all); asked = e }

pub none_asked : (all : List DeskAsk) (old new : Option (List DeskAsk)) → new ≡ old → AsksFirst all old new
none_asked all old new e = record { made = []; rest = all; parts = refl; asked = e ∙ none_after old }

-- the first asks are made, and of those after them some
pub first_then : (first second : List DeskAsk) (old mid new : Option (List DeskAsk)) → mid ≡ with_asks first old → AsksFirst second mid new → AsksFirst (first ++ second) old new
first_then first second old mid new e s = record {
  made = first ++ s.made;
  rest = s.rest;
  parts = ap (λ l. first ++ l) s.parts ∙ sym (append_assoc first s.made s.rest);
  asked = s.asked ∙ ap (with_asks s.made) e ∙ after_both first s.made old;
}
