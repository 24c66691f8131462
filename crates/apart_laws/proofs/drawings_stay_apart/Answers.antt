use Rattle.std.proofs.Common.{◌∙◌, ap, sym}
use Rattle.std.specs.Prelude.{option_map}
use Rattle.api_types.proofs.ListLemmas.{some_equal}
use Rattle.apart_laws.proofs.DrawnAlike.{counts_of, counts_same}
use Rattle.apart_laws.proofs.drawings_stay_apart.Goals as goal

pub returns : goal.returns
returns c settings caller s t many x y same at_x at_y =
    let alike = some_equal (counts_of x) (counts_of y) (sym (ap (option_map counts_of) at_x) ∙ (counts_same settings caller s t same many ∙ ap (option_map counts_of) at_y)) in
    (λ j. (alike j).0, λ j. (alike j).1)
