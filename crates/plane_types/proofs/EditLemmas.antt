-- How many rows edits put in.
use Rattle.std.proofs.Common.{◌≡◌, sym, ap, ℕ, ◌+◌, ◌≤◌, List, [], ◌∷◌, length, Bool, true, false, arith}
use Rattle.std.specs.Prelude.{is_some}
use Rattle.plane_types.specs.Edits.{all_puts, all_writes, one_if, with_edits}
use Rattle.plane_types.specs.declared.delta.Edit.{Edit}

one-most : (b : Bool) → one_if b ≤ 1
one-most true = omega arith
one-most false = omega arith

pub puts-most : {R : Type 0} (es : List (Edit R)) → all_puts es ≤ length es
puts-most [] = omega arith
puts-most (e ∷ es) =
    let first : one_if (is_some e.put) ≤ 1 = one-most (is_some e.put) in
    let rest : all_puts es ≤ length es = puts-most es in
    omega (arith, first, rest)

-- what has room for so many has room for what they put in
pub few_puts : {R : Type 0} (es : List (Edit R)) (spare : ℕ) → length es ≤ spare → all_puts es ≤ spare
few_puts es spare h = let most : all_puts es ≤ length es = puts-most es in omega (arith, most, h)

-- no edits change nothing
pub no_edits : {R : Type 0} (rows : List R) (es : List (Edit R)) → es ≡ []
    → rows ≡ with_edits rows es
no_edits rows es none = sym (ap (with_edits rows) none)

pub no_puts : {R : Type 0} (spare : ℕ) (es : List (Edit R)) → spare ≤ spare + all_puts es
no_puts spare es = omega arith

pub no_writes : {R : Type 0} (steps : ℕ) (es : List (Edit R)) → es ≡ []
    → steps ≡ steps + all_writes es
no_writes steps es none =
    let zero : all_writes es ≡ 0 = ap all_writes none in omega (arith, zero)
