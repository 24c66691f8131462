use Rattle.std.proofs.Common.{◌∙◌, ◌+◌, ◌/◌, ◌%◌, [], ◌∷◌, ◌++◌, ap, arith}
use Rattle.net_addr.proofs.PrintLemmas.{one_digit, three_digits, two_digits}
use Rattle.net_addr.proofs.print.push_byte.Goals as goal

pub returns-then-n-lt10-clause-text : goal.returns-then-n-lt10-clause-text
returns-then-n-lt10-clause-text c = c.push.ensures.items ∙ one_digit c.args.text.now.items c.args.n (omega arith)

pub returns-then-n-lt100-clause-text : goal.returns-then-n-lt100-clause-text
returns-then-n-lt100-clause-text c =
    let n = c.args.n in
    c.push-then-n-lt100-2.ensures.items
    ∙ ap (λ t. t ++ ((48 + n % 10) ∷ [])) c.push-then-n-lt100.ensures.items ∙ two_digits c.args.text.now.items n (omega arith) (omega arith)

pub returns-clause-text : goal.returns-clause-text
returns-clause-text c =
    let n = c.args.n in
    c.push-4.ensures.items
    ∙ ap (λ t. t ++ ((48 + n % 10) ∷ [])) (c.push-3.ensures.items ∙ ap (λ t. t ++ ((48 + n / 10 % 10) ∷ [])) c.push-2.ensures.items)
    ∙ three_digits c.args.text.now.items n (omega arith) (omega arith)
