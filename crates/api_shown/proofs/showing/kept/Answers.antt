use Rattle.std.proofs.Common.{◌∙◌, map, sym}
use Rattle.api_types.specs.Printed.{member_of}
use Rattle.api_shown.proofs.ToldLemmas.{all_shown}
use Rattle.api_shown.proofs.showing.kept.Goals as goal

pub returns-then-len-eq0 : goal.returns-then-len-eq0
returns-then-len-eq0 c =
    all_shown c.args.admin c.args.fields.now (map member_of c.args.members) c.if-admin.true (sym c.len.ensures ∙ c.if-len-eq0.true)
