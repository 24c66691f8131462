use Rattle.std.proofs.Common.{◌≡◌, ◌++◌, drop, string_bytes}
use Rattle.net_addr.specs.Printing6.{more_text, row_text}
use Rattle.net_addr.proofs.print6.row.Given as goal

-- the text so far before that of the groups that are left
abbrev pub invariant-loop-group : goal.invariant-loop-group
invariant-loop-group l = string_bytes l.text ++ more_text (drop l.group-index l.others) ≡ row_text l.fn.groups
