use Rattle.std.proofs.Common.{None, sym, ap}
use Rattle.std.specs.Fmt.{digits}
use Rattle.neutron_http.specs.Replies.{reply_bytes, no_memory_body}
use Rattle.neutron_http.proofs.reply.no_memory_reply.Goals as goal

pub returns-then-close : goal.returns-then-close
unfolding digits
returns-then-close c = sym (ap (λ b. reply_bytes 507 b None no_memory_body) c.if-close.true)

pub returns-else-close : goal.returns-else-close
unfolding digits
returns-else-close c = sym (ap (λ b. reply_bytes 507 b None no_memory_body) c.if-close.false)
