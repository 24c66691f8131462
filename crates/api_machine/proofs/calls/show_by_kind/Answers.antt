use Rattle.api_machine.proofs.calls.show_by_kind.Goals as goal

pub returns-in-Policy-clause-ok : goal.returns-in-Policy-clause-ok
returns-in-Policy-clause-ok c = rw c.in-Policy.is c.show-in-Policy.ensures.ok

pub returns-in-Policy-clause-err : goal.returns-in-Policy-clause-err
returns-in-Policy-clause-err c = rw c.in-Policy.is c.show-in-Policy.ensures.err

pub returns-in-Group-clause-ok : goal.returns-in-Group-clause-ok
returns-in-Group-clause-ok c = rw c.in-Group.is c.show-in-Group.ensures.ok

pub returns-in-Group-clause-err : goal.returns-in-Group-clause-err
returns-in-Group-clause-err c = rw c.in-Group.is c.show-in-Group.ensures.err

pub returns-in-Rule-clause-ok : goal.returns-in-Rule-clause-ok
returns-in-Rule-clause-ok c = rw c.in-Rule.is c.show-in-Rule.ensures.ok

pub returns-in-Rule-clause-err : goal.returns-in-Rule-clause-err
returns-in-Rule-clause-err c = rw c.in-Rule.is c.show-in-Rule.ensures.err

pub returns-in-Floating-clause-ok : goal.returns-in-Floating-clause-ok
returns-in-Floating-clause-ok c = rw c.in-Floating.is c.show-in-Floating.ensures.ok

pub returns-in-Floating-clause-err : goal.returns-in-Floating-clause-err
returns-in-Floating-clause-err c = rw c.in-Floating.is c.show-in-Floating.ensures.err

pub returns-in-Router-clause-ok : goal.returns-in-Router-clause-ok
returns-in-Router-clause-ok c = rw c.in-Router.is c.show-in-Router.ensures.ok

pub returns-in-Router-clause-err : goal.returns-in-Router-clause-err
returns-in-Router-clause-err c = rw c.in-Router.is c.show-in-Router.ensures.err
