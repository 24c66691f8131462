use Rattle.api_shown.proofs.listing.listed_by_kind.Goals as goal

pub returns-in-Subnet : goal.returns-in-Subnet
returns-in-Subnet c = rw c.in-Subnet.is (rw (c.in-Subnet.is, c.subnets.ensures) at c.listed_in-in-Subnet.ensures)

pub returns-in-Port : goal.returns-in-Port
returns-in-Port c = rw c.in-Port.is (rw (c.in-Port.is, c.ports.ensures) at c.listed_in-in-Port.ensures)

pub returns-in-Group : goal.returns-in-Group
returns-in-Group c = rw c.in-Group.is (rw (c.in-Group.is, c.groups.ensures) at c.listed_in-in-Group.ensures)

pub returns-in-Rule : goal.returns-in-Rule
returns-in-Rule c = rw c.in-Rule.is (rw (c.in-Rule.is, c.rules.ensures) at c.listed_in-in-Rule.ensures)

pub returns-in-Router : goal.returns-in-Router
returns-in-Router c = rw c.in-Router.is (rw (c.in-Router.is, c.routers.ensures) at c.listed_in-in-Router.ensures)

pub returns-in-Floating : goal.returns-in-Floating
returns-in-Floating c = rw c.in-Floating.is (rw (c.in-Floating.is, c.floatings.ensures) at c.listed_in-in-Floating.ensures)

pub returns-in-Policy : goal.returns-in-Policy
returns-in-Policy c = rw c.in-Policy.is (rw (c.in-Policy.is, c.policies.ensures) at c.listed_in-in-Policy.ensures)
