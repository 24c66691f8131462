pub mod CallLemmas
pub mod OwnPolicies
pub mod PoliciesApart
pub mod PoliciesSpare
pub mod PolicyKept
