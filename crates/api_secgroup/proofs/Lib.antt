mod HoldLemmas
mod MemberLemmas
mod NamedLemmas
