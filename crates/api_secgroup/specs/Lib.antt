pub mod Named
pub mod Repeats
pub mod RuleOf
pub mod RuleParts
