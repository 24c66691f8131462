pub mod TextsBack
pub mod WordsBack
pub mod ListsBack
pub mod MembersBack
pub mod CreationsBack
pub mod PrefixBack
pub mod ProtocolBack
pub mod RuleProtocolBack
