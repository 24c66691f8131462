-- Edits by which services come and go: DHCP ports, gateways, interfaces and floating addresses.
pub mod DhcpLemmas
pub mod SubnetLeased
pub mod SubnetUnleased
pub mod ServiceLemmas
pub mod GatewayOn
pub mod GatewayOff
pub mod InterfaceOn
pub mod InterfaceTaken
pub mod InterfaceOff
pub mod FloatingOn
pub mod FloatingOff
pub mod RouterOff
pub mod FloatingsFreed
