pub mod Rules
pub mod Follows
pub mod Octets
pub mod OneOctet
pub mod Passes
