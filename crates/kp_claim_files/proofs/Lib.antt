pub mod Circles
pub mod ClaimsAt
pub mod FirstFaults
pub mod GroundClaims
pub mod GroundSides
pub mod RuleUse
pub mod SoundClaims
pub mod Spelled
