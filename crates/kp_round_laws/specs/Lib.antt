pub mod Laws
pub mod RightRounds
