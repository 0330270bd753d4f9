pub mod Links
pub mod RightExchanges
