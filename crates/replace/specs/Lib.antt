pub mod Family
pub mod Renew
pub mod Climb
pub mod Plant
pub mod Put
pub mod Planting
pub mod Exchanging
pub mod Putting
