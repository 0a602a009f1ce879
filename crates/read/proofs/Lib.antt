-- filling a raster, block by block
pub mod Painted
pub mod Rectangle
pub mod Filling
pub mod Quadrants
pub mod Shown
pub mod FillTurn
pub mod FourPixels
pub mod Rows
-- the calls, and the round trip of build and raster
pub mod Answers
pub mod RoundTrip
