-- a raster, its blocks, and blocks of one feature
pub mod RasterTests
pub mod BuildInside
pub mod Alike
-- counting and writing a block
pub mod CountBlock
pub mod WriteBlock
pub mod WrittenBlock
pub mod FittingBlock
-- the call
pub mod BuildRefusal
pub mod BuildCall
