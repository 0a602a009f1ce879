pub mod BuildBlocks
