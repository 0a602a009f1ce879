-- `count::has_room`: a raster of 4 ^ height pixels has no longer list than the longest. Rests on BuildInside and CountBlock.
use Rattle.std.proofs.Common.{sym, arith}
use borrow.Author.Tests.{le-leb}
use Rattle.build.specs.BuildBlocks.{picture_of_rows}
use Rattle.build.proofs.BuildInside.{inside_raster_pixels}
use Rattle.build.proofs.CountBlock.{most_records}
use Rattle.build.proofs.count.has_room.Goals as goal

pub returns-then-most-room : goal.returns-then-most-room
returns-then-most-room c =
    let pixels = inside_raster_pixels c.requires.0 c.requires.1 in
    let few = most_records (picture_of_rows c.args.side c.args.raster.now) c.args.height 0 0 0 _ pixels in
    sym (le-leb _ _ (omega arith))
