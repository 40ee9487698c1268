use Rattle.multigraph.proofs.Places.{place-missed}
use Rattle.multigraph.proofs.parts.place_in.Goals as goal

-- the search ended beside the number
pub returns-in-Err : goal.returns-in-Err
returns-in-Err c = place-missed c.args.list.now c.args.x c.in-Err.field-0 c.requires.rising (c.in-Err.ensures.position)
