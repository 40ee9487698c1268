use Rattle.triangulations.proofs.Start.{start-filled}
use Rattle.triangulations.proofs.FillLoop.{from-triangles}
use Rattle.triangulations.proofs.filling.triangulate.Goals as goal

pub is_triangulated-requires : goal.is_triangulated-requires
is_triangulated-requires c =
    (start-filled c.args.g.now c.args.r.now c.keeps_limits.ensures.graph c.requires.connected c.requires.three c.requires.plane c.requires.simple c.in_ok-map.map c.in_ok-map.ensures).map

pub fill_faces-requires-clause-map : goal.fill_faces-requires-clause-map
fill_faces-requires-clause-map c =
    (start-filled c.args.g.now c.args.r.now c.keeps_limits.ensures.graph c.requires.connected c.requires.three c.requires.plane c.requires.simple c.in_ok-map.map c.in_ok-map.ensures).map

pub returns-then-is_triangulated : goal.returns-then-is_triangulated
returns-then-is_triangulated c = from-triangles c.args.g.now c.args.r.now c.in_ok-map.map
    (start-filled c.args.g.now c.args.r.now c.keeps_limits.ensures.graph c.requires.connected c.requires.three c.requires.plane c.requires.simple c.in_ok-map.map c.in_ok-map.ensures)
    (c.is_triangulated.ensures.0 c.if-is_triangulated.true)

pub returns : goal.returns
returns c = c.in_ok-fill_faces.ensures c.args.r.now
    (start-filled c.args.g.now c.args.r.now c.keeps_limits.ensures.graph c.requires.connected c.requires.three c.requires.plane c.requires.simple c.in_ok-map.map c.in_ok-map.ensures)
