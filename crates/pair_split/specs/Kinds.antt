-- Kinds of components, as tests.
use Rattle.std.specs.Prelude.{Bool, true, false}
use Rattle.pair_split.specs.declared.components.Kind.{Kind}
use Rattle.pair_split.specs.declared.components.Kind.TheVariants.{S, P, R, B}

-- whether it is the kind of polygons, of bonds, of triconnected graphs
abbrev pub is_polygon : Kind → Bool
is_polygon S = true
is_polygon P = false
is_polygon R = false
is_polygon B = false

abbrev pub is_bond : Kind → Bool
is_bond S = false
is_bond P = true
is_bond R = false
is_bond B = false

abbrev pub is_rigid : Kind → Bool
is_rigid S = false
is_rigid P = false
is_rigid R = true
is_rigid B = false

-- whether nodes of this kind have choices: bonds and triconnected nodes do
abbrev pub has_choices : Kind → Bool
has_choices S = false
has_choices P = true
has_choices R = true
has_choices B = false
