-- The text of the answer to `euler`.
use Rattle.std.specs.Prelude.{ℕ, Bool, List, ◌++◌, codes, decimal, if◌then◌else◌}
use Rattle.faces.specs.declared.numbers.Euler.{Euler}
use Rattle.spqr_script.specs.Text.{line_end}

-- whether a rotation system is plane, in a word with a space before it
abbrev pub plane_word : Bool → List ℕ
plane_word plane = if plane then codes " plane" else codes " not-plane"

-- `euler V E F C plane` or `euler V E F C not-plane`: the numbers of a rotation system
abbrev pub euler_text : Euler → List ℕ
euler_text e = codes "euler " ++ decimal e.v ++ codes " " ++ decimal e.e ++ codes " " ++ decimal e.f ++ codes " " ++ decimal e.c
    ++ plane_word e.plane ++ line_end
