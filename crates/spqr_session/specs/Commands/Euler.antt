-- `euler ROT`: the numbers of a rotation system of the whole graph.
use Rattle.std.specs.Prelude.{◌≡◌, ℕ, ◌+◌, ◌*◌, ◌<◌, ◌==◌, List}
use Rattle.multigraph.specs.Graph.{Multigraph, edge_count}
use Rattle.rotations.specs.Rotation.{order_at, IsRotationSystem}
use Rattle.rotations.specs.Given.{AreArranged, IsFirstBad, given_order}
use Rattle.faces.specs.Euler.{face_count, component_count}
use Rattle.faces.specs.declared.numbers.Euler.{Euler}
use Rattle.spqr_script.specs.Answers.Euler.{euler_text}
use Rattle.spqr_session.specs.Setting.{Setting}
use Rattle.spqr_session.specs.State.{State}
use Rattle.spqr_session.specs.Codes.{Carries}
use Rattle.spqr_session.specs.declared.code.Code.{Code}
use Rattle.spqr_session.specs.declared.code.Code.TheVariants.{BadRotation}

-- code 6: the number is the least that is a vertex whose list is no permutation of its edges, or is named and is not a vertex
abbrev pub EulerApplies : Multigraph → List (ℕ × List ℕ) → Code → Type 0
EulerApplies g entries (BadRotation v) = IsFirstBad g entries v
EulerApplies g entries code = ⊥

-- the rotation system that the lists are: around each vertex the list that is given for it
pub record IsGiven (g : Multigraph) (entries : List (ℕ × List ℕ)) (rotation : List (List ℕ)) : Type 0 where
  pub arranged : AreArranged g entries
  pub system : IsRotationSystem g rotation
  pub orders : (v : ℕ) → v < g.vertex_count → order_at rotation v ≡ given_order g entries v

-- the numbers of Euler's sum: vertices, edges, faces and components, and whether V + F = E + 2C
abbrev pub euler_numbers : Multigraph → List (List ℕ) → Euler
euler_numbers g rotation =
    record {
      v = g.vertex_count;
      e = edge_count g;
      f = face_count g rotation;
      c = component_count g;
      plane = g.vertex_count + face_count g rotation == edge_count g + 2 * component_count g;
    }

-- the answer is the numbers of the rotation system that the lists are; the state stays
pub record EulerDoes (g : Multigraph) (entries : List (ℕ × List ℕ)) (before : State) (text : List ℕ) (after : State) : Type 0 where
  pub rotation : List (List ℕ)
  pub given : IsGiven g entries rotation
  pub answer : text ≡ euler_text (euler_numbers g rotation)
  pub stays : after ≡ before

-- this on a graph: refused where a code applies
abbrev pub EulerOn : Multigraph → List (ℕ × List ℕ) → State → List ℕ → State → Type 0
EulerOn g entries before text after = Carries (EulerApplies g entries) (EulerDoes g entries) before text after

-- one step, on the graph of the setting
abbrev pub EulerStep : Setting → List (ℕ × List ℕ) → State → List ℕ → State → Type 0
EulerStep setting entries before text after = EulerOn setting.named.graph entries before text after
