-- Labels that determine what links connect when some numbers are removed.
use Rattle.std.specs.Prelude.{◌≡◌, ℕ, ◌<◌, true, cond, ◌==◌, List, [], ◌∷◌, ◌++◌, filter, slice_index_or, Contains}
use Rattle.permutations.specs.Relation.{connected}
use Rattle.graph_theory.specs.Triconnected.{avoids}

-- the label of a number: numbers without one have themselves
abbrev pub label_at : List ℕ → ℕ → ℕ
label_at labels x = slice_index_or labels x x

-- a label, where one is replaced by another
abbrev pub renamed : ℕ → ℕ → ℕ → ℕ
renamed from to label = cond (label == from) to label

-- labels that determine what these links connect when the numbers are removed: a link that avoids them has one label at both ends;
-- numbers of one label are connected by such links; and a label is that of the number that it is
pub record IsLabelling (links : List (ℕ × ℕ)) (removed : List ℕ) (label : ℕ → ℕ) : Type 0 where
  pub agree : (link : ℕ × ℕ) → Contains links link → avoids removed link ≡ true → label link.0 ≡ label link.1
  pub only : (u v : ℕ) → label u ≡ label v → connected (filter (avoids removed) links) u v ≡ true
  pub own : (x : ℕ) → label (label x) ≡ label x

-- of whatever links the labels were before, the labels after are those of these links and of the new one
abbrev pub AddsLink : List ℕ → ℕ × ℕ → List ℕ → List ℕ → Type 0
AddsLink removed link before after =
    (links : List (ℕ × ℕ)) → IsLabelling links removed (label_at before) → IsLabelling (links ++ link ∷ []) removed (label_at after)

-- the labels of the numbers below n are below n
abbrev pub AreLabelsBelow : ℕ → List ℕ → Type 0
AreLabelsBelow n labels = (x : ℕ) → x < n → label_at labels x < n
