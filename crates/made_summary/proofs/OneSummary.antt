-- A graph of one block has one summary at most: its tree is the only one, and so is the list of its plane rotation systems.
use Rattle.std.proofs.Common.{◌≡◌, ℕ, inl, inr, List, length, sym, ap, ◌∙◌, subst, arith}
use Rattle.std.proofs.lemmas.Bool.{both_ways, cases_eq, cases_lt}
use Rattle.pair_split.specs.Tutte.{Node, node_at}
use Rattle.faces.specs.Euler.{IsPlaneSystem}
use Rattle.skeletons.specs.Lists.{IsFullList}
use Rattle.skeletons.proofs.Before.{list-unique}
use Rattle.tree_unique.proofs.SameTrees.{trees-equal}
use Rattle.made_summary.specs.Kinds.{IsLeastWithChoices}
use Rattle.pair_split.specs.Kinds.{has_choices}
use Rattle.made_summary.specs.Summary.{summary_text}
use Rattle.made_summary.specs.Laws.{SummaryIsUnique}

-- there is one least node with choices
least-once : (nodes : List Node) (k j : ℕ) → IsLeastWithChoices nodes k → IsLeastWithChoices nodes j → k ≡ j
least-once nodes k j a b = elim (cases_eq k j) [
  | inl e ↦ e
  | inr n ↦ elim (cases_lt k j) [
    | inl l ↦ absurd (both_ways (has_choices (node_at nodes k).kind) (b.none_before k l) a.has)
    | inr l ↦ absurd (both_ways (has_choices (node_at nodes j).kind) (a.none_before j (omega (arith, l, n))) b.has)
  ]
]

pub one-summary : SummaryIsUnique
one-summary g text other block a b = a.is_text ∙ (λ i. summary_text g (trees i) (lists i) (lasts i) (nodes i)) ∙ sym b.is_text
  where
    trees : a.tree ≡ b.tree
    trees = trees-equal g a.tree b.tree block a.is_tree b.is_tree

    lists : a.list ≡ b.list
    lists = list-unique b.tree (IsPlaneSystem g) a.list b.list (subst (λ t. IsFullList g t a.list) trees a.is_list) b.is_list

    lasts : a.last ≡ b.last
    lasts = omega (arith, a.is_last, b.is_last, ap length lists)

    nodes : a.node ≡ b.node
    nodes = least-once b.tree a.node b.node (subst (λ t. IsLeastWithChoices t a.node) trees a.is_least) b.is_least
