-- Each subdivision has a written form: the branch vertices in their written order, and the paths between them.
use Rattle.std.proofs.Common.{◌≡◌, ℕ, inl, inr, true, List, ◌++◌, length, take, drop, sym, subst}
use Rattle.std.proofs.lemmas.List.{take-append-drop}
use Rattle.permutations.specs.Members.{is_distinct}
use Rattle.permutations.proofs.Members.{distinct-append_left, distinct-append_right}
use Rattle.multigraph.specs.Graph.{Multigraph}
use Rattle.kuratowski.specs.declared.subdivision.Pattern.{Pattern}
use Rattle.kuratowski.specs.declared.subdivision.Pattern.TheVariants.{K5, K33}
use Rattle.kuratowski.specs.Subdivision.{branch_count, pattern_edges, all_inner, IsSubdivision, IsWrittenOrder, IsWritten}
use Rattle.kuratowski.specs.Reordering.{reordered_paths, IsReordering, IsRisen}
use Rattle.kuratowski.proofs.Reordering.{reordered-subdivision}
use Rattle.kuratowski.proofs.Sorting.{rising_order}
use Rattle.kuratowski.proofs.WrittenOrder.{k5-reordering, k5-written, straight-reordering, straight-written, crossed-reordering, crossed-written, sides-begin}

-- different branch vertices can be put in their written order
pub written_order : (kind : Pattern) (branch : List ℕ) → length branch ≡ branch_count kind → is_distinct branch ≡ true → (order : List ℕ) × IsReordering kind branch order × IsWrittenOrder kind order
written_order K5 branch n d = let r = rising_order branch d in (r.0, k5-reordering branch r.0 n d r.1, k5-written branch r.0 n d r.1)
written_order K33 branch n d = sides (rising_order (take 3 branch) (distinct-append_left (take 3 branch) (drop 3 branch) apart)) (rising_order (drop 3 branch) (distinct-append_right (take 3 branch) (drop 3 branch) apart))
  where
    apart : is_distinct (take 3 branch ++ drop 3 branch) ≡ true
    apart = subst (λ (l : List ℕ). is_distinct l ≡ true) (sym (take-append-drop 3 branch)) d

    sides : ((first : List ℕ) × IsRisen (take 3 branch) first) → ((second : List ℕ) × IsRisen (drop 3 branch) second) → (order : List ℕ) × IsReordering K33 branch order × IsWrittenOrder K33 order
    sides (first, f) (second, s) = elim (sides-begin branch first second n d f s) [
      | inl w ↦ (first ++ second, straight-reordering branch first second n d f s, straight-written branch first second n d f s w)
      | inr w ↦ (second ++ first, crossed-reordering branch first second n d f s, crossed-written branch first second n d f s w)
    ]

-- the branch vertices of a subdivision are different
pub branches-distinct : (g : Multigraph) (kind : Pattern) (branch : List ℕ) (paths : List (List ℕ)) → IsSubdivision g kind branch paths → is_distinct branch ≡ true
branches-distinct g kind branch paths s = distinct-append_left branch (all_inner g branch (pattern_edges kind) paths) s.apart

-- a subdivision with its branch vertices in their written order is in its written form
pub reordered-written : (g : Multigraph) (kind : Pattern) (branch : List ℕ) (paths : List (List ℕ)) (order : List ℕ) → IsSubdivision g kind branch paths → IsReordering kind branch order → IsWrittenOrder kind order → IsWritten g kind order (reordered_paths kind branch paths order)
reordered-written g kind branch paths order s o w = record { subdivision = reordered-subdivision g kind branch paths order s o; order = w }

-- each subdivision has a written form
pub written_form : (g : Multigraph) (kind : Pattern) (branch : List ℕ) (paths : List (List ℕ)) → IsSubdivision g kind branch paths → (order : List ℕ) × (paths' : List (List ℕ)) × IsWritten g kind order paths'
written_form g kind branch paths s =
    let o = written_order kind branch s.branches (branches-distinct g kind branch paths s) in
    (o.0, reordered_paths kind branch paths o.0, reordered-written g kind branch paths o.0 s o.1 o.2)
