-- Which lists are the lifted subdivision, for the contraction of a level.
use Rattle.std.proofs.Common.{◌≡◌, ℕ, ◌+◌, ◌<◌, ◌≤◌, false, List, [], ◌∷◌, length, get_or, slice_index, sym, ap, ◌∙◌, subst, arith}
use Rattle.permutations.specs.Members.{is_member}
use Rattle.contractions.specs.Contracted.{contracted_vertex}
use Rattle.kuratowski.specs.declared.subdivision.Pattern.{Pattern}
use Rattle.kuratowski.specs.declared.subdivision.Pattern.TheVariants.{K5, K33}
use Rattle.kuratowski.specs.Subdivision.{branch_count, branch_at, IsSubdivision}
use Rattle.planarity.specs.Lift.{spokes_on, spokes_off, lifted_branch, lifted_paths, split_branch, split_paths}
use Rattle.planarity.proofs.LiftCases.{two-members, spokes-three, spokes-four, lift-none, lift-first, lift-second, lift-four, spokes-both}
use Rattle.contractions.specs.Level.{IsLevel, contraction}
use Rattle.contractions.proofs.LevelFacts.{level-contraction, level-graph}
use Rattle.contract_obstruct.specs.Lifting.{with_number}
use Rattle.contractions.specs.declared.level.Level.{Level}
use Rattle.contract_obstruct.proofs.LiftedLevel.{with-in, with-is}

-- the merged vertex
abbrev top : Level → ℕ
top level = contracted_vertex level.x level.y level.x

-- the pattern lifted, with `foot` for the merged vertex, is a subdivision
abbrev Lifted : Level → ℕ → Pattern → List ℕ → List (List ℕ) → Type 0
Lifted level foot kind branch paths =
    IsSubdivision level.graph kind (lifted_branch (top level) foot (with_number level.y) branch)
    (lifted_paths level.graph level.edge (slice_index level.kept.items) kind paths (lifted_branch (top level) foot (with_number level.y) branch))

-- K5 lifted to K3,3 is a subdivision
abbrev Split : Level → List ℕ → List (List ℕ) → ℕ → ℕ → ℕ → ℕ → ℕ → Type 0
Split level branch paths m p q r t =
    IsSubdivision level.graph K33 (split_branch level.x level.y (with_number level.y) branch p q r t)
    (split_paths level.graph level.edge (slice_index level.kept.items) paths m p q r t (split_branch level.x level.y (with_number level.y) branch p q r t))

module _ (level : Level) (k : IsLevel level) where
  -- the paths from vertex m that touch y, and those that do not
  abbrev pub on : Pattern → List (List ℕ) → ℕ → List ℕ
  on kind paths m = spokes_on level.graph (slice_index level.kept.items) kind paths level.y m

  abbrev pub off : Pattern → List (List ℕ) → ℕ → List ℕ
  off kind paths m = spokes_off level.graph (slice_index level.kept.items) kind paths level.y m

  -- the merged vertex is no branch vertex
  pub level-none : (kind : Pattern) (branch : List ℕ) (paths : List (List ℕ)) → IsSubdivision (contraction level) kind branch paths → is_member (top level) branch ≡ false → Lifted level level.x kind branch paths
  level-none kind branch paths s =
      lift-none level.graph (contraction level) level.edge level.x level.y (slice_index level.kept.items) (contracted_vertex level.x level.y) k.graph (level-graph level k) (level-contraction level k)
      (with_number level.y) (with-in level k) (λ v l. with-is level.x level.y v) kind branch paths s

  -- at most one path at it begins at y
  pub level-first : (kind : Pattern) (branch : List ℕ) (paths : List (List ℕ)) → IsSubdivision (contraction level) kind branch paths → (m : ℕ) → m < branch_count kind → branch_at branch m ≡ top level
      → (l : List ℕ) → l ≡ on kind paths m → length l ≤ 1 → Lifted level level.x kind branch paths
  level-first kind branch paths s m i a l e few =
      lift-first level.graph (contraction level) level.edge level.x level.y (slice_index level.kept.items) (contracted_vertex level.x level.y) k.graph (level-graph level k) (level-contraction level k)
      (with_number level.y) (with-in level k) (λ v l. with-is level.x level.y v) kind branch paths s m i a (subst (λ (z : List ℕ). length z ≤ 1) e few)

  -- at most one path at it begins at x
  pub level-second : (kind : Pattern) (branch : List ℕ) (paths : List (List ℕ)) → IsSubdivision (contraction level) kind branch paths → (m : ℕ) → m < branch_count kind → branch_at branch m ≡ top level
      → (l : List ℕ) → l ≡ off kind paths m → length l ≤ 1 → Lifted level level.y kind branch paths
  level-second kind branch paths s m i a l e few =
      lift-second level.graph (contraction level) level.edge level.x level.y (slice_index level.kept.items) (contracted_vertex level.x level.y) k.graph (level-graph level k) (level-contraction level k)
      (with_number level.y) (with-in level k) (λ v l. with-is level.x level.y v) kind branch paths s m i a (subst (λ (z : List ℕ). length z ≤ 1) e few)

  -- how many paths there are
  both : (kind : Pattern) (branch : List ℕ) (paths : List (List ℕ)) → IsSubdivision (contraction level) kind branch paths → (m : ℕ) (l j : List ℕ) → l ≡ on kind paths m → j ≡ off kind paths m
      → length l + length j ≡ length (Rattle.planarity.specs.Lift.spokes kind m)
  both kind branch paths s m l j e f =
      (λ i. length (e i) + length (f i)) ∙
      spokes-both level.graph (contraction level) level.edge level.x level.y (slice_index level.kept.items) (contracted_vertex level.x level.y) k.graph (level-graph level k) (level-contraction level k)
      (with_number level.y) (with-in level k) (λ v l. with-is level.x level.y v) kind branch paths s m

  -- else it is K5, and two paths begin at each
  pub level-split : (kind : Pattern) (branch : List ℕ) (paths : List (List ℕ)) → IsSubdivision (contraction level) kind branch paths → (m : ℕ) → m < branch_count kind → branch_at branch m ≡ top level
      → (l j : List ℕ) → l ≡ on kind paths m → j ≡ off kind paths m → 2 ≤ length l → 2 ≤ length j
      → IsSubdivision (contraction level) K5 branch paths × ((p q r t : ℕ) → p ≡ get_or j 0 0 → q ≡ get_or j 1 0 → r ≡ get_or l 0 0 → t ≡ get_or l 1 0 → Split level branch paths m p q r t)
  level-split K33 branch paths s m i a l j e f two two' = absurd (omega (arith, both K33 branch paths s m l j e f, spokes-three m i))
  level-split K5 branch paths s m i a l j e f two two' = (s, found (two-members j (omega (arith, both K5 branch paths s m l j e f, spokes-four m i))) (two-members l (omega (arith, both K5 branch paths s m l j e f, spokes-four m i))))
    where
      found : (v : ℕ) × (w : ℕ) × (j ≡ v ∷ w ∷ []) → (y : ℕ) × (z : ℕ) × (l ≡ y ∷ z ∷ []) → (p q r t : ℕ) → p ≡ get_or j 0 0 → q ≡ get_or j 1 0 → r ≡ get_or l 0 0 → t ≡ get_or l 1 0 → Split level branch paths m p q r t
      found vw yz p q r t ep eq er et =
          subst (λ z. Split level branch paths m z q r t) (sym (ep ∙ ap (λ (c : List ℕ). get_or c 0 0) vw.2))
          (subst (λ z. Split level branch paths m vw.0 z r t) (sym (eq ∙ ap (λ (c : List ℕ). get_or c 1 0) vw.2))
          (subst (λ z. Split level branch paths m vw.0 vw.1 z t) (sym (er ∙ ap (λ (c : List ℕ). get_or c 0 0) yz.2))
          (subst (λ z. Split level branch paths m vw.0 vw.1 yz.0 z) (sym (et ∙ ap (λ (c : List ℕ). get_or c 1 0) yz.2))
          (lift-four level.graph (contraction level) level.edge level.x level.y (slice_index level.kept.items) (contracted_vertex level.x level.y) k.graph (level-graph level k) (level-contraction level k)
          (with_number level.y) (with-in level k) (λ v l. with-is level.x level.y v) branch paths s m vw.0 vw.1 yz.0 yz.1 i a (sym f ∙ vw.2) (sym e ∙ yz.2)))))
