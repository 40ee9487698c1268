-- Turn by turn the graph stays a planar block, and gains edges until there are enough.
use Rattle.std.proofs.Common.{◌≡◌, ℕ, zero, suc, ◌+◌, ◌/◌, ◌<◌, ◌≤◌, inl, inr, Bool, true, false, cond, ◌==◌, [], ◌∷◌, slice_set, refl, sym, ap, ◌∙◌, subst, arith}
use Rattle.std.proofs.lemmas.Bool.{lt-ltb, le-ltb, cases_lt}
use Rattle.std.proofs.lemmas.Nat.{mod_below}
use Rattle.std.proofs.lemmas.List.{length-append, length-set}
use Rattle.multigraph.specs.Graph.{Multigraph, edge_count, ends_of}
use Rattle.made_graph.specs.Made.{tetrahedron, subdivided, doubled, with_path, with_tetrahedron, grown, drawn, edge_drawn, operation_drawn, turned, made_within}
use Rattle.made_graph.specs.Laws.{IsPlanarBlock, MadeIsPlanarBlock, MadeIsOfSize}
use Rattle.made_graph.proofs.PlanarBlocks.{subdividing-keeps, doubling-keeps, path-keeps, tetrahedron-keeps}
use Rattle.made_graph.proofs.Base.{tetrahedron-planar}

-- what holds of the four operations holds of the one that is drawn
pub grown-cases : (P : Multigraph → Type 0) (g : Multigraph) (e operation : ℕ) → P (subdivided g e) → P (doubled g e) → P (with_path g e) → P (with_tetrahedron g e) → P (grown g e operation)
grown-cases P g e operation s d p t = choose (operation == 0) (operation == 1) (operation == 2)
  where
    choose : (a b c : Bool) → P (cond a (subdivided g e) (cond b (doubled g e) (cond c (with_path g e) (with_tetrahedron g e))))
    choose true b c = s
    choose false true c = d
    choose false false true = p
    choose false false false = t

-- how much a graph grew: at least by one edge, at most by five, and by no more vertices than edges, at most by two
pub record IsMore (g h : Multigraph) : Type 0 where
  pub some : edge_count g + 1 ≤ edge_count h
  pub five : edge_count h ≤ edge_count g + 5
  pub vertices : h.vertex_count + edge_count g ≤ edge_count h + g.vertex_count
  pub two : h.vertex_count ≤ g.vertex_count + 2

pub grown-more : (g : Multigraph) (e operation : ℕ) → IsMore g (grown g e operation)
grown-more g e operation = grown-cases (IsMore g) g e operation
    (let l = length-append (slice_set g.ends e ((ends_of g e).0, g.vertex_count)) ((g.vertex_count, (ends_of g e).1) ∷ []) in let k = length-set g.ends e ((ends_of g e).0, g.vertex_count) in
    record { some = omega (arith, l, k); five = omega (arith, l, k); vertices = omega (arith, l, k); two = omega arith })
    (let l = length-append g.ends (ends_of g e ∷ []) in record { some = omega (arith, l); five = omega (arith, l); vertices = omega (arith, l); two = omega arith })
    (let l = length-append g.ends (((ends_of g e).0, g.vertex_count) ∷ (g.vertex_count, (ends_of g e).1) ∷ []) in record { some = omega (arith, l); five = omega (arith, l); vertices = omega (arith, l); two = omega arith })
    (let l = length-append g.ends (((ends_of g e).0, g.vertex_count) ∷ ((ends_of g e).0, g.vertex_count + 1) ∷ ((ends_of g e).1, g.vertex_count) ∷ ((ends_of g e).1, g.vertex_count + 1) ∷ (g.vertex_count, g.vertex_count + 1) ∷ []) in
    record { some = omega (arith, l); five = omega (arith, l); vertices = omega (arith, l); two = omega arith })

-- what stays true of the graph
pub record IsGrowing (n : ℕ) (g : Multigraph) : Type 0 where
  pub planar : IsPlanarBlock g
  pub six : 6 ≤ edge_count g
  pub few : edge_count g ≤ n + 4
  pub fewer : g.vertex_count + 2 ≤ edge_count g

-- the edge that is drawn is one of the graph
pub edge-drawn : (x m : ℕ) → 0 < m → edge_drawn x m < m
edge-drawn x m l = mod_below (x / 4294967296) m l

pub turned-more : (g : Multigraph) (x : ℕ) → IsMore g (turned g x)
turned-more g x = grown-more g (edge_drawn (drawn x) (edge_count g)) (operation_drawn (drawn (drawn x)))

-- a turn keeps it
pub turned-growing : (n : ℕ) (g : Multigraph) (x : ℕ) → edge_count g < n → IsGrowing n g → IsGrowing n (turned g x)
turned-growing n g x l t =
    let f = t.fewer in
    let s = t.six in
    let more = turned-more g x in
    let a = more.some in
    let b = more.five in
    let c = more.vertices in
    let e : ℕ = edge_drawn (drawn x) (edge_count g) in
    let le : e < edge_count g = edge-drawn (drawn x) (edge_count g) (omega (arith, s)) in
    let two : 2 ≤ edge_count g = omega (arith, s) in
    record {
      planar = grown-cases IsPlanarBlock g e (operation_drawn (drawn (drawn x))) (subdividing-keeps g t.planar two e le) (doubling-keeps g t.planar two e le) (path-keeps g t.planar two e le) (tetrahedron-keeps g t.planar two e le);
      six = omega (arith, s, a);
      few = omega (arith, l, b);
      fewer = omega (arith, f, c);
    }

-- a turn is made while edges are missing
pub within-more : (turns n : ℕ) (g : Multigraph) (x : ℕ) → edge_count g < n → made_within (suc turns) n g x ≡ made_within turns n (turned g x) (drawn (drawn x))
within-more turns n g x l = ap (λ t. cond t (made_within turns n (turned g x) (drawn (drawn x))) g) (lt-ltb (edge_count g) n l)

pub within-over : (turns n : ℕ) (g : Multigraph) (x : ℕ) → n ≤ edge_count g → made_within turns n g x ≡ g
within-over zero n g x l = refl
within-over (suc turns) n g x l = ap (λ t. cond t (made_within turns n (turned g x) (drawn (drawn x))) g) (le-ltb (edge_count g) n l)

-- turns keep it
within-growing : (turns n : ℕ) (g : Multigraph) (x : ℕ) → IsGrowing n g → IsGrowing n (made_within turns n g x)
within-growing zero n g x t = t
within-growing (suc turns) n g x t = elim (cases_lt (edge_count g) n) [
  | inl l ↦ subst (IsGrowing n) (sym (within-more turns n g x l)) (within-growing turns n (turned g x) (drawn (drawn x)) (turned-growing n g x l t))
  | inr l ↦ subst (IsGrowing n) (sym (within-over (suc turns) n g x l)) t
]

-- with turns enough, the edges suffice
within-enough : (turns n : ℕ) (g : Multigraph) (x : ℕ) → n ≤ turns + edge_count g → n ≤ edge_count (made_within turns n g x)
within-enough zero n g x l = omega (arith, l)
within-enough (suc turns) n g x l = elim (cases_lt (edge_count g) n) [
  | inl k ↦ let a = (turned-more g x).some in subst (λ h. n ≤ edge_count h) (sym (within-more turns n g x k)) (within-enough turns n (turned g x) (drawn (drawn x)) (omega (arith, l, a)))
  | inr k ↦ subst (λ h. n ≤ edge_count h) (sym (within-over (suc turns) n g x k)) k
]

-- and more turns change nothing
pub within-same : (turns more n : ℕ) (g : Multigraph) (x : ℕ) → n ≤ turns + edge_count g → n ≤ more + edge_count g → made_within turns n g x ≡ made_within more n g x
within-same zero more n g x l k = sym (within-over more n g x (omega (arith, l)))
within-same (suc turns) zero n g x l k = within-over (suc turns) n g x (omega (arith, k))
within-same (suc turns) (suc more) n g x l k = elim (cases_lt (edge_count g) n) [
  | inl i ↦ let a = (turned-more g x).some in
      within-more turns n g x i ∙ within-same turns more n (turned g x) (drawn (drawn x)) (omega (arith, l, a)) (omega (arith, k, a)) ∙ sym (within-more more n g x i)
  | inr i ↦ within-over (suc turns) n g x i ∙ sym (within-over (suc more) n g x i)
]

-- a turn with n turns left leaves n
pub made-turn : (n : ℕ) (g : Multigraph) (x : ℕ) → edge_count g < n → made_within n n g x ≡ made_within n n (turned g x) (drawn (drawn x))
made-turn zero g x l = absurd (omega (arith, l))
made-turn (suc k) g x l =
    let a = (turned-more g x).some in
    within-more k (suc k) g x l ∙ within-same k (suc k) (suc k) (turned g x) (drawn (drawn x)) (omega (arith, a)) (omega (arith, a))

-- the start
pub tetrahedron-growing : (n : ℕ) → 6 ≤ n → IsGrowing n tetrahedron
tetrahedron-growing n l = record { planar = tetrahedron-planar; six = omega arith; few = omega (arith, l); fewer = omega arith }

-- made graphs are planar blocks
pub made-planar : MadeIsPlanarBlock
made-planar n seed l = (within-growing n n tetrahedron seed (tetrahedron-growing n l)).planar

-- of the size that was asked for
pub made-size : MadeIsOfSize
made-size n seed l = let t = within-growing n n tetrahedron seed (tetrahedron-growing n l) in record { edges_reach = within-enough n n tetrahedron seed (omega arith); edges_end = t.few; vertices_fewer = t.fewer }
