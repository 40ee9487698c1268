-- Marks and labels along a path.
use Rattle.std.proofs.Common.{◌≡◌, ◌∙◌, ℕ, ◌+◌, ◌*◌, ◌/◌, ◌<◌, inl, inr, Bool, true, false, ◌||◌, ◌==◌, cond, List, [], ◌∷◌, length, take, drop, slice_index, refl, sym, ap, subst, arith}
use Rattle.std.proofs.Math.ListN.{set}
use Rattle.std.proofs.Math.Bool.{or-true, or-false, or_assoc}
use Rattle.std.proofs.lemmas.Bool.{cases_eq, eq-eqb, ne_eqb}
use Rattle.std.proofs.lemmas.List.{take_more, get_or-set_same, get_or-set_other, length-set}
use Rattle.permutations.specs.Members.{is_member}
use Rattle.permutations.proofs.Members.{member-append}
use Rattle.multigraph.specs.Graph.{Multigraph, other_end}
use Rattle.multigraph.specs.Marks.{is_marked}
use Rattle.graph_theory.specs.Path.{walk_vertices}
use Rattle.graph_theory.proofs.Walks.{first-met}
use Rattle.faces.proofs.Walk.{marked-set}
use Rattle.path_rotation.proofs.Threads.{rest-from}

-- a member of a list that one number was appended to
member-last : (x : ℕ) (l : List ℕ) (i : ℕ) → i < length l → is_member x (take (i + 1) l) ≡ (is_member x (take i l) || (slice_index l i == x))
member-last x l i b = ap (is_member x) (take_more l i 0 b) ∙ member-append x (take i l) (slice_index l i ∷ []) ∙ ap (λ (t : Bool). is_member x (take i l) || t) (or-false (slice_index l i == x))

-- one more number marked
pub marks-more : (old marks : List Bool) (l : List ℕ) (i : ℕ) → i < length l → slice_index l i < length marks → ((x : ℕ) → is_marked marks x ≡ (is_marked old x || is_member x (take i l)))
    → (x : ℕ) → is_marked (set marks (slice_index l i) true) x ≡ (is_marked old x || is_member x (take (i + 1) l))
marks-more old marks l i b w h x =
    marked-set marks (slice_index l i) x w ∙ ap (λ (t : Bool). t || (slice_index l i == x)) (h x) ∙ or_assoc (is_marked old x) (is_member x (take i l)) (slice_index l i == x)
    ∙ ap (λ (t : Bool). is_marked old x || t) (sym (member-last x l i b))

-- the first vertex of a walk marked
pub met-begin : (g : Multigraph) (old : List Bool) (x : ℕ) (path : List ℕ) → x < length old
    → (v : ℕ) → (is_marked (set old x true) v || is_member v (walk_vertices g x path)) ≡ (is_marked old v || is_member v (walk_vertices g x path))
met-begin g old x path w v = elim (cases_eq x v) [
  | inl e ↦
      let here : is_member v (walk_vertices g x path) ≡ true = subst (λ (z : ℕ). is_member z (walk_vertices g x path) ≡ true) e (first-met g x path) in
      ap (λ (t : Bool). is_marked (set old x true) v || t) here ∙ or-true (is_marked (set old x true) v) ∙ sym (ap (λ (t : Bool). is_marked old v || t) here ∙ or-true (is_marked old v))
  | inr n ↦ ap (λ (t : Bool). t || is_member v (walk_vertices g x path)) (marked-set old x v w ∙ ap (λ (t : Bool). is_marked old v || t) (ne_eqb x v n) ∙ or-false (is_marked old v))
]

-- one more vertex of a walk marked: before it the vertex where the walk stands was
pub met-more : (g : Multigraph) (marks : List Bool) (at : ℕ) (path : List ℕ) (i : ℕ) → i < length path → other_end g (slice_index path i) at < length marks → is_marked marks at ≡ true
    → (v : ℕ) → (is_marked (set marks (other_end g (slice_index path i) at) true) v || is_member v (walk_vertices g (other_end g (slice_index path i) at) (drop (i + 1) path)))
    ≡ (is_marked marks v || is_member v (walk_vertices g at (drop i path)))
met-more g marks at path i b w on v =
    met-begin g marks next (drop (i + 1) path) w v ∙ sym (ap (λ (es : List ℕ). is_marked marks v || is_member v (walk_vertices g at es)) (rest-from path i b) ∙ same)
  where
    next : ℕ
    next = other_end g (slice_index path i) at

    same : (is_marked marks v || ((at == v) || is_member v (walk_vertices g (other_end g (slice_index path i) at) (drop (i + 1) path)))) ≡ (is_marked marks v || is_member v (walk_vertices g (other_end g (slice_index path i) at) (drop (i + 1) path)))
    same = elim (cases_eq at v) [
      | inl e ↦ let m : is_marked marks v ≡ true = subst (λ (z : ℕ). is_marked marks z ≡ true) e on in rw m refl
      | inr n ↦ ap (λ (t : Bool). is_marked marks v || (t || is_member v (walk_vertices g next (drop (i + 1) path)))) (ne_eqb at v n)
    ]

-- the vertex is marked then
pub met-here : (marks : List Bool) (x : ℕ) → x < length marks → is_marked (set marks x true) x ≡ true
met-here marks x w = get_or-set_same marks x true false w

-- at the end of a walk nothing but marked vertices is left
pub met-end : (g : Multigraph) (marks : List Bool) (at : ℕ) (rest : List ℕ) → rest ≡ [] → is_marked marks at ≡ true → (v : ℕ) → is_marked marks v ≡ (is_marked marks v || is_member v (walk_vertices g at rest))
met-end g marks at rest none on v = elim (cases_eq at v) [
  | inl e ↦ let m : is_marked marks v ≡ true = subst (λ (z : ℕ). is_marked marks z ≡ true) e on in rw m refl
  | inr n ↦ sym (ap (λ (es : List ℕ). is_marked marks v || is_member v (walk_vertices g at es)) none ∙ ap (λ (t : Bool). is_marked marks v || (t || false)) (ne_eqb at v n) ∙ or-false (is_marked marks v))
]

-- the darts of one more edge with the label
pub paint-more : (old label : List ℕ) (path : List ℕ) (i d face : ℕ) → i < length path → d ≡ 2 * slice_index path i → d + 1 < length label
    → ((x : ℕ) → x < length label → slice_index label x ≡ cond (is_member (x / 2) (take i path)) face (slice_index old x))
    → (x : ℕ) → x < length label → slice_index (set (set label d face) (d + 1) face) x ≡ cond (is_member (x / 2) (take (i + 1) path)) face (slice_index old x)
paint-more old label path i d face b de w h x l = elim (cases_eq x (d + 1)) [
  | inl e ↦ subst (λ (z : ℕ). slice_index (set (set label d face) (d + 1) face) z ≡ cond (is_member (z / 2) (take (i + 1) path)) face (slice_index old z)) (sym e)
      (get_or-set_same (set label d face) (d + 1) face 0 (omega (arith, length-set label d face, w)) ∙ sym (inside (d + 1) (omega arith)))
  | inr n ↦ get_or-set_other (set label d face) (d + 1) x face 0 n ∙ elim (cases_eq x d) [
    | inl e ↦ subst (λ (z : ℕ). slice_index (set label d face) z ≡ cond (is_member (z / 2) (take (i + 1) path)) face (slice_index old z)) (sym e)
        (get_or-set_same label d face 0 (omega (arith, w)) ∙ sym (inside d (omega arith)))
    | inr m ↦ get_or-set_other label d x face 0 m ∙ h x l ∙ sym (ap (λ (t : Bool). cond t face (slice_index old x)) (outside (omega arith)))
  ]
]
  where
    inside : (z : ℕ) → z / 2 ≡ slice_index path i → cond (is_member (z / 2) (take (i + 1) path)) face (slice_index old z) ≡ face
    inside z e = ap (λ (t : Bool). cond t face (slice_index old z)) (member-last (z / 2) path i b ∙ ap (λ (t : Bool). is_member (z / 2) (take i path) || t) (eq-eqb (slice_index path i) (z / 2) (sym e)) ∙ or-true (is_member (z / 2) (take i path)))

    outside : (slice_index path i ≡ x / 2 → ⊥) → is_member (x / 2) (take (i + 1) path) ≡ is_member (x / 2) (take i path)
    outside k = member-last (x / 2) path i b ∙ ap (λ (t : Bool). is_member (x / 2) (take i path) || t) (ne_eqb (slice_index path i) (x / 2) k) ∙ or-false (is_member (x / 2) (take i path))
