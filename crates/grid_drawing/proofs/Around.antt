-- The edges around a vertex, one after the other: how often they fall back.
use Rattle.std.proofs.Common.{◌≡◌, ℕ, ◌<◌, ◌≤◌, ◌+◌, ◌↔◌, inl, inr, Bool, true, false, cond, List, [], ◌∷◌, ◌++◌, map, refl, sym, ap, ap₂, ◌∙◌, subst, arith}
use Rattle.std.proofs.lemmas.Bool.{eq-eqb, cases_Bool, false≢true}
use Rattle.std.proofs.lemmas.List.{map-append}
use Rattle.permutations.specs.Members.{is_member}
use Rattle.permutations.proofs.Members.{member-append_right}
use Rattle.multigraph.specs.Graph.{Multigraph, edge_count, is_end, other_end, incident_edges}
use Rattle.rotations.specs.Rotation.{order_at, IsRotationSystem}
use Rattle.plane_points.specs.Turning.{comes_before, falls_around}
use Rattle.plane_points.proofs.Falls.{steps, last_of, fall, open-falls, steps-append, last-append}
use Rattle.faces.proofs.DartLemmas.{member-incident}
use Rattle.rotations.proofs.Membership.{member-edge, member-end}
use Rattle.grid_drawing.specs.Drawing.{point_at, points_around}

-- a member of the order around a vertex is an edge at it
around-edge : (g : Multigraph) (r : List (List ℕ)) (v e : ℕ) → IsRotationSystem g r → v < g.vertex_count → is_member e (order_at r v) ≡ true → (e < edge_count g) × (is_end g v e ≡ true)
around-edge g r v e s l m = let i : is_member e (incident_edges g v) ≡ true = member-incident g r v e s l m in (member-edge g v e i, member-end g v e i)

pub first-edge : (g : Multigraph) (r : List (List ℕ)) (v e : ℕ) (rest : List ℕ) → IsRotationSystem g r → v < g.vertex_count → order_at r v ≡ e ∷ rest → (e < edge_count g) × (is_end g v e ≡ true)
first-edge g r v e rest s l at = around-edge g r v e s l (subst (λ (k : List ℕ). is_member e k ≡ true) (sym at) (rw (eq-eqb e e refl)))

pub later-edge : (g : Multigraph) (r : List (List ℕ)) (v first e : ℕ) (a b rest : List ℕ) → IsRotationSystem g r → v < g.vertex_count → order_at r v ≡ first ∷ rest → a ++ e ∷ b ≡ rest → (e < edge_count g) × (is_end g v e ≡ true)
later-edge g r v first e a b rest s l at cut = around-edge g r v e s l (subst (λ (k : List ℕ). is_member e k ≡ true) (sym (at ∙ ap (λ (k : List ℕ). first ∷ k) (sym cut))) (member-append_right e (first ∷ a) (e ∷ b) (rw (eq-eqb e e refl))))

-- one edge more
pub more-steps : (c p : ℕ × ℕ) (f : ℕ → ℕ × ℕ) (l : List ℕ) (e : ℕ) (t : Bool) → comes_before c (last_of p (map f l)) (f e) ≡ t → steps c p (map f (l ++ e ∷ [])) ≡ steps c p (map f l) + cond t 0 1
more-steps c p f l e t h = ap (steps c p) (map-append f l (e ∷ [])) ∙ (steps-append c p (f e) (map f l) [] ∙ rw h (omega arith))

pub more-last : (p : ℕ × ℕ) (f : ℕ → ℕ × ℕ) (l : List ℕ) (e : ℕ) → f e ≡ last_of p (map f (l ++ e ∷ []))
more-last p f l e = sym (ap (last_of p) (map-append f l (e ∷ [])) ∙ last-append p (f e) (map f l) [])

-- all of them
pub around-falls : (g : Multigraph) (r : List (List ℕ)) (points : List (ℕ × ℕ)) (v first : ℕ) (rest : List ℕ) → order_at r v ≡ first ∷ rest
    → falls_around (point_at points v) (points_around g r points v)
    ≡ steps (point_at points v) (point_at points (other_end g first v)) (map (λ e. point_at points (other_end g e v)) rest)
    + fall (point_at points v) (last_of (point_at points (other_end g first v)) (map (λ e. point_at points (other_end g e v)) rest)) (point_at points (other_end g first v))
around-falls g r points v first rest at = ap (λ (k : List ℕ). falls_around (point_at points v) (map (λ e. point_at points (other_end g e v)) k)) at
    ∙ open-falls (point_at points v) (point_at points (other_end g first v)) (point_at points (other_end g first v)) (map (λ e. point_at points (other_end g e v)) rest)

-- a second one falls back before the end
pub falls-twice : (c p : ℕ × ℕ) (f : ℕ → ℕ × ℕ) (a : List ℕ) (e : ℕ) (b : List ℕ) → steps c p (map f a) ≡ 1 → comes_before c (last_of p (map f a)) (f e) ≡ false → 2 ≤ steps c p (map f (a ++ e ∷ b))
falls-twice c p f a e b h k = subst (λ (l : List (ℕ × ℕ)). 2 ≤ steps c p l) (sym (map-append f a (e ∷ b))) (omega (arith, steps-append c p (f e) (map f a) (map f b), h, one))
  where
    one : fall c (last_of p (map f a)) (f e) ≡ 1
    one = rw k

-- what the loop over the edges after the first one finds out: a second one falls back
pub falls-more : (g : Multigraph) (r : List (List ℕ)) (points : List (ℕ × ℕ)) (v first : ℕ) (p b at : ℕ × ℕ) (rest l : List ℕ) (e : ℕ) (later : List ℕ) (fell t : Bool) → order_at r v ≡ first ∷ rest → l ++ e ∷ later ≡ rest
    → p ≡ point_at points (other_end g first v) → at ≡ point_at points (other_end g e v)
    → steps (point_at points v) p (map (λ e. point_at points (other_end g e v)) l) ≡ cond fell 1 0 → b ≡ last_of p (map (λ e. point_at points (other_end g e v)) l)
    → t ≡ comes_before (point_at points v) b at → fell ≡ true → t ≡ false → falls_around (point_at points v) (points_around g r points v) ≤ 1 → ⊥
falls-more g r points v first p b at rest l e later fell t order cut begins is h k m one two few = omega (arith, few, around-falls g r points v first rest order, twice)
  where
    sum : steps (point_at points v) p (map (λ e. point_at points (other_end g e v)) l) ≡ 1
    sum = h ∙ ap (λ (u : Bool). cond u 1 0) one

    falls : comes_before (point_at points v) (last_of p (map (λ e. point_at points (other_end g e v)) l)) (point_at points (other_end g e v)) ≡ false
    falls = subst (λ (z : ℕ × ℕ). comes_before (point_at points v) (last_of p (map (λ e. point_at points (other_end g e v)) l)) z ≡ false) is (subst (λ (z : ℕ × ℕ). comes_before (point_at points v) z at ≡ false) k (sym m ∙ two))

    twice : 2 ≤ steps (point_at points v) (point_at points (other_end g first v)) (map (λ e. point_at points (other_end g e v)) rest)
    twice = subst (λ (q : ℕ × ℕ). 2 ≤ steps (point_at points v) q (map (λ e. point_at points (other_end g e v)) rest)) begins
        (subst (λ (t : List ℕ). 2 ≤ steps (point_at points v) p (map (λ e. point_at points (other_end g e v)) t)) cut (falls-twice (point_at points v) p (λ e. point_at points (other_end g e v)) l e later sum falls))

-- one more edge, which does not fall back or is the first that does
pub one-more : (c p b at : ℕ × ℕ) (f : ℕ → ℕ × ℕ) (l : List ℕ) (e : ℕ) (t : Bool) → b ≡ last_of p (map f l) → at ≡ f e → t ≡ comes_before c b at
    → (steps c p (map f (l ++ e ∷ [])) ≡ steps c p (map f l) + cond t 0 1) × (at ≡ last_of p (map f (l ++ e ∷ [])))
one-more c p b at f l e t k is m = (more-steps c p f l e t (sym (m ∙ ap₂ (comes_before c) k is)), is ∙ more-last p f l e)

pub still : (x y : ℕ) (fell t : Bool) → x ≡ cond fell 1 0 → t ≡ true → y ≡ x + cond t 0 1 → y ≡ cond fell 1 0
still x y fell t h k e = e ∙ (ap (λ (u : Bool). x + cond u 0 1) k ∙ omega (arith, h))

pub now-one : (x y : ℕ) (fell t : Bool) → x ≡ cond fell 1 0 → fell ≡ false → t ≡ false → y ≡ x + cond t 0 1 → y ≡ 1
now-one x y fell t h n k e = e ∙ (ap (λ (u : Bool). x + cond u 0 1) k ∙ omega (arith, h ∙ ap (λ (u : Bool). cond u 1 0) n))

-- at the end
pub falls-told : (g : Multigraph) (r : List (List ℕ)) (points : List (ℕ × ℕ)) (v first : ℕ) (p b : ℕ × ℕ) (rest l : List ℕ) (fell : Bool) → order_at r v ≡ first ∷ rest → l ≡ rest → p ≡ point_at points (other_end g first v)
    → steps (point_at points v) p (map (λ e. point_at points (other_end g e v)) l) ≡ cond fell 1 0
    → b ≡ last_of p (map (λ e. point_at points (other_end g e v)) l)
    → falls_around (point_at points v) (points_around g r points v) ≡ cond fell 1 0 + cond (comes_before (point_at points v) b p) 0 1
falls-told g r points v first p b rest l fell order all begins h k = around-falls g r points v first rest order
    ∙ ap₂ ◌+◌ (subst (λ (q : ℕ × ℕ). steps (point_at points v) q (map (λ e. point_at points (other_end g e v)) rest) ≡ cond fell 1 0) begins (subst (λ (t : List ℕ). steps (point_at points v) p (map (λ e. point_at points (other_end g e v)) t) ≡ cond fell 1 0) all h))
    (ap₂ (fall (point_at points v)) (sym (subst (λ (q : ℕ × ℕ). b ≡ last_of q (map (λ e. point_at points (other_end g e v)) rest)) begins (subst (λ (t : List ℕ). b ≡ last_of p (map (λ e. point_at points (other_end g e v)) t)) all k))) (sym begins))

pub none-fell : (n : ℕ) (fell t : Bool) → fell ≡ false → n ≡ cond fell 1 0 + cond t 0 1 → n ≤ 1
none-fell n fell t h e = elim (cases_Bool t) [ inl k ↦ omega (arith, e ∙ ap₂ (λ (x y : Bool). cond x 1 0 + cond y 0 1) h k) | inr k ↦ omega (arith, e ∙ ap₂ (λ (x y : Bool). cond x 1 0 + cond y 0 1) h k) ]

pub one-fell : (n : ℕ) (fell t u : Bool) → fell ≡ true → u ≡ t → n ≡ cond fell 1 0 + cond t 0 1 → (u ≡ true) ↔ (n ≤ 1)
one-fell n fell t u h s e = elim (cases_Bool t) [
  | inl k ↦ ((λ _. omega (arith, e ∙ ap₂ (λ (x y : Bool). cond x 1 0 + cond y 0 1) h k)), (λ _. s ∙ k))
  | inr k ↦ ((λ i. absurd (false≢true (sym (s ∙ k) ∙ i))), (λ l. absurd (omega (arith, l, e ∙ ap₂ (λ (x y : Bool). cond x 1 0 + cond y 0 1) h k))))
]
