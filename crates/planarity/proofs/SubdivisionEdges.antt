-- The edges of a path at one of its vertices: one at each end, two at a vertex inside.
use Rattle.std.proofs.Common.{◌≡◌, ◌≢◌, ℕ, ◌⊎◌, inl, inr, true, false, List, [], ◌∷◌, ◌++◌, sym, ap, ◌∙◌, subst}
use Rattle.std.proofs.lemmas.Bool.{both_ways, true≢false}
use Rattle.permutations.specs.Members.{is_member, is_distinct}
use Rattle.permutations.specs.Cyclic.{first_or, successor}
use Rattle.permutations.proofs.Members.{member-tail, member-cases, member-append_right, member-append_cases, no_member-head, distinct-head, distinct-append_right, distinct-append_apart, cut_at, CutAt}
use Rattle.permutations.proofs.Successor.{successor-cut}
use Rattle.multigraph.specs.Graph.{Multigraph, is_end, other_end}
use Rattle.graph_theory.specs.Path.{walk_end, walk_starts, walk_vertices, IsPath}
use Rattle.graph_theory.proofs.Walks.{vertices-append, walk-left, edge-met, first-met, last-met, met-cases}
use Rattle.graph_theory.proofs.Paths.{path-back, path-edges_distinct}

-- in a list without repetition a member does not follow itself, where there is another member
pub successor-moves : (l : List ℕ) (x y : ℕ) → is_distinct l ≡ true → is_member x l ≡ true → is_member y l ≡ true → y ≢ x → successor l x ≢ x
successor-moves l x y d mx my n s = elim (member-append_cases y c.front (x ∷ c.back) (subst (λ k. is_member y k ≡ true) c.is my)) [
  | inl a ↦ before c.front c.back c.first apart a at
  | inr a ↦ elim (member-cases y x c.back a) [ inl e ↦ n (sym e) | inr o ↦ behind c.front c.back apart o at ]
]
  where
    c : CutAt x l
    c = cut_at x l mx

    -- x stands there once
    apart : is_member x c.back ≡ false
    apart = distinct-head x c.back (distinct-append_right c.front (x ∷ c.back) (subst (λ k. is_distinct k ≡ true) c.is d))

    at : first_or (first_or x c.front) c.back ≡ x
    at = sym (successor-cut c.front x c.back c.first) ∙ ap (λ k. successor k x) (sym c.is) ∙ s

    behind : (a b : List ℕ) → is_member x b ≡ false → is_member y b ≡ true → first_or (first_or x a) b ≡ x → ⊥
    behind a [] h m e = true≢false (sym m)
    behind a (z ∷ b) h m e = no_member-head x z b h e

    before : (a b : List ℕ) → is_member x a ≡ false → is_member x b ≡ false → is_member y a ≡ true → first_or (first_or x a) b ≡ x → ⊥
    before [] b k h m e = true≢false (sym m)
    before (w ∷ a) [] k h m e = no_member-head x w a k e
    before (w ∷ a) (z ∷ b) k h m e = no_member-head x z b h e

-- the edge of a path at its first vertex is its first edge
pub edge-first : (g : Multigraph) (x e : ℕ) (es : List ℕ) (y f : ℕ) → IsPath g x (e ∷ es) y → is_member f (e ∷ es) ≡ true → is_end g x f ≡ true → f ≡ e
edge-first g x e es y f p m i = elim (member-cases f e es m) [
  | inl q ↦ sym q
  | inr k ↦ absurd (both_ways (is_member x (walk_vertices g (other_end g e x) es))
      (distinct-head x (walk_vertices g (other_end g e x) es) p.vertices)
      (edge-met g (other_end g e x) es p.walk.1 f x k i))
]

-- a path along `front`, then e, then `after`, and the vertex w where e leads
module _ (g : Multigraph) (x : ℕ) (front : List ℕ) (e : ℕ) (after : List ℕ) (y : ℕ) (p : IsPath g x (front ++ e ∷ after) y) where
  -- the vertex where e is entered
  abbrev entered : ℕ
  entered = walk_end g x front

  -- the vertex where e leads
  abbrev left : ℕ
  left = other_end g e (walk_end g x front)

  rest-path : IsPath g entered (e ∷ after) y
  rest-path = path-back g x front (e ∷ after) y p

  vertices-cut : is_distinct (walk_starts g x front ++ (entered ∷ walk_vertices g left after)) ≡ true
  vertices-cut = subst (λ l. is_distinct l ≡ true) (vertices-append g x front (e ∷ after)) p.vertices

  -- no edge before e has this vertex as an end
  not-before : (f : ℕ) → is_member f front ≡ true → is_end g left f ≡ true → ⊥
  not-before f m i = elim (met-cases g x front left (edge-met g x front (walk-left g x front (e ∷ after) p.walk) f left m i)) [
    | inl a ↦ both_ways (is_member left (entered ∷ walk_vertices g left after))
        (distinct-append_apart (walk_starts g x front) (entered ∷ walk_vertices g left after) vertices-cut left a)
        (member-tail left entered (walk_vertices g left after) (first-met g left after))
    | inr q ↦ both_ways (is_member entered (walk_vertices g left after)) (distinct-head entered (walk_vertices g left after) rest-path.vertices)
        (subst (λ z. is_member z (walk_vertices g left after) ≡ true) q (first-met g left after))
  ]

  -- the vertex where e leads is not the first one
  pub left-start : left ≢ x
  left-start q = start front vertices-cut q
    where
      start : (k : List ℕ) → is_distinct (walk_starts g x k ++ (walk_end g x k ∷ walk_vertices g left after)) ≡ true → left ≡ x → ⊥
      start [] d e = both_ways (is_member x (walk_vertices g left after)) (distinct-head x (walk_vertices g left after) d) (subst (λ z. is_member z (walk_vertices g left after) ≡ true) e (first-met g left after))
      start (h ∷ hs) d e = both_ways (is_member x (walk_starts g (other_end g h x) hs ++ (walk_end g (other_end g h x) hs ∷ walk_vertices g left after)))
          (distinct-head x (walk_starts g (other_end g h x) hs ++ (walk_end g (other_end g h x) hs ∷ walk_vertices g left after)) d)
          (member-append_right x (walk_starts g (other_end g h x) hs) (walk_end g (other_end g h x) hs ∷ walk_vertices g left after)
          (member-tail x (walk_end g (other_end g h x) hs) (walk_vertices g left after) (subst (λ z. is_member z (walk_vertices g left after) ≡ true) e (first-met g left after))))

  -- it is met
  pub left-met : is_member left (walk_vertices g x (front ++ e ∷ after)) ≡ true
  left-met = subst (λ l. is_member left l ≡ true) (sym (vertices-append g x front (e ∷ after)))
      (member-append_right left (walk_starts g x front) (entered ∷ walk_vertices g left after) (member-tail left entered (walk_vertices g left after) (first-met g left after)))

  -- an edge of the path at the vertex where e leads is e or one after it
  pub edge-near : (f : ℕ) → is_member f (front ++ e ∷ after) ≡ true → is_end g left f ≡ true → (f ≡ e) ⊎ (is_member f after ≡ true)
  edge-near f m i = elim (member-append_cases f front (e ∷ after) m) [
    | inl a ↦ absurd (not-before f a i)
    | inr k ↦ elim (member-cases f e after k) [ inl q ↦ inl (sym q) | inr o ↦ inr o ]
  ]

  -- the edges after e differ from it
  pub edge-after : (f : ℕ) → is_member f after ≡ true → f ≢ e
  edge-after f m q = both_ways (is_member e after)
      (distinct-head e after (path-edges_distinct g entered (e ∷ after) rest-path.walk rest-path.vertices))
      (subst (λ z. is_member z after ≡ true) q m)

-- where h comes behind e, the edges of the path at the vertex between them are these two
pub edge-between : (g : Multigraph) (x : ℕ) (front : List ℕ) (e h : ℕ) (back : List ℕ) (y f : ℕ) → IsPath g x (front ++ e ∷ h ∷ back) y
    → is_member f (front ++ e ∷ h ∷ back) ≡ true → is_end g (other_end g e (walk_end g x front)) f ≡ true → f ≢ e → f ≡ h
edge-between g x front e h back y f p m i n = elim (edge-near g x front e (h ∷ back) y p f m i) [
  | inl q ↦ absurd (n q)
  | inr k ↦ edge-first g (other_end g e (walk_end g x front)) h back y f (path-back g (walk_end g x front) (e ∷ []) (h ∷ back) y (path-back g x front (e ∷ h ∷ back) y p)) k i
]

-- and it is not the last vertex
pub between-finish : (g : Multigraph) (x : ℕ) (front : List ℕ) (e h : ℕ) (back : List ℕ) (y : ℕ) → IsPath g x (front ++ e ∷ h ∷ back) y → other_end g e (walk_end g x front) ≢ y
between-finish g x front e h back y p q = both_ways (is_member w (walk_vertices g (other_end g h w) back))
    (distinct-head w (walk_vertices g (other_end g h w) back) rest.vertices)
    (subst (λ z. is_member z (walk_vertices g (other_end g h w) back) ≡ true) (rest.arrives ∙ sym q) (last-met g (other_end g h w) back))
  where
    w : ℕ
    w = other_end g e (walk_end g x front)

    rest : IsPath g w (h ∷ back) y
    rest = path-back g (walk_end g x front) (e ∷ []) (h ∷ back) y (path-back g x front (e ∷ h ∷ back) y p)
