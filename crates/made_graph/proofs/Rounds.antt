-- Short cycles, and cycles of a part of a graph.
use Rattle.std.proofs.Common.{◌≡◌, ◌≢◌, ℕ, ◌<◌, true, ◌==◌, ◌||◌, cond, List, [], ◌∷◌, refl, sym, ap, ◌∙◌, subst, arith}
use Rattle.permutations.specs.Members.{is_member, is_distinct}
use Rattle.permutations.proofs.Members.{member-head, member-tail, no_member-cons, distinct-cons, distinct-three, distinct-four}
use Rattle.multigraph.specs.Graph.{Multigraph, edge_count, ends_of, is_end, other_end}
use Rattle.multigraph.proofs.OtherEnd.{is_end-from_first, is_end-from_second, other_end-of_first, other_end-of_second}
use Rattle.graph_theory.specs.Path.{walk_end, walk_starts, IsWalk, IsCycle}

-- the edge leads from x to y
pub record Leads (g : Multigraph) (x e y : ℕ) : Type 0 where
  pub edge : e < edge_count g
  pub leaves : is_end g x e ≡ true
  pub arrives : other_end g e x ≡ y

-- from its first end to its second
pub leads-forth : (g : Multigraph) (e x y : ℕ) → e < edge_count g → ends_of g e ≡ (x, y) → Leads g x e y
leads-forth g e x y l h = record {
  edge = l;
  leaves = is_end-from_first g x e (ap (λ (p : ℕ × ℕ). p.0) h);
  arrives = other_end-of_first g e x (ap (λ (p : ℕ × ℕ). p.0) h) ∙ ap (λ (p : ℕ × ℕ). p.1) h;
}

-- and back, where these differ
pub leads-back : (g : Multigraph) (e x y : ℕ) → e < edge_count g → ends_of g e ≡ (x, y) → x ≢ y → Leads g y e x
leads-back g e x y l h n = record {
  edge = l;
  leaves = is_end-from_second g y e (ap (λ (p : ℕ × ℕ). p.1) h);
  arrives = other_end-of_second g e y (ap (λ (p : ℕ × ℕ). p.1) h) (λ i. n (sym (ap (λ (p : ℕ × ℕ). p.0) h) ∙ i ∙ ap (λ (p : ℕ × ℕ). p.1) h)) ∙ ap (λ (p : ℕ × ℕ). p.0) h;
}

-- a walk with one edge in front
pub go-walk : (g : Multigraph) (x e y : ℕ) (es : List ℕ) → Leads g x e y → IsWalk g y es → IsWalk g x (e ∷ es)
go-walk g x e y es s w = ((s.edge, s.leaves), subst (λ z. IsWalk g z es) (sym s.arrives) w)

-- where it leads
pub go-end : (g : Multigraph) (x e y : ℕ) (es : List ℕ) → Leads g x e y → walk_end g x (e ∷ es) ≡ walk_end g y es
go-end g x e y es s = ap (λ z. walk_end g z es) s.arrives

-- and what it passes
pub go-starts : (g : Multigraph) (x e y : ℕ) (es : List ℕ) → Leads g x e y → walk_starts g x (e ∷ es) ≡ x ∷ walk_starts g y es
go-starts g x e y es s = ap (λ z. x ∷ walk_starts g z es) s.arrives

-- two, three and four different numbers
two-distinct : (a b : ℕ) → a ≢ b → is_distinct (a ∷ b ∷ []) ≡ true
two-distinct a b n = distinct-cons a (b ∷ []) (no_member-cons a b [] (λ e. n (sym e)) refl) refl

-- two parallel edges
pub two-cycle : (g : Multigraph) (x e y f : ℕ) → Leads g x e y → Leads g y f x → x ≢ y → e ≢ f → IsCycle g x (e ∷ f ∷ [])
two-cycle g x e y f s t n o = record {
  walk = go-walk g x e y (f ∷ []) s (go-walk g y f x [] t tt);
  returns = go-end g x e y (f ∷ []) s ∙ go-end g y f x [] t;
  two = omega arith;
  edges = two-distinct e f o;
  vertices = subst (λ (l : List ℕ). is_distinct l ≡ true) (sym (go-starts g x e y (f ∷ []) s ∙ ap (λ (l : List ℕ). x ∷ l) (go-starts g y f x [] t))) (two-distinct x y n);
}

-- a triangle
pub three-cycle : (g : Multigraph) (x e y f z h : ℕ) → Leads g x e y → Leads g y f z → Leads g z h x → x ≢ y → x ≢ z → y ≢ z → e ≢ f → e ≢ h → f ≢ h → IsCycle g x (e ∷ f ∷ h ∷ [])
three-cycle g x e y f z h s t u n o p q r v = record {
  walk = go-walk g x e y (f ∷ h ∷ []) s (go-walk g y f z (h ∷ []) t (go-walk g z h x [] u tt));
  returns = go-end g x e y (f ∷ h ∷ []) s ∙ go-end g y f z (h ∷ []) t ∙ go-end g z h x [] u;
  two = omega arith;
  edges = distinct-three e f h q r v;
  vertices = subst (λ (l : List ℕ). is_distinct l ≡ true)
      (sym (go-starts g x e y (f ∷ h ∷ []) s ∙ ap (λ (l : List ℕ). x ∷ l) (go-starts g y f z (h ∷ []) t ∙ ap (λ (l : List ℕ). y ∷ l) (go-starts g z h x [] u)))) (distinct-three x y z n o p);
}

-- a cycle of four
pub four-cycle : (g : Multigraph) (x e y f z h w k : ℕ) → Leads g x e y → Leads g y f z → Leads g z h w → Leads g w k x → x ≢ y → x ≢ z → x ≢ w → y ≢ z → y ≢ w → z ≢ w
    → e ≢ f → e ≢ h → e ≢ k → f ≢ h → f ≢ k → h ≢ k → IsCycle g x (e ∷ f ∷ h ∷ k ∷ [])
four-cycle g x e y f z h w k s t u v n o p q r i a b c d j l = record {
  walk = go-walk g x e y (f ∷ h ∷ k ∷ []) s (go-walk g y f z (h ∷ k ∷ []) t (go-walk g z h w (k ∷ []) u (go-walk g w k x [] v tt)));
  returns = go-end g x e y (f ∷ h ∷ k ∷ []) s ∙ go-end g y f z (h ∷ k ∷ []) t ∙ go-end g z h w (k ∷ []) u ∙ go-end g w k x [] v;
  two = omega arith;
  edges = distinct-four e f h k a b c d j l;
  vertices = subst (λ (l : List ℕ). is_distinct l ≡ true)
      (sym (go-starts g x e y (f ∷ h ∷ k ∷ []) s ∙ ap (λ (l : List ℕ). x ∷ l) (go-starts g y f z (h ∷ k ∷ []) t ∙ ap (λ (l : List ℕ). y ∷ l) (go-starts g z h w (k ∷ []) u ∙ ap (λ (l : List ℕ). z ∷ l) (go-starts g w k x [] v)))))
      (distinct-four x y z w n o p q r i);
}

-- these edges of g are edges of h with the same ends
abbrev pub AreIn : Multigraph → Multigraph → List ℕ → Type 0
AreIn g h es = (e : ℕ) → is_member e es ≡ true → (e < edge_count h) × (ends_of h e ≡ ends_of g e)

-- the other edges are too
in-tail : (g h : Multigraph) (e : ℕ) (es : List ℕ) → AreIn g h (e ∷ es) → AreIn g h es
in-tail g h e es i f m = i f (member-tail f e es m)

-- an edge leads from a vertex to the same vertex in both
pub kept-leads : (g h : Multigraph) (x e : ℕ) → e < edge_count h → ends_of h e ≡ ends_of g e → is_end g x e ≡ true → Leads h x e (other_end g e x)
kept-leads g h x e l i t = record {
  edge = l;
  leaves = ap (λ (p : ℕ × ℕ). (p.0 == x) || (p.1 == x)) i ∙ t;
  arrives = ap (λ (p : ℕ × ℕ). cond (p.0 == x) p.1 p.0) i;
}

-- a walk along such edges is one in h, and passes the same vertices
pub kept-walk : (g h : Multigraph) (x : ℕ) (es : List ℕ) → AreIn g h es → IsWalk g x es → IsWalk h x es
kept-walk g h x [] i w = tt
kept-walk g h x (e ∷ es) i w = go-walk h x e (other_end g e x) es (kept-leads g h x e (i e (member-head e es)).0 (i e (member-head e es)).1 w.0.1) (kept-walk g h (other_end g e x) es (in-tail g h e es i) w.1)

pub kept-end : (g h : Multigraph) (x : ℕ) (es : List ℕ) → AreIn g h es → IsWalk g x es → walk_end h x es ≡ walk_end g x es
kept-end g h x [] i w = refl
kept-end g h x (e ∷ es) i w = go-end h x e (other_end g e x) es (kept-leads g h x e (i e (member-head e es)).0 (i e (member-head e es)).1 w.0.1) ∙ kept-end g h (other_end g e x) es (in-tail g h e es i) w.1

pub kept-starts : (g h : Multigraph) (x : ℕ) (es : List ℕ) → AreIn g h es → IsWalk g x es → walk_starts h x es ≡ walk_starts g x es
kept-starts g h x [] i w = refl
kept-starts g h x (e ∷ es) i w = go-starts h x e (other_end g e x) es (kept-leads g h x e (i e (member-head e es)).0 (i e (member-head e es)).1 w.0.1) ∙ ap (λ (l : List ℕ). x ∷ l) (kept-starts g h (other_end g e x) es (in-tail g h e es i) w.1)

-- so a cycle is a cycle
pub kept-cycle : (g h : Multigraph) (x : ℕ) (es : List ℕ) → AreIn g h es → IsCycle g x es → IsCycle h x es
kept-cycle g h x es i c = record {
  walk = kept-walk g h x es i c.walk;
  returns = kept-end g h x es i c.walk ∙ c.returns;
  two = c.two;
  edges = c.edges;
  vertices = subst (λ (l : List ℕ). is_distinct l ≡ true) (sym (kept-starts g h x es i c.walk)) c.vertices;
}
