-- Connection by those edges that pass a test: it is the least relation that has their ends, and it is by paths.
use Rattle.std.proofs.Common.{◌≡◌, ◌≢◌, ℕ, ◌<◌, inl, inr, Bool, true, false, not, ◌==◌, List, [], ◌∷◌, ◌++◌, reverse, filter, length, get_or, refl, sym, ap, ◌∙◌, subst, arith, Contains}
use Rattle.std.proofs.lemmas.Bool.{both_ways, and_parts, or_cases, eq-eqb, eqb-true, ne_eqb, not-true}
use Rattle.std.proofs.lemmas.List.{get_or-map, length-map}
use Rattle.std.proofs.lemmas.List.Elements.{Contains-get_or}
use Rattle.permutations.specs.Members.{is_member}
use Rattle.permutations.proofs.Members.{member-head, member-tail, member-cases, member-append_cases, member-reverse}
use Rattle.permutations.proofs.Relation.{connected-reflexive, connected-symmetric, connected-transitive, connected-link, connected-least-typed}
use Rattle.multigraph.specs.Graph.{Multigraph, edge_count, ends_of, is_end, other_end, numbers_below}
use Rattle.multigraph.proofs.Below.{filter_below-has, filter_below-at}
use Rattle.multigraph.proofs.OtherEnd.{is_end-first, is_end-second, other_end-cases}
use Rattle.graph_theory.specs.Path.{walk_end, IsWalk, IsPath}
use Rattle.graph_theory.specs.Joined.{ends_where, joined_where, avoiding, PathWhere}
use Rattle.graph_theory.proofs.Walks.{end-append, walk-append}
use Rattle.graph_theory.proofs.Reversal.{end-reverse, walk-reverse}
use Rattle.graph_theory.proofs.Paths.{walk_to_path, Shortened}
use Rattle.graph_theory.proofs.Connection.{other-first}

-- the ends of an edge that passes are a link
pub ends-contained : (g : Multigraph) (t : ℕ → Bool) (e : ℕ) → e < edge_count g → t e ≡ true → Contains (ends_where g t) (ends_of g e)
ends-contained g t e l h =
    let c : Contains (filter t (numbers_below (edge_count g))) e = filter_below-has t (edge_count g) e l h in
    (c.0, omega (arith, c.1, length-map (filter t (numbers_below (edge_count g))) (ends_of g)), get_or-map (ends_of g) (filter t (numbers_below (edge_count g))) c.0 e (ends_of g e) c.1 ∙ ap (ends_of g) c.2)

-- each link is the ends of an edge that passes
pub contained-ends : (g : Multigraph) (t : ℕ → Bool) (link : ℕ × ℕ) → Contains (ends_where g t) link → (e : ℕ) × (e < edge_count g) × (t e ≡ true) × (ends_of g e ≡ link)
contained-ends g t link c =
    let l : c.0 < length (filter t (numbers_below (edge_count g))) = omega (arith, c.1, length-map (filter t (numbers_below (edge_count g))) (ends_of g)) in
    let b = filter_below-at t (edge_count g) c.0 0 l in
    (get_or (filter t (numbers_below (edge_count g))) c.0 0, b.0, b.1, sym (get_or-map (ends_of g) (filter t (numbers_below (edge_count g))) c.0 0 link l) ∙ c.2)

-- the two ends of an edge that passes are joined
pub joined-ends : (g : Multigraph) (t : ℕ → Bool) (e : ℕ) → e < edge_count g → t e ≡ true → joined_where g t (ends_of g e).0 (ends_of g e).1 ≡ true
joined-ends g t e l h = connected-link (ends_where g t) (ends_of g e).0 (ends_of g e).1 (ends-contained g t e l h)

-- an end of an edge that passes and the other one are joined
pub joined-other : (g : Multigraph) (t : ℕ → Bool) (e x : ℕ) → e < edge_count g → t e ≡ true → is_end g x e ≡ true → joined_where g t x (other_end g e x) ≡ true
joined-other g t e x l h i = elim (other_end-cases g e x) [
  | inl c ↦ subst (λ (z : ℕ). joined_where g t x z ≡ true) (sym c.1) (subst (λ (z : ℕ). joined_where g t z (ends_of g e).1 ≡ true) c.0 (joined-ends g t e l h))
  | inr c ↦ elim (or_cases ((ends_of g e).0 == x) ((ends_of g e).1 == x) i) [
    | inl f ↦ absurd (c.0 (eqb-true (ends_of g e).0 x f))
    | inr f ↦ subst (λ (z : ℕ). joined_where g t x z ≡ true) (sym c.1)
        (connected-symmetric (ends_where g t) (ends_of g e).0 x (subst (λ (z : ℕ). joined_where g t (ends_of g e).0 z ≡ true) (eqb-true (ends_of g e).1 x f) (joined-ends g t e l h)))
  ]
]

-- the least: a relation with values in types, reflexive, symmetric and transitive, that has the ends of each edge that passes
pub joined-least-typed : (g : Multigraph) (t : ℕ → Bool) (S : ℕ → ℕ → Type 0)
    → ((x : ℕ) → S x x) → ((x y : ℕ) → S x y → S y x) → ((x y z : ℕ) → S x y → S y z → S x z)
    → ((e : ℕ) → e < edge_count g → t e ≡ true → S (ends_of g e).0 (ends_of g e).1)
    → (x y : ℕ) → joined_where g t x y ≡ true → S x y
joined-least-typed g t S r s tr each x y c = connected-least-typed (ends_where g t) S r s tr
    (λ k d l.
    let w = contained-ends g t (get_or (ends_where g t) k d) (Contains-get_or (ends_where g t) k d l) in
    subst (λ (z : ℕ × ℕ). S z.0 z.1) w.3 (each w.0 w.1 w.2)) x y c

-- a test that the ends of each edge that passes share is constant on what is joined
pub joined-closed : (g : Multigraph) (t a : ℕ → Bool) → ((e : ℕ) → e < edge_count g → t e ≡ true → a (ends_of g e).0 ≡ a (ends_of g e).1) → (x y : ℕ) → joined_where g t x y ≡ true → a x ≡ a y
joined-closed g t a each x y c = joined-least-typed g t (λ u v. a u ≡ a v) (λ u. refl) (λ u v e. sym e) (λ u v w e d. e ∙ d) each x y c

-- what some edges join, more edges join
pub joined-more : (g : Multigraph) (t more : ℕ → Bool) → ((e : ℕ) → e < edge_count g → t e ≡ true → more e ≡ true) → (x y : ℕ) → joined_where g t x y ≡ true → joined_where g more x y ≡ true
joined-more g t more h x y c = joined-least-typed g t (λ u v. joined_where g more u v ≡ true) (connected-reflexive (ends_where g more)) (connected-symmetric (ends_where g more)) (connected-transitive (ends_where g more))
    (λ e l p. joined-ends g more e l (h e l p)) x y c

-- what is joined by edges without the end u is not u, unless it is u from the start
pub joined-avoiding : (g : Multigraph) (t : ℕ → Bool) (u x y : ℕ) → joined_where g (avoiding g u t) x y ≡ true → x ≢ u → y ≢ u
joined-avoiding g t u x y c n e = n (eqb-true x u (joined-closed g (avoiding g u t) (λ w. w == u) each x y c ∙ eq-eqb y u e))
  where
    off : (e w : ℕ) → is_end g w e ≡ true → is_end g u e ≡ false → (w == u) ≡ false
    off e w i j = ne_eqb w u (λ q. both_ways (is_end g u e) j (subst (λ z. is_end g z e ≡ true) q i))

    each : (e : ℕ) → e < edge_count g → avoiding g u t e ≡ true → ((ends_of g e).0 == u) ≡ ((ends_of g e).1 == u)
    each e l p = let away : is_end g u e ≡ false = not-true (is_end g u e) (and_parts (t e) (not (is_end g u e)) p).1 in
        off e (ends_of g e).0 (is_end-first g e) away ∙ sym (off e (ends_of g e).1 (is_end-second g e) away)

-- a walk from x to y along edges that pass
record WalkWhere (g : Multigraph) (t : ℕ → Bool) (x y : ℕ) : Type 0 where
  along : List ℕ
  walk : IsWalk g x along
  arrives : walk_end g x along ≡ y
  passes : (e : ℕ) → is_member e along ≡ true → t e ≡ true

-- what is joined is joined by a walk
joined-walk : (g : Multigraph) (t : ℕ → Bool) (x y : ℕ) → joined_where g t x y ≡ true → WalkWhere g t x y
joined-walk g t x y c = joined-least-typed g t (WalkWhere g t)
    (λ u. record { along = []; walk = tt; arrives = refl; passes = λ e m. absurd (both_ways (is_member e []) refl m) })
    (λ u v j. record {
      along = reverse j.along;
      walk = subst (λ (z : ℕ). IsWalk g z (reverse j.along)) j.arrives (walk-reverse g u j.along j.walk);
      arrives = subst (λ (z : ℕ). walk_end g z (reverse j.along) ≡ u) j.arrives (end-reverse g u j.along j.walk);
      passes = λ e m. j.passes e (sym (member-reverse e j.along) ∙ m);
    })
    (λ u v w j k. record {
      along = j.along ++ k.along;
      walk = walk-append g u j.along k.along j.walk (subst (λ (z : ℕ). IsWalk g z k.along) (sym j.arrives) k.walk);
      arrives = end-append g u j.along k.along ∙ (ap (λ (z : ℕ). walk_end g z k.along) j.arrives ∙ k.arrives);
      passes = λ e m. elim (member-append_cases e j.along k.along m) [ inl a ↦ j.passes e a | inr b ↦ k.passes e b ];
    })
    (λ e l p. record {
      along = e ∷ [];
      walk = ((l, is_end-first g e), tt);
      arrives = other-first g e;
      passes = λ h m. elim (member-cases h e [] m) [ inl q ↦ subst (λ z. t z ≡ true) q p | inr b ↦ absurd (both_ways (is_member h []) refl b) ];
    })
    x y c

-- what is joined is joined by a path
pub joined-path : (g : Multigraph) (t : ℕ → Bool) (x y : ℕ) → joined_where g t x y ≡ true → PathWhere g t x y
joined-path g t x y c =
    let j : WalkWhere g t x y = joined-walk g t x y c in
    let s : Shortened g x j.along = walk_to_path g x j.along j.walk in
    record { along = s.along; path = subst (IsPath g x s.along) j.arrives s.path; passes = λ e m. j.passes e (s.edges_from e m) }

-- what a walk along edges that pass leads to is joined
walk-joined : (g : Multigraph) (t : ℕ → Bool) (x : ℕ) (es : List ℕ) → IsWalk g x es → ((e : ℕ) → is_member e es ≡ true → t e ≡ true) → joined_where g t x (walk_end g x es) ≡ true
walk-joined g t x [] w p = connected-reflexive (ends_where g t) x
walk-joined g t x (e ∷ es) w p = connected-transitive (ends_where g t) x (other_end g e x) (walk_end g (other_end g e x) es)
    (joined-other g t e x w.0.0 (p e (member-head e es)) w.0.1)
    (walk-joined g t (other_end g e x) es w.1 (λ h m. p h (member-tail h e es m)))

-- what a path along edges that pass joins is joined
pub path-joined : (g : Multigraph) (t : ℕ → Bool) (x y : ℕ) → PathWhere g t x y → joined_where g t x y ≡ true
path-joined g t x y w = subst (λ z. joined_where g t x z ≡ true) w.path.arrives (walk-joined g t x w.along w.path.walk w.passes)
