-- What is connected in a graph without some vertices is connected in its map of darts with these vertices opened.
use Rattle.std.proofs.Common.{◌≡◌, ℕ, zero, suc, ◌+◌, ◌*◌, ◌<◌, ◌⊎◌, inl, inr, Bool, true, false, not, List, [], ◌∷◌, filter, All, refl, sym, ap, ◌∙◌, subst, arith}
use Rattle.std.proofs.lemmas.Bool.{cases_Bool, and_parts, not-true, not_from_false}
use Rattle.std.proofs.lemmas.List.Elements.{All-nil, All-cons, All-head, All-tail, All-from_get_or}
use Rattle.permutations.specs.Members.{is_member}
use Rattle.permutations.specs.Relation.{IsEquivalence, connected}
use Rattle.permutations.specs.Permutation.{iterate}
use Rattle.permutations.proofs.Filter.{filter-yes, filter-no}
use Rattle.permutations.proofs.Relation.{connected-least-typed}
use Rattle.permutations.proofs.Iterates.{iterate-below, orbit-steps}
use Rattle.multigraph.specs.Graph.{Multigraph, IsGraph, edge_count, ends_of}
use Rattle.rotations.specs.Rotation.{IsRotationSystem}
use Rattle.graph_theory.specs.Triconnected.{avoids, ends_without}
use Rattle.graph_theory.specs.Joined.{joined_where}
use Rattle.graph_theory.proofs.Joined.{joined-least-typed}
use Rattle.dart_maps.specs.Map.{IsMap, same_vertex, same_component}
use Rattle.dart_maps.specs.Order.{frozen}
use Rattle.dart_maps.proofs.Darts.{twin-even}
use Rattle.dart_maps.proofs.Components.{component-equivalence, component-next, component-twin}
use Rattle.dart_maps.proofs.FourDarts.{frozen-elsewhere}
use Rattle.faces.specs.Euler.{tail, dart_count}
use Rattle.faces.specs.Maps.{dart_after, dart_before}
use Rattle.faces.proofs.DartLemmas.{tail-first, tail-second}
use Rattle.faces.proofs.MapSteps.{after-tail, map-permutes}
use Rattle.faces.proofs.MapVertices.{tail-vertex}

-- what holds of the members that pass a test holds of the list of them
all-filtered : (p : ℕ × ℕ → Bool) (P : ℕ × ℕ → Type 0) (l : List (ℕ × ℕ)) → All (λ x. p x ≡ true → P x) l → All P (filter p l)
all-filtered p P [] a = All-nil P
all-filtered p P (x ∷ l) a = elim (cases_Bool (p x)) [
  | inl t ↦ subst (All P) (sym (filter-yes p x l t)) (All-cons P x (filter p l) (All-head (λ y. p y ≡ true → P y) x l a t) (all-filtered p P l (All-tail (λ y. p y ≡ true → P y) x l a)))
  | inr t ↦ subst (All P) (sym (filter-no p x l t)) (all-filtered p P l (All-tail (λ y. p y ≡ true → P y) x l a))
]

-- a map of darts, and a test that says the same of all darts of a vertex: those that pass it are opened
module _ (m : ℕ) (next back : ℕ → ℕ) (b : IsMap m next back) (p : ℕ → Bool) (kept : (d : ℕ) → d < 2 * m → p (next d) ≡ p d) where
  -- another dart is connected with those that follow it
  opened-steps : (k d : ℕ) → d < 2 * m → p d ≡ false → (same_component m (frozen p next) d (iterate next k d) ≡ true) × (p (iterate next k d) ≡ false)
  opened-steps zero d l h = ((component-equivalence m (frozen p next)).reflexive d, h)
  opened-steps (suc k) d l h =
      let w = opened-steps k d l h in
      let below : iterate next k d < 2 * m = iterate-below (2 * m) next back b k d l in (
        (component-equivalence m (frozen p next)).transitive d (iterate next k d) (next (iterate next k d)) w.0
            (subst (λ z. same_component m (frozen p next) (iterate next k d) z ≡ true) (frozen-elsewhere p next (iterate next k d) w.1) (component-next m (frozen p next) (iterate next k d) below)),
        kept (iterate next k d) below ∙ w.1,
      )

  -- and with those of its vertex
  pub opened-vertex : (c d : ℕ) → c < 2 * m → same_vertex m next c d ≡ true → p c ≡ false → same_component m (frozen p next) c d ≡ true
  opened-vertex c d l t h =
      let w = orbit-steps (2 * m) next back b c d l t in
      subst (λ z. same_component m (frozen p next) c z ≡ true) w.2 (opened-steps w.0 c l h).0

-- a map on the darts of a graph, and darts that count, which are connected where they leave the same vertex
module _ (g : Multigraph) (next : ℕ → ℕ) (counts : ℕ → Bool) (alike : (c d : ℕ) → c < dart_count g → d < dart_count g → tail g c ≡ tail g d → counts c ≡ true → counts d ≡ true → same_component (edge_count g) next c d ≡ true) where
  abbrev near : ℕ → ℕ → Bool
  near = same_component (edge_count g) next

  near-equivalence : IsEquivalence near
  near-equivalence = component-equivalence (edge_count g) next

  -- two vertices with darts that count and are connected; or equal vertices
  abbrev AreNear : ℕ → ℕ → Type 0
  AreNear u v = (u ≡ v) ⊎ ((c : ℕ) × (d : ℕ) × (c < dart_count g) × (d < dart_count g) × (tail g c ≡ u) × (tail g d ≡ v) × (counts c ≡ true) × (counts d ≡ true) × (near c d ≡ true))

  are-symmetric : (u v : ℕ) → AreNear u v → AreNear v u
  are-symmetric u v (inl q) = inl (sym q)
  are-symmetric u v (inr w) = inr (w.1, w.0, w.3, w.2, w.5, w.4, w.7, w.6, near-equivalence.symmetric w.0 w.1 w.8)

  are-transitive : (u v w : ℕ) → AreNear u v → AreNear v w → AreNear u w
  are-transitive u v w (inl q) b = subst (λ z. AreNear z w) (sym q) b
  are-transitive u v w (inr a) (inl q) = subst (λ z. AreNear u z) q (inr a)
  are-transitive u v w (inr a) (inr b) = inr (
    a.0,
    b.1,
    a.2,
    b.3,
    a.4,
    b.5,
    a.6,
    b.7,
    near-equivalence.transitive a.0 b.0 b.1 (near-equivalence.transitive a.0 a.1 b.0 a.8 (alike a.1 b.0 a.3 b.2 (a.5 ∙ sym b.4) a.7 b.6)) b.8,
  )

  -- the ends of an edge whose darts count
  are-ends : (e : ℕ) → e < edge_count g → (counts (2 * e) ≡ true) × (counts (2 * e + 1) ≡ true) → AreNear (ends_of g e).0 (ends_of g e).1
  are-ends e l both = inr (
    2 * e,
    2 * e + 1,
    omega arith,
    omega arith,
    tail-first g e,
    tail-second g e,
    both.0,
    both.1,
    subst (λ z. near (2 * e) z ≡ true) (twin-even (2 * e) (omega arith)) (component-twin (edge_count g) next (2 * e) (omega arith)),
  )

  -- darts of near vertices are connected
  are-connected : (c d : ℕ) → c < dart_count g → d < dart_count g → counts c ≡ true → counts d ≡ true → AreNear (tail g c) (tail g d) → same_component (edge_count g) next c d ≡ true
  are-connected c d l k h i (inl q) = alike c d l k q h i
  are-connected c d l k h i (inr w) = near-equivalence.transitive c w.1 d (near-equivalence.transitive c w.0 w.1 (alike c w.0 l w.2 (sym w.4) h w.6) w.8) (alike w.1 d w.3 k w.5 w.7 i)

  -- so are those of vertices that are joined by edges that pass a test, where both darts of each such edge count
  pub counted-joined : (t : ℕ → Bool) → ((e : ℕ) → e < edge_count g → t e ≡ true → (counts (2 * e) ≡ true) × (counts (2 * e + 1) ≡ true)) → (c d : ℕ) → c < dart_count g → d < dart_count g → counts c ≡ true → counts d ≡ true
      → joined_where g t (tail g c) (tail g d) ≡ true → same_component (edge_count g) next c d ≡ true
  counted-joined t both c d l k h i j = are-connected c d l k h i (joined-least-typed g t AreNear (λ u. inl refl) are-symmetric are-transitive (λ e m a. are-ends e m (both e m a)) (tail g c) (tail g d) j)

  -- and of vertices that are connected by edges that avoid removed vertices
  pub counted-connected : (removed : List ℕ) → ((e : ℕ) → e < edge_count g → avoids removed (ends_of g e) ≡ true → (counts (2 * e) ≡ true) × (counts (2 * e + 1) ≡ true)) → (c d : ℕ) → c < dart_count g → d < dart_count g → counts c ≡ true → counts d ≡ true
      → connected (ends_without g removed) (tail g c) (tail g d) ≡ true → same_component (edge_count g) next c d ≡ true
  counted-connected removed both c d l k h i t = are-connected c d l k h i (connected-least-typed (ends_without g removed) AreNear (λ u. inl refl) are-symmetric are-transitive
      (all-filtered (avoids removed) (λ link. AreNear link.0 link.1) g.ends (All-from_get_or (λ link. avoids removed link ≡ true → AreNear link.0 link.1) g.ends (0, 0) (λ e m a. are-ends e m (both e m a))))
      (tail g c) (tail g d) t)

-- in a rotation system with the removed vertices opened, darts of vertices that are connected by edges that avoid these
pub near-connected : (g : Multigraph) (r : List (List ℕ)) → IsGraph g → IsRotationSystem g r → (removed : List ℕ) (c d : ℕ) → c < dart_count g → d < dart_count g → is_member (tail g c) removed ≡ false → is_member (tail g d) removed ≡ false
    → connected (ends_without g removed) (tail g c) (tail g d) ≡ true → same_component (edge_count g) (frozen (λ x. is_member (tail g x) removed) (dart_after g r)) c d ≡ true
near-connected g r ok s removed c d l k h i t = counted-connected g (frozen gone (dart_after g r)) (λ x. not (gone x)) alike removed both c d l k (not_from_false (gone c) h) (not_from_false (gone d) i) t
  where
    gone : ℕ → Bool
    gone x = is_member (tail g x) removed

    alike : (x y : ℕ) → x < dart_count g → y < dart_count g → tail g x ≡ tail g y → not (gone x) ≡ true → not (gone y) ≡ true → same_component (edge_count g) (frozen gone (dart_after g r)) x y ≡ true
    alike x y m n q a b = opened-vertex (edge_count g) (dart_after g r) (dart_before g r) (map-permutes g r ok s) gone (λ z j. ap (λ v. is_member v removed) (after-tail g r z ok s j)) x y m (tail-vertex g r ok s x y m n q) (not-true (gone x) a)

    both : (e : ℕ) → e < edge_count g → avoids removed (ends_of g e) ≡ true → (not (gone (2 * e)) ≡ true) × (not (gone (2 * e + 1)) ≡ true)
    both e m a =
        let w = and_parts (not (is_member (ends_of g e).0 removed)) (not (is_member (ends_of g e).1 removed)) a in
        (ap (λ v. not (is_member v removed)) (tail-first g e) ∙ w.0, ap (λ v. not (is_member v removed)) (tail-second g e) ∙ w.1)
