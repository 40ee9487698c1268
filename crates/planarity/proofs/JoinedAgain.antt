-- An edge put in between two corners of one face, or left out where there is none.
use Rattle.std.proofs.Common.{◌≡◌, ℕ, ◌<◌, ◌⊎◌, inl, inr, Bool, true, false, cond, ◌||◌, ◌==◌, sym, ap, ◌∙◌, subst}
use Rattle.std.proofs.lemmas.Bool.{cases_Bool, both_ways, eq-eqb, ne_eqb, or_left, or_right, or_from}
use Rattle.permutations.specs.Exchange.{exchange}
use Rattle.permutations.proofs.Permutations.{exchange-left, exchange-right, exchange-other}
use Rattle.multigraph.specs.Graph.{Multigraph, edge_count}
use Rattle.dart_maps.specs.Map.{twin, same_face}
use Rattle.dart_maps.specs.Changes.{inserted}
use Rattle.dart_maps.proofs.Darts.{twin-below, twin-other}
use Rattle.dart_maps.proofs.Steps.{back_after, step-map}
use Rattle.dart_maps.proofs.Plane.{same-defect-plane}
use Rattle.dart_maps.proofs.Insert.{insert-defect, inserted-map}
use Rattle.faces.specs.Euler.{tail, dart_count}
use Rattle.planarity.proofs.ContractedVertices.{put-vertices}
use Rattle.planarity.proofs.ExpandedApart.{IsPart}

-- an edge put in between two corners of one face, at the vertices that its darts leave
module _ (g : Multigraph) (f b : ℕ → ℕ) (live : ℕ → Bool) (part : IsPart g f b live) (u p q : ℕ) (lu : u < dart_count g) (lp : p < dart_count g) (lq : q < dart_count g)
    (dead : live u ≡ false) (dead_twin : live (twin u) ≡ false) (lives : live p ≡ true) (lives_too : live q ≡ true) (alone : f u ≡ u) (alone_twin : f (twin u) ≡ twin u)
    (goes : tail g u ≡ tail g p) (goes_twin : tail g (twin u) ≡ tail g q) (in_face : same_face (edge_count g) f (twin p) (twin q) ≡ true) where
  part-differs : (c d : ℕ) → live c ≡ true → live d ≡ false → c ≡ d → ⊥
  part-differs c d i j k = both_ways (live d) j (ap live (sym k) ∙ i)

  lt : twin u < dart_count g
  lt = twin-below (edge_count g) u lu

  pub put-edge : IsPart g (inserted u p q f) (back_after q (twin u) (back_after p u b)) (λ z. (live z || (z == u)) || (z == twin u))
  put-edge = record {
    is_map = inserted-map (edge_count g) f b part.is_map u lu alone alone_twin p q lp lq (part-differs p u lives dead) (part-differs p (twin u) lives dead_twin) (part-differs q u lives_too dead) (part-differs q (twin u) lives_too dead_twin);
    plane = same-defect-plane (edge_count g) f (inserted u p q f)
        (insert-defect (edge_count g) f b part.is_map u lu alone alone_twin p q lp lq (part-differs p u lives dead) (part-differs p (twin u) lives dead_twin) (part-differs q u lives_too dead) (part-differs q (twin u) lives_too dead_twin) in_face)
        part.plane;
    vertices = put-vertices (edge_count g) (exchange p u f) (back_after p u b) (step-map (edge_count g) f b part.is_map p u lp lu) (λ z. live z || (z == u)) (tail g)
        (put-vertices (edge_count g) f b part.is_map live (tail g) part.vertices p u lp lu lives dead alone goes)
        q (twin u) lq lt (or_left (live q) (q == u) lives_too) (or_from (live (twin u)) (twin u == u) dead_twin (ne_eqb (twin u) u (twin-other u)))
        (exchange-other p u f (twin u) (λ i. part-differs p (twin u) lives dead_twin (sym i)) (twin-other u) ∙ alone_twin)
        goes_twin;
  }

-- the map with the edge of u put in where there is one
abbrev pub joined_again : Bool → ℕ → ℕ → ℕ → (ℕ → ℕ) → ℕ → ℕ
joined_again t u p q f z = cond t (inserted u p q f z) (f z)

abbrev pub joined_back : Bool → ℕ → ℕ → ℕ → (ℕ → ℕ) → ℕ → ℕ
joined_back t u p q b z = cond t (back_after q (twin u) (back_after p u b) z) (b z)

abbrev pub joined_live : Bool → ℕ → (ℕ → Bool) → ℕ → Bool
joined_live t u live z = cond t ((live z || (z == u)) || (z == twin u)) (live z)

pub joined-part : (g : Multigraph) (f b : ℕ → ℕ) (live : ℕ → Bool) (t : Bool) (u p q : ℕ) → IsPart g f b live
    → (t ≡ true → IsPart g (inserted u p q f) (back_after q (twin u) (back_after p u b)) (λ z. (live z || (z == u)) || (z == twin u)))
    → IsPart g (joined_again t u p q f) (joined_back t u p q b) (joined_live t u live)
joined-part g f b live t u p q part more = elim (cases_Bool t) [
  | inl h ↦ subst (λ v. IsPart g (joined_again v u p q f) (joined_back v u p q b) (joined_live v u live)) (sym h) (more h)
  | inr h ↦ subst (λ v. IsPart g (joined_again v u p q f) (joined_back v u p q b) (joined_live v u live)) (sym h) part
]

-- a dart that the put-in edge does not touch
pub joined-other : (t : Bool) (u p q : ℕ) (f : ℕ → ℕ) (z : ℕ) → (t ≡ true → (z ≡ p → ⊥) × (z ≡ u → ⊥) × (z ≡ q → ⊥) × (z ≡ twin u → ⊥)) → joined_again t u p q f z ≡ f z
joined-other t u p q f z off = elim (cases_Bool t) [
  | inl h ↦ let w = off h in ap (λ v. joined_again v u p q f z) h ∙ exchange-other q (twin u) (exchange p u f) z w.2 w.3 ∙ exchange-other p u f z w.0 w.1
  | inr h ↦ ap (λ v. joined_again v u p q f z) h
]

-- what lived lives, and the edge where it is put in
pub joined-old : (t : Bool) (u : ℕ) (live : ℕ → Bool) (z : ℕ) → live z ≡ true → joined_live t u live z ≡ true
joined-old t u live z h = elim (cases_Bool t) [
  | inl i ↦ ap (λ v. joined_live v u live z) i ∙ or_left (live z || (z == u)) (z == twin u) (or_left (live z) (z == u) h)
  | inr i ↦ ap (λ v. joined_live v u live z) i ∙ h
]

pub joined-new : (t : Bool) (u : ℕ) (live : ℕ → Bool) (z : ℕ) → t ≡ true → (z ≡ u) ⊎ (z ≡ twin u) → joined_live t u live z ≡ true
joined-new t u live z i (inl q) = ap (λ v. joined_live v u live z) i ∙ or_left (live z || (z == u)) (z == twin u) (or_right (live z) (z == u) (eq-eqb z u q))
joined-new t u live z i (inr q) = ap (λ v. joined_live v u live z) i ∙ or_right (live z || (z == u)) (z == twin u) (eq-eqb z (twin u) q)

pub joined-dead : (t : Bool) (u : ℕ) (live : ℕ → Bool) (z : ℕ) → live z ≡ false → (t ≡ true → (z ≡ u → ⊥) × (z ≡ twin u → ⊥)) → joined_live t u live z ≡ false
joined-dead t u live z h off = elim (cases_Bool t) [
  | inl i ↦ let w = off i in ap (λ v. joined_live v u live z) i ∙ or_from (live z || (z == u)) (z == twin u) (or_from (live z) (z == u) h (ne_eqb z u w.0)) (ne_eqb z (twin u) w.1)
  | inr i ↦ ap (λ v. joined_live v u live z) i ∙ h
]

-- where the put-in edge is met: behind p and behind q, and what follows it there
pub joined-met : (t : Bool) (u p q : ℕ) (f : ℕ → ℕ) → t ≡ true → (p ≡ q → ⊥) → (p ≡ twin u → ⊥) → (q ≡ u → ⊥) → (joined_again t u p q f p ≡ f u) × (joined_again t u p q f u ≡ f p) × (joined_again t u p q f q ≡ f (twin u)) × (joined_again t u p q f (twin u) ≡ f q)
joined-met t u p q f h pq pt qu = (
  ap (λ v. joined_again v u p q f p) h ∙ exchange-other q (twin u) (exchange p u f) p pq pt ∙ exchange-left p u f,
  ap (λ v. joined_again v u p q f u) h ∙ exchange-other q (twin u) (exchange p u f) u (λ i. qu (sym i)) (λ i. twin-other u (sym i)) ∙ exchange-right p u f,
  ap (λ v. joined_again v u p q f q) h ∙ exchange-left q (twin u) (exchange p u f) ∙ exchange-other p u f (twin u) (λ i. pt (sym i)) (twin-other u),
  ap (λ v. joined_again v u p q f (twin u)) h ∙ exchange-right q (twin u) (exchange p u f) ∙ exchange-other p u f q (λ i. pq (sym i)) qu,
)
