-- Components of a map: the relation that its steps and its twins generate.
use Rattle.std.proofs.Common.{◌≡◌, ℕ, zero, suc, ◌*◌, ◌<◌, ◌≤◌, inl, inr, Bool, true, cond, not, ◌&&◌, ◌||◌, ◌==◌, sym, subst, arith, eqb-true}
use Rattle.std.proofs.lemmas.Bool.{cases_eq}
use Rattle.permutations.specs.Relation.{IsEquivalence, join, connected}
use Rattle.permutations.proofs.Relation.{same-tests, join-old, join-link, join-least, join-equivalence, connected-equivalence}
use Rattle.permutations.proofs.Classes.{class_count-ext}
use Rattle.permutations.proofs.Orbits.{orbit-least, test-equivalence, test-agrees, agrees-test}
use Rattle.dart_maps.specs.Map.{twin, face, dart_links, same_vertex, same_face, same_component, component_count}
use Rattle.dart_maps.proofs.Darts.{twin-below}

-- being in one component is an equivalence
pub component-equivalence : (m : ℕ) (f : ℕ → ℕ) → IsEquivalence (same_component m f)
component-equivalence m f = connected-equivalence (dart_links (2 * m) f)

-- both links of each of the first k darts are in the relation that they generate
both-links : (k : ℕ) (f : ℕ → ℕ) (d : ℕ) → d < k → (connected (dart_links k f) d (f d) ≡ true) × (connected (dart_links k f) d (twin d) ≡ true)
both-links zero f d l = absurd (omega arith)
both-links (suc k) f d l = elim (cases_eq d k) [
  | inl e ↦ rw e (join-link t k (f k) (join-equivalence r k (twin k) c), join-old t k (f k) k (twin k) (join-link r k (twin k) c))
  | inr a ↦ let w = both-links k f d (omega arith) in (join-old t k (f k) d (f d) (join-old r k (twin k) d (f d) w.0), join-old t k (f k) d (twin d) (join-old r k (twin k) d (twin d) w.1))
]
  where
    r : ℕ → ℕ → Bool
    r = connected (dart_links k f)

    t : ℕ → ℕ → Bool
    t = join r k (twin k)

    c : IsEquivalence r
    c = connected-equivalence (dart_links k f)

-- a dart and the one that follows it are in one component
pub component-next : (m : ℕ) (f : ℕ → ℕ) (d : ℕ) → d < 2 * m → same_component m f d (f d) ≡ true
component-next m f d l = (both-links (2 * m) f d l).0

-- a dart and its twin are in one component
pub component-twin : (m : ℕ) (f : ℕ → ℕ) (d : ℕ) → d < 2 * m → same_component m f d (twin d) ≡ true
component-twin m f d l = (both-links (2 * m) f d l).1

-- the relation that the links of k darts generate is the least that contains them
least-links : (k : ℕ) (f : ℕ → ℕ) (s : ℕ → ℕ → Bool) → IsEquivalence s → ((d : ℕ) → d < k → s d (f d) ≡ true) → ((d : ℕ) → d < k → s d (twin d) ≡ true) → (x y : ℕ) → connected (dart_links k f) x y ≡ true → s x y ≡ true
least-links zero f s e h t x y c = subst (λ (z : ℕ). s x z ≡ true) (eqb-true x y c) (e.reflexive x)
least-links (suc k) f s e h t x y c = join-least (join r k (twin k)) s k (f k) e (join-least r s k (twin k) e (least-links k f s e (λ d l. h d (omega arith)) (λ d l. t d (omega arith))) (t k (omega arith))) (h k (omega arith)) x y c
  where
    r : ℕ → ℕ → Bool
    r = connected (dart_links k f)

-- the relation of components is the least equivalence that contains the steps round vertices and the twins
pub component-least : (m : ℕ) (f : ℕ → ℕ) (s : ℕ → ℕ → Bool) → IsEquivalence s → ((d : ℕ) → d < 2 * m → s d (f d) ≡ true) → ((d : ℕ) → d < 2 * m → s d (twin d) ≡ true) → (x y : ℕ) → same_component m f x y ≡ true → s x y ≡ true
component-least m f s e h t x y c = least-links (2 * m) f s e h t x y c

-- a test that steps and twins leave as it is has one value on each component
pub component-test : (m : ℕ) (f : ℕ → ℕ) (a : ℕ → Bool) → ((d : ℕ) → d < 2 * m → a (f d) ≡ a d) → ((d : ℕ) → d < 2 * m → a (twin d) ≡ a d) → (x y : ℕ) → same_component m f x y ≡ true → a x ≡ a y
component-test m f a h t x y c = agrees-test (a x) (a y) (component-least m f (λ u v. cond (a u) (a v) (not (a v))) (test-equivalence a) (λ d l. test-agrees (a (f d)) (a d) (h d l)) (λ d l. test-agrees (a (twin d)) (a d) (t d l)) x y c)

-- darts of one vertex are in one component
pub vertex-component : (m : ℕ) (f : ℕ → ℕ) (x y : ℕ) → same_vertex m f x y ≡ true → same_component m f x y ≡ true
vertex-component m f = orbit-least (2 * m) f (same_component m f) (component-equivalence m f) (λ d l. component-next m f d l)

-- a dart and the next one along the face are in one component
pub component-face : (m : ℕ) (f : ℕ → ℕ) (d : ℕ) → d < 2 * m → same_component m f d (face f d) ≡ true
component-face m f d l = (component-equivalence m f).transitive d (twin d) (f (twin d)) (component-twin m f d l) (component-next m f (twin d) (twin-below m d l))

-- darts of one face are in one component
pub face-component : (m : ℕ) (f : ℕ → ℕ) (x y : ℕ) → same_face m f x y ≡ true → same_component m f x y ≡ true
face-component m f = orbit-least (2 * m) (face f) (same_component m f) (component-equivalence m f) (λ d l. component-face m f d l)

-- maps of which the one's steps stay within the other's components have finer components
pub component-finer : (m : ℕ) (f h : ℕ → ℕ) → ((d : ℕ) → d < 2 * m → same_component m h d (f d) ≡ true) → (x y : ℕ) → same_component m f x y ≡ true → same_component m h x y ≡ true
component-finer m f h s = component-least m f (same_component m h) (component-equivalence m h) s (λ d l. component-twin m h d l)

-- maps that agree on all darts have the same components
pub component-ext : (m : ℕ) (f h : ℕ → ℕ) → ((d : ℕ) → d < 2 * m → f d ≡ h d) → (x y : ℕ) → same_component m f x y ≡ same_component m h x y
component-ext m f h s x y = same-tests (same_component m f x y) (same_component m h x y)
    (component-finer m f h (λ d l. subst (λ (z : ℕ). same_component m h d z ≡ true) (sym (s d l)) (component-next m h d l)) x y)
    (component-finer m h f (λ d l. subst (λ (z : ℕ). same_component m f d z ≡ true) (s d l) (component-next m f d l)) x y)

-- maps that agree on all darts have equally many components
pub component-count-ext : (m : ℕ) (f h : ℕ → ℕ) → ((d : ℕ) → d < 2 * m → f d ≡ h d) → component_count m f ≡ component_count m h
component-count-ext m f h s = class_count-ext (2 * m) (same_component m f) (same_component m h) (λ x y l k. component-ext m f h s x y)
