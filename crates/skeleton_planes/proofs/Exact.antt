-- Gluing along two edges that are no bridges is exact: the glued map is plane exactly where the map is.
use Rattle.std.proofs.Common.{◌≡◌, ℕ, ◌*◌, ◌<◌, Bool, true, false, ◌||◌, cond, refl, sym, ap, ◌∙◌, arith}
use Rattle.std.proofs.lemmas.Bool.{cases_Bool, both_ways, false_from_ne_true}
use Rattle.permutations.specs.Relation.{IsEquivalence}
use Rattle.permutations.proofs.Orbits.{orbit-equivalence, orbit-step}
use Rattle.dart_maps.specs.Map.{twin, same_vertex, same_component}
use Rattle.dart_maps.specs.Changes.{glued}
use Rattle.dart_maps.proofs.Components.{component-equivalence, component-next, component-twin, vertex-component}
use Rattle.dart_maps.proofs.Glue.{glue-plane, glued-map}
use Rattle.skeleton_planes.specs.Laws.{GluingIsExact}
use Rattle.skeleton_planes.proofs.Seams.{AreFacing}
use Rattle.skeleton_planes.proofs.Joined.{glued-joined}
use Rattle.skeleton_planes.proofs.Stages.{class-kept}
use Rattle.skeleton_planes.proofs.Unglued.{unglue-plane}

-- the law: each dart's place is told by the vertices of d and of e, or of their twins, or none of these
pub gluing-exact : GluingIsExact
gluing-exact m f g b d e ld le apart vd ve nd nt ne nw first second = (
  glue-plane m f g b d e ld le apart vd ve nd nt ne nw,
  unglue-plane m f g (glued d e f) _ place (same_component m f d) d e facing (glued-joined m f g place (same_component m f d) d e facing) (glued-map m f g b d e ld le apart vd ve nd nt ne nw) first second,
)
  where
    r : IsEquivalence (same_vertex m f)
    r = orbit-equivalence (2 * m) f

    c : IsEquivalence (same_component m f)
    c = component-equivalence m f

    near : ℕ → Bool
    near x = same_vertex m f d x || same_vertex m f e x

    far : ℕ → Bool
    far x = same_vertex m f (twin d) x || same_vertex m f (twin e) x

    place : ℕ → ℕ
    place x = cond (same_vertex m f d x || same_vertex m f e x) 0 (cond (same_vertex m f (twin d) x || same_vertex m f (twin e) x) 1 2)

    left : (x y : Bool) → x ≡ true → (x || y) ≡ true
    left x y h = grind (arith, cases_Bool x, cases_Bool y)

    right : (x y : Bool) → y ≡ true → (x || y) ≡ true
    right x y h = grind (arith, cases_Bool x, cases_Bool y)

    neither : (x y : Bool) → x ≡ false → y ≡ false → (x || y) ≡ false
    neither x y h k = grind (arith, cases_Bool x, cases_Bool y)

    at_near : (x : ℕ) → near x ≡ true → place x ≡ 0
    at_near x h = ap (λ (t : Bool). cond t 0 (cond (far x) 1 2)) h

    at_far : (x : ℕ) → near x ≡ false → far x ≡ true → place x ≡ 1
    at_far x h k = ap (λ (t : Bool). cond t 0 (cond (far x) 1 2)) h ∙ ap (λ (t : Bool). cond t 1 2) k

    kept : (u x : ℕ) → x < 2 * m → same_vertex m f u (f x) ≡ same_vertex m f u x
    kept u x l = class-kept (same_vertex m f) r u x (f x) (orbit-step (2 * m) f x l)

    places : (x : ℕ) → x < 2 * m → place (f x) ≡ place x
    places x l = rw (kept d x l, kept e x l, kept (twin d) x l, kept (twin e) x l) refl

    other : (x y : ℕ) → same_component m f d x ≡ true → same_component m f e y ≡ true → same_vertex m f y x ≡ false
    other x y h k = false_from_ne_true (same_vertex m f y x) (λ t. both_ways (same_component m f d e) apart (c.transitive d x e h (c.symmetric e x (c.transitive e y x k (vertex-component m f y x t)))))

    at_d : near d ≡ true
    at_d = left (same_vertex m f d d) (same_vertex m f e d) (r.reflexive d)

    at_e : near e ≡ true
    at_e = right (same_vertex m f d e) (same_vertex m f e e) (r.reflexive e)

    off_t : near (twin d) ≡ false
    off_t = neither (same_vertex m f d (twin d)) (same_vertex m f e (twin d)) vd (other (twin d) e (component-twin m f d ld) (c.reflexive e))

    off_w : near (twin e) ≡ false
    off_w = neither (same_vertex m f d (twin e)) (same_vertex m f e (twin e)) (false_from_ne_true (same_vertex m f d (twin e)) (λ t. both_ways (same_vertex m f (twin e) d) (other d (twin e) (c.reflexive d) (component-twin m f e le)) (r.symmetric d (twin e) t))) ve

    at_t : place (twin d) ≡ 1
    at_t = at_far (twin d) off_t (left (same_vertex m f (twin d) (twin d)) (same_vertex m f (twin e) (twin d)) (r.reflexive (twin d)))

    at_w : place (twin e) ≡ 1
    at_w = at_far (twin e) off_w (right (same_vertex m f (twin d) (twin e)) (same_vertex m f (twin e) (twin e)) (r.reflexive (twin e)))

    facing : AreFacing m f g place (same_component m f d) d e
    facing = record {
      is_map = b;
      sides_next = λ x l. class-kept (same_component m f) c d x (f x) (component-next m f x l);
      sides_twin = λ x l. class-kept (same_component m f) c d x (twin x) (component-twin m f x l);
      places_next = places;
      darts = (ld, le);
      inside = c.reflexive d;
      outside = apart;
      places = at_near d at_d ∙ sym (at_near e at_e);
      twin_places = at_t ∙ sym at_w;
      two_places = λ q. differ (place d) (place (twin d)) (at_near d at_d) at_t q;
      company = (nd, nt);
      other_company = (ne, nw);
    }
      where
        differ : (x y : ℕ) → x ≡ 0 → y ≡ 1 → x ≡ y → ⊥
        differ x y i j q = omega (arith, i, j, q)
