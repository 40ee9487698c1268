-- A map glued along many links, one after the other.
use Rattle.std.specs.Prelude.{◌≡◌, ◌≢◌, ℕ, ◌*◌, ◌<◌, Bool, true, false, ◌||◌, List, [], ◌∷◌, map}
use Rattle.permutations.specs.Relation.{connected}
use Rattle.dart_maps.specs.Map.{twin, IsMap, IsPlane}
use Rattle.dart_maps.specs.Changes.{glued}
use Rattle.dart_maps.specs.Order.{one_of_four}
use Rattle.skeleton_planes.specs.Bridges.{IsNoBridge}

-- the map glued along each of these pairs of edges, given by one dart of each; the last pair comes first
abbrev pub all_glued : List (ℕ × ℕ) → (ℕ → ℕ) → ℕ → ℕ
all_glued [] next = next
all_glued (link ∷ links) next = glued link.0 link.1 (all_glued links next)

-- whether x is a dart of one of these edges
abbrev pub is_used : List (ℕ × ℕ) → ℕ → Bool
is_used [] x = false
is_used (link ∷ links) x = one_of_four link.0 (twin link.0) link.1 (twin link.1) x || is_used links x

-- the links between the parts in which the darts lie
abbrev pub part_links : (ℕ → ℕ) → List (ℕ × ℕ) → List (ℕ × ℕ)
part_links part links = map (λ link. (part link.0, part link.1)) links

-- two edges that can be glued: both go between the same two places, no dart of them is alone, and neither is a bridge. What
-- ends at a dart of the one begins at that of the other: `ends` and `begins` tell of a dart and an edge of the whole whether
-- the edges that the dart stands for end with it, and whether they begin behind it
pub record IsLinkOf (m : ℕ) (next : ℕ → ℕ) (place : ℕ → ℕ) (ends begins : ℕ → ℕ → Bool) (d e : ℕ) : Type 0 where
  pub darts : (d < 2 * m) × (e < 2 * m)
  pub places : place d ≡ place e
  pub twin_places : place (twin d) ≡ place (twin e)
  pub two_places : place d ≢ place (twin d)
  pub company : (next d ≢ d) × (next (twin d) ≢ twin d)
  pub other_company : (next e ≢ e) × (next (twin e) ≢ twin e)
  pub no_bridges : IsNoBridge m next d × IsNoBridge m next e
  pub first_meets : (c : ℕ) → begins d c ≡ true → ends e c ≡ true
  pub second_meets : (c : ℕ) → begins e c ≡ true → ends d c ≡ true
  pub first_twin_meets : (c : ℕ) → begins (twin d) c ≡ true → ends (twin e) c ≡ true
  pub second_twin_meets : (c : ℕ) → begins (twin e) c ≡ true → ends (twin d) c ≡ true

-- links that make no circle among the parts, all of different edges
abbrev pub AreLinksOf : ℕ → (ℕ → ℕ) → (ℕ → ℕ) → (ℕ → ℕ → Bool) → (ℕ → ℕ → Bool) → (ℕ → ℕ) → List (ℕ × ℕ) → Type 0
AreLinksOf m next place ends begins part [] = Unit {0}
AreLinksOf m next place ends begins part (link ∷ links) = IsLinkOf m next place ends begins link.0 link.1 × (is_used links link.0 ≡ false) × (is_used links link.1 ≡ false)
    × (connected (part_links part links) (part link.0) (part link.1) ≡ false) × AreLinksOf m next place ends begins part links

-- `after` is what the gluing along these links makes of the map: it has the same places; what is connected now lies in
-- parts that the links join; used darts are alone, and no others that had company; other edges that were no bridges are none; it
-- is plane where the map was, and only there; and behind each dart begins what follows it
pub record IsStage (m : ℕ) (next : ℕ → ℕ) (place : ℕ → ℕ) (ends begins : ℕ → ℕ → Bool) (part : ℕ → ℕ) (links : List (ℕ × ℕ)) (after before : ℕ → ℕ) : Type 0 where
  pub places : (x : ℕ) → x < 2 * m → place (after x) ≡ place x
  pub within : (x : ℕ) → x < 2 * m → connected (part_links part links) (part x) (part (after x)) ≡ true
  pub company : (x : ℕ) → x < 2 * m → next x ≢ x → is_used links x ≡ false → after x ≢ x
  pub alone : (x : ℕ) → x < 2 * m → is_used links x ≡ true → after x ≡ x
  pub still : (x : ℕ) → x < 2 * m → next x ≡ x → after x ≡ x
  pub no_bridges : (x : ℕ) → x < 2 * m → IsNoBridge m next x → is_used links x ≡ false → IsNoBridge m after x
  pub follows : (x : ℕ) → x < 2 * m → is_used links x ≡ false → (c : ℕ) → ends x c ≡ true → begins (after x) c ≡ true
  pub is_map : IsMap m after before
  pub plane : IsPlane m next → IsPlane m after
  pub plane_back : IsPlane m after → IsPlane m next
