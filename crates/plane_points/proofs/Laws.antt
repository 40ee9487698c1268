-- The statements of the laws.
use Rattle.std.proofs.Common.{◌≡◌, ◌⊎◌, inl, inr, true, [], ◌∷◌, ◌++◌, map, filter, refl, sym}
use Rattle.std.proofs.lemmas.Bool.{false_from_ne_true}
use Rattle.plane_points.specs.Turning.{turns_left, comes_before}
use Rattle.plane_points.specs.Laws.{DirectionsAreOrdered, FallsTell, PartsGoAround, OneMoreGoesAround, SegmentsMeet, PointsOfSegments, RaysAreApart, RaysMeet}
use Rattle.plane_points.proofs.Turns.{left-true}
use Rattle.plane_points.proofs.Directions.{Comes, comes-true, true-comes, comes-trans, comes-once, Around, around-next, turns-around}
use Rattle.plane_points.proofs.Cyclic.{counter-from, counter-to, counter-part, counter-more}
use Rattle.plane_points.proofs.Falls.{falls-tell}
use Rattle.plane_points.proofs.Segments.{meet-apart, near-meet}
use Rattle.plane_points.proofs.Rays.{weighted-on, on-weighted, rays-apart, rays-meet}

pub directions_are_ordered : DirectionsAreOrdered
directions_are_ordered c p q r = ((λ h k. true-comes c p r (comes-trans c p q r (comes-true c p q h) (comes-true c q r k))), (λ h. false_from_ne_true (comes_before c q p) (λ k. comes-once c p q (comes-true c p q h) (comes-true c q p k))))

pub falls_tell : FallsTell
falls_tell = falls-tell

pub parts_go_around : PartsGoAround
parts_go_around c place keep l w = counter-to c (map place (filter keep l)) (counter-part c place keep l (counter-from c (map place l) w))

pub one_more_goes_around : OneMoreGoesAround
one_more_goes_around c b x y k m e w apart turns = counter-to c ((y ∷ m) ++ b ∷ []) (counter-more c b x y (y ∷ m) k m (counter-from c (y ∷ m) w) refl (sym e) (around turns) (either apart))
  where
    around : ((turns_left c x b ≡ true) × (turns_left c b y ≡ true)) ⊎ (((turns_left c b y ≡ true) × (turns_left c y x ≡ true)) ⊎ ((turns_left c y x ≡ true) × (turns_left c x b ≡ true))) → Around c x b y
    around (inl s) = turns-around c x b y (left-true c x b s.0) (left-true c b y s.1)
    around (inr (inl s)) = around-next c y x b (turns-around-of s)
      where
        turns-around-of : (turns_left c b y ≡ true) × (turns_left c y x ≡ true) → Around c y x b
        turns-around-of s = around-next c b y x (turns-around c b y x (left-true c b y s.0) (left-true c y x s.1))
    around (inr (inr s)) = around-next c y x b (turns-around c y x b (left-true c y x s.0) (left-true c x b s.1))

    either : (comes_before c x y ≡ true) ⊎ (comes_before c y x ≡ true) → Comes c x y ⊎ Comes c y x
    either (inl h) = inl (comes-true c x y h)
    either (inr h) = inr (comes-true c y x h)

pub segments_meet : SegmentsMeet
segments_meet a b c d = ((λ h m. meet-apart a b c d m h), near-meet a b c d)

pub points_of_segments : PointsOfSegments
points_of_segments a b p = (on-weighted a b p, (λ w. weighted-on a b p w.0 w.1 w.2 w.3))

pub rays_are_apart : RaysAreApart
rays_are_apart z p q h s t u w e m = rays-apart z p q s t u w e m h

pub rays_meet : RaysMeet
rays_meet = rays-meet
