-- Lists of numbers and their images as points: ends, members one by one and two by two, and lists that go counterclockwise.
use Rattle.std.proofs.Common.{◌≡◌, ◌≢◌, ℕ, ◌⊎◌, inl, inr, true, List, [], ◌∷◌, ◌++◌, length, reverse, map, arith, refl, sym, ap, ap₂, ◌∙◌, subst, append_assoc}
use Rattle.std.proofs.lemmas.Bool.{true≢false, both_ways}
use Rattle.std.proofs.lemmas.List.{map-append, reverse-append, length-append}
use Rattle.permutations.specs.Members.{is_member, is_distinct}
use Rattle.permutations.specs.Cyclic.{first_or, last_or, successor, IsTurn}
use Rattle.permutations.proofs.Members.{member-head, member-tail, member-cases, member-append_right, distinct-append_apart, CutAt, cut_at}
use Rattle.permutations.proofs.Successor.{first_or-append, successor-cut}
use Rattle.permutations.proofs.Turned.{IsTurn-refl, IsTurn-sym}
use Rattle.permutations.proofs.CyclicSame.{IsTurn-trans}
use Rattle.plane_points.specs.Turning.{comes_before, IsCounterclockwise}
use Rattle.plane_points.proofs.Rising.{Each, Rises, rises-pairs}
use Rattle.canonical_orders.specs.Contours.{Successive}

-- a list that is not empty has a last member
pub last-cut : (x : ℕ) (l : List ℕ) → (k : List ℕ) × (z : ℕ) × (x ∷ l ≡ k ++ z ∷ [])
last-cut x [] = ([], x, refl)
last-cut x (y ∷ l) = let w = last-cut y l in (x ∷ w.0, w.1, ap (λ (t : List ℕ). x ∷ t) w.2)

pub last_or-end : (d : ℕ) (k : List ℕ) (z : ℕ) → last_or d (k ++ z ∷ []) ≡ z
last_or-end d k z = ap (first_or d) (reverse-append k (z ∷ []))

pub last_or-cons : (d y : ℕ) (l : List ℕ) → last_or d (y ∷ l) ≡ last_or y l
last_or-cons d y [] = refl
last_or-cons d y (x ∷ l) = let w : (k : List ℕ) × (z : ℕ) × (x ∷ l ≡ k ++ z ∷ []) = last-cut x l in
    ap (λ (t : List ℕ). last_or d (y ∷ t)) w.2 ∙ last_or-end d (y ∷ w.0) w.1 ∙ sym (ap (last_or y) w.2 ∙ last_or-end y w.0 w.1)

pub last_or-member : (x : ℕ) (l : List ℕ) → is_member (last_or x l) (x ∷ l) ≡ true
last_or-member x l = let w : (k : List ℕ) × (z : ℕ) × (x ∷ l ≡ k ++ z ∷ []) = last-cut x l in
    ap (is_member (last_or x l)) w.2 ∙ subst (λ (y : ℕ). is_member y (w.0 ++ w.1 ∷ []) ≡ true) (sym (sym (last_or-cons x x l) ∙ ap (last_or x) w.2 ∙ last_or-end x w.0 w.1)) (member-append_right w.1 w.0 (w.1 ∷ []) (member-head w.1 []))

-- the parts of equal lists
pub cons-first : {X : Type 0} (x y : X) (l k : List X) → x ∷ l ≡ y ∷ k → x ≡ y
cons-first {X} x y l k e = ap first e
  where
    first : List X → X
    first [] = x
    first (z ∷ s) = z

pub cons-rest : {X : Type 0} (x y : X) (l k : List X) → x ∷ l ≡ y ∷ k → l ≡ k
cons-rest {X} x y l k e = ap rest e
  where
    rest : List X → List X
    rest [] = []
    rest (z ∷ s) = s

-- functions that agree on the members
pub map-alike : {X : Type 0} (f g : ℕ → X) (l : List ℕ) → ((x : ℕ) → is_member x l ≡ true → f x ≡ g x) → map f l ≡ map g l
map-alike f g [] h = refl
map-alike f g (x ∷ l) h = ap₂ ◌∷◌ (h x (member-head x l)) (map-alike f g l (λ y n. h y (member-tail y x l n)))

-- one last member, in two ways
pub last-same : {X : Type 0} (a : List X) (z : X) (k : List X) (x : X) → a ++ z ∷ [] ≡ k ++ x ∷ [] → z ≡ x
last-same {X} a z k x e = sym (ap (head z) (reverse-append a (z ∷ []))) ∙ ap (λ (l : List X). head z (reverse l)) e ∙ ap (head z) (reverse-append k (x ∷ []))
  where
    head : X → List X → X
    head d [] = d
    head d (y ∷ ys) = y

-- the image of the last member is the last image
pub last-image : (f : ℕ → ℕ × ℕ) (d : ℕ) (l : List ℕ) (k : List (ℕ × ℕ)) (b : ℕ × ℕ) → map f l ≡ k ++ b ∷ [] → f (last_or d l) ≡ b
last-image f d [] k b e = absurd (omega (arith, ap length e, length-append k (b ∷ [])))
last-image f d (x ∷ l) k b e = let w : (k : List ℕ) × (z : ℕ) × (x ∷ l ≡ k ++ z ∷ []) = last-cut x l in
    ap (λ (t : List ℕ). f (last_or d t)) w.2 ∙ ap f (last_or-end d w.0 w.1)
    ∙ last-same (map f w.0) (f w.1) k b (sym (map-append f w.0 (w.1 ∷ [])) ∙ sym (ap (map f) w.2) ∙ e)

-- a chain from some member on
pub chain-from : (R : ℕ → ℕ → Type 0) (k l : List ℕ) → Successive R (k ++ l) → Successive R l
chain-from R [] l s = s
chain-from R (a ∷ []) [] s = tt
chain-from R (a ∷ []) (b ∷ l) s = s.1
chain-from R (a ∷ b ∷ k) l s = chain-from R (b ∷ k) l s.1

-- the image of a member has what each image has
pub each-image : (P : ℕ × ℕ → Type 0) (f : ℕ → ℕ × ℕ) (l : List ℕ) → Each P (map f l) → (x : ℕ) → is_member x l ≡ true → P (f x)
each-image P f [] e x m = absurd (true≢false (sym m))
each-image P f (y ∷ l) e x m = elim (member-cases x y l m) [ inl q ↦ subst (λ (z : ℕ). P (f z)) q e.0 | inr n ↦ each-image P f l e.1 x n ]

-- two different members have images that are related, one way or the other
pub rises-images : (L : ℕ × ℕ → ℕ × ℕ → Type 0) (f : ℕ → ℕ × ℕ) (l : List ℕ) → Rises L (map f l) → (c d : ℕ) → is_member c l ≡ true → is_member d l ≡ true → c ≢ d → L (f c) (f d) ⊎ L (f d) (f c)
rises-images L f [] r c d m n a = absurd (true≢false (sym m))
rises-images L f (x ∷ l) r c d m n a = elim (member-cases c x l m) [
  | inl p ↦ elim (member-cases d x l n) [
    | inl q ↦ absurd (a (sym p ∙ q))
    | inr k ↦ inl (subst (λ (z : ℕ). L (f z) (f d)) p (each-image (L (f x)) f l r.0 d k))
  ]
  | inr j ↦ elim (member-cases d x l n) [
    | inl q ↦ inr (subst (λ (z : ℕ). L (f z) (f c)) q (each-image (L (f x)) f l r.0 c j))
    | inr k ↦ rises-images L f l r.1 c d j k a
  ]
]

-- in a cyclic order, who is followed by the first member is the last one
pub before-first : (y z : ℕ) (r : List ℕ) → is_distinct (y ∷ r) ≡ true → is_member z (y ∷ r) ≡ true → successor (y ∷ r) z ≡ y → (k : List ℕ) × (y ∷ r ≡ k ++ z ∷ [])
before-first y z r d m s = go (cut_at z (y ∷ r) m)
  where
    among : (u : List ℕ) → is_member (first_or z u) (u ++ z ∷ []) ≡ true
    among [] = member-head z []
    among (x ∷ u) = member-head x (u ++ z ∷ [])

    go : CutAt z (y ∷ r) → (k : List ℕ) × (y ∷ r ≡ k ++ z ∷ [])
    go c = here c.front c.back c.is (sym (ap (λ (l : List ℕ). successor l z) c.is ∙ successor-cut c.front z c.back c.first) ∙ s)
      where
        here : (u v : List ℕ) → y ∷ r ≡ u ++ z ∷ v → first_or (first_or z u) v ≡ y → (k : List ℕ) × (y ∷ r ≡ k ++ z ∷ [])
        here u [] e f = (u, e)
        here u (w ∷ v) e f =
            let q : y ≡ first_or z u = ap (first_or z) e ∙ first_or-append z u (z ∷ w ∷ v) in
            let p : is_distinct ((u ++ z ∷ []) ++ w ∷ v) ≡ true = subst (λ (l : List ℕ). is_distinct l ≡ true) (e ∙ sym (append_assoc u (z ∷ []) (w ∷ v))) d in
            absurd (both_ways (is_member w (w ∷ v)) (distinct-append_apart (u ++ z ∷ []) (w ∷ v) p w (subst (λ (x : ℕ). is_member x (u ++ z ∷ []) ≡ true) (sym (f ∙ q)) (among u))) (member-head w v))

-- a list without repetition that begins and ends with y is y alone
pub alone : (y : ℕ) (r k : List ℕ) → is_distinct (y ∷ r) ≡ true → y ∷ r ≡ k ++ y ∷ [] → r ≡ []
alone y r [] d e = ap rest e
  where
    rest : List ℕ → List ℕ
    rest [] = []
    rest (x ∷ l) = l
alone y r (x ∷ k) d e = absurd (both_ways (is_member y (y ∷ [])) (distinct-append_apart (x ∷ k) (y ∷ []) (subst (λ (l : List ℕ). is_distinct l ≡ true) e d) y
    (subst (λ (z : ℕ). is_member z (x ∷ k) ≡ true) (sym (ap (first_or y) e)) (member-head x k))) (member-head y []))

-- lists that go counterclockwise: a turn of one, and lists of at most two
pub counter-turn : (c : ℕ × ℕ) (l k : List (ℕ × ℕ)) → IsTurn l k → IsCounterclockwise c l → IsCounterclockwise c k
counter-turn c l k t w = record { turned = w.turned; turn = IsTurn-trans k l w.turned (IsTurn-sym l k t) w.turn; rises = w.rises }

pub counter-none : (c : ℕ × ℕ) → IsCounterclockwise c []
counter-none c = record { turned = []; turn = IsTurn-refl []; rises = rises-pairs (λ p q. comes_before c p q ≡ true) [] tt }

pub counter-one : (c p : ℕ × ℕ) → IsCounterclockwise c (p ∷ [])
counter-one c p = record { turned = p ∷ []; turn = IsTurn-refl (p ∷ []); rises = rises-pairs (λ p q. comes_before c p q ≡ true) (p ∷ []) (tt, tt) }

pub counter-two : (c p q : ℕ × ℕ) → comes_before c p q ≡ true → IsCounterclockwise c (p ∷ q ∷ [])
counter-two c p q h = record { turned = p ∷ q ∷ []; turn = IsTurn-refl (p ∷ q ∷ []); rises = rises-pairs (λ p q. comes_before c p q ≡ true) (p ∷ q ∷ []) ((h, tt), (tt, tt)) }
