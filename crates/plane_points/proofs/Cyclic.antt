-- Lists that go counterclockwise: a part of one, one more at the end, and how often such a list falls back.
use Rattle.std.proofs.Common.{◌≡◌, ℕ, ◌⊎◌, inl, inr, Bool, true, false, List, [], ◌∷◌, ◌++◌, map, filter, refl, sym, ap, ap₂, ◌∙◌, subst, append_assoc, append-nil}
use Rattle.std.proofs.lemmas.Bool.{cases_Bool, false≢true}
use Rattle.std.proofs.lemmas.List.Elements.{filter-append}
use Rattle.std.proofs.lemmas.List.{map-append}
use Rattle.plane_points.specs.Turning.{comes_before, IsCounterclockwise}
use Rattle.plane_points.proofs.Directions.{Comes, comes-true, true-comes, comes-trans, comes-once, Around}
use Rattle.plane_points.proofs.Rising.{Each, Rises, each-map, rises-map, rises-pairs, pairs-rises, each-append, each-second, rises-append, rises-first, rises-second, rises-across}

-- the members in counterclockwise order, by recursion
abbrev pub Counter : ℕ × ℕ → List (ℕ × ℕ) → Type 0
Counter c l = (front : List (ℕ × ℕ)) × (back : List (ℕ × ℕ)) × (l ≡ front ++ back) × Rises (Comes c) (back ++ front)

pub counter-from : (c : ℕ × ℕ) (l : List (ℕ × ℕ)) → IsCounterclockwise c l → Counter c l
counter-from c l w = (w.turn.front, w.turn.back, w.turn.before, subst (Rises (Comes c)) w.turn.after (rises-map (λ p q. comes_before c p q ≡ true) (Comes c) (comes-true c) w.turned (pairs-rises (λ p q. comes_before c p q ≡ true) w.turned w.rises)))

pub counter-to : (c : ℕ × ℕ) (l : List (ℕ × ℕ)) → Counter c l → IsCounterclockwise c l
counter-to c l w = record {
  turned = w.1 ++ w.0;
  turn = record { front = w.0; back = w.1; before = w.2; after = refl };
  rises = rises-pairs (λ p q. comes_before c p q ≡ true) (w.1 ++ w.0) (rises-map (Comes c) (λ p q. comes_before c p q ≡ true) (true-comes c) (w.1 ++ w.0) w.3);
}

-- a list of images that is cut is cut before it is mapped
map-cut : {X : Type 0} (f : X → ℕ × ℕ) (l : List X) (a b : List (ℕ × ℕ)) → map f l ≡ a ++ b → (k : List X) × (m : List X) × (l ≡ k ++ m) × (map f k ≡ a) × (map f m ≡ b)
map-cut f l [] b e = ([], l, refl, refl, e)
map-cut f [] (p ∷ a) b e = absurd (nil_not_cons p (a ++ b) e)
  where
    is_nil : List (ℕ × ℕ) → Bool
    is_nil [] = true
    is_nil (x ∷ xs) = false

    nil_not_cons : (p : ℕ × ℕ) (t : List (ℕ × ℕ)) → [] ≡ p ∷ t → ⊥
    nil_not_cons p t h = false≢true (sym (ap is_nil h))
map-cut {X} f (x ∷ l) (p ∷ a) b e = let w = map-cut f l a b (ap rest e) in (x ∷ w.0, w.1, ap (λ (t : List X). x ∷ t) w.2, ap₂ ◌∷◌ (ap (head p) e) w.3, w.4)
  where
    rest : List (ℕ × ℕ) → List (ℕ × ℕ)
    rest [] = []
    rest (y ∷ ys) = ys

    head : ℕ × ℕ → List (ℕ × ℕ) → ℕ × ℕ
    head d [] = d
    head d (y ∷ ys) = y

-- a part of a counterclockwise list is counterclockwise
pub counter-part : {X : Type 0} (c : ℕ × ℕ) (f : X → ℕ × ℕ) (keep : X → Bool) (l : List X) → Counter c (map f l) → Counter c (map f (filter keep l))
counter-part {X} c f keep l w = (
  map f (filter keep k.0),
  map f (filter keep k.1),
  ap (map f) (ap (filter keep) k.2 ∙ filter-append keep k.0 k.1) ∙ map-append f (filter keep k.0) (filter keep k.1),
  subst (Rises (Comes c)) (map-append f (filter keep k.1) (filter keep k.0)) (subst (λ (t : List X). Rises (Comes c) (map f t)) (filter-append keep k.1 k.0) (kept (k.1 ++ k.0) whole)),
)
  where
    k : (a : List X) × (b : List X) × (l ≡ a ++ b) × (map f a ≡ w.0) × (map f b ≡ w.1)
    k = map-cut f l w.0 w.1 w.2

    whole : Rises (Comes c) (map f (k.1 ++ k.0))
    whole = subst (Rises (Comes c)) (sym (map-append f k.1 k.0)) (subst (λ (t : List (ℕ × ℕ)). Rises (Comes c) (map f k.1 ++ t)) (sym k.3) (subst (λ (t : List (ℕ × ℕ)). Rises (Comes c) (t ++ w.0)) (sym k.4) w.3))

    each-kept : (P : ℕ × ℕ → Type 0) (t : List X) → Each P (map f t) → Each P (map f (filter keep t))
    each-kept P [] e = tt
    each-kept P (x ∷ t) e = elim (cases_Bool (keep x)) [ inl h ↦ rw h (e.0, each-kept P t e.1) | inr h ↦ rw h (each-kept P t e.1) ]

    kept : (t : List X) → Rises (Comes c) (map f t) → Rises (Comes c) (map f (filter keep t))
    kept [] r = tt
    kept (x ∷ t) r = elim (cases_Bool (keep x)) [ inl h ↦ rw h (each-kept (Comes c (f x)) t r.0, kept t r.1) | inr h ↦ rw h (kept t r.1) ]

-- all of a list comes before b where its last member does, and after b where its first does
end-before : (c b x : ℕ × ℕ) (k : List (ℕ × ℕ)) → Rises (Comes c) (k ++ x ∷ []) → Comes c x b → Each (λ z. Comes c z b) (k ++ x ∷ [])
end-before c b x k r h = each-append (λ z. Comes c z b) k (x ∷ []) (each-map (λ z. Each (Comes c z) (x ∷ [])) (λ z. Comes c z b) (λ z e. comes-trans c z x b e.0 h) k (rises-across (Comes c) k (x ∷ []) r)) (h, tt)

start-after : (c b y : ℕ × ℕ) (m : List (ℕ × ℕ)) → Rises (Comes c) (y ∷ m) → Comes c b y → Each (Comes c b) (y ∷ m)
start-after c b y m r h = (h, each-map (Comes c y) (Comes c b) (λ z e. comes-trans c b y z h e) m r.0)

-- the last member of a list, in two ways
two-lasts : (a k : List (ℕ × ℕ)) (x z : ℕ × ℕ) → a ++ z ∷ [] ≡ k ++ x ∷ [] → z ≡ x
two-lasts a k x z e = sym (last-is a z) ∙ ap (last z) e ∙ last-at k x z
  where
    last : ℕ × ℕ → List (ℕ × ℕ) → ℕ × ℕ
    last d [] = d
    last d (y ∷ ys) = last y ys

    last-at : (k : List (ℕ × ℕ)) (x d : ℕ × ℕ) → last d (k ++ x ∷ []) ≡ x
    last-at [] x d = refl
    last-at (y ∷ k) x d = last-at k x y

    last-is : (a : List (ℕ × ℕ)) (z : ℕ × ℕ) → last z (a ++ z ∷ []) ≡ z
    last-is a z = last-at a z z

-- a list is empty or has a last member
last-cut : (l : List (ℕ × ℕ)) → (l ≡ []) ⊎ ((k : List (ℕ × ℕ)) × (x : ℕ × ℕ) × (l ≡ k ++ x ∷ []))
last-cut [] = inl refl
last-cut (y ∷ l) = elim (last-cut l) [
  | inl e ↦ inr ([], y, ap (λ (t : List (ℕ × ℕ)). y ∷ t) e)
  | inr w ↦ inr (y ∷ w.0, w.1, ap (λ (t : List (ℕ × ℕ)). y ∷ t) w.2)
]

-- the first and the last member of a list with b put between them on the way around, counterclockwise
pub counter-more : (c b x y : ℕ × ℕ) (l k m : List (ℕ × ℕ)) → Counter c l → l ≡ y ∷ m → l ≡ k ++ x ∷ [] → Around c x b y → (Comes c x y ⊎ Comes c y x) → Counter c (l ++ b ∷ [])
counter-more c b x y l k m (front, back, e, r) first end around apart = go (last-cut back) front e r
  where
    -- nothing was turned: b before all or after all
    flat : Rises (Comes c) l → Counter c (l ++ b ∷ [])
    flat s = place around
      where
        ordered : Comes c y x ⊎ (x ≡ y)
        ordered = ends k m (sym end ∙ first) (subst (Rises (Comes c)) end s)
          where
            ends : (k m : List (ℕ × ℕ)) → k ++ x ∷ [] ≡ y ∷ m → Rises (Comes c) (k ++ x ∷ []) → Comes c y x ⊎ (x ≡ y)
            ends [] m e r = inr (ap (head x) e)
              where
                head : ℕ × ℕ → List (ℕ × ℕ) → ℕ × ℕ
                head d [] = d
                head d (y ∷ ys) = y
            ends (z ∷ k) m e r = inl (subst (λ (p : ℕ × ℕ). Comes c p x) (ap (head x) e) (each-second (Comes c z) k (x ∷ []) r.0).0)
              where
                head : ℕ × ℕ → List (ℕ × ℕ) → ℕ × ℕ
                head d [] = d
                head d (y ∷ ys) = y

        up : Comes c y x
        up = elim ordered [ inl h ↦ h | inr q ↦ elim apart [ inl h ↦ absurd (comes-once c x y h (subst (λ (p : ℕ × ℕ). Comes c p x) q (subst (Comes c x) (sym q) h))) | inr h ↦ h ] ]

        place : Around c x b y → Counter c (l ++ b ∷ [])
        place (inl s) = absurd (comes-once c x y (comes-trans c x b y s.0 s.1) up)
        place (inr (inl t)) = (l, b ∷ [], refl, (subst (Each (Comes c b)) (sym first) (start-after c b y m (subst (Rises (Comes c)) first s) t.0), s))
        place (inr (inr t)) = (l ++ b ∷ [], [], sym (append-nil (l ++ b ∷ [])), rises-append (Comes c) l (b ∷ []) s (tt, tt) (each-map (λ z. Comes c z b) (λ z. Each (Comes c z) (b ∷ [])) (λ z h. (h, tt)) l (subst (Each (λ z. Comes c z b)) (sym end) (end-before c b x k (subst (Rises (Comes c)) end s) t.1))))

    -- b is put between the two stretches
    between : (t f : List (ℕ × ℕ)) → l ≡ (y ∷ f) ++ (t ++ x ∷ []) → Rises (Comes c) ((t ++ x ∷ []) ++ (y ∷ f)) → Around c x b y → Counter c (l ++ b ∷ [])
    between t f e r s = place s
      where
        across : Each (λ p. Each (Comes c p) (y ∷ f)) (t ++ x ∷ [])
        across = rises-across (Comes c) (t ++ x ∷ []) (y ∷ f) r

        up : Comes c x y
        up = (each-second (λ p. Each (Comes c p) (y ∷ f)) t (x ∷ []) across).0.0

        place : Around c x b y → Counter c (l ++ b ∷ [])
        place (inl s) = (
          y ∷ f,
          (t ++ x ∷ []) ++ b ∷ [],
          ap (λ (u : List (ℕ × ℕ)). u ++ b ∷ []) e ∙ append_assoc (y ∷ f) (t ++ x ∷ []) (b ∷ []),
          rises-append (Comes c) ((t ++ x ∷ []) ++ b ∷ []) (y ∷ f)
              (rises-append (Comes c) (t ++ x ∷ []) (b ∷ []) (rises-first (Comes c) (t ++ x ∷ []) (y ∷ f) r) (tt, tt)
              (each-map (λ z. Comes c z b) (λ z. Each (Comes c z) (b ∷ [])) (λ z h. (h, tt)) (t ++ x ∷ []) (end-before c b x t (rises-first (Comes c) (t ++ x ∷ []) (y ∷ f) r) s.0)))
              (rises-second (Comes c) (t ++ x ∷ []) (y ∷ f) r)
              (each-append (λ p. Each (Comes c p) (y ∷ f)) (t ++ x ∷ []) (b ∷ []) across (start-after c b y f (rises-second (Comes c) (t ++ x ∷ []) (y ∷ f) r) s.1, tt)),
        )
        place (inr (inl s)) = absurd (comes-once c x y up s.1)
        place (inr (inr s)) = absurd (comes-once c x y up s.0)

    go : (back ≡ []) ⊎ ((t : List (ℕ × ℕ)) × (z : ℕ × ℕ) × (back ≡ t ++ z ∷ [])) → (f : List (ℕ × ℕ)) → l ≡ f ++ back → Rises (Comes c) (back ++ f) → Counter c (l ++ b ∷ [])
    go (inl n) f e r = flat (subst (Rises (Comes c)) (sym (e ∙ ap (λ (u : List (ℕ × ℕ)). f ++ u) n ∙ append-nil f)) (subst (λ (u : List (ℕ × ℕ)). Rises (Comes c) (u ++ f)) n r))
    go (inr w) [] e r = flat (subst (Rises (Comes c)) (append-nil back ∙ sym e) r)
    go (inr (t, z, h)) (p ∷ f) e r = between t f
        (e ∙ ap₂ (λ (q : ℕ × ℕ) (u : List (ℕ × ℕ)). (q ∷ f) ++ u) is-first (h ∙ ap (λ (q : ℕ × ℕ). t ++ q ∷ []) is-last))
        (subst (λ (q : ℕ × ℕ). Rises (Comes c) ((t ++ x ∷ []) ++ (q ∷ f))) is-first (subst (λ (u : List (ℕ × ℕ)). Rises (Comes c) (u ++ (p ∷ f))) (h ∙ ap (λ (q : ℕ × ℕ). t ++ q ∷ []) is-last) r)) around
      where
        head : ℕ × ℕ → List (ℕ × ℕ) → ℕ × ℕ
        head d [] = d
        head d (y ∷ ys) = y

        is-first : p ≡ y
        is-first = ap (head x) (sym e ∙ first)

        is-last : z ≡ x
        is-last = two-lasts ((p ∷ f) ++ t) k x z (append_assoc (p ∷ f) t (z ∷ []) ∙ ap (λ (u : List (ℕ × ℕ)). (p ∷ f) ++ u) (sym h) ∙ sym e ∙ end)
