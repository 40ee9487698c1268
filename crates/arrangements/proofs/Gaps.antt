-- Two blocks cross exactly where edges of the one are in two gaps of the other.
use Rattle.std.proofs.Common.{◌≡◌, ◌≢◌, ℕ, suc, ◌+◌, ◌<◌, ◌≤◌, ◌⊎◌, inl, inr, true, ◌==◌, if◌then◌else◌, List, [], ◌∷◌, ◌++◌, length, take, drop, get_or, refl, sym, ap, ◌∙◌, subst, arith, append_assoc, length-append}
use Rattle.std.proofs.lemmas.Bool.{cases_eq, cases_lt, eq-eqb, ne_eqb}
use Rattle.std.proofs.lemmas.List.{get_or-take, take-take, length-take-le}
use Rattle.std.proofs.lemmas.List.Elements.{filter-append}
use Rattle.permutations.proofs.Members.{CutAt, cut_at}
use Rattle.permutations.proofs.Filter.{filter-yes, filter-no}
use Rattle.arrangements.specs.Arranged.{of_block, cross}
use Rattle.arrangements.specs.Gaps.{edges_before, gap, InGaps}
use Rattle.arrangements.proofs.Lists.{cut-place, place-cut, take-cut}
use Rattle.arrangements.proofs.Changes.{Interleaved, cross-interleaved, cross-swap, four-cross}

-- how many edges of block b a list has
abbrev pub count_of : (ℕ → ℕ) → ℕ → List ℕ → ℕ
count_of block b l = length (of_block block b l)

-- of two lists joined
pub count-append : (block : ℕ → ℕ) (b : ℕ) (l k : List ℕ) → count_of block b (l ++ k) ≡ count_of block b l + count_of block b k
count-append block b l k = ap length (filter-append (λ e. block e == b) l k) ∙ length-append (of_block block b l) (of_block block b k)

-- an edge of b in front
pub count-own : (block : ℕ → ℕ) (b x : ℕ) (l : List ℕ) → block x ≡ b → count_of block b (x ∷ l) ≡ count_of block b l + 1
count-own block b x l e = let s : count_of block b (x ∷ l) ≡ suc (count_of block b l) = ap length (filter-yes (λ e. block e == b) x l (eq-eqb (block x) b e)) in omega (arith, s)

-- another edge in front
pub count-other : (block : ℕ → ℕ) (b x : ℕ) (l : List ℕ) → block x ≢ b → count_of block b (x ∷ l) ≡ count_of block b l
count-other block b x l n = ap length (filter-no (λ e. block e == b) x l (ne_eqb (block x) b n))

-- a list with an edge of b, cut there
record CutOf (block : ℕ → ℕ) (b : ℕ) (l : List ℕ) : Type 0 where
  pub front : List ℕ
  pub x : ℕ
  pub back : List ℕ
  pub is : l ≡ front ++ x ∷ back
  pub of_x : block x ≡ b

cut-of : (block : ℕ → ℕ) (b : ℕ) (l : List ℕ) → 0 < count_of block b l → CutOf block b l
cut-of block b [] h = absurd (omega arith)
cut-of block b (x ∷ l) h = elim (cases_eq (block x) b) [
  | inl e ↦ record { front = []; x = x; back = l; is = refl; of_x = e }
  | inr n ↦
      let r = cut-of block b l (omega (arith, h, count-other block b x l n)) in
      record { front = x ∷ r.front; x = r.x; back = r.back; is = ap (λ (k : List ℕ). x ∷ k) r.is; of_x = r.of_x }
]

-- a place with all edges of b before it
pub gap-last : (block : ℕ → ℕ) (b : ℕ) (l : List ℕ) (p : ℕ) → edges_before block b l p ≡ count_of block b l → gap block b l p ≡ 0
gap-last block b l p e = rw (eq-eqb (edges_before block b l p) (count_of block b l) e) refl

-- another one
pub gap-inner : (block : ℕ → ℕ) (b : ℕ) (l : List ℕ) (p : ℕ) → edges_before block b l p ≢ count_of block b l → gap block b l p ≡ edges_before block b l p
gap-inner block b l p n = rw (ne_eqb (edges_before block b l p) (count_of block b l) n) refl

-- the place after a front
pub before-cut : (block : ℕ → ℕ) (b : ℕ) (u v : List ℕ) → edges_before block b (u ++ v) (length u) ≡ count_of block b u
before-cut block b u v = ap (count_of block b) (take-cut u v)

-- a list cut at two of its places
record CutTwice (l : List ℕ) (p q : ℕ) : Type 0 where
  pub front : List ℕ
  pub middle : List ℕ
  pub back : List ℕ
  pub is : l ≡ front ++ get_or l p 0 ∷ (middle ++ get_or l q 0 ∷ back)
  pub to_p : take p l ≡ front
  pub to_q : take q l ≡ front ++ get_or l p 0 ∷ middle

cut-twice : (l : List ℕ) (p q : ℕ) → p < q → q < length l → CutTwice l p q
cut-twice l p q h w = record {
  front = take p l;
  middle = middle;
  back = drop (q + 1) l;
  is = cut-place l q w ∙ ap (λ (z : List ℕ). z ++ y ∷ drop (q + 1) l) to ∙ append_assoc (take p l) (x ∷ middle) (y ∷ drop (q + 1) l);
  to_p = refl;
  to_q = to;
}
  where
    x : ℕ
    x = get_or l p 0

    y : ℕ
    y = get_or l q 0

    middle : List ℕ
    middle = drop (p + 1) (take q l)

    to : take q l ≡ take p l ++ x ∷ middle
    to =
        cut-place (take q l) p (omega (arith, h, length-take-le q l (omega (arith, w))))
        ∙ ap (λ (z : List ℕ). z ++ get_or (take q l) p 0 ∷ middle) (take-take p q l (omega (arith, h)))
        ∙ ap (λ (z : ℕ). take p l ++ z ∷ middle) (get_or-take q l p 0 h)

-- where two edges of c are in different gaps of b, the blocks cross
pub gaps-cross : (block : ℕ → ℕ) (b c : ℕ) (l : List ℕ) → b ≢ c → (p q : ℕ) → p < q → q < length l → block (get_or l p 0) ≡ c → block (get_or l q 0) ≡ c
    → gap block b l p ≢ gap block b l q → cross block b c l ≡ true
gaps-cross block b c l n p q h w ep eq differ = elim (cases_lt 0 (count_of block b k.back)) [
  | inl after ↦ at_end (cut-of block b k.back after)
  | inr none ↦ at_start (cut-of block b k.front (start none))
]
  where
    k : CutTwice l p q
    k = cut-twice l p q h w

    x : ℕ
    x = get_or l p 0

    y : ℕ
    y = get_or l q 0

    nx : block x ≢ b
    nx e = n (sym e ∙ ep)

    ny : block y ≢ b
    ny e = n (sym e ∙ eq)

    at_p : edges_before block b l p ≡ count_of block b k.front
    at_p = ap (count_of block b) k.to_p

    at_q : edges_before block b l q ≡ count_of block b k.front + count_of block b k.middle
    at_q = ap (count_of block b) k.to_q ∙ count-append block b k.front (x ∷ k.middle) ∙ ap (λ (z : ℕ). count_of block b k.front + z) (count-other block b x k.middle nx)

    total : count_of block b l ≡ count_of block b k.front + (count_of block b k.middle + count_of block b k.back)
    total =
        ap (count_of block b) k.is
        ∙ count-append block b k.front (x ∷ (k.middle ++ y ∷ k.back))
        ∙ ap (λ (z : ℕ). count_of block b k.front + z) (count-other block b x (k.middle ++ y ∷ k.back) nx ∙ count-append block b k.middle (y ∷ k.back) ∙ ap (λ (z : ℕ). count_of block b k.middle + z) (count-other block b y k.back ny))

    -- some edge of b is between the two
    between : 0 < count_of block b k.middle
    between = elim (cases_lt 0 (count_of block b k.middle)) [
      | inl a ↦ a
      | inr z ↦
          let s : edges_before block b l p ≡ edges_before block b l q = omega (arith, at_p, at_q, z) in
          absurd (differ (ap (λ (v : ℕ). if v == count_of block b l then 0 else v) s))
    ]

    m : CutOf block b k.middle
    m = cut-of block b k.middle between

    -- none after the second: then one before the first
    start : count_of block b k.back ≤ 0 → 0 < count_of block b k.front
    start z = elim (cases_lt 0 (count_of block b k.front)) [
      | inl a ↦ a
      | inr f ↦ absurd (differ (gap-inner block b l p (λ e. absurd (omega (arith, e, at_p, total, between, f))) ∙ at_p ∙ sym (gap-last block b l q (omega (arith, at_q, total, z)) ∙ empty f)))
    ]
      where
        empty : count_of block b k.front ≤ 0 → 0 ≡ count_of block b k.front
        empty f = omega (arith, f)

    at_start : CutOf block b k.front → cross block b c l ≡ true
    at_start f = subst (λ (z : List ℕ). cross block b c z ≡ true) (sym all) (four-cross block b c f.front f.x f.back x m.front m.x m.back y k.back f.of_x ep m.of_x eq n)
      where
        all : l ≡ f.front ++ f.x ∷ (f.back ++ x ∷ (m.front ++ m.x ∷ (m.back ++ y ∷ k.back)))
        all =
            k.is
            ∙ ap (λ (z : List ℕ). z ++ x ∷ (k.middle ++ y ∷ k.back)) f.is
            ∙ append_assoc f.front (f.x ∷ f.back) (x ∷ (k.middle ++ y ∷ k.back))
            ∙ ap (λ (z : List ℕ). f.front ++ f.x ∷ (f.back ++ x ∷ z)) (ap (λ (z : List ℕ). z ++ y ∷ k.back) m.is ∙ append_assoc m.front (m.x ∷ m.back) (y ∷ k.back))

    at_end : CutOf block b k.back → cross block b c l ≡ true
    at_end f = subst (λ (z : List ℕ). cross block b c z ≡ true) (sym all)
        (cross-swap block b c whole ∙ four-cross block c b k.front x m.front m.x m.back y f.front f.x f.back ep m.of_x eq f.of_x (λ e. n (sym e)))
      where
        whole : List ℕ
        whole = k.front ++ x ∷ (m.front ++ m.x ∷ (m.back ++ y ∷ (f.front ++ f.x ∷ f.back)))

        all : l ≡ whole
        all =
            k.is
            ∙ ap (λ (z : List ℕ). k.front ++ x ∷ z) (ap (λ (z : List ℕ). z ++ y ∷ k.back) m.is ∙ append_assoc m.front (m.x ∷ m.back) (y ∷ k.back))
            ∙ ap (λ (z : List ℕ). k.front ++ x ∷ (m.front ++ m.x ∷ (m.back ++ y ∷ z))) f.is

-- a list cut at edges y and w of c, with an edge of b between them, and another one before y or after w
two-gaps : (block : ℕ → ℕ) (b c : ℕ) (u : List ℕ) (y : ℕ) (m : List ℕ) (w : ℕ) (v : List ℕ) → b ≢ c → block y ≡ c → block w ≡ c → 0 < count_of block b m
    → (0 < count_of block b u) ⊎ (0 < count_of block b v) → InGaps block b c (u ++ y ∷ (m ++ w ∷ v))
two-gaps block b c u y m w v n ey ew inner outer = record {
  p = length u;
  q = length front;
  order = omega (arith, length-append u (y ∷ m));
  within = omega (arith, ap length move, length-append front (w ∷ v));
  of_p = ap block (place-cut u y (m ++ w ∷ v)) ∙ ey;
  of_q = ap block (ap (λ (z : List ℕ). get_or z (length front) 0) (sym move) ∙ place-cut front w v) ∙ ew;
  differ = differ;
}
  where
    front : List ℕ
    front = u ++ y ∷ m

    l : List ℕ
    l = u ++ y ∷ (m ++ w ∷ v)

    move : front ++ w ∷ v ≡ l
    move = append_assoc u (y ∷ m) (w ∷ v)

    ny : block y ≢ b
    ny e = n (sym e ∙ ey)

    nw : block w ≢ b
    nw e = n (sym e ∙ ew)

    at_p : edges_before block b l (length u) ≡ count_of block b u
    at_p = before-cut block b u (y ∷ (m ++ w ∷ v))

    at_q : edges_before block b l (length front) ≡ count_of block b u + count_of block b m
    at_q =
        ap (λ (z : List ℕ). edges_before block b z (length front)) (sym move) ∙ before-cut block b front (w ∷ v)
        ∙ count-append block b u (y ∷ m) ∙ ap (λ (z : ℕ). count_of block b u + z) (count-other block b y m ny)

    total : count_of block b l ≡ count_of block b u + (count_of block b m + count_of block b v)
    total =
        count-append block b u (y ∷ (m ++ w ∷ v))
        ∙ ap (λ (z : ℕ). count_of block b u + z) (count-other block b y (m ++ w ∷ v) ny ∙ count-append block b m (w ∷ v) ∙ ap (λ (z : ℕ). count_of block b m + z) (count-other block b w v nw))

    first : gap block b l (length u) ≡ count_of block b u
    first = gap-inner block b l (length u) (λ e. absurd (omega (arith, e, at_p, total, inner))) ∙ at_p

    differ : gap block b l (length u) ≢ gap block b l (length front)
    differ e = elim (cases_eq (edges_before block b l (length front)) (count_of block b l)) [
      | inl s ↦
          let z : count_of block b u ≡ 0 = sym first ∙ e ∙ gap-last block b l (length front) s in
          absurd (elim outer [ inl a ↦ omega (arith, a, z) | inr a ↦ omega (arith, a, s, at_q, total) ])
      | inr s ↦
          let z : count_of block b u ≡ edges_before block b l (length front) = sym first ∙ e ∙ gap-inner block b l (length front) s in
          absurd (omega (arith, z, at_q, inner))
    ]

-- a member of b is counted
count-member : (block : ℕ → ℕ) (b x : ℕ) (u v : List ℕ) → block x ≡ b → 0 < count_of block b (u ++ x ∷ v)
count-member block b x u v e = omega (arith, count-append block b u (x ∷ v), count-own block b x v e)

-- where blocks cross, two edges of c are in different gaps of b
pub cross-gaps : (block : ℕ → ℕ) (b c : ℕ) (l : List ℕ) → cross block b c l ≡ true → InGaps block b c l
cross-gaps block b c l h = elim (cross-interleaved block b c l h) [
  | inl i ↦ outside block b c l i (cut_at i.w i.back i.later)
  | inr i ↦ inside block b c l i (cut_at i.w i.back i.later)
]
  where
    outside : (block : ℕ → ℕ) (b c : ℕ) (l : List ℕ) → (i : Interleaved block b c l) → CutAt i.w i.back → InGaps block b c l
    outside block b c l i g = subst (InGaps block b c) (sym all)
        (two-gaps block b c (i.front ++ i.x ∷ i.near) i.y (i.middle ++ i.z ∷ g.front) i.w g.back i.differ i.of_y i.of_w
        (count-member block b i.z i.middle g.front i.of_z) (inl (count-member block b i.x i.front i.near i.of_x)))
      where
        all : l ≡ (i.front ++ i.x ∷ i.near) ++ i.y ∷ ((i.middle ++ i.z ∷ g.front) ++ i.w ∷ g.back)
        all =
            i.is
            ∙ ap (λ (z : List ℕ). i.front ++ i.x ∷ (i.near ++ i.y ∷ (i.middle ++ i.z ∷ z))) g.is
            ∙ ap (λ (z : List ℕ). i.front ++ i.x ∷ (i.near ++ i.y ∷ z)) (sym (append_assoc i.middle (i.z ∷ g.front) (i.w ∷ g.back)))
            ∙ sym (append_assoc i.front (i.x ∷ i.near) (i.y ∷ ((i.middle ++ i.z ∷ g.front) ++ i.w ∷ g.back)))

    inside : (block : ℕ → ℕ) (b c : ℕ) (l : List ℕ) → (i : Interleaved block c b l) → CutAt i.w i.back → InGaps block b c l
    inside block b c l i g = subst (InGaps block b c) (sym all)
        (two-gaps block b c i.front i.x (i.near ++ i.y ∷ i.middle) i.z i.back (λ e. i.differ (sym e)) i.of_x i.of_z
        (count-member block b i.y i.near i.middle i.of_y)
        (inr (subst (λ (z : List ℕ). 0 < count_of block b z) (sym g.is) (count-member block b i.w g.front g.back i.of_w))))
      where
        all : l ≡ i.front ++ i.x ∷ ((i.near ++ i.y ∷ i.middle) ++ i.z ∷ i.back)
        all = i.is ∙ ap (λ (z : List ℕ). i.front ++ i.x ∷ z) (sym (append_assoc i.near (i.y ∷ i.middle) (i.z ∷ i.back)))
